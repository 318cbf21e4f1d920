use Rattle.std.proofs.Common.{◌≡◌, true, take, All}
use Rattle.std.specs.List.{list_all}
use Rattle.am_pattern.specs.Asking.{Stays}
use Rattle.am_pattern.specs.Kept.{HasRegex}
use Rattle.am_config.specs.Matching.{matchers_in, patterns_of_texts, reads_matchers}
use Rattle.am_config.proofs.matching.read_list.Given as goal

abbrev pub invariant-loop-text : goal.invariant-loop-text
invariant-loop-text l = record {
  so_far : l.matchers.items ≡ matchers_in (take l.text-index l.texts);
  reads : list_all reads_matchers (take l.text-index l.texts) ≡ true;
  built : All HasRegex (patterns_of_texts (take l.text-index l.texts));
  stays : Stays l.initial.cache l.cache;
}
