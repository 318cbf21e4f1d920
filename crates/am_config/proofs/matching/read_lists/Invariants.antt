use Rattle.std.proofs.Common.{◌≡◌, true, take, map, All}
use Rattle.std.specs.List.{flat_map, list_all}
use Rattle.am_pattern.specs.Asking.{Stays}
use Rattle.am_pattern.specs.Kept.{HasRegex}
use Rattle.am_config.specs.Matching.{matchers_in, patterns_of_texts, reads_matchers}
use Rattle.am_config.proofs.matching.read_lists.Given as goal

abbrev pub invariant-loop-list : goal.invariant-loop-list
invariant-loop-list l = record {
  so_far : l.read.items ≡ map (λ list. matchers_in list.now) (take l.list-index l.lists);
  reads : list_all reads_matchers (flat_map (λ list. list.now) (take l.list-index l.lists)) ≡ true;
  built : All HasRegex (patterns_of_texts (flat_map (λ list. list.now) (take l.list-index l.lists)));
  stays : Stays l.initial.cache l.cache;
}
