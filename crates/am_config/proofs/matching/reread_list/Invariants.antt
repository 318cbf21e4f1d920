use Rattle.std.proofs.Common.{◌≡◌, true, take}
use Rattle.std.specs.List.{list_all}
use Rattle.am_config.specs.Matching.{matchers_in, reads_matchers}
use Rattle.am_config.proofs.matching.reread_list.Given as goal

abbrev pub invariant-loop-text : goal.invariant-loop-text
invariant-loop-text l = record {
  so_far : l.matchers.items ≡ matchers_in (take l.text-index l.texts);
  reads : list_all reads_matchers (take l.text-index l.texts) ≡ true;
}
