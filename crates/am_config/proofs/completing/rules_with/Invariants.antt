use Rattle.std.proofs.Common.{◌≡◌, drop, map, take}
use Rattle.std.specs.Vec.Iter.{into_iter_items}
use Rattle.am_config.specs.Completing.{rule_of}
use Rattle.am_config.specs.Matching.{matchers_in, rule_lists}
use Rattle.am_config.proofs.completing.rules_with.Given as goal

abbrev pub invariant-loop-rule : goal.invariant-loop-rule
invariant-loop-rule l = record {
  so_far : l.read.items ≡ map rule_of (take l.rule-index l.rules);
  rest : into_iter_items l.sides ≡ map matchers_in (rule_lists (drop l.rule-index l.rules));
}
