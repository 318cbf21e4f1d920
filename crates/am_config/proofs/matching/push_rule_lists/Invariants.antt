use Rattle.std.proofs.Common.{◌≡◌, ◌++◌, map, take}
use Rattle.am_config.specs.Matching.{rule_lists}
use Rattle.am_config.proofs.matching.push_rule_lists.Given as goal

abbrev pub invariant-loop-rule : goal.invariant-loop-rule
invariant-loop-rule l =
    map (λ list. list.now) l.lists.items ≡ map (λ list. list.now) l.initial.lists.items ++ rule_lists (take l.rule-index l.rules)
