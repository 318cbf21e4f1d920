use Rattle.std.proofs.Common.{◌≡◌, map, take}
use Rattle.am_inhibit.proofs.different.different_rules.Given as goal

abbrev pub invariant-loop-rule : goal.invariant-loop-rule
invariant-loop-rule l = map (λ rule. rule.now) l.sorted.items ≡ take l.rule-index l.rules
