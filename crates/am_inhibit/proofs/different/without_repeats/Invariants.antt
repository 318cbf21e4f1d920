use Rattle.std.proofs.Common.{map, take}
use Rattle.am_inhibit.specs.Inhibits.{AreWithoutRepeats}
use Rattle.am_inhibit.proofs.different.without_repeats.Given as goal

abbrev pub invariant-loop-rule : goal.invariant-loop-rule
invariant-loop-rule l = AreWithoutRepeats (map (λ rule. rule.now) (take l.rule-index l.rules)) (map (λ rule. rule.now) l.different.items)
