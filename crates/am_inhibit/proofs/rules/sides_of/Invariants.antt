use Rattle.std.proofs.Common.{◌≡◌, map, take}
use Rattle.am_inhibit.specs.Sides.{sides_in}
use Rattle.am_inhibit.proofs.rules.sides_of.Given as goal

abbrev pub invariant-loop-rule : goal.invariant-loop-rule
invariant-loop-rule l = map (λ list. list.now) l.lists.items ≡ sides_in (take l.rule-index (map (λ rule. rule.now) l.rules))
