use Rattle.std.proofs.Common.{map}
use Rattle.am_inhibit.proofs.ClassLemmas.{AreHeld}
use Rattle.am_inhibit.proofs.classes.classes_of.Given as goal

abbrev pub invariant-loop-place : goal.invariant-loop-place
invariant-loop-place l = AreHeld l.names (map (λ set. set.now) l.sets) l.flags l.place l.numbers (map (λ list. list.items) l.lists.items)
