use Rattle.std.proofs.Common.{map}
use Rattle.am_column.proofs.AlikeLemmas.{AreFirsts, AreAlikeSoFar}
use Rattle.am_column.proofs.alike.alike_by.Given as goal

abbrev pub invariant-loop-place : goal.invariant-loop-place
invariant-loop-place l =
    AreFirsts (map (λ value. value.now) l.values) l.firsts × AreAlikeSoFar (map (λ value. value.now) l.values) l.place l.places.items
