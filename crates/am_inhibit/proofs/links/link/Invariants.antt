use Rattle.std.proofs.Common.{map}
use Rattle.am_inhibit.specs.Links.{lists_of}
use Rattle.am_inhibit.proofs.LinkLemmas.{AreExtended}
use Rattle.am_inhibit.proofs.links.link.Given as goal

abbrev pub invariant-loop-place : goal.invariant-loop-place
invariant-loop-place l = AreExtended l.names (map (λ set. set.now) l.sets) l.sources l.targets l.place (lists_of l.fn.links.items) (lists_of l.links.items)
