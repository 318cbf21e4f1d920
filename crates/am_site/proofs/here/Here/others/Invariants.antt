use Rattle.std.proofs.Common.{◌≡◌, ◌==◌, filter, not, take}
use Rattle.am_site.proofs.here.Here.others.Given as goal

abbrev pub invariant-loop-instance : goal.invariant-loop-instance
invariant-loop-instance l = l.others.items ≡ filter (λ i. not (i == l.self.instance)) (take l.instance-index l.self.three.now)
