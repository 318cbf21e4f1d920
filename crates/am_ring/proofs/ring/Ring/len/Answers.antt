use Rattle.std.proofs.Common.{ap, length, ◌∙◌}
use Rattle.am_ring.proofs.Flags.{count_flags}
use Rattle.am_ring.proofs.ring.Ring.len.Goals as goal

pub returns : goal.returns
returns c = c.count.ensures ∙ count_flags c.self.inside.members c.self.invariant ∙ ap (λ m. length m.instances) c.self.view_is
