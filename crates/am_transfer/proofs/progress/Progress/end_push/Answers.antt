use Rattle.std.proofs.Common.{refl}
use Rattle.am_transfer.proofs.Maps.{number_removed}
use Rattle.am_transfer.proofs.progress.Progress.end_push.Goals as goal

pub returns : goal.returns
returns c = rw (c.remove.ensures.entries, number_removed c.args.to c.self.inside.pushes.entries c.self.invariant.2, ← c.self.view_is) refl
