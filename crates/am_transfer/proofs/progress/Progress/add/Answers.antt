use Rattle.std.proofs.Common.{refl}
use Rattle.am_transfer.proofs.progress.Progress.add.Goals as goal

pub returns-clause-settling : goal.returns-clause-settling
returns-clause-settling c = rw (c.in_ok-behind.ensures.came, ← c.self.view_is) refl

pub returns-clause-place : goal.returns-clause-place
returns-clause-place c = rw (← c.self.view_is) c.in_ok-behind.ensures.place
