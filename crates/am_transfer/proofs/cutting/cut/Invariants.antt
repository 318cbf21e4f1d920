use Rattle.am_transfer.proofs.Cuts.{IsCutTo}
use Rattle.am_transfer.proofs.cutting.cut.Given as goal

abbrev pub invariant-loop-place : goal.invariant-loop-place
invariant-loop-place l = IsCutTo l.held l.place l.pieces.items l.start l.bytes
