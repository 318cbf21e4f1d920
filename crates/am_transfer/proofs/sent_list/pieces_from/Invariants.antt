use Rattle.std.proofs.Common.{◌≡◌, take}
use Rattle.am_transfer.specs.Pieces.{pieces_from}
use Rattle.am_transfer.proofs.sent_list.pieces_from.Given as goal

abbrev pub invariant-loop-piece : goal.invariant-loop-piece
invariant-loop-piece l = l.left.items ≡ pieces_from l.place (take l.piece-index l.pieces)
