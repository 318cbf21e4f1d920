use Rattle.std.proofs.Common.{◌+◌, ◌≤◌, length, take, length-take, arith}
use Rattle.am_serve.proofs.Calling.{from_ok, gathered, settled}
use Rattle.am_serve.proofs.call.gather.Goals as goal

pub returns-clause-line : goal.returns-clause-line
returns-clause-line c =
    let line = c.args.line.now.items in
    let piece = c.args.piece.now in
    let fits : length line + length (take c.min-wanted.result piece) ≤ 13 = simp length-take (omega (arith, c.remaining_capacity.ensures, c.min-wanted.ensures)) in
    gathered line _ piece c.remaining_capacity.result c.min-wanted.result c.remaining_capacity.ensures c.min-wanted.ensures
    (from_ok _ c.try_extend_from_slice.result (c.try_extend_from_slice.ensures.variant.1 fits) c.try_extend_from_slice.ensures.ok)

pub returns-clause-ends : goal.returns-clause-ends
returns-clause-ends c =
    settled _ _ c.read_status.result c.as_slice.ensures.value (omega (arith, c.if-len-lt-STATUS_BYTES.false, c.len.ensures.value, c.len.ensures.fits)) c.read_status.ensures.some c.read_status.ensures.none
