use Rattle.std.proofs.Common.{arith}
use Rattle.am_text.proofs.DurationLemmas.{number_more}
use Rattle.am_text.proofs.duration.read_number.Goals as goal

pub loop-byte-preserved : goal.loop-byte-preserved
loop-byte-preserved c =
    let more = number_more c.args.digits.now c.loop-byte.byte-index c.loop-byte.number c.requires c.loop-byte-test.true c.loop-byte.invariant in
    omega arith
