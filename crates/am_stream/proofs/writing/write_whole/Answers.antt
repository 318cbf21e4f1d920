use Rattle.std.proofs.Common.{[], refl, sym}
use Rattle.std.proofs.KnownBytes.{Keeps-refl}
use Rattle.am_stream.proofs.WritingLemmas.{goes_on, none_left, none_written, on_err, stops}
use Rattle.am_stream.proofs.writing.write_whole.Goals as goal

pub loop-init : goal.loop-init
loop-init g c = ([], refl, none_written _ _ (Keeps-refl _))

pub returns-then-is_empty-clause-ok : goal.returns-then-is_empty-clause-ok
returns-then-is_empty-clause-ok g c = none_left _ _ _ _ _ c.loop.invariant.1
    (sym c.if-is_empty.ensures) c.loop.invariant.2

pub returns-in_err-count-clause-err : goal.returns-in_err-count-clause-err
returns-in_err-count-clause-err g c = on_err _
    (stops _ _ _ _ _ _ c.loop.invariant.1 c.loop.invariant.2 c.in_err-count.ensures.err)

pub loop-preserved : goal.loop-preserved
loop-preserved g c = goes_on _ _ _ _ _ _ _ c.loop.invariant.1 c.loop.invariant.2 c.in_ok-count.ensures.ok

pub returns-clause-err : goal.returns-clause-err
returns-clause-err g c = stops _ _ _ _ _ _ c.loop.invariant.1 c.loop.invariant.2 (Keeps-refl _)
