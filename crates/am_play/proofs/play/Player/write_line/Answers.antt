use Rattle.std.proofs.Common.{inl, inr}
use Rattle.std.proofs.KnownBytes.{Keeps-refl}
use Rattle.am_stream.proofs.WritingLemmas.{on_err}
use Rattle.am_play.proofs.play.Player.write_line.Goals as goal

pub returns-in_err-lines-clause-breaks : goal.returns-in_err-lines-clause-breaks
returns-in_err-lines-clause-breaks g c = on_err _ (inl (Keeps-refl _))

pub returns-in_err-tell-clause-breaks : goal.returns-in_err-tell-clause-breaks
returns-in_err-tell-clause-breaks g c = on_err _ (inl (Keeps-refl _))

pub returns-in_err-write_whole-clause-breaks : goal.returns-in_err-write_whole-clause-breaks
returns-in_err-write_whole-clause-breaks g c =
    let played = c.in_ok-lines.ensures in
    on_err _ (inr (played.0, played.2, rw (c.as_bytes.ensures.value, played.1) at c.in_err-write_whole.ensures.err))

pub returns-clause-plays : goal.returns-clause-plays
returns-clause-plays g c =
    let played = c.in_ok-lines.ensures in
    (played.0, played.2, rw (c.as_bytes.ensures.value, played.1) at c.in_ok-write_whole.ensures.ok)
