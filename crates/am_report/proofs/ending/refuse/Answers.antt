use Rattle.std.proofs.Common.{[], ◌∷◌, codes, refl}
use Rattle.am_stream.proofs.WritingLemmas.{in_first, in_second, in_third, on_err}
use Rattle.am_report.proofs.ending.refuse.Goals as goal

pub returns-in_err-write_whole-clause-err : goal.returns-in_err-write_whole-clause-err
returns-in_err-write_whole-clause-err g c = on_err _ (in_first _ _ (codes "amring: ") c.args.text.now
    (10 ∷ []) _ refl c.in_err-write_whole.ensures.err)

pub returns-in_err-write_whole-2-clause-err : goal.returns-in_err-write_whole-2-clause-err
returns-in_err-write_whole-2-clause-err g c =
    on_err _ (in_second _ _ _ (codes "amring: ") c.args.text.now (10 ∷ []) _ refl c.in_ok-write_whole.ensures.ok
    (rw c.as_bytes.ensures.value at c.in_err-write_whole-2.ensures.err))

pub returns-in_err-write_whole-3-clause-err : goal.returns-in_err-write_whole-3-clause-err
returns-in_err-write_whole-3-clause-err g c =
    on_err _ (in_third _ _ _ _ (codes "amring: ") c.args.text.now (10 ∷ []) _ refl c.in_ok-write_whole.ensures.ok
    (rw c.as_bytes.ensures.value at c.in_ok-write_whole-2.ensures.ok) c.in_err-write_whole-3.ensures.err)
