use Rattle.std.proofs.Common.{[], ◌∷◌, ◌++◌, ap, codes, decimal}
use Rattle.am_report.specs.Ending.{told}
use Rattle.am_stream.proofs.WritingLemmas.{after_third, in_first, in_second, in_third, on_err}
use Rattle.am_report.proofs.ending.tell.Goals as goal

pub returns-in_err-write_whole-in-BadLine-clause-err : goal.returns-in_err-write_whole-in-BadLine-clause-err
returns-in_err-write_whole-in-BadLine-clause-err g c =
    on_err _ (in_first _ _ (codes "line ") (decimal c.in-BadLine.number) (codes ": not a command" ++ 10 ∷ []) _
    (ap told c.in-BadLine.is) c.in_err-write_whole-in-BadLine.ensures.err)

pub returns-in_err-write_whole-in-BadLine-2-clause-err : goal.returns-in_err-write_whole-in-BadLine-2-clause-err
returns-in_err-write_whole-in-BadLine-2-clause-err g c =
    on_err _ (in_second _ _ _ (codes "line ") (decimal c.in-BadLine.number) (codes ": not a command" ++ 10 ∷ []) _
    (ap told c.in-BadLine.is) c.in_ok-write_whole-in-BadLine.ensures.ok
    (rw (c.as_bytes.ensures.value, c.format.ensures.text) at c.in_err-write_whole-in-BadLine-2.ensures.err))

pub returns-in_err-write_whole-in-BadLine-3-clause-err : goal.returns-in_err-write_whole-in-BadLine-3-clause-err
returns-in_err-write_whole-in-BadLine-3-clause-err g c =
    on_err _ (in_third _ _ _ _ (codes "line ") (decimal c.in-BadLine.number) (codes ": not a command" ++ 10 ∷ []) _
    (ap told c.in-BadLine.is) c.in_ok-write_whole-in-BadLine.ensures.ok
    (rw (c.as_bytes.ensures.value, c.format.ensures.text) at c.in_ok-write_whole-in-BadLine-2.ensures.ok)
    c.in_err-write_whole-in-BadLine-3.ensures.err)

pub returns-in_ok-write_whole-in-BadLine-3-clause-told : goal.returns-in_ok-write_whole-in-BadLine-3-clause-told
returns-in_ok-write_whole-in-BadLine-3-clause-told g c =
    after_third _ _ _ _ (codes "line ") (decimal c.in-BadLine.number) (codes ": not a command" ++ 10 ∷ []) _
    (ap told c.in-BadLine.is) c.in_ok-write_whole-in-BadLine.ensures.ok
    (rw (c.as_bytes.ensures.value, c.format.ensures.text) at c.in_ok-write_whole-in-BadLine-2.ensures.ok)
    c.in_ok-write_whole-in-BadLine-3.ensures.ok
