use Rattle.std.proofs.Common.{◌≡◌, Bool, true, false, not, refl, sym, ap, ◌∙◌}
use Rattle.am_book.specs.Row.{has_row}
use Rattle.am_book.proofs.RowLemmas.{row_of_standing}
use Rattle.am_book.proofs.book.remember.Goals as goal

not_twice : (b : Bool) → b ≡ not (not b)
not_twice true = refl
not_twice false = refl

pub returns-clause-added : goal.returns-clause-added
returns-clause-added c = λ row h.
    ap (has_row c.args.rows.now) (row_of_standing c.args.tenant.now c.args.key c.args.standing.now c.in-Some.retires_at c.in-Some.is row h)
    ∙ not_twice _ ∙ ap not (sym c.in_ok-insert.ensures.added)
