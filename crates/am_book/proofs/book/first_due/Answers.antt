use Rattle.std.proofs.Common.{false, nat_le, rules, ◌≡◌}
use Rattle.std.proofs.lemmas.Bool.{false≢true}
use Rattle.am_book.proofs.RowLemmas.{no_row, not_due}
use Rattle.am_book.proofs.book.first_due.Goals as goal

pub returns-in-None-clause-none : goal.returns-in-None-clause-none
returns-in-None-clause-none c = λ row h. absurd (no_row c.args.rows.now (λ some. false≢true (c.in-None.ensures.variant.1 some)) row h)

pub returns-else-le-clause-none : goal.returns-else-le-clause-none
returns-else-le-clause-none c =
    let late : nat_le c.in-Some.first.now.retires_at c.args.moment ≡ false = search rules in
    λ row h. not_due c.in-Some.first.now row c.args.moment (c.in-Some.ensures.least row h) late
