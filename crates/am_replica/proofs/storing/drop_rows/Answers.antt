use Rattle.std.proofs.Common.{◌≡◌, ◌∙◌, [], arith, ap, sym}
use Rattle.std.proofs.lemmas.Bool.Decides.{nat_tests}
use Rattle.std.proofs.lemmas.List.{nil_from_length}
use Rattle.am_rows.specs.Rows.{rows_of, without_silences}
use Rattle.am_rows.proofs.Dropping.{none_gone}
use Rattle.am_replica.proofs.storing.drop_rows.Goals as goal

pub returns-then-is_empty-clause-dropped : goal.returns-then-is_empty-clause-dropped
returns-then-is_empty-clause-dropped g c = λ clean t.
    let tells = c.is_empty.ensures in
    let passes = c.if-is_empty.true in
    let empty : c.args.silences.now ≡ [] = nil_from_length c.args.silences.now (grind (arith, nat_tests)) in
    sym (ap (λ ss. without_silences ss t (rows_of t (g.R.Rows.pairs c.args.store.now))) empty ∙ none_gone t (rows_of t (g.R.Rows.pairs c.args.store.now)))
