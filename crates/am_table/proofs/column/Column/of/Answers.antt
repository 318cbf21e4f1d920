use Rattle.std.proofs.Common.{◌≡◌, ◌∙◌, Some, subst, sym}
use Rattle.am_table.specs.Columns.{IsIndexOf}
use Rattle.am_table.specs.declared.column.Index.{Index}
use Rattle.am_table.proofs.ColumnLemmas.{found_shown, found_whole}
use Rattle.am_table.proofs.column.Column.of.Goals.{then-is_asked_often+in_ok-of, else-is_asked_often}
use Rattle.am_table.proofs.column.Column.of.Goals as goal

pub unreachable-requires : goal.unreachable-requires
unreachable-requires c = rw (← c.in_default.ensures.value) at c.requires

pub of-requires : goal.of-requires
of-requires c =
    found_whole _ c.in-Some.holders.now c.as_slice-places.result.now c.as_slice-values.result.now c.in-Some.ensures.value c.requires c.as_slice-places.ensures.value
    c.as_slice-values.ensures.value

pub returns-clause-holders : goal.returns-clause-holders
returns-clause-holders c =
    found_shown _ c.in-Some.holders.now c.as_slice-places.result.now c.as_slice-values.result.now c.in-Some.ensures.value c.as_slice-places.ensures.value
    c.as_slice-values.ensures.value

pub returns-clause-indexed : goal.returns-clause-indexed
returns-clause-indexed c = λ index is.
    elim c.if-is_asked_often.branch [
      | then-is_asked_often+in_ok-of w ↦ (
          let both : Some w.in_ok-of.field-0 ≡ Some index = sym w.index-is ∙ is in
          let made : w.in_ok-of.field-0 ≡ index = cc in
          subst (λ (i : Index). IsIndexOf c.as_slice-places.result.now _ i) made w.in_ok-of.ensures
          )
      | else-is_asked_often w ↦ (
          let both = sym w.index-is ∙ is in
          absurd (cc)
          )
    ]
