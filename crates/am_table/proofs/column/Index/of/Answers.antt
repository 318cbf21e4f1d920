use Rattle.std.proofs.Common.{arith, subst}
use Rattle.am_column.specs.Places.{AreLists}
use Rattle.am_table.proofs.ColumnLemmas.{behind_first}
use Rattle.am_table.proofs.column.Index.of.Goals as goal

pub returns : goal.returns
returns c = record {
  alike = c.in_ok-alike.ensures;
  places =
      subst (λ vs. AreLists c.args.places.now vs c.in_ok-places.places) (behind_first c.args.values.now (omega (arith, c.requires)))
      c.in_ok-places.ensures;
}
