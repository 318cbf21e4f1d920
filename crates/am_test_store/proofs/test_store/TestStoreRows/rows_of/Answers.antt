use Rattle.std.proofs.Common.{◌∙◌, ap, sym}
use Rattle.am_rows.specs.Rows.{stored_in}
use Rattle.am_rows.proofs.Following.{rows_stored}
use Rattle.am_test_store.proofs.test_store.TestStoreRows.rows_of.Goals as goal

pub returns-clause-stored : goal.returns-clause-stored
returns-clause-stored c =
    ap stored_in c.in_ok-rows.ensures ∙ rows_stored c.args.tenant.now c.deref.result.now ∙ sym c.in_ok-rows.ensures
