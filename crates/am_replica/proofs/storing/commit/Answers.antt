use Rattle.std.proofs.Common.{◌∙◌, sym}
use Rattle.am_replica.proofs.Rows.{no_puts}
use Rattle.am_replica.proofs.storing.commit.Goals as goal

pub returns-then-not-has_stored-clause-put : goal.returns-then-not-has_stored-clause-put
returns-then-not-has_stored-clause-put g c = λ clean.
    no_puts c.args.tenant.now c.args.items.now (g.R.Rows.pairs c.args.store.now) (sym c.has_stored.ensures ∙ c.if-not-has_stored.true)
