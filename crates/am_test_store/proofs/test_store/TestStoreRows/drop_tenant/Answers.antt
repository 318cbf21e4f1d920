use Rattle.std.proofs.Common.{◌∙◌, ap, filter, not}
use Rattle.am_tenant.specs.Names.{same}
use Rattle.am_test_store.proofs.PairLemmas.{drops_all}
use Rattle.am_test_store.proofs.test_store.TestStoreRows.drop_tenant.Goals as goal

pub returns-clause-dropped : goal.returns-clause-dropped
returns-clause-dropped c = λ clean.
    drops_all c.args.tenant.now c.args.self.now.pairs.items c.leave_others_of.new.pairs.items
    (c.leave_others_of.ensures ∙ ap (λ ps. filter (λ p. not (same p.0 c.args.tenant.now)) ps.items) c.in_ok-begin.ensures.pairs)
