use Rattle.std.proofs.Common.{inl, inr}
use Rattle.std.proofs.lemmas.Result.{IfErr-weaker, err_from_is_err_and, on_ok_weaker}
use Rattle.am_node.specs.Held.{local_of}
use Rattle.am_node.proofs.StoredRows.{never_accepting, rows_kept, still_rows, stores_kept, stops_keeping, stops_putting}
use Rattle.am_node.proofs.parts.Parts.commit.Goals as goal

pub returns-clause-stores : goal.returns-clause-stores
returns-clause-stores g c = λ clean stored.
    on_ok_weaker c.accept.result
    (λ makes. stores_kept c.args.tenant.now c.args.moment c.args.items.items c.args.self.now c.accept.new.self (g.R.Rows.pairs c.args.store.now) (g.R.Rows.pairs c.commit.new.store)
    c.requires.planned stored (rw c.deref.ensures.value at (c.in_ok-commit.ensures.put clean)) makes) c.accept.ensures.does

pub returns-clause-left : goal.returns-clause-left
returns-clause-left g c = λ clean stored. record {
  rows = λ still. inr (rows_kept c.args.tenant.now c.args.moment c.args.items.items c.args.self.now (g.R.Rows.pairs c.args.store.now) (g.R.Rows.pairs c.commit.new.store)
      c.requires.planned stored (rw c.deref.ensures.value at (c.in_ok-commit.ensures.put clean)));
  cause = λ is. absurd (never_accepting c.accept.result c.accept.new.cache.refused c.args.items.items (local_of c.args.tenant.now c.args.self.now) c.accept.ensures.fault is);
}

pub returns-in_err-commit-clause-left : goal.returns-in_err-commit-clause-left
returns-in_err-commit-clause-left g c = λ clean stored.
    let p = err_from_is_err_and c.from_residual.result c.from_residual.ensures.1 in
    rw (p.1, p.2) (record {
      rows = λ still. inl (still_rows (λ t. local_of t c.args.self.now) (g.R.Rows.pairs c.args.store.now) (g.R.Rows.pairs c.commit.new.store) stored (c.in_err-commit.ensures.err clean still));
      cause = λ is. rw c.deref.ensures.value at (c.in_err-commit.ensures.cause clean is);
    })

pub returns-clause-fault : goal.returns-clause-fault
returns-clause-fault g c =
    IfErr-weaker c.accept.result _ _
    (λ fault stops. stops_keeping c.accept.new.cache.refused c.args.items.items (local_of c.args.tenant.now c.args.self.now) fault stops)
    c.accept.ensures.fault

pub returns-in_err-commit-clause-fault : goal.returns-in_err-commit-clause-fault
returns-in_err-commit-clause-fault g c =
    let p = err_from_is_err_and c.from_residual.result c.from_residual.ensures.1 in
    rw (p.1, p.2) (stops_putting c.args.cache.now.refused c.args.items.items (local_of c.args.tenant.now c.args.self.now) _ (rw c.deref.ensures.value at c.in_err-commit.ensures.fault))
