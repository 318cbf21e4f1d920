use Rattle.std.proofs.Common.{◌∙◌, ap, inl, inr}
use Rattle.std.proofs.lemmas.Result.{err_from_is_err_and}
use Rattle.am_notifier.specs.Forgetting.{forgotten}
use Rattle.am_notifier.specs.Notifies.{notifies_of}
use Rattle.am_replica.specs.Holds.{Holds, holds_of}
use Rattle.am_replica.specs.Retiring.{retired as retired_there}
use Rattle.am_rows.specs.Rows.{stored_in}
use Rattle.am_words.specs.Places.{place_of}
use Rattle.am_node.specs.Held.{local_of}
use Rattle.am_node.specs.Retiring.{retired}
use Rattle.am_node.proofs.Leaving.{rooms_retired}
use Rattle.am_node.proofs.Locals.{rooms}
use Rattle.am_node.proofs.StoredRows.{memory_refused, none_refused, still_rows}
use Rattle.am_node.proofs.parts.Parts.retire.Goals as goal

pub returns-in-Ok-clause-retired : goal.returns-in-Ok-clause-retired
unfolding local_of
returns-in-Ok-clause-retired g c = λ t.
    let r = c.args.self.now in
    rooms _ (retired_there c.args.moment (holds_of t r.replica)) _ (forgotten t c.in_ok-gone.gone.items (notifies_of t r.notifier)) (place_of t r.places)
    (c.in_ok-gone.ensures.holds t) (c.in-Ok.ensures t)
    ∙ rooms_retired c.args.moment t c.in_ok-gone.gone.items (holds_of t r.replica) (notifies_of t r.notifier) (place_of t r.places) (c.in_ok-gone.ensures.gone t)

pub returns-in-Ok-clause-stores : goal.returns-in-Ok-clause-stores
unfolding local_of
returns-in-Ok-clause-stores g c = λ clean stored. c.in_ok-gone.ensures.stores clean stored

pub returns-in-Ok-clause-left : goal.returns-in-Ok-clause-left
unfolding local_of retired
returns-in-Ok-clause-left g c = λ clean stored. record {
  rows = λ still. inr (λ t. c.in_ok-gone.ensures.stores clean stored t ∙ ap (λ (h : Holds). stored_in h.held) (c.in_ok-gone.ensures.holds t));
  cause = λ is. none_refused is;
}

pub returns-in-Err-clause-left : goal.returns-in-Err-clause-left
unfolding local_of retired
returns-in-Err-clause-left g c = λ clean stored. record {
  rows = λ still. inr (λ t. c.in_ok-gone.ensures.stores clean stored t ∙ ap (λ (h : Holds). stored_in h.held) (c.in_ok-gone.ensures.holds t));
  cause = λ is. memory_refused is;
}

pub returns-in_err-gone-clause-left : goal.returns-in_err-gone-clause-left
unfolding local_of
returns-in_err-gone-clause-left g c = λ clean stored.
    let p = err_from_is_err_and c.from_residual.result c.from_residual.ensures.1 in
    rw (p.1, p.2) (record {
      rows = λ still. inl (still_rows (λ t. local_of t c.args.self.now) (g.R.Rows.pairs c.args.store.now) (g.R.Rows.pairs c.retire.new.store) stored (c.in_err-gone.ensures.left clean still));
      cause = λ is. inl (c.in_err-gone.ensures.cause clean is);
    })

pub returns-in_err-gone-clause-fault : goal.returns-in_err-gone-clause-fault
unfolding local_of
returns-in_err-gone-clause-fault g c =
    let p = err_from_is_err_and c.from_residual.result c.from_residual.ensures.1 in
    rw (p.1, p.2) c.in_err-gone.ensures.fault
