use Rattle.std.proofs.Common.{ℕ, List, refl, ap, sym, subst, inr, ◌∙◌}
use Rattle.std.proofs.lemmas.Result.{IfErr-weaker, IfOk-weaker, err_from_is_err_and}
use Rattle.am_node.specs.Held.{local_of}
use Rattle.am_node.specs.Plans.{IsPlanned}
use Rattle.am_node.specs.Ticks.{context_for}
use Rattle.am_node.proofs.Kept.{retired_keeps}
use Rattle.am_node.proofs.Ticks.{all_tick, stops_retiring, stops_tick}
use Rattle.am_rows.specs.Rows.{stored_in}
use Rattle.am_node.specs.Local.{Local}
use Rattle.am_node.proofs.StoredRows.{never_doing}
use Rattle.am_node.proofs.StoredTicks.{ok_from, stores_done}
use Rattle.am_node.proofs.parts.Parts.tick.Goals as goal

pub do_due-requires : goal.do_due-requires
do_due-requires g c = record {
  planned = λ t. subst IsPlanned (sym (c.in_ok-retire.ensures.retired t)) (retired_keeps c.args.moment (local_of t c.args.self.now) (c.requires.planned t));
}

pub returns-clause-ticks : goal.returns-clause-ticks
returns-clause-ticks g c =
    let context = context_for c.args.start.instance c.args.start.incarnation c.args.moment c.args.limits.now in
    IfOk-weaker c.do_due.result _ _
    (λ all done. all_tick context (λ t. local_of t c.args.self.now) (λ t. local_of t c.retire.new.self) _ all.items c.in_ok-retire.ensures.retired done)
    c.do_due.ensures.done

pub returns-clause-fault : goal.returns-clause-fault
returns-clause-fault g c =
    let context = context_for c.args.start.instance c.args.start.incarnation c.args.moment c.args.limits.now in
    IfErr-weaker c.do_due.result _ _
    (λ fault stops. stops_tick context (λ t. local_of t c.args.self.now) (λ t. local_of t c.retire.new.self) c.do_due.new.cache.refused c.in_ok-retire.ensures.retired fault stops)
    c.do_due.ensures.fault

pub returns-clause-stores : goal.returns-clause-stores
returns-clause-stores g c = λ clean stored.
    let context = context_for c.args.start.instance c.args.start.incarnation c.args.moment c.args.limits.now in
    let mid = c.retire.new.self in
    let planned : (t : List ℕ) → IsPlanned (local_of t mid) = λ t. subst IsPlanned (sym (c.in_ok-retire.ensures.retired t)) (retired_keeps c.args.moment (local_of t c.args.self.now) (c.requires.planned t)) in
    ok_from c.do_due.result _ _ (λ all done. stores_done context mid c.do_due.new.self all.items (g.R.Rows.pairs c.retire.new.store) planned done (c.in_ok-retire.ensures.stores clean stored)) c.do_due.ensures.done

pub returns-clause-left : goal.returns-clause-left
returns-clause-left g c = λ clean stored. record {
  rows = λ still. inr (λ t. c.in_ok-retire.ensures.stores clean stored t ∙ ap (λ (l : Local). stored_in l.held) (c.in_ok-retire.ensures.retired t));
  cause = λ is. absurd (never_doing c.do_due.result (context_for c.args.start.instance c.args.start.incarnation c.args.moment c.args.limits.now) (λ t. local_of t c.retire.new.self) c.do_due.new.cache.refused c.do_due.ensures.fault is);
}

pub returns-in_err-retire-clause-left : goal.returns-in_err-retire-clause-left
returns-in_err-retire-clause-left g c = λ clean stored.
    let p = err_from_is_err_and c.from_residual.result c.from_residual.ensures.1 in
    rw (p.1, p.2) (c.in_err-retire.ensures.left clean stored)

pub returns-in_err-retire-clause-fault : goal.returns-in_err-retire-clause-fault
returns-in_err-retire-clause-fault g c =
    let p = err_from_is_err_and c.from_residual.result c.from_residual.ensures.1 in
    let context = context_for c.args.start.instance c.args.start.incarnation c.args.moment c.args.limits.now in
    rw (p.1, p.2) (stops_retiring context c.args.moment (λ t. local_of t c.args.self.now) c.args.cache.now.refused (λ t. refl) _ c.in_err-retire.ensures.fault)
