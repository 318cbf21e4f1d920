use Rattle.std.proofs.Common.{◌≡◌, ◌∙◌, suc, ◌∷◌, ◌++◌, [], ap, drop, sym, subst, take, if◌then◌else◌}
use Rattle.std.proofs.Math.Seq.{split_at}
use Rattle.std.proofs.lemmas.List.{take_more}
use Rattle.std.proofs.lemmas.Result.{err_from_is_err_and}
use Rattle.am_tenant.specs.Names.{same}
use Rattle.am_node.specs.Held.{local_of}
use Rattle.am_node.specs.Plans.{IsPlanned}
use Rattle.am_node.specs.Ticks.{StopsHandling, context_for, said_of}
use Rattle.am_node.proofs.Ticks.{done_keeps, next_done, none_done, said_none, stops_one}
use Rattle.am_node.proofs.parts.Parts.handle_all.Goals as goal

pub loop-timer-init : goal.loop-timer-init
loop-timer-init c = λ t.
    rw (c.new-all.ensures.items, said_none t) (none_done (context_for c.args.start.instance c.args.start.incarnation c.args.moment c.args.limits.now) c.args.muted.now t (local_of t c.args.self.now))

pub handle-requires : goal.handle-requires
handle-requires c =
    let context = context_for c.args.start.instance c.args.start.incarnation c.args.moment c.args.limits.now in
    let t = c.timer-item.result.name.tenant in
    record {
      planned = subst IsPlanned (sym (c.loop-timer.invariant t).local)
          (done_keeps context c.args.muted.now t (take c.loop-timer.timer-index c.args.due.now) (local_of t c.args.self.now) (c.requires.planned t));
    }

pub returns-in_err-reports-clause-fault : goal.returns-in_err-reports-clause-fault
returns-in_err-reports-clause-fault c =
    let context = context_for c.args.start.instance c.args.start.incarnation c.args.moment c.args.limits.now in
    let x = c.timer-item.result in
    let i = c.loop-timer.timer-index in
    let p = err_from_is_err_and c.from_residual.result c.from_residual.ensures.1 in
    let whole : c.args.due.now ≡ take i c.args.due.now ++ x ∷ drop (suc i) c.args.due.now = rw (← c.timer-item.is) at (split_at c.args.due.now i x c.loop-timer-test.true) in
    rw (p.1, p.2)
    (subst (λ due. StopsHandling context c.args.muted.now due (λ t. local_of t c.args.self.now) c.in_err-reports.field-0.0) (sym whole)
    (stops_one context c.args.muted.now (take i c.args.due.now) x (drop (suc i) c.args.due.now) (λ t. local_of t c.args.self.now) (local_of x.name.tenant c.loop-timer.self)
    (c.loop-timer.invariant x.name.tenant).local c.in_err-reports.field-0.0 (rw c.of.ensures at c.in_err-reports.ensures.fault)))

pub loop-timer-preserved : goal.loop-timer-preserved
loop-timer-preserved c =
    let context = context_for c.args.start.instance c.args.start.incarnation c.args.moment c.args.limits.now in
    let x = c.timer-item.result in
    let i = c.loop-timer.timer-index in
    let told = rw c.of.ensures at c.in_ok-reports.ensures.said in
    rw (take_more c.args.due.now i x c.loop-timer-test.true, ← c.timer-item.is)
    (next_done context c.args.muted.now (take i c.args.due.now) x (λ t. local_of t c.args.self.now) (λ t. local_of t c.loop-timer.self) (λ t. local_of t c.handle.new.self)
    (λ t. said_of t c.loop-timer.all.items) (λ t. said_of t c.add_all.new.all.items) c.loop-timer.invariant (
      rw c.of.ensures at c.in_ok-reports.ensures.does,
      λ t. c.in_ok-add_all.ensures t ∙ ap (λ words. said_of t c.loop-timer.all.items ++ (if same t x.name.tenant then words else [])) told,
      rw c.of.ensures at c.in_ok-reports.ensures.fits,
    ))
