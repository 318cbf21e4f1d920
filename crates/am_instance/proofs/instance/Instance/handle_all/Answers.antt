use Rattle.std.proofs.Common.{◌≡◌, ◌∙◌, suc, ◌∷◌, ◌++◌, drop, refl, sym, subst, take}
use Rattle.std.proofs.Math.Seq.{split_at}
use Rattle.std.proofs.lemmas.List.{take_more}
use Rattle.std.proofs.lemmas.Result.{err_from_is_err_and}
use Rattle.am_instance.specs.Ticks.{StopsHandling}
use Rattle.am_instance.proofs.Turns.{none_handled, one_handled, one_stops, reads_same, reads_then}
use Rattle.am_instance.proofs.instance.Instance.handle_all.Goals as goal
use Rattle.am_instance.specs.Here.{circumstances}

pub loop-timer-init : goal.loop-timer-init
loop-timer-init c = record {
  handles =
      none_handled (circumstances c.args.occasion.now) c.args.muted.now c.args.self.now c.new-told.result.items
      c.new-told.ensures.items;
  reads = reads_same c.args.self.now;
  refused = refl;
  whole = c.requires;
  stored = λ t. refl;
}

pub handle-requires : goal.handle-requires
handle-requires c = c.loop-timer.invariant.whole

pub returns-in_err-handle-clause-fault : goal.returns-in_err-handle-clause-fault
returns-in_err-handle-clause-fault c =
    let x = c.timer-item.result in
    let i = c.loop-timer.timer-index in
    let so_far = c.loop-timer.invariant in
    let fault = c.in_err-handle.field-0.0 in
    let p = err_from_is_err_and c.from_residual.result c.from_residual.ensures.1 in
    let whole : c.args.due.now ≡ take i c.args.due.now ++ x ∷ drop (suc i) c.args.due.now =
    rw (← c.timer-item.is) at (split_at c.args.due.now i x c.loop-timer-test.true) in
    rw (p.1, p.2)
    (subst (λ due. StopsHandling (circumstances c.args.occasion.now) c.args.muted.now due c.args.self.now fault) (sym whole)
    (one_stops (circumstances c.args.occasion.now) c.args.muted.now c.args.self.now c.loop-timer.self so_far.reads
    (take i c.args.due.now) x c.loop-timer.told.items (drop (suc i) c.args.due.now) fault so_far.handles
    c.in_err-handle.ensures.fault))

pub loop-timer-preserved : goal.loop-timer-preserved
loop-timer-preserved c =
    let x = c.timer-item.result in
    let i = c.loop-timer.timer-index in
    let so_far = c.loop-timer.invariant in
    rw (take_more c.args.due.now i x c.loop-timer-test.true, ← c.timer-item.is)
    (record {
      handles =
          one_handled (circumstances c.args.occasion.now) c.args.muted.now c.args.self.now c.loop-timer.self so_far.reads
          (take i c.args.due.now) x c.loop-timer.told.items c.handle.new.self c.handle.new.outputs.items so_far.handles
          c.in_ok-handle.ensures.reacts;
      reads = reads_then c.args.self.now c.loop-timer.self c.handle.new.self so_far.reads c.handle.ensures.stays;
      refused = c.handle.ensures.refused ∙ so_far.refused;
      whole = c.in_ok-handle.ensures.whole;
      stored = λ t. c.in_ok-handle.ensures.stored t ∙ so_far.stored t;
    })
