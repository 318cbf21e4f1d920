use Rattle.std.proofs.Common.{◌∙◌, refl, take}
use Rattle.std.proofs.lemmas.List.{take_more, take_all}
use Rattle.std.proofs.lemmas.Result.{err_from_is_err_and}
use Rattle.am_replica.specs.Holds.{holds_of}
use Rattle.am_node.proofs.Muteds.{flush_more, found_right, none_flush, none_right, stops_among}
use Rattle.am_node.proofs.muted.Muted.of.Goals as goal

pub loop-timer-init : goal.loop-timer-init
loop-timer-init c = record {
  right = rw c.new-muted.ensures (none_right c.args.moment (λ t. (holds_of t c.args.replica.now).held));
  found = λ t some. absurd (none_flush t some);
  stays = refl;
  asked = record { refused = refl; capacity = refl };
}

pub loop-timer-preserved : goal.loop-timer-preserved
loop-timer-preserved c =
    let known = c.loop-timer.invariant in
    let i = c.loop-timer.timer-index in
    let x = c.timer-item.result in
    let more = take_more c.args.due.now i x c.loop-timer-test.true in
    record {
      right = rw known.stays at c.in_ok-add.ensures.right;
      found = rw (more, ← c.timer-item.is) (flush_more c.loop-timer.muted c.add.new.self (take i c.args.due.now) x known.found c.in_ok-add.ensures.kept c.in_ok-add.ensures.found);
      stays = c.add.ensures.stays ∙ known.stays;
      asked = record { refused = c.in_ok-add.ensures.asked.refused ∙ known.asked.refused; capacity = c.in_ok-add.ensures.asked.capacity ∙ known.asked.capacity };
    }

pub returns-clause-right : goal.returns-clause-right
returns-clause-right c = λ t some.
    found_right c.args.moment (λ s. (holds_of s c.args.replica.now).held) c.loop-timer.muted t c.loop-timer.invariant.right
    (c.loop-timer.invariant.found t (rw (take_all c.loop-timer.timer-index c.args.due.now c.loop-timer-test.false) some))

pub returns-in_err-add-clause-fault : goal.returns-in_err-add-clause-fault
returns-in_err-add-clause-fault c =
    let p = err_from_is_err_and c.from_residual.result c.from_residual.ensures.1 in
    rw (p.1, p.2) (stops_among _ c.args.moment c.args.due.now c.loop-timer.timer-index c.timer-item.result (λ t. (holds_of t c.args.replica.now).held) _
    c.loop-timer-test.true c.timer-item.is (rw c.loop-timer.invariant.stays at c.in_err-add.ensures.fault))
