use Rattle.std.proofs.lemmas.Result.{err_from_is_err_and}
use Rattle.am_pattern.proofs.AskingLemmas.{stays-trans}
use Rattle.am_muting.proofs.Failures.{adds_behind}
use Rattle.am_group_list.proofs.Steps.{route_more}
use Rattle.am_group_list.proofs.listing.asked_routes.Goals as goal

pub returns-in_err-is_asked-clause-failure : goal.returns-in_err-is_asked-clause-failure
returns-in_err-is_asked-clause-failure c =
    let p = err_from_is_err_and c.from_residual-in_err-is_asked.result c.from_residual-in_err-is_asked.ensures.1 in
    λ stored. rw (p.1, p.2) (c.in_err-is_asked.ensures.failure stored)

pub returns-in_err-is_asked-clause-adds : goal.returns-in_err-is_asked-clause-adds
returns-in_err-is_asked-clause-adds c =
    rw (err_from_is_err_and c.from_residual-in_err-is_asked.result c.from_residual-in_err-is_asked.ensures.1).1
    (adds_behind _ _ _ _ c.loop-number.invariant.stays c.in_err-is_asked.ensures.adds)

pub loop-number-preserved : goal.loop-number-preserved
loop-number-preserved c = record {
  so_far =
      route_more c.args.config.now c.args.receiver.now c.loop-number.number c.receiver_of.result.now c.loop-number.asked.items _ c.in_ok-is_asked.field-0
      c.receiver_of.ensures c.in_ok-is_asked.ensures.asked_for c.loop-number.invariant.so_far c.in_ok-push.ensures.items;
  stays = stays-trans _ _ _ c.loop-number.invariant.stays c.in_ok-is_asked.ensures.asked;
}
