use Rattle.std.proofs.Common.{ap, length, refl}
use Rattle.am_api.specs.Fresh.{new_count}
use Rattle.am_api.proofs.Counting.{new_few, past_few, past_none, past_some}
use Rattle.am_api.proofs.MergedCount.{merged_count}
use Rattle.am_api.proofs.posting.is_past.Goals as goal

pub returns-in_default : goal.returns-in_default
returns-in_default c = λ moment maker.
    let new = new_count c.args.held.now c.args.posted.now in
    past_none c.args.limit _ new _ (merged_count c.args.held.now c.args.posted.now moment maker c.alerts.result.now _ new c.alerts.ensures.items c.entries.ensures.ordered (ap length c.entries.ensures.entries) refl)
    c.in_default.ensures

pub returns-then-posted-room : goal.returns-then-posted-room
returns-then-posted-room c = λ moment maker.
    let new = new_count c.args.held.now c.args.posted.now in
    past_few c.args.limit _ new _ _ _ (merged_count c.args.held.now c.args.posted.now moment maker c.alerts.result.now _ new c.alerts.ensures.items c.entries.ensures.ordered (ap length c.entries.ensures.entries) refl)
    c.in-Some.ensures.0 c.in-Some.ensures.1 (new_few c.args.held.now c.args.posted.now) c.if-posted-room.true

pub returns : goal.returns
returns c = λ moment maker.
    past_some c.args.limit _ _ _ _ (merged_count c.args.held.now c.args.posted.now moment maker c.alerts.result.now _ _ c.alerts.ensures.items c.entries.ensures.ordered (ap length c.entries.ensures.entries) c.in_ok-new.ensures)
    c.in-Some.ensures.0 c.in-Some.ensures.1
