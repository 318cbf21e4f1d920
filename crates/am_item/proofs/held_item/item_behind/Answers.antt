use Rattle.std.proofs.Common.{rules, ◌++◌, ◌-◌, ◌<◌, length, arith}
use Rattle.am_item.specs.Held.{alert_item, entry_item, items_by, silence_item}
use Rattle.am_item.proofs.Placed.{item_after, item_before, item_there, length-others}
use Rattle.am_item.proofs.held_item.item_behind.Goals as goal

pub returns-then-place-silences : goal.returns-then-place-silences
returns-then-place-silences c =
    item_before silence_item c.args.silences.now (items_by alert_item c.args.alerts.now ++ items_by entry_item c.args.sent.now) c.args.place c.index-silences-place.result
    c.if-place-silences.true c.index-silences-place.is

pub returns-then-left-alerts : goal.returns-then-left-alerts
returns-then-left-alerts c =
    item_after silence_item c.args.silences.now (items_by alert_item c.args.alerts.now ++ items_by entry_item c.args.sent.now) c.args.place _ (omega (arith, c.if-place-silences.false))
    (item_before alert_item c.args.alerts.now (items_by entry_item c.args.sent.now) (c.args.place - length c.args.silences.now) c.index-alerts-left.result
    c.if-left-alerts.true c.index-alerts-left.is)

pub offset_bounds-sent-left : goal.offset_bounds-sent-left
offset_bounds-sent-left c =
    let low : c.args.place - length c.args.silences.now - length c.args.alerts.now < length c.args.sent.now =
    omega (arith, c.requires, c.if-place-silences.false, c.if-left-alerts.false, length-others c.args.silences.now c.args.alerts.now c.args.sent.now) in
    search rules

pub bounds-sent-left : goal.bounds-sent-left
bounds-sent-left c =
    omega (arith, c.requires, c.if-place-silences.false, c.if-left-alerts.false, length-others c.args.silences.now c.args.alerts.now c.args.sent.now)

pub returns : goal.returns
returns c =
    let low : c.args.place - length c.args.silences.now - length c.args.alerts.now < length c.args.sent.now =
    omega (arith, c.requires, c.if-place-silences.false, c.if-left-alerts.false, length-others c.args.silences.now c.args.alerts.now c.args.sent.now) in
    item_after silence_item c.args.silences.now (items_by alert_item c.args.alerts.now ++ items_by entry_item c.args.sent.now) c.args.place _ (omega (arith, c.if-place-silences.false))
    (item_after alert_item c.args.alerts.now (items_by entry_item c.args.sent.now) (c.args.place - length c.args.silences.now) _ (omega (arith, c.if-left-alerts.false))
    (item_there entry_item c.args.sent.now (c.args.place - length c.args.silences.now - length c.args.alerts.now) c.index-sent-left.result low c.index-sent-left.is))
