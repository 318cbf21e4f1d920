use Rattle.std.proofs.Common.{sym, ◌∙◌}
use Rattle.std.specs.Option.{option_copied}
use Rattle.am_item.specs.Held.{alert_item, configuration_items, entry_item, silence_item}
use Rattle.am_item.specs.Kinds.{alerts_of, entries_of, silences_of}
use Rattle.am_site.proofs.Holding.{holds_last, holds_second, holds_third, no_configuration}
use Rattle.am_site.proofs.restarting.is_any_held.Goals as goal

pub returns-then-len-gt0 : goal.returns-then-len-gt0
returns-then-len-gt0 c =
    let held = c.args.held.now in
    holds_second held (configuration_items (option_copied c.configuration.result)) (silences_of held) (alerts_of held) (entries_of held) c.configuration.ensures.whole
    silence_item c.silences.result.now c.silences.ensures.items (rw c.len.ensures at c.if-len-gt0.true)

pub returns-then-len-gt0-2 : goal.returns-then-len-gt0-2
returns-then-len-gt0-2 c =
    let held = c.args.held.now in
    holds_third held (configuration_items (option_copied c.configuration.result)) (silences_of held) (alerts_of held) (entries_of held) c.configuration.ensures.whole
    alert_item c.alerts.result.now c.alerts.ensures.items (rw c.len-2.ensures at c.if-len-gt0-2.true)

pub returns : goal.returns
returns c =
    let held = c.args.held.now in
    rw c.len-3.ensures
    (holds_last held (configuration_items (option_copied c.configuration.result)) (silences_of held) (alerts_of held) (entries_of held) c.configuration.ensures.whole
    silence_item alert_item entry_item c.silences.result.now c.alerts.result.now c.sent_entries.result.now
    (no_configuration c.configuration.result (sym c.is_some.ensures ∙ c.if-is_some.false))
    c.silences.ensures.items c.alerts.ensures.items c.sent_entries.ensures.items
    (rw c.len.ensures at c.if-len-gt0.false) (rw c.len-2.ensures at c.if-len-gt0-2.false))
