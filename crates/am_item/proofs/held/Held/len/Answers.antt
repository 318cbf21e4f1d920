use Rattle.std.proofs.Common.{◌≡◌, ◌∙◌, ap, length, arith}
use Rattle.std.specs.Int.{from_bool}
use Rattle.am_item.specs.Held.{configuration_items}
use Rattle.am_item.proofs.Placed.{length_whole, one_or_none}
use Rattle.am_item.proofs.held.Held.len.Goals as goal

pub returns : goal.returns
returns c =
    let one : c.from-configurations.result ≡ length (configuration_items c.self.inside.configuration) =
    c.from-configurations.ensures ∙ ap from_bool c.is_some.ensures ∙ one_or_none c.self.inside.configuration in
    omega (arith, one, length_whole c.self.inside, ap length c.self.view_is, ap length c.entries-silences.ensures.entries, ap length c.entries-alerts.ensures.entries, ap length c.entries-sent.ensures.entries)
