use Rattle.std.proofs.Common.{ap, ◌∙◌, refl}
use Rattle.std.specs.List.{sum_by}
use Rattle.am_length.specs.Capped.{capped}
use Rattle.am_item.specs.Held.{alert_item, configuration_items, entry_item, items_by, silence_item, items_in}
use Rattle.am_item.specs.Lengths.{spelled_length}
use Rattle.am_item.proofs.Spelling.{four_sums, sum_by_items}
use Rattle.am_item.proofs.held.Held.spelled_len.Goals as goal

pub returns : goal.returns
unfolding spelled_length items_in
returns c =
    let h = c.self.inside in
    let silences = c.spelled_len.ensures ∙ ap capped (sum_by_items silence_item _ (λ k v. refl) h.silences) in
    let alerts = c.spelled_len-2.ensures ∙ ap capped (sum_by_items alert_item _ (λ k v. refl) h.alerts) in
    let entries = c.spelled_len-3.ensures ∙ ap capped (sum_by_items entry_item _ (λ k v. refl) h.sent) in
    four_sums (configuration_items h.configuration) (items_by silence_item h.silences) (items_by alert_item h.alerts) (items_by entry_item h.sent) _ _ _ _ _ _ _
    c.configuration_len.ensures silences alerts entries c.saturating_add.ensures c.saturating_add-2.ensures c.saturating_add-3.ensures
    ∙ ap (λ xs. capped (sum_by spelled_length xs)) c.self.view_is
