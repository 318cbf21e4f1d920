use Rattle.std.proofs.Common.{◌≡◌, List, ◌∷◌, ◌<◌, length, subst, sym, arith}
use Rattle.std.specs.List.{HoldsAt}
use Rattle.am_item.specs.Held.{configuration_item}
use Rattle.am_item.specs.Shared.{held_as}
use Rattle.am_item.specs.declared.item.Item.{Item}
use Rattle.am_item.proofs.Placed.{all_behind, all_without, item_first, item_next, others}
use Rattle.am_item.proofs.held.Held.at.Goals as goal

pub item_behind-requires : goal.item_behind-requires
item_behind-requires c =
    let whole = all_without c.self.inside _ _ _ c.args.self.now c.entries-silences.ensures.entries c.entries-alerts.ensures.entries c.entries-sent.ensures.entries c.in-None.is c.self.view_is in
    subst (λ (xs : List Item). c.args.place < length xs) (sym whole) c.requires

pub item_behind-requires-else-place-eq0 : goal.item_behind-requires-else-place-eq0
item_behind-requires-else-place-eq0 c =
    let whole = all_behind c.self.inside _ _ _ c.in-Some.kept c.args.self.now c.entries-silences.ensures.entries c.entries-alerts.ensures.entries c.entries-sent.ensures.entries c.in-Some.is c.self.view_is in
    let low : c.args.place < length (configuration_item c.in-Some.kept ∷ others c.entries-silences.result.now c.entries-alerts.result.now c.entries-sent.result.now) =
    subst (λ (xs : List Item). c.args.place < length xs) (sym whole) c.requires in
    omega (arith, low, c.if-place-eq0.false)

pub returns-in-None : goal.returns-in-None
returns-in-None c =
    let whole = all_without c.self.inside _ _ _ c.args.self.now c.entries-silences.ensures.entries c.entries-alerts.ensures.entries c.entries-sent.ensures.entries c.in-None.is c.self.view_is in
    subst (λ (xs : List Item). HoldsAt (λ (item : Item). held_as c.item_behind.result ≡ item) xs c.args.place) whole c.item_behind.ensures

pub returns-then-place-eq0 : goal.returns-then-place-eq0
returns-then-place-eq0 c =
    let whole = all_behind c.self.inside _ _ _ c.in-Some.kept c.args.self.now c.entries-silences.ensures.entries c.entries-alerts.ensures.entries c.entries-sent.ensures.entries c.in-Some.is c.self.view_is in
    item_first (configuration_item c.in-Some.kept) _ c.args.self.now c.args.place whole (omega (arith, c.if-place-eq0.true))

pub returns-else-place-eq0 : goal.returns-else-place-eq0
returns-else-place-eq0 c =
    let whole = all_behind c.self.inside _ _ _ c.in-Some.kept c.args.self.now c.entries-silences.ensures.entries c.entries-alerts.ensures.entries c.entries-sent.ensures.entries c.in-Some.is c.self.view_is in
    item_next (configuration_item c.in-Some.kept) _ c.args.self.now c.args.place _ whole (omega (arith, c.if-place-eq0.false)) c.item_behind-else-place-eq0.ensures
