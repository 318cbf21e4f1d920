-- Which configuration is in use once items came.
use Rattle.std.proofs.Common.{◌≡◌, ℕ, Bor, cond, true, false, List, [], ◌∷◌, Option, Some, None, Ok, refl, ap, ◌∙◌, subst, sym}
use Rattle.std.specs.List.{list_any}
use Rattle.std.specs.Ordering.{is_eq}
use Rattle.std.proofs.lemmas.Bool.{and_parts, cond-false, cond-true, or_from, or_parts}
use Rattle.am_draft.specs.Drafts.{draft_in}
use Rattle.am_config.specs.Configuration.{Configuration as InUse}
use Rattle.am_config.specs.Default.{default_configuration}
use Rattle.am_config.specs.Judging.{reading}
use Rattle.am_item.specs.declared.item.Item.{Item}
use Rattle.am_item.specs.declared.item.Thing.{Thing}
use Rattle.am_item.specs.declared.item.Thing.TheVariants.{Configuration, Silence, Alert, SentEntry}
use Rattle.am_item.specs.Best.{IsRising, all_joined, item_at, joined}
use Rattle.am_item.specs.Key.{exceeds, has_key, key_cmp, key_in}
use Rattle.am_item.specs.declared.key.ThingKey.TheVariants.{Configuration as ConfigurationKey}
use Rattle.am_item.specs.Shared.{thing_in}
use Rattle.am_item.specs.declared.shared_item.Part.{Part}
use Rattle.am_item.specs.declared.shared_item.Part.TheVariants as part
use Rattle.am_item.proofs.Greatest.{by_cases}
use Rattle.am_item.proofs.Joined.{at-joined, rising-joined, with_item}
use Rattle.am_current.specs.Current.{configuration_at, configuration_by, configuration_in, or_default}
use Rattle.am_current.specs.Replacing.{replaces}

-- a part that is no configuration is none as a thing either
pub no_configuration : (p : Part) → ((text : Bor (Option (List ℕ))) → p ≡ part.Configuration text → ⊥) → (text : Option (List ℕ)) → thing_in p ≡ Configuration text → ⊥
no_configuration (part.Configuration held) other text is = other held refl
no_configuration (part.Silence id silence) other text is = let clash = is in cc
no_configuration (part.Alert labels alert) other text is = let clash = is in cc
no_configuration (part.SentEntry key entry) other text is = let clash = is in cc

-- a thing that is no configuration has another key
other_key : (thing : Thing) → ((text : Option (List ℕ)) → thing ≡ Configuration text → ⊥) → is_eq (key_cmp ConfigurationKey (key_in thing)) ≡ false
unfolding key_cmp
other_key (Configuration text) other = absurd (other text refl)
other_key (Silence silence) other = refl
other_key (Alert alert) other = refl
other_key (SentEntry entry) other = refl

-- whether an item has a configuration's key
pub has_its_key : (item : Item) (text : Option (List ℕ)) → item.thing ≡ Configuration text → has_key ConfigurationKey item ≡ true
unfolding key_cmp
has_its_key item text e = ap (λ thing. is_eq (key_cmp ConfigurationKey (key_in thing))) e

pub has_other_key : (held : Option Item) (item : Item) → ((text : Option (List ℕ)) → item.thing ≡ Configuration text → ⊥) → false ≡ replaces held item
has_other_key None item other = sym (other_key item.thing other)
has_other_key (Some held) item other = rw (other_key item.thing other) refl

-- one item that does not replace it
stays_by_one : (held : Option Item) (item : Item) → replaces held item ≡ false → with_item ConfigurationKey held item ≡ held
stays_by_one None item h = cond-false _ (Some item) None h
stays_by_one (Some held) item h =
    by_cases (has_key ConfigurationKey item)
    (λ e. cond-true _ (cond (exceeds item held) (Some item) (Some held)) (Some held) e ∙ cond-false _ (Some item) (Some held) (rw e at h))
    (λ e. cond-false _ (cond (exceeds item held) (Some item) (Some held)) (Some held) e)

-- one item that does
comes_by_one : (held : Option Item) (item : Item) → replaces held item ≡ true → with_item ConfigurationKey held item ≡ Some item
comes_by_one None item h = cond-true _ (Some item) None h
comes_by_one (Some held) item h =
    let both = and_parts (has_key ConfigurationKey item) (exceeds item held) h in
    cond-true _ (cond (exceeds item held) (Some item) (Some held)) (Some held) both.0 ∙ cond-true _ (Some item) (Some held) both.1

-- what is in use once it came
comes : (held : List Item) (item : Item) → IsRising held → replaces (item_at ConfigurationKey held) item ≡ true → configuration_in (joined held item) ≡ configuration_by item.thing
unfolding configuration_in
comes held item up h = ap configuration_at (at-joined ConfigurationKey held item up ∙ comes_by_one (item_at ConfigurationKey held) item h)

pub text_comes : (held : List Item) (item : Item) (text : List ℕ) (c : InUse) → IsRising held → replaces (item_at ConfigurationKey held) item ≡ true
    → item.thing ≡ Configuration (Some text) → reading (draft_in text) ≡ Ok c → configuration_in (joined held item) ≡ c
text_comes held item text c up h e read = comes held item up h ∙ ap configuration_by e ∙ ap or_default read

pub deletion_comes : (held : List Item) (item : Item) → IsRising held → replaces (item_at ConfigurationKey held) item ≡ true
    → item.thing ≡ Configuration None → configuration_in (joined held item) ≡ default_configuration
deletion_comes held item up h e = comes held item up h ∙ ap configuration_by e

-- several that do not
stays : (held items : List Item) → IsRising held → list_any (replaces (item_at ConfigurationKey held)) items ≡ false → item_at ConfigurationKey (all_joined held items) ≡ item_at ConfigurationKey held
stays held [] up h = refl
stays held (item ∷ items) up h =
    let none = or_parts (replaces (item_at ConfigurationKey held) item) (list_any (replaces (item_at ConfigurationKey held)) items) h in
    let one : item_at ConfigurationKey (joined held item) ≡ item_at ConfigurationKey held =
    at-joined ConfigurationKey held item up ∙ stays_by_one (item_at ConfigurationKey held) item none.0 in
    stays (joined held item) items (rising-joined held item) (subst (λ o. list_any (replaces o) items ≡ false) (sym one) none.1) ∙ one

pub configuration_stays : (held items : List Item) → IsRising held → list_any (replaces (item_at ConfigurationKey held)) items ≡ false → configuration_in (all_joined held items) ≡ configuration_in held
unfolding configuration_in
configuration_stays held items up h = ap configuration_at (stays held items up h)

pub other_comes : (held : List Item) (item : Item) → IsRising held → replaces (item_at ConfigurationKey held) item ≡ false → configuration_in (joined held item) ≡ configuration_in held
other_comes held item up h = configuration_stays held (item ∷ []) up (or_from (replaces (item_at ConfigurationKey held) item) false h refl)
