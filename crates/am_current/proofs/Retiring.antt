-- What is in use stays in use where what is retired goes.
use Rattle.std.proofs.Common.{◌≡◌, ℕ, Bool, true, false, not, nat_le, filter, List, [], ◌∷◌, Option, Some, None, Result, Ok, Err, IfNone, IfOk, IfSome, OnErr, cond, refl, sym, ap, ◌∙◌, subst, inl, inr}
use Rattle.std.specs.BTreeMap.{BTreeMap}
use Rattle.std.specs.Option.{option_map_or}
use Rattle.std.specs.Ordering.{is_eq}
use Rattle.std.proofs.lemmas.Bool.{cases_Bool, cond-false, cond-true, false≢true, not_from_true}
use Rattle.am_tenant.specs.Names.{same}
use Rattle.am_config.specs.Configuration.{Configuration}
use Rattle.am_book.specs.Book.{items_of}
use Rattle.am_book.proofs.Dropping.{at-lacking}
use Rattle.am_item.specs.Best.{item_at}
use Rattle.am_item.specs.Key.{has_key, key_cmp, key_in}
use Rattle.am_item.specs.declared.key.ThingKey.{ThingKey}
use Rattle.am_item.specs.declared.key.ThingKey.TheVariants.{Configuration as ConfigurationKey}
use Rattle.am_item.specs.Retirement.{is_retired, retires_at, thing_retires_at}
use Rattle.am_item.specs.declared.item.Item.{Item}
use Rattle.am_item.specs.declared.item.Thing.{Thing}
use Rattle.am_item.specs.declared.item.Thing.TheVariants.{Configuration as Stored, Silence, Alert, SentEntry}
use Rattle.am_item.proofs.Greatest.{by_cases}
use Rattle.am_item.proofs.Keys.{key_same}
use Rattle.am_item.proofs.Removed.{lacks_key}
use Rattle.am_item.proofs.Rising.{here_at, later_at}
use Rattle.am_current.specs.Current.{AreInUse, configuration_at, configuration_in, read_for}

-- a configuration never retires
never : (moment written : ℕ) (thing : Thing) → is_eq (key_cmp ConfigurationKey (key_in thing)) ≡ true →
    not (option_map_or (λ at. nat_le at moment) (thing_retires_at written thing) false) ≡ true
unfolding key_cmp
never moment written (Stored text) h = refl
never moment written (Silence silence) h = absurd cc
never moment written (Alert alert) h = absurd cc
never moment written (SentEntry entry) h = absurd cc

stays : (moment : ℕ) (x : Item) → has_key ConfigurationKey x ≡ true → not (is_retired moment x) ≡ true
unfolding retires_at
stays moment x h = never moment x.stamp.moment x.thing h

-- the item of a key is held, and is retired
abbrev is_gone : ℕ → ThingKey → List Item → Bool
is_gone moment key held = option_map_or (is_retired moment) (item_at key held) false

-- that key is no configuration's
no_configuration : (moment : ℕ) (held : List Item) → is_gone moment ConfigurationKey held ≡ true → ⊥
no_configuration moment [] h = false≢true h
no_configuration moment (x ∷ xs) h =
    by_cases (has_key ConfigurationKey x)
    (λ e.
    let gone : is_retired moment x ≡ true = sym (ap (λ o. option_map_or (is_retired moment) o false) (here_at ConfigurationKey x xs e)) ∙ h in
    false≢true (sym (not_from_true (is_retired moment x) gone) ∙ stays moment x e))
    (λ e. no_configuration moment xs (sym (ap (λ o. option_map_or (is_retired moment) o false) (later_at ConfigurationKey x xs e)) ∙ h))

other_than_its : (moment : ℕ) (key : ThingKey) (held : List Item) → is_gone moment key held ≡ true → is_eq (key_cmp ConfigurationKey key) ≡ false
other_than_its moment key held h =
    by_cases (is_eq (key_cmp ConfigurationKey key))
    (λ e. absurd (no_configuration moment held (ap (λ k. is_gone moment k held) (key_same ConfigurationKey key e) ∙ h)))
    (λ e. e)

-- what is in use stays where the item of another key goes
used_lacking : (key : ThingKey) (held : List Item) → is_eq (key_cmp ConfigurationKey key) ≡ false
    → configuration_in (filter (lacks_key key) held) ≡ configuration_in held
unfolding configuration_in
used_lacking key held other = ap configuration_at (at-lacking ConfigurationKey key held ∙ cond-false _ None (item_at ConfigurationKey held) other)

module _ (m : BTreeMap (List ℕ) Configuration) (book now : List (List ℕ × Item)) (moment : ℕ) (are : AreInUse m book) where
  -- whatever was taken out, where something was
  in_use_popped : (popped : Option (List ℕ × ThingKey))
      → IfNone popped ((t : List ℕ) → items_of t now ≡ items_of t book)
      → IfSome popped (λ first. is_gone moment first.1 (items_of first.0 book) ≡ true)
      → IfSome popped (λ first. (t : List ℕ) →
      items_of t now ≡ cond (same t first.0) (filter (lacks_key first.1) (items_of t book)) (items_of t book))
      → AreInUse m now
  in_use_popped None stay gone others t = subst (λ xs. IfSome (read_for t m) (λ c. c ≡ configuration_in xs)) (sym (stay t)) (are t)
  in_use_popped (Some first) stay gone others t =
      let was = items_of t book in
      let other = other_than_its moment first.1 (items_of first.0 book) gone in
      let used : configuration_in (items_of t now) ≡ configuration_in was =
      ap configuration_in (others t)
      ∙ by_cases (same t first.0)
      (λ e. ap configuration_in (cond-true _ (filter (lacks_key first.1) was) was e) ∙ used_lacking first.1 was other)
      (λ e. ap configuration_in (cond-false _ (filter (lacks_key first.1) was) was e)) in
      subst (λ c. IfSome (read_for t m) (λ d. d ≡ c)) (sym used) (are t)

  -- .. and where memory ran out, nothing was
  pub in_use_after : {E : Type 0} (r : Result (Option (List ℕ × ThingKey)) E)
      → IfOk r (λ popped. IfNone popped ((t : List ℕ) → items_of t now ≡ items_of t book))
      → IfOk r (λ popped. IfSome popped (λ first. is_gone moment first.1 (items_of first.0 book) ≡ true))
      → IfOk r (λ popped. IfSome popped (λ first. (t : List ℕ) →
      items_of t now ≡ cond (same t first.0) (filter (lacks_key first.1) (items_of t book)) (items_of t book)))
      → OnErr r ((t : List ℕ) → items_of t now ≡ items_of t book)
      → AreInUse m now
  in_use_after (Ok popped) stay gone others _ = in_use_popped popped stay gone others
  in_use_after (Err _) _ _ _ stay = in_use_popped None stay tt tt
