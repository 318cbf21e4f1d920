-- What items that are put make of what a store has, as items that join a list.
use Rattle.std.proofs.Common.{◌≡◌, inl, inr, ℕ, Bool, true, false, cond, List, [], ◌∷◌, Option, Some, None, option_and_then, refl, sym, ap, ◌∙◌}
use Rattle.std.specs.List.{cons_option}
use Rattle.std.specs.List.Sorted.{IsStrictlySortedBy}
use Rattle.std.specs.Ordering.{is_eq}
use Rattle.std.proofs.lemmas.Bool.{cases_Bool, cond-false, cond-true, false≢true}
use Rattle.am_item.specs.Best.{IsRising, all_joined, best, item_at, joined}
use Rattle.am_item.specs.Key.{exceeds, has_key, key_cmp, key_of}
use Rattle.am_item.specs.declared.key.ThingKey.{ThingKey as Key}
use Rattle.am_item.specs.declared.key.ThingKey.TheVariants.{Configuration as ConfigurationKey, Silence as SilenceKey, Alert as AlertKey, SentEntry as SentEntryKey}
use Rattle.am_item.specs.Key as item
use Rattle.am_item.specs.Newest.{newest}
use Rattle.am_item.specs.declared.item.Item.{Item}
use Rattle.am_item.specs.declared.item.Thing.{Thing}
use Rattle.am_item.specs.declared.item.Thing.TheVariants as thing
use Rattle.am_item.specs.declared.stamp.Stamp.{Stamp}
use Rattle.am_item.proofs.Greatest.{later}
use Rattle.am_item.proofs.Joined.{at-joined, rising-joined, with_item}
use Rattle.am_item.proofs.Joining.{all_joined-merged}
use Rattle.am_item.proofs.Keys.{key_same}
use Rattle.am_item.proofs.Meaning.{at_keyed}
use Rattle.am_share.specs.Pairs.{Drops}
use Rattle.am_tenant.proofs.Same.{same-refl}
use Rattle.am_store.specs.Best.{Holds}
use Rattle.am_store.specs.Stored.{ConfigurationText, Content, Puts, SilenceWords, Stored, latest, of_key, silence_text, stamped, stored_at, stored_item, stored_items, stored_thing}
use Rattle.am_store.specs.Stored as stored

-- ---- which things are stored, and as what

abbrev is_stored : Key → Bool
is_stored ConfigurationKey = true
is_stored (SilenceKey id) = true
is_stored (AlertKey labels) = false
is_stored (SentEntryKey entry) = false

abbrev content : Thing → Content
content (thing.Configuration text) = ConfigurationText text
content (thing.Silence silence) = SilenceWords (silence_text silence)
content (thing.Alert alert) = ConfigurationText None
content (thing.SentEntry entry) = ConfigurationText None

stored_is : (stamp : Stamp) (t : Thing) → stored_thing stamp t ≡ cond (is_stored (item.key_in t)) (Some (stamped stamp (content t))) None
stored_is stamp (thing.Configuration text) = refl
stored_is stamp (thing.Silence silence) = refl
stored_is stamp (thing.Alert alert) = refl
stored_is stamp (thing.SentEntry entry) = refl

same_key : (t : Thing) → is_stored (item.key_in t) ≡ true → stored.key_in (content t) ≡ item.key_in t
same_key (thing.Configuration text) is = refl
same_key (thing.Silence silence) is = refl
same_key (thing.Alert alert) is = absurd (false≢true is)
same_key (thing.SentEntry entry) is = absurd (false≢true is)

abbrev view : Option Item → Option Stored
view o = option_and_then stored_item o

module _ (k : Key) (y : Item) where
  abbrev s : Stored
  s = stamped y.stamp (content y.thing)

  unseen : is_stored (key_of y) ≡ false → stored_item y ≡ None
  unseen not = stored_is y.stamp y.thing ∙ cond-false _ _ _ not

  seen : is_stored (key_of y) ≡ true → stored_item y ≡ Some s
  seen is = stored_is y.stamp y.thing ∙ cond-true _ _ _ is

  -- an item that isn't stored changes nothing
  passed : (o : Option Item) → ((x : Item) → o ≡ Some x → key_of x ≡ k) → is_stored (key_of y) ≡ false → view (with_item k o y) ≡ view o
  passed o keyed not = elim (cases_Bool (has_key k y)) [
    | inr other ↦ ap view (cond-false _ _ _ other)
    | inl here ↦ ap view (cond-true _ _ _ here) ∙ replaced o keyed (key_same k (key_of y) here)
  ]
    where
      none_of : (x : Item) → key_of x ≡ k → k ≡ key_of y → stored_item x ≡ None
      none_of x one two = stored_is x.stamp x.thing ∙ cond-false _ _ _ (ap is_stored (one ∙ two) ∙ not)

      replaced : (o : Option Item) → ((x : Item) → o ≡ Some x → key_of x ≡ k) → k ≡ key_of y → view (later o (Some y)) ≡ view o
      replaced None keyed is = unseen not
      replaced (Some x) keyed is = elim (cases_Bool (exceeds y x)) [
        | inl more ↦ ap view (cond-true _ (Some y) (Some x) more) ∙ unseen not ∙ sym (none_of x (keyed x refl) is)
        | inr less ↦ ap view (cond-false _ (Some y) (Some x) less)
      ]

  -- one that is stored comes as it joins
  came : (o : Option Item) → ((x : Item) → o ≡ Some x → key_of x ≡ k) → is_stored (key_of y) ≡ true → view (with_item k o y) ≡ cond (has_key k y) (newest (view o) s) (view o)
  came o keyed is = elim (cases_Bool (has_key k y)) [
    | inr other ↦ ap view (cond-false _ _ _ other) ∙ sym (cond-false _ _ _ other)
    | inl here ↦ ap view (cond-true _ _ _ here) ∙ newer o keyed (key_same k (key_of y) here) ∙ sym (cond-true _ _ _ here)
  ]
    where
      held : (x : Item) → key_of x ≡ k → k ≡ key_of y → stored_item x ≡ Some (stamped x.stamp (content x.thing))
      held x one two = stored_is x.stamp x.thing ∙ cond-true _ _ _ (ap is_stored (one ∙ two) ∙ is)

      newer : (o : Option Item) → ((x : Item) → o ≡ Some x → key_of x ≡ k) → k ≡ key_of y → view (later o (Some y)) ≡ newest (view o) s
      newer None keyed same = seen is
      newer (Some x) keyed same =
          let was = held x (keyed x refl) same in
          elim (cases_Bool (exceeds y x)) [
            | inl more ↦ ap view (cond-true _ (Some y) (Some x) more) ∙ seen is ∙ sym (ap (λ o. newest o s) was ∙ cond-true _ _ _ more)
            | inr less ↦ ap view (cond-false _ (Some y) (Some x) less) ∙ was ∙ sym (ap (λ o. newest o s) was ∙ cond-false _ _ _ less)
          ]

  step : (o : Option Item) (rest : List Stored) → ((x : Item) → o ≡ Some x → key_of x ≡ k) → latest (view o) (of_key k (cons_option (stored_item y) rest)) ≡ latest (view (with_item k o y)) (of_key k rest)
  step o rest keyed = elim (cases_Bool (is_stored (key_of y))) [
    | inr not ↦ ap (λ more. latest (view o) (of_key k (cons_option more rest))) (unseen not) ∙ ap (λ v. latest v (of_key k rest)) (sym (passed o keyed not))
    | inl is ↦
        ap (λ more. latest (view o) (of_key k (cons_option more rest))) (seen is)
        ∙ split (view o) (has_key k y) (ap (λ q. is_eq (key_cmp k q)) (same_key y.thing is))
        ∙ ap (λ v. latest v (of_key k rest)) (sym (came o keyed is))
  ]
    where
      split : (v : Option Stored) (b : Bool) → stored.has_key k s ≡ b → latest v (of_key k (s ∷ rest)) ≡ latest (cond b (newest v s) v) (of_key k rest)
      split v true has = ap (latest v) (cond-true _ _ _ has)
      split v false has = ap (latest v) (cond-false _ _ _ has)

-- ---- laws

joins : (k : Key) (held items : List Item) → IsRising held → latest (view (item_at k held)) (of_key k (stored_items items)) ≡ view (item_at k (all_joined held items))
joins k held [] rising = refl
joins k held (y ∷ items) rising =
    step k y (item_at k held) (stored_items items) (at_keyed k held)
    ∙ ap (λ o. latest (view o) (of_key k (stored_items items))) (sym (at-joined k held y rising))
    ∙ joins k (joined held y) items (rising-joined held y)

pub put_joins : (t : List ℕ) (held items : List Item) (old new : List (List ℕ × Stored)) → IsRising held → Holds t held old → Puts t (stored_items items) old new → Holds t (all_joined held items) new
put_joins t held items old new rising was put key = put key ∙ ap (λ o. latest o (of_key key (stored_items items))) (was key) ∙ joins key held items rising

pub nothing_rises : IsRising []
unfolding IsStrictlySortedBy
nothing_rises = tt

pub put_best : (t : List ℕ) (items : List Item) (old new : List (List ℕ × Stored)) → Holds t [] old → Puts t (stored_items items) old new → Holds t (best items) new
put_best t items old new was put key = put_joins t [] items old new nothing_rises was put key ∙ ap (λ xs. view (item_at key xs)) (all_joined-merged [] items nothing_rises)

pub dropped_empty : (t : List ℕ) (old new : List (List ℕ × Stored)) → Drops t old new → Holds t [] new
unfolding stored_at
dropped_empty t old new drops key = ap (λ xs. latest None (of_key key xs)) (drops t ∙ cond-true _ _ _ (same-refl t))
