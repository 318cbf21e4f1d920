-- What was told is found by a binary search, and what is done for webhooks, one after the other.
use Rattle.std.proofs.Common.{◌≡◌, ◌⊎◌, ◌||◌, inl, inr, ℕ, ◌+◌, ◌<◌, ◌≤◌, Bool, true, false, cond, List, [], ◌∷◌, ◌++◌, Option, Result, Ok, Err, length, get_or, map, take, arith, append_assoc, refl, sym, ap, ◌∙◌}
use Rattle.std.specs.List.{AllByRecursion, filter, list_any}
use Rattle.std.specs.List.Sorted.{IsBinarySearchResult, IsPartitionPoint, IsStrictlySortedBy}
use Rattle.std.specs.Ordering.{is_eq, is_lt, ordering_reverse}
use Rattle.std.specs.Result.{MatchResult, is_ok}
use Rattle.std.specs.declared.cmp.Ordering.TheVariants.{Less, Greater}
use Rattle.std.proofs.lemmas.Bool.{cases_lt}
use Rattle.std.proofs.lemmas.List.{append-nil, length-map, length-take, map-append, map_more, take_more}
use Rattle.std.proofs.lemmas.List.Elements.{All-from_get_or, filter-append}
use Rattle.std.proofs.lemmas.List.Kept.{IsStrictlySortedBy-filter}
use Rattle.std.proofs.lemmas.List.Folds.{list_any_at, list_any_none}
use Rattle.std.proofs.lemmas.List.Sorted.{searchable_from_sorted}
use Rattle.std.proofs.lemmas.Map.Keys.{Less-from_sorted}
use Rattle.am_labels.specs.declared.Label.{Label}
use Rattle.am_labels.specs.Labels.{labels_cmp, labels_total}
use Rattle.am_config.specs.declared.parts.Webhook.{Webhook}
use Rattle.am_item.specs.declared.entry.EntryDetails.{EntryDetails}
use Rattle.am_item.specs.declared.entry.EntryKey.{EntryKey}
use Rattle.am_item.specs.declared.item.Alert.{Alert}
use Rattle.am_item.specs.declared.stamp.Stamped.{Stamped}
use Rattle.am_alert.specs.Held.{AreRising}
use Rattle.am_group.specs.Notices.{Deed, deed_for, deeds_from, entry_at, is_told, listed, sets_of}

-- ---- what was told

-- label sets in order can be searched
searchable : (told : List (List Label)) → IsStrictlySortedBy labels_cmp told → (k : ℕ) (d : List Label) → 0 ≤ k → k + 1 < length told → is_lt (labels_cmp (get_or told (k + 1) d) (get_or told k d)) ≡ false
searchable told up k d low within = ap is_lt (labels_total.antisymm (get_or told (k + 1) d) (get_or told k d) ∙ ap ordering_reverse (Less-from_sorted labels_cmp told k (k + 1) d up (omega arith) within))

-- what a search answers
pub told_by_search : (told : List (List Label)) (labels : List Label) (r : Result ℕ ℕ) → IsStrictlySortedBy labels_cmp told → IsBinarySearchResult (λ other. labels_cmp other labels) told r → MatchResult r (λ i. i < length told) (λ i. i ≤ length told)
    → is_ok r ≡ is_told told labels
told_by_search told labels (Ok i) up found within =
    sym (list_any_at (λ other. is_eq (labels_cmp other labels)) told i labels within (ap is_eq (found labels)))
told_by_search told labels (Err i) up missed within =
    let parts = missed (searchable_from_sorted labels_total (λ (s : List Label). s) told labels (searchable told up)) in
    sym (list_any_none (λ other. is_eq (labels_cmp other labels)) told (All-from_get_or (λ other. is_eq (labels_cmp other labels) ≡ false) told labels (λ k k_within. by_side k (cases_lt k i) k_within parts)))
  where
    by_side : (k : ℕ) → (k < i) ⊎ (i ≤ k) → k < length told → IsPartitionPoint (λ other. labels_cmp other labels ≡ Less) (λ other. labels_cmp other labels ≡ Greater) told i → is_eq (labels_cmp (get_or told k labels) labels) ≡ false
    by_side k (inl low) k_within parts = ap is_eq (parts.0 k labels (omega arith) low)
    by_side k (inr high) k_within parts = ap is_eq (parts.1 k labels high k_within)

-- ---- alerts in order

-- alerts in order have their label sets in order
pub rising_sets : (alerts : List (Stamped Alert)) → AreRising alerts → IsStrictlySortedBy labels_cmp (sets_of alerts)
unfolding IsStrictlySortedBy
rising_sets [] up = tt
rising_sets (a ∷ alerts) up = (above alerts up.0, rising_sets alerts up.1)
  where
    above : (others : List (Stamped Alert)) → AllByRecursion (λ (b : Stamped Alert). labels_cmp a.value.labels b.value.labels ≡ Less) others → AllByRecursion (λ l. labels_cmp a.value.labels l ≡ Less) (sets_of others)
    above [] all = tt
    above (b ∷ others) all = (all.0, above others all.1)

-- ---- webhook by webhook

pub deeds_more : (n : ℕ) (receiver group : List ℕ) (ws : List Webhook) (w : Webhook) (sent : List (EntryKey × Stamped EntryDetails)) (alerts : List (Stamped Alert)) (repeat moment : ℕ)
    → deeds_from n receiver group (ws ++ w ∷ []) sent alerts repeat moment
    ≡ deeds_from n receiver group ws sent alerts repeat moment ++ listed (deed_for (n + length ws) w (entry_at receiver group (n + length ws) sent) alerts repeat moment)
unfolding deeds_from
deeds_more n receiver group [] w sent alerts repeat moment = append-nil _ ∙ ap (λ k. listed (deed_for k w (entry_at receiver group k sent) alerts repeat moment)) (omega arith)
deeds_more n receiver group (v ∷ ws) w sent alerts repeat moment =
    let this = listed (deed_for n v (entry_at receiver group n sent) alerts repeat moment) in
    let rest = deeds_from (n + 1) receiver group ws sent alerts repeat moment in
    ap (λ ds. this ++ ds) (deeds_more (n + 1) receiver group ws w sent alerts repeat moment)
    ∙ sym (append_assoc this rest _)
    ∙ ap (λ k. (this ++ rest) ++ listed (deed_for k w (entry_at receiver group k sent) alerts repeat moment)) (omega arith)

-- ---- alerts that are copied one by one

module _ {A B : Type 0} (f : A → B) where
  -- one more, of all
  pub seen_more : (xs ys : List A) (x : A) (i : ℕ) (d : A) → i < length ys → map f xs ≡ map f (take i ys) → f x ≡ f (get_or ys i d) → map f (xs ++ x ∷ []) ≡ map f (take (i + 1) ys)
  seen_more xs ys x i d within was is = map-append f xs (x ∷ []) ∙ ap (λ zs. zs ++ f x ∷ []) was ∙ ap (λ z. map f (take i ys) ++ z ∷ []) is ∙ sym (map_more f ys i d within)

  -- one more, of those that pass a test
  pub passed_more : (p : B → Bool) (xs ys : List A) (x : A) (i : ℕ) (d : A) → i < length ys → map f xs ≡ filter p (map f (take i ys)) → f x ≡ f (get_or ys i d) → p (f x) ≡ true → map f (xs ++ x ∷ []) ≡ filter p (map f (take (i + 1) ys))
  passed_more p xs ys x i d within was is passes =
      map-append f xs (x ∷ []) ∙ ap (λ zs. zs ++ f x ∷ []) was
      ∙ sym (ap (filter p) (map_more f ys i d within) ∙ filter-append p (map f (take i ys)) (f (get_or ys i d) ∷ [])
      ∙ ap (λ z. filter p (map f (take i ys)) ++ filter p (z ∷ [])) (sym is) ∙ ap (λ b. filter p (map f (take i ys)) ++ cond b (f x ∷ []) []) passes)

  -- one that doesn't
  pub failed_more : (p : B → Bool) (xs ys : List A) (x : A) (i : ℕ) (d : A) → i < length ys → map f xs ≡ filter p (map f (take i ys)) → f x ≡ f (get_or ys i d) → p (f x) ≡ false → map f xs ≡ filter p (map f (take (i + 1) ys))
  failed_more p xs ys x i d within was is fails =
      was
      ∙ sym (ap (filter p) (map_more f ys i d within) ∙ filter-append p (map f (take i ys)) (f (get_or ys i d) ∷ [])
      ∙ ap (λ z. filter p (map f (take i ys)) ++ filter p (z ∷ [])) (sym is) ∙ ap (λ b. filter p (map f (take i ys)) ++ cond b (f x ∷ []) []) fails ∙ append-nil (filter p (map f (take i ys))))

  -- a test of what is seen
  pub any-map : (test : B → Bool) (xs : List A) → list_any test (map f xs) ≡ list_any (λ x. test (f x)) xs
  any-map test [] = refl
  any-map test (x ∷ xs) = ap (λ b. test (f x) || b) (any-map test xs)

-- for `grind`: what is seen is as long as what it is seen of
pub ruleset lengths = (length-map)

-- ---- alerts in order, some of them

pub rising_filtered : (p : Stamped Alert → Bool) (alerts : List (Stamped Alert)) → AreRising alerts → AreRising (filter p alerts)
rising_filtered p alerts up = IsStrictlySortedBy-filter (λ a b. labels_cmp a.value.labels b.value.labels) p alerts up

pub rising_none : AreRising []
unfolding IsStrictlySortedBy
rising_none = tt

-- the webhook at a place, after those before it
pub deeds_next : (receiver group : List ℕ) (ws : List Webhook) (i : ℕ) (w : Webhook) (sent : List (EntryKey × Stamped EntryDetails)) (alerts : List (Stamped Alert)) (repeat moment : ℕ) (made : Option Deed) → i < length ws → w ≡ get_or ws i w
    → made ≡ deed_for i w (entry_at receiver group i sent) alerts repeat moment
    → deeds_from 0 receiver group (take i ws) sent alerts repeat moment ++ listed made ≡ deeds_from 0 receiver group (take (i + 1) ws) sent alerts repeat moment
deeds_next receiver group ws i w sent alerts repeat moment made within is does =
    let before = take i ws in
    let n : 0 + length before ≡ i = omega (arith, length-take i ws) in
    let at = λ (k : ℕ). listed (deed_for k w (entry_at receiver group k sent) alerts repeat moment) in
    sym (ap (λ zs. deeds_from 0 receiver group zs sent alerts repeat moment) (take_more ws i w within ∙ ap (λ z. before ++ z ∷ []) (sym is))
    ∙ deeds_more 0 receiver group before w sent alerts repeat moment
    ∙ ap (λ ds. deeds_from 0 receiver group before sent alerts repeat moment ++ ds) (ap at n ∙ ap listed (sym does)))
