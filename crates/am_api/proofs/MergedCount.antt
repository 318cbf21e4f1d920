-- How many alerts are held once posted ones have come: those that are held, and the posted label sets that are new.
use Rattle.std.proofs.Common.{◌≡◌, ℕ, suc, ◌+◌, List, [], ◌∷◌, ◌++◌, Bool, true, false, not, ◌&&◌, ◌||◌, Option, Some, None, map, length, refl, sym, ap, ◌∙◌, subst, arith}
use Rattle.std.specs.Map.{keys_of}
use Rattle.am_item.specs.Sorted.{IsOrdered}
use Rattle.std.specs.Cmp.{Equal-is, eq_by_cmp_equiv}
use Rattle.std.specs.List.{AllByRecursion, IsDistinct, list_any}
use Rattle.std.specs.List.Sorted.{IsStrictlySortedBy}
use Rattle.std.specs.Option.{is_some}
use Rattle.std.specs.Ordering.{eq_by_cmp}
use Rattle.std.specs.Set.{distinct_count, is_member}
use Rattle.std.specs.declared.cmp.Ordering.TheVariants.{Less}
use Rattle.std.proofs.lemmas.Bool.{cond-false, cond-true}
use Rattle.std.proofs.lemmas.List.Folds.{list_any-append}
use Rattle.std.proofs.lemmas.Map.Keys.{IsDistinct-from_sorted}
use Rattle.std.proofs.lemmas.Map.Made.{distinct_count-from_IsDistinct, is_member-filter, length-from_keys}
use Rattle.std.proofs.lemmas.Map.Steps.{list_any_congr}
use Rattle.am_labels.specs.declared.Label.{Label}
use Rattle.am_labels.specs.Labels.{labels_cmp, labels_total}
use Rattle.am_item.specs.declared.item.Alert.{Alert}
use Rattle.am_item.specs.declared.item.AlertDetails.{AlertDetails}
use Rattle.am_item.specs.declared.item.Item.{Item}
use Rattle.am_item.specs.declared.item.Thing.{Thing}
use Rattle.am_item.specs.declared.item.Thing.TheVariants as thing
use Rattle.am_item.specs.declared.stamp.Stamped.{Stamped}
use Rattle.am_item.specs.Best.{IsRising, all_joined, best, item_at, joined, of_key}
use Rattle.am_item.specs.Held.{alert_item, items_by}
use Rattle.am_item.specs.Key.{exceeds, has_key, key_cmp, key_in, key_of}
use Rattle.am_item.specs.declared.key.ThingKey.{ThingKey as Key}
use Rattle.am_item.specs.declared.key.ThingKey.TheVariants.{Alert as AlertKey}
use Rattle.am_item.specs.Kinds.{alerts_of}
use Rattle.am_item.proofs.BestLaws.{at-best}
use Rattle.am_item.proofs.Greatest.{by_cases, greatest-latest, later, latest}
use Rattle.am_item.proofs.Joined.{rising-joined}
use Rattle.am_item.proofs.Order.{labels_exact}
use Rattle.am_alert.specs.declared.maker.Maker.{Maker}
use Rattle.am_alert.specs.Made.{is_posted, items_from, last_of_each, made}
use Rattle.am_api.specs.Decision.{count_with}
use Rattle.am_api.specs.Fresh.{has_alert, new_count, new_sets}

-- two label sets are equal
abbrev same_set : List Label → List Label → Bool
same_set = eq_by_cmp labels_cmp

-- ---- the label sets of a list's alerts

abbrev cons_set : Thing → List (List Label) → List (List Label)
cons_set (thing.Alert alert) sets = alert.labels ∷ sets
cons_set (thing.Configuration text) sets = sets
cons_set (thing.Silence silence) sets = sets
cons_set (thing.SentEntry entry) sets = sets

abbrev sets_of : List Item → List (List Label)
sets_of [] = []
sets_of (x ∷ xs) = cons_set x.thing (sets_of xs)

-- an item of the list has the key
abbrev any_of : Key → List Item → Bool
any_of key xs = list_any (λ x. has_key key x) xs

count_next : (t : Thing) (x : Item) (xs : List Item) → x.thing ≡ t → length (alerts_of xs) ≡ length (sets_of xs) → length (alerts_of (x ∷ xs)) ≡ length (sets_of (x ∷ xs))
count_next (thing.Alert alert) x xs is so = rw is (ap suc so)
count_next (thing.Configuration text) x xs is so = rw is so
count_next (thing.Silence silence) x xs is so = rw is so
count_next (thing.SentEntry entry) x xs is so = rw is so

-- an alert has one
count_sets : (xs : List Item) → length (alerts_of xs) ≡ length (sets_of xs)
count_sets [] = refl
count_sets (x ∷ xs) = count_next x.thing x xs refl (count_sets xs)

member_next : (t : Thing) (x : Item) (xs : List Item) (k : List Label) → x.thing ≡ t → is_member same_set (sets_of xs) k ≡ any_of (AlertKey k) xs →
    is_member same_set (sets_of (x ∷ xs)) k ≡ any_of (AlertKey k) (x ∷ xs)
unfolding key_cmp
member_next (thing.Alert alert) x xs k is so = rw is (ap (λ b. same_set k alert.labels || b) so)
member_next (thing.Configuration text) x xs k is so = rw is so
member_next (thing.Silence silence) x xs k is so = rw is so
member_next (thing.SentEntry entry) x xs k is so = rw is so

member_sets : (xs : List Item) (k : List Label) → is_member same_set (sets_of xs) k ≡ any_of (AlertKey k) xs
member_sets [] k = refl
member_sets (x ∷ xs) k = member_next x.thing x xs k refl (member_sets xs k)

-- ---- which keys a list has once items have joined it

some_later : (x : Item) (o : Option Item) → is_some (later (Some x) o) ≡ true
some_later x None = refl
some_later x (Some y) = by_cases (exceeds y x) (λ e. ap is_some (cond-true _ (Some y) (Some x) e)) (λ e. ap is_some (cond-false _ (Some y) (Some x) e))

some_latest : (key : Key) (xs : List Item) → is_some (latest (of_key key xs)) ≡ any_of key xs
some_latest key [] = refl
some_latest key (x ∷ xs) = by_cases (has_key key x) (λ e. rw e (some_later x (latest (of_key key xs)))) (λ e. rw e (some_latest key xs))

some_found : (key : Key) (xs : List Item) → is_some (item_at key xs) ≡ any_of key xs
some_found key [] = refl
some_found key (x ∷ xs) = by_cases (has_key key x) (λ e. rw e refl) (λ e. rw e (some_found key xs))

any_best : (key : Key) (xs : List Item) → any_of key (best xs) ≡ any_of key xs
any_best key xs = sym (some_found key (best xs)) ∙ ap is_some (at-best key xs ∙ greatest-latest (of_key key xs)) ∙ some_latest key xs

or_false : (b : Bool) → (b || false) ≡ b
or_false true = refl
or_false false = refl

or_assoc : (a b c : Bool) → ((a || b) || c) ≡ (a || (b || c))
or_assoc true b c = refl
or_assoc false b c = refl

any_joined : (key : Key) (held : List Item) (y : Item) → any_of key (joined held y) ≡ (any_of key held || has_key key y)
any_joined key held y =
    any_best key (held ++ y ∷ []) ∙ list_any-append (λ x. has_key key x) held (y ∷ []) ∙ ap (λ b. any_of key held || b) (or_false (has_key key y))

any_all_joined : (key : Key) (held items : List Item) → any_of key (all_joined held items) ≡ (any_of key held || any_of key items)
any_all_joined key held [] = sym (or_false (any_of key held))
any_all_joined key held (y ∷ ys) =
    any_all_joined key (joined held y) ys ∙ ap (λ b. b || any_of key ys) (any_joined key held y) ∙ or_assoc (any_of key held) (has_key key y) (any_of key ys)

-- ---- the keys of a post's items are its label sets

abbrev posted_sets : List Alert → List (List Label)
posted_sets alerts = map (λ (alert : Alert). alert.labels) alerts

any_items : (k : List Label) (held : List Item) (moment : ℕ) (maker : Maker) (alerts : List Alert) →
    any_of (AlertKey k) (items_from held moment maker alerts) ≡ is_member same_set (posted_sets alerts) k
unfolding items_from key_cmp
any_items k held moment maker [] = refl
any_items k held moment maker (a ∷ alerts) = ap (λ b. same_set k a.labels || b) (any_items k held moment (record maker { used = maker.used + 1 }) alerts)

posted_member : (labels : List Label) (alerts : List Alert) → is_posted labels alerts ≡ is_member same_set (posted_sets alerts) labels
posted_member labels [] = refl
posted_member labels (a ∷ alerts) = ap (λ b. same_set labels a.labels || b) (posted_member labels alerts)

-- a label set that a later alert has counts with that one
covered : (k : List Label) (a : Alert) (alerts : List Alert) → is_posted a.labels alerts ≡ true →
    is_member same_set (posted_sets alerts) k ≡ (same_set k a.labels || is_member same_set (posted_sets alerts) k)
covered k a alerts e = by_cases (same_set k a.labels)
    (λ same. rw same (list_any_congr (eq_by_cmp_equiv labels_total) k a.labels (posted_sets alerts) same ∙ sym (posted_member a.labels alerts) ∙ e))
    (λ other. rw other refl)

last_member : (k : List Label) (alerts : List Alert) → is_member same_set (posted_sets (last_of_each alerts)) k ≡ is_member same_set (posted_sets alerts) k
unfolding last_of_each
last_member k [] = refl
last_member k (a ∷ alerts) = by_cases (is_posted a.labels alerts)
    (λ e. rw e (last_member k alerts ∙ covered k a alerts e))
    (λ e. rw e (ap (λ b. same_set k a.labels || b) (last_member k alerts)))

any_made : (k : List Label) (held : List Item) (moment : ℕ) (maker : Maker) (posted : List Alert) →
    any_of (AlertKey k) (made held moment maker posted) ≡ is_member same_set (posted_sets posted) k
unfolding made
any_made k held moment maker posted = any_items k held moment maker (last_of_each posted) ∙ last_member k posted

-- ---- each label set stands once

below_next : (t : Thing) (y : Item) (ys : List Item) (labels : List Label) → y.thing ≡ t → key_cmp (AlertKey labels) (key_of y) ≡ Less →
    AllByRecursion (λ set. labels_cmp labels set ≡ Less) (sets_of ys) → AllByRecursion (λ set. labels_cmp labels set ≡ Less) (sets_of (y ∷ ys))
unfolding key_cmp
below_next (thing.Alert other) y ys labels is below all = rw is (ap (λ t. key_cmp (AlertKey labels) (key_in t)) (sym is) ∙ below, all)
below_next (thing.Configuration text) y ys labels is below all = rw is all
below_next (thing.Silence silence) y ys labels is below all = rw is all
below_next (thing.SentEntry entry) y ys labels is below all = rw is all

all_below : (labels : List Label) (ys : List Item) → AllByRecursion (λ y. key_cmp (AlertKey labels) (key_of y) ≡ Less) ys →
    AllByRecursion (λ set. labels_cmp labels set ≡ Less) (sets_of ys)
all_below labels [] all = tt
all_below labels (y ∷ ys) all = below_next y.thing y ys labels refl all.0 (all_below labels ys all.1)

sorted_next : (t : Thing) (x : Item) (xs : List Item) → x.thing ≡ t → AllByRecursion (λ y. key_cmp (key_of x) (key_of y) ≡ Less) xs →
    IsStrictlySortedBy labels_cmp (sets_of xs) → IsStrictlySortedBy labels_cmp (sets_of (x ∷ xs))
unfolding IsStrictlySortedBy
sorted_next (thing.Alert alert) x xs is above so =
    rw is (all_below alert.labels xs (subst (λ t. AllByRecursion (λ y. key_cmp (key_in t) (key_of y) ≡ Less) xs) is above), so)
sorted_next (thing.Configuration text) x xs is above so = rw is so
sorted_next (thing.Silence silence) x xs is above so = rw is so
sorted_next (thing.SentEntry entry) x xs is above so = rw is so

sorted_sets : (xs : List Item) → IsRising xs → IsStrictlySortedBy labels_cmp (sets_of xs)
unfolding IsStrictlySortedBy
sorted_sets [] up = tt
sorted_sets (x ∷ xs) up = sorted_next x.thing x xs refl up.0 (sorted_sets xs up.1)

distinct_joined : (held items : List Item) → IsDistinct same_set (sets_of held) → IsDistinct same_set (sets_of (all_joined held items))
distinct_joined held [] once = once
distinct_joined held (y ∷ ys) once =
    distinct_joined (joined held y) ys (IsDistinct-from_sorted labels_cmp (sets_of (joined held y)) (sorted_sets (joined held y) (rising-joined held y)))

-- ---- what is held

kept_next : (t : Thing) (x : Item) (xs : List Item) → x.thing ≡ t → sets_of (alerts_of xs) ≡ sets_of xs → sets_of (alerts_of (x ∷ xs)) ≡ sets_of (x ∷ xs)
kept_next (thing.Alert alert) x xs is so =
    let stays : alerts_of (x ∷ xs) ≡ x ∷ alerts_of xs = rw is refl in ap sets_of stays ∙ ap (cons_set x.thing) so
kept_next (thing.Configuration text) x xs is so = rw is so
kept_next (thing.Silence silence) x xs is so = rw is so
kept_next (thing.SentEntry entry) x xs is so = rw is so

sets_kept : (xs : List Item) → sets_of (alerts_of xs) ≡ sets_of xs
sets_kept [] = refl
sets_kept (x ∷ xs) = kept_next x.thing x xs refl (sets_kept xs)

module _ (entries : List (List Label × Stamped AlertDetails)) (held : List Item) (are : items_by alert_item entries ≡ alerts_of held) where
  sets_by : (pairs : List (List Label × Stamped AlertDetails)) → sets_of (items_by alert_item pairs) ≡ map (λ e. e.0) pairs
  sets_by [] = refl
  sets_by ((key, value) ∷ pairs) = ap (λ sets. key ∷ sets) (sets_by pairs)

  held_sets : sets_of held ≡ keys_of entries
  held_sets = sym (sets_kept held) ∙ ap sets_of (sym are) ∙ sets_by entries

  once_each : IsOrdered labels_cmp entries → IsDistinct same_set (sets_of held)
  once_each ordered = subst (IsDistinct same_set) (sym held_sets) (IsDistinct-from_sorted labels_cmp (keys_of entries) ordered)

-- ---- those that are held, and those that are new

one_more : (b : Bool) (n : List Label) (ns : List (List Label)) (count : ℕ) → is_member same_set ns n ≡ b → count ≡ distinct_count same_set (n ∷ ns) →
    (b ≡ true → count ≡ distinct_count same_set ns) × (b ≡ false → count ≡ suc (distinct_count same_set ns))
one_more true n ns count e is = (λ _. is ∙ rw e refl, λ no. cc)
one_more false n ns count e is = (λ no. cc, λ _. is ∙ rw e refl)

or_right : (a b : Bool) → b ≡ true → (a || b) ≡ true
or_right true b e = refl
or_right false b e = e

count_append : (ns hs : List (List Label)) → ((n : List Label) → is_member same_set ns n ≡ true → is_member same_set hs n ≡ false) →
    distinct_count same_set (ns ++ hs) ≡ distinct_count same_set ns + distinct_count same_set hs
count_append [] hs none = omega arith
count_append (n ∷ ns) hs none =
    let rest = count_append ns hs (λ m there. none m (or_right (same_set m n) (is_member same_set ns m) there)) in
    let itself : is_member same_set (n ∷ ns) n ≡ true = rw ((eq_by_cmp_equiv labels_total).refl n) refl in
    let among : is_member same_set (ns ++ hs) n ≡ is_member same_set ns n =
    list_any-append (same_set n) ns hs ∙ ap (λ b. is_member same_set ns n || b) (none n itself) ∙ or_false (is_member same_set ns n) in
    by_cases (is_member same_set ns n)
    (λ e.
    let whole = (one_more true n (ns ++ hs) _ (among ∙ e) refl).0 refl in
    let part = (one_more true n ns _ e refl).0 refl in
    omega (arith, whole, rest, part))
    (λ e.
    let whole = (one_more false n (ns ++ hs) _ (among ∙ e) refl).1 refl in
    let part = (one_more false n ns _ e refl).1 refl in
    omega (arith, whole, rest, part))

new_or_held : (p h : Bool) → (h || p) ≡ ((p && not h) || h)
new_or_held true true = refl
new_or_held true false = refl
new_or_held false true = refl
new_or_held false false = refl

new_not_held : (p h : Bool) → (p && not h) ≡ true → h ≡ false
new_not_held true true e = sym e
new_not_held true false e = refl
new_not_held false true e = cc
new_not_held false false e = refl

module _ (held : List Item) (posted : List Alert) where
  has_alert_set : (k : List Label) → has_alert held k ≡ is_member same_set (sets_of held) k
  has_alert_set k = some_found (AlertKey k) held ∙ sym (member_sets held k)

  new_member : (k : List Label) → is_member same_set (new_sets held posted) k ≡ (is_member same_set (posted_sets posted) k && not (is_member same_set (sets_of held) k))
  new_member k =
      is_member-filter (eq_by_cmp_equiv labels_total) (λ labels. not (has_alert held labels)) k
      (λ x same. ap (λ labels. not (has_alert held labels)) (labels_exact k x ((Equal-is (labels_cmp k x)).0 same))) (posted_sets posted)
      ∙ ap (λ h. is_member same_set (posted_sets posted) k && not h) (has_alert_set k)

  none_held : (k : List Label) → is_member same_set (new_sets held posted) k ≡ true → is_member same_set (sets_of held) k ≡ false
  none_held k there = new_not_held (is_member same_set (posted_sets posted) k) (is_member same_set (sets_of held) k) (sym (new_member k) ∙ there)

  same_members : (moment : ℕ) (maker : Maker) (k : List Label) →
      is_member same_set (sets_of (all_joined held (made held moment maker posted))) k ≡ is_member same_set (new_sets held posted ++ sets_of held) k
  same_members moment maker k =
      member_sets (all_joined held (made held moment maker posted)) k ∙ any_all_joined (AlertKey k) held (made held moment maker posted)
      ∙ ap (λ b. b || any_of (AlertKey k) (made held moment maker posted)) (sym (member_sets held k))
      ∙ ap (λ b. is_member same_set (sets_of held) k || b) (any_made k held moment maker posted)
      ∙ new_or_held (is_member same_set (posted_sets posted) k) (is_member same_set (sets_of held) k)
      ∙ sym (list_any-append (same_set k) (new_sets held posted) (sets_of held) ∙ ap (λ b. b || is_member same_set (sets_of held) k) (new_member k))

  -- the alerts that are held once posted ones have come
  pub merged_count : (moment : ℕ) (maker : Maker) (entries : List (List Label × Stamped AlertDetails)) (len new : ℕ) →
      items_by alert_item entries ≡ alerts_of held → IsOrdered labels_cmp entries → len ≡ length entries → new ≡ new_count held posted →
      count_with held moment maker posted ≡ len + new
  unfolding count_with
  merged_count moment maker entries len new are ordered lens news =
      let once = once_each entries held are ordered in
      let number : distinct_count same_set (sets_of held) ≡ length entries =
      distinct_count-from_IsDistinct (eq_by_cmp_equiv labels_total) (sets_of held) once ∙ ap length (held_sets entries held are) ∙ length-keys entries in
      let all = count_sets (all_joined held (made held moment maker posted))
      ∙ length-from_keys (eq_by_cmp_equiv labels_total) (sets_of (all_joined held (made held moment maker posted))) (new_sets held posted ++ sets_of held)
      (distinct_joined held (made held moment maker posted) once) (same_members moment maker)
      ∙ count_append (new_sets held posted) (sets_of held) none_held in
      omega (arith, all, number, lens, news)
    where
      length-keys : (pairs : List (List Label × Stamped AlertDetails)) → length (map (λ e. e.0) pairs) ≡ length pairs
      length-keys [] = refl
      length-keys (pair ∷ pairs) = ap suc (length-keys pairs)
