-- Rows follow what is held.
use Rattle.std.proofs.Common.{◌≡◌, inl, inr, ℕ, Bool, true, false, cond, not, List, [], ◌∷◌, Option, Some, None, refl, sym, ap, ◌∙◌, subst}
use Rattle.std.specs.List.{filter}
use Rattle.std.specs.List.Sorted.{IsStrictlySortedBy}
use Rattle.std.proofs.lemmas.Bool.{cases_Bool, cond-false, cond-true}
use Rattle.am_item.specs.Best.{IsRising, all_joined, best, item_at, joined}
use Rattle.am_item.specs.Key.{Key, exceeds, has_key, key_in, key_of}
use Rattle.am_item.specs.declared.item.Item.{Item}
use Rattle.am_item.specs.declared.item.Thing.{Thing}
use Rattle.am_item.specs.declared.item.Thing.TheVariants as thing
use Rattle.am_item.specs.declared.key.ThingKey.TheVariants.{Configuration as ConfigurationKey, Silence as SilenceKey, Alert as AlertKey, SentEntry as SentEntryKey}
use Rattle.am_item.proofs.Greatest.{by_cases, later}
use Rattle.am_item.proofs.Joined.{at-joined, rising-joined, with_item}
use Rattle.am_item.proofs.Keys.{key_same}
use Rattle.am_item.proofs.Meaning.{at_keyed}
use Rattle.am_item.proofs.Rising.{AllAbove, here_at, later_at, none_above, rising_same}
use Rattle.am_item.proofs.BestLaws.{rising-best}
use Rattle.am_share.specs.Pairs.{things_of}
use Rattle.am_rows.specs.Rows.{is_kept, is_stored, put_rows, rows_of, stored_in, without_key}

-- ---- look-ups in what a test leaves

-- what is left of a look-up
abbrev pub sifted : (Item → Bool) → Option Item → Option Item
sifted p None = None
sifted p (Some x) = cond (p x) (Some x) None

above_filter : (p : Item → Bool) (k : Key) (xs : List Item) → AllAbove k xs → AllAbove k (filter p xs)
above_filter p k [] all = tt
above_filter p k (x ∷ xs) all =
    by_cases (p x)
    (λ e. subst (AllAbove k) (sym (cond-true _ (x ∷ filter p xs) (filter p xs) e)) (all.0, above_filter p k xs all.1))
    (λ e. subst (AllAbove k) (sym (cond-false _ (x ∷ filter p xs) (filter p xs) e)) (above_filter p k xs all.1))

pub rising-filter : (p : Item → Bool) (xs : List Item) → IsRising xs → IsRising (filter p xs)
unfolding IsStrictlySortedBy
rising-filter p [] up = tt
rising-filter p (x ∷ xs) up =
    by_cases (p x)
    (λ e. subst (λ zs. IsRising zs) (sym (cond-true _ (x ∷ filter p xs) (filter p xs) e)) (above_filter p (key_of x) xs up.0, rising-filter p xs up.1))
    (λ e. subst (λ zs. IsRising zs) (sym (cond-false _ (x ∷ filter p xs) (filter p xs) e)) (rising-filter p xs up.1))

pub at-filter : (p : Item → Bool) (k : Key) (xs : List Item) → IsRising xs → item_at k (filter p xs) ≡ sifted p (item_at k xs)
unfolding IsStrictlySortedBy
at-filter p k [] up = refl
at-filter p k (y ∷ ys) up =
    let rest = filter p ys in
    by_cases (has_key k y)
    (λ h.
    let above : AllAbove k ys = subst (λ q. AllAbove q ys) (sym (key_same k (key_of y) h)) up.0 in
    by_cases (p y)
    (λ e.
    ap (item_at k) (cond-true _ (y ∷ rest) rest e) ∙ here_at k y rest h
    ∙ sym (ap (sifted p) (here_at k y ys h) ∙ cond-true _ (Some y) None e))
    (λ e.
    ap (item_at k) (cond-false _ (y ∷ rest) rest e) ∙ none_above k rest (above_filter p k ys above)
    ∙ sym (ap (sifted p) (here_at k y ys h) ∙ cond-false _ (Some y) None e)))
    (λ h.
    by_cases (p y)
    (λ e. ap (item_at k) (cond-true _ (y ∷ rest) rest e) ∙ later_at k y rest h ∙ at-filter p k ys up.1 ∙ sym (ap (sifted p) (later_at k y ys h)))
    (λ e. ap (item_at k) (cond-false _ (y ∷ rest) rest e) ∙ at-filter p k ys up.1 ∙ sym (ap (sifted p) (later_at k y ys h))))

-- ---- what is stored goes by the kind of its key

abbrev pub is_kind : Key → Bool
is_kind ConfigurationKey = true
is_kind (SilenceKey id) = true
is_kind (AlertKey labels) = false
is_kind (SentEntryKey entry) = false

pub by_kind : (t : Thing) → is_kept t ≡ is_kind (key_in t)
by_kind (thing.Configuration text) = refl
by_kind (thing.Silence silence) = refl
by_kind (thing.Alert alert) = refl
by_kind (thing.SentEntry entry) = refl

-- an item that is found has the key of one that is looked for
same_kind : (k : Key) (x y : Item) → key_of x ≡ k → has_key k y ≡ true → is_stored x ≡ is_stored y
same_kind k x y keyed has = by_kind x.thing ∙ ap is_kind (keyed ∙ key_same k (key_of y) has) ∙ sym (by_kind y.thing)

-- one that is stored joins what is stored
comes : (k : Key) (o : Option Item) (y : Item) → ((x : Item) → o ≡ Some x → key_of x ≡ k) → is_stored y ≡ true
    → with_item k (sifted is_stored o) y ≡ sifted is_stored (with_item k o y)
comes k o y keyed is = elim (cases_Bool (has_key k y)) [
  | inr other ↦ cond-false _ _ _ other ∙ sym (ap (sifted is_stored) (cond-false _ _ _ other))
  | inl here ↦ cond-true _ _ _ here ∙ both o keyed here ∙ sym (ap (sifted is_stored) (cond-true _ _ _ here))
]
  where
    both : (o : Option Item) → ((x : Item) → o ≡ Some x → key_of x ≡ k) → has_key k y ≡ true
        → later (sifted is_stored o) (Some y) ≡ sifted is_stored (later o (Some y))
    both None keyed here = sym (cond-true (is_stored y) (Some y) None is)
    both (Some x) keyed here =
        let is_x : is_stored x ≡ true = same_kind k x y (keyed x refl) here ∙ is in
        ap (λ o. later o (Some y)) (cond-true (is_stored x) (Some x) None is_x)
        ∙ elim (cases_Bool (exceeds y x)) [
          | inl more ↦ cond-true _ (Some y) (Some x) more ∙ sym (ap (sifted is_stored) (cond-true _ (Some y) (Some x) more) ∙ cond-true (is_stored y) (Some y) None is)
          | inr less ↦ cond-false _ (Some y) (Some x) less ∙ sym (ap (sifted is_stored) (cond-false _ (Some y) (Some x) less) ∙ cond-true (is_stored x) (Some x) None is_x)
        ]

-- one that isn't leaves it as it is
passes : (k : Key) (o : Option Item) (y : Item) → ((x : Item) → o ≡ Some x → key_of x ≡ k) → is_stored y ≡ false
    → sifted is_stored o ≡ sifted is_stored (with_item k o y)
passes k o y keyed not = elim (cases_Bool (has_key k y)) [
  | inr other ↦ sym (ap (sifted is_stored) (cond-false _ _ _ other))
  | inl here ↦ both o keyed here ∙ sym (ap (sifted is_stored) (cond-true _ _ _ here))
]
  where
    both : (o : Option Item) → ((x : Item) → o ≡ Some x → key_of x ≡ k) → has_key k y ≡ true
        → sifted is_stored o ≡ sifted is_stored (later o (Some y))
    both None keyed here = sym (cond-false (is_stored y) (Some y) None not)
    both (Some x) keyed here =
        let not_x : is_stored x ≡ false = same_kind k x y (keyed x refl) here ∙ not in
        cond-false (is_stored x) (Some x) None not_x
        ∙ elim (cases_Bool (exceeds y x)) [
          | inl more ↦ sym (ap (sifted is_stored) (cond-true _ (Some y) (Some x) more) ∙ cond-false (is_stored y) (Some y) None not)
          | inr less ↦ sym (ap (sifted is_stored) (cond-false _ (Some y) (Some x) less) ∙ cond-false (is_stored x) (Some x) None not_x)
        ]

pub joined_stored : (held : List Item) (y : Item) → IsRising held → is_stored y ≡ true → joined (filter is_stored held) y ≡ filter is_stored (joined held y)
joined_stored held y up is =
    rising_same _ _ (rising-joined (filter is_stored held) y) (rising-filter is_stored (joined held y) (rising-joined held y))
    (λ k.
    at-joined k (filter is_stored held) y (rising-filter is_stored held up)
    ∙ ap (λ o. with_item k o y) (at-filter is_stored k held up)
    ∙ comes k (item_at k held) y (at_keyed k held) is
    ∙ sym (at-filter is_stored k (joined held y) (rising-joined held y) ∙ ap (sifted is_stored) (at-joined k held y up)))

pub joined_unstored : (held : List Item) (y : Item) → IsRising held → is_stored y ≡ false → filter is_stored held ≡ filter is_stored (joined held y)
joined_unstored held y up not =
    rising_same _ _ (rising-filter is_stored held up) (rising-filter is_stored (joined held y) (rising-joined held y))
    (λ k.
    at-filter is_stored k held up
    ∙ passes k (item_at k held) y (at_keyed k held) not
    ∙ sym (at-filter is_stored k (joined held y) (rising-joined held y) ∙ ap (sifted is_stored) (at-joined k held y up)))

-- what is put where what is held is stored is what is held then
pub put_follows : (held items : List Item) → IsRising held → put_rows items (stored_in held) ≡ stored_in (all_joined held items)
unfolding put_rows stored_in
put_follows held [] up = refl
put_follows held (y ∷ ys) up = elim (cases_Bool (is_stored y)) [
  | inl is ↦
      ap (all_joined (filter is_stored held)) (cond-true _ (y ∷ filter is_stored ys) (filter is_stored ys) is)
      ∙ ap (λ xs. all_joined xs (filter is_stored ys)) (joined_stored held y up is)
      ∙ put_follows (joined held y) ys (rising-joined held y)
  | inr not ↦
      ap (all_joined (filter is_stored held)) (cond-false _ (y ∷ filter is_stored ys) (filter is_stored ys) not)
      ∙ ap (λ xs. all_joined xs (filter is_stored ys)) (joined_unstored held y up not)
      ∙ put_follows (joined held y) ys (rising-joined held y)
]

-- two tests, in either order
pub filter_swap : {X : Type 0} (p q : X → Bool) (xs : List X) → filter p (filter q xs) ≡ filter q (filter p xs)
filter_swap p q [] = refl
filter_swap p q (x ∷ xs) = elim (cases_Bool (p x)) [
  | inl hit ↦ elim (cases_Bool (q x)) [
    | inl too ↦ rw (hit, too) (rw hit (ap (λ zs. x ∷ zs) (filter_swap p q xs)))
    | inr lacks ↦ rw (hit, lacks) (filter_swap p q xs)
  ]
  | inr none ↦ elim (cases_Bool (q x)) [
    | inl too ↦ rw (none, too) (rw none (filter_swap p q xs))
    | inr lacks ↦ rw (none, lacks) (filter_swap p q xs)
  ]
]

pub drop_follows : (key : Key) (held : List Item) → without_key key (stored_in held) ≡ stored_in (filter (λ item. not (has_key key item)) held)
unfolding stored_in
drop_follows key held = filter_swap (λ item. not (has_key key item)) is_stored held

-- ---- rows

pub stored_twice : (xs : List Item) → stored_in (stored_in xs) ≡ stored_in xs
unfolding stored_in
stored_twice [] = refl
stored_twice (x ∷ xs) = elim (cases_Bool (is_stored x)) [
  | inl is ↦ ap (filter is_stored) (cond-true _ (x ∷ filter is_stored xs) (filter is_stored xs) is) ∙ cond-true _ (x ∷ filter is_stored (filter is_stored xs)) (filter is_stored (filter is_stored xs)) is
      ∙ ap (λ zs. x ∷ zs) (stored_twice xs) ∙ sym (cond-true _ (x ∷ filter is_stored xs) (filter is_stored xs) is)
  | inr not ↦ ap (filter is_stored) (cond-false _ (x ∷ filter is_stored xs) (filter is_stored xs) not) ∙ stored_twice xs ∙ sym (cond-false _ (x ∷ filter is_stored xs) (filter is_stored xs) not)
]

pub rows_stored : (t : List ℕ) (pairs : List (List ℕ × Item)) → stored_in (rows_of t pairs) ≡ rows_of t pairs
unfolding rows_of
rows_stored t pairs = stored_twice (best (things_of t pairs))

pub rows_rise : (t : List ℕ) (pairs : List (List ℕ × Item)) → IsRising (rows_of t pairs)
unfolding rows_of stored_in
rows_rise t pairs = rising-filter is_stored (best (things_of t pairs)) (rising-best (things_of t pairs))

-- what isn't stored has no row
pub unstored_absent : (key : Key) → is_kind key ≡ false → (xs : List Item) → without_key key (stored_in xs) ≡ stored_in xs
unfolding stored_in
unstored_absent key kind [] = refl
unstored_absent key kind (x ∷ xs) = elim (cases_Bool (is_stored x)) [
  | inl is ↦
      ap (without_key key) (cond-true _ (x ∷ filter is_stored xs) (filter is_stored xs) is)
      ∙ cond-true _ (x ∷ without_key key (filter is_stored xs)) (without_key key (filter is_stored xs)) (apart is)
      ∙ ap (λ zs. x ∷ zs) (unstored_absent key kind xs)
      ∙ sym (cond-true _ (x ∷ filter is_stored xs) (filter is_stored xs) is)
  | inr not ↦
      ap (without_key key) (cond-false _ (x ∷ filter is_stored xs) (filter is_stored xs) not) ∙ unstored_absent key kind xs
      ∙ sym (cond-false _ (x ∷ filter is_stored xs) (filter is_stored xs) not)
]
  where
    apart : is_stored x ≡ true → not (has_key key x) ≡ true
    apart is = elim (cases_Bool (has_key key x)) [
      | inl here ↦ absurd (let clash : true ≡ false = sym is ∙ by_kind x.thing ∙ ap is_kind (sym (key_same key (key_of x) here)) ∙ kind in cc)
      | inr other ↦ ap not other
    ]

pub rows_lack : (key : Key) → is_kind key ≡ false → (t : List ℕ) (pairs : List (List ℕ × Item)) → without_key key (rows_of t pairs) ≡ rows_of t pairs
unfolding rows_of
rows_lack key kind t pairs = unstored_absent key kind (best (things_of t pairs))
