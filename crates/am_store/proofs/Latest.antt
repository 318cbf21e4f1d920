-- Of what is put under a key the one with the greatest stamp stays.
use Rattle.std.proofs.Common.{◌≡◌, inl, inr, ℕ, Bool, true, false, not, ◌&&◌, ◌||◌, List, [], ◌∷◌, ◌++◌, map, Option, Some, None, refl, sym, ap, ◌∙◌}
use Rattle.std.specs.List.{filter, list_any}
use Rattle.std.specs.Ordering.{is_eq, is_gt}
use Rattle.std.proofs.lemmas.Bool.{cases_Bool, cond-false, cond-true, false≢true, true≢false}
use Rattle.std.proofs.lemmas.Cmp.{upto}
use Rattle.std.specs.declared.cmp.Ordering.{Ordering}
use Rattle.std.specs.declared.cmp.Ordering.TheVariants.{Less, Equal, Greater}
use Rattle.std.specs.Ordering.{ordering_reverse}
use Rattle.std.proofs.lemmas.List.Elements.{filter-append}
use Rattle.sqlite_trees.proofs.ListLemmas.{filter-map}
use Rattle.am_tenant.specs.Names.{same}
use Rattle.am_tenant.proofs.Same.{eq_from_same}
use Rattle.am_item.specs.declared.stamp.Stamp.{Stamp}
use Rattle.am_item.specs.Key.{key_cmp}
use Rattle.am_item.specs.declared.key.ThingKey.{ThingKey as Key}
use Rattle.am_item.specs.Newest.{newest}
use Rattle.am_item.specs.Stamp.{stamp_cmp}
use Rattle.am_item.proofs.Keys.{key_same}
use Rattle.am_item.proofs.Order.{stamps_total}
use Rattle.am_share.specs.Pairs.{LeavesOthers, things_of}
use Rattle.am_store.specs.Stored.{Puts, Stored, has_key, key_in, latest, of_key, stored_at}
use Rattle.am_store.proofs.RowLists.{filter_both}

-- a stamp exceeds another
abbrev pub above : Stamp → Stamp → Bool
above a b = is_gt (stamp_cmp a b)

-- what is held reaches a stamp
abbrev pub reaches : Option Stored → Stamp → Bool
reaches None s = false
reaches (Some held) s = not (above s held.stamp)

-- one of a list does
abbrev pub any_reaches : List Stored → Stamp → Bool
any_reaches xs s = list_any (λ (y : Stored). not (above s y.stamp)) xs

upto_three : (a b c : Stamp) → above a b ≡ false → above b c ≡ false → above a c ≡ false
upto_three a b c h k = upto stamps_total a b c h k

reversed : (r s : Ordering) → r ≡ ordering_reverse s → is_gt s ≡ true → is_gt r ≡ false
reversed r Less e h = absurd (false≢true h)
reversed r Equal e h = absurd (false≢true h)
reversed r Greater e h = ap is_gt e

asym : (a b : Stamp) → above a b ≡ true → above b a ≡ false
asym a b h = reversed (stamp_cmp b a) (stamp_cmp a b) (stamps_total.antisymm b a) h

-- s isn't above b, which is above a, so it isn't above a .. the other way round
below_both : (s a b : Stamp) → above b a ≡ true → not (above s b) ≡ (not (above s a) || not (above s b))
below_both s a b up = elim (cases_Bool (above s b)) [
  | inl over ↦
      let top : above s a ≡ true = elim (cases_Bool (above s a)) [ inl it ↦ it | inr no_more ↦ absurd (true≢false (sym over ∙ upto_three s a b no_more (asym b a up))) ] in
      rw (over, top) refl
  | inr under ↦ rw under (last (not (above s a)))
]
  where
    last : (b : Bool) → true ≡ (b || true)
    last true = refl
    last false = refl

above_both : (s a b : Stamp) → above b a ≡ false → not (above s a) ≡ (not (above s a) || not (above s b))
above_both s a b down = elim (cases_Bool (above s a)) [
  | inl over ↦
      let top : above s b ≡ true = elim (cases_Bool (above s b)) [ inl it ↦ it | inr no_more ↦ absurd (true≢false (sym over ∙ upto_three s b a no_more down)) ] in
      rw (over, top) refl
  | inr under ↦ rw under refl
]

-- what stays of two reaches a stamp where one of them does
reaches-newest : (held : Option Stored) (x : Stored) (s : Stamp) → reaches (newest held x) s ≡ (reaches held s || not (above s x.stamp))
reaches-newest None x s = refl
reaches-newest (Some held) x s = elim (cases_Bool (above x.stamp held.stamp)) [
  | inl greater ↦ ap (λ o. reaches o s) (cond-true (above x.stamp held.stamp) (Some x) (Some held) greater) ∙ below_both s held.stamp x.stamp greater
  | inr smaller ↦ ap (λ o. reaches o s) (cond-false (above x.stamp held.stamp) (Some x) (Some held) smaller) ∙ above_both s held.stamp x.stamp smaller
]

or_assoc : (a b c : Bool) → ((a || b) || c) ≡ (a || (b || c))
or_assoc true b c = refl
or_assoc false b c = refl

reaches-latest : (held : Option Stored) (xs : List Stored) (s : Stamp) → reaches (latest held xs) s ≡ (reaches held s || any_reaches xs s)
reaches-latest held [] s = sym (or_false (reaches held s))
  where
    or_false : (b : Bool) → (b || false) ≡ b
    or_false true = refl
    or_false false = refl
reaches-latest held (x ∷ xs) s =
    reaches-latest (newest held x) xs s
    ∙ ap (λ b. b || any_reaches xs s) (reaches-newest held x s)
    ∙ or_assoc (reaches held s) (not (above s x.stamp)) (any_reaches xs s)

-- what is put stays out where one that is held reaches it ..
newest-reached : (held : Option Stored) (x : Stored) → reaches held x.stamp ≡ true → newest held x ≡ held
newest-reached None x h = absurd (false≢true h)
newest-reached (Some held) x h = cond-false (above x.stamp held.stamp) (Some x) (Some held) (not_back (above x.stamp held.stamp) h)
  where
    not_back : (b : Bool) → not b ≡ true → b ≡ false
    not_back true e = sym e
    not_back false e = refl

-- .. and else is what is held
newest-unreached : (held : Option Stored) (x : Stored) → reaches held x.stamp ≡ false → newest held x ≡ Some x
newest-unreached None x h = refl
newest-unreached (Some held) x h = cond-true (above x.stamp held.stamp) (Some x) (Some held) (not_back (above x.stamp held.stamp) h)
  where
    not_back : (b : Bool) → not b ≡ false → b ≡ true
    not_back true e = refl
    not_back false e = sym e

-- ---- pairs

abbrev pub Pair : Type 0
Pair = List ℕ × Stored

-- the pair is the tenant's, and has the key
abbrev pub is_at : List ℕ → Key → Pair → Bool
is_at t key p = same t p.0 && has_key key p.1

-- what a tenant has under a key
pub of_key-things : (t : List ℕ) (key : Key) (pairs : List Pair) → of_key key (things_of t pairs) ≡ map (λ (p : Pair). p.1) (filter (is_at t key) pairs)
unfolding things_of
of_key-things t key pairs =
    filter-map (λ x. has_key key x) (λ (p : Pair). p.1) (filter (λ (p : Pair). same t p.0) pairs)
    ∙ ap (map (λ (p : Pair). p.1)) (filter_both (λ (p : Pair). has_key key p.1) (λ (p : Pair). same t p.0) pairs)

-- the thing takes its key's place, and all else stays
pub record Replaces (t : List ℕ) (x : Stored) (old new : List Pair) : Type 0 where
  pub alone : filter (is_at t (key_in x.value)) new ≡ (t, x) ∷ []
  pub unseen : (test : Pair → Bool) → ((p : Pair) → is_at t (key_in x.value) p ≡ true → test p ≡ false) → filter test new ≡ filter test old

-- a tenant's pairs are no other's
pub other_tenant : (t u : List ℕ) (key : Key) → same u t ≡ false → (p : Pair) → is_at t key p ≡ true → same u p.0 ≡ false
other_tenant t u key apart p h = elim (cases_Bool (same t p.0)) [
  | inl own ↦ ap (same u) (sym (eq_from_same t p.0 own)) ∙ apart
  | inr foreign ↦ absurd (let e = rw foreign at h in false≢true e)
]

pub other_key : (t : List ℕ) (key held : Key) → is_eq (key_cmp key held) ≡ false → (p : Pair) → is_at t held p ≡ true → is_at t key p ≡ false
other_key t key held apart p h = elim (cases_Bool (same t p.0)) [
  | inl own ↦
      let has : has_key held p.1 ≡ true = rw own at h in
      rw (own, sym (key_same held (key_in p.1.value) has)) apart
  | inr foreign ↦ rw foreign refl
]

pub leaves_others : (t : List ℕ) (x : Stored) (old new : List Pair) → Replaces t x old new → LeavesOthers t old new
unfolding things_of
leaves_others t x old new r = λ u apart. ap (map (λ (p : Pair). p.1)) (r.unseen (λ p. same u p.0) (other_tenant t u (key_in x.value) apart))

one_key : (key : Key) (x : Stored) (held : Option Stored) → has_key key x ≡ true → latest held (of_key key (x ∷ [])) ≡ newest held x
one_key key x held h = ap (latest held) (cond-true (has_key key x) (x ∷ []) [] h)

no_key : (key : Key) (x : Stored) (held : Option Stored) → has_key key x ≡ false → latest held (of_key key (x ∷ [])) ≡ held
no_key key x held h = ap (latest held) (cond-false (has_key key x) (x ∷ []) [] h)

-- a thing that none of its key reaches takes their place
pub puts_new : (t : List ℕ) (x : Stored) (old new : List Pair) → Replaces t x old new → any_reaches (of_key (key_in x.value) (things_of t old)) x.stamp ≡ false → Puts t (x ∷ []) old new
unfolding stored_at
puts_new t x old new r unreached key = elim (cases_Bool (has_key key x)) [
  | inl own ↦
      let is = key_same key (key_in x.value) own in
      let now : of_key key (things_of t new) ≡ x ∷ [] =
      ap (λ k. of_key k (things_of t new)) is ∙ of_key-things t (key_in x.value) new ∙ ap (map (λ (p : Pair). p.1)) r.alone in
      let none : reaches (latest None (of_key key (things_of t old))) x.stamp ≡ false =
      reaches-latest None (of_key key (things_of t old)) x.stamp ∙ ap (λ k. any_reaches (of_key k (things_of t old)) x.stamp) is ∙ unreached in
      ap (latest None) now ∙ sym (one_key key x _ own ∙ newest-unreached (latest None (of_key key (things_of t old))) x none)
  | inr foreign ↦
      let stays : of_key key (things_of t new) ≡ of_key key (things_of t old) =
      of_key-things t key new ∙ ap (map (λ (p : Pair). p.1)) (r.unseen (is_at t key) (other_key t key (key_in x.value) foreign)) ∙ sym (of_key-things t key old) in
      ap (latest None) stays ∙ sym (no_key key x _ foreign)
]

-- a thing that one of its key reaches stays out
pub puts_none : (t : List ℕ) (x : Stored) (old : List Pair) → any_reaches (of_key (key_in x.value) (things_of t old)) x.stamp ≡ true → Puts t (x ∷ []) old old
unfolding stored_at
puts_none t x old reached key = elim (cases_Bool (has_key key x)) [
  | inl own ↦
      let is = key_same key (key_in x.value) own in
      let some : reaches (latest None (of_key key (things_of t old))) x.stamp ≡ true =
      reaches-latest None (of_key key (things_of t old)) x.stamp ∙ ap (λ k. any_reaches (of_key k (things_of t old)) x.stamp) is ∙ reached in
      sym (one_key key x _ own ∙ newest-reached (latest None (of_key key (things_of t old))) x some)
  | inr foreign ↦ sym (no_key key x _ foreign)
]

latest-append : (held : Option Stored) (xs ys : List Stored) → latest held (xs ++ ys) ≡ latest (latest held xs) ys
latest-append held [] ys = refl
latest-append held (x ∷ xs) ys = latest-append (newest held x) xs ys

of_key-append : (key : Key) (xs ys : List Stored) → of_key key (xs ++ ys) ≡ of_key key xs ++ of_key key ys
of_key-append key xs ys = filter-append (λ x. has_key key x) xs ys

-- puts, one after the other
pub puts_then : (t : List ℕ) (xs ys : List Stored) (a b c : List Pair) → Puts t xs a b → Puts t ys b c → Puts t (xs ++ ys) a c
puts_then t xs ys a b c one two key =
    two key ∙ ap (λ o. latest o (of_key key ys)) (one key)
    ∙ sym (ap (latest (stored_at t key a)) (of_key-append key xs ys) ∙ latest-append (stored_at t key a) (of_key key xs) (of_key key ys))

pub others_then : (t : List ℕ) (a b c : List Pair) → LeavesOthers t a b → LeavesOthers t b c → LeavesOthers t a c
others_then t a b c one two = λ u apart. two u apart ∙ one u apart
