-- Names that are noted.
use Rattle.std.proofs.Common.{◌≡◌, ◌∙◌, ℕ, ◌+◌, ◌<◌, zero, suc, Bool, true, false, ◌||◌, cond, List, [], ◌∷◌, ◌++◌, length}
use Rattle.std.proofs.Common.{get_or, take, inl, inr, arith, ap, ap₂, refl, subst, sym}
use Rattle.std.specs.BTreeMap as tree
use Rattle.std.specs.BTreeSet.{BTreeSet, Updates, contains}
use Rattle.std.specs.Cmp.Lexicographic.{slice_cmp}
use Rattle.std.specs.List.{list_any}
use Rattle.std.specs.List.Sorted.{IsStrictlySortedBy}
use Rattle.std.specs.Ordering.{is_eq, nat_cmp}
use Rattle.std.specs.declared.cmp.Ordering.TheVariants.{Less}
use Rattle.std.proofs.lemmas.Bool.{cases_Bool, false≢true, or_from}
use Rattle.std.proofs.lemmas.List.{take_more}
use Rattle.std.proofs.lemmas.List.Folds.{list_any-append}
use Rattle.std.proofs.lemmas.Map.Keys.{Less-from_sorted}
use Rattle.am_tenant.specs.Names.{same}
use Rattle.am_tenant.proofs.Same.{eq_from_same, is_eq-name_cmp, same-refl, same-sym}
use Rattle.am_instance.specs.Tenants.{AreAllNoted, Notes, NotesAll, is_noted}
use Rattle.am_instance.specs.declared.instance.Instance.{Instance}

-- a look-up in the order of names is one by `same`
noted_by_name : (t : List ℕ) (names : List (List ℕ))
    → list_any (tree.is_at (slice_cmp nat_cmp t)) names ≡ is_noted t names
noted_by_name t [] = refl
noted_by_name t (name ∷ names) = ap₂ (λ a b. a || b) (is_eq-name_cmp t name) (noted_by_name t names)

neither : (a b : Bool) → (a || b) ≡ false → (a ≡ false) × (b ≡ false)
neither true b out = absurd (false≢true (sym out))
neither false b out = (refl, out)

either : (a b : Bool) → cond a true b ≡ (a || b)
either true b = refl
either false b = refl

-- one that came to a set is noted there
pub notes_one : (old new : BTreeSet (List ℕ)) (tenant : List ℕ) → Updates (slice_cmp nat_cmp) old new tenant true
    → Notes tenant old.keys new.keys
notes_one old new tenant came t =
    sym (noted_by_name t new.keys) ∙ came.0 t
    ∙ ap₂ (λ a b. cond a true b) (is_eq-name_cmp tenant t ∙ same-sym tenant t) (noted_by_name t old.keys)
    ∙ either (same t tenant) (is_noted t old.keys)

-- one more of several
pub notes_more : (tenant : List ℕ) (some old mid new : List (List ℕ))
    → ((t : List ℕ) → is_noted t mid ≡ (is_noted t some || is_noted t old)) → Notes tenant mid new
    → (t : List ℕ) → is_noted t new ≡ (is_noted t (some ++ tenant ∷ []) || is_noted t old)
notes_more tenant some old mid new so_far one t =
    one t ∙ ap (λ b. same t tenant || b) (so_far t)
    ∙ swapped (same t tenant) (is_noted t some) (is_noted t old)
    ∙ ap (λ b. b || is_noted t old) (sym (list_any-append (same t) some (tenant ∷ [])))
  where
    swapped : (a b c : Bool) → (a || (b || c)) ≡ ((b || (a || false)) || c)
    swapped true true c = refl
    swapped true false c = refl
    swapped false true c = refl
    swapped false false c = refl

-- who isn't noted then is another one, who wasn't before
pub neither_noted : (tenant : List ℕ) (old new : List (List ℕ)) → Notes tenant old new → (t : List ℕ)
    → is_noted t new ≡ false
    → (same t tenant ≡ false) × (is_noted t old ≡ false)
neither_noted tenant old new notes t out = neither (same t tenant) (is_noted t old) (sym (notes t) ∙ out)

-- .. or of several
pub neither_in : (more old new : List (List ℕ)) → NotesAll more old new → (t : List ℕ) → is_noted t new ≡ false
    → (is_noted t more ≡ false) × (is_noted t old ≡ false)
neither_in more old new notes t out = neither (is_noted t more) (is_noted t old) (sym (notes t) ∙ out)

-- who isn't among these and one more
pub neither_more : (t : List ℕ) (some : List (List ℕ)) (tenant : List ℕ) → is_noted t (some ++ tenant ∷ []) ≡ false
    → (is_noted t some ≡ false) × (same t tenant ≡ false)
neither_more t some tenant out =
    let parts = neither (is_noted t some) (same t tenant || false) (sym (list_any-append (same t) some (tenant ∷ [])) ∙ out) in
    (parts.0, (neither (same t tenant) false parts.1).0)

-- .. and who is, and isn't that one
pub noted_before : (t : List ℕ) (some : List (List ℕ)) (tenant : List ℕ) → same t tenant ≡ false
    → is_noted t (some ++ tenant ∷ []) ≡ true → is_noted t some ≡ true
noted_before t some tenant apart is =
    last (is_noted t some) (same t tenant) apart (sym (list_any-append (same t) some (tenant ∷ [])) ∙ is)
  where
    last : (a b : Bool) → b ≡ false → (a || (b || false)) ≡ true → a ≡ true
    last true b apart is = refl
    last false true apart is = absurd (false≢true (sym apart))
    last false false apart is = is

-- ---- names in order

later_apart : (x y : List ℕ) → slice_cmp nat_cmp y x ≡ Less → same x y ≡ false
later_apart x y below = elim (cases_Bool (same x y)) [
  | inl is ↦
      let one : same y x ≡ false = sym (is_eq-name_cmp y x) ∙ ap is_eq below in
      let two : same y x ≡ true = ap (λ z. same y z) (eq_from_same x y is) ∙ same-refl y in
      absurd (false≢true (sym one ∙ two))
  | inr apart ↦ apart
]

none_before : (x : List ℕ) (xs : List (List ℕ)) (i : ℕ)
    → ((j : ℕ) → j < i → j < length xs → same x (get_or xs j x) ≡ false)
    → is_noted x (take i xs) ≡ false
none_before x [] zero h = refl
none_before x [] (suc i) h = refl
none_before x (y ∷ ys) zero h = refl
none_before x (y ∷ ys) (suc i) h =
    or_from (same x y) (is_noted x (take i ys)) (h 0 (omega arith) (omega arith))
    (none_before x ys i (λ j low within. h (suc j) (omega arith) (omega arith)))

-- the next one of several in order isn't among those before
pub fresh : (x : List ℕ) (xs : List (List ℕ)) (i : ℕ) → IsStrictlySortedBy (slice_cmp nat_cmp) xs → i < length xs
    → x ≡ get_or xs i x → is_noted x (take i xs) ≡ false
fresh x xs i sorted within is =
    none_before x xs i (λ j low _. later_apart x (get_or xs j x)
    (ap (slice_cmp nat_cmp (get_or xs j x)) is ∙ Less-from_sorted (slice_cmp nat_cmp) xs j i x sorted low within))

-- who is among the first of several is one of them
pub some_noted : (t : List ℕ) (xs : List (List ℕ)) (n : ℕ) → is_noted t (take n xs) ≡ true → is_noted t xs ≡ true
some_noted t [] zero is = absurd (false≢true is)
some_noted t [] (suc n) is = absurd (false≢true is)
some_noted t (x ∷ xs) zero is = absurd (false≢true is)
some_noted t (x ∷ xs) (suc n) is = by (same t x) (some_noted t xs n) is
  where
    by : (b : Bool) → (is_noted t (take n xs) ≡ true → is_noted t xs ≡ true) → (b || is_noted t (take n xs)) ≡ true
        → (b || is_noted t xs) ≡ true
    by true rest some = refl
    by false rest some = rest some

-- the one at a place of several is one of them
pub is_there : (x : List ℕ) (xs : List (List ℕ)) (i : ℕ) → i < length xs → x ≡ get_or xs i x → is_noted x xs ≡ true
is_there x xs i within is =
    some_noted x xs (i + 1)
    (ap (is_noted x) (take_more xs i x within ∙ ap (λ y. take i xs ++ y ∷ []) (sym is))
    ∙ list_any-append (same x) (take i xs) (x ∷ []) ∙ ap (λ b. is_noted x (take i xs) || (b || false)) (same-refl x)
    ∙ at_last (is_noted x (take i xs)))
  where
    at_last : (b : Bool) → (b || true) ≡ true
    at_last true = refl
    at_last false = refl

-- what is listed is all that is noted
pub all_noted : (x : Instance) (names listed : List (List ℕ)) → names ≡ listed → listed ≡ x.tenants
    → IsStrictlySortedBy (slice_cmp nat_cmp) x.tenants → AreAllNoted names x
all_noted x names listed is all order = record {
  all = is ∙ all;
  order = subst (IsStrictlySortedBy (slice_cmp nat_cmp)) (sym (is ∙ all)) order;
}
