-- A piece that begins behind all that came.
use Rattle.std.proofs.Common.{◌≡◌, ℕ, zero, suc, ◌+◌, ◌-◌, ◌<◌, nat_lt, Bool, true, false, List, [], ◌∷◌, ◌++◌, Option, Some, None, Ordering, Less, Greater, length, refl, sym, ap, ◌∙◌, arith, nat_cmp}
use Rattle.std.specs.BTreeMap.{insert_entry}
use Rattle.std.specs.List.{AllByRecursion, fold, slice_get}
use Rattle.std.specs.List.Sorted.{IsStrictlySortedBy}
use Rattle.std.specs.Map.{keys_of}
use Rattle.std.specs.Option.{option_map_or}
use Rattle.std.specs.Ordering.{match_ordering}
use Rattle.std.proofs.lemmas.Bool.{false≢true}
use Rattle.std.proofs.lemmas.Bool.Decides.{nat_tests}
use Rattle.std.proofs.lemmas.List.Sums.{fold_push}
use Rattle.am_transfer.specs.Peers.{ByNumber, with_number}
use Rattle.am_transfer.specs.Pieces.{Reach, Span, begins_behind, reach_of, reach_with}

-- the last place is before this one, so each is
all_before : (n : ℕ) (es : ByNumber Span) → IsStrictlySortedBy nat_cmp (keys_of es) → begins_behind n es ≡ true → AllByRecursion (λ m. nat_cmp n m ≡ Greater) (keys_of es)
unfolding IsStrictlySortedBy
all_before n [] up last = tt
all_before n (e ∷ []) up last = (greater n e.0 last, tt)
  where
    greater : (a b : ℕ) → nat_lt b a ≡ true → nat_cmp a b ≡ Greater
    greater a b h = grind (arith, nat_tests)
all_before n (e ∷ f ∷ es) up last =
    let rest = all_before n (f ∷ es) up.1 (same_last ∙ last) in
    (before n e.0 f.0 up.0.0 rest.0, rest)
  where
    before : (a b c : ℕ) → nat_cmp b c ≡ Less → nat_cmp a c ≡ Greater → nat_cmp a b ≡ Greater
    before a b c h k = grind (arith, nat_tests)

    same_last : begins_behind n (f ∷ es) ≡ begins_behind n (e ∷ f ∷ es)
    same_last = refl

appended : (n : ℕ) (x : Span) (es : ByNumber Span) → AllByRecursion (λ m. nat_cmp n m ≡ Greater) (keys_of es) → insert_entry nat_cmp es n x ≡ es ++ (n, x) ∷ []
appended n x [] all = refl
appended n x (e ∷ es) all =
    ap (λ o. match_ordering o ((n, x) ∷ e ∷ es) ((e.0, x) ∷ es) (e ∷ insert_entry nat_cmp es n x)) all.0 ∙ ap (λ zs. e ∷ zs) (appended n x es all.1)

-- it goes on from what came
pub reach_behind : (n : ℕ) (x : Span) (es : ByNumber Span) → IsStrictlySortedBy nat_cmp (keys_of es) → begins_behind n es ≡ true → reach_with (reach_of es) (n, x) ≡ reach_of (with_number n x es)
unfolding reach_of
reach_behind n x es up last =
    let start : Reach = record { place = 0; is_complete = false } in
    sym (fold_push reach_with start es (n, x)) ∙ ap (λ zs. fold reach_with start zs) (sym (appended n x es (all_before n es up last)))

-- ---- which is the last

pub last_is : (n : ℕ) (es : ByNumber Span) (k : ℕ) (x : Span) → slice_get es (length es - 1) ≡ Some (k, x) → begins_behind n es ≡ nat_lt k n
last_is n [] k x h = absurd (cc)
last_is n (e ∷ []) k x h = ap (λ (o : Option (ℕ × Span)). option_map_or (λ (p : ℕ × Span). nat_lt p.0 n) o true) h
last_is n (e ∷ f ∷ es) k x h = last_is n (f ∷ es) k x (ap (slice_get (e ∷ f ∷ es)) place ∙ h)
  where
    place : suc (length (f ∷ es) - 1) ≡ length (e ∷ f ∷ es) - 1
    place = omega arith

pub none_is : (n : ℕ) (es : ByNumber Span) → length es ≡ 0 → begins_behind n es ≡ true
none_is n [] h = refl
none_is n (e ∷ es) h = absurd (let none : ⊥ = omega (arith, h) in none)

pub no_length : (n : ℕ) → (0 < n → false ≡ true) → n ≡ 0
no_length zero h = refl
no_length (suc n) h = absurd (false≢true (h (omega arith)))
