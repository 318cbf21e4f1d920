-- What the refused texts are after one more is noted.
use Rattle.std.proofs.Common.{◌≡◌, ℕ, List, [], ◌∷◌, ◌++◌, Bool, true, false, ◌||◌, ◌&&◌, map, refl, sym, ap, ◌∙◌, inl, inr, append-nil}
use Rattle.std.specs.List.{list_any}
use Rattle.std.specs.Str.{bytes_eq}
use Rattle.std.proofs.lemmas.Bool.{cases_Bool}
use Rattle.std.proofs.lemmas.List.Elements.{filter-append, All-nil, All-cons}
use Rattle.std.proofs.lemmas.List.Folds.{list_any-append}
use Rattle.std.proofs.lemmas.Map.Views.{any-filter_same}
use Rattle.std.proofs.lemmas.Slice.Eq.{bytes_eq-Decides}
use Rattle.am_pattern.specs.Cache.{Cache}
use Rattle.am_pattern.specs.Taking.{IsPattern, is_pattern}
use Rattle.am_pattern.specs.Refused.{has_text, noted, patterns_among, with_text}
use Rattle.am_pattern.specs.Asking.{Grows}
use Rattle.am_pattern.proofs.Decided.{IsPattern-from_test, test-from_IsPattern, list_any-map}
use Rattle.std.proofs.lemmas.List.{map-append}
use Rattle.indexmap.specs.IndexSet.{insert_key}

-- a text that is a pattern is among the patterns where it is among all
pub among_patterns : (raw : List (List ℕ)) (p : List ℕ) (b : Bool) → is_pattern p ≡ b →
    has_text (patterns_among raw) p ≡ (b && has_text raw p)
among_patterns raw p b e =
    any-filter_same (λ t. bytes_eq p t) is_pattern b (λ k h. ap is_pattern (sym ((bytes_eq-Decides p k).0 h)) ∙ e) raw

-- a known text changes nothing
pub noted_known : (raw : List (List ℕ)) (p : List ℕ) → has_text raw p ≡ true → patterns_among raw ≡ noted (patterns_among raw) p
noted_known raw p there =
    elim (cases_Bool (is_pattern p)) [
      | inl is ↦ rw (is, among_patterns raw p true is, there) refl
      | inr isnt ↦ rw isnt refl
    ]

-- a new one is added, where it is a pattern
pub noted_new : (raw : List (List ℕ)) (p : List ℕ) → has_text raw p ≡ false →
    patterns_among (raw ++ p ∷ []) ≡ noted (patterns_among raw) p
noted_new raw p new =
    elim (cases_Bool (is_pattern p)) [
      | inl is ↦ rw (filter-append, is, among_patterns raw p true is, new) refl
      | inr isnt ↦ rw (filter-append, isnt) (append-nil (patterns_among raw))
    ]

-- what is no pattern is not noted
pub noted_none : (texts : List (List ℕ)) (p : List ℕ) → (¬ IsPattern p) → texts ≡ noted texts p
noted_none texts p none =
    elim (cases_Bool (is_pattern p)) [
      | inl is ↦ absurd (none (IsPattern-from_test p is))
      | inr isnt ↦ rw isnt refl
    ]

or_true : (b : Bool) → (b || true) ≡ true
or_true true = refl
or_true false = refl

-- a pattern is there once it was noted
pub noted_there : (texts : List (List ℕ)) (p : List ℕ) → IsPattern p → has_text (noted texts p) p ≡ true
noted_there texts p pattern =
    rw (test-from_IsPattern p pattern)
    (elim (cases_Bool (has_text texts p)) [
      | inl there ↦ rw (there, there)
      | inr new ↦ rw (new, list_any-append, (bytes_eq-Decides p p).1 refl) (or_true (has_text texts p))
    ])

-- noting only adds patterns
pub grows-noted : (old new : Cache) (p : List ℕ) → new.refused ≡ noted old.refused p → new.capacity ≡ old.capacity → Grows old new
grows-noted old new p refused capacity =
    elim (cases_Bool (is_pattern p)) [
      | inr isnt ↦ record { more = []; refused = rw isnt at refused ∙ sym (append-nil old.refused); patterns = All-nil IsPattern; capacity = capacity }
      | inl is ↦ elim (cases_Bool (has_text old.refused p)) [
        | inl there ↦ record { more = []; refused = rw (is, there) at refused ∙ sym (append-nil old.refused); patterns = All-nil IsPattern; capacity = capacity }
        | inr new ↦ record { more = p ∷ []; refused = rw (is, new) at refused; patterns = All-cons IsPattern p [] (IsPattern-from_test p is) (All-nil IsPattern); capacity = capacity }
      ]
    ]

-- a key that is put to others in order is noted with its text
pub noted_inserted : {K : Type 0} (text : K → List ℕ) (ks : List K) (k : K) (p : List ℕ) → text k ≡ p → has_text (map text ks) p ≡ false →
    patterns_among (map text (insert_key (λ x y. bytes_eq (text x) (text y)) ks k)) ≡ noted (patterns_among (map text ks)) p
noted_inserted text ks k p key new =
    let absent : list_any (λ y. bytes_eq p (text y)) ks ≡ false = sym (list_any-map (bytes_eq p) text ks) ∙ new in
    rw (key, absent, map-append, key) (noted_new (map text ks) p new)

-- a known text leaves all that are held
pub held_known : (raw : List (List ℕ)) (p : List ℕ) → has_text raw p ≡ true → raw ≡ with_text raw p
held_known raw p there = rw there refl

-- a key that is put to others in order is held with its text
pub held_inserted : {K : Type 0} (text : K → List ℕ) (ks : List K) (k : K) (p : List ℕ) → text k ≡ p → has_text (map text ks) p ≡ false →
    map text (insert_key (λ x y. bytes_eq (text x) (text y)) ks k) ≡ with_text (map text ks) p
held_inserted text ks k p key new =
    let absent : list_any (λ y. bytes_eq p (text y)) ks ≡ false = sym (list_any-map (bytes_eq p) text ks) ∙ new in
    rw (key, absent, map-append, key, new) refl
