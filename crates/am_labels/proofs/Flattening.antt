-- Plain labels compare as their texts do.
use Rattle.std.proofs.Common.{◌≡◌, ◌<◌, ◌+◌, ℕ, Bool, true, false, not, ◌==◌, ◌&&◌, inl, inr, List, [], ◌∷◌, ◌++◌, Some, None, Ordering, length, take, get_or, arith, refl, sym, ap, ◌∙◌}
use Rattle.std.specs.Cmp.{nat_cmp_is}
use Rattle.std.specs.Cmp.Lexicographic.{slice_cmp}
use Rattle.std.specs.Ordering.{nat_cmp, ordering_then}
use Rattle.std.specs.declared.cmp.Ordering.TheVariants.{Less, Equal, Greater}
use Rattle.std.proofs.lemmas.Bool.{cases_Bool, false≢true}
use Rattle.std.proofs.lemmas.Bool.Decides.{nat_tests}
use Rattle.std.proofs.lemmas.List.{append_assoc, take_more, append-nil}
use Rattle.am_labels.specs.declared.Label.{Label}
use Rattle.am_labels.specs.Labels.{label_cmp, labels_cmp}
use Rattle.am_labels.specs.Flat.{are_plain, ended, flat, flat_text, is_plain}

then_assoc : (a b c : Ordering) → ordering_then a (ordering_then b c) ≡ ordering_then (ordering_then a b) c
then_assoc Less b c = refl
then_assoc Equal b c = refl
then_assoc Greater b c = refl

both_true : (a b : Bool) → (a && b) ≡ true → (a ≡ true) × (b ≡ true)
both_true true true h = (refl, refl)
both_true true false h = absurd (false≢true h)
both_true false b h = absurd (false≢true h)

below : (b : ℕ) → not (b == 0) ≡ true → nat_cmp 0 b ≡ Less
below b h = sym (nat_cmp_is 0 b Less (grind (arith, nat_tests)))

above : (a : ℕ) → not (a == 0) ≡ true → nat_cmp a 0 ≡ Greater
above a h = sym (nat_cmp_is a 0 Greater (grind (arith, nat_tests)))

-- an end decides where one text begins the other, and else the texts do
texts_first : (x y r s : List ℕ) → is_plain x ≡ true → is_plain y ≡ true
    → slice_cmp nat_cmp (ended x ++ r) (ended y ++ s) ≡ ordering_then (slice_cmp nat_cmp x y) (slice_cmp nat_cmp r s)
texts_first [] [] r s p q = refl
texts_first [] (b ∷ y) r s p q = rw (below b (both_true _ _ q).0) refl
texts_first (a ∷ x) [] r s p q = rw (above a (both_true _ _ p).0) refl
texts_first (a ∷ x) (b ∷ y) r s p q =
    ap (ordering_then (nat_cmp a b)) (texts_first x y r s (both_true _ _ p).1 (both_true _ _ q).1)
    ∙ then_assoc (nat_cmp a b) (slice_cmp nat_cmp x y) (slice_cmp nat_cmp r s)

nothing_first : (x s : List ℕ) → slice_cmp nat_cmp [] (ended x ++ s) ≡ Less
nothing_first [] s = refl
nothing_first (a ∷ x) s = refl

nothing_last : (x s : List ℕ) → slice_cmp nat_cmp (ended x ++ s) [] ≡ Greater
nothing_last [] s = refl
nothing_last (a ∷ x) s = refl

pub flat_cmp : (xs ys : List Label) → are_plain xs ≡ true → are_plain ys ≡ true → slice_cmp nat_cmp (flat xs) (flat ys) ≡ slice_cmp label_cmp xs ys
flat_cmp [] [] p q = refl
flat_cmp [] (b ∷ ys) p q = nothing_first b.name (ended b.value ++ flat ys)
flat_cmp (a ∷ rest) [] p q = nothing_last a.name (ended a.value ++ flat rest)
flat_cmp (a ∷ rest) (b ∷ ys) p q =
    let one = both_true (is_plain a.name && is_plain a.value) (are_plain rest) p in
    let two = both_true (is_plain b.name && is_plain b.value) (are_plain ys) q in
    let own = both_true (is_plain a.name) (is_plain a.value) one.0 in
    let other = both_true (is_plain b.name) (is_plain b.value) two.0 in
    texts_first a.name b.name (ended a.value ++ flat rest) (ended b.value ++ flat ys) own.0 other.0
    ∙ ap (ordering_then (slice_cmp nat_cmp a.name b.name))
    (texts_first a.value b.value (flat rest) (flat ys) own.1 other.1
    ∙ ap (ordering_then (slice_cmp nat_cmp a.value b.value)) (flat_cmp rest ys one.1 two.1))
    ∙ then_assoc (slice_cmp nat_cmp a.name b.name) (slice_cmp nat_cmp a.value b.value) (slice_cmp label_cmp rest ys)

-- a text stands only for plain labels
plain_if : (labels : List Label) (text : List ℕ) → flat_text labels ≡ Some text → (are_plain labels ≡ true) × (flat labels ≡ text)
unfolding flat_text
plain_if labels text h = elim (cases_Bool (are_plain labels)) [
  | inl y ↦ (y, some_same (rw y at h))
  | inr n ↦ absurd (none_some (rw n at h))
]
  where
    some_same : Some (flat labels) ≡ Some text → flat labels ≡ text
    some_same e = cc

    none_some : None ≡ Some text → ⊥
    none_some e = cc

-- and compares as they do
pub texts_cmp : (xs ys : List Label) (x y : List ℕ) → flat_text xs ≡ Some x → flat_text ys ≡ Some y → slice_cmp nat_cmp x y ≡ labels_cmp xs ys
unfolding labels_cmp
texts_cmp xs ys x y own other =
    let one = plain_if xs x own in
    let two = plain_if ys y other in
    ap (λ t. slice_cmp nat_cmp t y) (sym one.1) ∙ ap (slice_cmp nat_cmp (flat xs)) (sym two.1) ∙ flat_cmp xs ys one.0 two.0

-- ---- the text is built label by label

-- what a label adds
abbrev pub part : Label → List ℕ
part label = ended label.name ++ ended label.value

flat_behind : (labels : List Label) (l : Label) → flat (labels ++ l ∷ []) ≡ flat labels ++ part l
flat_behind [] l = ap (λ r. ended l.name ++ r) (append-nil (ended l.value))
flat_behind (k ∷ labels) l =
    ap (λ r. ended k.name ++ (ended k.value ++ r)) (flat_behind labels l)
    ∙ ap (λ r. ended k.name ++ r) (sym (append_assoc (ended k.value) (flat labels) (part l)))
    ∙ sym (append_assoc (ended k.name) (ended k.value ++ flat labels) (part l))

-- a text to which a label's name and value were added
pub flat_added : (labels : List Label) (i : ℕ) (d : Label) (old named new : List ℕ) → i < length labels → old ≡ flat (take i labels)
    → named ≡ old ++ ended (get_or labels i d).name → new ≡ named ++ ended (get_or labels i d).value → new ≡ flat (take (i + 1) labels)
flat_added labels i d old named new h was name value =
    let own = get_or labels i d in
    value ∙ ap (λ t. t ++ ended own.value) (name ∙ ap (λ t. t ++ ended own.name) was) ∙ append_assoc (flat (take i labels)) (ended own.name) (ended own.value)
    ∙ sym (ap flat (take_more labels i d h) ∙ flat_behind (take i labels) own)
