-- Rows of flags, seen by column.
use Rattle.std.proofs.Common.{◌≡◌, ◌∙◌, ◌<◌, ◌+◌, ◌==◌, ℕ, zero, suc, not, Bool, true, false, List, All, [], ◌∷◌, ◌++◌, length, take, get_or, map, refl, sym, ap, inl, inr, arith}
use Rattle.std.specs.Global.{Vec}
use Rattle.std.specs.List.{flat_map, range_with_len}
use Rattle.std.proofs.lemmas.Bool.{cases_Bool, ne_eqb}
use Rattle.std.proofs.lemmas.List.{get_or-map, get_or_default, length-map}
use Rattle.std.proofs.lemmas.List.Elements.{All-cons, All-get_or, All-nil}
use Rattle.std.proofs.lemmas.List.FromFn.{fill_by_all, get_or-map-range_with_len, length-map-range_with_len}
use Rattle.am_labels.specs.declared.Label.{Label}
use Rattle.am_match.specs.Matchers.{MatcherText}
use Rattle.am_match.specs.Meaning.{all_take}
use Rattle.am_silence.specs.Held.{held_silence, matchers_in, taking}
use Rattle.am_silence.specs.declared.held.HeldSilence.{HeldSilence}
use Rattle.am_silence.specs.Rows.{AreRows, ids_at}

-- ---- the silences that take a label set

abbrev rows_of : List (List Label) → List HeldSilence → List (List Bool)
rows_of sets silences = map (λ (s : HeldSilence). map (all_take s.held.now.value.matchers) sets) silences

abbrev all_ids : List HeldSilence → List (List ℕ)
all_ids silences = map (λ (s : HeldSilence). s.id.now) silences

taking_at : (sets : List (List Label)) (k : ℕ) (silences : List HeldSilence) → k < length sets →
    taking (map held_silence silences) (get_or sets k []) ≡ ids_at (all_ids silences) (rows_of sets silences) k
taking_at sets k [] within = refl
taking_at sets k (s ∷ silences) within =
    let rest = taking_at sets k silences within in
    let test = all_take s.held.now.value.matchers in
    let here : get_or (map test sets) k false ≡ test (get_or sets k []) = get_or-map test sets k [] false within in
    elim (cases_Bool (test (get_or sets k []))) [
      | inl yes' ↦ rw (here, yes', ← rest) refl
      | inr no' ↦ rw (here, no', ← rest) refl
    ]

pub columns_are : (sets : List (List Label)) (silences : List HeldSilence) (count : ℕ) → count ≡ length sets →
    map (ids_at (all_ids silences) (rows_of sets silences)) (range_with_len 0 count) ≡ map (λ labels. taking (map held_silence silences) labels) sets
columns_are sets silences count long =
    let taken : List Label → List (List ℕ) = λ labels. taking (map held_silence silences) labels in
    sym (fill_by_all (ids_at (all_ids silences) (rows_of sets silences)) (map taken sets) count []
    (length-map sets taken ∙ sym long)
    (λ k below. get_or-map taken sets k [] [] (omega (arith, below, long)) ∙ taking_at sets k silences (omega (arith, below, long))))

pub rows_fit : (sets : List (List Label)) (silences : List HeldSilence) (count : ℕ) → count ≡ length sets → AreRows count (all_ids silences) (rows_of sets silences)
rows_fit sets silences count long = (
  length-map silences (λ (s : HeldSilence). map (all_take s.held.now.value.matchers) sets) ∙ sym (length-map silences (λ (s : HeldSilence). s.id.now)),
  each silences,
)
  where
    each : (silences : List HeldSilence) → All (λ (row : List Bool). length row ≡ count) (rows_of sets silences)
    each [] = All-nil (λ (row : List Bool). length row ≡ count)
    each (s ∷ silences) =
        All-cons (λ (row : List Bool). length row ≡ count) (map (all_take s.held.now.value.matchers) sets) (rows_of sets silences)
        (length-map sets (all_take s.held.now.value.matchers) ∙ sym long) (each silences)

-- ---- a column, row by row

pub ids_next : (ids : List (List ℕ)) (rows : List (List Bool)) (place i : ℕ) (id : List ℕ) → i < length rows → length rows ≡ length ids → id ≡ get_or ids i id →
    get_or (get_or rows i []) place false ≡ true →
    ids_at (take (i + 1) ids) (take (i + 1) rows) place ≡ ids_at (take i ids) (take i rows) place ++ id ∷ []
ids_next ids [] place i id within each is set = absurd (omega arith)
ids_next [] (row ∷ rows) place i id within each is set = absurd (omega (arith, each))
ids_next (x ∷ ids) (row ∷ rows) place zero id within each is set = rw (set, is) refl
ids_next (x ∷ ids) (row ∷ rows) place (suc i) id within each is set =
    let next : suc i + 1 ≡ suc (i + 1) = omega arith in
    let rest = ids_next ids rows place i id (omega (arith, within)) (omega (arith, each)) is set in
    ap (λ n. ids_at (take n (x ∷ ids)) (take n (row ∷ rows)) place) next
    ∙ elim (cases_Bool (get_or row place false)) [ inl yes' ↦ rw (yes', rest) refl | inr no' ↦ rw (no', rest) refl ]

pub ids_past : (ids : List (List ℕ)) (rows : List (List Bool)) (place i : ℕ) → i < length rows → length rows ≡ length ids →
    get_or (get_or rows i []) place false ≡ false →
    ids_at (take (i + 1) ids) (take (i + 1) rows) place ≡ ids_at (take i ids) (take i rows) place
ids_past ids [] place i within each unset = absurd (omega arith)
ids_past [] (row ∷ rows) place i within each unset = absurd (omega (arith, each))
ids_past (x ∷ ids) (row ∷ rows) place zero within each unset = rw unset refl
ids_past (x ∷ ids) (row ∷ rows) place (suc i) within each unset =
    let next : suc i + 1 ≡ suc (i + 1) = omega arith in
    let rest = ids_past ids rows place i (omega (arith, within)) (omega (arith, each)) unset in
    ap (λ n. ids_at (take n (x ∷ ids)) (take n (row ∷ rows)) place) next
    ∙ elim (cases_Bool (get_or row place false)) [ inl yes' ↦ rw (yes', rest) refl | inr no' ↦ rw (no', rest) refl ]

filled : {A : Type 0} (x : A) (xs : List A) → not (length (x ∷ xs) == 0) ≡ true
filled x xs = ap not (ne_eqb (length (x ∷ xs)) 0 (λ same. omega (arith, same)))

-- a flag in the rows
pub flag_here : (rows : List (Vec Bool)) (i place : ℕ) (row : Vec Bool) (flag other : Bool) → i < length rows → row ≡ get_or rows i row → place < length row.items →
    flag ≡ get_or row.items place other → get_or (get_or (map (λ (r : Vec Bool). r.items) rows) i []) place false ≡ flag
flag_here rows i place row flag other within is inside same =
    ap (λ (flags : List Bool). get_or flags place false)
    (get_or-map (λ (r : Vec Bool). r.items) rows i row [] within ∙ ap (λ (r : Vec Bool). r.items) (sym is))
    ∙ get_or_default row.items place false other inside ∙ sym same

-- each row reaches to the place
pub rows_reach : (count place : ℕ) (ids : List (List ℕ)) (rows : List (Vec Bool)) → AreRows count ids (map (λ (r : Vec Bool). r.items) rows) → place < count →
    (k : ℕ) (d : Vec Bool) → k < length rows → place < length (get_or rows k d).items
rows_reach count place ids rows (each, long) below k d within =
    let here : length (get_or (map (λ (r : Vec Bool). r.items) rows) k []) ≡ count =
    All-get_or (λ (row : List Bool). length row ≡ count) (map (λ (r : Vec Bool). r.items) rows) k [] (omega (arith, within, length-map rows (λ (r : Vec Bool). r.items))) long in
    let same : length (get_or (map (λ (r : Vec Bool). r.items) rows) k []) ≡ length (get_or rows k d).items = ap length (get_or-map (λ (r : Vec Bool). r.items) rows k d [] within) in
    omega (arith, here, same, below)

-- what is seen at a place
pub column_seen : (count place : ℕ) (ids : List (List ℕ)) (rows : List (List Bool)) (value : List (List (List ℕ))) → map (ids_at ids rows) (range_with_len 0 count) ≡ value →
    place < length value → (place < count) × (ids_at ids rows place ≡ get_or value place [])
column_seen count place ids rows value view below =
    let long : length value ≡ count = ap length (sym view) ∙ length-map-range_with_len (ids_at ids rows) 0 count in
    let within : place < count = omega (arith, below, long) in
    (within, sym (get_or-map-range_with_len (ids_at ids rows) 0 count place place [] within (omega arith)) ∙ ap (λ (list : List (List (List ℕ))). get_or list place []) view)

-- some row is set, so there is an identifier
pub ids_some : (ids : List (List ℕ)) (rows : List (List Bool)) (place i : ℕ) → i < length rows → length rows ≡ length ids →
    get_or (get_or rows i []) place false ≡ true → not (length (ids_at ids rows place) == 0) ≡ true
ids_some ids [] place i within each set = absurd (omega arith)
ids_some [] (row ∷ rows) place i within each set = absurd (omega (arith, each))
ids_some (x ∷ ids) (row ∷ rows) place zero within each set = rw set (filled x (ids_at ids rows place))
ids_some (x ∷ ids) (row ∷ rows) place (suc i) within each set =
    let rest = ids_some ids rows place i (omega (arith, within)) (omega (arith, each)) set in
    elim (cases_Bool (get_or row place false)) [ inl yes' ↦ rw yes' (filled x (ids_at ids rows place)) | inr no' ↦ rw no' rest ]

-- ---- what is asked

pub same_matchers : (silences : List HeldSilence) →
    flat_map (λ (ms : List MatcherText). ms) (map (λ (s : HeldSilence). s.held.now.value.matchers) silences) ≡ matchers_in (map held_silence silences)
same_matchers [] = refl
same_matchers (s ∷ silences) = ap (λ rest. s.held.now.value.matchers ++ rest) (same_matchers silences)

pub fused : {A B C : Type 0} (f : B → C) (g : A → B) (xs : List A) → map (λ x. f (g x)) xs ≡ map f (map g xs)
fused f g [] = refl
fused f g (x ∷ xs) = ap (λ rest. f (g x) ∷ rest) (fused f g xs)
