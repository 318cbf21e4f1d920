-- What a column tells of label sets, and what is left once a matcher was asked of it.
use Rattle.std.proofs.Common.{◌≡◌, ◌∙◌, ℕ, zero, suc, ◌+◌, ◌-◌, ◌<◌, ◌≤◌, ◌==◌, ◌&&◌, ◌||◌, not, Bool, Bor, Global, Vec, true, false, cond, List, All, Option, Some, [], ◌∷◌, drop, filter, length, map, get_or, replicate, take, zip, refl, sym, ap, subst, inl, inr, arith}
use Rattle.std.specs.BTreeMap.{BTreeMap}
use Rattle.std.specs.Prelude.{IsSomeAnd}
use Rattle.std.specs.Bool.{beq}
use Rattle.std.specs.List.{list_any}
use Rattle.std.specs.Option.{option_map}
use Rattle.std.specs.Str.{bytes_eq}
use Rattle.std.proofs.lemmas.Bool.{cases_Bool, ne_eqb, true≢false}
use Rattle.std.proofs.lemmas.List.{ext_get_or, length-map, length-replicate, map-append, take_all}
use Rattle.std.proofs.lemmas.List.Elements.{All-append, All-cons, All-get_or, All-nil}
use Rattle.am_column.specs.Flags.{cleared, differing, is_met_at, is_place, kept}
use Rattle.am_column.specs.Places.{AreLists, found_at, places_of}
use Rattle.am_column.proofs.FlagLemmas.{cleared_at, kept_of, length-cleared, length-kept}
use Rattle.am_column.proofs.PlacesLemmas.{found_within}
use Rattle.am_labels.specs.Labels.{has_name}
use Rattle.am_labels.specs.Sets.{IsLabelSet, value_of}
use Rattle.am_labels.specs.declared.Label.{Label}
use Rattle.am_labels.proofs.Values.{value_of-absent}
use Rattle.am_match.specs.Matchers.{MatcherText, is_on_pattern}
use Rattle.am_match.specs.Meaning.{passes, takes_labels}
use Rattle.am_match.specs.declared.matcher.Operator.{Operator}
use Rattle.am_match.specs.declared.matcher.Operator.TheVariants.{Equal, NotEqual, Match, NotMatch}
use Rattle.am_table.specs.Narrowing.{narrowed, narrowed_by}
use Rattle.am_table.specs.Columns.{IsColumnOf, IsIndexOf, IsNarrowedBy, places_with, shown_in, values_in}
use Rattle.am_table.specs.Holders.{IsWhole, Shown, holders_from, labels_named, none_hold, shown_of, with_holders}
use Rattle.am_table.specs.declared.column.Column.{Column}
use Rattle.am_table.specs.declared.column.Index.{Index}
use Rattle.am_table.specs.declared.holders.Holders.{Holders}
use Rattle.am_table.proofs.HolderLemmas.{and_true, held_any, place_any, value_there}
use Rattle.am_table.proofs.NarrowLemmas.{length-narrowed}

-- ---- flags of label sets, one by one

narrowed_flag : (m : MatcherText) (sets : List (List Label)) (flags : List Bool) (k : ℕ) → length flags ≡ length sets → k < length sets →
    get_or (narrowed m sets flags) k false ≡ (get_or flags k false && takes_labels m (get_or sets k []))
narrowed_flag m [] flags k each within = absurd (omega (arith, within))
narrowed_flag m (labels ∷ sets) [] k each within = absurd (omega (arith, each))
narrowed_flag m (labels ∷ sets) (flag ∷ flags) zero each within = refl
narrowed_flag m (labels ∷ sets) (flag ∷ flags) (suc k) each within = narrowed_flag m sets flags k (omega (arith, each)) (omega (arith, within))

narrowed_long : (m : MatcherText) (sets : List (List Label)) (flags : List Bool) → length flags ≡ length sets → length (narrowed m sets flags) ≡ length flags
narrowed_long m [] [] each = refl
narrowed_long m [] (flag ∷ flags) each = absurd (omega (arith, each))
narrowed_long m (labels ∷ sets) [] each = absurd (omega (arith, each))
narrowed_long m (labels ∷ sets) (flag ∷ flags) each = ap suc (narrowed_long m sets flags (omega (arith, each)))

pub narrowed_points : (m : MatcherText) (sets : List (List Label)) (old new : List Bool) → length old ≡ length sets → length new ≡ length old →
    ((k : ℕ) → k < length sets → get_or new k false ≡ (get_or old k false && takes_labels m (get_or sets k []))) → new ≡ narrowed m sets old
narrowed_points m sets old new each long at =
    ext_get_or false new (narrowed m sets old) (omega (arith, long, narrowed_long m sets old each))
    (λ k below.
    let within : k < length sets = omega (arith, below, long, each) in
    at k within ∙ sym (narrowed_flag m sets old k each within))

-- ---- answers of the holders

abbrev place_at : ℕ × List ℕ → ℕ
place_at h = h.0

abbrev value_at : ℕ × List ℕ → List ℕ
value_at h = h.1

-- the answers of some flags
pub row_is : (m : MatcherText) (holders : List (ℕ × List ℕ)) (flag : ℕ → Bool) →
    narrowed_by m ([] ∷ map value_at holders) (true ∷ map flag (map place_at holders))
    ≡ passes m.operator m.value [] ∷ map (λ (h : ℕ × List ℕ). flag h.0 && passes m.operator m.value h.1) holders
row_is m holders flag = ap (λ rest. passes m.operator m.value [] ∷ rest) (rows holders)
  where
    rows : (hs : List (ℕ × List ℕ)) → narrowed_by m (map value_at hs) (map flag (map place_at hs)) ≡ map (λ (h : ℕ × List ℕ). flag h.0 && passes m.operator m.value h.1) hs
    rows [] = refl
    rows (h ∷ hs) = ap (λ rest. (flag h.0 && passes m.operator m.value h.1) ∷ rest) (rows hs)

differing_any : (others : Bool) (k : ℕ) (answer : ℕ × List ℕ → Bool) (holders : List (ℕ × List ℕ)) →
    is_place k (differing others (map place_at holders) (map answer holders)) ≡ list_any (λ (h : ℕ × List ℕ). (k == h.0) && not (beq (answer h) others)) holders
differing_any others k answer holders =
    place_any k (λ (p : ℕ × Bool). p.0) (λ (p : ℕ × Bool). not (beq p.1 others)) (zip (map place_at holders) (map answer holders)) ∙ pairs holders
  where
    pairs : (hs : List (ℕ × List ℕ)) → list_any (λ (p : ℕ × Bool). (k == p.0) && not (beq p.1 others)) (zip (map place_at hs) (map answer hs))
        ≡ list_any (λ (h : ℕ × List ℕ). (k == h.0) && not (beq (answer h) others)) hs
    pairs [] = refl
    pairs (h ∷ hs) = ap (λ b. ((k == h.0) && not (beq (answer h) others)) || b) (pairs hs)

-- of an old flag, whether it was asked for, whether the label is there, and whether its value and the empty one pass
met_flag : (old flag has pass rest : Bool) → (old && flag) ≡ old → (has ≡ false → pass ≡ rest) →
    (old && cond (has && not (beq (flag && pass) rest)) (not rest) rest) ≡ (old && pass)
met_flag false flag has pass rest asked absent = refl
met_flag true false has pass rest asked absent = absurd (true≢false (sym asked))
met_flag true true true true true asked absent = refl
met_flag true true true true false asked absent = refl
met_flag true true true false true asked absent = refl
met_flag true true true false false asked absent = refl
met_flag true true false pass rest asked absent = sym (absent refl)

-- ---- places by an index

place_either : (k : ℕ) (b : Bool) (one other : List ℕ) → is_place k (cond b one other) ≡ cond b (is_place k one) (is_place k other)
place_either k true one other = refl
place_either k false one other = refl

found_or_any : (wanted value : List ℕ) (has found any : Bool) → (has ≡ false → value ≡ []) → (has ≡ true → bytes_eq [] value ≡ false) →
    found ≡ (has && bytes_eq wanted value) → any ≡ has →
    cond (length wanted == 0) any found ≡ cond (length wanted == 0) (not (bytes_eq wanted value)) (bytes_eq wanted value)
found_or_any [] value has found any absent some is_found is_any = is_any ∙ by has absent some
  where
    by : (b : Bool) → (b ≡ false → value ≡ []) → (b ≡ true → bytes_eq [] value ≡ false) → b ≡ not (bytes_eq [] value)
    by true absent some = ap not (sym (some refl))
    by false absent some = ap (λ (v : List ℕ). not (bytes_eq [] v)) (sym (absent refl))
found_or_any (byte ∷ wanted) value has found any absent some is_found is_any =
    let long : (length (byte ∷ wanted) == 0) ≡ false = ne_eqb (length (byte ∷ wanted)) 0 (λ same. omega (arith, same)) in
    rw long (is_found ∙ by has absent)
  where
    by : (b : Bool) → (b ≡ false → value ≡ []) → (b && bytes_eq (byte ∷ wanted) value) ≡ bytes_eq (byte ∷ wanted) value
    by true absent = refl
    by false absent = ap (λ (v : List ℕ). bytes_eq (byte ∷ wanted) v) (sym (absent refl))

empty_is : (wanted : List ℕ) → bytes_eq wanted [] ≡ (length wanted == 0)
empty_is [] = refl
empty_is (byte ∷ wanted) = sym (ne_eqb (length (byte ∷ wanted)) 0 (λ same. omega (arith, same)))

index_flag : (operator : Operator) (wanted value : List ℕ) (there : Bool) → is_on_pattern operator ≡ false →
    there ≡ cond (length wanted == 0) (not (bytes_eq wanted value)) (bytes_eq wanted value) →
    cond (passes operator wanted []) (not there) there ≡ passes operator wanted value
index_flag Equal wanted value there on is =
    ap (λ t. cond (bytes_eq wanted []) (not t) t) is
    ∙ ap (λ e. cond e (not (cond (length wanted == 0) (not (bytes_eq wanted value)) (bytes_eq wanted value))) (cond (length wanted == 0) (not (bytes_eq wanted value)) (bytes_eq wanted value))) (empty_is wanted)
    ∙ equal (length wanted == 0) (bytes_eq wanted value)
  where
    equal : (e q : Bool) → cond e (not (cond e (not q) q)) (cond e (not q) q) ≡ q
    equal true true = refl
    equal true false = refl
    equal false q = refl
index_flag NotEqual wanted value there on is =
    ap (λ t. cond (not (bytes_eq wanted [])) (not t) t) is
    ∙ ap (λ e. cond (not e) (not (cond (length wanted == 0) (not (bytes_eq wanted value)) (bytes_eq wanted value))) (cond (length wanted == 0) (not (bytes_eq wanted value)) (bytes_eq wanted value))) (empty_is wanted)
    ∙ differ (length wanted == 0) (bytes_eq wanted value)
  where
    differ : (e q : Bool) → cond (not e) (not (cond e (not q) q)) (cond e (not q) q) ≡ not q
    differ true q = refl
    differ false q = refl
index_flag Match wanted value there on is = absurd (true≢false on)
index_flag NotMatch wanted value there on is = absurd (true≢false on)

module _ (m : MatcherText) (sets : List (List Label)) (fine : All IsLabelSet sets) where
  abbrev pub holders_in : List (ℕ × List ℕ)
  holders_in = holders_from 0 m.name sets

  -- a flag that meets the answers is that of label sets which pass
  pub met_at : (flag : ℕ → Bool) (old : Bool) (k : ℕ) → k < length sets → (old && flag k) ≡ old →
      (old && is_met_at k (map place_at holders_in) (passes m.operator m.value [] ∷ map (λ (h : ℕ × List ℕ). flag h.0 && passes m.operator m.value h.1) holders_in))
      ≡ (old && takes_labels m (get_or sets k []))
  met_at flag old k within asked =
      let labels = get_or sets k [] in
      let has = has_name m.name labels in
      let pass = passes m.operator m.value (value_of m.name labels) in
      let rest = passes m.operator m.value [] in
      let answer : ℕ × List ℕ → Bool = λ (h : ℕ × List ℕ). flag h.0 && passes m.operator m.value h.1 in
      let found : is_place k (differing rest (map place_at holders_in) (map answer holders_in)) ≡ (has && not (beq (flag k && pass) rest)) =
      differing_any rest k answer holders_in
      ∙ held_any m.name (λ place value. not (beq (flag place && passes m.operator m.value value) rest)) 0 k k sets fine (omega arith) within in
      ap (λ b. old && cond b (not rest) rest) found
      ∙ met_flag old (flag k) has pass rest asked (λ none. ap (passes m.operator m.value) (value_of-absent m.name labels none))

  -- ---- values by an index

  parts : (hs : List (ℕ × List ℕ)) → zip (map place_at hs) (map value_at hs) ≡ hs
  parts [] = refl
  parts (h ∷ hs) = ap (λ rest. h ∷ rest) (parts hs)

  any_holder : (k : ℕ) (hs : List (ℕ × List ℕ)) → is_place k (map place_at hs) ≡ list_any (λ (h : ℕ × List ℕ). (k == h.0) && true) hs
  any_holder k [] = refl
  any_holder k (h ∷ hs) = ap (λ b. (k == h.0) || b) (any_holder k hs) ∙ ap (λ b. b || list_any (λ (o : ℕ × List ℕ). (k == o.0) && true) hs) (sym (and_true (k == h.0)))

  -- where the label sets with the value are, or with any for the empty one
  is_there : (lists : BTreeMap (Bor (List ℕ)) (Vec ℕ Global)) (k : ℕ) → k < length sets → AreLists (map place_at holders_in) (map value_at holders_in) lists →
      is_place k (places_with lists (map place_at holders_in) m.value)
      ≡ cond (length m.value == 0) (not (bytes_eq m.value (value_of m.name (get_or sets k [])))) (bytes_eq m.value (value_of m.name (get_or sets k [])))
  is_there lists k within are =
      let labels = get_or sets k [] in
      let has = has_name m.name labels in
      let found : is_place k (found_at lists m.value) ≡ (has && bytes_eq m.value (value_of m.name labels)) =
      ap (is_place k) (are m.value)
      ∙ ap (λ pairs. is_place k (map place_at (filter (λ (p : ℕ × List ℕ). bytes_eq m.value p.1) pairs))) (parts holders_in)
      ∙ place_any k place_at (λ (p : ℕ × List ℕ). bytes_eq m.value p.1) holders_in
      ∙ held_any m.name (λ place other. bytes_eq m.value other) 0 k k sets fine (omega arith) within in
      let any : is_place k (map place_at holders_in) ≡ has =
      any_holder k holders_in ∙ held_any m.name (λ place other. true) 0 k k sets fine (omega arith) within ∙ and_true has in
      place_either k (length m.value == 0) (map place_at holders_in) (found_at lists m.value)
      ∙ found_or_any m.value (value_of m.name labels) has (is_place k (found_at lists m.value)) (is_place k (map place_at holders_in))
      (value_of-absent m.name labels) (value_there m.name labels (All-get_or IsLabelSet sets k [] within fine)) found any

  -- so by the places the flags are those of label sets that pass
  pub index_at : (lists : BTreeMap (Bor (List ℕ)) (Vec ℕ Global)) (old : Bool) (k : ℕ) → k < length sets → is_on_pattern m.operator ≡ false →
      AreLists (map place_at holders_in) (map value_at holders_in) lists →
      (old && cond (passes m.operator m.value []) (not (is_place k (places_with lists (map place_at holders_in) m.value)))
      (is_place k (places_with lists (map place_at holders_in) m.value)))
      ≡ (old && takes_labels m (get_or sets k []))
  index_at lists old k within value are =
      ap (λ b. old && b)
      (index_flag m.operator m.value (value_of m.name (get_or sets k [])) (is_place k (places_with lists (map place_at holders_in) m.value)) value
      (is_there lists k within are))

-- ---- what is left

-- all flags are set, the first and one for each place
pub all_flags : (places : List ℕ) (n : ℕ) → n ≡ length places + 1 → replicate n true ≡ true ∷ map (λ place. true) places
all_flags places zero long = absurd (omega (arith, long))
all_flags places (suc n) long = ap (λ rest. true ∷ rest) (each places n (omega (arith, long)))
  where
    each : (ps : List ℕ) (k : ℕ) → k ≡ length ps → replicate k true ≡ map (λ place. true) ps
    each [] zero long = refl
    each [] (suc k) long = absurd (omega (arith, long))
    each (p ∷ ps) zero long = absurd (omega (arith, long))
    each (p ∷ ps) (suc k) long = ap (λ rest. true ∷ rest) (each ps k (omega (arith, long)))

module _ (m : MatcherText) (column : Column) (old new : List Bool) (long : length new ≡ length old) where
  -- flags that meet the answers of those that may be set
  pub narrowed_by_answers : (flag : ℕ → Bool) (row : List Bool) → row ≡ narrowed_by m (values_in column) (true ∷ map flag column.places.now) →
      ((k : ℕ) → (get_or old k false && flag k) ≡ get_or old k false) →
      ((k : ℕ) → k < length old → get_or new k false ≡ (get_or old k false && is_met_at k column.places.now row)) → IsNarrowedBy m column old new
  narrowed_by_answers flag row is asked meets sets told each =
      let holders = holders_from 0 m.name sets in
      let places : column.places.now ≡ map place_at holders = ap (λ (s : Shown). s.0) told.shown in
      let values : values_in column ≡ [] ∷ map value_at holders = ap (λ (s : Shown). s.1) told.shown in
      let answers = is
      ∙ ap (λ vs. narrowed_by m vs (true ∷ map flag column.places.now)) values
      ∙ ap (λ ps. narrowed_by m ([] ∷ map value_at holders) (true ∷ map flag ps)) places
      ∙ row_is m holders flag in
      narrowed_points m sets old new each long
      (λ k within.
      meets k (omega (arith, within, each))
      ∙ ap (λ ps. get_or old k false && is_met_at k ps row) places
      ∙ ap (λ r. get_or old k false && is_met_at k (map place_at holders) r) answers
      ∙ met_at m sets told.label_sets flag (get_or old k false) k within (asked k))

  -- flags by the places that an index has
  pub narrowed_by_places : (index : Index) → is_on_pattern m.operator ≡ false → IsIndexOf column.places.now (values_in column) index →
      ((k : ℕ) → k < length old → get_or new k false ≡ (get_or old k false && cond (passes m.operator m.value [])
      (not (is_place k (places_with index.places column.places.now m.value))) (is_place k (places_with index.places column.places.now m.value)))) →
      IsNarrowedBy m column old new
  narrowed_by_places index value are kept sets told each =
      let holders = holders_from 0 m.name sets in
      let places : column.places.now ≡ map place_at holders = ap (λ (s : Shown). s.0) told.shown in
      let values : values_in column ≡ [] ∷ map value_at holders = ap (λ (s : Shown). s.1) told.shown in
      let lists : AreLists (map place_at holders) (map value_at holders) index.places =
      λ other. are.places other ∙ ap (λ vs. places_of other column.places.now (drop 1 vs)) values ∙ ap (λ ps. places_of other ps (map value_at holders)) places in
      narrowed_points m sets old new each long
      (λ k within.
      kept k (omega (arith, within, each))
      ∙ ap (λ ps. get_or old k false && cond (passes m.operator m.value []) (not (is_place k (places_with index.places ps m.value))) (is_place k (places_with index.places ps m.value))) places
      ∙ index_at m sets told.label_sets index.places (get_or old k false) k within value lists)

-- so where those places are cleared or kept
pub narrowed_by_clearing : (m : MatcherText) (column : Column) (index : Index) (old new : List Bool) (places : List ℕ) → is_on_pattern m.operator ≡ false →
    IsIndexOf column.places.now (values_in column) index → places ≡ places_with index.places column.places.now m.value → passes m.operator m.value [] ≡ true →
    new ≡ cleared places old → IsNarrowedBy m column old new
narrowed_by_clearing m column index old new places value are at missing is =
    let there = places_with index.places column.places.now m.value in
    narrowed_by_places m column old new (ap length is ∙ length-cleared places old) index value are
    (λ k below.
    ap (λ flags. get_or flags k false) is
    ∙ cleared_at places old k
    ∙ ap (λ ps. get_or old k false && not (is_place k ps)) at
    ∙ ap (λ b. get_or old k false && cond b (not (is_place k there)) (is_place k there)) (sym missing))

pub narrowed_by_keeping : (m : MatcherText) (column : Column) (index : Index) (old new : List Bool) (places : List ℕ) → is_on_pattern m.operator ≡ false →
    IsIndexOf column.places.now (values_in column) index → places ≡ places_with index.places column.places.now m.value → passes m.operator m.value [] ≡ false →
    All (λ place. place < length old) places → new ≡ kept places old (replicate (length old) false) → IsNarrowedBy m column old new
narrowed_by_keeping m column index old new places value are at missing within is =
    let there = places_with index.places column.places.now m.value in
    narrowed_by_places m column old new
    (ap length is ∙ length-kept places old (replicate (length old) false) ∙ length-replicate (length old) false) index value are
    (λ k below.
    ap (λ flags. get_or flags k false) is
    ∙ kept_of places old k within
    ∙ ap (λ ps. get_or old k false && is_place k ps) at
    ∙ ap (λ b. get_or old k false && cond b (not (is_place k there)) (is_place k there)) (sym missing))

-- answers of all values, once they are those of an equal matcher
pub row_served : (m n : MatcherText) (column : Column) (row : List Bool) → length (values_in column) ≡ length column.places.now + 1 →
    row ≡ narrowed_by n (values_in column) (replicate (length (values_in column)) true) → n.operator ≡ m.operator → n.value ≡ m.value →
    row ≡ narrowed_by m (values_in column) (true ∷ map (λ place. true) column.places.now)
row_served m n column row long is operator value =
    let pairs = zip (values_in column) (true ∷ map (λ place. true) column.places.now) in
    is
    ∙ ap (narrowed_by n (values_in column)) (all_flags column.places.now (length (values_in column)) long)
    ∙ ap (λ o. map (λ (pair : List ℕ × Bool). pair.1 && passes o n.value pair.0) pairs) operator
    ∙ ap (λ v. map (λ (pair : List ℕ × Bool). pair.1 && passes m.operator v pair.0) pairs) value

-- as many answers as values
pub row_long : (m : MatcherText) (column : Column) (row flags : List Bool) → length column.values.now ≡ length column.places.now + 1 →
    row ≡ narrowed_by m (values_in column) flags → length flags ≡ length (values_in column) → length row ≡ length column.places.now + 1
row_long m column row flags long is each =
    omega (arith, long, ap length is, length-narrowed m (values_in column) flags each, each, length-map column.values.now (λ value. value.now))

pub flags_long : (column : Column) (row : List Bool) (flag : ℕ → Bool) → length column.values.now ≡ length column.places.now + 1 →
    row ≡ true ∷ map flag column.places.now → length row ≡ length (values_in column)
flags_long column row flag long is =
    omega (arith, long, ap length is, length-map column.places.now flag, length-map column.values.now (λ value. value.now))

-- a flag is asked where it is set
pub asked_all : (flags : List Bool) (k : ℕ) → (get_or flags k false && true) ≡ get_or flags k false
asked_all flags k = and_true (get_or flags k false)

pub asked_set : (flags : List Bool) (k : ℕ) → (get_or flags k false && get_or flags k false) ≡ get_or flags k false
asked_set flags k = same (get_or flags k false)
  where
    same : (b : Bool) → (b && b) ≡ b
    same true = refl
    same false = refl

-- where no flag is set, none is left
none_left : (m : MatcherText) (sets : List (List Label)) (flags : List Bool) → length flags ≡ length sets → list_any (λ flag. flag) flags ≡ false →
    flags ≡ narrowed m sets flags
none_left m [] [] each none = refl
none_left m [] (flag ∷ flags) each none = absurd (omega (arith, each))
none_left m (labels ∷ sets) [] each none = absurd (omega (arith, each))
none_left m (labels ∷ sets) (true ∷ flags) each none = absurd (true≢false none)
none_left m (labels ∷ sets) (false ∷ flags) each none = ap (λ rest. false ∷ rest) (none_left m sets flags (omega (arith, each)) none)

pub narrowed_none : (m : MatcherText) (column : Column) (flags : List Bool) → list_any (λ flag. flag) flags ≡ false → IsNarrowedBy m column flags flags
narrowed_none m column flags none sets told each = none_left m sets flags each none

-- the places of an index are places
pub with_within : (lists : BTreeMap (Bor (List ℕ)) (Vec ℕ Global)) (places : List ℕ) (values : List (List ℕ)) (value : List ℕ) (most : ℕ) → AreLists places values lists →
    All (λ place. place < most) places → All (λ place. place < most) (places_with lists places value)
with_within lists places values value most are fine =
    elim (cases_Bool (length value == 0)) [
      | inl empty ↦ rw empty fine
      | inr some ↦ rw (some, are value) (found_within value places values most fine)
    ]

-- ---- the label sets that a column is of

-- they have places
holders_within : (most place : ℕ) (name : List ℕ) (sets : List (List Label)) → place + length sets ≤ most →
    All (λ p. p < most) (map place_at (holders_from place name sets))
holders_within most place name [] fits = All-nil (λ p. p < most)
holders_within most place name (labels ∷ sets) fits =
    rw (map-append place_at (labels_named place name labels) (holders_from (place + 1) name sets))
    (All-append (λ p. p < most) (map place_at (labels_named place name labels)) (map place_at (holders_from (place + 1) name sets))
    (named labels) (holders_within most (place + 1) name sets (omega (arith, fits))))
  where
    named : (ls : List Label) → All (λ p. p < most) (map place_at (labels_named place name ls))
    named [] = All-nil (λ p. p < most)
    named (label ∷ ls) = elim (cases_Bool (bytes_eq name label.name)) [
      | inl on ↦ rw on (All-cons (λ p. p < most) place (map place_at (labels_named place name ls)) (omega (arith, fits)) (named ls))
      | inr off ↦ rw off (named ls)
    ]

module _ (name : List ℕ) (sets : List (List Label)) (column : Column) (told : IsColumnOf name sets column) where
  pub column_within : All (λ p. p < length sets) column.places.now
  column_within =
      subst (All (λ p. p < length sets)) (sym (ap (λ (s : Shown). s.0) told.shown)) (holders_within (length sets) 0 name sets (omega arith))

  pub column_long : length column.values.now ≡ length column.places.now + 1
  column_long =
      let places = ap (λ (s : Shown). length s.0) told.shown in
      let values = ap (λ (s : Shown). length s.1) told.shown in
      let holders = holders_from 0 name sets in
      omega (arith, places, values, length-map column.values.now (λ value. value.now), length-map holders place_at, length-map holders value_at)

-- a column of what is held under its name
pub column_of_held : (name : List ℕ) (sets : List (List Label)) (found : Option Shown) (column : Column) → All IsLabelSet sets →
    found ≡ Some (with_holders (holders_from 0 name sets) none_hold) → found ≡ Some (shown_in column) → column.name.now ≡ name →
    IsColumnOf column.name.now sets column
column_of_held name sets found column fine held shown same =
    let both : shown_in column ≡ with_holders (holders_from 0 name sets) none_hold = cc in
    rw same (record { label_sets = fine; shown = both })

-- what is held is whole
pub held_whole : (found : Option Shown) (holders : List (ℕ × List ℕ)) → found ≡ Some (with_holders holders none_hold) → IsSomeAnd found IsWhole
held_whole found holders is =
    rw is (omega (arith, length-map holders place_at, length-map holders value_at))

-- so are the holders that are found
pub found_whole : (found : Option Holders) (holders : Holders) (places : List ℕ) (values : List (Bor (List ℕ))) → Some holders ≡ found →
    IsSomeAnd (option_map shown_of found) IsWhole → places ≡ holders.places.items → values ≡ holders.values.items → length values ≡ length places + 1
found_whole found holders places values is whole as_place as_value =
    let both : length (map (λ (v : Bor (List ℕ)). v.now) holders.values.items) ≡ length holders.places.items + 1 = rw (← is) at whole in
    omega (arith, both, length-map holders.values.items (λ (v : Bor (List ℕ)). v.now), ap length as_place, ap length as_value)

pub found_shown : (found : Option Holders) (holders : Holders) (places : List ℕ) (values : List (Bor (List ℕ))) → Some holders ≡ found →
    places ≡ holders.places.items → values ≡ holders.values.items → option_map shown_of found ≡ Some (places, map (λ (v : Bor (List ℕ)). v.now) values)
found_shown found holders places values is as_place as_value =
    let shown : List ℕ → List (Bor (List ℕ)) → Option Shown = λ ps vs. Some (ps, map (λ (v : Bor (List ℕ)). v.now) vs) in
    sym (ap (option_map shown_of) is) ∙ ap (λ ps. shown ps holders.values.items) (sym as_place) ∙ ap (shown places) (sym as_value)

-- values behind the first
pub behind_first : (xs : List (Bor (List ℕ))) → 0 < length xs →
    map (λ (x : Bor (List ℕ)). x.now) (take (length xs - 1) (drop 1 xs)) ≡ drop 1 (map (λ (x : Bor (List ℕ)). x.now) xs)
behind_first [] some = absurd (omega (arith, some))
behind_first (x ∷ xs) some =
    let long : length xs ≤ length (x ∷ xs) - 1 = omega arith in
    ap (map (λ (x : Bor (List ℕ)). x.now)) (take_all (length (x ∷ xs) - 1) xs long)
