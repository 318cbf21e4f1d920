-- Tables of answers, matcher by matcher.
use Rattle.std.proofs.Common.{◌≡◌, ◌≢◌, ◌∙◌, ℕ, suc, zero, ◌+◌, ◌<◌, ◌==◌, ◌&&◌, ◌||◌, not, Bool, true, false, List, All, [], ◌∷◌, ◌++◌, Vec, Global, length, map, take, get_or, slice_set, replicate, length-append, refl, sym, ap, subst, inl, inr, arith}
use Rattle.std.specs.List.{Contains}
use Rattle.std.specs.List.Sorted.{IsPermutation}
use Rattle.std.proofs.lemmas.Bool.{cases_Bool, cases_eq, ne_eqb, eq-eqb, true≢false}
use Rattle.std.proofs.lemmas.List.{ext_get_or, get_or-map, get_or-set_other, get_or-set_same, length-map, length-set}
use Rattle.std.proofs.lemmas.List.Elements.{All-append, All-cons, All-get_or, All-nil}
use Rattle.std.proofs.lemmas.List.Folds.{list_all_more}
use Rattle.am_labels.specs.declared.Label.{Label}
use Rattle.am_match.specs.Matchers.{MatcherText}
use Rattle.am_match.specs.Meaning.{all_take, passes, takes_labels}
use Rattle.am_table.specs.Narrowing.{narrowed, narrowed_by}
use Rattle.am_table.proofs.NarrowLemmas.{length-narrowed}
use Rattle.am_column.specs.Alike.{AreAlike}
use Rattle.am_table.specs.Tables.{IsTable, answer_of, questions_from}
use Rattle.am_table.proofs.QuestionLemmas.{all_in_any_order, and_true, answer_from}

-- ---- one matcher

-- a flag of those that are left
flag_of : (m : MatcherText) (values : List (List ℕ)) (flags : List Bool) (place : ℕ) → length flags ≡ length values → place < length values →
    get_or (narrowed_by m values flags) place false ≡ (get_or flags place false && passes m.operator m.value (get_or values place []))
flag_of m [] flags place each within = absurd (omega arith)
flag_of m (value ∷ values) [] place each within = absurd (omega (arith, each))
flag_of m (value ∷ values) (flag ∷ flags) zero each within = refl
flag_of m (value ∷ values) (flag ∷ flags) (suc place) each within = flag_of m values flags place (omega (arith, each)) (omega (arith, within))

module _ (values : List (List ℕ)) (alike : List ℕ) (h : AreAlike values alike) where
  -- each value has a place
  pub as_many : length alike ≡ length values
  as_many = sym (length-map alike (λ place. get_or values place [])) ∙ ap length h.1

  first_fits : (k : ℕ) → k < length values → get_or alike k 0 < length values
  first_fits k within = All-get_or (λ place. place < length values) alike k 0 (omega (arith, as_many, within)) h.0

  first_same : (k : ℕ) → k < length values → get_or values (get_or alike k 0) [] ≡ get_or values k []
  first_same k within =
      sym (get_or-map (λ place. get_or values place []) alike k 0 [] (omega (arith, as_many, within))) ∙ ap (λ (list : List (List ℕ)). get_or list k []) h.1

  -- where the places that are asked stand for the others, the others are left as if they were asked
  pub left_narrowed : (m : MatcherText) (taken firsts left : List Bool) → length taken ≡ length values → length firsts ≡ length taken →
      ((k : ℕ) → k < length taken → get_or taken k false ≡ true → get_or firsts (get_or alike k 0) false ≡ true) → length left ≡ length taken →
      ((k : ℕ) → k < length taken → get_or left k false ≡ (get_or taken k false && get_or (narrowed_by m values firsts) (get_or alike k 0) false)) →
      left ≡ narrowed_by m values taken
  left_narrowed m taken firsts left each as_first stands as_left is =
      ext_get_or false left (narrowed_by m values taken)
      (omega (arith, as_left, each, length-narrowed m values taken each))
      (λ k below.
      let within : k < length values = omega (arith, below, as_left, each) in
      let inside : k < length taken = omega (arith, below, as_left) in
      let asked = flag_of m values firsts (get_or alike k 0) (omega (arith, as_first, each)) (first_fits k within) in
      let own = flag_of m values taken k each within in
      is k inside
      ∙ ap (λ b. get_or taken k false && b) asked
      ∙ elim (cases_Bool (get_or taken k false)) [
        | inl set ↦
            ap (λ b. b && (get_or firsts (get_or alike k 0) false && passes m.operator m.value (get_or values (get_or alike k 0) []))) set
            ∙ ap (λ b. b && passes m.operator m.value (get_or values (get_or alike k 0) [])) (stands k inside set)
            ∙ ap (passes m.operator m.value) (first_same k within)
            ∙ sym (own ∙ ap (λ b. b && passes m.operator m.value (get_or values k [])) set)
        | inr off ↦
            ap (λ b. b && (get_or firsts (get_or alike k 0) false && passes m.operator m.value (get_or values (get_or alike k 0) []))) off
            ∙ sym (own ∙ ap (λ b. b && passes m.operator m.value (get_or values k [])) off)
      ])

-- ---- the table

-- rows that take all
pub all_true : {A : Type 0} (xs : List A) (flags : List Bool) → flags ≡ replicate (length xs) true → flags ≡ map (λ x. true) xs
all_true xs flags is = is ∙ same xs
  where
    same : {A : Type 0} (xs : List A) → replicate (length xs) true ≡ map (λ x. true) xs
    same [] = refl
    same (x ∷ xs) = ap (λ rest. true ∷ rest) (same xs)

pub rows_more : {A : Type 0} (xs : List A) (rows after : List (Vec Bool Global)) (row : Vec Bool Global) (count : ℕ) →
    (length rows ≡ count) × All (λ (r : Vec Bool Global). r.items ≡ map (λ x. true) xs) rows → after ≡ rows ++ row ∷ [] → row.items ≡ replicate (length xs) true →
    (length after ≡ count + 1) × All (λ (r : Vec Bool Global). r.items ≡ map (λ x. true) xs) after
rows_more xs rows after row count (long, fine) more is =
    let P : Vec Bool Global → Type 0 = λ (r : Vec Bool Global). r.items ≡ map (λ x. true) xs in (
      omega (arith, ap length more, length-append rows (row ∷ []), long),
      subst (λ (list : List (Vec Bool Global)). All P list) (sym more)
          (All-append P rows (row ∷ []) fine (All-cons P row [] (all_true xs row.items is) (All-nil P))),
    )

-- one matcher more was asked
abbrev counted : ℕ × MatcherText → ℕ → List Label → Bool
counted q number labels = not (q.0 == number) || takes_labels q.1 labels

module _ (sets : List (List Label)) (qs : List (ℕ × MatcherText)) (k : ℕ) (q : ℕ × MatcherText) (within : k < length qs) (is : q ≡ get_or qs k q) where
  answer_more : (number : ℕ) (labels : List Label) → answer_of (take (k + 1) qs) number labels ≡ (answer_of (take k qs) number labels && counted q number labels)
  answer_more number labels =
      list_all_more (λ p. counted p number labels) qs k q within
      ∙ ap (λ p. answer_of (take k qs) number labels && counted p number labels) (sym is)

  own_more : (number : ℕ) → q.0 ≡ number → (xs : List (List Label)) → narrowed q.1 xs (map (answer_of (take k qs) number) xs) ≡ map (answer_of (take (k + 1) qs) number) xs
  own_more number same [] = refl
  own_more number same (x ∷ xs) =
      let here : answer_of (take (k + 1) qs) number x ≡ (answer_of (take k qs) number x && takes_labels q.1 x) =
      answer_more number x ∙ ap (λ b. answer_of (take k qs) number x && (not b || takes_labels q.1 x)) (eq-eqb q.0 number same) in
      rw (here, own_more number same xs)

  other_more : (number : ℕ) → q.0 ≢ number → (xs : List (List Label)) → map (answer_of (take k qs) number) xs ≡ map (answer_of (take (k + 1) qs) number) xs
  other_more number apart [] = refl
  other_more number apart (x ∷ xs) =
      let here : answer_of (take (k + 1) qs) number x ≡ answer_of (take k qs) number x =
      answer_more number x ∙ ap (λ b. answer_of (take k qs) number x && (not b || takes_labels q.1 x)) (ne_eqb q.0 number apart)
      ∙ and_true (answer_of (take k qs) number x) in
      rw (here, other_more number apart xs)

  pub table_more : (count : ℕ) (rows : List (Vec Bool Global)) (row : Vec Bool Global) → IsTable (answer_of (take k qs)) sets count rows → q.0 < count →
      row.items ≡ narrowed q.1 sets (get_or rows q.0 row).items → IsTable (answer_of (take (k + 1) qs)) sets count (slice_set rows q.0 row)
  table_more count rows row (long, right) fits narrow = (
    length-set rows q.0 row ∙ long,
    λ number other below.
        elim (cases_eq number q.0) [
          | inl same ↦
              ap (λ n. (get_or (slice_set rows q.0 row) n other).items) same
              ∙ ap (λ (r : Vec Bool Global). r.items) (get_or-set_same rows q.0 row other (omega (arith, long, fits)))
              ∙ narrow
              ∙ ap (narrowed q.1 sets) (right q.0 row fits)
              ∙ own_more q.0 refl sets
              ∙ ap (λ n. map (answer_of (take (k + 1) qs) n) sets) (sym same)
          | inr apart ↦
              ap (λ (r : Vec Bool Global). r.items) (get_or-set_other rows q.0 number row other apart)
              ∙ right number other below
              ∙ other_more number (λ same. apart (sym same)) sets
        ],
  )

-- before any matcher was asked
pub table_start : {A : Type 0} (view : A → List Label) (xs : List A) (rows : List (Vec Bool Global)) → All (λ (row : Vec Bool Global). row.items ≡ map (λ x. true) xs) rows →
    IsTable (answer_of []) (map view xs) (length rows) rows
table_start {A = A} view xs rows fine = (
  refl,
  λ number other below.
      All-get_or (λ (row : Vec Bool Global). row.items ≡ map (λ x. true) xs) rows number other below fine ∙ nothing_asked number xs,
)
  where
    nothing_asked : (number : ℕ) (list : List A) → map (λ x. true) list ≡ map (answer_of [] number) (map view list)
    nothing_asked number [] = refl
    nothing_asked number (x ∷ list) = ap (λ rest. true ∷ rest) (nothing_asked number list)

-- nor is any where there are none
pub table_none : {A : Type 0} (view : A → List Label) (xs : List A) (qs : List (ℕ × MatcherText)) (rows : List (Vec Bool Global)) → (length qs == 0) ≡ true →
    All (λ (row : Vec Bool Global). row.items ≡ map (λ x. true) xs) rows → IsTable (answer_of qs) (map view xs) (length rows) rows
table_none view xs [] rows none fine = table_start view xs rows fine
table_none view xs (q ∷ qs) rows none fine = absurd (true≢false (sym none ∙ ne_eqb (length (q ∷ qs)) 0 (λ same. omega (arith, same))))

-- where there are some, there is a first
pub some_there : (n : ℕ) → (n == 0) ≡ false → 0 < n
some_there zero some = absurd (true≢false (sym (eq-eqb 0 0 refl) ∙ some))
some_there (suc n) some = omega arith

-- a matcher stands among those of the questions
pub matcher_among : (qs : List (ℕ × MatcherText)) (k : ℕ) (q : ℕ × MatcherText) → k < length qs → q ≡ get_or qs k q → (m : MatcherText) → q.1 ≡ m →
    Contains (map (λ (p : ℕ × MatcherText). p.1) qs) m
matcher_among qs k q within is m same = (
  k,
  omega (arith, length-map qs (λ (p : ℕ × MatcherText). p.1), within),
  get_or-map (λ (p : ℕ × MatcherText). p.1) qs k q m within ∙ ap (λ (p : ℕ × MatcherText). p.1) (sym is) ∙ same,
)

-- ---- the whole table

-- the flags of each row
abbrev pub flags_of : List (Vec Bool Global) → List (List Bool)
flags_of rows = map (λ (row : Vec Bool Global). row.items) rows

-- rows that are known by their numbers
rows_are : {B : Type 0} (f : B → List Bool) (rows : List (Vec Bool Global)) (xs : List B) → length rows ≡ length xs →
    ((k : ℕ) (other : Vec Bool Global) (x : B) → k < length xs → (get_or rows k other).items ≡ f (get_or xs k x)) → flags_of rows ≡ map f xs
rows_are f [] [] long right = refl
rows_are f [] (x ∷ xs) long right = absurd (omega (arith, long))
rows_are f (row ∷ rows) [] long right = absurd (omega (arith, long))
rows_are f (row ∷ rows) (x ∷ xs) long right =
    ap (λ first. first ∷ flags_of rows) (right 0 row x (omega arith))
    ∙ ap (λ rest. f x ∷ rest) (rows_are f rows xs (omega (arith, long)) (λ k other y below. right (suc k) other y (omega (arith, below))))

module _ {A : Type 0} (view : A → List Label) (sets : List A) where
  -- which of the label sets the route takes
  abbrev pub taken_by : List MatcherText → List Bool
  taken_by node = map (λ set. all_take node (view set)) sets

  pub table_of : (nodes : List (List MatcherText)) (qs : List (ℕ × MatcherText)) → IsPermutation (questions_from 0 nodes) qs → (rows : List (Vec Bool Global)) →
      IsTable (answer_of qs) (map view sets) (length nodes) rows → flags_of rows ≡ map taken_by nodes
  table_of nodes qs same rows (long, right) =
      rows_are taken_by rows nodes long (λ k other node below. right k other below ∙ answers k node below sets)
    where
      answers : (k : ℕ) (node : List MatcherText) → k < length nodes → (xs : List A) →
          map (answer_of qs k) (map view xs) ≡ map (λ x. all_take (get_or nodes k node) (view x)) xs
      answers k node below [] = refl
      answers k node below (x ∷ xs) =
          let place : k ≡ 0 + k = omega arith in
          let here : answer_of qs k (view x) ≡ all_take (get_or nodes k node) (view x) =
          all_in_any_order _ (questions_from 0 nodes) qs same ∙ answer_from (view x) 0 k k nodes node place below in
          rw (here, answers k node below xs)
