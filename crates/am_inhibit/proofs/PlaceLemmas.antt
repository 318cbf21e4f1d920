-- Lists of places that rise.
use Rattle.std.proofs.Common.{◌≡◌, ◌∙◌, ℕ, zero, suc, ◌+◌, ◌<◌, ◌≤◌, ◌==◌, ◌||◌, not, Bool, true, false, List, All, [], ◌∷◌, Global, Less, Vec, ap, filter, get_or, length, map, refl, sym, inl, inr, arith}
use Rattle.std.specs.List.{AllByRecursion, dedup, range_with_len}
use Rattle.std.specs.List.Sorted.{IsStrictlySortedBy}
use Rattle.std.specs.Ordering.{nat_cmp}
use Rattle.std.specs.Rc.{rc_slice_items}
use Rattle.std.specs.declared.rc.RcSlice.{RcSlice}
use Rattle.std.proofs.lemmas.Bool.{cases_Bool, cases_eq, eq-eqb, eqb-true, ne_eqb, true≢false}
use Rattle.std.proofs.lemmas.Cmp.{nat_eq_equiv, ranked}
use Rattle.std.proofs.lemmas.List.{get_or-map, length-map}
use Rattle.std.proofs.lemmas.List.Elements.{All-cons, All-contains, All-from_get_or, All-get_or, All-head, All-nil, All-tail, Contains-get_or}
use Rattle.std.proofs.lemmas.List.Kept.{Contains-dedup_nat, Contains-from_dedup}
use Rattle.std.proofs.lemmas.Map.Keys.{sorted_head, sorted_tail}
use Rattle.std.proofs.lemmas.Map.Views.{Contains-from_any, list_any-from_Contains}
use Rattle.am_inhibit.specs.Links.{AreAllPlaces, ArePlaces, has_place, is_among, lists_of, places_in}

-- two tests that pass together are equal
pub bool_same : (a b : Bool) → (a ≡ true → b ≡ true) → (b ≡ true → a ≡ true) → a ≡ b
bool_same true b there back = sym (there refl)
bool_same false true there back = back refl
bool_same false false there back = refl

-- a place that is below all of a list is not in it
pub has_none : (place : ℕ) (xs : List ℕ) → All (λ other. place < other) xs → has_place place xs ≡ false
has_none place [] below = refl
has_none place (x ∷ xs) below =
    let first = All-head (λ other. place < other) x xs below in
    rw (ne_eqb place x (λ same. omega (arith, same, first))) (has_none place xs (All-tail (λ other. place < other) x xs below))

-- what stands behind the first of rising places is above it
pub above_first : (x : ℕ) (xs : List ℕ) → AllByRecursion (λ y. nat_cmp x y ≡ Less) xs → All (λ other. x < other) xs
above_first x [] h = All-nil (λ other. x < other)
above_first x (y ∷ ys) h = All-cons (λ other. x < other) y ys (ranked x y Less (sym h.0)) (above_first x ys h.1)

-- rising places within a range are those of the range that they have
pub rising_filter : (test : ℕ → Bool) (first count : ℕ) (xs : List ℕ) → IsStrictlySortedBy nat_cmp xs →
    All (λ place. first ≤ place) xs → All (λ place. place < first + count) xs →
    ((place : ℕ) → first ≤ place → place < first + count → has_place place xs ≡ test place) →
    xs ≡ filter test (range_with_len first count)
rising_filter test first zero [] rising from below same = refl
rising_filter test first zero (x ∷ xs) rising from below same =
    let low = All-head (λ place. first ≤ place) x xs from in
    let high = All-head (λ place. place < first + 0) x xs below in
    absurd (omega (arith, low, high))
rising_filter test first (suc count) [] rising from below same =
    rw (← same first (omega arith) (omega arith))
    (rising_filter test (first + 1) count [] rising (All-nil (λ place. first + 1 ≤ place)) (All-nil (λ place. place < first + 1 + count))
    (λ place high low. same place (omega arith) (omega arith)))
rising_filter test first (suc count) (x ∷ xs) rising from below same =
    let above = above_first x xs (sorted_head nat_cmp x xs rising) in
    let low = All-head (λ place. first ≤ place) x xs from in
    let high = All-head (λ place. place < first + suc count) x xs below in
    let rest = All-tail (λ place. place < first + suc count) x xs below in
    elim (cases_eq first x) [
      | inl is ↦
          let hit : test first ≡ true = sym (same first (omega arith) (omega arith)) ∙ ap (λ b. b || has_place first xs) (eq-eqb first x is) in
          rw hit
          (ap (λ n. n ∷ xs) (sym is)
          ∙ ap (λ behind. first ∷ behind)
          (rising_filter test (first + 1) count xs (sorted_tail nat_cmp x xs rising)
          (All-from_get_or (λ place. first + 1 ≤ place) xs 0 (λ i within. let up = All-get_or (λ other. x < other) xs i 0 within above in omega (arith, up, is)))
          (All-from_get_or (λ place. place < first + 1 + count) xs 0 (λ i within. let up = All-get_or (λ place. place < first + suc count) xs i 0 within rest in omega (arith, up)))
          (λ place up down.
          ap (λ b. b || has_place place xs) (sym (ne_eqb place x (λ equal. omega (arith, equal, is, up)))) ∙ same place (omega (arith, up)) (omega (arith, down)))))
      | inr apart ↦
          let over : first < x = omega (arith, low, apart) in
          let none = has_none first (x ∷ xs) (All-cons (λ other. first < other) x xs over
          (All-from_get_or (λ other. first < other) xs 0 (λ i within. let up = All-get_or (λ other. x < other) xs i 0 within above in omega (arith, up, over)))) in
          let miss : test first ≡ false = sym (same first (omega arith) (omega arith)) ∙ none in
          rw miss
          (rising_filter test (first + 1) count (x ∷ xs) rising
          (All-cons (λ place. first + 1 ≤ place) x xs (omega (arith, over))
          (All-from_get_or (λ place. first + 1 ≤ place) xs 0 (λ i within. let up = All-get_or (λ other. x < other) xs i 0 within above in omega (arith, up, over))))
          (All-from_get_or (λ place. place < first + 1 + count) (x ∷ xs) 0 (λ i within. let up = All-get_or (λ place. place < first + suc count) (x ∷ xs) i 0 within below in omega (arith, up)))
          (λ place up down. same place (omega (arith, up)) (omega (arith, down))))
    ]

-- a place of a list is in it, and the other way round
pub has_at : (xs : List ℕ) (i : ℕ) → i < length xs → has_place (get_or xs i 0) xs ≡ true
has_at xs i within = list_any-from_Contains nat_eq_equiv (get_or xs i 0) xs (Contains-get_or xs i 0 within)

-- `dedup` keeps which places there are
pub has_dedup : (place : ℕ) (xs : List ℕ) → has_place place (dedup (λ a b. a == b) xs) ≡ has_place place xs
has_dedup place xs =
    bool_same (has_place place (dedup (λ a b. a == b) xs)) (has_place place xs)
    (λ there. list_any-from_Contains nat_eq_equiv place xs
    (Contains-from_dedup (λ a b. a == b) xs place (Contains-from_any eqb-true place (dedup (λ a b. a == b) xs) there)))
    (λ there. list_any-from_Contains nat_eq_equiv place (dedup (λ a b. a == b) xs) (Contains-dedup_nat xs place (Contains-from_any eqb-true place xs there)))

-- what stands in lists of places below a count is below it
below_among : (count : ℕ) (lists : List (List ℕ)) → All (ArePlaces count) lists → (place : ℕ) → is_among lists place ≡ true → place < count
below_among count [] fine place there = absurd (true≢false (sym there))
below_among count (list ∷ lists) fine place there =
    elim (cases_Bool (has_place place list)) [
      | inl here ↦ All-contains (λ other. other < count) list place (All-head (ArePlaces count) list lists fine).below (Contains-from_any eqb-true place list here)
      | inr away ↦ below_among count lists (All-tail (ArePlaces count) list lists fine) place (rw away at there)
    ]

-- rising places that are those of lists
pub joined_is : (count : ℕ) (lists : List (List ℕ)) → All (ArePlaces count) lists → (xs : List ℕ) → IsStrictlySortedBy nat_cmp xs →
    ((place : ℕ) → has_place place xs ≡ is_among lists place) → xs ≡ places_in count lists
joined_is count lists fine xs rising same =
    rising_filter (is_among lists) 0 count xs rising
    (All-from_get_or (λ place. 0 ≤ place) xs 0 (λ i within. omega arith))
    (All-from_get_or (λ place. place < 0 + count) xs 0
    (λ i within. let below = below_among count lists fine (get_or xs i 0) (sym (same (get_or xs i 0)) ∙ has_at xs i within) in omega (arith, below)))
    (λ place low high. same place)

-- the places of one list
pub one_is : (count : ℕ) (list : List ℕ) → ArePlaces count list → list ≡ places_in count (list ∷ [])
one_is count list fine =
    joined_is count (list ∷ []) (All-cons (ArePlaces count) list [] fine (All-nil (ArePlaces count))) list fine.rising (λ place. or_false (has_place place list))
  where
    or_false : (b : Bool) → b ≡ (b || false)
    or_false true = refl
    or_false false = refl

-- the places of none
pub none_is : (count : ℕ) → [] ≡ places_in count []
none_is count = nothing 0 count
  where
    nothing : (first n : ℕ) → [] ≡ filter (λ place. is_among [] place) (range_with_len first n)
    nothing first zero = refl
    nothing first (suc n) = nothing (first + 1) n

-- a filter that something of a range passes is not empty
some_pass : (test : ℕ → Bool) (first count place : ℕ) → first ≤ place → place < first + count → test place ≡ true → 0 < length (filter test (range_with_len first count))
some_pass test first zero place low high passes = absurd (omega (arith, low, high))
some_pass test first (suc count) place low high passes =
    elim (cases_Bool (test first)) [
      | inl hit ↦ rw hit (omega arith)
      | inr miss ↦
          let next : first + 1 ≤ place = elim (cases_eq first place) [
            | inl same ↦ absurd (true≢false (sym passes ∙ ap test (sym same) ∙ miss))
            | inr apart ↦ omega (arith, low, apart)
          ] in
          rw miss (some_pass test (first + 1) count place next (omega (arith, high)) passes)
    ]

-- lists of places give some where there is a list
some_among : (count : ℕ) (lists : List (List ℕ)) → All (ArePlaces count) lists → not (length lists == 0) ≡ not (length (places_in count lists) == 0)
some_among count [] fine = rw (← none_is count) refl
some_among count (list ∷ lists) fine =
    let first = All-head (ArePlaces count) list lists fine in
    let place = get_or list 0 0 in
    let below = All-get_or (λ other. other < count) list 0 0 first.some first.below in
    let there : is_among (list ∷ lists) place ≡ true = ap (λ b. b || is_among lists place) (has_at list 0 first.some) in
    let some = some_pass (is_among (list ∷ lists)) 0 count place (omega arith) (omega (arith, below)) there in
    ap not
    (ne_eqb (length (list ∷ lists)) 0 (λ empty. omega (arith, empty))
    ∙ sym (ne_eqb (length (places_in count (list ∷ lists))) 0 (λ empty. omega (arith, some, empty))))

module _ (count : ℕ) (links : List (Vec (RcSlice ℕ Global) Global)) (place : ℕ) (lists : Vec (RcSlice ℕ Global) Global) (within : place < length links)
    (is : lists ≡ get_or links place lists) where
  -- what one alert has
  pub here : get_or (lists_of links) place [] ≡ map rc_slice_items lists.items
  here =
      get_or-map (λ (held : Vec (RcSlice ℕ Global) Global). map rc_slice_items held.items) links place lists [] within
      ∙ ap (λ (held : Vec (RcSlice ℕ Global) Global). map rc_slice_items held.items) (sym is)

  pub view_here : get_or (map (places_in count) (lists_of links)) place [] ≡ places_in count (map rc_slice_items lists.items)
  view_here =
      get_or-map (places_in count) (lists_of links) place [] []
      (omega (arith, length-map links (λ (held : Vec (RcSlice ℕ Global) Global). map rc_slice_items held.items), within))
      ∙ ap (places_in count) here

  pub fine_here : AreAllPlaces count (lists_of links) → All (ArePlaces count) (map rc_slice_items lists.items)
  fine_here fine =
      rw (← here)
      (All-get_or (λ (lists : List (List ℕ)). All (ArePlaces count) lists) (lists_of links) place []
      (omega (arith, length-map links (λ (held : Vec (RcSlice ℕ Global) Global). map rc_slice_items held.items), within)) fine)

  pub some_here : AreAllPlaces count (lists_of links) → not (length lists.items == 0) ≡ not (length (get_or (map (places_in count) (lists_of links)) place []) == 0)
  some_here fine =
      ap (λ n. not (n == 0)) (sym (length-map lists.items rc_slice_items))
      ∙ some_among count (map rc_slice_items lists.items) (fine_here fine)
      ∙ ap (λ xs. not (length xs == 0)) (sym view_here)

-- as many as there are alerts
pub view_long : (count : ℕ) (links : List (Vec (RcSlice ℕ Global) Global)) → length (map (places_in count) (lists_of links)) ≡ length links
view_long count links =
    length-map (lists_of links) (places_in count) ∙ length-map links (λ (held : Vec (RcSlice ℕ Global) Global). map rc_slice_items held.items)

-- a list of one element
pub one_element : {A : Type 0} (xs : List A) (x : A) → length xs ≡ 1 → x ≡ get_or xs 0 x → xs ≡ x ∷ []
one_element [] x long is = absurd (omega (arith, long))
one_element (y ∷ []) x long is = ap (λ z. z ∷ []) (sym is)
one_element (y ∷ (z ∷ xs)) x long is = absurd (omega (arith, long))

module _ (count : ℕ) (links : List (Vec (RcSlice ℕ Global) Global)) (place : ℕ) (lists : Vec (RcSlice ℕ Global) Global) (value : List (List ℕ))
    (view : map (places_in count) (lists_of links) ≡ value) (below : place < length value) (is : lists ≡ get_or links place lists) where
  pub there_fits : place < length links
  there_fits = omega (arith, below, ap length view, view_long count links)

  -- what is seen at a place, by the lists there
  pub there_is : places_in count (map rc_slice_items lists.items) ≡ get_or value place []
  there_is = sym (view_here count links place lists there_fits is) ∙ ap (λ (each : List (List ℕ)). get_or each place []) view

  pub there_fine : AreAllPlaces count (lists_of links) → All (ArePlaces count) (map rc_slice_items lists.items)
  there_fine fine = fine_here count links place lists there_fits is fine
