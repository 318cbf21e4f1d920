-- The inhibitors of each alert, and their places.
use Rattle.std.proofs.Common.{◌≡◌, ◌∙◌, ℕ, zero, suc, ◌+◌, ◌-◌, ◌<◌, ◌≤◌, ◌&&◌, Bool, true, false, cond, List, All, [], ◌∷◌, ◌++◌, ap, filter, get_or, length, length-append, map, refl, replicate, sym, inl, inr, arith}
use Rattle.std.specs.List.{enumerate_from, range_with_len}
use Rattle.std.proofs.lemmas.Bool.{cases_Bool, cases_lt, true≢false}
use Rattle.std.proofs.lemmas.List.{get_or-append_right, get_or-map, get_or-replicate, get_or_append_left, length-map, length-replicate, map-append}
use Rattle.std.proofs.lemmas.List.Elements.{All-cons, All-map, All-nil}
use Rattle.am_labels.specs.declared.Label.{Label}
use Rattle.am_config.specs.declared.parts.Rule.{Rule}
use Rattle.am_inhibit.specs.Inhibits.{AreInhibitors, inhibitor_places, inhibitors, inhibits_by}
use Rattle.am_inhibit.specs.Links.{is_among, places_in}

-- ---- the places of the elements that pass a test

module _ {A : Type 0} (test : A → Bool) where
  -- the numbered elements that pass, by number
  abbrev pub numbers_of : ℕ → List A → List ℕ
  numbers_of first xs = map (λ (pair : ℕ × A). pair.0) (filter (λ (pair : ℕ × A). test pair.1) (enumerate_from first xs))

  -- are those of a range that pass as their elements do
  pub numbers_are : (by_number : ℕ → Bool) (first : ℕ) (xs : List A) → ((i : ℕ) (other : A) → i < length xs → by_number (first + i) ≡ test (get_or xs i other)) →
      filter by_number (range_with_len first (length xs)) ≡ numbers_of first xs
  numbers_are by_number first [] same = refl
  numbers_are by_number first (x ∷ xs) same =
      let here : by_number first ≡ test x = ap by_number (omega arith) ∙ same 0 x (omega arith) in
      let rest = numbers_are by_number (first + 1) xs
      (λ i other below. let next : first + 1 + i ≡ first + suc i = omega arith in ap by_number next ∙ same (suc i) other (omega (arith, below))) in
      elim (cases_Bool (test x)) [
        | inl on ↦ rw (here, on) (ap (λ behind. first ∷ behind) rest)
        | inr off ↦ rw (here, off) rest
      ]

  -- the elements at those numbers are those that pass
  pub chosen_are : (ys : List A) (d : A) (first : ℕ) (xs : List A) → ((i : ℕ) → i < length xs → get_or ys (first + i) d ≡ get_or xs i d) →
      map (λ number. get_or ys number d) (numbers_of first xs) ≡ filter test xs
  chosen_are ys d first [] same = refl
  chosen_are ys d first (x ∷ xs) same =
      let here : get_or ys first d ≡ x = ap (λ n. get_or ys n d) (omega arith) ∙ same 0 (omega arith) in
      let rest = chosen_are ys d (first + 1) xs
      (λ i below. let next : first + 1 + i ≡ first + suc i = omega arith in ap (λ n. get_or ys n d) next ∙ same (suc i) (omega (arith, below))) in
      elim (cases_Bool (test x)) [
        | inl on ↦ rw on (ap (λ y. y ∷ map (λ number. get_or ys number d) (numbers_of (first + 1) xs)) here ∙ ap (λ behind. x ∷ behind) rest)
        | inr off ↦ rw off rest
      ]

  -- and no number is past the end
  pub numbers_below : (top first : ℕ) (xs : List A) → first + length xs ≤ top → All (λ number. number < top) (numbers_of first xs)
  numbers_below top first [] fits = All-nil (λ number. number < top)
  numbers_below top first (x ∷ xs) fits =
      let rest = numbers_below top (first + 1) xs (omega (arith, fits)) in
      elim (cases_Bool (test x)) [
        | inl on ↦ rw on (All-cons (λ number. number < top) first (numbers_of (first + 1) xs) (omega (arith, fits)) rest)
        | inr off ↦ rw off rest
      ]

-- ---- inhibitors

-- the firing alerts at the places of inhibitors
pub inhibitors_at : (rules : List Rule) (firing : List (List Label)) (target : List Label) →
    map (λ place. get_or firing place []) (inhibitor_places rules firing target) ≡ inhibitors rules firing target
inhibitors_at rules firing target =
    chosen_are (λ source. inhibits_by rules source target) firing [] 0 firing (λ i below. ap (λ n. get_or firing n []) (omega arith))

-- filters of a range whose tests agree there
filters_agree : (p q : ℕ → Bool) (first count : ℕ) → ((place : ℕ) → first ≤ place → place < first + count → p place ≡ q place) →
    filter p (range_with_len first count) ≡ filter q (range_with_len first count)
filters_agree p q first zero same = refl
filters_agree p q first (suc count) same =
    let here = same first (omega arith) (omega arith) in
    let rest = filters_agree p q (first + 1) count (λ place low high. same place (omega (arith, low)) (omega (arith, high))) in
    ap (λ b. cond b (first ∷ filter p (range_with_len (first + 1) count)) (filter p (range_with_len (first + 1) count))) here
    ∙ ap (λ behind. cond (q first) (first ∷ behind) behind) rest

module _ {A : Type 0} (view : A → List Label) (firing others : List A) where
  -- the flags of those that fire
  abbrev pub fires_of : List Bool
  fires_of = replicate (length firing) true ++ replicate (length others) false

  pub fires_long : length fires_of ≡ length (firing ++ others)
  fires_long =
      length-append (replicate (length firing) true) (replicate (length others) false)
      ∙ ap (λ n. n + length (replicate (length others) false)) (length-replicate (length firing) true)
      ∙ ap (λ n. length firing + n) (length-replicate (length others) false)
      ∙ sym (length-append firing others)

  -- one that is flagged is among those that fire
  pub fires_below : (place : ℕ) → get_or fires_of place false ≡ true → place < length firing
  fires_below place on = elim (cases_lt place (length firing)) [
    | inl below ↦ below
    | inr past ↦
        let unset : get_or fires_of place false ≡ false =
        get_or-append_right (replicate (length firing) true) (replicate (length others) false) (length firing) place false (length-replicate (length firing) true) past
        ∙ all_false (length others) (place - length firing) in
        absurd (true≢false (sym on ∙ unset))
  ]
    where
      all_false : (n i : ℕ) → get_or (replicate n false) i false ≡ false
      all_false zero i = refl
      all_false (suc n) zero = refl
      all_false (suc n) (suc i) = all_false n i

  fires_there : (place : ℕ) → place < length firing → get_or fires_of place false ≡ true
  fires_there place below =
      get_or_append_left (replicate (length firing) true) (replicate (length others) false) false place
      (omega (arith, below, length-replicate (length firing) true))
      ∙ get_or-replicate (length firing) place true false below

  -- the lists of one alert give the places of its inhibitors
  one_is : (rules : List Rule) (each : List (List (List ℕ))) → AreInhibitors rules (map view (firing ++ others)) fires_of each → (k : ℕ) →
      k < length (firing ++ others) → (other : A) →
      places_in (length firing) (get_or each k []) ≡ inhibitor_places rules (map view firing) (view (get_or (firing ++ others) k other))
  one_is rules each are k below other =
      let target = view (get_or (firing ++ others) k other) in
      let at : get_or (map view (firing ++ others)) k [] ≡ target = get_or-map view (firing ++ others) k other [] below in
      let long = length-map (firing ++ others) view in
      let long_firing = length-map firing view in
      filters_agree (λ place. is_among (get_or each k []) place) (λ place. inhibits_by rules (get_or (map view firing) place []) target) 0 (length firing)
      (λ place low high.
      let within : place < length firing = omega (arith, high) in
      let source : get_or (map view (firing ++ others)) place [] ≡ get_or (map view firing) place [] =
      ap (λ (sets : List (List Label)). get_or sets place []) (map-append view firing others)
      ∙ get_or_append_left (map view firing) (map view others) [] place (omega (arith, within, long_firing)) in
      are k place (omega (arith, below, long)) (omega (arith, within, long, length-append firing others))
      ∙ ap (λ b. b && inhibits_by rules (get_or (map view (firing ++ others)) place []) (get_or (map view (firing ++ others)) k [])) (fires_there place within)
      ∙ ap (λ (labels : List Label). inhibits_by rules labels (get_or (map view (firing ++ others)) k [])) source
      ∙ ap (λ (labels : List Label). inhibits_by rules (get_or (map view firing) place []) labels) at)
      ∙ ap (λ n. filter (λ place. inhibits_by rules (get_or (map view firing) place []) target) (range_with_len 0 n)) (sym long_firing)
      ∙ numbers_are (λ source. inhibits_by rules source target) (λ place. inhibits_by rules (get_or (map view firing) place []) target) 0 (map view firing)
      (λ i d under. ap (λ (labels : List Label). inhibits_by rules labels target) (ap (λ n. get_or (map view firing) n []) (omega arith) ∙ any_default (map view firing) i under d))
    where
      any_default : (xs : List (List Label)) (i : ℕ) → i < length xs → (d : List Label) → get_or xs i [] ≡ get_or xs i d
      any_default [] i under d = absurd (omega (arith, under))
      any_default (x ∷ xs) zero under d = refl
      any_default (x ∷ xs) (suc i) under d = any_default xs i (omega (arith, under)) d

  -- and so do those of all
  pub each_is : (rules : List Rule) (each : List (List (List ℕ))) → length each ≡ length (firing ++ others) →
      AreInhibitors rules (map view (firing ++ others)) fires_of each →
      map (places_in (length firing)) each ≡ map (λ target. inhibitor_places rules (map view firing) (view target)) (firing ++ others)
  each_is rules each long are = by_places (firing ++ others) each long (λ k other below. one_is rules each are k below other)
    where
      by_places : (xs : List A) (lists : List (List (List ℕ))) → length lists ≡ length xs →
          ((k : ℕ) (other : A) → k < length xs →
          places_in (length firing) (get_or lists k []) ≡ inhibitor_places rules (map view firing) (view (get_or xs k other))) →
          map (places_in (length firing)) lists ≡ map (λ target. inhibitor_places rules (map view firing) (view target)) xs
      by_places [] [] same right = refl
      by_places [] (list ∷ lists) same right = absurd (omega (arith, same))
      by_places (x ∷ xs) [] same right = absurd (omega (arith, same))
      by_places (x ∷ xs) (list ∷ lists) same right =
          ap (λ first. first ∷ map (places_in (length firing)) lists) (right 0 x (omega arith))
          ∙ ap (λ rest. inhibitor_places rules (map view firing) (view x) ∷ rest)
          (by_places xs lists (omega (arith, same)) (λ k other below. right (suc k) other (omega (arith, below))))

  -- their places are those of firing alerts
  pub each_below : (rules : List Rule) (xs : List A) →
      All (λ (places : List ℕ). All (λ place. place < length firing) places) (map (λ target. inhibitor_places rules (map view firing) (view target)) xs)
  each_below rules xs =
      All-map (λ (places : List ℕ). All (λ place. place < length firing) places) (λ target. inhibitor_places rules (map view firing) (view target)) xs
      (λ i other below.
      numbers_below (λ source. inhibits_by rules source (view (get_or xs i other))) (length firing) 0 (map view firing) (omega (arith, length-map firing view)))
