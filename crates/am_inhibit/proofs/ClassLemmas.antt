-- The classes of label sets, one label set after another.
use Rattle.std.proofs.Common.{◌≡◌, ◌∙◌, ℕ, ◌+◌, ◌<◌, ◌≤◌, ◌==◌, ◌&&◌, Bool, true, false, cond, List, All, [], ◌∷◌, ◌++◌, Ordering, Option, None, Some, ap, filter, get_or, is_some, length, refl, slice_set, sym, inl, inr, arith}
use Rattle.std.specs.BTreeMap.{get, is_at}
use Rattle.std.specs.List.{range_with_len}
use Rattle.std.specs.Map.{lookup, update}
use Rattle.std.specs.Option.{ForSome, unwrap_or}
use Rattle.std.specs.Ordering.{eq_by_cmp, is_eq}
use Rattle.std.specs.declared.cmp.Ordering.TheVariants.{Less, Equal, Greater}
use Rattle.std.proofs.lemmas.Bool.{cases_Bool, cases_eq, eq-eqb, ne_eqb, true≢false}
use Rattle.std.proofs.lemmas.Cmp.{tied_itself}
use Rattle.std.proofs.lemmas.List.{get_or-set_other, get_or-set_same, get_or_append_left, get_or_at, length-set, length_push, map-id}
use Rattle.std.proofs.lemmas.List.Elements.{All-get_or, All-nil, All-push, All-set}
use Rattle.std.proofs.lemmas.List.FromFn.{filter_of_map_range_with_len_more}
use Rattle.am_labels.specs.declared.Label.{Label}
use Rattle.am_inhibit.specs.Alike.{are_alike, key_of, keys_cmp, keys_total}
use Rattle.am_inhibit.specs.Classes.{AreClasses, Numbers, has_key, list_of, list_of_key, put_in}
use Rattle.am_inhibit.proofs.KeyLemmas.{keys_exact, keys_same, same_keys}
use Rattle.am_inhibit.proofs.PlaceLemmas.{bool_same}

-- keys that are tied are equal
pub tied_keys : (one other : List (List ℕ)) → eq_by_cmp keys_cmp one other ≡ true → one ≡ other
tied_keys one other tied = keys_exact one other (equal (keys_cmp one other) tied)
  where
    equal : (o : Ordering) → is_eq o ≡ true → o ≡ Equal
    equal Less h = absurd (true≢false (sym h))
    equal Equal h = refl
    equal Greater h = absurd (true≢false (sym h))

-- what is found under a key needn't be put there
pub found_kept : (entries : List (List (List ℕ) × ℕ)) (key : List (List ℕ)) (first : ℕ) → lookup (is_at (keys_cmp key)) entries ≡ Some first →
    (other : List (List ℕ)) →
    lookup (is_at (keys_cmp other)) entries ≡ update (eq_by_cmp keys_cmp) (λ q. lookup (is_at (keys_cmp q)) entries) key (Some first) other
found_kept entries key first found other =
    elim (cases_Bool (eq_by_cmp keys_cmp key other)) [
      | inl tied ↦
          ap (λ q. lookup (is_at (keys_cmp q)) entries) (sym (tied_keys key other tied)) ∙ found
          ∙ ap (λ b. cond b (Some first) (lookup (is_at (keys_cmp other)) entries)) (sym tied)
      | inr apart ↦ ap (λ b. cond b (Some first) (lookup (is_at (keys_cmp other)) entries)) (sym apart)
    ]

-- keys are tied where the label sets are alike
pub tied_alike : (names : List (List ℕ)) (one other : List Label) → eq_by_cmp keys_cmp (key_of names one) (key_of names other) ≡ are_alike names other one
tied_alike names one other =
    bool_same (eq_by_cmp keys_cmp (key_of names one) (key_of names other)) (are_alike names other one)
    (λ tied. same_keys names other one (sym (tied_keys (key_of names one) (key_of names other) tied)))
    (λ alike. ap (λ key. eq_by_cmp keys_cmp (key_of names one) key) (keys_same names other one alike) ∙ ap is_eq (tied_itself keys_total (key_of names one)))

-- ---- numbers and their lists

-- each number is that of a list
abbrev pub AreWithin : Numbers → List (List ℕ) → Type 0
AreWithin numbers lists = (key : List (List ℕ)) → ForSome (get keys_cmp numbers key) (λ number. number < length lists)

-- no two keys have one number
abbrev pub AreApart : Numbers → Type 0
AreApart numbers =
    (one other : List (List ℕ)) (number : ℕ) → get keys_cmp numbers one ≡ Some number → get keys_cmp numbers other ≡ Some number → one ≡ other

-- the number of a key, or the next one
pub number_fits : (numbers : Numbers) (lists : List (List ℕ)) (key : List (List ℕ)) (number : ℕ) → number ≡ unwrap_or (get keys_cmp numbers key) (length lists) →
    AreWithin numbers lists → number ≤ length lists
number_fits numbers lists key number is within = by_found (get keys_cmp numbers key) is (within key)
  where
    by_found : (found : Option ℕ) → number ≡ unwrap_or found (length lists) → ForSome found (λ n. n < length lists) → number ≤ length lists
    by_found None same fits = omega (arith, same)
    by_found (Some n) same fits = let there = fits n refl in omega (arith, same, there)

-- where there is no new list
pub put_behind : (place number : ℕ) (lists : List (List ℕ)) → number < length lists →
    put_in place number lists ≡ slice_set lists number (get_or lists number [] ++ place ∷ [])
put_behind place number lists below =
    ap (λ b. cond b (lists ++ (place ∷ []) ∷ []) (slice_set lists number (get_or lists number [] ++ place ∷ [])))
    (ne_eqb number (length lists) (λ same. omega (arith, same, below)))

-- where there is one
pub put_new : (place number : ℕ) (lists : List (List ℕ)) → number ≡ length lists → put_in place number lists ≡ lists ++ (place ∷ []) ∷ []
put_new place number lists same =
    ap (λ b. cond b (lists ++ (place ∷ []) ∷ []) (slice_set lists number (get_or lists number [] ++ place ∷ []))) (eq-eqb number (length lists) same)

-- the lists are no fewer, and the number is that of one
put_long : (place number : ℕ) (lists : List (List ℕ)) → number ≤ length lists → (length lists ≤ length (put_in place number lists)) × (number < length (put_in place number lists))
put_long place number lists fits = elim (cases_eq number (length lists)) [
  | inl same ↦
      let long = ap length (put_new place number lists same) ∙ length_push lists (place ∷ []) in
      (omega (arith, long), omega (arith, long, same))
  | inr apart ↦
      let long = ap length (put_behind place number lists (omega (arith, fits, apart))) ∙ length-set lists number (get_or lists number [] ++ place ∷ []) in
      (omega (arith, long), omega (arith, long, fits, apart))
]

-- another list stays
put_other : (place number other : ℕ) (lists : List (List ℕ)) → number ≤ length lists → other < length lists → (other ≡ number → ⊥) →
    get_or (put_in place number lists) other [] ≡ get_or lists other []
put_other place number other lists fits below apart = elim (cases_eq number (length lists)) [
  | inl same ↦
      ap (λ (held : List (List ℕ)). get_or held other []) (put_new place number lists same) ∙ get_or_append_left lists ((place ∷ []) ∷ []) [] other below
  | inr less ↦
      ap (λ (held : List (List ℕ)). get_or held other []) (put_behind place number lists (omega (arith, fits, less)))
      ∙ get_or-set_other lists number other (get_or lists number [] ++ place ∷ []) [] apart
]

-- no list is empty
pub some_put : (place number : ℕ) (lists : List (List ℕ)) → number ≤ length lists → All (λ (list : List ℕ). 0 < length list) lists →
    All (λ (list : List ℕ). 0 < length list) (put_in place number lists)
some_put place number lists fits some = elim (cases_eq number (length lists)) [
  | inl same ↦ rw (put_new place number lists same) (All-push (λ (list : List ℕ). 0 < length list) lists (place ∷ []) some (omega arith))
  | inr less ↦
      rw (put_behind place number lists (omega (arith, fits, less)))
      (All-set (λ (list : List ℕ). 0 < length list) lists number (get_or lists number [] ++ place ∷ [])
      (let long = length_push (get_or lists number []) place in omega (arith, long)) some)
]

module _ (old new : Numbers) (lists : List (List ℕ)) (key : List (List ℕ)) (place number : ℕ)
    (is : number ≡ unwrap_or (get keys_cmp old key) (length lists))
    (kept : (other : List (List ℕ)) → get keys_cmp new other ≡ update (eq_by_cmp keys_cmp) (get keys_cmp old) key (Some number) other)
    (within : AreWithin old lists) (apart : AreApart old) where
  fits : number ≤ length lists
  fits = number_fits old lists key number is within

  -- what a key has that is the one put, and what another has
  own : (other : List (List ℕ)) → eq_by_cmp keys_cmp key other ≡ true → get keys_cmp new other ≡ Some number
  own other tied = kept other ∙ ap (λ b. cond b (Some number) (get keys_cmp old other)) tied

  others : (other : List (List ℕ)) → eq_by_cmp keys_cmp key other ≡ false → get keys_cmp new other ≡ get keys_cmp old other
  others other free = kept other ∙ ap (λ b. cond b (Some number) (get keys_cmp old other)) free

  -- no other key has the number that is put
  free_number : (other : List (List ℕ)) → eq_by_cmp keys_cmp key other ≡ false → (n : ℕ) → get keys_cmp old other ≡ Some n → n ≡ number → ⊥
  free_number other free n there same = by_found (get keys_cmp old key) refl is
    where
      by_found : (found : Option ℕ) → get keys_cmp old key ≡ found → number ≡ unwrap_or found (length lists) → ⊥
      by_found None at equal = let below = within other n there in omega (arith, equal, same, below)
      by_found (Some m) at equal =
          let one : get keys_cmp old key ≡ Some n = at ∙ ap (λ i. Some i) (sym equal ∙ sym same) in
          true≢false
          (sym (ap is_eq (tied_itself keys_total key)) ∙ ap (eq_by_cmp keys_cmp key) (apart key other n one there) ∙ free)

  pub within_put : AreWithin new (put_in place number lists)
  within_put other found there =
      let long = put_long place number lists fits in
      elim (cases_Bool (eq_by_cmp keys_cmp key other)) [
        | inl tied ↦
            let both : Some number ≡ Some found = sym (own other tied) ∙ there in
            let same : number ≡ found = cc in
            omega (arith, same, long.1)
        | inr free ↦ let below = within other found (sym (others other free) ∙ there) in omega (arith, below, long.0)
      ]

  pub apart_put : AreApart new
  apart_put one other n at_one at_other =
      elim (cases_Bool (eq_by_cmp keys_cmp key one)) [
        | inl tied_one ↦
            let first : Some number ≡ Some n = sym (own one tied_one) ∙ at_one in
            elim (cases_Bool (eq_by_cmp keys_cmp key other)) [
              | inl tied_other ↦ sym (tied_keys key one tied_one) ∙ tied_keys key other tied_other
              | inr free_other ↦
                  let same : n ≡ number = cc in
                  absurd (free_number other free_other n (sym (others other free_other) ∙ at_other) same)
            ]
        | inr free_one ↦
            elim (cases_Bool (eq_by_cmp keys_cmp key other)) [
              | inl tied_other ↦
                  let second : Some number ≡ Some n = sym (own other tied_other) ∙ at_other in
                  let same : n ≡ number = cc in
                  absurd (free_number one free_one n (sym (others one free_one) ∙ at_one) same)
              | inr free_other ↦ apart one other n (sym (others one free_one) ∙ at_one) (sym (others other free_other) ∙ at_other)
            ]
      ]

  -- the list of each key
  pub list_put : (other : List (List ℕ)) →
      list_of_key new (put_in place number lists) other ≡ list_of_key old lists other ++ cond (eq_by_cmp keys_cmp key other) (place ∷ []) []
  unfolding list_of
  list_put other =
      elim (cases_Bool (eq_by_cmp keys_cmp key other)) [
        | inl tied ↦
            ap (λ found. list_of found (put_in place number lists)) (own other tied)
            ∙ by_own (get keys_cmp old key) is (within key)
            ∙ ap (λ (one : List (List ℕ)). list_of_key old lists one ++ place ∷ []) (tied_keys key other tied)
            ∙ ap (λ b. list_of_key old lists other ++ cond b (place ∷ []) []) (sym tied)
        | inr free ↦
            ap (λ found. list_of found (put_in place number lists)) (others other free)
            ∙ by_other (get keys_cmp old other) (within other) (free_number other free)
            ∙ sym (ap (λ b. list_of_key old lists other ++ cond b (place ∷ []) []) free ∙ append_none (list_of_key old lists other))
      ]
    where
      append_none : (xs : List ℕ) → xs ++ [] ≡ xs
      append_none [] = refl
      append_none (x ∷ xs) = ap (λ rest. x ∷ rest) (append_none xs)

      by_own : (found : Option ℕ) → number ≡ unwrap_or found (length lists) → ForSome found (λ n. n < length lists) →
          get_or (put_in place number lists) number [] ≡ list_of found lists ++ place ∷ []
      by_own None same below =
          ap (λ (held : List (List ℕ)). get_or held number []) (put_new place number lists same) ∙ get_or_at lists (place ∷ []) [] [] number (sym same)
      by_own (Some n) same below =
          let there = below n refl in
          let less : number < length lists = omega (arith, same, there) in
          ap (λ (held : List (List ℕ)). get_or held number []) (put_behind place number lists less)
          ∙ get_or-set_same lists number (get_or lists number [] ++ place ∷ []) [] less
          ∙ ap (λ i. get_or lists i [] ++ place ∷ []) same

      by_other : (found : Option ℕ) → ForSome found (λ n. n < length lists) → ((n : ℕ) → found ≡ Some n → n ≡ number → ⊥) →
          list_of found (put_in place number lists) ≡ list_of found lists
      by_other None below distinct = refl
      by_other (Some n) below distinct = put_other place number n lists fits (below n refl) (distinct n refl)

-- the list of a key, where it has a number, comes behind others
pub list_added : (found : Option ℕ) (number : ℕ) (lists held : List (List ℕ)) → found ≡ Some number → ForSome found (λ n. n < length lists) →
    All (λ (list : List ℕ). 0 < length list) lists →
    held ++ get_or lists number [] ∷ [] ≡ cond (length (list_of found lists) == 0) held (held ++ list_of found lists ∷ [])
unfolding list_of
list_added None number lists held at within some = absurd (true≢false (ap is_some (sym at)))
list_added (Some n) number lists held at within some =
    let same : n ≡ number = cc in
    let full = All-get_or (λ (list : List ℕ). 0 < length list) lists n [] (within n refl) some in
    ap (λ i. held ++ get_or lists i [] ∷ []) (sym same)
    ∙ ap (λ b. cond b held (held ++ get_or lists n [] ∷ [])) (sym (ne_eqb (length (get_or lists n [])) 0 (λ empty. omega (arith, full, empty))))

-- where it has none, nothing comes
pub list_missed : (found : Option ℕ) (lists held : List (List ℕ)) → found ≡ None → held ≡ cond (length (list_of found lists) == 0) held (held ++ list_of found lists ∷ [])
unfolding list_of
list_missed None lists held at = refl
list_missed (Some n) lists held at = absurd (true≢false (ap is_some at))

-- ---- the places of each key

filter_more : (test : ℕ → Bool) (n : ℕ) → filter test (range_with_len 0 (n + 1)) ≡ filter test (range_with_len 0 n) ++ cond (test n) (n ∷ []) []
filter_more test n =
    ap (filter test) (sym (map-id (range_with_len 0 (n + 1))))
    ∙ filter_of_map_range_with_len_more test (λ j. j) 0 n n (omega arith)
    ∙ ap (λ xs. filter test xs ++ cond (test n) (n ∷ []) []) (map-id (range_with_len 0 n))

append_none : {A : Type 0} (xs : List A) → xs ++ [] ≡ xs
append_none [] = refl
append_none (x ∷ xs) = ap (λ rest. x ∷ rest) (append_none xs)

-- what is held of the first so many label sets
pub record AreHeld (names : List (List ℕ)) (sets : List (List Label)) (flags : List Bool) (count : ℕ) (numbers : Numbers) (lists : List (List ℕ)) : Type 0 where
  pub listed : (key : List (List ℕ)) → list_of_key numbers lists key ≡ filter (λ place. has_key names sets flags key place) (range_with_len 0 count)
  pub within : AreWithin numbers lists
  pub apart : AreApart numbers
  pub some : All (λ (list : List ℕ). 0 < length list) lists

module _ (names : List (List ℕ)) (sets : List (List Label)) (flags : List Bool) where
  -- before any place
  pub held_none : (numbers : Numbers) → ((key : List (List ℕ)) → get keys_cmp numbers key ≡ None) → AreHeld names sets flags 0 numbers []
  unfolding list_of
  held_none numbers empty = record {
    listed = λ key. ap (λ found. list_of found []) (empty key);
    within = λ key number there. absurd (true≢false (ap is_some (sym there ∙ empty key)));
    apart = λ one other number there found. absurd (true≢false (ap is_some (sym there ∙ empty one)));
    some = All-nil (λ (list : List ℕ). 0 < length list);
  }

  -- a place that isn't flagged
  pub held_past : (place : ℕ) (numbers : Numbers) (lists : List (List ℕ)) → get_or flags place false ≡ false → AreHeld names sets flags place numbers lists →
      AreHeld names sets flags (place + 1) numbers lists
  held_past place numbers lists off held = record {
    listed = λ key.
        held.listed key
        ∙ sym (filter_more (has_key names sets flags key) place
        ∙ ap (λ b. filter (has_key names sets flags key) (range_with_len 0 place) ++ cond (b && eq_by_cmp keys_cmp key (key_of names (get_or sets place []))) (place ∷ []) []) off
        ∙ append_none (filter (has_key names sets flags key) (range_with_len 0 place)));
    within = held.within;
    apart = held.apart;
    some = held.some;
  }

  -- a flagged one
  pub held_put : (place : ℕ) (old new : Numbers) (lists : List (List ℕ)) (key : List (List ℕ)) (number : ℕ) → get_or flags place false ≡ true →
      key ≡ key_of names (get_or sets place []) → number ≡ unwrap_or (get keys_cmp old key) (length lists) →
      ((other : List (List ℕ)) → get keys_cmp new other ≡ update (eq_by_cmp keys_cmp) (get keys_cmp old) key (Some number) other) →
      AreHeld names sets flags place old lists → AreHeld names sets flags (place + 1) new (put_in place number lists)
  held_put place old new lists key number on at is kept held = record {
    listed = λ other.
        list_put old new lists key place number is kept held.within held.apart other
        ∙ ap (λ (one : List ℕ). one ++ cond (eq_by_cmp keys_cmp key other) (place ∷ []) []) (held.listed other)
        ∙ ap (λ b. filter (has_key names sets flags other) (range_with_len 0 place) ++ cond b (place ∷ []) [])
        (turned key other ∙ ap (eq_by_cmp keys_cmp other) at ∙ sym (ap (λ b. b && eq_by_cmp keys_cmp other (key_of names (get_or sets place []))) on))
        ∙ sym (filter_more (has_key names sets flags other) place);
    within = within_put old new lists key place number is kept held.within held.apart;
    apart = apart_put old new lists key place number is kept held.within held.apart;
    some = some_put place number lists (number_fits old lists key number is held.within) held.some;
  }
    where
      turned : (one other : List (List ℕ)) → eq_by_cmp keys_cmp one other ≡ eq_by_cmp keys_cmp other one
      turned one other =
          bool_same (eq_by_cmp keys_cmp one other) (eq_by_cmp keys_cmp other one)
          (λ tied. ap (eq_by_cmp keys_cmp other) (tied_keys one other tied) ∙ ap is_eq (tied_itself keys_total other))
          (λ tied. ap (eq_by_cmp keys_cmp one) (tied_keys other one tied) ∙ ap is_eq (tied_itself keys_total one))

  -- all of them
  pub held_all : (count : ℕ) (numbers : Numbers) (lists : List (List ℕ)) → count ≡ length sets → AreHeld names sets flags count numbers lists →
      AreClasses names sets flags numbers lists
  held_all count numbers lists all held = record {
    listed = λ key. held.listed key ∙ ap (λ n. filter (has_key names sets flags key) (range_with_len 0 n)) all;
    within = held.within;
    some = held.some;
  }
