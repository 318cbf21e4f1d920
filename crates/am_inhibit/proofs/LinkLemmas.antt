-- How the lists of sources come to their targets.
use Rattle.std.proofs.Common.{◌≡◌, ◌∙◌, ℕ, zero, suc, ◌+◌, ◌<◌, ◌≤◌, ◌==◌, ◌&&◌, ◌||◌, not, Bool, true, false, cond, List, All, [], ◌∷◌, ◌++◌, Global, Vec, ap, filter, get_or, length, map, refl, slice_set, sym, subst, inl, inr, arith}
use Rattle.std.specs.List.{range_with_len}
use Rattle.std.specs.Ordering.{eq_by_cmp, nat_cmp}
use Rattle.std.specs.Rc.{rc_slice_items}
use Rattle.std.specs.declared.rc.RcSlice.{RcSlice}
use Rattle.std.proofs.lemmas.Bool.{cases_Bool, cases_eq, eq-eqb, eqb-true, ne_eqb, true≢false}
use Rattle.std.proofs.lemmas.List.{get_or-map, get_or-set_other, get_or-set_same, length-map, length-set, map-set, nil_from_length}
use Rattle.std.proofs.lemmas.List.Elements.{All-append, All-cons, All-from_get_or, All-get_or, All-nil, All-weaker, filter_passes}
use Rattle.std.proofs.lemmas.List.Folds.{list_any-append}
use Rattle.std.proofs.lemmas.List.FromFn.{get_or-range_with_len, length-range_with_len}
use Rattle.std.proofs.lemmas.List.Kept.{IsStrictlySortedBy-filter}
use Rattle.std.proofs.lemmas.Map.Keys.{sorted_from_strictly_increasing}
use Rattle.am_labels.specs.declared.Label.{Label}
use Rattle.am_inhibit.specs.Alike.{are_alike, key_of, keys_cmp}
use Rattle.am_inhibit.specs.Classes.{has_key, places_of_key}
use Rattle.am_inhibit.specs.Links.{AreAllPlaces, AreLinked, ArePlaces, has_place, is_among, lists_of}
use Rattle.am_inhibit.proofs.ClassLemmas.{tied_alike}

-- ---- which places they have

-- a place of a range is in a filter of the range where it passes
has_filter : (test : ℕ → Bool) (first count place : ℕ) → (test place ≡ true → first ≤ place) → place < first + count →
    has_place place (filter test (range_with_len first count)) ≡ test place
has_filter test first zero place low high =
    elim (cases_Bool (test place)) [ inl on ↦ let from = low on in absurd (omega (arith, from, high)) | inr off ↦ sym off ]
has_filter test first (suc count) place low high =
    elim (cases_Bool (test first)) [
      | inl hit ↦
          elim (cases_eq place first) [
            | inl same ↦
                rw hit (ap (λ b. b || has_place place (filter test (range_with_len (first + 1) count))) (eq-eqb place first same) ∙ sym (ap test same ∙ hit))
            | inr apart ↦
                rw hit
                (ap (λ b. b || has_place place (filter test (range_with_len (first + 1) count))) (ne_eqb place first apart)
                ∙ has_filter test (first + 1) count place (λ on. let from = low on in omega (arith, from, apart)) (omega (arith, high)))
          ]
      | inr miss ↦
          rw miss
          (has_filter test (first + 1) count place
          (λ on. let from = low on in elim (cases_eq place first) [
            | inl same ↦ absurd (true≢false (sym on ∙ ap test same ∙ miss))
            | inr apart ↦ omega (arith, from, apart)
          ])
          (omega (arith, high)))
    ]

module _ (names : List (List ℕ)) (sets : List (List Label)) (sources targets : List Bool) where
  -- the key of a label set
  abbrev pub key_at : ℕ → List (List ℕ)
  key_at k = key_of names (get_or sets k [])

  -- the list that comes to a target
  abbrev pub comes_to : ℕ → List ℕ
  comes_to k = places_of_key names sets sources (key_at k)

  -- it comes where the target is flagged and there is a source
  abbrev pub is_coming : ℕ → Bool
  is_coming k = get_or targets k false && not (length (comes_to k) == 0)

  -- the target's lists then
  abbrev pub extended : ℕ → List (List ℕ) → List (List ℕ)
  extended k lists = cond (is_coming k) (lists ++ comes_to k ∷ []) lists

  -- the first so many targets have theirs
  pub record AreExtended (count : ℕ) (old new : List (List (List ℕ))) : Type 0 where
    pub long : length new ≡ length old
    pub done : (k : ℕ) → k < count → get_or new k [] ≡ extended k (get_or old k [])
    pub rest : (k : ℕ) → count ≤ k → get_or new k [] ≡ get_or old k []

  pub extended_none : (old : List (List (List ℕ))) → AreExtended 0 old old
  extended_none old = record { long = refl; done = λ k below. absurd (omega (arith, below)); rest = λ k from. refl }

  -- one more target
  one_more : (place : ℕ) (old new : List (List (List ℕ))) (lists : List (List ℕ)) → place < length new → lists ≡ extended place (get_or new place []) →
      AreExtended place old new → AreExtended (place + 1) old (slice_set new place lists)
  one_more place old new lists within is so_far = record {
    long = length-set new place lists ∙ so_far.long;
    done = λ k below. elim (cases_eq k place) [
      | inl same ↦
          ap (λ n. get_or (slice_set new place lists) n []) same
          ∙ get_or-set_same new place lists [] within
          ∙ is
          ∙ ap (extended place) (so_far.rest place (omega arith))
          ∙ sym (ap (λ n. extended n (get_or old n [])) same)
      | inr apart ↦ get_or-set_other new place k lists [] apart ∙ so_far.done k (omega (arith, below, apart))
    ];
    rest = λ k from. get_or-set_other new place k lists [] (λ same. omega (arith, from, same)) ∙ so_far.rest k (omega (arith, from));
  }

  pub extended_more : (place : ℕ) (old : List (List (List ℕ))) (links : List (Vec (RcSlice ℕ Global) Global)) (before after : Vec (RcSlice ℕ Global) Global) →
      place < length links → before ≡ get_or links place before → map rc_slice_items after.items ≡ extended place (map rc_slice_items before.items) →
      AreExtended place old (lists_of links) → AreExtended (place + 1) old (lists_of (slice_set links place after))
  extended_more place old links before after within at is so_far =
      let view : Vec (RcSlice ℕ Global) Global → List (List ℕ) = λ held. map rc_slice_items held.items in
      let here : get_or (lists_of links) place [] ≡ view before = get_or-map view links place before [] within ∙ ap view (sym at) in
      subst (AreExtended (place + 1) old) (sym (map-set view links place after))
      (one_more place old (lists_of links) (view after) (omega (arith, length-map links view, within)) (is ∙ ap (extended place) (sym here)) so_far)

  -- one that isn't flagged
  pub extended_past : (place : ℕ) (old : List (List (List ℕ))) (links : List (Vec (RcSlice ℕ Global) Global)) → get_or targets place false ≡ false →
      AreExtended place old (lists_of links) → AreExtended (place + 1) old (lists_of links)
  extended_past place old links off so_far = record {
    long = so_far.long;
    done = λ k below. elim (cases_eq k place) [
      | inl same ↦
          ap (λ n. get_or (lists_of links) n []) same
          ∙ so_far.rest place (omega arith)
          ∙ sym (ap (λ b. cond (b && not (length (comes_to place) == 0)) (get_or old place [] ++ comes_to place ∷ []) (get_or old place [])) off)
          ∙ sym (ap (λ n. extended n (get_or old n [])) same)
      | inr apart ↦ so_far.done k (omega (arith, below, apart))
    ];
    rest = λ k from. so_far.rest k (omega (arith, from));
  }

  -- what comes to a flagged one
  pub extended_on : (k : ℕ) (lists : List (List ℕ)) → get_or targets k false ≡ true →
      cond (length (comes_to k) == 0) lists (lists ++ comes_to k ∷ []) ≡ extended k lists
  extended_on k lists on =
      turned (length (comes_to k) == 0) lists (lists ++ comes_to k ∷ [])
      ∙ ap (λ b. cond (b && not (length (comes_to k) == 0)) (lists ++ comes_to k ∷ []) lists) (sym on)
    where
      turned : (b : Bool) (one other : List (List ℕ)) → cond b one other ≡ cond (not b) other one
      turned true one other = refl
      turned false one other = refl

  -- what that makes of which places stand in them
  pub linked : (old new : List (List (List ℕ))) → AreExtended (length sets) old new → AreLinked names sets sources targets old new
  linked old new all k place below within =
      ap (λ lists. is_among lists place) (all.done k below)
      ∙ (elim (cases_Bool (get_or targets k false)) [
        | inr off ↦
            ap (λ b. is_among (cond (b && not (length (comes_to k) == 0)) (held ++ comes_to k ∷ []) held) place) off
            ∙ sym (ap (λ b. is_among held place || (b && source)) off ∙ or_false (is_among held place))
        | inl on ↦
            elim (cases_Bool (length (comes_to k) == 0)) [
              | inl empty ↦
                  let none : comes_to k ≡ [] = nil_from_length (comes_to k) (eqb-true (length (comes_to k)) 0 empty) in
                  let no : source ≡ false = sym has ∙ ap (has_place place) none in
                  ap (λ b. is_among (cond b (held ++ comes_to k ∷ []) held) place) (ap (λ b. b && not (length (comes_to k) == 0)) on ∙ ap not empty)
                  ∙ sym (ap (λ b. is_among held place || (b && source)) on ∙ ap (λ b. is_among held place || b) no ∙ or_false (is_among held place))
              | inr some ↦
                  ap (λ b. is_among (cond b (held ++ comes_to k ∷ []) held) place) (ap (λ b. b && not (length (comes_to k) == 0)) on ∙ ap not some)
                  ∙ list_any-append (λ list. has_place place list) held (comes_to k ∷ [])
                  ∙ ap (λ b. is_among held place || b) (or_false (has_place place (comes_to k)) ∙ has)
                  ∙ sym (ap (λ b. is_among held place || (b && source)) on)
            ]
      ])
    where
      held : List (List ℕ)
      held = get_or old k []

      source : Bool
      source = get_or sources place false && are_alike names (get_or sets place []) (get_or sets k [])

      or_false : (b : Bool) → (b || false) ≡ b
      or_false true = refl
      or_false false = refl

      has : has_place place (comes_to k) ≡ source
      has =
          has_filter (has_key names sets sources (key_at k)) 0 (length sets) place (λ on. omega arith) (omega (arith, within))
          ∙ ap (λ b. get_or sources place false && b) (tied_alike names (get_or sets k []) (get_or sets place []))

  -- the list of a target to whom one comes
  comes_places : (count : ℕ) → ((place : ℕ) → get_or sources place false ≡ true → place < count) → (k : ℕ) → is_coming k ≡ true → ArePlaces count (comes_to k)
  comes_places count sound k on = record {
    rising =
        IsStrictlySortedBy-filter nat_cmp (has_key names sets sources (key_at k)) (range_with_len 0 (length sets))
        (sorted_from_strictly_increasing (range_with_len 0 (length sets))
        (λ i below.
        let long = length-range_with_len 0 (length sets) in
        let one = get_or-range_with_len 0 (length sets) i 0 (omega (arith, below, long)) in
        let next = get_or-range_with_len 0 (length sets) (i + 1) 0 (omega (arith, below, long)) in
        omega (arith, one, next)));
    below =
        All-weaker (λ place. has_key names sets sources (key_at k) place ≡ true) (λ place. place < count)
        (λ place passes. sound place (both_first (get_or sources place false) (eq_by_cmp keys_cmp (key_at k) (key_at place)) passes))
        (comes_to k) (filter_passes (has_key names sets sources (key_at k)) (range_with_len 0 (length sets)));
    some =
        elim (cases_eq (length (comes_to k)) 0) [
          | inl empty ↦
              absurd (true≢false (sym on ∙ ap (λ b. get_or targets k false && not b) (eq-eqb (length (comes_to k)) 0 empty) ∙ and_false (get_or targets k false)))
          | inr full ↦ omega (arith, full)
        ];
  }
    where
      both_first : (a b : Bool) → (a && b) ≡ true → a ≡ true
      both_first true b h = refl
      both_first false b h = h

      and_false : (b : Bool) → (b && false) ≡ false
      and_false true = refl
      and_false false = refl

  -- they stay lists of places
  pub places_stay : (count : ℕ) → ((place : ℕ) → get_or sources place false ≡ true → place < count) → (old new : List (List (List ℕ))) → length old ≡ length sets →
      AreExtended (length sets) old new → AreAllPlaces count old → AreAllPlaces count new
  places_stay count sound old new long all fine =
      All-from_get_or (λ (lists : List (List ℕ)). All (ArePlaces count) lists) new []
      (λ k below.
      let within : k < length sets = omega (arith, below, all.long, long) in
      let held = All-get_or (λ (lists : List (List ℕ)). All (ArePlaces count) lists) old k [] (omega (arith, below, all.long)) fine in
      subst (λ (lists : List (List ℕ)). All (ArePlaces count) lists) (sym (all.done k within))
      (elim (cases_Bool (is_coming k)) [
        | inl on ↦
            subst (λ b. All (ArePlaces count) (cond b (get_or old k [] ++ comes_to k ∷ []) (get_or old k []))) (sym on)
            (All-append (ArePlaces count) (get_or old k []) (comes_to k ∷ []) held
            (All-cons (ArePlaces count) (comes_to k) [] (comes_places count sound k on) (All-nil (ArePlaces count))))
        | inr off ↦ subst (λ b. All (ArePlaces count) (cond b (get_or old k [] ++ comes_to k ∷ []) (get_or old k []))) (sym off) held
      ]))
