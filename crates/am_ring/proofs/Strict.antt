-- Who stands before whom, and the search for the nearest.
use Rattle.std.proofs.Common.{◌≡◌, ℕ, ◌+◌, ◌-◌, ◌<◌, Bool, true, false, cond, eqb, List, [], ◌∷◌, ◌++◌, filter, get_or, take, Option, Some, None, refl, sym, ◌∙◌, ◌⊎◌, inl, inr, arith}
use Rattle.std.proofs.lemmas.Bool.{and_parts, and_from, cases_eq, cases_order, eq-eqb, eqb-true, false≢true, false_from_ne_true, lt-ltb, ltb-true, or_cases, or_left, or_right}
use Rattle.std.proofs.lemmas.List.{append-nil}
use Rattle.std.proofs.lemmas.List.Elements.{filter_more}
use Rattle.std.proofs.lemmas.List.Folds.{list_any-append}
use Rattle.std.specs.Prelude.{MatchOption}
use Rattle.am_ring.specs.Distances.{distance}
use Rattle.am_ring.specs.Instances.{all_instances, flagged, is_among}
use Rattle.am_ring.specs.Replicas.{IsFirst, stands_before}
use Rattle.am_ring.proofs.Numbers.{number_at}
use Rattle.am_ring.proofs.Order.{IsStrictOrder}

before_from : (place i j : ℕ) → (distance place i < distance place j) ⊎ ((distance place i ≡ distance place j) × (i < j)) → stands_before place i j ≡ true
unfolding stands_before
before_from place i j (inl less) = or_left _ _ (lt-ltb _ _ less)
before_from place i j (inr (same, low)) = or_right _ _ (and_from _ _ (eq-eqb _ _ same) (lt-ltb _ _ low))

before_is : (place i j : ℕ) → stands_before place i j ≡ true → (distance place i < distance place j) ⊎ ((distance place i ≡ distance place j) × (i < j))
unfolding stands_before
before_is place i j e =
    elim (or_cases _ _ e) [
      | inl less ↦ inl (ltb-true _ _ less)
      | inr tie ↦ let parts = and_parts _ _ tie in inr (eqb-true _ _ parts.0, ltb-true _ _ parts.1)
    ]

pub strict : (place : ℕ) → IsStrictOrder (stands_before place)
strict place = record {
  irreflexive = λ i. false_from_ne_true _ (λ e. elim (before_is place i i e) [ inl less ↦ omega arith | inr tie ↦ omega (arith, tie.1) ]);
  transitive = λ i j k e f. before_from place i k (elim (before_is place i j e) [
    | inl a ↦ elim (before_is place j k f) [ inl b ↦ inl (omega arith) | inr b ↦ inl (omega (arith, b.0)) ]
    | inr a ↦ elim (before_is place j k f) [ inl b ↦ inl (omega (arith, a.0)) | inr b ↦ inr (omega (arith, a.0, b.0), omega (arith, a.1, b.1)) ]
  ]);
  total = λ i j other not_before. before_from place j i (elim (cases_order (distance place i) (distance place j)) [
    | inl tie ↦ elim (cases_order i j) [
      | inl same ↦ absurd (other same)
      | inr (inl low) ↦ absurd (false≢true (sym not_before ∙ before_from place i j (inr (tie, low))))
      | inr (inr high) ↦ inr (sym tie, high)
    ]
    | inr (inl less) ↦ absurd (false≢true (sym not_before ∙ before_from place i j (inl less)))
    | inr (inr more) ↦ inl more
  ]);
}

-- the first one of a list, where it has any
abbrev pub IsFound : ℕ → List ℕ → Option ℕ → Type 0
IsFound place ys None = ys ≡ []
IsFound place ys (Some i) = IsFirst (stands_before place) ys i

-- the nearer of the first one and one that comes behind it in the list
one_behind : (place : ℕ) (ys : List ℕ) (i n : ℕ) → IsFirst (stands_before place) ys i → IsFirst (stands_before place) (ys ++ n ∷ []) (cond (stands_before place n i) n i)
one_behind place ys i n found = at_test (stands_before place n i) refl
  where
    among : (j : ℕ) → is_among j (ys ++ n ∷ []) ≡ true → (is_among j ys ≡ true) ⊎ (j ≡ n)
    among j e = elim (or_cases (is_among j ys) (is_among j (n ∷ [])) (sym (list_any-append (λ k. eqb j k) ys (n ∷ [])) ∙ e)) [
      | inl before ↦ inl before
      | inr behind ↦ elim (or_cases (eqb j n) false behind) [ inl same ↦ inr (eqb-true j n same) | inr none ↦ absurd (false≢true none) ]
    ]

    at_test : (b : Bool) → stands_before place n i ≡ b → IsFirst (stands_before place) (ys ++ n ∷ []) (cond b n i)
    at_test true test = record {
      among = list_any-append (λ k. eqb n k) ys (n ∷ []) ∙ or_right _ _ (or_left _ _ (eq-eqb n n refl));
      first = λ j e other. elim (among j e) [
        | inr same ↦ absurd (other (sym same))
        | inl before ↦ elim (cases_eq i j) [
          | inl same ↦ rw (← same) test
          | inr apart ↦ (strict place).transitive n i j test (found.first j before apart)
        ]
      ];
    }
    at_test false test = record {
      among = list_any-append (λ k. eqb i k) ys (n ∷ []) ∙ or_left _ _ found.among;
      first = λ j e other. elim (among j e) [
        | inl before ↦ found.first j before other
        | inr same ↦ rw same ((strict place).total n i (λ back. other (sym back ∙ sym same)) test)
      ];
    }

pub found_more : (place : ℕ) (ys : List ℕ) (found : Option ℕ) (n r : ℕ) → IsFound place ys found →
    MatchOption found (r ≡ n) (λ i. r ≡ cond (stands_before place n i) n i) → IsFound place (ys ++ n ∷ []) (Some r)
found_more place ys None n r none is = rw (none, is) (record {
  among = or_left _ _ (eq-eqb n n refl);
  first = λ j e other. elim (or_cases (eqb j n) false e) [ inl same ↦ absurd (other (sym (eqb-true j n same))) | inr none' ↦ absurd (false≢true none') ];
})
found_more place ys (Some i) n r found is = rw is (one_behind place ys i n found)

-- those among the first so many instances whose flag stands
abbrev pub scanned : List Bool → ℕ → List ℕ
scanned flags k = filter (λ i. get_or flags (i - 1) false) (take k all_instances)

scanned_more : (flags : List Bool) (k : ℕ) (b : Bool) → k < 8 → get_or flags k false ≡ b → scanned flags (k + 1) ≡ scanned flags k ++ cond b ((k + 1) ∷ []) []
scanned_more flags k b lt test =
    let back : k + 1 - 1 ≡ k = omega arith in
    filter_more (λ i. get_or flags (i - 1) false) all_instances k 0 lt ∙ rw (number_at k 0 lt, back, test) refl

pub scanned_yes : (flags : List Bool) (k : ℕ) → k < 8 → get_or flags k false ≡ true → scanned flags (k + 1) ≡ scanned flags k ++ (k + 1) ∷ []
scanned_yes flags k lt test = scanned_more flags k true lt test

pub scanned_no : (flags : List Bool) (k : ℕ) → k < 8 → get_or flags k false ≡ false → scanned flags (k + 1) ≡ scanned flags k
scanned_no flags k lt test = scanned_more flags k false lt test ∙ append-nil (scanned flags k)

pub scanned_all : (flags : List Bool) → scanned flags 8 ≡ flagged flags
unfolding flagged
scanned_all flags = refl
