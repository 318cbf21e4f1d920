-- Flags for instances: what they name before and after one of them is written.
use Rattle.std.proofs.Common.{◌≡◌, ◌≢◌, ℕ, ◌+◌, ◌-◌, ◌≤◌, ◌<◌, Bool, true, false, ◌&&◌, ◌||◌, not, cond, eqb, leb, List, [], ◌∷◌, length, filter, map, count_by, get_or, set, refl, sym, ap, ◌∙◌, inl, inr, arith}
use Rattle.std.specs.Prelude.{IsTrue}
use Rattle.std.proofs.lemmas.Bool.{and_parts, cases_eq, eq-eqb, false_from_ne_true, false≢true, leb-true, ne_eqb, not-true, or_right}
use Rattle.std.proofs.lemmas.List.{get_or-set_same, get_or-set_other, length-set}
use Rattle.std.proofs.lemmas.List.FromFn.{fill_by_all}
use Rattle.std.proofs.lemmas.List.Sums.{length-filter}
use Rattle.std.specs.List.{list_all}
use Rattle.am_ring.specs.Instances.{IsRing, all_differ, all_instances, flagged, flags_of, in_order, is_among, is_instance, may_be_ring}
use Rattle.am_ring.specs.Changes.{with_instance, without}
use Rattle.am_ring.proofs.Lists.{all_differ-filter, among-filter, count-le, count-without, filter-agree, filter-filter, head_among, length-without, tail_among}
use Rattle.am_ring.proofs.Numbers.{all_among, among_all, at_instance, is_instance_from, within}

and_true : (b : Bool) → (b && true) ≡ b
and_true true = refl
and_true false = refl

-- an instance is named where its flag stands
pub flag_of : (flags : List Bool) (i : ℕ) → IsTrue (is_instance i) → is_among i (flagged flags) ≡ get_or flags (i - 1) false
unfolding flagged
flag_of flags i is =
    among-filter (λ j. get_or flags (j - 1) false) i all_instances ∙ rw (all_among i is) (and_true (get_or flags (i - 1) false))

pub flags_again : (flags : List Bool) → length flags ≡ 8 → flags ≡ flags_of (flagged flags)
unfolding flags_of
flags_again flags len =
    fill_by_all (λ k. is_among (k + 1) (flagged flags)) flags 8 false len (λ k lt.
    let one_less : k + 1 - 1 ≡ k = omega arith in
    sym (rw one_less at (flag_of flags (k + 1) (is_instance_from (k + 1) (record { low = omega arith; high = omega arith })))))

pub eight_flags : (flags : List Bool) → IsRing flags → length flags ≡ 8
unfolding flags_of
eight_flags flags is = ap length is.each

pub members_differ : (flags : List Bool) → all_differ (flagged flags) ≡ true
unfolding flagged
members_differ flags = all_differ-filter (λ j. get_or flags (j - 1) false) all_instances refl

-- one flag more
pub flagged-set_true : (flags : List Bool) (i : ℕ) → length flags ≡ 8 → IsTrue (is_instance i) → flagged (set flags (i - 1) true) ≡ with_instance i (flagged flags)
unfolding flagged with_instance
flagged-set_true flags i len is =
    filter-agree (λ j. get_or (set flags (i - 1) true) (j - 1) false) (λ j. eqb i j || is_among j (flagged flags)) all_instances (λ j e.
    let here = within i is in
    let there = within j (among_all j e) in
    elim (cases_eq i j) [
      | inl same ↦
          let in' : j - 1 < length flags = rw len (omega (arith, there.low, there.high)) in
          rw (same, eq-eqb j j refl) (get_or-set_same flags (j - 1) true false in')
      | inr other ↦
          let apart : j - 1 ≢ i - 1 = λ e. other (omega (arith, here.low, there.low)) in
          rw (ne_eqb i j other, flag_of flags j (among_all j e)) (get_or-set_other flags (i - 1) (j - 1) true false apart)
    ])

-- one flag less
pub flagged-set_false : (flags : List Bool) (i : ℕ) → length flags ≡ 8 → IsTrue (is_instance i) → flagged (set flags (i - 1) false) ≡ without i (flagged flags)
unfolding flagged
flagged-set_false flags i len is =
    filter-agree (λ j. get_or (set flags (i - 1) false) (j - 1) false) (λ j. get_or flags (j - 1) false && not (eqb i j)) all_instances (λ j e.
    let here = within i is in
    let there = within j (among_all j e) in
    elim (cases_eq i j) [
      | inl same ↦
          let in' : j - 1 < length flags = rw len (omega (arith, there.low, there.high)) in
          rw (same, eq-eqb j j refl) (get_or-set_same flags (j - 1) false false in' ∙ none (get_or flags (j - 1) false))
      | inr other ↦
          let apart : j - 1 ≢ i - 1 = λ e. other (omega (arith, here.low, there.low)) in
          rw (ne_eqb i j other) (get_or-set_other flags (i - 1) (j - 1) false false apart ∙ sym (and_true (get_or flags (j - 1) false)))
    ]) ∙ sym (filter-filter (λ j. not (eqb i j)) (λ j. get_or flags (j - 1) false) all_instances)
  where
    none : (b : Bool) → false ≡ (b && false)
    none true = refl
    none false = refl

-- a ring stays one where an instance joins, and where one of more than three leaves
pub joined_ring : (flags : List Bool) (i : ℕ) → IsRing flags → IsTrue (is_instance i) → IsRing (set flags (i - 1) true)
unfolding flagged with_instance
joined_ring flags i ring is =
    let len = eight_flags flags ring in
    record {
      each = flags_again (set flags (i - 1) true) (length-set flags (i - 1) true ∙ len);
      enough =
          let more : count_by (λ j. get_or flags (j - 1) false) all_instances ≤ count_by (λ j. eqb i j || is_among j (flagged flags)) all_instances =
          count-le _ _ all_instances (λ j e stands. or_right (eqb i j) (is_among j (flagged flags)) (flag_of flags j (among_all j e) ∙ stands)) in
          rw (flagged-set_true flags i len is)
          (omega (arith, more, ring.enough, length-filter (λ j. get_or flags (j - 1) false) all_instances, length-filter (λ j. eqb i j || is_among j (flagged flags)) all_instances));
    }

pub left_ring : (flags : List Bool) (i : ℕ) → IsRing flags → IsTrue (is_instance i) → is_among i (flagged flags) ≡ true → 3 < length (flagged flags) → IsRing (set flags (i - 1) false)
left_ring flags i ring is among more =
    let len = eight_flags flags ring in
    record {
      each = flags_again (set flags (i - 1) false) (length-set flags (i - 1) false ∙ len);
      enough = rw (flagged-set_false flags i len is) (omega (arith, more, length-without i (flagged flags) (members_differ flags) among));
    }

-- a number that is no instance's is named nowhere
pub stranger : (flags : List Bool) (i : ℕ) → is_instance i ≡ false → is_among i (flagged flags) ≡ false
unfolding flagged
stranger flags i is =
    among-filter (λ j. get_or flags (j - 1) false) i all_instances
    ∙ rw (false_from_ne_true _ (λ among. false≢true (sym is ∙ among_all i among))) (and_false (get_or flags (i - 1) false))
  where
    and_false : (b : Bool) → (b && false) ≡ false
    and_false true = refl
    and_false false = refl

-- what is named, is what is among it
pub members_again : (flags : List Bool) → filter (λ i. is_among i (flagged flags)) all_instances ≡ flagged flags
unfolding flagged
members_again flags =
    filter-agree (λ i. is_among i (flagged flags)) (λ i. get_or flags (i - 1) false) all_instances (λ i e. flag_of flags i (among_all i e))

as_many : (flags : List Bool) → count_by (λ stands. stands) (flags_of (flagged flags)) ≡ count_by (λ i. is_among i (flagged flags)) all_instances
unfolding flags_of
as_many flags = refl

-- there are as many as flags that stand
pub count_flags : (flags : List Bool) → IsRing flags → count_by (λ stands. stands) flags ≡ length (flagged flags)
count_flags flags is =
    ap (count_by (λ stands. stands)) is.each ∙ as_many flags ∙ sym (length-filter (λ i. is_among i (flagged flags)) all_instances) ∙ ap length (members_again flags)

-- the instances whose flags are those of numbers
pub flagged-flags_of : (numbers : List ℕ) → flagged (flags_of numbers) ≡ in_order numbers
unfolding flagged flags_of in_order
flagged-flags_of numbers =
    filter-agree (λ i. get_or (map (λ j. is_among j numbers) all_instances) (i - 1) false) (λ i. is_among i numbers) all_instances
    (λ i e. at_instance (λ j. is_among j numbers) i false (among_all i e))

-- different instances are as many as those of all that are among them
as_many_among : (numbers : List ℕ) → all_differ numbers ≡ true → list_all is_instance numbers ≡ true → length numbers ≤ count_by (λ i. is_among i numbers) all_instances
as_many_among [] differ are = omega arith
as_many_among (n ∷ ns) differ are =
    let new = and_parts (not (is_among n ns)) (all_differ ns) differ in
    let is = and_parts (is_instance n) (list_all is_instance ns) are in
    let among = all_among n is.0 in
    let rest = as_many_among ns new.1 is.1 in
    let whole : count_by (λ i. is_among i (n ∷ ns)) all_instances ≡ 1 + count_by (λ i. is_among i (n ∷ ns)) (without n all_instances) =
    count-without (λ i. is_among i (n ∷ ns)) n all_instances refl among ∙ rw (head_among n ns) refl in
    let none : cond {A = ℕ} (is_among n ns) 1 0 ≡ 0 = rw (not-true _ new.0) refl in
    let part : count_by (λ i. is_among i ns) all_instances ≡ count_by (λ i. is_among i ns) (without n all_instances) =
    omega (arith, count-without (λ i. is_among i ns) n all_instances refl among, none) in
    let more : count_by (λ i. is_among i ns) (without n all_instances) ≤ count_by (λ i. is_among i (n ∷ ns)) (without n all_instances) =
    count-le _ _ (without n all_instances) (λ i _ e. tail_among i n ns e) in
    omega (arith, rest, whole, part, more)

flags_of_eight : (numbers : List ℕ) → length (flags_of numbers) ≡ 8
unfolding flags_of
flags_of_eight numbers = refl

-- the flags of a ring's numbers
pub made_ring : (numbers : List ℕ) → may_be_ring numbers ≡ true → IsRing (flags_of numbers)
unfolding in_order
made_ring numbers may =
    let three = and_parts (leb 3 (length numbers) && leb (length numbers) 8 && list_all is_instance numbers) (all_differ numbers) may in
    let two = and_parts (leb 3 (length numbers) && leb (length numbers) 8) (list_all is_instance numbers) three.0 in
    let one = and_parts (leb 3 (length numbers)) (leb (length numbers) 8) two.0 in
    let enough : 3 ≤ length numbers = leb-true _ _ one.0 in
    record {
      each = flags_again (flags_of numbers) (flags_of_eight numbers);
      enough = rw (flagged-flags_of numbers) (omega (arith, enough, as_many_among numbers three.1 two.1, length-filter (λ i. is_among i numbers) all_instances));
    }
