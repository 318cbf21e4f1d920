-- One instance more or less replaces one replica at most.
use Rattle.std.proofs.Common.{◌≡◌, ◌≢◌, ℕ, ◌-◌, ◌≤◌, ◌<◌, Bool, true, false, ◌&&◌, ◌||◌, not, cond, eqb, ltb, List, length, filter, count_by, set, refl, sym, ap, ◌∙◌, inl, inr, arith}
use Rattle.std.specs.Prelude.{IsTrue}
use Rattle.std.proofs.lemmas.Bool.{and_from, and_parts, cases_eq, eq-eqb, false≢true, ltb-true, ltb-false, lt-ltb, ne_eqb, not-true}
use Rattle.std.proofs.lemmas.List.{get_or-set_same, length-set}
use Rattle.std.proofs.lemmas.List.Sums.{length-filter}
use Rattle.am_labels.specs.Hashes.{place}
use Rattle.am_ring.specs.Instances.{all_differ, all_instances, flagged, is_among, is_instance}
use Rattle.am_ring.specs.Changes.{with_instance, without}
use Rattle.am_ring.specs.Replicas.{ReplacesOne, count_replaced, is_replica, stands_before}
use Rattle.am_ring.proofs.Lists.{among-filter, count-le, count-none, count-without, filter-agree, filter-filter, only}
use Rattle.am_ring.proofs.Numbers.{all_among, within}
use Rattle.am_ring.proofs.Order.{at_most_one, rank}
use Rattle.am_ring.proofs.Strict.{strict}
use Rattle.am_ring.proofs.Flags.{flag_of, flagged-set_false, flagged-set_true, members_again, members_differ}

bit_le : (b : Bool) → cond {A = ℕ} b 1 0 ≤ 1
bit_le true = omega arith
bit_le false = omega arith

and_true : (b : Bool) → (b && true) ≡ b
and_true true = refl
and_true false = refl

-- without one instance no other one is lost
lost : (tenant ring : List ℕ) (i : ℕ) → all_differ ring ≡ true → is_among i ring ≡ true → IsTrue (is_instance i) → count_replaced tenant ring (without i ring) ≤ 1
unfolding count_replaced is_replica
lost tenant ring i differ among is =
    let all : count_by (λ j. is_replica tenant ring j && not (is_replica tenant (without i ring) j)) all_instances ≤ count_by (λ j. eqb i j) all_instances =
    count-le _ _ all_instances (λ j _ e.
    let parts = and_parts _ _ e in
    elim (cases_eq i j) [
      | inl same ↦ eq-eqb i j same
      | inr other ↦ absurd (false≢true (sym (not-true _ parts.1) ∙ stays j other parts.0))
    ]) in
    let one : length (filter (λ j. eqb i j) all_instances) ≡ 1 = rw (only i all_instances refl (all_among i is)) refl in
    omega (arith, all, one, length-filter (λ j. eqb i j) all_instances)
  where
    stays : (j : ℕ) → i ≢ j → is_replica tenant ring j ≡ true → is_replica tenant (without i ring) j ≡ true
    stays j other e =
        let lt = stands_before (place tenant) in
        let parts = and_parts (is_among j ring) (ltb (rank lt ring j) 3) e in
        let near : rank lt ring j < 3 = ltb-true _ _ parts.1 in
        let here : is_among j (without i ring) ≡ true = among-filter (λ k. not (eqb i k)) j ring ∙ rw (ne_eqb i j other, parts.0) refl in
        let less : rank lt (without i ring) j < 3 = omega (arith, near, count-without (λ k. lt k j) i ring differ among) in
        and_from (is_among j (without i ring)) (ltb (rank lt (without i ring) j) 3) here (lt-ltb _ _ less)

-- and of those that are replicas without it, only the last may be none with it
won : (tenant ring : List ℕ) (i : ℕ) → all_differ ring ≡ true → is_among i ring ≡ true → all_differ (without i ring) ≡ true →
    filter (λ j. is_among j (without i ring)) all_instances ≡ without i ring → count_replaced tenant (without i ring) ring ≤ 1
unfolding count_replaced is_replica
won tenant ring i differ among differ' members =
    let lt = stands_before (place tenant) in
    let rest = without i ring in
    let all : count_by (λ j. is_replica tenant rest j && not (is_replica tenant ring j)) all_instances ≤ count_by (λ j. is_among j rest && eqb (rank lt rest j) 2) all_instances =
    count-le _ _ all_instances (λ j _ e.
    let parts = and_parts _ _ e in
    let is = and_parts (is_among j rest) _ parts.0 in
    and_from _ _ is.0 (eq-eqb _ _ (at_two j is.0 (ltb-true _ _ is.1) (not-true _ parts.1)))) in
    let one : length (filter (λ j. eqb (rank lt rest j) 2) rest) ≤ 1 = at_most_one lt (strict (place tenant)) 2 rest differ' in
    let same : filter (λ j. is_among j rest && eqb (rank lt rest j) 2) all_instances ≡ filter (λ j. eqb (rank lt rest j) 2) rest =
    sym (filter-filter (λ j. eqb (rank lt rest j) 2) (λ j. is_among j rest) all_instances) ∙ ap (filter (λ j. eqb (rank lt rest j) 2)) members in
    omega (arith, all, one, ap length same, length-filter (λ j. is_among j rest && eqb (rank lt rest j) 2) all_instances)
  where
    at_two : (j : ℕ) → is_among j (without i ring) ≡ true → rank (stands_before (place tenant)) (without i ring) j < 3 → is_replica tenant ring j ≡ false → rank (stands_before (place tenant)) (without i ring) j ≡ 2
    at_two j there near gone =
        let lt = stands_before (place tenant) in
        let here : is_among j ring ≡ true = (and_parts (not (eqb i j)) (is_among j ring) (sym (among-filter (λ k. not (eqb i k)) j ring) ∙ there)).1 in
        let far : 3 ≤ rank lt ring j = ltb-false _ _ (rw here at gone) in
        omega (arith, near, far, bit_le (lt i j), count-without (λ k. lt k j) i ring differ among)

-- a ring and what is left without one of it
pub leaves_one : (tenant : List ℕ) (flags : List Bool) (i : ℕ) → length flags ≡ 8 → IsTrue (is_instance i) → is_among i (flagged flags) ≡ true →
    ReplacesOne tenant (flagged flags) (without i (flagged flags))
leaves_one tenant flags i len is among =
    let left = flagged-set_false flags i len is in
    let differ' : all_differ (without i (flagged flags)) ≡ true = rw (← left) (members_differ (set flags (i - 1) false)) in
    let members : filter (λ j. is_among j (without i (flagged flags))) all_instances ≡ without i (flagged flags) = rw (← left) (members_again (set flags (i - 1) false)) in
    record {
      lost = lost tenant (flagged flags) i (members_differ flags) among is;
      won = won tenant (flagged flags) i (members_differ flags) among differ' members;
    }

-- without the one that joined, the ring is as before
left_again : (flags : List Bool) (i : ℕ) → is_among i (flagged flags) ≡ false → without i (with_instance i (flagged flags)) ≡ flagged flags
unfolding with_instance
left_again flags i new =
    filter-filter (λ j. not (eqb i j)) (λ j. eqb i j || is_among j (flagged flags)) all_instances
    ∙ filter-agree (λ j. (eqb i j || is_among j (flagged flags)) && not (eqb i j)) (λ j. is_among j (flagged flags)) all_instances (λ j e.
    elim (cases_eq i j) [
      | inl same ↦ rw (eq-eqb i j same, ← same, new) refl
      | inr other ↦ rw (ne_eqb i j other) (and_true (is_among j (flagged flags)))
    ])
    ∙ members_again flags

pub joins_one : (tenant : List ℕ) (flags : List Bool) (i : ℕ) → length flags ≡ 8 → IsTrue (is_instance i) → is_among i (flagged flags) ≡ false →
    ReplacesOne tenant (flagged flags) (with_instance i (flagged flags))
joins_one tenant flags i len is new =
    let joined = flagged-set_true flags i len is in
    let among : is_among i (flagged (set flags (i - 1) true)) ≡ true =
    flag_of (set flags (i - 1) true) i is ∙ get_or-set_same flags (i - 1) true false (rw len (let w = within i is in let low : 1 ≤ i = w.low in let high : i ≤ 8 = w.high in omega arith)) in
    let back : without i (flagged (set flags (i - 1) true)) ≡ flagged flags = rw joined (left_again flags i new) in
    let one = leaves_one tenant (set flags (i - 1) true) i (length-set flags (i - 1) true ∙ len) is among in
    let one' = rw (back, joined) at one in
    record { lost = one'.won; won = one'.lost }

pub same_ring : (tenant ring : List ℕ) → ReplacesOne tenant ring ring
unfolding count_replaced
same_ring tenant ring =
    let none : count_by (λ j. is_replica tenant ring j && not (is_replica tenant ring j)) all_instances ≡ 0 = count-none _ all_instances (λ j _. neither (is_replica tenant ring j)) in
    record { lost = rw none (omega arith); won = rw none (omega arith) }
  where
    neither : (b : Bool) → (b && not b) ≡ false
    neither true = refl
    neither false = refl
