-- Who goes by an era, as the machine says, is up and has a place in it, in the cluster too.
use Rattle.std.proofs.Common.{◌≡◌, ℕ, suc, ◌≤◌, true, false, not, ◌&&◌, if◌then◌else◌, ◌⊎◌, inl, inr, subst, sym, ap, arith, ◌∙◌}
use Rattle.std.specs.Prelude.{nat_lt, ◌==◌}
use Rattle.am_stays.specs.Places.{Place, same}
use Rattle.am_stays.specs.Shadow.{Shadow}
use Rattle.am_stays.proofs.Phases.{Phase, is_up}
use Rattle.am_stays.proofs.Machine.{Facts, World, goes_by}
use Rattle.am_stays.proofs.Tied.{Tied}
use Rattle.am_stays.proofs.Tables.{and_left, and_right, not_true, apart, decide, same_is, eq_is, eq_refl, if_true, if_false, and_both, differ}
use Rattle.am_stays.proofs.Events.{Now, Lost, Stays, goes_cases, goes-now, goes-past}
use Rattle.am_stays.proofs.Linking.{going}

pub le_era : (p : Phase) (w : Facts) (h : ℕ) (q : Place) → goes_by p w h q ≡ true → h ≤ w.era
le_era p w h q z = elim (goes_cases p w h q z) [ inl c ↦ omega (arith, c.1) | inr (inl c) ↦ omega (arith, c.1) | inr (inr c) ↦ omega (arith, c.2) ]

pub goes_up : (s : Shadow) (w : World) (g : ℕ) (q : Place) → Tied s w → goes_by w.phase w.facts g q ≡ true → (s.up (s.member g q) ≡ true) × (s.era_of (s.known (s.member g q)) ≡ g)
goes_up s w g q d z =
    let both : (s.up (s.member g q) && (s.era_of (s.known (s.member g q)) == g)) ≡ true = sym (going w.phase w.facts s.member (λ b. s.era_of (s.known b)) s.up d.links g q (le_era w.phase w.facts g q z)) ∙ z in
    (and_left (s.up (s.member g q)) (s.era_of (s.known (s.member g q)) == g) both, eq_is (s.era_of (s.known (s.member g q))) g (and_right (s.up (s.member g q)) (s.era_of (s.known (s.member g q)) == g) both))

-- an instance that goes by an era has one place, in that era
pub one_place : (s : Shadow) (w : World) (g h : ℕ) (i q : Place) (j : ℕ) → Tied s w → g ≤ w.facts.era → s.member g i ≡ j → s.era_of (s.known j) ≡ g → goes_by w.phase w.facts h q ≡ true → s.member h q ≡ j → (h ≡ g) × (q ≡ i)
one_place s w g h i q j d l m e z n =
    let at : h ≡ g = sym (goes_up s w h q d z).1 ∙ (ap (λ b. s.era_of (s.known b)) n ∙ e) in
    (at, same_is q i (d.links.distinct g q i l (subst (λ b. s.member b q ≡ j) at n ∙ sym m)))

-- who goes by an era isn't one that is down
pub not_down : (s : Shadow) (w : World) (j : ℕ) → Tied s w → s.up j ≡ false → (g : ℕ) (q : Place) → goes_by w.phase w.facts g q ≡ true → (s.member g q == j) ≡ false
not_down s w j d down g q z = differ (s.member g q) j (λ e. apart (s.up j) (subst (λ k. s.up k ≡ true) e (goes_up s w g q d z).0) down)

-- .. nor one that has no place in the era by which it goes
pub not_placed : (s : Shadow) (w : World) (j : ℕ) → Tied s w → ((q : Place) → s.member (s.era_of (s.known j)) q ≡ j → ⊥) → (g : ℕ) (q : Place) → goes_by w.phase w.facts g q ≡ true → (s.member g q == j) ≡ false
not_placed s w j d none g q z = differ (s.member g q) j (λ e. none q (subst (λ k. s.member k q ≡ j) (sym (goes_up s w g q d z).1 ∙ ap (λ k. s.era_of (s.known k)) e) e))

-- who goes by an era after it was said that one lost its place went by it before
pub goes-less : (p : Phase) (w : Facts) (h g : ℕ) (q : Place) → goes_by p (record w { lingers = λ k. not (k == h) && w.lingers k }) g q ≡ true → goes_by p w g q ≡ true
goes-less p w h g q z = go (decide (g == w.era))
  where
    go : ((g == w.era) ≡ true) ⊎ ((g == w.era) ≡ false) → goes_by p w g q ≡ true
    go (inl a) = goes-now p w g q a ∙ (sym (if_true (g == w.era) (w.knows q && is_up p q) (nat_lt g w.era && (if same q (w.changed (suc g)) then not (suc g == h) && w.lingers (suc g) else (suc g == w.era) && not (w.knows q))) a) ∙ z)
    go (inr a) =
        let b : (nat_lt g w.era && (if same q (w.changed (suc g)) then not (suc g == h) && w.lingers (suc g) else (suc g == w.era) && not (w.knows q))) ≡ true = sym (if_false (g == w.era) (w.knows q && is_up p q) (nat_lt g w.era && (if same q (w.changed (suc g)) then not (suc g == h) && w.lingers (suc g) else (suc g == w.era) && not (w.knows q))) a) ∙ z in
        goes-past p w g q a
        ∙ and_both (nat_lt g w.era) (if same q (w.changed (suc g)) then w.lingers (suc g) else (suc g == w.era) && not (w.knows q)) (and_left (nat_lt g w.era) (if same q (w.changed (suc g)) then not (suc g == h) && w.lingers (suc g) else (suc g == w.era) && not (w.knows q)) b) (less (decide (same q (w.changed (suc g)))) (and_right (nat_lt g w.era) (if same q (w.changed (suc g)) then not (suc g == h) && w.lingers (suc g) else (suc g == w.era) && not (w.knows q)) b))
      where
        less : ((same q (w.changed (suc g)) ≡ true) ⊎ (same q (w.changed (suc g)) ≡ false)) → (if same q (w.changed (suc g)) then not (suc g == h) && w.lingers (suc g) else (suc g == w.era) && not (w.knows q)) ≡ true → (if same q (w.changed (suc g)) then w.lingers (suc g) else (suc g == w.era) && not (w.knows q)) ≡ true
        less (inl c) y = if_true (same q (w.changed (suc g))) (w.lingers (suc g)) ((suc g == w.era) && not (w.knows q)) c ∙ and_right (not (suc g == h)) (w.lingers (suc g)) (sym (if_true (same q (w.changed (suc g))) (not (suc g == h) && w.lingers (suc g)) ((suc g == w.era) && not (w.knows q)) c) ∙ y)
        less (inr c) y = if_false (same q (w.changed (suc g))) (w.lingers (suc g)) ((suc g == w.era) && not (w.knows q)) c ∙ (sym (if_false (same q (w.changed (suc g))) (not (suc g == h) && w.lingers (suc g)) ((suc g == w.era) && not (w.knows q)) c) ∙ y)

-- .. and isn't that one
pub not_lost : (s : Shadow) (p : Phase) (w : Facts) (a : ℕ) (q : Place) (j : ℕ) → Tied s (record { phase = p; facts = w }) → s.member a q ≡ j → s.era_of (s.known j) ≡ a → Lost p w a q → (g : ℕ) (o : Place) → goes_by p (record w { lingers = λ k. not (k == suc a) && w.lingers k }) g o ≡ true → (s.member g o == j) ≡ false
not_lost s p w a q j d m k lost g o z = differ (s.member g o) j (λ e. out (one_place s (record { phase = p; facts = w }) a g q o j d (omega (arith, lost.1)) m k (goes-less p w (suc a) g o z) e))
  where
    w2 : Facts
    w2 = record w { lingers = λ k. not (k == suc a) && w.lingers k }

    none : Now p w2 a q ⊎ (Lost p w2 a q ⊎ Stays p w2 a q) → ⊥
    none (inl x) = absurd (omega (arith, x.1, lost.1))
    none (inr (inl x)) = apart (suc a == suc a) (eq_refl (suc a)) (not_true (suc a == suc a) (and_left (not (suc a == suc a)) (w.lingers (suc a)) x.3))
    none (inr (inr x)) = apart (same q (w.changed (suc a))) lost.2 x.1

    out : (g ≡ a) × (o ≡ q) → ⊥
    out x = none (goes_cases p w2 a q (subst (λ k. goes_by p w2 a k ≡ true) x.1 (subst (λ k. goes_by p w2 k o ≡ true) x.0 z)))
