-- The machine does what the cluster does, at a crash, a restart and a stop of all.
use Rattle.std.proofs.Common.{◌≡◌, ℕ, suc, ◌<◌, ◌≤◌, Bool, true, false, not, ◌&&◌, ◌||◌, if◌then◌else◌, ◌⊎◌, inl, inr, refl, subst, sym, arith, ◌∙◌}
use Rattle.std.specs.Prelude.{nat_lt, ◌==◌}
use Rattle.am_stays.specs.Places.{Place, same}
use Rattle.am_stays.proofs.Phases.{Phase, Whole, Down, Unsettled, is_up, is_settled}
use Rattle.am_stays.proofs.Machine.{Facts, Crash, Restart, Stop, goes_by, stays, best_of, crashes, restarts, happens}
use Rattle.am_stays.proofs.Links.{Links}
use Rattle.am_stays.specs.Shadow.{Shadow}
use Rattle.am_stays.proofs.Tied.{Tied}
use Rattle.am_stays.proofs.Tables.{and_left, and_right, or_cases, or_left, or_right, not_true, apart, decide, same_is, same_refl, eq_is, eq_refl, eq_true, if_true, if_false, and_both, and_false, greater}
use Rattle.am_stays.proofs.Events.{Now, Lost, Stays, goes_cases, goes-now, goes-past, best-here, best-left}
use Rattle.am_stays.proofs.Linking.{going, step-crash, step-restart}
use Rattle.am_stays.proofs.Runs.{Fine}

-- The instance of place r crashes.
pub tied-crash : (s : Shadow) (w : Facts) (r : Place) (held : ℕ → ℕ) (up settled : ℕ → Bool) (taken : ℕ → ℕ → ℕ → Bool) → Fine (record { phase = Whole; facts = w }) → Tied s (record { phase = Whole; facts = w }) → up (s.member w.era r) ≡ false → ((q : Place) → same q r ≡ false → up (s.member w.era q) ≡ s.up (s.member w.era q)) → ((g : ℕ) → g < w.era → (up (s.member g (w.changed (suc g))) && (s.era_of (s.known (s.member g (w.changed (suc g)))) == g)) ≡ (s.up (s.member g (w.changed (suc g))) && (s.era_of (s.known (s.member g (w.changed (suc g)))) == g))) → ((k : ℕ) → (k ≡ s.member w.era r → ⊥) → held k ≡ s.held k) → Tied (record s { held = held; up = up; settled = settled; taken = taken }) (happens (record { phase = Whole; facts = w }) (Crash r))
tied-crash s w r held up settled taken f d u1 u2 old H =
    record {
      links = l2;
      held = λ g q z. held_ g q z (goes_cases (Down r) (crashes w true r) g q z);
      settles = λ g q z y. and_both (goes_by (Down r) (crashes w true r) g q) (is_settled (Down r) q || not (g == w.era)) z (serve g q z (goes_cases (Down r) (crashes w true r) g q z));
      outlived = d.outlived;
      asking = d.asking;
      writing = d.writing;
      states = tt;
    }
  where
    w2 : Facts
    w2 = crashes w true r

    l2 : Links (Down r) (crashes w true r) s.member (λ k. s.era_of (s.known k)) up
    l2 = step-crash w r s.member (λ k. s.era_of (s.known k)) s.up up d.links (λ q. f.sound.known q) u1 u2 old

    serve : (g : ℕ) (q : Place) → goes_by (Down r) w2 g q ≡ true → Now (Down r) w2 g q ⊎ (Lost (Down r) w2 g q ⊎ Stays (Down r) w2 g q) → (is_settled (Down r) q || not (g == w.era)) ≡ true
    serve g q z (inl c) = or_left (not (same q r)) (not (g == w.era)) c.3
    serve g q z (inr (inl c)) = or_right (not (same q r)) (not (g == w.era)) (rw c.0)
    serve g q z (inr (inr c)) = or_right (not (same q r)) (not (g == w.era)) (rw c.0)

    -- a member of an era that goes by it is not the crashed one, which isn't up
    not_it : (g : ℕ) (q : Place) → g ≤ w.era → goes_by (Down r) w2 g q ≡ true → s.member g q ≡ s.member w.era r → ⊥
    not_it g q l z e =
        let a : (up (s.member g q) && (s.era_of (s.known (s.member g q)) == g)) ≡ true = sym (going (Down r) w2 s.member (λ k. s.era_of (s.known k)) up l2 g q l) ∙ z in
        apart (up (s.member w.era r)) (subst (λ k. up k ≡ true) e (and_left (up (s.member g q)) (s.era_of (s.known (s.member g q)) == g) a)) u1

    held_ : (g : ℕ) (q : Place) → goes_by (Down r) w2 g q ≡ true → Now (Down r) w2 g q ⊎ (Lost (Down r) w2 g q ⊎ Stays (Down r) w2 g q) → held (s.member g q) ≡ best_of w2 g q
    held_ g q z (inl c) =
        let n : goes_by Whole w g q ≡ true = goes-now Whole w g q c.0 ∙ and_both (w.knows q) true c.2 refl in
        let here : stays w g q ≡ true = or_left (g == w.era) (not (same q (w.changed (suc g)))) c.0 in
        H (s.member g q) (not_it g q (omega (arith, c.1)) z)
        ∙ (d.held g q n ∙ (best-here w g q here
        ∙ (sym (if_false (same q r) 0 (w.best q) (not_true (same q r) c.3)) ∙ sym (if_true (stays w g q) (w2.best q) (w.old (suc g)) here))))
    held_ g q z (inr (inl c)) =
        let n : goes_by Whole w g q ≡ true = goes-past Whole w g q c.0 ∙ (sym (goes-past (Down r) w g q c.0) ∙ z) in
        let outlived : stays w g q ≡ false = rw (c.0, c.2) in
        H (s.member g q) (not_it g q (omega (arith, c.1)) z) ∙ (d.held g q n ∙ (best-left w g q outlived ∙ sym (if_false (stays w g q) (w2.best q) (w.old (suc g)) outlived)))
    held_ g q z (inr (inr c)) = apart (w.knows q) (f.sound.known q) c.3

-- The facts of a restart, at a phase in which r is the one that comes back.
restart-core : (s : Shadow) (p : Phase) (w : Facts) (r : Place) (known incarnation held : ℕ → ℕ) (up settled undecided waiting : ℕ → Bool) (taken : ℕ → ℕ → ℕ → Bool) → Tied s (record { phase = p; facts = w }) → Links (Unsettled r) (restarts (Unsettled r) w true) s.member (λ k. s.era_of (known k)) up → ((q : Place) → same q r ≡ false → is_up p q ≡ true) → ((q : Place) → w.knows q ≡ false → same q (w.changed w.era) ≡ false → same q r ≡ false) → ((k : ℕ) → (k ≡ s.member w.era r → ⊥) → held k ≡ s.held k) → held (s.member w.era r) ≡ 0 → settled (s.member w.era r) ≡ false → ((n : ℕ) → undecided n ≡ true → (s.undecided n ≡ true) × ((w.request_era n == w.era) ≡ false)) → ((x : ℕ) → waiting x ≡ true → (s.waiting x ≡ true) × ((w.write_era x == w.era) ≡ false)) → ((k e : ℕ) → s.cut k e (s.member w.era r) (incarnation (s.member w.era r)) ≡ false) → ((l o : ℕ) → taken (s.member w.era r) l o ≡ false) → s.era_of (known (s.member w.era r)) ≡ w.era → Tied (record s { known = known; incarnation = incarnation; held = held; up = up; settled = settled; undecided = undecided; waiting = waiting; taken = taken }) (record { phase = Unsettled r; facts = restarts (Unsettled r) w true })
restart-core s p w r known incarnation held up settled undecided waiting taken d l2 ups N H H0 S0 C1 C2 F T E =
    record {
      links = l2;
      held = λ g q z. held_ g q z (goes_cases (Unsettled r) w2 g q z);
      settles = λ g q z y. and_both (goes_by (Unsettled r) w2 g q) (is_settled (Unsettled r) q || not (g == w.era)) z (serve g q y (goes_cases (Unsettled r) w2 g q z));
      outlived = d.outlived;
      asking =
          record {
            asked = d.asking.asked;
            request_era = d.asking.request_era;
            before = d.asking.before;
            undecided = λ n z. and_both (not (w.request_era n == w.era)) (w.undecided n) (rw (C1 n z).1) (d.asking.undecided n (C1 n z).0);
            answer = d.asking.answer;
          };
      writing =
          record {
            put = d.writing.put;
            write_era = d.writing.write_era;
            by = d.writing.by;
            waiting = λ x z. and_both (not (w.write_era x == w.era)) (w.waiting x) (rw (C2 x z).1) (d.writing.waiting x (C2 x z).0);
            ack = d.writing.ack;
            acknowledged = d.writing.acknowledged;
          };
      states = (
        λ i e z. sym (F (s.member w.era i) e),
        λ i e z y. apart false y refl,
        λ i o z x y. apart (taken (s.member w.era r) (s.member w.era i) o) y (T (s.member w.era i) o),
        λ i e y. apart false y refl,
      );
    }
  where
    w2 : Facts
    w2 = restarts (Unsettled r) w true

    serve : (g : ℕ) (q : Place) → settled (s.member g q) ≡ true → Now (Unsettled r) w2 g q ⊎ (Lost (Unsettled r) w2 g q ⊎ Stays (Unsettled r) w2 g q) → (is_settled (Unsettled r) q || not (g == w.era)) ≡ true
    serve g q y (inl c) =
        elim (decide (same q r)) [
          | inl a ↦ apart (settled (s.member w.era r)) (subst (λ k. settled (s.member w.era k) ≡ true) (same_is q r a) (subst (λ k. settled (s.member k q) ≡ true) c.1 y)) S0
          | inr a ↦ or_left (not (same q r)) (not (g == w.era)) (rw a)
        ]
    serve g q y (inr (inl c)) = or_right (not (same q r)) (not (g == w.era)) (rw c.0)
    serve g q y (inr (inr c)) = or_right (not (same q r)) (not (g == w.era)) (rw c.0)

    -- an earlier era's member that goes by it isn't the restarted one, which goes by the present era
    not_it : (g : ℕ) (q : Place) → g < w.era → goes_by (Unsettled r) w2 g q ≡ true → s.member g q ≡ s.member w.era r → ⊥
    not_it g q l z e =
        let a : (up (s.member g q) && (s.era_of (known (s.member g q)) == g)) ≡ true = sym (going (Unsettled r) w2 s.member (λ k. s.era_of (known k)) up l2 g q (omega (arith, l))) ∙ z in
        let b : s.era_of (known (s.member g q)) ≡ g = eq_is (s.era_of (known (s.member g q))) g (and_right (up (s.member g q)) (s.era_of (known (s.member g q)) == g) a) in
        let c : s.era_of (known (s.member w.era r)) ≡ g = subst (λ k. s.era_of (known k) ≡ g) e b in
        absurd (omega (arith, c, E, l))

    held_ : (g : ℕ) (q : Place) → goes_by (Unsettled r) w2 g q ≡ true → Now (Unsettled r) w2 g q ⊎ (Lost (Unsettled r) w2 g q ⊎ Stays (Unsettled r) w2 g q) → held (s.member g q) ≡ best_of w2 g q
    held_ g q z (inl c) =
        let here : stays w g q ≡ true = or_left (g == w.era) (not (same q (w.changed (suc g)))) c.0 in
        elim (decide (same q r)) [
          | inl a ↦
              subst (λ k. held (s.member g k) ≡ best_of w2 g k) (sym (same_is q r a))
              (subst (λ k. held (s.member k r) ≡ best_of w2 k r) (sym c.1)
              (H0 ∙ sym (if_true (stays w w.era r) (w2.best r) (w.old (suc w.era)) (or_left (w.era == w.era) (not (same r (w.changed (suc w.era)))) (eq_refl w.era)) ∙ if_true (same r r) 0 (w.best r) (same_refl r))))
          | inr a ↦
              let k : w.knows q ≡ true = elim (or_cases (same q r) (w.knows q) c.2) [ inl b ↦ apart (same q r) b a | inr b ↦ b ] in
              let n : goes_by p w g q ≡ true = goes-now p w g q c.0 ∙ and_both (w.knows q) (is_up p q) k (ups q a) in
              H (s.member g q) (λ e. apart (same q r) (l2.distinct w.era q r (omega arith) (subst (λ b. s.member b q ≡ s.member w.era r) c.1 e)) a)
              ∙ (d.held g q n ∙ (best-here w g q here ∙ (sym (if_false (same q r) 0 (w.best q) a) ∙ sym (if_true (stays w g q) (w2.best q) (w.old (suc g)) here))))
        ]
    held_ g q z (inr (inl c)) =
        let n : goes_by p w g q ≡ true = goes-past p w g q c.0 ∙ and_both (nat_lt g w.era) (if same q (w.changed (suc g)) then w.lingers (suc g) else (suc g == w.era) && not (w.knows q)) (lt g c.0 z) (if_true (same q (w.changed (suc g))) (w.lingers (suc g)) ((suc g == w.era) && not (w.knows q)) c.2 ∙ c.3) in
        let outlived : stays w g q ≡ false = rw (c.0, c.2) in
        H (s.member g q) (not_it g q c.1 z) ∙ (d.held g q n ∙ (best-left w g q outlived ∙ sym (if_false (stays w g q) (w2.best q) (w.old (suc g)) outlived)))
      where
        lt : (g : ℕ) → (g == w.era) ≡ false → goes_by (Unsettled r) w2 g q ≡ true → nat_lt g w.era ≡ true
        lt g a y = and_left (nat_lt g w.era) (if same q (w.changed (suc g)) then w.lingers (suc g) else (suc g == w.era) && not (same q r || w.knows q)) (sym (if_false (g == w.era) ((same q r || w.knows q) && true) (nat_lt g w.era && (if same q (w.changed (suc g)) then w.lingers (suc g) else (suc g == w.era) && not (same q r || w.knows q))) a) ∙ y)
    held_ g q z (inr (inr c)) =
        let k : w.knows q ≡ false = elim (decide (w.knows q)) [ inr b ↦ b | inl b ↦ apart (same q r || w.knows q) (or_right (same q r) (w.knows q) b) c.3 ] in
        let a : same q r ≡ false = elim (decide (same q r)) [ inr b ↦ b | inl b ↦ apart (same q r || w.knows q) (or_left (same q r) (w.knows q) b) c.3 ] in
        let less : nat_lt g w.era ≡ true = and_left (nat_lt g w.era) (if same q (w.changed (suc g)) then w.lingers (suc g) else (suc g == w.era) && not (same q r || w.knows q)) (sym (if_false (g == w.era) ((same q r || w.knows q) && true) (nat_lt g w.era && (if same q (w.changed (suc g)) then w.lingers (suc g) else (suc g == w.era) && not (same q r || w.knows q))) c.0) ∙ z) in
        let n : goes_by p w g q ≡ true = goes-past p w g q c.0 ∙ and_both (nat_lt g w.era) (if same q (w.changed (suc g)) then w.lingers (suc g) else (suc g == w.era) && not (w.knows q)) less (if_false (same q (w.changed (suc g))) (w.lingers (suc g)) ((suc g == w.era) && not (w.knows q)) c.1 ∙ and_both (suc g == w.era) (not (w.knows q)) (eq_true (suc g) w.era c.2) (rw k)) in
        let here : stays w g q ≡ true = or_right (g == w.era) (not (same q (w.changed (suc g)))) (rw c.1) in
        H (s.member g q) (not_it g q (omega (arith, c.2)) z)
        ∙ (d.held g q n ∙ (best-here w g q here ∙ (sym (if_false (same q r) 0 (w.best q) a) ∙ sym (if_true (stays w g q) (w2.best q) (w.old (suc g)) here))))

-- The instance of place r, which crashed, is restarted.
pub tied-back : (s : Shadow) (w : Facts) (r : Place) (known incarnation held : ℕ → ℕ) (up settled undecided waiting : ℕ → Bool) (taken : ℕ → ℕ → ℕ → Bool) → Fine (record { phase = Down r; facts = w }) → Tied s (record { phase = Down r; facts = w }) → ((j : ℕ) → s.era_of (s.known j) ≤ s.era_of (known j)) → ((j : ℕ) → s.era_of (known j) ≤ w.era) → s.era_of (known (s.member w.era r)) ≡ w.era → ((q : Place) → same q r ≡ false → s.era_of (known (s.member w.era q)) ≡ s.era_of (s.known (s.member w.era q))) → up (s.member w.era r) ≡ true → ((q : Place) → same q r ≡ false → up (s.member w.era q) ≡ s.up (s.member w.era q)) → ((g : ℕ) → g < w.era → (up (s.member g (w.changed (suc g))) && (s.era_of (known (s.member g (w.changed (suc g)))) == g)) ≡ (s.up (s.member g (w.changed (suc g))) && (s.era_of (s.known (s.member g (w.changed (suc g)))) == g))) → ((k : ℕ) → (k ≡ s.member w.era r → ⊥) → held k ≡ s.held k) → held (s.member w.era r) ≡ 0 → settled (s.member w.era r) ≡ false → ((n : ℕ) → undecided n ≡ true → (s.undecided n ≡ true) × ((w.request_era n == w.era) ≡ false)) → ((x : ℕ) → waiting x ≡ true → (s.waiting x ≡ true) × ((w.write_era x == w.era) ≡ false)) → ((k e : ℕ) → s.cut k e (s.member w.era r) (incarnation (s.member w.era r)) ≡ false) → ((l o : ℕ) → taken (s.member w.era r) l o ≡ false) → Tied (record s { known = known; incarnation = incarnation; held = held; up = up; settled = settled; undecided = undecided; waiting = waiting; taken = taken }) (happens (record { phase = Down r; facts = w }) Restart)
tied-back s w r known incarnation held up settled undecided waiting taken f d K1 K2 K3 K4 U1 U2 old H H0 S0 C1 C2 F T =
    restart-core s (Down r) w r known incarnation held up settled undecided waiting taken d
    (step-restart (Down r) w r s.member (λ k. s.era_of (s.known k)) (λ k. s.era_of (known k)) s.up up d.links refl (λ q. refl) refl (λ q a. rw a) K1 K2 K3 K4 U1 U2 old)
    (λ q a. rw a) (λ q a b. apart (w.knows q) (f.sound.known q) a) H H0 S0 C1 C2 F T K3

-- The new one of place r, which was down, is restarted.
pub tied-arrive : (s : Shadow) (w : Facts) (r : Place) (known incarnation held : ℕ → ℕ) (up settled undecided waiting : ℕ → Bool) (taken : ℕ → ℕ → ℕ → Bool) → Fine (record { phase = Unsettled r; facts = w }) → Tied s (record { phase = Unsettled r; facts = w }) → w.knows r ≡ false → ((j : ℕ) → s.era_of (s.known j) ≤ s.era_of (known j)) → ((j : ℕ) → s.era_of (known j) ≤ w.era) → s.era_of (known (s.member w.era r)) ≡ w.era → ((q : Place) → same q r ≡ false → s.era_of (known (s.member w.era q)) ≡ s.era_of (s.known (s.member w.era q))) → up (s.member w.era r) ≡ true → ((q : Place) → same q r ≡ false → up (s.member w.era q) ≡ s.up (s.member w.era q)) → ((g : ℕ) → g < w.era → (up (s.member g (w.changed (suc g))) && (s.era_of (known (s.member g (w.changed (suc g)))) == g)) ≡ (s.up (s.member g (w.changed (suc g))) && (s.era_of (s.known (s.member g (w.changed (suc g)))) == g))) → ((k : ℕ) → (k ≡ s.member w.era r → ⊥) → held k ≡ s.held k) → held (s.member w.era r) ≡ 0 → settled (s.member w.era r) ≡ false → ((n : ℕ) → undecided n ≡ true → (s.undecided n ≡ true) × ((w.request_era n == w.era) ≡ false)) → ((x : ℕ) → waiting x ≡ true → (s.waiting x ≡ true) × ((w.write_era x == w.era) ≡ false)) → ((k e : ℕ) → s.cut k e (s.member w.era r) (incarnation (s.member w.era r)) ≡ false) → ((l o : ℕ) → taken (s.member w.era r) l o ≡ false) → Tied (record s { known = known; incarnation = incarnation; held = held; up = up; settled = settled; undecided = undecided; waiting = waiting; taken = taken }) (happens (record { phase = Unsettled r; facts = w }) Restart)
tied-arrive s w r known incarnation held up settled undecided waiting taken f d n K1 K2 K3 K4 U1 U2 old H H0 S0 C1 C2 F T =
    let t : not (w.knows r) ≡ true = rw n in
    let l : Links (Unsettled r) (restarts (Unsettled r) w (not (w.knows r))) s.member (λ k. s.era_of (known k)) up = step-restart (Unsettled r) w r s.member (λ k. s.era_of (s.known k)) (λ k. s.era_of (known k)) s.up up d.links t (λ q. refl) refl (λ q a. refl) K1 K2 K3 K4 U1 U2 old in
    subst (λ b. Tied (record s { known = known; incarnation = incarnation; held = held; up = up; settled = settled; undecided = undecided; waiting = waiting; taken = taken }) (record { phase = Unsettled r; facts = restarts (Unsettled r) w b })) (sym t)
    (restart-core s (Unsettled r) w r known incarnation held up settled undecided waiting taken d
    (subst (λ b. Links (Unsettled r) (restarts (Unsettled r) w b) s.member (λ k. s.era_of (known k)) up) t l)
    (λ q a. refl) (λ q a b. subst (λ k. same q k ≡ false) (same_is (w.changed w.era) r (f.sound.known q a)) b) H H0 S0 C1 C2 F T K3)

-- A stop of all, and an opening with the ring as it was: a new epoch, counted on from the old ones, within the same era. Everybody goes by it, and what
-- the three hold stays.
pub tied-stop : (s : Shadow) (w : Facts) (e : ℕ) (incarnation held : ℕ → ℕ) (up settled undecided waiting : ℕ → Bool) (taken : ℕ → ℕ → ℕ → Bool) → Fine (record { phase = Whole; facts = w }) → Tied s (record { phase = Whole; facts = w }) → ((n : ℕ) → s.asked n ≡ true → (s.epoch n == e) ≡ false) → ((q : Place) → up (s.member w.era q) ≡ true) → ((q : Place) → held (s.member w.era q) ≡ s.held (s.member w.era q)) → ((n : ℕ) → undecided n ≡ false) → ((x : ℕ) → waiting x ≡ false) → Tied (record s { present = e; era_of = λ f. if f == e then w.era else s.era_of f; known = λ k. e; incarnation = incarnation; held = held; up = up; settled = settled; undecided = undecided; waiting = waiting; taken = taken }) (happens (record { phase = Whole; facts = w }) Stop)
tied-stop s w e incarnation held up settled undecided waiting taken f d new U H C1 C2 =
    record {
      links =
          record {
            least = λ i. omega (arith, later);
            ripe = λ g q h. omega (arith, later, h);
            stays = d.links.stays;
            news = d.links.news;
            distinct = d.links.distinct;
            knows = λ q. all q ∙ sym (eq_true (if e == e then w.era else s.era_of e) w.era later);
            lingers = λ g h. sym (and_false (up (s.member g (w.changed (suc g)))) ((if e == e then w.era else s.era_of e) == g) (greater (if e == e then w.era else s.era_of e) g (omega (arith, later, h))));
            here = λ q h. sym (U q);
            waits = λ q h z. U q;
          };
      held = λ g q z.
          elim (goes_cases Whole w2 g q z) [
            | inl c ↦
                subst (λ k. held (s.member k q) ≡ best_of w k q) (sym c.1)
                (H q ∙ d.held w.era q (goes-now Whole w w.era q (eq_refl w.era) ∙ and_both (w.knows q) true (all q) refl))
            | inr (inl c) ↦ apart false c.3 refl
            | inr (inr c) ↦ apart (w.knows q) (all q) c.3
          ];
      settles = λ g q z y. and_both (goes_by Whole w2 g q) (true || not (g == w.era)) z refl;
      outlived = d.outlived;
      asking =
          record {
            asked = d.asking.asked;
            request_era = λ n z. d.asking.request_era n z ∙ sym (if_false (s.epoch n == e) w.era (s.era_of (s.epoch n)) (new n z));
            before = d.asking.before;
            undecided = λ n z. apart (undecided n) z (C1 n);
            answer = d.asking.answer;
          };
      writing =
          record {
            put = d.writing.put;
            write_era = λ x z. d.writing.write_era x z ∙ sym (if_false (s.epoch (s.by x) == e) w.era (s.era_of (s.epoch (s.by x))) (new (s.by x) (d.writing.by x z)));
            by = d.writing.by;
            waiting = λ x z. apart (waiting x) z (C2 x);
            ack = d.writing.ack;
            acknowledged = d.writing.acknowledged;
          };
      states = tt;
    }
  where
    w2 : Facts
    w2 = (happens (record { phase = Whole; facts = w }) Stop).facts

    all : (q : Place) → w.knows q ≡ true
    all q = f.sound.known q

    later : (if e == e then w.era else s.era_of e) ≡ w.era
    later = if_true (e == e) w.era (s.era_of e) (eq_refl e)
