-- The machine does what the cluster does, where the ring changes and where that is learned.
use Rattle.std.proofs.Common.{◌≡◌, ℕ, suc, ◌<◌, ◌≤◌, Bool, true, false, not, ◌&&◌, ◌||◌, if◌then◌else◌, ◌⊎◌, inl, inr, refl, subst, sym, ap, arith, ◌∙◌}
use Rattle.std.specs.Prelude.{nat_lt, ◌==◌}
use Rattle.am_stays.specs.Places.{Place, same}
use Rattle.am_stays.proofs.Phases.{Phase, Whole, Unsettled, is_up, is_settled}
use Rattle.am_stays.proofs.Machine.{Facts, Replace, Learn, Drop_out, goes_by, serves, best_of, replaces, happens}
use Rattle.am_stays.proofs.Links.{Links}
use Rattle.am_stays.proofs.GoingBy.{goes-less}
use Rattle.am_stays.specs.Shadow.{Shadow}
use Rattle.am_stays.proofs.Tied.{Tied, States}
use Rattle.am_stays.proofs.Tables.{and_left, and_right, or_cases, or_left, or_right, apart, decide, same_is, same_refl, eq_is, eq_refl, eq_true, not_eq, if_true, if_false, and_both, and_false, greater}
use Rattle.am_stays.proofs.Events.{Now, Lost, Stays, goes_cases, goes-now, goes-past, best-here, best-left}
use Rattle.am_stays.proofs.Linking.{going, step-replace, step-other, step-out, step-learn}
use Rattle.am_stays.proofs.Runs.{Fine}

-- one that goes by an era before holds what it held
best-replaced : (w : Facts) (r : Place) (joins : Bool) (h : ℕ) (q : Place) → ((k : Place) → w.knows k ≡ true) → goes_by Whole w h q ≡ true → best_of (replaces w true r joins) h q ≡ best_of w h q
best-replaced w r joins h q all z = go (goes_cases Whole w h q z)
  where
    w2 : Facts
    w2 = replaces w true r joins

    go : Now Whole w h q ⊎ (Lost Whole w h q ⊎ Stays Whole w h q) → best_of (replaces w true r joins) h q ≡ best_of w h q
    go (inr (inr c)) = apart (w.knows q) (all q) c.3
    go (inr (inl c)) =
        let older : (suc h == suc w.era) ≡ false = not_eq (suc h) (suc w.era) (omega (arith, c.1)) in
        let changed : w2.changed (suc h) ≡ w.changed (suc h) = if_false (suc h == suc w.era) r (w.changed (suc h)) older in
        let past : (h == suc w.era) ≡ false = not_eq h (suc w.era) (omega (arith, c.1)) in
        best-left w2 h q (rw (past, subst (λ k. same q k ≡ true) (sym changed) c.2))
        ∙ (if_false (suc h == suc w.era) (w.best r) (w.old (suc h)) older
        ∙ sym (best-left w h q (rw (c.0, c.2))))
    go (inl c) =
        let newest : (suc h == suc w.era) ≡ true = eq_true (suc h) (suc w.era) (omega (arith, c.1)) in
        let changed : w2.changed (suc h) ≡ r = if_true (suc h == suc w.era) r (w.changed (suc h)) newest in
        let past : (h == suc w.era) ≡ false = not_eq h (suc w.era) (omega (arith, c.1)) in
        let before : best_of w h q ≡ w.best q = best-here w h q (or_left (h == w.era) (not (same q (w.changed (suc h)))) c.0) in
        elim (decide (same q r)) [
          | inl a ↦
              best-left w2 h q (rw (past, subst (λ k. same q k ≡ true) (sym changed) a))
              ∙ (if_true (suc h == suc w.era) (w.best r) (w.old (suc h)) newest ∙ (ap w.best (sym (same_is q r a)) ∙ sym before))
          | inr a ↦
              best-here w2 h q (or_right (h == suc w.era) (not (same q (w2.changed (suc h)))) (rw (subst (λ k. same q k ≡ false) (sym changed) a)))
              ∙ (if_false (same q r) 0 (w.best q) a ∙ sym before)
        ]

abbrev pub members : Shadow → ℕ → Place → ℕ → ℕ → Place → ℕ
members s era r i g q = if g == suc era then (if same q r then i else s.member era q) else s.member g q

abbrev pub eras : Shadow → ℕ → ℕ → ℕ → ℕ
eras s era e f = if f == e then suc era else s.era_of f

-- Epoch e begins, with it another era: i gets place r. What else changes, changes at i, and at who had the place.
pub tied-replace : (s : Shadow) (w : Facts) (r : Place) (i e : ℕ) (joins : Bool) (known incarnation held : ℕ → ℕ) (up settled : ℕ → Bool) (taken : ℕ → ℕ → ℕ → Bool) → Fine (record { phase = Whole; facts = w }) → Tied s (record { phase = Whole; facts = w }) → ((f : ℕ) → s.era_of f ≤ w.era) → ((n : ℕ) → s.asked n ≡ true → (s.epoch n == e) ≡ false) → ((k l m : ℕ) → s.cut k e l m ≡ false) → ((q : Place) → s.member w.era q ≡ i → ⊥) → ((k : ℕ) → (k ≡ i → ⊥) → eras s w.era e (known k) ≡ s.era_of (s.known k)) → s.era_of (s.known i) ≤ eras s w.era e (known i) → (eras s w.era e (known i) == suc w.era) ≡ joins → ((k : ℕ) → (k ≡ i → ⊥) → (k ≡ s.member w.era r → ⊥) → up k ≡ s.up k) → up (s.member w.era r) ≡ joins → (joins ≡ true → up i ≡ true) → ((g : ℕ) → g < w.era → (up i && (eras s w.era e (known i) == g)) ≡ (s.up i && (s.era_of (s.known i) == g))) → (joins ≡ true → settled i ≡ false) → ((k : ℕ) → (k ≡ i → ⊥) → held k ≡ s.held k) → (joins ≡ true → held i ≡ 0) → (joins ≡ false → held i ≡ s.held i) → (joins ≡ true → (l o : ℕ) → taken i l o ≡ false) → Tied (record s { present = e; era_of = eras s w.era e; member = members s w.era r i; known = known; incarnation = incarnation; held = held; up = up; settled = settled; taken = taken }) (happens (record { phase = Whole; facts = w }) (Replace r joins))
tied-replace s w r i e joins known incarnation held up settled taken f d h1 h2 h3 new K0 K1 K2 U0 U1 U2 I S H0 H1 H2 T =
    record {
      links = links_;
      held = λ h q z. held_ h q z;
      settles = λ h q z y. settles_ h q z y;
      outlived = d.outlived;
      asking =
          record {
            asked = d.asking.asked;
            request_era = λ n z. d.asking.request_era n z ∙ sym (if_false (s.epoch n == e) (suc w.era) (s.era_of (s.epoch n)) (h2 n z));
            before = d.asking.before;
            undecided = d.asking.undecided;
            answer = λ n j v z. ((d.asking.answer n j v z).0, same_member (w.request_era n) (d.asking.answer n j v z).0 (f.sound.request_era n) ∙ (d.asking.answer n j v z).1, (d.asking.answer n j v z).2);
          };
      writing =
          record {
            put = d.writing.put;
            write_era = λ x z. d.writing.write_era x z ∙ sym (if_false (s.epoch (s.by x) == e) (suc w.era) (s.era_of (s.epoch (s.by x))) (h2 (s.by x) (d.writing.by x z)));
            by = d.writing.by;
            waiting = d.writing.waiting;
            ack = λ x j z. ((d.writing.ack x j z).0, same_member (w.write_era x) (d.writing.ack x j z).0 (f.sound.write_era x) ∙ (d.writing.ack x j z).1, (d.writing.ack x j z).2);
            acknowledged = d.writing.acknowledged;
          };
      states = (
        λ k y z. sym (subst (λ b. s.cut (members s w.era r i (suc w.era) k) b (members s w.era r i (suc w.era) r) (incarnation (members s w.era r i (suc w.era) r)) ≡ false) (sym (is_e y z)) (h3 (members s w.era r i (suc w.era) k) (members s w.era r i (suc w.era) r) (incarnation (members s w.era r i (suc w.era) r)))),
        λ k y z u. apart false u refl,
        λ k o z y u.
            let knows_it : joins ≡ true = sym K2 ∙ eq_true (eras s w.era e (known i)) (suc w.era) (subst (λ b. eras s w.era e (known b) ≡ suc w.era) new_member z) in
            apart (taken i (members s w.era r i (suc w.era) k) o) (subst (λ b. taken b (members s w.era r i (suc w.era) k) o ≡ true) new_member u) (T knows_it (members s w.era r i (suc w.era) k) o),
        λ k y u. apart false u refl,
      );
    }
  where
    all : (q : Place) → w.knows q ≡ true
    all q = f.sound.known q

    w2 : Facts
    w2 = replaces w true r joins

    later : ℕ → ℕ
    later k = eras s w.era e (known k)

    same_member : (g : ℕ) (q : Place) → g ≤ w.era → members s w.era r i g q ≡ s.member g q
    same_member g q l = if_false (g == suc w.era) (if same q r then i else s.member w.era q) (s.member g q) (not_eq g (suc w.era) (omega (arith, l)))

    new_member : members s w.era r i (suc w.era) r ≡ i
    new_member = if_true (suc w.era == suc w.era) (if same r r then i else s.member w.era r) (s.member (suc w.era) r) (eq_refl (suc w.era)) ∙ if_true (same r r) i (s.member w.era r) (same_refl r)

    other_member : (q : Place) → same q r ≡ false → members s w.era r i (suc w.era) q ≡ s.member w.era q
    other_member q z = if_true (suc w.era == suc w.era) (if same q r then i else s.member w.era q) (s.member (suc w.era) q) (eq_refl (suc w.era)) ∙ if_false (same q r) i (s.member w.era q) z

    era_now : (q : Place) → s.era_of (s.known (s.member w.era q)) ≡ w.era
    era_now q = eq_is (s.era_of (s.known (s.member w.era q))) w.era (sym (d.links.knows q) ∙ all q)

    up_now : (q : Place) → s.up (s.member w.era q) ≡ true
    up_now q = sym (d.links.here q (all q))

    case_i : (k : ℕ) → (k ≡ i) ⊎ (k ≡ i → ⊥)
    case_i k = elim (decide (k == i)) [ inl a ↦ inl (eq_is k i a) | inr a ↦ inr (λ b. apart (k == i) (eq_true k i b) a) ]

    eras_less : (k : ℕ) → eras s w.era e k ≤ suc w.era
    eras_less k = elim (decide (k == e)) [ inl a ↦ rw a (omega arith) | inr a ↦ rw a (omega (arith, h1 k)) ]

    is_e : (y : ℕ) → eras s w.era e y ≡ suc w.era → y ≡ e
    is_e y z = elim (decide (y == e)) [ inl a ↦ eq_is y e a | inr a ↦ absurd (omega (arith, h1 y, sym (if_false (y == e) (suc w.era) (s.era_of y) a) ∙ z)) ]

    u_other : (q : Place) → same q r ≡ false → up (s.member w.era q) ≡ true
    u_other q z = U0 (s.member w.era q) (new q) (λ b. apart (same q r) (d.links.distinct w.era q r (omega arith) b) z) ∙ up_now q

    old_ : (j g : ℕ) → g < w.era → (up j && (later j == g)) ≡ (s.up j && (s.era_of (s.known j) == g))
    old_ j g z =
        elim (case_i j) [
          | inl a ↦ subst (λ b. (up b && (later b == g)) ≡ (s.up b && (s.era_of (s.known b) == g))) (sym a) (I g z)
          | inr a ↦
              elim (decide (j == s.member w.era r)) [
                | inl b ↦
                    let c : j ≡ s.member w.era r = eq_is j (s.member w.era r) b in
                    let no_ : (s.era_of (s.known j) == g) ≡ false = subst (λ k. (s.era_of (s.known k) == g) ≡ false) (sym c) (greater (s.era_of (s.known (s.member w.era r))) g (omega (arith, era_now r, z))) in
                    and_false (up j) (later j == g) (ap (λ k. k == g) (K0 j a) ∙ no_) ∙ sym (and_false (s.up j) (s.era_of (s.known j) == g) no_)
                | inr b ↦ rw (K0 j a, U0 j a (λ c. apart (j == s.member w.era r) (eq_true j (s.member w.era r) c) b)) refl
              ]
        ]

    links_ : Links (Unsettled r) (replaces w true r joins) (members s w.era r i) (λ k. eras s w.era e (known k)) up
    links_ =
        step-replace w s.member (members s w.era r i) (λ k. s.era_of (s.known k)) (λ k. eras s w.era e (known k)) s.up up r i joins d.links all same_member new_member other_member (λ q. new q)
        (λ j. elim (case_i j) [ inl a ↦ subst (λ b. s.era_of (s.known b) ≤ eras s w.era e (known b)) (sym a) K1 | inr a ↦ omega (arith, K0 j a) ])
        (λ j. eras_less (known j))
        (λ q. K0 (s.member w.era q) (new q) ∙ era_now q)
        K2 u_other U1 U2 old_

    -- who goes by an earlier era went by it before
    went : (h : ℕ) (q : Place) → h ≤ w.era → goes_by (Unsettled r) w2 h q ≡ true → goes_by Whole w h q ≡ true
    went h q l z =
        let a : (up (members s w.era r i h q) && (later (members s w.era r i h q) == h)) ≡ true = sym (going (Unsettled r) w2 (members s w.era r i) (λ k. eras s w.era e (known k)) up links_ h q (omega (arith, l))) ∙ z in
        let b : (up (s.member h q) && (later (s.member h q) == h)) ≡ true = subst (λ k. (up k && (later k == h)) ≡ true) (same_member h q l) a in
        going Whole w s.member (λ k. s.era_of (s.known k)) s.up d.links h q l ∙ back h q l b
      where
        back : (h : ℕ) (q : Place) → h ≤ w.era → (up (s.member h q) && (later (s.member h q) == h)) ≡ true → (s.up (s.member h q) && (s.era_of (s.known (s.member h q)) == h)) ≡ true
        back h q l b =
            let choice : (h < w.era) ⊎ (h ≡ w.era) = grind (arith, l) in
            elim choice [
              | inl c ↦ sym (old_ (s.member h q) h c) ∙ b
              | inr c ↦ subst (λ k. (s.up (s.member k q) && (s.era_of (s.known (s.member k q)) == k)) ≡ true) (sym c) (and_both (s.up (s.member w.era q)) (s.era_of (s.known (s.member w.era q)) == w.era) (up_now q) (eq_true (s.era_of (s.known (s.member w.era q))) w.era (era_now q)))
            ]

    -- i is the one of an earlier era's place only where it still goes by it, or not at all
    not_i : (h : ℕ) (q : Place) → h ≤ w.era → goes_by (Unsettled r) w2 h q ≡ true → s.member h q ≡ i → held i ≡ s.held i → held (members s w.era r i h q) ≡ s.held (s.member h q)
    not_i h q l z m k = ap held (same_member h q l ∙ m) ∙ (k ∙ ap s.held (sym m))

    -- the new one: it goes by the present era exactly where it joins
    at_new : (q : Place) → goes_by (Unsettled r) w2 (suc w.era) q ≡ true → (same q r ≡ true) × (joins ≡ true)
    at_new q z =
        elim (goes_cases (Unsettled r) w2 (suc w.era) q z) [
          | inl c ↦ (and_right joins (same q r) c.2, and_left joins (same q r) c.2)
          | inr (inl c) ↦ absurd (omega (arith, c.1))
          | inr (inr c) ↦ absurd (omega (arith, c.2))
        ]

    bound : (h : ℕ) (q : Place) → goes_by (Unsettled r) w2 h q ≡ true → (h ≤ w.era) ⊎ (h ≡ suc w.era)
    bound h q z =
        elim (goes_cases (Unsettled r) w2 h q z) [
          | inl c ↦ inr c.1
          | inr (inl c) ↦ inl (omega (arith, c.1))
          | inr (inr c) ↦ inl (omega (arith, c.2))
        ]

    held_ : (h : ℕ) (q : Place) → goes_by (Unsettled r) w2 h q ≡ true → held (members s w.era r i h q) ≡ best_of w2 h q
    held_ h q z =
        elim (bound h q z) [
          | inl l ↦ kept_ l ∙ (d.held h q (went h q l z) ∙ sym (best-replaced w r joins h q all (went h q l z)))
          | inr y ↦ subst (λ k. held (members s w.era r i k q) ≡ best_of w2 k q) (sym y) (new_ (at_new q (subst (λ k. goes_by (Unsettled r) w2 k q ≡ true) y z)))
        ]
      where
        new_ : (same q r ≡ true) × (joins ≡ true) → held (members s w.era r i (suc w.era) q) ≡ best_of w2 (suc w.era) q
        new_ c =
            subst (λ k. held (members s w.era r i (suc w.era) k) ≡ best_of w2 (suc w.era) k) (sym (same_is q r c.0))
            (ap held new_member ∙ (H1 c.1 ∙ sym (best-here w2 (suc w.era) r (or_left (suc w.era == suc w.era) (not (same r (w2.changed (suc (suc w.era))))) (eq_refl (suc w.era))) ∙ if_true (same r r) 0 (w.best r) (same_refl r))))

        kept_ : h ≤ w.era → held (members s w.era r i h q) ≡ s.held (s.member h q)
        kept_ l =
            elim (case_i (s.member h q)) [
              | inr a ↦ ap held (same_member h q l) ∙ H0 (s.member h q) a
              | inl a ↦
                  elim (decide joins) [
                    | inr b ↦ not_i h q l z a (H2 b)
                    | inl b ↦
                        let g : (up (members s w.era r i h q) && (later (members s w.era r i h q) == h)) ≡ true = sym (going (Unsettled r) w2 (members s w.era r i) (λ k. eras s w.era e (known k)) up links_ h q (omega (arith, l))) ∙ z in
                        let m : later (members s w.era r i h q) ≡ h = eq_is (later (members s w.era r i h q)) h (and_right (up (members s w.era r i h q)) (later (members s w.era r i h q) == h) g) in
                        let n : later i ≡ h = sym (ap later (same_member h q l ∙ a)) ∙ m in
                        let o : later i ≡ suc w.era = eq_is (later i) (suc w.era) (K2 ∙ b) in
                        absurd (omega (arith, n, o, l))
                  ]
            ]

    settles_ : (h : ℕ) (q : Place) → goes_by (Unsettled r) w2 h q ≡ true → settled (members s w.era r i h q) ≡ true → serves (Unsettled r) w2 h q ≡ true
    settles_ h q z y =
        elim (bound h q z) [
          | inl l ↦ and_both (goes_by (Unsettled r) w2 h q) (is_settled (Unsettled r) q || not (h == suc w.era)) z (or_right (is_settled (Unsettled r) q) (not (h == suc w.era)) (rw (not_eq h (suc w.era) (omega (arith, l)))))
          | inr u ↦
              let c = at_new q (subst (λ k. goes_by (Unsettled r) w2 k q ≡ true) u z) in
              let v : settled i ≡ true = subst (λ k. settled k ≡ true) (subst (λ k. members s w.era r i (suc w.era) k ≡ i) (sym (same_is q r c.0)) new_member) (subst (λ k. settled (members s w.era r i k q) ≡ true) u y) in
              apart (settled i) v (S c.1)
        ]

-- A change of the ring, an epoch that is learned, a crash or a restart that the machine need not see.
pub tied-other : (s : Shadow) (p : Phase) (w : Facts) (present : ℕ) (era known incarnation held : ℕ → ℕ) (up settled : ℕ → Bool) (taken : ℕ → ℕ → ℕ → Bool) → Tied s (record { phase = p; facts = w }) → ((n : ℕ) → s.asked n ≡ true → era (s.epoch n) ≡ s.era_of (s.epoch n)) → ((j : ℕ) → s.era_of (s.known j) ≤ era (known j)) → ((j : ℕ) → era (known j) ≤ w.era) → ((q : Place) → (era (known (s.member w.era q)) == w.era) ≡ (s.era_of (s.known (s.member w.era q)) == w.era)) → ((q : Place) → up (s.member w.era q) ≡ s.up (s.member w.era q)) → ((g : ℕ) → g < w.era → (up (s.member g (w.changed (suc g))) && (era (known (s.member g (w.changed (suc g)))) == g)) ≡ (s.up (s.member g (w.changed (suc g))) && (s.era_of (s.known (s.member g (w.changed (suc g)))) == g))) → ((g : ℕ) (q : Place) → goes_by p w g q ≡ true → held (s.member g q) ≡ s.held (s.member g q)) → ((g : ℕ) (q : Place) → goes_by p w g q ≡ true → settled (s.member g q) ≡ true → s.settled (s.member g q) ≡ true) → States p w.era w.sent w.list w.took era s.member known incarnation s.cut s.list s.piece taken → Tied (record s { present = present; era_of = era; known = known; incarnation = incarnation; held = held; up = up; settled = settled; taken = taken }) (record { phase = p; facts = w })
tied-other s p w present era known incarnation held up settled taken d E K1 K2 K3 U old H S st =
    record {
      links = step-other p w s.member (λ k. s.era_of (s.known k)) (λ k. era (known k)) s.up up d.links K1 K2 K3 U old;
      held = λ h q z. H h q z ∙ d.held h q z;
      settles = λ h q z y. d.settles h q z (S h q z y);
      outlived = d.outlived;
      asking =
          record {
            asked = d.asking.asked;
            request_era = λ n z. d.asking.request_era n z ∙ sym (E n z);
            before = d.asking.before;
            undecided = d.asking.undecided;
            answer = d.asking.answer;
          };
      writing =
          record {
            put = d.writing.put;
            write_era = λ x z. d.writing.write_era x z ∙ sym (E (s.by x) (d.writing.by x z));
            by = d.writing.by;
            waiting = d.writing.waiting;
            ack = d.writing.ack;
            acknowledged = d.writing.acknowledged;
          };
      states = st;
    }

-- Who lost its place when era suc h began learns so, crashes or leaves.
pub tied-out : (s : Shadow) (p : Phase) (w : Facts) (h : ℕ) (era known incarnation held : ℕ → ℕ) (up settled : ℕ → Bool) (taken : ℕ → ℕ → ℕ → Bool) → Tied s (record { phase = p; facts = w }) → ((n : ℕ) → s.asked n ≡ true → era (s.epoch n) ≡ s.era_of (s.epoch n)) → ((j : ℕ) → s.era_of (s.known j) ≤ era (known j)) → ((j : ℕ) → era (known j) ≤ w.era) → ((q : Place) → (era (known (s.member w.era q)) == w.era) ≡ (s.era_of (s.known (s.member w.era q)) == w.era)) → ((q : Place) → up (s.member w.era q) ≡ s.up (s.member w.era q)) → ((g : ℕ) → g < w.era → (g ≡ h → ⊥) → (up (s.member g (w.changed (suc g))) && (era (known (s.member g (w.changed (suc g)))) == g)) ≡ (s.up (s.member g (w.changed (suc g))) && (s.era_of (s.known (s.member g (w.changed (suc g)))) == g))) → (up (s.member h (w.changed (suc h))) && (era (known (s.member h (w.changed (suc h)))) == h)) ≡ false → ((g : ℕ) (q : Place) → goes_by p (record w { lingers = λ k. not (k == suc h) && w.lingers k }) g q ≡ true → held (s.member g q) ≡ s.held (s.member g q)) → ((g : ℕ) (q : Place) → goes_by p (record w { lingers = λ k. not (k == suc h) && w.lingers k }) g q ≡ true → settled (s.member g q) ≡ true → s.settled (s.member g q) ≡ true) → States p w.era w.sent w.list w.took era s.member known incarnation s.cut s.list s.piece taken → Tied (record s { era_of = era; known = known; incarnation = incarnation; held = held; up = up; settled = settled; taken = taken }) (happens (record { phase = p; facts = w }) (Drop_out (suc h)))
tied-out s p w h era known incarnation held up settled taken d E K1 K2 K3 U old none H S st =
    record {
      links = step-out p w h s.member (λ k. s.era_of (s.known k)) (λ k. era (known k)) s.up up d.links K1 K2 K3 U old none;
      held = λ g q z. H g q z ∙ d.held g q (goes-less p w (suc h) g q z);
      settles = λ g q z y. and_both (goes_by p (record w { lingers = λ k. not (k == suc h) && w.lingers k }) g q) (is_settled p q || not (g == w.era)) z (and_right (goes_by p w g q) (is_settled p q || not (g == w.era)) (d.settles g q (goes-less p w (suc h) g q z) (S g q z y)));
      outlived = d.outlived;
      asking =
          record {
            asked = d.asking.asked;
            request_era = λ n z. d.asking.request_era n z ∙ sym (E n z);
            before = d.asking.before;
            undecided = d.asking.undecided;
            answer = d.asking.answer;
          };
      writing =
          record {
            put = d.writing.put;
            write_era = λ x z. d.writing.write_era x z ∙ sym (E (s.by x) (d.writing.by x z));
            by = d.writing.by;
            waiting = d.writing.waiting;
            ack = d.writing.ack;
            acknowledged = d.writing.acknowledged;
          };
      states = st;
    }

-- who goes by an era after q0 learned the present one: q0 by the present one, or it went by it before
goes-learn : (p : Phase) (w : Facts) (q0 : Place) (g : ℕ) (q : Place) → goes_by p (record w { knows = λ k. same k q0 || w.knows k }) g q ≡ true → ((g ≡ w.era) × (same q q0 ≡ true)) ⊎ (goes_by p w g q ≡ true)
goes-learn p w q0 g q z =
    elim (decide (g == w.era)) [
      | inl a ↦
          let b : ((same q q0 || w.knows q) && is_up p q) ≡ true = sym (if_true (g == w.era) ((same q q0 || w.knows q) && is_up p q) (nat_lt g w.era && (if same q (w.changed (suc g)) then w.lingers (suc g) else (suc g == w.era) && not (same q q0 || w.knows q))) a) ∙ z in
          elim (or_cases (same q q0) (w.knows q) (and_left (same q q0 || w.knows q) (is_up p q) b)) [
            | inl c ↦ inl (eq_is g w.era a, c)
            | inr c ↦ inr (goes-now p w g q a ∙ and_both (w.knows q) (is_up p q) c (and_right (same q q0 || w.knows q) (is_up p q) b))
          ]
      | inr a ↦
          let b : (nat_lt g w.era && (if same q (w.changed (suc g)) then w.lingers (suc g) else (suc g == w.era) && not (same q q0 || w.knows q))) ≡ true = sym (if_false (g == w.era) ((same q q0 || w.knows q) && is_up p q) (nat_lt g w.era && (if same q (w.changed (suc g)) then w.lingers (suc g) else (suc g == w.era) && not (same q q0 || w.knows q))) a) ∙ z in
          inr (goes-past p w g q a
          ∙ and_both (nat_lt g w.era) (if same q (w.changed (suc g)) then w.lingers (suc g) else (suc g == w.era) && not (w.knows q)) (and_left (nat_lt g w.era) (if same q (w.changed (suc g)) then w.lingers (suc g) else (suc g == w.era) && not (same q q0 || w.knows q)) b) (less (decide (same q (w.changed (suc g)))) (and_right (nat_lt g w.era) (if same q (w.changed (suc g)) then w.lingers (suc g) else (suc g == w.era) && not (same q q0 || w.knows q)) b)))
    ]
  where
    not_or : (a b : Bool) → not (a || b) ≡ true → not b ≡ true
    not_or true b h = apart false h refl
    not_or false b h = h

    less : ((same q (w.changed (suc g)) ≡ true) ⊎ (same q (w.changed (suc g)) ≡ false)) → (if same q (w.changed (suc g)) then w.lingers (suc g) else (suc g == w.era) && not (same q q0 || w.knows q)) ≡ true → (if same q (w.changed (suc g)) then w.lingers (suc g) else (suc g == w.era) && not (w.knows q)) ≡ true
    less (inl c) y = if_true (same q (w.changed (suc g))) (w.lingers (suc g)) ((suc g == w.era) && not (w.knows q)) c ∙ (sym (if_true (same q (w.changed (suc g))) (w.lingers (suc g)) ((suc g == w.era) && not (same q q0 || w.knows q)) c) ∙ y)
    less (inr c) y =
        let v : ((suc g == w.era) && not (same q q0 || w.knows q)) ≡ true = sym (if_false (same q (w.changed (suc g))) (w.lingers (suc g)) ((suc g == w.era) && not (same q q0 || w.knows q)) c) ∙ y in
        if_false (same q (w.changed (suc g))) (w.lingers (suc g)) ((suc g == w.era) && not (w.knows q)) c ∙ and_both (suc g == w.era) (not (w.knows q)) (and_left (suc g == w.era) (not (same q q0 || w.knows q)) v) (not_or (same q q0) (w.knows q) (and_right (suc g == w.era) (not (same q q0 || w.knows q)) v))

-- The instance of place q0 learns the present era.
pub tied-learn : (s : Shadow) (p : Phase) (w : Facts) (q0 : Place) (known held : ℕ → ℕ) (settled : ℕ → Bool) (taken : ℕ → ℕ → ℕ → Bool) → Tied s (record { phase = p; facts = w }) → is_up p q0 ≡ true → s.up (s.member w.era q0) ≡ true → ((j : ℕ) → s.era_of (s.known j) ≤ s.era_of (known j)) → ((j : ℕ) → s.era_of (known j) ≤ w.era) → s.era_of (known (s.member w.era q0)) ≡ w.era → ((q : Place) → same q q0 ≡ false → s.era_of (known (s.member w.era q)) ≡ s.era_of (s.known (s.member w.era q))) → ((g : ℕ) → g < w.era → (s.up (s.member g (w.changed (suc g))) && (s.era_of (known (s.member g (w.changed (suc g)))) == g)) ≡ (s.up (s.member g (w.changed (suc g))) && (s.era_of (s.known (s.member g (w.changed (suc g)))) == g))) → held (s.member w.era q0) ≡ w.best q0 → (settled (s.member w.era q0) ≡ true → is_settled p q0 ≡ true) → ((g : ℕ) (q : Place) → goes_by p w g q ≡ true → held (s.member g q) ≡ s.held (s.member g q)) → ((g : ℕ) (q : Place) → goes_by p w g q ≡ true → settled (s.member g q) ≡ true → s.settled (s.member g q) ≡ true) → States p w.era w.sent w.list w.took s.era_of s.member known s.incarnation s.cut s.list s.piece taken → Tied (record s { known = known; held = held; settled = settled; taken = taken }) (happens (record { phase = p; facts = w }) (Learn q0))
tied-learn s p w q0 known held settled taken d on there_ K1 K2 K3 K4 old H0 S0 H S st =
    record {
      links = step-learn p w q0 s.member (λ k. s.era_of (s.known k)) (λ k. s.era_of (known k)) s.up d.links on there_ K1 K2 K3 K4 old;
      held = λ g q z.
          elim (goes-learn p w q0 g q z) [
            | inr a ↦ H g q a ∙ d.held g q a
            | inl a ↦
                subst (λ k. held (s.member k q) ≡ best_of w k q) (sym a.0)
                (subst (λ k. held (s.member w.era k) ≡ best_of w w.era k) (sym (same_is q q0 a.1))
                (H0 ∙ sym (best-here w w.era q0 (or_left (w.era == w.era) (not (same q0 (w.changed (suc w.era)))) (eq_refl w.era)))))
          ];
      settles = λ g q z y.
          and_both (goes_by p (record w { knows = λ k. same k q0 || w.knows k }) g q) (is_settled p q || not (g == w.era)) z
          (elim (goes-learn p w q0 g q z) [
            | inr a ↦ and_right (goes_by p w g q) (is_settled p q || not (g == w.era)) (d.settles g q a (S g q a y))
            | inl a ↦ or_left (is_settled p q) (not (g == w.era)) (subst (λ k. is_settled p k ≡ true) (sym (same_is q q0 a.1)) (S0 (subst (λ k. settled (s.member w.era k) ≡ true) (same_is q q0 a.1) (subst (λ k. settled (s.member k q) ≡ true) a.0 y))))
          ]);
      outlived = d.outlived;
      asking = d.asking;
      writing = d.writing;
      states = st;
    }
