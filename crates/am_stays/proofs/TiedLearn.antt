-- One learns the next epoch: which events of the machine that is.
use Rattle.std.proofs.Common.{◌≡◌, ℕ, suc, ◌<◌, ◌≤◌, Bool, true, false, not, ◌&&◌, ◌⊎◌, inl, inr, List, [], ◌∷◌, refl, subst, sym, ap, arith, ◌∙◌}
use Rattle.std.specs.Prelude.{◌==◌}
use Rattle.am_stays.specs.Places.{Place, same}
use Rattle.am_stays.proofs.Phases.{Phase, Whole, Down, Unsettled, is_up}
use Rattle.am_stays.proofs.Machine.{Facts, World, Event, Learn, Drop_out, goes_by, happens, run}
use Rattle.am_stays.proofs.MachineClaims.{IsEmpty}
use Rattle.am_stays.specs.Shadow.{Shadow, has_place, drops, after_learn}
use Rattle.am_stays.proofs.Tied.{Tied, States}
use Rattle.am_stays.proofs.Tables.{and_left, and_right, or_right, not_true, apart, decide, same_is, eq_is, eq_refl, not_eq, if_true, if_false, and_false, differ}
use Rattle.am_stays.proofs.Invariants.{Known}
use Rattle.am_stays.proofs.Holders.{unknown_settled}
use Rattle.am_stays.proofs.Events.{Now, Lost, Stays, goes_cases, best-here}
use Rattle.am_stays.proofs.TiedRequests.{there}
use Rattle.am_stays.proofs.Members.{find_place}
use Rattle.am_stays.proofs.GoingBy.{not_placed, not_lost}
use Rattle.am_stays.proofs.TiedRings.{tied-other, tied-out, tied-learn}
use Rattle.am_stays.proofs.Runs.{Fine}

-- who forgets what it took is no worse off
states-learn : (p : Phase) (s : Shadow) (w : Facts) (j : ℕ) → States p w.era w.sent w.list w.took s.era_of s.member s.known s.incarnation s.cut s.list s.piece s.taken → States p w.era w.sent w.list w.took s.era_of s.member (after_learn s j).known s.incarnation s.cut s.list s.piece (after_learn s j).taken
states-learn Whole s w j h = tt
states-learn (Down r) s w j h = tt
states-learn (Unsettled r) s w j h = (
  h.0,
  h.1,
  λ i o z x y.
      let R = s.member w.era r in
      let n : (R == j) ≡ false = not_true (R == j) (and_left (not (R == j)) (s.taken R (s.member w.era i) o) y) in
      let k : (after_learn s j).known R ≡ s.known R = if_false (R == j) (suc (s.known j)) (s.known R) n in
      subst (λ b. w.took i b ≡ true) (sym k) (h.2 i o (subst (λ b. s.era_of b ≡ w.era) k z) (subst (λ b. o ≡ s.piece (s.member w.era i) b R (s.incarnation R)) k x) (and_right (not (R == j)) (s.taken R (s.member w.era i) o) y)),
  h.3,
)

unknown_up : (p : Phase) (changed q : Place) (knows : Place → Bool) → Known p changed knows → knows q ≡ false → is_up p q ≡ true
unknown_up Whole changed q knows k e = refl
unknown_up (Down r) changed q knows k e = apart (knows q) (k q) e
unknown_up (Unsettled r) changed q knows k e = refl

and_not : (a : Bool) → (a && not a) ≡ false
and_not true = refl
and_not false = refl

pub tied-next : (s : Shadow) (p : Phase) (w : Facts) (j : ℕ) → Fine (record { phase = p; facts = w }) → IsEmpty w → Tied s (record { phase = p; facts = w }) → (has_place s (s.era_of (s.known j)) j ≡ false → (s.held j ≡ 0) × (s.settled j ≡ false)) → s.up j ≡ true → s.era_of (suc (s.known j)) ≤ w.era → (s.era_of (suc (s.known j)) ≡ s.era_of (s.known j)) ⊎ (s.era_of (suc (s.known j)) ≡ suc (s.era_of (s.known j))) → (events : List Event) × Tied (after_learn s j) (run events (record { phase = p; facts = w })) × ((run events (record { phase = p; facts = w })).facts.era ≡ w.era)
tied-next s p w j f em d out u le step = elim step [ inl e ↦ ([], same_era_ e, refl) | inr e ↦ next_ e ]
  where
    W : World
    W = record { phase = p; facts = w }

    a : ℕ
    a = s.era_of (s.known j)

    b : ℕ
    b = s.era_of (suc (s.known j))

    s2 : Shadow
    s2 = after_learn s j

    later_j : s.era_of (s2.known j) ≡ b
    later_j = ap s.era_of (if_true (j == j) (suc (s.known j)) (s.known j) (eq_refl j))

    later_k : (k : ℕ) → (k == j) ≡ false → s2.known k ≡ s.known k
    later_k k n = if_false (k == j) (suc (s.known j)) (s.known k) n

    grows : a ≤ b → (k : ℕ) → s.era_of (s.known k) ≤ s.era_of (s2.known k)
    grows h k =
        elim (decide (k == j)) [
          | inl c ↦ subst (λ m. s.era_of (s.known m) ≤ s.era_of (s2.known m)) (sym (eq_is k j c)) (omega (arith, later_j, h))
          | inr c ↦ omega (arith, ap s.era_of (later_k k c))
        ]

    least : (k : ℕ) → s.era_of (s2.known k) ≤ w.era
    least k =
        elim (decide (k == j)) [
          | inl c ↦ subst (λ m. s.era_of (s2.known m) ≤ w.era) (sym (eq_is k j c)) (omega (arith, later_j, le))
          | inr c ↦ omega (arith, ap s.era_of (later_k k c), d.links.least k)
        ]

    kept_held : drops s j ≡ false → (k : ℕ) → s2.held k ≡ s.held k
    kept_held n k = if_false ((k == j) && drops s j) 0 (s.held k) (and_false (k == j) (drops s j) n)

    other_held : (k : ℕ) → (k == j) ≡ false → s2.held k ≡ s.held k
    other_held k n = if_false ((k == j) && drops s j) 0 (s.held k) (rw n)

    was_settled : (k : ℕ) → s2.settled k ≡ true → s.settled k ≡ true
    was_settled k z = and_right (not ((k == j) && drops s j)) (s.settled k) z

    -- within an era
    same_era_ : b ≡ a → Tied (after_learn s j) (record { phase = p; facts = w })
    same_era_ e =
        tied-other s p w s.present s.era_of s2.known s.incarnation s2.held s.up s2.settled s2.taken d (λ n z. refl) (grows (omega (arith, e))) least
        (λ q. ap (λ m. m == w.era) (eras (s.member w.era q))) (λ q. refl)
        (λ g h. ap (λ m. s.up (s.member g (w.changed (suc g))) && (m == g)) (eras (s.member g (w.changed (suc g)))))
        (λ g q z. kept_held keeps (s.member g q)) (λ g q z y. was_settled (s.member g q) y) (states-learn p s w j d.states)
      where
        keeps : drops s j ≡ false
        keeps = ap (λ k. has_place s a j && not (has_place s k j)) e ∙ and_not (has_place s a j)

        eras : (k : ℕ) → s.era_of (s2.known k) ≡ s.era_of (s.known k)
        eras k =
            elim (decide (k == j)) [
              | inl c ↦ subst (λ m. s.era_of (s2.known m) ≡ s.era_of (s.known m)) (sym (eq_is k j c)) (later_j ∙ e)
              | inr c ↦ ap s.era_of (later_k k c)
            ]

    -- the era of j is a before and b after: nothing else goes by another era than it did
    eras_other : (k g : ℕ) → (k ≡ j → (g ≡ a → ⊥) × (g ≡ b → ⊥)) → (s.up k && (s.era_of (s2.known k) == g)) ≡ (s.up k && (s.era_of (s.known k) == g))
    eras_other k g h =
        elim (decide (k == j)) [
          | inr c ↦ ap (λ m. s.up k && (m == g)) (ap s.era_of (later_k k c))
          | inl c ↦
              let z = h (eq_is k j c) in
              let x : (s.era_of (s2.known k) == g) ≡ false = differ (s.era_of (s2.known k)) g (λ y. z.1 (sym (subst (λ m. s.era_of (s2.known m) ≡ g) (eq_is k j c) y) ∙ later_j)) in
              let y : (s.era_of (s.known k) == g) ≡ false = differ (s.era_of (s.known k)) g (λ y. z.0 (sym (subst (λ m. s.era_of (s.known m) ≡ g) (eq_is k j c) y))) in
              and_false (s.up k) (s.era_of (s2.known k) == g) x ∙ sym (and_false (s.up k) (s.era_of (s.known k) == g) y)
        ]

    other_eras : (k : ℕ) → (k ≡ j → ⊥) → s.era_of (s2.known k) ≡ s.era_of (s.known k)
    other_eras k h = elim (decide (k == j)) [ inl c ↦ absurd (h (eq_is k j c)) | inr c ↦ ap s.era_of (later_k k c) ]

    next_ : b ≡ suc a → (events : List Event) × Tied (after_learn s j) (run events (record { phase = p; facts = w })) × ((run events (record { phase = p; facts = w })).facts.era ≡ w.era)
    next_ e = elim (find_place s a j) [ inl c ↦ was_in c (goes_cases p w a c.0 (there s W a c.0 j d (omega (arith, e, le)) c.1 u refl)) | inr c ↦ was_out c (find_place s b j) ]
      where
        goes_a : (q : Place) → s.member a q ≡ j → goes_by p w a q ≡ true
        goes_a q m = there s W a q j d (omega (arith, e, le)) m u refl

        -- it was one of the three
        was_in : (c : (q : Place) × (s.member a q ≡ j) × (has_place s a j ≡ true)) → Now p w a c.0 ⊎ (Lost p w a c.0 ⊎ Stays p w a c.0) → (events : List Event) × Tied (after_learn s j) (run events (record { phase = p; facts = w })) × ((run events (record { phase = p; facts = w })).facts.era ≡ w.era)
        was_in c (inl z) = absurd (omega (arith, z.1, e, le))
        was_in c (inr (inr z)) = (Learn c.0 ∷ [], keeps_place (c.0) c.1 c.2 z, refl)
          where
            keeps_place : (q : Place) → s.member a q ≡ j → has_place s a j ≡ true → Stays p w a q → Tied (after_learn s j) (happens (record { phase = p; facts = w }) (Learn q))
            keeps_place q m hp st =
                tied-learn s p w q s2.known s2.held s2.settled s2.taken d (unknown_up p (w.changed w.era) q w.knows f.sound.known st.3) (subst (λ k. s.up k ≡ true) (sym here) u) (grows (omega (arith, e))) least
                (subst (λ k. s.era_of (s2.known k) ≡ w.era) (sym here) (later_j ∙ (e ∙ st.2)))
                (λ o n. other_eras (s.member w.era o) (λ y. apart (same o q) (d.links.distinct w.era o q (omega arith) (y ∙ sym here)) n))
                (λ g h. eras_other (s.member g (w.changed (suc g))) g (λ y. (λ x. lost_not g x y, λ x. absurd (omega (arith, x, e, st.2, h)))))
                (kept_held keeps (s.member w.era q) ∙ (ap s.held (here ∙ sym m) ∙ (d.held a q (goes_a q m) ∙ best-here w a q (or_right (a == w.era) (not (same q (w.changed (suc a)))) (rw st.1)))))
                (λ y. unknown_settled p (w.changed w.era) q w.knows f.sound.known (subst (λ k. same q (w.changed k) ≡ false) st.2 st.1) st.3)
                (λ g o y. kept_held keeps (s.member g o)) (λ g o y x. was_settled (s.member g o) x) (states-learn p s w j d.states)
              where
                here : s.member w.era q ≡ j
                here = subst (λ k. s.member k q ≡ s.member a q) st.2 (d.links.stays a q (omega (arith, st.2)) st.1) ∙ m

                lost_not : (g : ℕ) → g ≡ a → s.member g (w.changed (suc g)) ≡ j → ⊥
                lost_not g x y = apart (same q (w.changed (suc a))) (d.links.distinct a q (w.changed (suc a)) (omega (arith, st.2)) (m ∙ sym (subst (λ k. s.member k (w.changed (suc k)) ≡ j) x y))) st.1

                keeps : drops s j ≡ false
                keeps =
                    elim (find_place s b j) [
                      | inl n ↦ rw (hp, n.2)
                      | inr n ↦ absurd (n.0 q (subst (λ k. s.member k q ≡ j) (sym (e ∙ st.2)) here))
                    ]
        was_in c (inr (inl z)) = (Drop_out (suc a) ∷ [], loses (c.0) c.1 c.2 z, refl)
          where
            loses : (q : Place) → s.member a q ≡ j → has_place s a j ≡ true → Lost p w a q → Tied (after_learn s j) (happens (record { phase = p; facts = w }) (Drop_out (suc a)))
            loses q m hp lo =
                tied-out s p w a s.era_of s2.known s.incarnation s2.held s.up s2.settled s2.taken d (λ n y. refl) (grows (omega (arith, e))) least
                (λ o. present o)
                (λ o. refl)
                (λ g h n. eras_other (s.member g (w.changed (suc g))) g (λ y. (n, λ x. nowhere (w.changed (suc g)) (subst (λ k. s.member k (w.changed (suc g)) ≡ j) x y))))
                gone_
                (λ g o y. other_held (s.member g o) (not_lost s p w a q j d m refl lo g o y))
                (λ g o y x. was_settled (s.member g o) x) (states-learn p s w j d.states)
              where
                role_ : q ≡ w.changed (suc a)
                role_ = same_is q (w.changed (suc a)) lo.2

                -- it is none of the next three
                nowhere : (o : Place) → s.member b o ≡ j → ⊥
                nowhere o y =
                    let y' : s.member (suc a) o ≡ j = subst (λ k. s.member k o ≡ j) e y in
                    elim (decide (same o (w.changed (suc a)))) [
                      | inl n ↦ d.links.news a q lo.1 (subst (λ k. s.member (suc a) k ≡ s.member a q) (same_is o (w.changed (suc a)) n) (y' ∙ sym m))
                      | inr n ↦ apart (same o (w.changed (suc a))) (subst (λ k. same o k ≡ true) role_ (d.links.distinct a o q (omega (arith, lo.1)) (sym (d.links.stays a o lo.1 n) ∙ (y' ∙ sym m)))) n
                    ]

                drop_ : drops s j ≡ true
                drop_ = elim (find_place s b j) [ inl n ↦ absurd (nowhere n.0 n.1) | inr n ↦ rw (hp, n.1) ]

                -- one of the present three may be j, which goes by the present era neither before nor after
                present : (o : Place) → (s.era_of (s2.known (s.member w.era o)) == w.era) ≡ (s.era_of (s.known (s.member w.era o)) == w.era)
                present o =
                    elim (decide (s.member w.era o == j)) [
                      | inr n ↦ ap (λ k. k == w.era) (ap s.era_of (later_k (s.member w.era o) n))
                      | inl n ↦
                          let y : s.member w.era o ≡ j = eq_is (s.member w.era o) j n in
                          let before : b < w.era = less_ y in
                          not_eq (s.era_of (s2.known (s.member w.era o))) w.era (omega (arith, subst (λ k. s.era_of (s2.known k) ≡ b) (sym y) later_j, before))
                          ∙ sym (not_eq (s.era_of (s.known (s.member w.era o))) w.era (omega (arith, ap (λ k. s.era_of (s.known k)) y, lo.1)))
                    ]
                  where
                    less_ : s.member w.era o ≡ j → b < w.era
                    less_ y =
                        let choice : (b < w.era) ⊎ (b ≡ w.era) = grind (arith, le) in
                        elim choice [ inl x ↦ x | inr x ↦ absurd (nowhere o (subst (λ k. s.member k o ≡ j) (sym x) y)) ]

                gone_ : (s.up (s.member a (w.changed (suc a))) && (s.era_of (s2.known (s.member a (w.changed (suc a)))) == a)) ≡ false
                gone_ =
                    let y : s.member a (w.changed (suc a)) ≡ j = ap (s.member a) (sym role_) ∙ m in
                    and_false (s.up (s.member a (w.changed (suc a)))) (s.era_of (s2.known (s.member a (w.changed (suc a)))) == a) (more_ (s.era_of (s2.known (s.member a (w.changed (suc a))))) (subst (λ k. s.era_of (s2.known k) ≡ b) (sym y) later_j))
                  where
                    more_ : (k : ℕ) → k ≡ b → (k == a) ≡ false
                    more_ k x = elim (decide (k == a)) [ inr y ↦ y | inl y ↦ absurd (omega (arith, eq_is k a y, x, e)) ]

        -- it was not
        was_out : ((q : Place) → s.member a q ≡ j → ⊥) × (has_place s a j ≡ false) → ((q : Place) × (s.member b q ≡ j) × (has_place s b j ≡ true)) ⊎ (((q : Place) → s.member b q ≡ j → ⊥) × (has_place s b j ≡ false)) → (events : List Event) × Tied (after_learn s j) (run events (record { phase = p; facts = w })) × ((run events (record { phase = p; facts = w })).facts.era ≡ w.era)
        was_out c (inl n) = (Learn n.0 ∷ [], arrives n.0 n.1, refl)
          where
            arrives : (q : Place) → s.member b q ≡ j → Tied (after_learn s j) (happens (record { phase = p; facts = w }) (Learn q))
            arrives q m =
                tied-learn s p w q s2.known s2.held s2.settled s2.taken d (unknown_up p (w.changed w.era) q w.knows f.sound.known unknown) (subst (λ k. s.up k ≡ true) (sym here) u) (grows (omega (arith, e))) least
                (subst (λ k. s.era_of (s2.known k) ≡ w.era) (sym here) (later_j ∙ now))
                (λ o n. other_eras (s.member w.era o) (λ y. apart (same o q) (d.links.distinct w.era o q (omega arith) (y ∙ sym here)) n))
                (λ g h. eras_other (s.member g (w.changed (suc g))) g (λ y. (λ x. c.0 (w.changed (suc g)) (subst (λ k. s.member k (w.changed (suc g)) ≡ j) x y), λ x. absurd (omega (arith, x, now, h)))))
                (ap s2.held here ∙ (kept_held keeps j ∙ ((out c.1).0 ∙ sym (em q unknown last_))))
                (λ y. apart (s.settled j) (was_settled j (subst (λ k. s2.settled k ≡ true) here y)) (out c.1).1)
                (λ g o y. other_held (s.member g o) (not_placed s W j d c.0 g o y)) (λ g o y x. was_settled (s.member g o) x) (states-learn p s w j d.states)
              where
                now : b ≡ w.era
                now =
                    let choice : (b < w.era) ⊎ (b ≡ w.era) = grind (arith, le) in
                    elim choice [ inr x ↦ x | inl x ↦ absurd (omega (arith, subst (λ k. b ≤ s.era_of (s.known k)) m (d.links.ripe b q x), e)) ]

                here : s.member w.era q ≡ j
                here = subst (λ k. s.member k q ≡ j) now m

                unknown : w.knows q ≡ false
                unknown = d.links.knows q ∙ not_eq (s.era_of (s.known (s.member w.era q))) w.era (omega (arith, ap (λ k. s.era_of (s.known k)) here, e, now))

                last_ : same q (w.changed w.era) ≡ true
                last_ =
                    elim (decide (same q (w.changed w.era))) [
                      | inl x ↦ x
                      | inr x ↦ absurd (c.0 q (sym (d.links.stays a q (omega (arith, e, now)) (subst (λ k. same q (w.changed k) ≡ false) (sym now ∙ e) x)) ∙ subst (λ k. s.member k q ≡ j) e m))
                    ]

                keeps : drops s j ≡ false
                keeps = rw (c.1)
        was_out c (inr n) = ([], elsewhere n, refl)
          where
            elsewhere : ((q : Place) → s.member b q ≡ j → ⊥) × (has_place s b j ≡ false) → Tied (after_learn s j) (record { phase = p; facts = w })
            elsewhere n =
                tied-other s p w s.present s.era_of s2.known s.incarnation s2.held s.up s2.settled s2.taken d (λ n y. refl) (grows (omega (arith, e))) least
                present (λ o. refl)
                (λ g h. eras_other (s.member g (w.changed (suc g))) g (λ y. (λ x. c.0 (w.changed (suc g)) (subst (λ k. s.member k (w.changed (suc g)) ≡ j) x y), λ x. n.0 (w.changed (suc g)) (subst (λ k. s.member k (w.changed (suc g)) ≡ j) x y))))
                (λ g o y. other_held (s.member g o) (not_placed s W j d c.0 g o y)) (λ g o y x. was_settled (s.member g o) x) (states-learn p s w j d.states)
              where
                present : (o : Place) → (s.era_of (s2.known (s.member w.era o)) == w.era) ≡ (s.era_of (s.known (s.member w.era o)) == w.era)
                present o =
                    elim (decide (s.member w.era o == j)) [
                      | inr z ↦ ap (λ k. k == w.era) (ap s.era_of (later_k (s.member w.era o) z))
                      | inl z ↦
                          let y : s.member w.era o ≡ j = eq_is (s.member w.era o) j z in
                          let before : b < w.era = less_ y in
                          not_eq (s.era_of (s2.known (s.member w.era o))) w.era (omega (arith, subst (λ k. s.era_of (s2.known k) ≡ b) (sym y) later_j, before))
                          ∙ sym (not_eq (s.era_of (s.known (s.member w.era o))) w.era (omega (arith, ap (λ k. s.era_of (s.known k)) y, before, e)))
                    ]
                  where
                    less_ : s.member w.era o ≡ j → b < w.era
                    less_ y =
                        let choice : (b < w.era) ⊎ (b ≡ w.era) = grind (arith, le) in
                        elim choice [ inl x ↦ x | inr x ↦ absurd (n.0 o (subst (λ k. s.member k o ≡ j) (sym x) y)) ]
