-- Who holds a stamp x, over each change.
use Rattle.std.proofs.Common.{◌≡◌, ℕ, ◌<◌, ◌≤◌, Bool, true, false, ◌&&◌, if◌then◌else◌, ◌⊎◌, inl, inr, refl, subst, sym, arith}
use Rattle.std.specs.Prelude.{◌==◌}
use Rattle.am_stays.specs.Places.{Place, First, Second, Third, same}
use Rattle.am_stays.proofs.Phases.{next, last, Phase, Whole, Down, Unsettled, is_up, is_settled}
use Rattle.am_stays.proofs.Machine.{Facts, cuts, crashes}
use Rattle.am_stays.proofs.Tables.{not_true, apart, decide, same_is, same_sym, zeroed, pick_cut}
use Rattle.am_stays.proofs.Invariants.{Known, Sound, Either, Sends, Reaches, Held, MissedNow}

pub held-more : (x : ℕ) (p : Phase) (b c : Place → ℕ) (sent : Place → ℕ → Bool) (list : Place → ℕ → ℕ) → ((j : Place) → x ≤ b j → x ≤ c j) → Held x p b sent list → Held x p c sent list
held-more x Whole b c sent list more h = λ s. either x b c s more (h s)
  where
    either : (x : ℕ) (b c : Place → ℕ) (s : Place) → ((j : Place) → x ≤ b j → x ≤ c j) → Either x b s → Either x c s
    either x b c s more (inl a) = inl (more (next s) a)
    either x b c s more (inr a) = inr (more (last s) a)
held-more x (Down r) b c sent list more h = elim h [ inl a ↦ inl (more (next r) a) | inr a ↦ inr (more (last r) a) ]
held-more x (Unsettled r) b c sent list more h = (
  elim h.0 [ inl a ↦ inl (more (next r) a) | inr a ↦ inr (more (last r) a) ],
  elim h.1 [
    | inl a ↦ inl (more r a)
    | inr (inl a) ↦ inr (inl (more (next r) a.0, a.1))
    | inr (inr (inl a)) ↦ inr (inr (inl (more (last r) a.0, a.1)))
    | inr (inr (inr a)) ↦ inr (inr (inr (more (next r) a.0, more (last r) a.1)))
  ],
)

sends-cut : (x : ℕ) (w : Facts) (t : Bool) (i : Place) (e : ℕ) (k : Place) → Sends x w.best w.sent w.list k → Sends x w.best (cuts w t i e).sent (cuts w t i e).list k
sends-cut x w t i e k h = (h.0, λ f z. pick_cut (t && (same k i && (f == e))) (w.sent k f) (w.best k) (w.list k f) x h.0 (h.1 f) z)

pub held-cut : (x : ℕ) (p : Phase) (w : Facts) (t : Bool) (i : Place) (e : ℕ) → Held x p w.best w.sent w.list → Held x p w.best (cuts w t i e).sent (cuts w t i e).list
held-cut x Whole w t i e h = h
held-cut x (Down r) w t i e h = h
held-cut x (Unsettled r) w t i e h = (
  h.0,
  elim h.1 [
    | inl a ↦ inl a
    | inr (inl a) ↦ inr (inl (sends-cut x w t i e (next r) a))
    | inr (inr (inl a)) ↦ inr (inr (inl (sends-cut x w t i e (last r) a)))
    | inr (inr (inr a)) ↦ inr (inr (inr a))
  ],
)

-- lists begin anew: nothing is cut
held-anew : (x : ℕ) (r : Place) (b c : Place → ℕ) (list : Place → ℕ → ℕ) → (x ≤ b (next r) → x ≤ c (next r)) → (x ≤ b (last r) → x ≤ c (last r)) → Either x b r → Held x (Unsettled r) c (λ i e. false) list
held-anew x r b c list h k (inl a) = (inl (h a), inr (inl (h a, λ e z. apart false z refl)))
held-anew x r b c list h k (inr a) = (inr (k a), inr (inr (inl (k a, λ e z. apart false z refl))))

others : (x : ℕ) (r : Place) (b : Place → ℕ) → (x ≤ b (next r) → x ≤ (if same (next r) r then 0 else b (next r))) × (x ≤ b (last r) → x ≤ (if same (last r) r then 0 else b (last r)))
others x First b = (λ h. h, λ h. h)
others x Second b = (λ h. h, λ h. h)
others x Third b = (λ h. h, λ h. h)

pub held-crash : (x : ℕ) (w : Facts) (r : Place) → ((s : Place) → Either x w.best s) → Either x (crashes w true r).best r
held-crash x w r h = elim (h r) [ inl a ↦ inl ((others x r w.best).0 a) | inr a ↦ inr ((others x r w.best).1 a) ]

pub held-restart : (x : ℕ) (r : Place) (w : Facts) (list : Place → ℕ → ℕ) → Either x w.best r → Held x (Unsettled r) (λ j. if same j r then 0 else w.best j) (λ i e. false) list
held-restart x r w list h = held-anew x r w.best (λ j. if same j r then 0 else w.best j) list (others x r w.best).0 (others x r w.best).1 h

-- the unsettled one settles
pub held-settle : (x : ℕ) (r : Place) (w : Facts) (e : ℕ) → w.sent (next r) e ≡ true → w.sent (last r) e ≡ true → (x ≤ w.list (next r) e → x ≤ w.best r) → (x ≤ w.list (last r) e → x ≤ w.best r) → Held x (Unsettled r) w.best w.sent w.list → (s : Place) → Either x w.best s
held-settle x r w e cut also has too h s = go r h.0 got s
  where
    got : (x ≤ w.best r) ⊎ ((x ≤ w.best (next r)) × (x ≤ w.best (last r)))
    got =
        elim h.1 [
          | inl a ↦ inl a
          | inr (inl a) ↦ inl (has (a.1 e cut))
          | inr (inr (inl a)) ↦ inl (too (a.1 e also))
          | inr (inr (inr a)) ↦ inr a
        ]

    go : (r : Place) → Either x w.best r → (x ≤ w.best r) ⊎ ((x ≤ w.best (next r)) × (x ≤ w.best (last r))) → (s : Place) → Either x w.best s
    go First a (inl b) First = a
    go First a (inl b) Second = inr b
    go First a (inl b) Third = inl b
    go First a (inr b) First = a
    go First a (inr b) Second = inl b.1
    go First a (inr b) Third = inr b.0
    go Second a (inl b) First = inl b
    go Second a (inl b) Second = a
    go Second a (inl b) Third = inr b
    go Second a (inr b) First = inr b.0
    go Second a (inr b) Second = a
    go Second a (inr b) Third = inl b.1
    go Third a (inl b) First = inr b
    go Third a (inl b) Second = inl b
    go Third a (inl b) Third = a
    go Third a (inr b) First = inl b.1
    go Third a (inr b) Second = inr b.0
    go Third a (inr b) Third = a

-- two different places, of which one or the other holds x
pub pair : (x : ℕ) (b : Place → ℕ) (i j : Place) → same i j ≡ false → ((s : Place) → Either x b s) → (x ≤ b i) ⊎ (x ≤ b j)
pair x b First First e h = cc
pair x b First Second e h = elim (h Third) [ inl a ↦ inl a | inr a ↦ inr a ]
pair x b First Third e h = elim (h Second) [ inl a ↦ inr a | inr a ↦ inl a ]
pair x b Second First e h = elim (h Third) [ inl a ↦ inr a | inr a ↦ inl a ]
pair x b Second Second e h = cc
pair x b Second Third e h = elim (h First) [ inl a ↦ inl a | inr a ↦ inr a ]
pair x b Third First e h = elim (h Second) [ inl a ↦ inl a | inr a ↦ inr a ]
pair x b Third Second e h = elim (h First) [ inl a ↦ inr a | inr a ↦ inl a ]
pair x b Third Third e h = cc

-- the same of the two other than r
pub pair_apart : (x : ℕ) (b : Place → ℕ) (r i j : Place) → same i j ≡ false → same i r ≡ false → same j r ≡ false → Either x b r → (x ≤ b i) ⊎ (x ≤ b j)
pair_apart x b First First j e f g h = cc
pair_apart x b First Second First e f g h = cc
pair_apart x b First Second Second e f g h = cc
pair_apart x b First Second Third e f g h = h
pair_apart x b First Third First e f g h = cc
pair_apart x b First Third Second e f g h = elim h [ inl a ↦ inr a | inr a ↦ inl a ]
pair_apart x b First Third Third e f g h = cc
pair_apart x b Second First First e f g h = cc
pair_apart x b Second First Second e f g h = cc
pair_apart x b Second First Third e f g h = elim h [ inl a ↦ inr a | inr a ↦ inl a ]
pair_apart x b Second Second j e f g h = cc
pair_apart x b Second Third First e f g h = h
pair_apart x b Second Third Second e f g h = cc
pair_apart x b Second Third Third e f g h = cc
pair_apart x b Third First First e f g h = cc
pair_apart x b Third First Second e f g h = h
pair_apart x b Third First Third e f g h = cc
pair_apart x b Third Second First e f g h = elim h [ inl a ↦ inr a | inr a ↦ inl a ]
pair_apart x b Third Second Second e f g h = cc
pair_apart x b Third Second Third e f g h = cc
pair_apart x b Third Third j e f g h = cc

-- any two settled ones
pub held-pair : (x : ℕ) (p : Phase) (b : Place → ℕ) (sent : Place → ℕ → Bool) (list : Place → ℕ → ℕ) (i j : Place) → same i j ≡ false → is_settled p i ≡ true → is_settled p j ≡ true → Held x p b sent list → (x ≤ b i) ⊎ (x ≤ b j)
held-pair x Whole b sent list i j e f g h = pair x b i j e h
held-pair x (Down r) b sent list i j e f g h = pair_apart x b r i j e (not_true (same i r) f) (not_true (same j r) g) h
held-pair x (Unsettled r) b sent list i j e f g h = pair_apart x b r i j e (not_true (same i r) f) (not_true (same j r) g) h.0

-- who acked x and has not learned the present era, or is known to hold it with nothing cut yet, makes it held
pub held-from : (x : ℕ) (r i : Place) (b : Place → ℕ) (sent : Place → ℕ → Bool) (list : Place → ℕ → ℕ) → same i r ≡ false → x ≤ b i → ((e : ℕ) → sent i e ≡ true → x ≤ list i e) → Held x (Unsettled r) b sent list
held-from x First First b sent list e h k = cc
held-from x First Second b sent list e h k = (inl h, inr (inl (h, k)))
held-from x First Third b sent list e h k = (inr h, inr (inr (inl (h, k))))
held-from x Second First b sent list e h k = (inr h, inr (inr (inl (h, k))))
held-from x Second Second b sent list e h k = cc
held-from x Second Third b sent list e h k = (inl h, inr (inl (h, k)))
held-from x Third First b sent list e h k = (inl h, inr (inl (h, k)))
held-from x Third Second b sent list e h k = (inr h, inr (inr (inl (h, k))))
held-from x Third Third b sent list e h k = cc

pub missed-more : (x : ℕ) (p : Phase) (b c : Place → ℕ) (sent : Place → ℕ → Bool) (list : Place → ℕ → ℕ) (i : Place) → ((j : Place) → x ≤ b j → x ≤ c j) → MissedNow x p b sent list i → MissedNow x p c sent list i
missed-more x Whole b c sent list i more h = λ j e. more j (h j e)
missed-more x (Down r) b c sent list i more h = λ j e f. more j (h j e f)
missed-more x (Unsettled r) b c sent list i more h = (h.0, λ k e f. (more k (h.1 k e f).0, elim (h.1 k e f).1 [ inl a ↦ inl (more r a) | inr a ↦ inr a ]))

pub missed-cut : (x : ℕ) (p : Phase) (w : Facts) (t : Bool) (i : Place) (e : ℕ) (k : Place) → MissedNow x p w.best w.sent w.list k → MissedNow x p w.best (cuts w t i e).sent (cuts w t i e).list k
missed-cut x Whole w t i e k h = h
missed-cut x (Down r) w t i e k h = h
missed-cut x (Unsettled r) w t i e k h = (
  h.0,
  λ j f g. (
    (h.1 j f g).0,
    elim (h.1 j f g).1 [
      | inl a ↦ inl a
      | inr a ↦ inr (λ l z. pick_cut (t && (same j i && (l == e))) (w.sent j l) (w.best j) (w.list j l) x (h.1 j f g).0 (a l) z)
    ],
  ),
)

pub missed-crash : (x : ℕ) (w : Facts) (r i : Place) (sent : Place → ℕ → Bool) → MissedNow x Whole w.best w.sent w.list i → MissedNow x (Down r) (crashes w true r).best sent w.list i
missed-crash x w r i sent h = λ j e f. zeroed (same j r) (w.best j) x f (h j e)

-- the place that is neither
third : (r i : Place) → same r i ≡ false → ((same i (next r) ≡ false) × (same (next r) r ≡ false)) ⊎ ((same i (last r) ≡ false) × (same (last r) r ≡ false))
third First First e = cc
third First Second e = inr (refl, refl)
third First Third e = inl (refl, refl)
third Second First e = inl (refl, refl)
third Second Second e = cc
third Second Third e = inr (refl, refl)
third Third First e = inr (refl, refl)
third Third Second e = inl (refl, refl)
third Third Third e = cc

pub missed-settle : (x : ℕ) (r i : Place) (w : Facts) (e : ℕ) → w.sent (next r) e ≡ true → w.sent (last r) e ≡ true → (x ≤ w.list (next r) e → x ≤ w.best r) → (x ≤ w.list (last r) e → x ≤ w.best r) → MissedNow x (Unsettled r) w.best w.sent w.list i → MissedNow x Whole w.best w.sent w.list i
missed-settle x r i w e cut also has too h = λ j f. elim (decide (same j r)) [ inl a ↦ subst (λ q. x ≤ w.best q) (sym (same_is j r a)) got | inr a ↦ (h.1 j f a).0 ]
  where
    pick : (k : Place) → same i k ≡ false → same k r ≡ false → w.sent k e ≡ true → (x ≤ w.list k e → x ≤ w.best r) → x ≤ w.best r
    pick k f g z y = elim (h.1 k f g).1 [ inl a ↦ a | inr a ↦ y (a e z) ]

    got : x ≤ w.best r
    got = elim (third r i h.0) [ inl a ↦ pick (next r) a.0 a.1 cut has | inr a ↦ pick (last r) a.0 a.1 also too ]

-- who acked x in the era before and has not learned makes it held
pub held-stay : (x : ℕ) (p : Phase) (w : Facts) (k : Place) → Sound p w → same k (w.changed w.era) ≡ false → w.knows k ≡ false → x ≤ w.best k → Held x p w.best w.sent w.list
held-stay x Whole w k s e f h = apart (w.knows k) (s.known k) f
held-stay x (Down r) w k s e f h = apart (w.knows k) (s.known k) f
held-stay x (Unsettled r) w k s e f h = held-from x r k w.best w.sent w.list (subst (λ q. same k q ≡ false) (same_is (w.changed w.era) r (s.known k f)) e) h (λ l z. apart (w.knows k) (s.sent k l z) f)

-- two acked x in the present era: each of them holds it, or is down
pub held-two : (x : ℕ) (p : Phase) (s : Place) (b : Place → ℕ) (sent : Place → ℕ → Bool) (list : Place → ℕ → ℕ) → (is_up p (next s) ≡ true → x ≤ b (next s)) → (is_up p (last s) ≡ true → x ≤ b (last s)) → Held x p b sent list
held-two x Whole s b sent list h k = λ q. go s (h refl) (k refl) q
  where
    go : (s : Place) → x ≤ b (next s) → x ≤ b (last s) → (q : Place) → Either x b q
    go First h k First = inl h
    go First h k Second = inl k
    go First h k Third = inr h
    go Second h k First = inr h
    go Second h k Second = inl h
    go Second h k Third = inl k
    go Third h k First = inl k
    go Third h k Second = inr h
    go Third h k Third = inl h
held-two x (Down First) First b sent list h k = inl (h refl)
held-two x (Down First) Second b sent list h k = inr (h refl)
held-two x (Down First) Third b sent list h k = inl (k refl)
held-two x (Down Second) First b sent list h k = inl (k refl)
held-two x (Down Second) Second b sent list h k = inl (h refl)
held-two x (Down Second) Third b sent list h k = inr (h refl)
held-two x (Down Third) First b sent list h k = inr (h refl)
held-two x (Down Third) Second b sent list h k = inl (k refl)
held-two x (Down Third) Third b sent list h k = inl (h refl)
held-two x (Unsettled First) First b sent list h k = (inl (h refl), inr (inr (inr (h refl, k refl))))
held-two x (Unsettled First) Second b sent list h k = (inr (h refl), inl (k refl))
held-two x (Unsettled First) Third b sent list h k = (inl (k refl), inl (h refl))
held-two x (Unsettled Second) First b sent list h k = (inl (k refl), inl (h refl))
held-two x (Unsettled Second) Second b sent list h k = (inl (h refl), inr (inr (inr (h refl, k refl))))
held-two x (Unsettled Second) Third b sent list h k = (inr (h refl), inl (k refl))
held-two x (Unsettled Third) First b sent list h k = (inr (h refl), inl (k refl))
held-two x (Unsettled Third) Second b sent list h k = (inl (k refl), inl (h refl))
held-two x (Unsettled Third) Third b sent list h k = (inl (h refl), inr (inr (inr (h refl, k refl))))

-- i of the two settled ones lacks x: so the unsettled one has it, or each list of the other does
sends_of : (x : ℕ) (b : Place → ℕ) (sent : Place → ℕ → Bool) (list : Place → ℕ → ℕ) (r i k : Place) → same i k ≡ false → same i r ≡ false → same k r ≡ false → b i < x → Reaches x r b sent list → (x ≤ b r) ⊎ ((e : ℕ) → sent k e ≡ true → x ≤ list k e)
sends_of x b sent list First First First e f g h q = cc
sends_of x b sent list First First Second e f g h q = cc
sends_of x b sent list First First Third e f g h q = cc
sends_of x b sent list First Second First e f g h q = cc
sends_of x b sent list First Second Second e f g h q = cc
sends_of x b sent list First Second Third e f g h q = elim q [ inl a ↦ inl a | inr (inl a) ↦ absurd (omega (arith, h, a.0)) | inr (inr (inl a)) ↦ inr a.1 | inr (inr (inr a)) ↦ absurd (omega (arith, h, a.0)) ]
sends_of x b sent list First Third First e f g h q = cc
sends_of x b sent list First Third Second e f g h q = elim q [ inl a ↦ inl a | inr (inl a) ↦ inr a.1 | inr (inr (inl a)) ↦ absurd (omega (arith, h, a.0)) | inr (inr (inr a)) ↦ absurd (omega (arith, h, a.1)) ]
sends_of x b sent list First Third Third e f g h q = cc
sends_of x b sent list Second First First e f g h q = cc
sends_of x b sent list Second First Second e f g h q = cc
sends_of x b sent list Second First Third e f g h q = elim q [ inl a ↦ inl a | inr (inl a) ↦ inr a.1 | inr (inr (inl a)) ↦ absurd (omega (arith, h, a.0)) | inr (inr (inr a)) ↦ absurd (omega (arith, h, a.1)) ]
sends_of x b sent list Second Second First e f g h q = cc
sends_of x b sent list Second Second Second e f g h q = cc
sends_of x b sent list Second Second Third e f g h q = cc
sends_of x b sent list Second Third First e f g h q = elim q [ inl a ↦ inl a | inr (inl a) ↦ absurd (omega (arith, h, a.0)) | inr (inr (inl a)) ↦ inr a.1 | inr (inr (inr a)) ↦ absurd (omega (arith, h, a.0)) ]
sends_of x b sent list Second Third Second e f g h q = cc
sends_of x b sent list Second Third Third e f g h q = cc
sends_of x b sent list Third First First e f g h q = cc
sends_of x b sent list Third First Second e f g h q = elim q [ inl a ↦ inl a | inr (inl a) ↦ absurd (omega (arith, h, a.0)) | inr (inr (inl a)) ↦ inr a.1 | inr (inr (inr a)) ↦ absurd (omega (arith, h, a.0)) ]
sends_of x b sent list Third First Third e f g h q = cc
sends_of x b sent list Third Second First e f g h q = elim q [ inl a ↦ inl a | inr (inl a) ↦ inr a.1 | inr (inr (inl a)) ↦ absurd (omega (arith, h, a.0)) | inr (inr (inr a)) ↦ absurd (omega (arith, h, a.1)) ]
sends_of x b sent list Third Second Second e f g h q = cc
sends_of x b sent list Third Second Third e f g h q = cc
sends_of x b sent list Third Third First e f g h q = cc
sends_of x b sent list Third Third Second e f g h q = cc
sends_of x b sent list Third Third Third e f g h q = cc

-- a settled one lacks x
pub missed-from : (x : ℕ) (p : Phase) (b : Place → ℕ) (sent : Place → ℕ → Bool) (list : Place → ℕ → ℕ) (i : Place) → is_settled p i ≡ true → b i < x → Held x p b sent list → MissedNow x p b sent list i
missed-from x Whole b sent list i s l h = λ j e. elim (pair x b i j e h) [ inl a ↦ absurd (omega (arith, l, a)) | inr a ↦ a ]
missed-from x (Down r) b sent list i s l h = λ j e f. elim (pair_apart x b r i j e (not_true (same i r) s) f h) [ inl a ↦ absurd (omega (arith, l, a)) | inr a ↦ a ]
missed-from x (Unsettled r) b sent list i s l h = (
  subst (λ q. q ≡ false) (same_sym i r) (not_true (same i r) s),
  λ k e f. (
    elim (pair_apart x b r i k e (not_true (same i r) s) f h.0) [ inl a ↦ absurd (omega (arith, l, a)) | inr a ↦ a ],
    sends_of x b sent list r i k e (not_true (same i r) s) f l h.1,
  ),
)

-- who answers after one that lacked x has it
pub missed-has : (x : ℕ) (p : Phase) (b : Place → ℕ) (sent : Place → ℕ → Bool) (list : Place → ℕ → ℕ) (j i : Place) → same j i ≡ false → is_settled p i ≡ true → MissedNow x p b sent list j → x ≤ b i
missed-has x Whole b sent list j i e s m = m i e
missed-has x (Down r) b sent list j i e s m = m i e (not_true (same i r) s)
missed-has x (Unsettled r) b sent list j i e s m = (m.1 i e (not_true (same i r) s)).0

-- who has not learned the present era, and did not get its place last, is settled
pub unknown_settled : (p : Phase) (changed i : Place) (knows : Place → Bool) → Known p changed knows → same i changed ≡ false → knows i ≡ false → is_settled p i ≡ true
unknown_settled Whole changed i knows k e f = refl
unknown_settled (Down r) changed i knows k e f = apart (knows i) (k i) f
unknown_settled (Unsettled r) changed i knows k e f = rw (subst (λ q. same i q ≡ false) (same_is changed r (k i f)) e)
