-- Lists, pieces and settling that the machine need not see: they are not those of the unsettled one.
use Rattle.std.proofs.Common.{◌≡◌, ℕ, true, false, ◌&&◌, inl, inr, refl, subst, sym, arith, ◌∙◌}
use Rattle.std.specs.Prelude.{◌==◌}
use Rattle.am_stays.specs.Places.{Place}
use Rattle.am_stays.proofs.Phases.{Phase, Whole, Down, Unsettled}
use Rattle.am_stays.proofs.Machine.{Facts, goes_by, serves}
use Rattle.am_stays.specs.Shadow.{Shadow, is_list, after_cut, after_piece, after_settle, after_accept}
use Rattle.am_stays.proofs.Tables.{and_left, and_right, or_cases, or_right, eq_is, if_false}
use Rattle.am_stays.proofs.Tied.{Tied, States}
use Rattle.am_stays.proofs.TiedRings.{tied-other}

-- a list is cut that isn't of the present era, or not for the unsettled one
abbrev pub IsAside : Phase → Shadow → Facts → ℕ → ℕ → Type 0
IsAside Whole s w j r = Unit {0}
IsAside (Down d) s w j r = Unit {0}
IsAside (Unsettled d) s w j r =
    (k e : ℕ) → s.era_of e ≡ w.era → is_list s j r k e (s.member w.era d) (s.incarnation (s.member w.era d)) ≡ false

states-cut : (p : Phase) (s : Shadow) (w : Facts) (j r pieces piece : ℕ) → IsAside p s w j r → States p w.era w.sent w.list w.took s.era_of s.member s.known s.incarnation s.cut s.list s.piece s.taken → States p w.era w.sent w.list w.took s.era_of s.member s.known s.incarnation (after_cut s j r pieces piece).cut (after_cut s j r pieces piece).list (after_cut s j r pieces piece).piece s.taken
states-cut Whole s w j r pieces piece none h = tt
states-cut (Down d) s w j r pieces piece none h = tt
states-cut (Unsettled d) s w j r pieces piece none h = (
  λ i e z. rw (none (s.member w.era i) e z) (h.0 i e z),
  λ i e z y. rw (none (s.member w.era i) e z) (h.1 i e z y),
  λ i o z x y. h.2 i o z (x ∙ if_false (is_list s j r (s.member w.era i) (s.known (s.member w.era d)) (s.member w.era d) (s.incarnation (s.member w.era d))) piece (s.piece (s.member w.era i) (s.known (s.member w.era d)) (s.member w.era d) (s.incarnation (s.member w.era d))) (none (s.member w.era i) (s.known (s.member w.era d)) z)) y,
  λ i e y. or_right (is_list s j r (s.member w.era i) e (s.member w.era d) (s.incarnation (s.member w.era d))) (s.cut (s.member w.era i) e (s.member w.era d) (s.incarnation (s.member w.era d))) (h.3 i e y),
)

pub cut-aside : (s : Shadow) (p : Phase) (w : Facts) (j r pieces piece : ℕ) → IsAside p s w j r → Tied s (record { phase = p; facts = w }) → Tied (after_cut s j r pieces piece) (record { phase = p; facts = w })
cut-aside s p w j r pieces piece none d =
    record {
      links = d.links;
      held = d.held;
      settles = d.settles;
      outlived = d.outlived;
      asking = d.asking;
      writing = d.writing;
      states = states-cut p s w j r pieces piece none d.states;
    }

-- a piece is not the one that has the key in a list of the present era for the unsettled one
abbrev pub IsOther : Phase → Shadow → Facts → ℕ → ℕ → ℕ → Type 0
IsOther Whole s w j r o = Unit {0}
IsOther (Down d) s w j r o = Unit {0}
IsOther (Unsettled d) s w j r o =
    (i : Place) → s.era_of (s.known r) ≡ w.era → s.member w.era d ≡ r → s.member w.era i ≡ j → o ≡ s.piece j (s.known r) r (s.incarnation r) → ⊥

pub states-piece : (p : Phase) (s : Shadow) (w : Facts) (j r o : ℕ) → IsOther p s w j r o → States p w.era w.sent w.list w.took s.era_of s.member s.known s.incarnation s.cut s.list s.piece s.taken → States p w.era w.sent w.list w.took s.era_of s.member s.known s.incarnation s.cut s.list s.piece (after_piece s j r o).taken
states-piece Whole s w j r o none h = tt
states-piece (Down d) s w j r o none h = tt
states-piece (Unsettled d) s w j r o none h = (
  h.0,
  h.1,
  λ i q z x y.
      let R = s.member w.era d in
      let m = s.member w.era i in
      elim (or_cases ((R == r) && ((m == j) && (q == o))) (s.taken R m q) y) [
        | inr c ↦ h.2 i q z x c
        | inl c ↦
            let e : s.member w.era d ≡ r = eq_is R r (and_left (R == r) ((m == j) && (q == o)) c) in
            let c2 = and_right (R == r) ((m == j) && (q == o)) c in
            let f : s.member w.era i ≡ j = eq_is m j (and_left (m == j) (q == o) c2) in
            let g : q ≡ o = eq_is q o (and_right (m == j) (q == o) c2) in
            absurd (none i (subst (λ k. s.era_of (s.known k) ≡ w.era) e z) e f (subst (λ k. o ≡ s.piece j (s.known k) k (s.incarnation k)) e (subst (λ k. o ≡ s.piece k (s.known R) R (s.incarnation R)) f (sym g ∙ x))))
      ],
  h.3,
)

-- the piece has nothing of the key
pub piece-empty : (s : Shadow) (p : Phase) (w : Facts) (j r o : ℕ) → (o == s.piece j (s.known r) r (s.incarnation r)) ≡ false → IsOther p s w j r o → Tied s (record { phase = p; facts = w }) → Tied (after_piece s j r o) (record { phase = p; facts = w })
piece-empty s p w j r o n none d =
    tied-other s p w s.present s.era_of s.known s.incarnation (after_piece s j r o).held s.up s.settled (after_piece s j r o).taken d (λ m z. refl) (λ k. omega arith) d.links.least (λ q. refl) (λ q. refl) (λ g h. refl)
    (λ g q z. rw n refl)
    (λ g q z y. y) (states-piece p s w j r o none d.states)

-- r takes what stands in the piece as it would take any item
pub piece-aside : (s : Shadow) (p : Phase) (w : Facts) (j r o : ℕ) → (o == s.piece j (s.known r) r (s.incarnation r)) ≡ true → States p w.era w.sent w.list w.took s.era_of s.member s.known s.incarnation s.cut s.list s.piece (after_piece s j r o).taken → Tied (after_accept s r (s.list j (s.known r) r (s.incarnation r))) (record { phase = p; facts = w }) → Tied (after_piece s j r o) (record { phase = p; facts = w })
piece-aside s p w j r o y st d =
    tied-other (after_accept s r (s.list j (s.known r) r (s.incarnation r))) p w s.present s.era_of s.known s.incarnation (after_piece s j r o).held s.up s.settled (after_piece s j r o).taken d (λ m z. refl) (λ k. omega arith) d.links.least (λ q. refl) (λ q. refl) (λ g h. refl)
    (λ g q z. rw y refl)
    (λ g q z x. x) st

-- one settles, and the machine thinks that it is settled where it goes by an era
pub settle-aside : (s : Shadow) (p : Phase) (w : Facts) (r : ℕ) → ((g : ℕ) (q : Place) → goes_by p w g q ≡ true → s.member g q ≡ r → serves p w g q ≡ true) → Tied s (record { phase = p; facts = w }) → Tied (after_settle s r) (record { phase = p; facts = w })
settle-aside s p w r new d =
    record {
      links = d.links;
      held = d.held;
      settles = λ g q z y.
          elim (or_cases (s.member g q == r) (s.settled (s.member g q)) y) [
            | inl c ↦ new g q z (eq_is (s.member g q) r c)
            | inr c ↦ d.settles g q z c
          ];
      outlived = d.outlived;
      asking = d.asking;
      writing = d.writing;
      states = d.states;
    }
