-- Who is none of the three of the era by which it goes holds nothing and isn't settled.
use Rattle.std.proofs.Common.{◌≡◌, ℕ, suc, max, Bool, true, false, not, ◌&&◌, if◌then◌else◌, inl, inr, refl, subst, sym, arith, ◌∙◌}
use Rattle.std.specs.Prelude.{◌==◌}
use Rattle.am_stays.specs.Places.{Place}
use Rattle.am_stays.specs.Shadow.{Shadow, is_member, has_place, drops, shadow_start, after_piece, after_settle, after_learn, after_epoch, after_join, after_leave, after_crash, after_rise, after_restart, after_stop}
use Rattle.am_stays.specs.Happenings.{Happening, Asked, Got, Decided, Refused, Stored, Replied, Closed, Accepted, Retired, Listed, Pieced, Settled, Learned, Turned, Joined, Left, Crashed, Restarted, Stopped, era_now, is_replica, has_both, can, done}
use Rattle.am_stays.specs.Claims.{OthersHoldNothing}
use Rattle.am_stays.proofs.Tables.{and_left, and_right, not_true, apart, decide, eq_is, eq_refl, not_eq, if_true, if_false, and_both, and_false}
use Rattle.am_stays.proofs.Bounds.{Bounded}

none_of : (a b : Bool) → a ≡ true → (a && b) ≡ false → b ≡ false
none_of true b e h = h
none_of false b e h = cc

zero_of : (c : Bool) (n : ℕ) → n ≡ 0 → (if c then 0 else n) ≡ 0
zero_of true n h = refl
zero_of false n h = h

-- only what a replica holds changes
others-held : (s : Shadow) (i : ℕ) (held : ℕ → ℕ) → is_replica s i ≡ true → ((k : ℕ) → (k == i) ≡ false → held k ≡ s.held k) → OthersHoldNothing s → OthersHoldNothing (record s { held = held })
others-held s i held r keeps h = λ k u n.
    elim (decide (k == i)) [
      | inl c ↦ apart (is_replica s k) (subst (λ m. is_replica s m ≡ true) (sym (eq_is k i c)) r) n
      | inr c ↦ (keeps k c ∙ (h k u n).0, (h k u n).1)
    ]

others-piece : (s : Shadow) (j r p : ℕ) → is_replica s r ≡ true → OthersHoldNothing s → OthersHoldNothing (after_piece s j r p)
others-piece s j r p i h =
    others-held s r (after_piece s j r p).held i
    (λ k c. if_false ((p == s.piece j (s.known r) r (s.incarnation r)) && (k == r)) (max (s.held r) (s.list j (s.known r) r (s.incarnation r))) (s.held k) (and_false (p == s.piece j (s.known r) r (s.incarnation r)) (k == r) c))
    h

others-settle : (s : Shadow) (r : ℕ) → is_replica s r ≡ true → OthersHoldNothing s → OthersHoldNothing (after_settle s r)
others-settle s r i h = λ k u n.
    elim (decide (k == r)) [
      | inl c ↦ apart (is_replica s k) (subst (λ m. is_replica s m ≡ true) (sym (eq_is k r c)) i) n
      | inr c ↦ ((h k u n).0, rw c (h k u n).1)
    ]

others-learn : (s : Shadow) (j : ℕ) → OthersHoldNothing s → OthersHoldNothing (after_learn s j)
others-learn s j h = λ k u n.
    elim (decide (k == j)) [
      | inl c ↦
          let e : k ≡ j = eq_is k j c in
          subst (λ m. ((after_learn s j).held m ≡ 0) × ((after_learn s j).settled m ≡ false)) (sym e) (here (subst (λ m. s.up m ≡ true) e u) (none_of (s.up j) (is_member (s.member (s.era_of ((after_learn s j).known j))) j) (subst (λ m. s.up m ≡ true) e u) (subst (λ m. is_replica (after_learn s j) m ≡ false) e n)))
      | inr c ↦
          let same_ : is_replica (after_learn s j) k ≡ is_replica s k = rw c refl in
          let o = h k u (sym same_ ∙ n) in
          (rw c o.0, rw c o.1)
    ]
  where
    later : (after_learn s j).known j ≡ suc (s.known j)
    later = if_true (j == j) (suc (s.known j)) (s.known j) (eq_refl j)

    here : s.up j ≡ true → has_place s (s.era_of ((after_learn s j).known j)) j ≡ false → ((after_learn s j).held j ≡ 0) × ((after_learn s j).settled j ≡ false)
    here u n =
        elim (decide (has_place s (s.era_of (s.known j)) j)) [
          | inr c ↦
              let o = h j u (rw (u, c)) in
              (zero_of ((j == j) && drops s j) (s.held j) o.0, and_false (not ((j == j) && drops s j)) (s.settled j) o.1)
          | inl c ↦
              let d : drops s j ≡ true = rw (c, subst (λ m. has_place s (s.era_of m) j ≡ false) later n) in
              (if_true ((j == j) && drops s j) 0 (s.held j) (and_both (j == j) (drops s j) (eq_refl j) d), rw (eq_refl j, d))
        ]

-- a new epoch is none by which anybody goes
others-epoch : (s : Shadow) (era : ℕ) → Bounded s → OthersHoldNothing s → OthersHoldNothing (after_epoch s era (suc s.present))
others-epoch s era b h = λ k u n.
    let same_ : is_replica (after_epoch s era (suc s.present)) k ≡ is_replica s k = rw (not_eq (s.known k) (suc s.present) (omega (arith, b.known k))) refl in
    h k u (sym same_ ∙ n)

others-join : (s : Shadow) (r : Place) (i : ℕ) → Bounded s → OthersHoldNothing s → OthersHoldNothing (after_join s (s.era_of s.present) r i (suc s.present))
others-join s r i b h = λ k u n.
    elim (decide (k == i)) [
      | inl c ↦ (rw c, rw c)
      | inr c ↦
          let e = not_eq (s.known k) (suc s.present) (omega (arith, b.known k)) in
          let g = not_eq (s.era_of (s.known k)) (suc (s.era_of s.present)) (omega (arith, b.eras (s.known k))) in
          let up_ : t.up k ≡ s.up k = rw c refl in
          let same_ : is_replica t k ≡ is_replica s k = rw (c, e, g) refl in
          let o = h k (sym up_ ∙ u) (sym same_ ∙ n) in
          (rw c o.0, rw c o.1)
    ]
  where
    t : Shadow
    t = after_join s (s.era_of s.present) r i (suc s.present)

others-leave : (s : Shadow) (r : Place) (i : ℕ) → Bounded s → OthersHoldNothing s → OthersHoldNothing (after_leave s (s.era_of s.present) r i (suc s.present))
others-leave s r i b h = λ k u n.
    let l : (k == s.member (s.era_of s.present) r) ≡ false = not_true (k == s.member (s.era_of s.present) r) (and_left (not (k == s.member (s.era_of s.present) r)) (s.up k) u) in
    let e = not_eq (s.known k) (suc s.present) (omega (arith, b.known k)) in
    let g = not_eq (s.era_of (s.known k)) (suc (s.era_of s.present)) (omega (arith, b.eras (s.known k))) in
    let same_ : is_replica (after_leave s (s.era_of s.present) r i (suc s.present)) k ≡ is_replica s k = rw (l, e, g) refl in
    h k (and_right (not (k == s.member (s.era_of s.present) r)) (s.up k) u) (sym same_ ∙ n)

others-crash : (s : Shadow) (j : ℕ) → OthersHoldNothing s → OthersHoldNothing (after_crash s j)
others-crash s j h = λ k u n.
    let c : (k == j) ≡ false = not_true (k == j) (and_left (not (k == j)) (s.up k) u) in
    let same_ : is_replica (after_crash s j) k ≡ is_replica s k = rw c refl in
    let o = h k (and_right (not (k == j)) (s.up k) u) (sym same_ ∙ n) in
    (rw c o.0, rw c o.1)

-- who comes up has nothing
others-up : (s : Shadow) (j e : ℕ) → OthersHoldNothing s → OthersHoldNothing (after_rise s j e)
others-up s j e h = λ k u n.
    elim (decide (k == j)) [
      | inl c ↦ (rw c, rw c)
      | inr c ↦
          let up_ : (after_rise s j e).up k ≡ s.up k = rw c refl in
          let same_ : is_replica (after_rise s j e) k ≡ is_replica s k = rw c refl in
          let o = h k (sym up_ ∙ u) (sym same_ ∙ n) in
          (rw c o.0, rw c o.1)
    ]

others-restart : (s : Shadow) (j : ℕ) → OthersHoldNothing s → OthersHoldNothing (done s (Restarted j))
others-restart s j h =
    elim (decide (has_place s (era_now s) j)) [
      | inl c ↦ subst (λ t. OthersHoldNothing t) (sym (if_true (has_place s (era_now s) j) (after_restart s j s.present) (after_rise s j s.present) c)) (others-up s j s.present h)
      | inr c ↦ subst (λ t. OthersHoldNothing t) (sym (if_false (has_place s (era_now s) j) (after_restart s j s.present) (after_rise s j s.present) c)) (others-up s j s.present h)
    ]

others-stop : (s : Shadow) (era e : ℕ) → OthersHoldNothing (after_stop s era e)
others-stop s era e = λ k u n.
    let c : has_place s era k ≡ false = subst (λ g. has_place s g k ≡ false) (if_true (e == e) era (s.era_of e) (eq_refl e)) n in
    (if_false (has_place s era k) (s.held k) 0 c, c)

pub others-start : (members : Place → ℕ) (held : ℕ → ℕ) → OthersHoldNothing (shadow_start members held)
others-start members held = λ k u n. (if_false (is_member members k) (held k) 0 n, n)

pub others-after : (s : Shadow) (h : Happening) → Bounded s → can s h ≡ true → OthersHoldNothing s → OthersHoldNothing (done s h)
others-after s (Asked n j) b c o = o
others-after s (Got n j) b c o = o
others-after s (Decided n j v k u x) b c o = o
others-after s (Refused n) b c o = o
others-after s (Stored x j) b c o = others-held s j (done s (Stored x j)).held (and_right (s.known j == s.epoch (s.by x)) (is_replica s j) (and_right (s.put x) ((s.known j == s.epoch (s.by x)) && is_replica s j) c)) (λ k n. if_false (k == j) (max (s.held j) x) (s.held k) n) o
others-after s (Replied x j k) b c o = o
others-after s (Closed x) b c o = o
others-after s (Accepted j x) b c o = others-held s j (done s (Accepted j x)).held c (λ k n. if_false (k == j) (max (s.held j) x) (s.held k) n) o
others-after s (Retired j) b c o = others-held s j (done s (Retired j)).held c (λ k n. if_false (k == j) 0 (s.held k) n) o
others-after s (Listed j r pieces piece) b c o = o
others-after s (Pieced j r p) b c o = others-piece s j r p (and_right (s.cut j (s.known r) r (s.incarnation r)) (is_replica s r) c) o
others-after s (Settled r) b c o = others-settle s r (and_right (has_both s r (s.era_of (s.known r))) (is_replica s r) c) o
others-after s (Learned j) b c o = others-learn s j o
others-after s Turned b c o = others-epoch s (era_now s) b o
others-after s (Joined i r) b c o = others-join s r i b o
others-after s (Left i r) b c o = others-leave s r i b o
others-after s (Crashed j) b c o = others-crash s j o
others-after s (Restarted j) b c o = others-restart s j o
others-after s Stopped b c o = others-stop s (era_now s) (suc s.present)
