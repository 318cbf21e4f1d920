-- The machine follows lists, their pieces, and who settles.
use Rattle.std.proofs.Common.{◌≡◌, ℕ, zero, suc, ◌<◌, Bool, true, false, not, ◌&&◌, ◌||◌, ◌⊎◌, inl, inr, refl, subst, sym, arith, ◌∙◌}
use Rattle.std.specs.Prelude.{nat_lt, ◌==◌}
use Rattle.am_stays.specs.Places.{Place, First, Second, Third, same}
use Rattle.am_stays.proofs.Phases.{Phase, Whole, Down, Unsettled}
use Rattle.am_stays.proofs.Machine.{Facts, Cut, State_arrives, Settle, Accept, goes_by, serves, happens}
use Rattle.am_stays.proofs.GoingBy.{one_place}
use Rattle.am_stays.specs.Shadow.{Shadow, is_list, after_cut, after_piece, after_settle}
use Rattle.am_stays.specs.Happenings.{Listed, Pieced, Settled, is_replica, all_below, has_list, has_other, has_both, can}
use Rattle.am_stays.proofs.Tables.{and_left, and_right, or_cases, or_left, or_right, not_true, apart, decide, same_is, same_refl, eq_is, eq_refl, eq_true, lt_is, and_both}
use Rattle.am_stays.proofs.Events.{goes_cases}
use Rattle.am_stays.proofs.Tied.{Tied}
use Rattle.am_stays.proofs.Bounds.{Bounded, list_parts, bounded-less, bounded-cut, bounded-piece}
use Rattle.am_stays.proofs.Merged.{merged-cut, merged-piece}
use Rattle.am_stays.proofs.Aside.{IsAside, IsOther, states-piece, cut-aside, piece-empty, piece-aside, settle-aside}
use Rattle.am_stays.proofs.Follows.{Follows, Reached, by-event, by-none, replica_up, replica_place}
use Rattle.am_stays.proofs.TiedRequests.{there}
use Rattle.am_stays.proofs.TiedItems.{tied-accept}
use Rattle.am_stays.proofs.Members.{find_place}
use Rattle.am_stays.proofs.TiedLists.{tied-cut, tied-piece, tied-settle}

-- the unsettled one isn't settled, where it goes by the present era
unsettled_one : (s : Shadow) (w : Facts) (d : Place) → Tied s (record { phase = Unsettled d; facts = w }) → s.up (s.member w.era d) ≡ true → s.era_of (s.known (s.member w.era d)) ≡ w.era → s.settled (s.member w.era d) ≡ false
unsettled_one s w d t up e =
    elim (decide (s.settled (s.member w.era d))) [
      | inr c ↦ c
      | inl c ↦
          let on : goes_by (Unsettled d) w w.era d ≡ true = there s (record { phase = Unsettled d; facts = w }) w.era d (s.member w.era d) t (omega arith) refl up e in
          let v : (not (same d d) || not (w.era == w.era)) ≡ true = and_right (goes_by (Unsettled d) w w.era d) (not (same d d) || not (w.era == w.era)) (t.settles w.era d on c) in
          apart (not (same d d) || not (w.era == w.era)) v (rw (same_refl d, eq_refl w.era))
    ]

pub follow-cut : (s : Shadow) (p : Phase) (w : Facts) (j r pieces piece : ℕ) → Follows s (record { phase = p; facts = w }) → can s (Listed j r pieces piece) ≡ true → Reached (after_cut s j r pieces piece)
follow-cut s p w j r pieces piece f h = go p f
  where
    a : (not (s.cut j (s.known j) r (s.incarnation r)) && (s.settled j && is_replica s j)) ≡ true
    a = and_right (nat_lt piece pieces) (not (s.cut j (s.known j) r (s.incarnation r)) && (s.settled j && is_replica s j)) h

    new : s.cut j (s.known j) r (s.incarnation r) ≡ false
    new = not_true (s.cut j (s.known j) r (s.incarnation r)) (and_left (not (s.cut j (s.known j) r (s.incarnation r))) (s.settled j && is_replica s j) a)

    settled : s.settled j ≡ true
    settled = and_left (s.settled j) (is_replica s j) (and_right (not (s.cut j (s.known j) r (s.incarnation r))) (s.settled j && is_replica s j) a)

    replica : is_replica s j ≡ true
    replica = and_right (s.settled j) (is_replica s j) (and_right (not (s.cut j (s.known j) r (s.incarnation r))) (s.settled j && is_replica s j) a)

    less : piece < pieces
    less = lt_is piece pieces (and_left (nat_lt piece pieces) (not (s.cut j (s.known j) r (s.incarnation r)) && (s.settled j && is_replica s j)) h)

    none : (p : Phase) → IsAside p s w j r → Follows s (record { phase = p; facts = w }) → Reached (after_cut s j r pieces piece)
    none p n f = by-none s (after_cut s j r pieces piece) (record { phase = p; facts = w }) f (cut-aside s p w j r pieces piece n f.tied) f.era (bounded-cut s j r pieces piece less f.bounded) (merged-cut s j r pieces piece new f.bounded f.merged)

    seen : (d : Place) → Follows s (record { phase = Unsettled d; facts = w }) → s.member w.era d ≡ r → s.era_of (s.known j) ≡ w.era → Reached (after_cut s j r pieces piece)
    seen d f m e =
        let q = replica_place s j replica in
        let here : s.member w.era q.0 ≡ j = subst (λ k. s.member k q.0 ≡ j) e q.1 in
        let other : same q.0 d ≡ false =
        elim (decide (same q.0 d)) [
          | inr c ↦ c
          | inl c ↦
              let x : s.member w.era d ≡ j = subst (λ k. s.member w.era k ≡ j) (same_is q.0 d c) here in
              apart (s.settled j) settled (subst (λ k. s.settled k ≡ false) x (unsettled_one s w d f.tied (subst (λ k. s.up k ≡ true) (sym x) (replica_up s j replica)) (subst (λ k. s.era_of (s.known k) ≡ w.era) (sym x) e)))
        ]
        in
        let untaken : (k o : ℕ) → s.taken (s.member w.era d) k o ≡ true → is_list s j (s.member w.era d) k (s.known (s.member w.era d)) (s.member w.era d) (s.incarnation (s.member w.era d)) ≡ false = λ k o y.
        elim (decide (is_list s j (s.member w.era d) k (s.known (s.member w.era d)) (s.member w.era d) (s.incarnation (s.member w.era d)))) [
          | inr c ↦ c
          | inl c ↦
              let x = list_parts s j (s.member w.era d) k (s.known (s.member w.era d)) (s.member w.era d) (s.incarnation (s.member w.era d)) c in
              let z : s.cut j (s.known j) (s.member w.era d) (s.incarnation (s.member w.era d)) ≡ true = subst (λ b. s.cut j b (s.member w.era d) (s.incarnation (s.member w.era d)) ≡ true) x.1 (subst (λ b. s.cut b (s.known (s.member w.era d)) (s.member w.era d) (s.incarnation (s.member w.era d)) ≡ true) x.0 (f.bounded.taken (s.member w.era d) k o y)) in
              apart (s.cut j (s.known j) r (s.incarnation r)) (subst (λ b. s.cut j (s.known j) b (s.incarnation b) ≡ true) m z) new
        ]
        in
        subst (λ b. Reached (after_cut s j b pieces piece)) m
        (by-event s (after_cut s j (s.member w.era d) pieces piece) (record { phase = Unsettled d; facts = w }) (Cut q.0 (s.known j)) f
        (tied-cut s w d q.0 j pieces piece f.tied (replica_up s j replica) e here other untaken (subst (λ b. s.cut j (s.known j) b (s.incarnation b) ≡ false) (sym m) new))
        f.era (bounded-cut s j (s.member w.era d) pieces piece less f.bounded) (merged-cut s j (s.member w.era d) pieces piece (subst (λ b. s.cut j (s.known j) b (s.incarnation b) ≡ false) (sym m) new) f.bounded f.merged))

    go : (p : Phase) → Follows s (record { phase = p; facts = w }) → Reached (after_cut s j r pieces piece)
    go Whole f = none Whole tt f
    go (Down d) f = none (Down d) tt f
    go (Unsettled d) f =
        elim (decide (s.member w.era d == r)) [
          | inr c ↦
              none (Unsettled d) (λ k e z.
              elim (decide (is_list s j r k e (s.member w.era d) (s.incarnation (s.member w.era d)))) [
                | inr x ↦ x
                | inl x ↦ apart (s.member w.era d == r) (eq_true (s.member w.era d) r (list_parts s j r k e (s.member w.era d) (s.incarnation (s.member w.era d)) x).2) c
              ]) f
          | inl c ↦
              elim (decide (s.era_of (s.known j) == w.era)) [
                | inl y ↦ seen d f (eq_is (s.member w.era d) r c) (eq_is (s.era_of (s.known j)) w.era y)
                | inr y ↦
                    none (Unsettled d) (λ k e z.
                    elim (decide (is_list s j r k e (s.member w.era d) (s.incarnation (s.member w.era d)))) [
                      | inr x ↦ x
                      | inl x ↦ apart (s.era_of (s.known j) == w.era) (eq_true (s.era_of (s.known j)) w.era (subst (λ b. s.era_of b ≡ w.era) (list_parts s j r k e (s.member w.era d) (s.incarnation (s.member w.era d)) x).1 z)) y
                    ]) f
              ]
        ]

pub follow-piece : (s : Shadow) (p : Phase) (w : Facts) (j r o : ℕ) → Follows s (record { phase = p; facts = w }) → can s (Pieced j r o) ≡ true → Reached (after_piece s j r o)
follow-piece s p w j r o f h = go p f
  where
    cut : s.cut j (s.known r) r (s.incarnation r) ≡ true
    cut = and_left (s.cut j (s.known r) r (s.incarnation r)) (is_replica s r) h

    replica : is_replica s r ≡ true
    replica = and_right (s.cut j (s.known r) r (s.incarnation r)) (is_replica s r) h

    -- it is for another, or of another era, or has nothing of the key
    aside : (p : Phase) → IsOther p s w j r o → Follows s (record { phase = p; facts = w }) → Reached (after_piece s j r o)
    aside p n f =
        elim (decide (o == s.piece j (s.known r) r (s.incarnation r))) [
          | inr c ↦ by-none s (after_piece s j r o) (record { phase = p; facts = w }) f (piece-empty s p w j r o c n f.tied) f.era (bounded-piece s j r o cut f.bounded) (merged-piece s j r o f.merged)
          | inl c ↦
              let q = replica_place s r replica in
              let v = s.list j (s.known r) r (s.incarnation r) in
              let e = Accept (s.era_of (s.known r)) q.0 (s.list j (s.known r) r (s.incarnation r)) in
              by-event s (after_piece s j r o) (record { phase = p; facts = w }) e f
              (piece-aside s p (happens (record { phase = p; facts = w }) e).facts j r o c (states-piece p s w j r o n f.tied.states) (tied-accept s (record { phase = p; facts = w }) r v q.0 f.tied (f.tied.links.least r) (replica_up s r replica) q.1)) f.era (bounded-piece s j r o cut f.bounded) (merged-piece s j r o f.merged)
        ]

    -- it is the one that has the key
    seen : (d i : Place) → Follows s (record { phase = Unsettled d; facts = w }) → s.member w.era d ≡ r → s.era_of (s.known r) ≡ w.era → s.member w.era i ≡ j → (o == s.piece j (s.known r) r (s.incarnation r)) ≡ true → Reached (after_piece s j r o)
    seen d i f m e n c =
        subst (λ b. Reached (after_piece s j r b)) (sym (eq_is o (s.piece j (s.known r) r (s.incarnation r)) c))
        (subst (λ b. Reached (after_piece s j b (s.piece j (s.known b) b (s.incarnation b)))) m
        (by-event s (after_piece s j (s.member w.era d) (s.piece j (s.known (s.member w.era d)) (s.member w.era d) (s.incarnation (s.member w.era d)))) (record { phase = Unsettled d; facts = w }) (State_arrives i (s.known (s.member w.era d))) f
        (tied-piece s w d i j f.tied (subst (λ b. s.up b ≡ true) (sym m) (replica_up s r replica)) (subst (λ b. s.era_of (s.known b) ≡ w.era) (sym m) e) n came) f.era
        (bounded-piece s j (s.member w.era d) (s.piece j (s.known (s.member w.era d)) (s.member w.era d) (s.incarnation (s.member w.era d))) came f.bounded) (merged-piece s j (s.member w.era d) (s.piece j (s.known (s.member w.era d)) (s.member w.era d) (s.incarnation (s.member w.era d))) f.merged)))
      where
        came : s.cut j (s.known (s.member w.era d)) (s.member w.era d) (s.incarnation (s.member w.era d)) ≡ true
        came = subst (λ b. s.cut j (s.known b) b (s.incarnation b) ≡ true) (sym m) cut

    go : (p : Phase) → Follows s (record { phase = p; facts = w }) → Reached (after_piece s j r o)
    go Whole f = aside Whole tt f
    go (Down d) f = aside (Down d) tt f
    go (Unsettled d) f =
        elim (decide (s.member w.era d == r)) [
          | inr c ↦ aside (Unsettled d) (λ i e m n x. apart (s.member w.era d == r) (eq_true (s.member w.era d) r m) c) f
          | inl c ↦
              elim (decide (s.era_of (s.known r) == w.era)) [
                | inr y ↦ aside (Unsettled d) (λ i e m n x. apart (s.era_of (s.known r) == w.era) (eq_true (s.era_of (s.known r)) w.era e) y) f
                | inl y ↦
                    elim (decide (o == s.piece j (s.known r) r (s.incarnation r))) [
                      | inr z ↦ aside (Unsettled d) (λ i e m n x. apart (o == s.piece j (s.known r) r (s.incarnation r)) (eq_true o (s.piece j (s.known r) r (s.incarnation r)) x) z) f
                      | inl z ↦
                          elim (find_place s w.era j) [
                            | inl n ↦ seen d n.0 f (eq_is (s.member w.era d) r c) (eq_is (s.era_of (s.known r)) w.era y) n.1 z
                            | inr n ↦ aside (Unsettled d) (λ i e m k x. n.0 i k) f
                          ]
                    ]
              ]
        ]

pub below : (n : ℕ) (test : ℕ → Bool) (m : ℕ) → all_below n test ≡ true → m < n → test m ≡ true
below zero test m h l = absurd (omega (arith, l))
below (suc n) test m h l =
    let choice : (m ≡ n) ⊎ (m < n) = grind (arith, l) in
    elim choice [
      | inl c ↦ subst (λ k. test k ≡ true) (sym c) (and_left (test n) (all_below n test) h)
      | inr c ↦ below n test m (and_right (test n) (all_below n test) h) c
    ]

pub follow-settle : (s : Shadow) (p : Phase) (w : Facts) (r : ℕ) → Follows s (record { phase = p; facts = w }) → can s (Settled r) ≡ true → Reached (after_settle s r)
follow-settle s p w r f h = go p f
  where
    both : has_both s r (s.era_of (s.known r)) ≡ true
    both = and_left (has_both s r (s.era_of (s.known r))) (is_replica s r) h

    replica : is_replica s r ≡ true
    replica = and_right (has_both s r (s.era_of (s.known r))) (is_replica s r) h

    bounds : (p : Phase) → Follows s (record { phase = p; facts = w }) → Bounded (after_settle s r)
    bounds p f = bounded-less s s.undecided s.before s.answer s.put s.by s.waiting s.ack s.acknowledged s.held s.outlived s.up (after_settle s r).settled s.taken (λ m u. u) f.bounded.put f.bounded.answered f.bounded.taken f.bounded

    aside : (p : Phase) → ((g : ℕ) (q : Place) → goes_by p w g q ≡ true → s.member g q ≡ r → serves p w g q ≡ true) → Follows s (record { phase = p; facts = w }) → Reached (after_settle s r)
    aside p n f = by-none s (after_settle s r) (record { phase = p; facts = w }) f (settle-aside s p w r n f.tied) f.era (bounds p f) f.merged

    other : (q : Place) → has_other s r (s.member (s.era_of (s.known r)) q) ≡ true
    other First = and_left (has_other s r (s.member (s.era_of (s.known r)) First)) (has_other s r (s.member (s.era_of (s.known r)) Second) && has_other s r (s.member (s.era_of (s.known r)) Third)) both
    other Second = and_left (has_other s r (s.member (s.era_of (s.known r)) Second)) (has_other s r (s.member (s.era_of (s.known r)) Third)) (and_right (has_other s r (s.member (s.era_of (s.known r)) First)) (has_other s r (s.member (s.era_of (s.known r)) Second) && has_other s r (s.member (s.era_of (s.known r)) Third)) both)
    other Third = and_right (has_other s r (s.member (s.era_of (s.known r)) Second)) (has_other s r (s.member (s.era_of (s.known r)) Third)) (and_right (has_other s r (s.member (s.era_of (s.known r)) First)) (has_other s r (s.member (s.era_of (s.known r)) Second) && has_other s r (s.member (s.era_of (s.known r)) Third)) both)

    -- the piece that has the key is among those taken
    key : Follows s (record { phase = p; facts = w }) → (j : ℕ) → has_list s r j ≡ true → s.taken r j (s.piece j (s.known r) r (s.incarnation r)) ≡ true
    key f j y =
        let c = and_left (s.cut j (s.known r) r (s.incarnation r)) (all_below (s.pieces j (s.known r) r (s.incarnation r)) (λ o. s.taken r j o)) y in
        below (s.pieces j (s.known r) r (s.incarnation r)) (λ o. s.taken r j o) (s.piece j (s.known r) r (s.incarnation r)) (and_right (s.cut j (s.known r) r (s.incarnation r)) (all_below (s.pieces j (s.known r) r (s.incarnation r)) (λ o. s.taken r j o)) y) (f.bounded.pieces j (s.known r) r (s.incarnation r) c)

    seen : (d : Place) → Follows s (record { phase = Unsettled d; facts = w }) → s.member w.era d ≡ r → s.era_of (s.known r) ≡ w.era → Reached (after_settle s r)
    seen d g m e =
        subst (λ b. Reached (after_settle s b)) m
        (by-event s (after_settle s (s.member w.era d)) (record { phase = Unsettled d; facts = w }) (Settle (s.known (s.member w.era d))) g
        (tied-settle s w d g.tied (subst (λ b. s.up b ≡ true) (sym m) (replica_up s r replica)) (subst (λ b. s.era_of (s.known b) ≡ w.era) (sym m) e)
        (λ q n. subst (λ b. s.taken b (s.member w.era q) (s.piece (s.member w.era q) (s.known b) b (s.incarnation b)) ≡ true) (sym m)
        (elim (or_cases (s.member w.era q == r) (has_list s r (s.member w.era q)) (subst (λ k. has_other s r (s.member k q) ≡ true) e (other q))) [
          | inr c ↦ key f (s.member w.era q) c
          | inl c ↦ apart (same q d) (g.tied.links.distinct w.era q d (omega arith) (eq_is (s.member w.era q) r c ∙ sym m)) n
        ])))
        g.era
        (bounded-less s s.undecided s.before s.answer s.put s.by s.waiting s.ack s.acknowledged s.held s.outlived s.up (after_settle s (s.member w.era d)).settled s.taken (λ n u. u) g.bounded.put g.bounded.answered g.bounded.taken g.bounded) g.merged)

    go : (p : Phase) → Follows s (record { phase = p; facts = w }) → Reached (after_settle s r)
    go Whole f = aside Whole (λ g q z m. and_both (goes_by Whole w g q) (true || not (g == w.era)) z refl) f
    go (Down d) f =
        aside (Down d) (λ g q z m.
        and_both (goes_by (Down d) w g q) (not (same q d) || not (g == w.era)) z
        (elim (goes_cases (Down d) w g q z) [
          | inl c ↦ or_left (not (same q d)) (not (g == w.era)) c.3
          | inr (inl c) ↦ or_right (not (same q d)) (not (g == w.era)) (rw c.0)
          | inr (inr c) ↦ or_right (not (same q d)) (not (g == w.era)) (rw c.0)
        ])) f
    go (Unsettled d) f =
        elim (decide ((s.member w.era d == r) && (s.era_of (s.known r) == w.era))) [
          | inl c ↦ seen d f (eq_is (s.member w.era d) r (and_left (s.member w.era d == r) (s.era_of (s.known r) == w.era) c)) (eq_is (s.era_of (s.known r)) w.era (and_right (s.member w.era d == r) (s.era_of (s.known r) == w.era) c))
          | inr c ↦
              aside (Unsettled d) (λ g q z m.
              and_both (goes_by (Unsettled d) w g q) (not (same q d) || not (g == w.era)) z
              (elim (decide (g == w.era)) [
                | inr y ↦ or_right (not (same q d)) (not (g == w.era)) (rw y)
                | inl y ↦
                    elim (decide (same q d)) [
                      | inr x ↦ or_left (not (same q d)) (not (g == w.era)) (rw x)
                      | inl x ↦
                          let e : s.member w.era d ≡ r = subst (λ k. s.member w.era k ≡ r) (same_is q d x) (subst (λ k. s.member k q ≡ r) (eq_is g w.era y) m) in
                          let o = replica_place s r replica in
                          let n = one_place s (record { phase = Unsettled d; facts = w }) (s.era_of (s.known r)) g o.0 q r f.tied (f.tied.links.least r) o.1 refl z m in
                          apart ((s.member w.era d == r) && (s.era_of (s.known r) == w.era)) (and_both (s.member w.era d == r) (s.era_of (s.known r) == w.era) (eq_true (s.member w.era d) r e) (eq_true (s.era_of (s.known r)) w.era (sym n.0 ∙ eq_is g w.era y))) c
                    ]
              ])) f
        ]
