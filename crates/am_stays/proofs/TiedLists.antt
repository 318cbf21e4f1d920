-- The machine does what the cluster does, while one settles.
use Rattle.std.proofs.Common.{◌≡◌, ℕ, suc, max, Bool, true, false, not, ◌&&◌, ◌||◌, if◌then◌else◌, inl, inr, refl, subst, sym, ap, arith, ◌∙◌}
use Rattle.std.specs.Prelude.{◌==◌}
use Rattle.am_stays.specs.Places.{Place, First, Second, Third, same}
use Rattle.am_stays.proofs.Phases.{next, last, Whole, Unsettled}
use Rattle.am_stays.proofs.Machine.{Facts, World, Cut, State_arrives, Settle, goes_by, stays, best_of, holds, may_cut, may_come, happens}
use Rattle.am_stays.specs.Shadow.{Shadow, is_list, after_cut, after_piece, after_settle}
use Rattle.am_stays.proofs.Tied.{Tied}
use Rattle.am_stays.proofs.Tables.{and_left, and_right, or_cases, or_left, or_right, apart, decide, same_is, eq_is, eq_refl, eq_true, if_true, if_false, and_both, and_false}
use Rattle.am_stays.proofs.Events.{goes_cases, best-here}
use Rattle.am_stays.proofs.TiedRequests.{there, marked}
use Rattle.am_stays.proofs.TiedItems.{held-holds}

at : Place → Facts → World
at r w = record { phase = Unsettled r; facts = w }

knows_now : (r : Place) (w : Facts) (i : Place) → goes_by (Unsettled r) w w.era i ≡ true → w.knows i ≡ true
knows_now r w i h = elim (goes_cases (Unsettled r) w w.era i h) [ inl c ↦ c.2 | inr (inl c) ↦ absurd (omega (arith, c.1)) | inr (inr c) ↦ absurd (omega (arith, c.2)) ]

-- places of the present era are told apart by their instances
place_test : (s : Shadow) (w : World) (i k : Place) (j : ℕ) → Tied s w → s.member w.facts.era i ≡ j → same k i ≡ (s.member w.facts.era k == j)
place_test s w i k j d m =
    elim (decide (same k i)) [
      | inl a ↦ a ∙ sym (eq_true (s.member w.facts.era k) j (subst (λ b. s.member w.facts.era b ≡ j) (sym (same_is k i a)) m))
      | inr a ↦
          elim (decide (s.member w.facts.era k == j)) [
            | inl b ↦ apart (same k i) (d.links.distinct w.facts.era k i (omega arith) (eq_is (s.member w.facts.era k) j b ∙ sym m)) a
            | inr b ↦ a ∙ sym b
          ]
    ]

-- j, at place i, cuts its list for the present incarnation of the unsettled one
pub tied-cut : (s : Shadow) (w : Facts) (r i : Place) (j pieces piece : ℕ) → Tied s (record { phase = Unsettled r; facts = w }) → s.up j ≡ true → s.era_of (s.known j) ≡ w.era → s.member w.era i ≡ j → same i r ≡ false → ((k o : ℕ) → s.taken (s.member w.era r) k o ≡ true → is_list s j (s.member w.era r) k (s.known (s.member w.era r)) (s.member w.era r) (s.incarnation (s.member w.era r)) ≡ false) → s.cut j (s.known j) (s.member w.era r) (s.incarnation (s.member w.era r)) ≡ false → Tied (after_cut s j (s.member w.era r) pieces piece) (happens (record { phase = Unsettled r; facts = w }) (Cut i (s.known j)))
tied-cut s w r i j pieces piece d u g m n unlisted new =
    record {
      links = d.links;
      held = d.held;
      settles = d.settles;
      outlived = d.outlived;
      asking = d.asking;
      writing = d.writing;
      states = (
        λ k f z. marked t (same k i && (f == e)) (w.sent k f) t_true ∙ (ap (λ b. b || w.sent k f) (test k f) ∙ ap (λ b. is_list s j R (s.member w.era k) f R (s.incarnation R) || b) (d.states.0 k f z)),
        λ k f z y. lists_ k f z y,
        λ k o z x y.
            let old : is_list s j R (s.member w.era k) (s.known R) R (s.incarnation R) ≡ false = unlisted (s.member w.era k) o y in
            d.states.2 k o z (x ∙ if_false (is_list s j R (s.member w.era k) (s.known R) R (s.incarnation R)) piece (s.piece (s.member w.era k) (s.known R) R (s.incarnation R)) old) y,
        λ k f y.
            elim (or_cases (may_cut (Unsettled r) w i e && (same k i && (f == e))) (w.sent k f) y) [
              | inl c ↦ or_left (is_list s j R (s.member w.era k) f R (s.incarnation R)) (s.cut (s.member w.era k) f R (s.incarnation R)) (sym (test k f) ∙ and_right (may_cut (Unsettled r) w i e) (same k i && (f == e)) c)
              | inr c ↦ or_right (is_list s j R (s.member w.era k) f R (s.incarnation R)) (s.cut (s.member w.era k) f R (s.incarnation R)) (d.states.3 k f c)
            ],
      );
    }
  where
    R : ℕ
    R = s.member w.era r

    e : ℕ
    e = s.known j

    w2 : Facts
    w2 = (happens (record { phase = Unsettled r; facts = w }) (Cut i (s.known j))).facts

    on : goes_by (Unsettled r) w w.era i ≡ true
    on = there s (record { phase = Unsettled r; facts = w }) w.era i j d (omega arith) m u g

    t : Bool
    t = may_cut (Unsettled r) w i e

    t_true : may_cut (Unsettled r) w i e ≡ true
    t_true = and_both (w.knows i) (not (same i r) && not (w.sent i e)) (knows_now r w i on) (and_both (not (same i r)) (not (w.sent i e)) (rw n) (rw (d.states.0 i e g ∙ (ap (λ b. s.cut b e R (s.incarnation R)) m ∙ new))))

    test : (k : Place) (f : ℕ) → (same k i && (f == e)) ≡ is_list s j R (s.member w.era k) f R (s.incarnation R)
    test k f = rw (place_test s (record { phase = Unsettled r; facts = w }) i k j d m, eq_refl R, eq_refl (s.incarnation R)) (ends (s.member w.era k == j) (f == e))
      where
        ends : (a b : Bool) → (a && b) ≡ (a && (b && (true && true)))
        ends true true = refl
        ends true false = refl
        ends false b = refl

    lists_ : (k : Place) (f : ℕ) → s.era_of f ≡ w.era → w2.sent k f ≡ true → w2.list k f ≡ (after_cut s j R pieces piece).list (s.member w.era k) f R (s.incarnation R)
    lists_ k f z y =
        elim (decide (same k i && (f == e))) [
          | inl c ↦
              let a : s.held j ≡ w.best i = ap s.held (sym m) ∙ (d.held w.era i on ∙ best-here w w.era i (or_left (w.era == w.era) (not (same i (w.changed (suc w.era)))) (eq_refl w.era))) in
              if_true (may_cut (Unsettled r) w i e && (same k i && (f == e))) (w.best k) (w.list k f) (and_both (may_cut (Unsettled r) w i e) (same k i && (f == e)) t_true c)
              ∙ (ap w.best (same_is k i (and_left (same k i) (f == e) c)) ∙ (sym a ∙ sym (if_true (is_list s j R (s.member w.era k) f R (s.incarnation R)) (s.held j) (s.list (s.member w.era k) f R (s.incarnation R)) (sym (test k f) ∙ c))))
          | inr c ↦
              let old : w.sent k f ≡ true = elim (or_cases (may_cut (Unsettled r) w i e && (same k i && (f == e))) (w.sent k f) y) [ inl b ↦ apart (same k i && (f == e)) (and_right (may_cut (Unsettled r) w i e) (same k i && (f == e)) b) c | inr b ↦ b ] in
              if_false (may_cut (Unsettled r) w i e && (same k i && (f == e))) (w.best k) (w.list k f) (and_false (may_cut (Unsettled r) w i e) (same k i && (f == e)) c)
              ∙ (d.states.1 k f z old ∙ sym (if_false (is_list s j R (s.member w.era k) f R (s.incarnation R)) (s.held j) (s.list (s.member w.era k) f R (s.incarnation R)) (sym (test k f) ∙ c)))
        ]

next_other : (r : Place) → same (next r) r ≡ false
next_other First = refl
next_other Second = refl
next_other Third = refl

last_other : (r : Place) → same (last r) r ≡ false
last_other First = refl
last_other Second = refl
last_other Third = refl

-- the unsettled one settles
pub tied-settle : (s : Shadow) (w : Facts) (r : Place) → Tied s (record { phase = Unsettled r; facts = w }) → s.up (s.member w.era r) ≡ true → s.era_of (s.known (s.member w.era r)) ≡ w.era → ((q : Place) → same q r ≡ false → s.taken (s.member w.era r) (s.member w.era q) (s.piece (s.member w.era q) (s.known (s.member w.era r)) (s.member w.era r) (s.incarnation (s.member w.era r))) ≡ true) → Tied (after_settle s (s.member w.era r)) (happens (record { phase = Unsettled r; facts = w }) (Settle (s.known (s.member w.era r))))
tied-settle s w r d u g a = subst (λ p. Tied (after_settle s R) (record { phase = p; facts = w })) (sym whole) tied
  where
    R : ℕ
    R = s.member w.era r

    e : ℕ
    e = s.known R

    on : goes_by (Unsettled r) w w.era r ≡ true
    on = there s (record { phase = Unsettled r; facts = w }) w.era r R d (omega arith) refl u g

    whole : (if w.knows r && (w.took (next r) e && w.took (last r) e) then Whole else Unsettled r) ≡ Whole
    whole = if_true (w.knows r && (w.took (next r) e && w.took (last r) e)) Whole (Unsettled r) (and_both (w.knows r) (w.took (next r) e && w.took (last r) e) (knows_now r w r on) (and_both (w.took (next r) e) (w.took (last r) e) (d.states.2 (next r) (s.piece (s.member w.era (next r)) e R (s.incarnation R)) g refl (a (next r) (next_other r))) (d.states.2 (last r) (s.piece (s.member w.era (last r)) e R (s.incarnation R)) g refl (a (last r) (last_other r)))))

    tied : Tied (after_settle s R) (record { phase = Whole; facts = w })
    tied =
        record {
          links = record { least = d.links.least; ripe = d.links.ripe; stays = d.links.stays; news = d.links.news; distinct = d.links.distinct; knows = d.links.knows; lingers = d.links.lingers; here = d.links.here; waits = d.links.waits };
          held = d.held;
          settles = λ h q z y. and_both (goes_by Whole w h q) (true || not (h == w.era)) z refl;
          outlived = d.outlived;
          asking = d.asking;
          writing = d.writing;
          states = tt;
        }

-- the piece of j's list that has the key comes to the unsettled one
pub tied-piece : (s : Shadow) (w : Facts) (r i : Place) (j : ℕ) → Tied s (record { phase = Unsettled r; facts = w }) → s.up (s.member w.era r) ≡ true → s.era_of (s.known (s.member w.era r)) ≡ w.era → s.member w.era i ≡ j → s.cut j (s.known (s.member w.era r)) (s.member w.era r) (s.incarnation (s.member w.era r)) ≡ true → Tied (after_piece s j (s.member w.era r) (s.piece j (s.known (s.member w.era r)) (s.member w.era r) (s.incarnation (s.member w.era r)))) (happens (record { phase = Unsettled r; facts = w }) (State_arrives i (s.known (s.member w.era r))))
tied-piece s w r i j d u g m came =
    record {
      links = d.links;
      held = λ h q z. ap (λ b. if b && (s.member h q == R) then max (s.held R) v else s.held (s.member h q)) (eq_refl P) ∙ (held-holds s W w.era r R v d (omega arith) refl g on h q z ∙ same_best h q);
      settles = d.settles;
      outlived = d.outlived;
      asking = d.asking;
      writing = d.writing;
      states = (
        d.states.0,
        d.states.1,
        λ k o z x y.
            elim (or_cases ((R == R) && ((s.member w.era k == j) && (o == P))) (s.taken R (s.member w.era k) o) y) [
              | inl c ↦
                  let p : same k i ≡ true = place_test s W i k j d m ∙ and_left (s.member w.era k == j) (o == P) (and_right (R == R) ((s.member w.era k == j) && (o == P)) c) in
                  or_left (may_come (Unsettled r) w i e && (same k i && (e == e))) (w.took k e) (and_both (may_come (Unsettled r) w i e) (same k i && (e == e)) t_true (and_both (same k i) (e == e) p (eq_refl e)))
              | inr c ↦ or_right (may_come (Unsettled r) w i e && (same k i && (e == e))) (w.took k e) (d.states.2 k o z x c)
            ],
        d.states.3,
      );
    }
  where
    W : World
    W = record { phase = Unsettled r; facts = w }

    R : ℕ
    R = s.member w.era r

    e : ℕ
    e = s.known R

    P : ℕ
    P = s.piece j e R (s.incarnation R)

    v : ℕ
    v = s.list j e R (s.incarnation R)

    w2 : Facts
    w2 = (happens (record { phase = Unsettled r; facts = w }) (State_arrives i (s.known (s.member w.era r)))).facts

    on : goes_by (Unsettled r) w w.era r ≡ true
    on = there s W w.era r R d (omega arith) refl u g

    cut_ : w.sent i e ≡ true
    cut_ = d.states.0 i e g ∙ (ap (λ b. s.cut b e R (s.incarnation R)) m ∙ came)

    v_is : v ≡ w.list i e
    v_is = ap (λ b. s.list b e R (s.incarnation R)) (sym m) ∙ sym (d.states.1 i e g cut_)

    t_true : may_come (Unsettled r) w i e ≡ true
    t_true = and_both (w.knows r) (w.sent i e) (knows_now r w r on) cut_

    here : stays w w.era r ≡ true
    here = or_left (w.era == w.era) (not (same r (w.changed (suc w.era)))) (eq_refl w.era)

    -- taking the list is accepting what stood in it
    same_best : (h : ℕ) (q : Place) → best_of (holds w true w.era r v) h q ≡ best_of w2 h q
    same_best h q =
        elim (decide (stays w h q)) [
          | inl c ↦
              if_true (stays w h q) ((holds w true w.era r v).best q) ((holds w true w.era r v).old (suc h)) c
              ∙ (bests q ∙ sym (if_true (stays w h q) (w2.best q) (w2.old (suc h)) c))
          | inr c ↦
              if_false (stays w h q) ((holds w true w.era r v).best q) ((holds w true w.era r v).old (suc h)) c
              ∙ (olds (suc h) ∙ sym (if_false (stays w h q) (w2.best q) (w2.old (suc h)) c))
        ]
      where
        bests : (q : Place) → (holds w true w.era r v).best q ≡ w2.best q
        bests q =
            elim (decide (same q r)) [
              | inl c ↦
                  if_true (stays w w.era r && same q r) (max (w.best q) v) (w.best q) (and_both (stays w w.era r) (same q r) here c)
                  ∙ (ap (λ b. max (w.best q) b) v_is ∙ sym (if_true (may_come (Unsettled r) w i e && same q r) (max (w.best q) (w.list i e)) (w.best q) (and_both (may_come (Unsettled r) w i e) (same q r) t_true c)))
              | inr c ↦
                  if_false (stays w w.era r && same q r) (max (w.best q) v) (w.best q) (and_false (stays w w.era r) (same q r) c)
                  ∙ sym (if_false (may_come (Unsettled r) w i e && same q r) (max (w.best q) (w.list i e)) (w.best q) (and_false (may_come (Unsettled r) w i e) (same q r) c))
            ]

        olds : (h : ℕ) → (holds w true w.era r v).old h ≡ w2.old h
        olds h = if_false (not (stays w w.era r) && (h == suc w.era)) (max (w.old h) v) (w.old h) (rw here)
