-- The machine follows changes of the ring, crashes, restarts and stops.
use Rattle.std.proofs.Common.{◌≡◌, ℕ, suc, ◌<◌, ◌≤◌, true, false, not, ◌&&◌, ◌||◌, inl, inr, refl, subst, sym, ap, arith, ◌∙◌}
use Rattle.std.specs.Prelude.{nat_lt, ◌==◌}
use Rattle.am_stays.specs.Places.{Place, First, Second, Third}
use Rattle.am_stays.proofs.Phases.{Phase, Whole}
use Rattle.am_stays.proofs.Machine.{Facts, World, Replace, Crash, Restart, Stop, happens}
use Rattle.am_stays.specs.Shadow.{Shadow, has_place, is_ready, is_calm, drops, after_learn, after_epoch, after_join, after_leave, after_crash, after_rise, after_restart, after_stop}
use Rattle.am_stays.specs.Happenings.{Learned, Joined, Left, Crashed, Restarted, Stopped, era_now, can, done}
use Rattle.am_stays.specs.Claims.{OthersHoldNothing}
use Rattle.am_stays.proofs.Tables.{and_left, and_right, or_cases, not_true, apart, decide, eq_is, eq_refl, lt_is, if_true, if_false}
use Rattle.am_stays.proofs.Tied.{Tied, AreReady, IsNew}
use Rattle.am_stays.proofs.Bounds.{Bounded, is-new, bounded-less, bounded-learn, bounded-epoch, bounded-join, bounded-leave, bounded-rise, bounded-restart, bounded-stop}
use Rattle.am_stays.proofs.Merged.{Merged, merged-forget}
use Rattle.am_stays.proofs.Members.{member_is}
use Rattle.am_stays.proofs.Follows.{Follows, Reached, by-event, by-events, by-none, place_of, no_place}
use Rattle.am_stays.proofs.TiedLearn.{tied-next}
use Rattle.am_stays.proofs.TiedRestarts.{tied-stop}
use Rattle.am_stays.proofs.TiedTurns.{whole, tied-join, tied-leave, tied-fail, tied-return, tied-epoch, tied-rise, tied-fall}

ready_of : (s : Shadow) (era : ℕ) → is_calm s era ≡ true → (q : Place) → is_ready s era q ≡ true
ready_of s era h First = and_left (is_ready s era First) (is_ready s era Second && is_ready s era Third) h
ready_of s era h Second = and_left (is_ready s era Second) (is_ready s era Third) (and_right (is_ready s era First) (is_ready s era Second && is_ready s era Third) h)
ready_of s era h Third = and_right (is_ready s era Second) (is_ready s era Third) (and_right (is_ready s era First) (is_ready s era Second && is_ready s era Third) h)

ready : (s : Shadow) (era : ℕ) → is_calm s era ≡ true → AreReady s era
ready s era h =
    record {
      up = λ q. and_left (s.up (s.member era q)) (s.settled (s.member era q) && (s.era_of (s.known (s.member era q)) == era)) (ready_of s era h q);
      settled = λ q. and_left (s.settled (s.member era q)) (s.era_of (s.known (s.member era q)) == era) (rest q);
      known = λ q. eq_is (s.era_of (s.known (s.member era q))) era (and_right (s.settled (s.member era q)) (s.era_of (s.known (s.member era q)) == era) (rest q));
    }
  where
    rest : (q : Place) → (s.settled (s.member era q) && (s.era_of (s.known (s.member era q)) == era)) ≡ true
    rest q = and_right (s.up (s.member era q)) (s.settled (s.member era q) && (s.era_of (s.known (s.member era q)) == era)) (ready_of s era h q)

ready_now : (s : Shadow) (w : World) → Follows s w → is_calm s (era_now s) ≡ true → AreReady s w.facts.era
ready_now s w f h = subst (λ k. AreReady s k) (sym f.era) (ready s (era_now s) h)

new_now : (s : Shadow) (w : World) → Follows s w → IsNew s w.facts.era (suc s.present)
new_now s w f = subst (λ k. IsNew s k (suc s.present)) (sym f.era) (is-new s f.bounded)

-- the machine is whole there
at-whole : (s : Shadow) (p : Phase) (w : Facts) → Follows s (record { phase = p; facts = w }) → is_calm s (era_now s) ≡ true → Follows s (record { phase = Whole; facts = w })
at-whole s p w f h = subst (λ q. Follows s (record { phase = q; facts = w })) (whole s p w f.tied (ready_now s (record { phase = p; facts = w }) f h)) f

pub follow-learn : (s : Shadow) (w : World) (j : ℕ) → OthersHoldNothing s → Follows s w → can s (Learned j) ≡ true → Reached (after_learn s j)
follow-learn s w j o f h =
    let u : s.up j ≡ true = and_left (s.up j) (nat_lt (s.known j) s.present) h in
    let less : s.known j < s.present = lt_is (s.known j) s.present (and_right (s.up j) (nat_lt (s.known j) s.present) h) in
    let t = tied-next s w.phase w.facts j f.fine f.empty f.tied (λ n. o j u (rw (u, n))) u (subst (λ k. s.era_of (suc (s.known j)) ≤ k) (sym f.era) (f.bounded.eras (suc (s.known j)))) (f.bounded.steps (s.known j) less) in
    by-events s (after_learn s j) w t.0 f t.1 (t.2 ∙ f.era) (bounded-learn s j less f.bounded)
    (merged-forget s j (after_learn s j).known s.incarnation (after_learn s j).held (λ k n. if_false (k == j) (suc (s.known j)) (s.known k) n) (λ k n. refl) (λ k n. if_false ((k == j) && drops s j) 0 (s.held k) (rw n)) f.merged)

pub follow-epoch : (s : Shadow) (w : World) → Follows s w → Reached (after_epoch s (era_now s) (suc s.present))
follow-epoch s w f =
    by-none s (after_epoch s (era_now s) (suc s.present)) w f
    (subst (λ k. Tied (after_epoch s k (suc s.present)) w) f.era (tied-epoch s w.phase w.facts (suc s.present) f.tied (new_now s w f)))
    (f.era ∙ sym (if_true (suc s.present == suc s.present) (era_now s) (s.era_of (suc s.present)) (eq_refl (suc s.present))))
    (bounded-epoch s (era_now s) (inl refl) f.bounded) f.merged

pub follow-join : (s : Shadow) (p : Phase) (w : Facts) (i : ℕ) (r : Place) → Follows s (record { phase = p; facts = w }) → can s (Joined i r) ≡ true → Reached (after_join s (era_now s) r i (suc s.present))
follow-join s p w i r f h =
    let c = and_left (is_calm s (era_now s)) (not (s.up i)) h in
    let g = at-whole s p w f c in
    by-event s (after_join s (era_now s) r i (suc s.present)) (record { phase = Whole; facts = w }) (Replace r true) g
    (subst (λ k. Tied (after_join s k r i (suc s.present)) (happens (record { phase = Whole; facts = w }) (Replace r true))) g.era
    (tied-join s w r i (suc s.present) g.fine g.tied (ready_now s (record { phase = Whole; facts = w }) g c) (new_now s (record { phase = Whole; facts = w }) g) (not_true (s.up i) (and_right (is_calm s (era_now s)) (not (s.up i)) h))))
    (ap suc g.era ∙ sym (if_true (suc s.present == suc s.present) (suc (era_now s)) (s.era_of (suc s.present)) (eq_refl (suc s.present))))
    (bounded-join s r i g.bounded)
    (merged-forget s i (after_join s (era_now s) r i (suc s.present)).known (after_join s (era_now s) r i (suc s.present)).incarnation (after_join s (era_now s) r i (suc s.present)).held (λ k n. if_false (k == i) (suc s.present) (s.known k) n) (λ k n. if_false (k == i) (suc (s.incarnation i)) (s.incarnation k) n) (λ k n. if_false (k == i) 0 (s.held k) n) g.merged)

pub follow-leave : (s : Shadow) (p : Phase) (w : Facts) (i : ℕ) (r : Place) → Follows s (record { phase = p; facts = w }) → can s (Left i r) ≡ true → Reached (after_leave s (era_now s) r i (suc s.present))
follow-leave s p w i r f h =
    let c = and_left (is_calm s (era_now s)) (not (has_place s (era_now s) i)) h in
    let g = at-whole s p w f c in
    let n : (q : Place) → s.member w.era q ≡ i → ⊥ = λ q m. no_place s (era_now s) i (not_true (has_place s (era_now s) i) (and_right (is_calm s (era_now s)) (not (has_place s (era_now s) i)) h)) q (subst (λ k. s.member k q ≡ i) g.era m) in
    by-event s (after_leave s (era_now s) r i (suc s.present)) (record { phase = Whole; facts = w }) (Replace r false) g
    (subst (λ k. Tied (after_leave s k r i (suc s.present)) (happens (record { phase = Whole; facts = w }) (Replace r false))) g.era
    (tied-leave s w r i (suc s.present) g.fine g.tied (ready_now s (record { phase = Whole; facts = w }) g c) (new_now s (record { phase = Whole; facts = w }) g) n))
    (ap suc g.era ∙ sym (if_true (suc s.present == suc s.present) (suc (era_now s)) (s.era_of (suc s.present)) (eq_refl (suc s.present))))
    (bounded-leave s r i g.bounded) g.merged

bounded-crash : (s : Shadow) (j : ℕ) → Bounded s → Bounded (after_crash s j)
bounded-crash s j b =
    bounded-less s s.undecided s.before s.answer s.put s.by s.waiting s.ack s.acknowledged (after_crash s j).held s.outlived (after_crash s j).up (after_crash s j).settled (after_crash s j).taken (λ n u. u) b.put b.answered (λ k l o h. b.taken k l o (and_right (not (k == j)) (s.taken k l o) h)) b

merged-crash : (s : Shadow) (j : ℕ) → Merged s → Merged (after_crash s j)
merged-crash s j m = merged-forget s j s.known s.incarnation (after_crash s j).held (λ k n. refl) (λ k n. refl) (λ k n. if_false (k == j) 0 (s.held k) n) m

merged-back : (s : Shadow) (j : ℕ) → Merged s → Merged (after_rise s j s.present)
merged-back s j m = merged-forget s j (after_rise s j s.present).known (after_rise s j s.present).incarnation (after_rise s j s.present).held (λ k n. if_false (k == j) s.present (s.known k) n) (λ k n. if_false (k == j) (suc (s.incarnation j)) (s.incarnation k) n) (λ k n. if_false (k == j) 0 (s.held k) n) m

pub follow-crash : (s : Shadow) (p : Phase) (w : Facts) (j : ℕ) → Follows s (record { phase = p; facts = w }) → can s (Crashed j) ≡ true → Reached (after_crash s j)
follow-crash s p w j f h =
    elim (decide (has_place s (era_now s) j)) [
      | inr c ↦ other c
      | inl c ↦
          elim (or_cases (is_calm s (era_now s)) (not (has_place s (era_now s) j)) (and_right (s.up j) (is_calm s (era_now s) || not (has_place s (era_now s) j)) h)) [
            | inl a ↦ one (place_of s (era_now s) j c) a
            | inr a ↦ apart (has_place s (era_now s) j) c (not_true (has_place s (era_now s) j) a)
          ]
    ]
  where
    one : (q : Place) × (s.member (era_now s) q ≡ j) → is_calm s (era_now s) ≡ true → Reached (after_crash s j)
    one q a =
        let g = at-whole s p w f a in
        let m : s.member w.era q.0 ≡ j = subst (λ k. s.member k q.0 ≡ j) (sym g.era) q.1 in
        by-event s (after_crash s j) (record { phase = Whole; facts = w }) (Crash q.0) g
        (subst (λ k. Tied (after_crash s k) (happens (record { phase = Whole; facts = w }) (Crash q.0))) m (tied-fail s w q.0 g.fine g.tied (ready_now s (record { phase = Whole; facts = w }) g a)))
        g.era (bounded-crash s j g.bounded) (merged-crash s j g.merged)

    other : has_place s (era_now s) j ≡ false → Reached (after_crash s j)
    other c =
        let t = tied-fall s p w j f.tied (and_left (s.up j) (is_calm s (era_now s) || not (has_place s (era_now s) j)) h) (λ q m. no_place s (era_now s) j c q (subst (λ k. s.member k q ≡ j) f.era m)) in
        by-events s (after_crash s j) (record { phase = p; facts = w }) t.0 f t.1 (t.2 ∙ f.era) (bounded-crash s j f.bounded) (merged-crash s j f.merged)

pub follow-restart : (s : Shadow) (p : Phase) (w : Facts) (j : ℕ) → Follows s (record { phase = p; facts = w }) → can s (Restarted j) ≡ true → Reached (done s (Restarted j))
follow-restart s p w j f h =
    elim (decide (has_place s (era_now s) j)) [
      | inl c ↦ subst (λ k. Reached k) (sym (if_true (has_place s (era_now s) j) (after_restart s j s.present) (after_rise s j s.present) c)) (one (place_of s (era_now s) j c))
      | inr c ↦ subst (λ k. Reached k) (sym (if_false (has_place s (era_now s) j) (after_restart s j s.present) (after_rise s j s.present) c)) (other c)
    ]
  where
    down : s.up j ≡ false
    down = not_true (s.up j) h

    one : (q : Place) × (s.member (era_now s) q ≡ j) → Reached (after_restart s j s.present)
    one q =
        let m : s.member w.era q.0 ≡ j = subst (λ k. s.member k q.0 ≡ j) (sym f.era) q.1 in
        by-event s (after_restart s j s.present) (record { phase = p; facts = w }) Restart f
        (subst (λ k. Tied (after_restart s k s.present) (happens (record { phase = p; facts = w }) Restart)) m
        (tied-return s p w q.0 s.present (after_restart s j s.present).undecided (after_restart s j s.present).waiting f.fine f.tied (subst (λ k. s.up k ≡ false) (sym m) down) (sym f.era)
        (λ k e.
        elim (decide (s.cut k e (s.member w.era q.0) (suc (s.incarnation (s.member w.era q.0))))) [
          | inr c ↦ c
          | inl c ↦ absurd (omega (arith, f.bounded.incarnations k e (s.member w.era q.0) (suc (s.incarnation (s.member w.era q.0))) c))
        ])
        (λ n u.
        let a = and_right (not (s.era_of (s.epoch n) == era_now s)) (s.undecided n) u in
        (a, ap (λ k. k == w.era) (f.tied.asking.request_era n (f.bounded.asked n a)) ∙ (ap (λ k. s.era_of (s.epoch n) == k) f.era ∙ not_true (s.era_of (s.epoch n) == era_now s) (and_left (not (s.era_of (s.epoch n) == era_now s)) (s.undecided n) u))))
        (λ x u.
        let a = and_right (not (s.era_of (s.epoch (s.by x)) == era_now s)) (s.waiting x) u in
        (a, ap (λ k. k == w.era) (f.tied.writing.write_era x (f.bounded.put x a)) ∙ (ap (λ k. s.era_of (s.epoch (s.by x)) == k) f.era ∙ not_true (s.era_of (s.epoch (s.by x)) == era_now s) (and_left (not (s.era_of (s.epoch (s.by x)) == era_now s)) (s.waiting x) u))))))
        f.era (bounded-restart s j f.bounded) (merged-back s j f.merged)

    other : has_place s (era_now s) j ≡ false → Reached (after_rise s j s.present)
    other c =
        by-none s (after_rise s j s.present) (record { phase = p; facts = w }) f
        (tied-rise s p w j s.present f.tied down (sym f.era) (λ q m. no_place s (era_now s) j c q (subst (λ k. s.member k q ≡ j) f.era m)))
        f.era (bounded-rise s j f.bounded) (merged-back s j f.merged)

pub follow-stop : (s : Shadow) (p : Phase) (w : Facts) → Follows s (record { phase = p; facts = w }) → can s Stopped ≡ true → Reached (after_stop s (era_now s) (suc s.present))
follow-stop s p w f h =
    let g = at-whole s p w f h in
    let t = after_stop s w.era (suc s.present) in
    by-event s (after_stop s (era_now s) (suc s.present)) (record { phase = Whole; facts = w }) Stop g
    (subst (λ k. Tied (after_stop s k (suc s.present)) (happens (record { phase = Whole; facts = w }) Stop)) g.era
    (tied-stop s w (suc s.present) (λ k. suc (s.incarnation k)) t.held (λ k. true) t.settled (λ n. false) (λ x. false) (λ k l o. false) g.fine g.tied (new_now s (record { phase = Whole; facts = w }) g).asked (λ q. refl)
    (λ q. if_true (has_place s w.era (s.member w.era q)) (s.held (s.member w.era q)) 0 (member_is (s.member w.era) q)) (λ n. refl) (λ x. refl)))
    (g.era ∙ sym (if_true (suc s.present == suc s.present) (era_now s) (s.era_of (suc s.present)) (eq_refl (suc s.present))))
    (bounded-stop s g.bounded) (λ r l y. apart false y refl)
