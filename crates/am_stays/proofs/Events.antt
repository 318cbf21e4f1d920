-- Each event keeps both kinds of facts.
use Rattle.std.proofs.Common.{◌≡◌, ℕ, suc, ◌<◌, ◌≤◌, Bool, true, false, not, ◌&&◌, ◌||◌, if◌then◌else◌, ◌⊎◌, inl, inr, refl, subst, sym, arith}
use Rattle.std.specs.Prelude.{nat_lt, ◌==◌}
use Rattle.am_stays.specs.Places.{Place, same}
use Rattle.am_stays.proofs.Phases.{next, last, Phase, Whole, Down, Unsettled, is_whole, is_up, is_settled}
use Rattle.am_stays.proofs.Machine.{Facts, Event, Request, Get_arrives, Write, Put_arrives, Reply, Close, Refuse, Accept, Retire, Cut, State_arrives, Settle, Learn, Drop_out, Crash, Restart, Replace, Stop, goes_by, serves, stays, best_of, holds, retires, may_write, may_reply, may_cut, may_come, facts_after, phase_after}
use Rattle.am_stays.proofs.Tables.{and_left, and_right, or_cases, or_left, or_right, not_true, apart, same_is, same_refl, eq_is, lt_is, not_eq, three, eq_true, if_true, if_false, if_Bool, and_both, grown-more, grown-has, grown_old-more, grown_old-has, retired-kept, retired_old-kept, gone-less, gone-above}
use Rattle.am_stays.proofs.Invariants.{Sound, Good, Missed}
use Rattle.am_stays.proofs.Sounds.{all_know, sound-same, sound-said, sound-put, sound-request, sound-write, sound-cut, sound-merge, sound-learn, sound-crash, sound-restart, sound-settle, sound-replace}
use Rattle.am_stays.proofs.Holders.{held-pair, missed-from, missed-has, unknown_settled}
use Rattle.am_stays.proofs.GoodOperations.{good-more, good-less, good-request, good-said, good-write, good-acks, good-reply, good-cut, good-merge}
use Rattle.am_stays.proofs.GoodTurns.{good-settle, good-learn, good-crash, good-restart, good-replace}

-- who goes by era g: it is the present one and i knows it, or i lost its place when g ended, or g is the one before and i has not learned the next
abbrev pub Now : Phase → Facts → ℕ → Place → Type 0
Now p w g i = ((g == w.era) ≡ true) × (g ≡ w.era) × (w.knows i ≡ true) × (is_up p i ≡ true)

abbrev pub Lost : Phase → Facts → ℕ → Place → Type 0
Lost p w g i = ((g == w.era) ≡ false) × (g < w.era) × (same i (w.changed (suc g)) ≡ true) × (w.lingers (suc g) ≡ true)

abbrev pub Stays : Phase → Facts → ℕ → Place → Type 0
Stays p w g i = ((g == w.era) ≡ false) × (same i (w.changed (suc g)) ≡ false) × (suc g ≡ w.era) × (w.knows i ≡ false)

pub goes_cases : (p : Phase) (w : Facts) (g : ℕ) (i : Place) → goes_by p w g i ≡ true → Now p w g i ⊎ (Lost p w g i ⊎ Stays p w g i)
goes_cases p w g i h =
    elim (if_Bool (g == w.era) (w.knows i && is_up p i) (nat_lt g w.era && (if same i (w.changed (suc g)) then w.lingers (suc g) else (suc g == w.era) && not (w.knows i))) h) [
      | inl a ↦ inl (a.0, eq_is g w.era a.0, and_left (w.knows i) (is_up p i) a.1, and_right (w.knows i) (is_up p i) a.1)
      | inr a ↦
          elim (if_Bool (same i (w.changed (suc g))) (w.lingers (suc g)) ((suc g == w.era) && not (w.knows i)) (and_right (nat_lt g w.era) (if same i (w.changed (suc g)) then w.lingers (suc g) else (suc g == w.era) && not (w.knows i)) a.1)) [
            | inl b ↦ inr (inl (a.0, lt_is g w.era (and_left (nat_lt g w.era) (if same i (w.changed (suc g)) then w.lingers (suc g) else (suc g == w.era) && not (w.knows i)) a.1), b.0, b.1))
            | inr b ↦ inr (inr (a.0, b.0, eq_is (suc g) w.era (and_left (suc g == w.era) (not (w.knows i)) b.1), not_true (w.knows i) (and_right (suc g == w.era) (not (w.knows i)) b.1)))
          ]
    ]

pub serves_goes : (p : Phase) (w : Facts) (g : ℕ) (i : Place) → serves p w g i ≡ true → goes_by p w g i ≡ true
serves_goes p w g i h = and_left (goes_by p w g i) (is_settled p i || not (g == w.era)) h

pub serves_settled : (p : Phase) (w : Facts) (g : ℕ) (i : Place) → serves p w g i ≡ true → (g == w.era) ≡ true → is_settled p i ≡ true
serves_settled p w g i h e =
    elim (or_cases (is_settled p i) (not (g == w.era)) (and_right (goes_by p w g i) (is_settled p i || not (g == w.era)) h)) [
      | inl a ↦ a
      | inr a ↦ apart (g == w.era) e (not_true (g == w.era) a)
    ]

pub goes-now : (p : Phase) (w : Facts) (g : ℕ) (i : Place) → (g == w.era) ≡ true → goes_by p w g i ≡ (w.knows i && is_up p i)
goes-now p w g i e = if_true (g == w.era) (w.knows i && is_up p i) (nat_lt g w.era && (if same i (w.changed (suc g)) then w.lingers (suc g) else (suc g == w.era) && not (w.knows i))) e

pub goes-past : (p : Phase) (w : Facts) (g : ℕ) (i : Place) → (g == w.era) ≡ false → goes_by p w g i ≡ (nat_lt g w.era && (if same i (w.changed (suc g)) then w.lingers (suc g) else (suc g == w.era) && not (w.knows i)))
goes-past p w g i e = if_false (g == w.era) (w.knows i && is_up p i) (nat_lt g w.era && (if same i (w.changed (suc g)) then w.lingers (suc g) else (suc g == w.era) && not (w.knows i))) e

pub best-here : (w : Facts) (g : ℕ) (i : Place) → stays w g i ≡ true → best_of w g i ≡ w.best i
best-here w g i e = if_true (stays w g i) (w.best i) (w.old (suc g)) e

pub best-left : (w : Facts) (g : ℕ) (i : Place) → stays w g i ≡ false → best_of w g i ≡ w.old (suc g)
best-left w g i e = if_false (stays w g i) (w.best i) (w.old (suc g)) e

stays_now : (w : Facts) (g : ℕ) (i : Place) → (g == w.era) ≡ true → stays w g i ≡ true
stays_now w g i e = or_left (g == w.era) (not (same i (w.changed (suc g)))) e

stays_kept : (w : Facts) (g : ℕ) (i : Place) → same i (w.changed (suc g)) ≡ false → stays w g i ≡ true
stays_kept w g i e = or_right (g == w.era) (not (same i (w.changed (suc g)))) (rw e)

stays_lost : (w : Facts) (g : ℕ) (i : Place) → (g == w.era) ≡ false → same i (w.changed (suc g)) ≡ true → stays w g i ≡ false
stays_lost w g i e f = rw (e, f)

pub best_now : (w : Facts) (g : ℕ) (i : Place) → (g == w.era) ≡ true → best_of w g i ≡ w.best i
best_now w g i e = best-here w g i (stays_now w g i e)

pub best_stays : (w : Facts) (g : ℕ) (i : Place) → same i (w.changed (suc g)) ≡ false → best_of w g i ≡ w.best i
best_stays w g i e = best-here w g i (stays_kept w g i e)

pub best_old : (w : Facts) (g : ℕ) (i : Place) → (g == w.era) ≡ false → same i (w.changed (suc g)) ≡ true → best_of w g i ≡ w.old (suc g)
best_old w g i e f = best-left w g i (stays_lost w g i e f)

decide_parts : (w : Facts) (n x : ℕ) (s : Place) (v u : ℕ) → may_write w n x s v u ≡ true → (w.answer n (next s) v ≡ true) × (w.answer n (last s) u ≡ true) × (w.put x ≡ false)
decide_parts w n x s v u h =
    let b = and_right (w.undecided n) (w.answer n (next s) v && (w.answer n (last s) u && not (w.put x))) h in
    let c = and_right (w.answer n (next s) v) (w.answer n (last s) u && not (w.put x)) b in
    (and_left (w.answer n (next s) v) (w.answer n (last s) u && not (w.put x)) b, and_left (w.answer n (last s) u) (not (w.put x)) c, not_true (w.put x) (and_right (w.answer n (last s) u) (not (w.put x)) c))

reply_parts : (w : Facts) (x : ℕ) (s : Place) → may_reply w x s ≡ true → (w.waiting x ≡ true) × (w.ack x (next s) ≡ true) × (w.ack x (last s) ≡ true)
reply_parts w x s h =
    let b = and_right (w.waiting x) (w.ack x (next s) && w.ack x (last s)) h in
    (and_left (w.waiting x) (w.ack x (next s) && w.ack x (last s)) h, and_left (w.ack x (next s)) (w.ack x (last s)) b, and_right (w.ack x (next s)) (w.ack x (last s)) b)

send_parts : (p : Phase) (w : Facts) (i : Place) (e : ℕ) → may_cut p w i e ≡ true → (w.knows i ≡ true) × (w.sent i e ≡ false)
send_parts p w i e h =
    let b = and_right (w.knows i) (is_settled p i && not (w.sent i e)) h in
    (and_left (w.knows i) (is_settled p i && not (w.sent i e)) h, not_true (w.sent i e) (and_right (is_settled p i) (not (w.sent i e)) b))

comes_parts : (p : Phase) (w : Facts) (i : Place) (e : ℕ) → may_come p w i e ≡ true → w.sent i e ≡ true
comes_parts Whole w i e h = apart false h refl
comes_parts (Down r) w i e h = apart false h refl
comes_parts (Unsettled r) w i e h = and_right (w.knows r) (w.sent i e) h

-- two answered requests of the present era: all who kept their place know it
pub two_spoke : (p : Phase) (w : Facts) (n o : ℕ) (s : Place) (v u : ℕ) → Sound p w → w.request_era n ≡ w.era → w.request_era o ≡ w.era → w.answer n (next s) v ≡ true → w.answer o (last s) u ≡ true → (i : Place) → same i (w.changed w.era) ≡ false → w.knows i ≡ true
two_spoke p w n o s v u d e c f h i k =
    three (λ q. same q (w.changed w.era) ≡ false → w.knows q ≡ true) s i
    (λ z. three (λ q. (w.changed w.era ≡ q) → w.knows s ≡ true) s (w.changed w.era)
    (λ y. apart (same s (w.changed w.era)) (subst (λ q. same s q ≡ true) (sym y) (same_refl s)) z)
    (λ y. d.spoke n (next s) v e f s (or_right (same s (next s)) (same (next s) (w.changed w.era)) (subst (λ q. same (next s) q ≡ true) (sym y) (same_refl (next s)))))
    (λ y. d.spoke o (last s) u c h s (or_right (same s (last s)) (same (last s) (w.changed w.era)) (subst (λ q. same (last s) q ≡ true) (sym y) (same_refl (last s)))))
    refl)
    (λ z. d.spoke n (next s) v e f (next s) (or_left (same (next s) (next s)) (same (next s) (w.changed w.era)) (same_refl (next s))))
    (λ z. d.spoke o (last s) u c h (last s) (or_left (same (last s) (last s)) (same (last s) (w.changed w.era)) (same_refl (last s))))
    k

pub sound-after : (p : Phase) (w : Facts) (e : Event) → Sound p w → Sound (phase_after p w e) (facts_after p w e)
sound-after p w (Request n lag) d = sound-request p w n lag d
sound-after p w (Get_arrives n i) d =
    let t = w.asked n && serves p w (w.request_era n) i in
    let q : t ≡ true → serves p w (w.request_era n) i ≡ true = λ h. and_right (w.asked n) (serves p w (w.request_era n) i) h in
    sound-said p w t n i (best_of w (w.request_era n) i) (λ h. and_left (w.asked n) (serves p w (w.request_era n) i) h)
    (λ h e j f.
    elim (goes_cases p w (w.request_era n) i (serves_goes p w (w.request_era n) i (q h))) [
      | inl c ↦
          elim (or_cases (same j i) (same i (w.changed w.era)) f) [
            | inl a ↦ subst (λ k. w.knows k ≡ true) (sym (same_is j i a)) c.2
            | inr a ↦ all_know p (w.changed w.era) w.knows i j d.known (serves_settled p w (w.request_era n) i (q h) c.0) a
          ]
      | inr (inl c) ↦ absurd (omega (arith, c.1, e))
      | inr (inr c) ↦ absurd (omega (arith, c.2, e))
    ])
    d
sound-after p w (Write n x s v u) d =
    let t = decide_parts w n x s v u in
    sound-write p w (may_write w n x s v u) n x (λ h. (t h).2) (λ h e i f. two_spoke p w n n s v u d e e (t h).0 (t h).1 i f) d
sound-after p w (Put_arrives x i) d =
    let g = w.write_era x in
    let t = w.put x && goes_by p w g i in
    sound-put p w t x i (holds w t g i x).best (holds w t g i x).old (λ h. and_left (w.put x) (goes_by p w g i) h)
    (λ h e.
    elim (goes_cases p w g i (and_right (w.put x) (goes_by p w g i) h)) [
      | inl c ↦ c.2
      | inr (inl c) ↦ absurd (omega (arith, c.1, e))
      | inr (inr c) ↦ absurd (omega (arith, c.2, e))
    ])
    d
sound-after p w (Reply x s) d =
    sound-same p w w.best w.old w.outlived (facts_after p w (Reply x s)).waiting w.undecided w.lingers (facts_after p w (Reply x s)).acknowledged (λ y a. or_right (may_reply w x s && (y == x)) (w.acknowledged y) a) d
sound-after p w (Close x) d = sound-same p w w.best w.old w.outlived (facts_after p w (Close x)).waiting w.undecided w.lingers w.acknowledged (λ y a. a) d
sound-after p w (Refuse n) d = sound-same p w w.best w.old w.outlived w.waiting (facts_after p w (Refuse n)).undecided w.lingers w.acknowledged (λ y a. a) d
sound-after p w (Accept g i s) d = sound-same p w (facts_after p w (Accept g i s)).best (facts_after p w (Accept g i s)).old w.outlived w.waiting w.undecided w.lingers w.acknowledged (λ y a. a) d
sound-after p w (Retire g i) d = sound-same p w (facts_after p w (Retire g i)).best (facts_after p w (Retire g i)).old (facts_after p w (Retire g i)).outlived w.waiting w.undecided w.lingers w.acknowledged (λ y a. a) d
sound-after p w (Cut i e) d = sound-cut p w (may_cut p w i e) i e (λ h. (send_parts p w i e h).0) d
sound-after p w (State_arrives i e) d = sound-merge p w (may_come p w i e) i e (comes_parts p w i e) d
sound-after p w (Settle e) d = sound-settle p w e d
sound-after p w (Learn i) d = sound-learn p w i d
sound-after p w (Drop_out g) d = sound-same p w w.best w.old w.outlived w.waiting w.undecided (facts_after p w (Drop_out g)).lingers w.acknowledged (λ y a. a) d
sound-after p w (Crash r) d = sound-crash p w r d
sound-after p w Restart d = sound-restart p w d
sound-after p w (Replace r joins) d = sound-replace p w r joins d
sound-after p w Stop d = sound-same p w w.best w.old w.outlived (facts_after p w Stop).waiting (facts_after p w Stop).undecided (facts_after p w Stop).lingers w.acknowledged (λ y a. a) d

-- Get comes to i, which holds v: it answers x, or who may answer still holds x
get-now : (x : ℕ) (p : Phase) (w : Facts) (n : ℕ) (i : Place) → Sound p w → Good x p w → w.request_era n ≡ w.era → is_settled p i ≡ true → w.before n x ≡ true → (x ≤ w.best i) ⊎ Missed x p w (w.request_era n) i
get-now x p w n i d g e s b =
    let choice : (x ≤ w.best i) ⊎ (w.best i < x) = grind arith in
    elim choice [
      | inl a ↦ inl a
      | inr a ↦ inr (λ f. missed-from x p w.best w.sent w.list i s a (g.acknowledged (d.earlier n x b)).0, λ f j h k l. absurd (omega (arith, e, f)), λ f h l. absurd (omega (arith, e, f)))
    ]

get-before : (x : ℕ) (p : Phase) (w : Facts) (n : ℕ) (i : Place) → Sound p w → Good x p w → suc (w.request_era n) ≡ w.era → same i (w.changed w.era) ≡ false → w.knows i ≡ false → w.before n x ≡ true → (x ≤ w.best i) ⊎ Missed x p w (w.request_era n) i
get-before x p w n i d g e r k b =
    let both = g.acknowledged (d.earlier n x b) in
    let choice : (x ≤ w.best i) ⊎ (w.best i < x) = grind arith in
    elim choice [
      | inl a ↦ inl a
      | inr a ↦
          inr (
            λ f. absurd (omega (arith, e, f)),
            λ f j h l m.
                elim (held-pair x p w.best w.sent w.list i j h (unknown_settled p (w.changed w.era) i w.knows d.known r k) (unknown_settled p (w.changed w.era) j w.knows d.known l m) both.0) [
                  | inl c ↦ absurd (omega (arith, a, c))
                  | inr c ↦ c
                ],
            λ f h l.
                elim (both.1 (subst (λ q. w.lingers q ≡ true) e l) i r k) [
                  | inl c ↦ subst (λ q. x ≤ w.old q) (sym e) c
                  | inr c ↦ absurd (omega (arith, a, c))
                ],
          )
    ]

get-old : (x : ℕ) (p : Phase) (w : Facts) (n : ℕ) → Sound p w → Good x p w → w.request_era n < w.era → w.lingers (suc (w.request_era n)) ≡ true → w.before n x ≡ true → (x ≤ w.old (suc (w.request_era n))) ⊎ Missed x p w (w.request_era n) (w.changed (suc (w.request_era n)))
get-old x p w n d g e l b =
    let both = g.acknowledged (d.earlier n x b) in
    let choice : (x ≤ w.old (suc (w.request_era n))) ⊎ (w.old (suc (w.request_era n)) < x) = grind arith in
    elim choice [
      | inl a ↦ inl a
      | inr a ↦
          inr (
            λ f. absurd (omega (arith, e, f)),
            λ f j h m k.
                elim (both.1 (subst (λ q. w.lingers q ≡ true) f l) j m k) [
                  | inl c ↦
                      let z : x ≤ w.old (suc (w.request_era n)) = subst (λ q. x ≤ w.old q) (sym f) c in
                      absurd (omega (arith, a, z))
                  | inr c ↦ c
                ],
            λ f h m. apart (same (w.changed (suc (w.request_era n))) (w.changed (suc (w.request_era n)))) (same_refl (w.changed (suc (w.request_era n)))) h,
          )
    ]

-- Get comes to i: it answers x, or who may answer still holds x
get-new : (x : ℕ) (p : Phase) (w : Facts) (n : ℕ) (i : Place) → Sound p w → Good x p w → serves p w (w.request_era n) i ≡ true → w.before n x ≡ true → (x ≤ best_of w (w.request_era n) i) ⊎ Missed x p w (w.request_era n) i
get-new x p w n i d g q b =
    elim (goes_cases p w (w.request_era n) i (serves_goes p w (w.request_era n) i q)) [
      | inl c ↦
          elim (get-now x p w n i d g c.1 (serves_settled p w (w.request_era n) i q c.0) b) [
            | inl a ↦ inl (subst (λ k. x ≤ k) (sym (best_now w (w.request_era n) i c.0)) a)
            | inr a ↦ inr a
          ]
      | inr (inl c) ↦
          elim (get-old x p w n d g c.1 c.3 b) [
            | inl a ↦ inl (subst (λ k. x ≤ k) (sym (best_old w (w.request_era n) i c.0 c.2)) a)
            | inr a ↦ inr (subst (λ k. Missed x p w (w.request_era n) k) (sym (same_is i (w.changed (suc (w.request_era n))) c.2)) a)
          ]
      | inr (inr c) ↦
          elim (get-before x p w n i d g c.2 (subst (λ k. same i (w.changed k) ≡ false) c.2 c.1) c.3 b) [
            | inl a ↦ inl (subst (λ k. x ≤ k) (sym (best_stays w (w.request_era n) i c.1)) a)
            | inr a ↦ inr a
          ]
    ]

-- and where another lacked x, i has it
get-can : (x : ℕ) (p : Phase) (w : Facts) (a : ℕ) (i j : Place) → serves p w a i ≡ true → same j i ≡ false → Missed x p w a j → x ≤ best_of w a i
get-can x p w a i j q f m =
    elim (goes_cases p w a i (serves_goes p w a i q)) [
      | inl c ↦ subst (λ k. x ≤ k) (sym (best_now w a i c.0)) (missed-has x p w.best w.sent w.list j i f (serves_settled p w a i q c.0) (m.0 c.1))
      | inr (inl c) ↦ subst (λ k. x ≤ k) (sym (best_old w a i c.0 c.2)) (m.2 c.1 (subst (λ k. same j k ≡ false) (same_is i (w.changed (suc a)) c.2) f) c.3)
      | inr (inr c) ↦ subst (λ k. x ≤ k) (sym (best_stays w a i c.1)) (m.1 c.2 i f (subst (λ k. same i (w.changed k) ≡ false) c.2 c.1) c.3)
    ]

good-holds : (x : ℕ) (p : Phase) (w : Facts) (t : Bool) (g : ℕ) (i : Place) (s : ℕ) → Good x p w → Good x p (holds w t g i s)
good-holds x p w t g i s h = good-more x p w (holds w t g i s).best (holds w t g i s).old w.outlived (λ j z. grown-more (t && stays w g i) i s w.best j x z) (λ k z. grown_old-more (t && not (stays w g i)) (suc g) s w.old k x z) h

good-put : (x : ℕ) (p : Phase) (w : Facts) (y : ℕ) (i : Place) → Good x p w → Good x p (facts_after p w (Put_arrives y i))
good-put x p w y i h =
    good-acks x p (holds w t g i y) t y i
    (λ e f. grown-has (t && stays w g i) i y w.best (and_both t (stays w g i) e (stays_now w g i (eq_true g w.era f))))
    (λ e f k l. grown-has (t && stays w g i) i y w.best (and_both t (stays w g i) e (stays_kept w g i (subst (λ q. same i (w.changed q) ≡ false) (sym f) k))))
    (λ e f k.
    elim (goes_ e) [
      | inl c ↦ absurd (omega (arith, c.1, f))
      | inr (inl c) ↦ apart (same i (w.changed (suc g))) c.2 (subst (λ q. same i (w.changed q) ≡ false) (sym f) k)
      | inr (inr c) ↦ c.3
    ])
    (λ e f k.
    let other : (g == w.era) ≡ false = not_eq g w.era (omega (arith, f)) in
    let here : same i (w.changed (suc g)) ≡ true = subst (λ q. same i (w.changed q) ≡ true) (sym f) (subst (λ q. same i q ≡ true) k (same_refl i)) in
    let lost : (t && not (stays w g i)) ≡ true = and_both t (not (stays w g i)) e (rw (stays_lost w g i other here)) in
    subst (λ q. y ≤ (holds w t g i y).old q) f (grown_old-has (t && not (stays w g i)) (suc g) y w.old lost))
    (λ e f.
    elim (goes_ e) [
      | inl c ↦ absurd (omega (arith, c.1, f))
      | inr (inl c) ↦ same_is i (w.changed (suc g)) c.2
      | inr (inr c) ↦ absurd (omega (arith, c.2, f))
    ])
    (good-holds x p w t g i y h)
  where
    g : ℕ
    g = w.write_era y

    t : Bool
    t = w.put y && goes_by p w (w.write_era y) i

    goes_ : t ≡ true → Now p w g i ⊎ (Lost p w g i ⊎ Stays p w g i)
    goes_ e = goes_cases p w g i (and_right (w.put y) (goes_by p w g i) e)

good-retire : (x : ℕ) (p : Phase) (w : Facts) (t : Bool) (g : ℕ) (i : Place) → (retires w t g i).outlived < x → Good x p w → Good x p (retires w t g i)
good-retire x p w t g i l h =
    good-more x p w (retires w t g i).best (retires w t g i).old (retires w t g i).outlived
    (λ j z. retired-kept (t && stays w g i) i w.best x j (λ e. subst (λ k. k < x) (if_true (stays w g i) (w.best i) (w.old (suc g)) (and_right t (stays w g i) e)) (gone-above t w.outlived (best_of w g i) x l (and_left t (stays w g i) e))) z)
    (λ k z. retired_old-kept (t && not (stays w g i)) (suc g) w.old x k (λ e. subst (λ k. k < x) (if_false (stays w g i) (w.best i) (w.old (suc g)) (not_true (stays w g i) (and_right t (not (stays w g i)) e))) (gone-above t w.outlived (best_of w g i) x l (and_left t (not (stays w g i)) e))) z)
    h

pub good-after : (x : ℕ) (p : Phase) (w : Facts) (e : Event) → (facts_after p w e).outlived < x → Sound p w → (w.outlived < x → Good x p w) → Good x (phase_after p w e) (facts_after p w e)
good-after x p w (Request n lag) l d g = good-request x p w n lag d (g l)
good-after x p w (Get_arrives n i) l d g =
    good-said x p w (w.asked n && serves p w (w.request_era n) i) n i (best_of w (w.request_era n) i) (λ h b. get-new x p w n i d (g l) (and_right (w.asked n) (serves p w (w.request_era n) i) h) b) (λ h j f m. get-can x p w (w.request_era n) i j (and_right (w.asked n) (serves p w (w.request_era n) i) h) f m) (g l)
good-after x p w (Write n y s v u) l d g = good-write x p w (may_write w n y s v u) n y (λ h. (decide_parts w n y s v u h).2) d (g l)
good-after x p w (Put_arrives y i) l d g = good-put x p w y i (g l)
good-after x p w (Reply y s) l d g = good-reply x p w (may_reply w y s) y s (reply_parts w y s) d (g l)
good-after x p w (Close y) l d g = good-less x p w (facts_after p w (Close y)).waiting w.undecided w.lingers (λ z r. and_right (not (z == y)) (w.waiting z) r) (λ z r. r) (λ z r. r) (g l)
good-after x p w (Refuse n) l d g = good-less x p w w.waiting (facts_after p w (Refuse n)).undecided w.lingers (λ z r. r) (λ z r. and_right (not (z == n)) (w.undecided z) r) (λ z r. r) (g l)
good-after x p w (Accept k i s) l d g = good-holds x p w (goes_by p w k i) k i s (g l)
good-after x p w (Retire k i) l d g = good-retire x p w (goes_by p w k i) k i l (g (gone-less (goes_by p w k i) w.outlived (best_of w k i) x l))
good-after x p w (Cut i e) l d g = good-cut x p w (may_cut p w i e) i e (λ h. (send_parts p w i e h).1) d (g l)
good-after x p w (State_arrives i e) l d g = good-merge x p w i e (g l)
good-after x p w (Settle e) l d g = good-settle x p w e d (g l)
good-after x p w (Learn i) l d g = good-learn x p w i d (g l)
good-after x p w (Drop_out k) l d g = good-less x p w w.waiting w.undecided (facts_after p w (Drop_out k)).lingers (λ z r. r) (λ z r. r) (λ z r. and_right (not (z == k)) (w.lingers z) r) (g l)
good-after x p w (Crash r) l d g = good-crash x p w r d (g l)
good-after x p w Restart l d g = good-restart x p w d (g l)
good-after x p w (Replace r joins) l d g = good-replace x p w r joins d (g l)
good-after x p w Stop l d g = good-less x p w (facts_after p w Stop).waiting (facts_after p w Stop).undecided (facts_after p w Stop).lingers (λ z r. and_right (not (is_whole p)) (w.waiting z) r) (λ z r. and_right (not (is_whole p)) (w.undecided z) r) (λ z r. and_right (not (is_whole p)) (w.lingers z) r) (g l)
