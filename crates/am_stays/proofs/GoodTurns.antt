-- Settling, learning, crashes, restarts and changes of the ring keep the facts of one stamp x.
use Rattle.std.proofs.Common.{◌≡◌, ℕ, suc, ◌<◌, ◌≤◌, Bool, true, false, not, ◌&&◌, ◌||◌, if◌then◌else◌, ◌⊎◌, inl, inr, refl, subst, arith}
use Rattle.std.specs.Prelude.{◌==◌}
use Rattle.am_stays.specs.Places.{Place, same}
use Rattle.am_stays.proofs.Phases.{next, last, Phase, Whole, Down, Unsettled, is_whole, is_lacking}
use Rattle.am_stays.proofs.Machine.{Facts, crashes, restarts, replaces, crashed, restarted, replaced, settled, may_return}
use Rattle.am_stays.proofs.Tables.{and_left, and_right, not_true, apart, decide, same_is, eq_is, eq_refl, eq_true, or_false_right, if_true, if_false, zeroed, not_eq, less}
use Rattle.am_stays.proofs.Invariants.{Sound, Either, Held, Aside, Took, Missed, Good}
use Rattle.am_stays.proofs.Holders.{held-crash, held-restart, held-settle, held-stay, pair, missed-crash, missed-settle}

pub good-settle : (x : ℕ) (p : Phase) (w : Facts) (e : ℕ) → Sound p w → Good x p w → Good x (settled p w e) w
good-settle x Whole w e d g = g
good-settle x (Down r) w e d g = g
good-settle x (Unsettled r) w e d g = go (w.knows r && (w.took (next r) e && w.took (last r) e)) refl
  where
    go : (t : Bool) → (w.knows r && (w.took (next r) e && w.took (last r) e)) ≡ t → Good x (if t then Whole else Unsettled r) w
    go false h = g
    go true h =
        let k = and_right (w.knows r) (w.took (next r) e && w.took (last r) e) h in
        let one = and_left (w.took (next r) e) (w.took (last r) e) k in
        let two = and_right (w.took (next r) e) (w.took (last r) e) k in
        let held : Held x (Unsettled r) w.best w.sent w.list → Held x Whole w.best w.sent w.list =
        λ y s. held-settle x r w e (d.taken (next r) e one) (d.taken (last r) e two) (g.took (next r) e one) (g.took (last r) e two) y s
        in
        record {
          told = g.told;
          stays = g.stays;
          moved = λ r e i a f k. held (g.moved r e i a f k);
          left = g.left;
          past = λ r e i a f. (held (g.past r e i a f).0, (g.past r e i a f).1);
          acknowledged = λ a. (held (g.acknowledged a).0, (g.acknowledged a).1);
          took = λ i e t. tt;
          heard = λ n l b i v z.
              elim (g.heard n l b i v z) [
                | inl a ↦ inl a
                | inr a ↦ inr ((λ y. missed-settle x r i w e (d.taken (next r) e one) (d.taken (last r) e two) (g.took (next r) e one) (g.took (last r) e two) (a.0.0 y), a.0.1, a.0.2), a.1)
              ];
        }

pub good-learn : (x : ℕ) (p : Phase) (w : Facts) (i : Place) → Sound p w → Good x p w → Good x p (record w { knows = λ j. same j i || w.knows j })
good-learn x p w i d g =
    record {
      told = g.told;
      stays = λ r e j a f k. g.stays r e j a f (or_false_right (same j i) (w.knows j) k);
      moved = λ r e j a f k.
          elim (decide (w.knows j)) [
            | inl c ↦ g.moved r e j a f c
            | inr c ↦ held-stay x p w j d f c (g.stays r e j a f c)
          ];
      left = g.left;
      past = λ r e j a f. both (g.past r e j a f);
      acknowledged = λ a. both (g.acknowledged a);
      took = g.took;
      heard = λ n l b j v z.
          elim (g.heard n l b j v z) [
            | inl a ↦ inl a
            | inr a ↦ inr ((a.0.0, λ e m f h k. a.0.1 e m f h (or_false_right (same m i) (w.knows m) k), a.0.2), a.1)
          ];
    }
  where
    both : Held x p w.best w.sent w.list × Aside x w → Held x p w.best w.sent w.list × Aside x (record w { knows = λ j. same j i || w.knows j })
    both a = (a.0, λ l j f k. a.1 l j f (or_false_right (same j i) (w.knows j) k))

pub good-crash : (x : ℕ) (p : Phase) (w : Facts) (r : Place) → Sound p w → Good x p w → Good x (crashed p r) (crashes w (is_whole p) r)
good-crash x (Down q) w r d g = g
good-crash x (Unsettled q) w r d g = g
good-crash x Whole w r d g =
    record {
      told = λ y e i a u. zeroed (same i r) (w.best i) x (not_true (same i r) u) (g.told y e i a refl);
      stays = λ y e i a f k. apart (w.knows i) (d.known i) k;
      moved = λ y e i a f k. held-crash x w r (g.moved y e i a f k);
      left = g.left;
      past = λ y e i a f. both (g.past y e i a f);
      acknowledged = λ a. both (g.acknowledged a);
      took = λ i e t. tt;
      heard = λ n l b i v z.
          elim (g.heard n l b i v z) [
            | inl a ↦ inl a
            | inr a ↦ inr ((λ e. missed-crash x w r i (λ j f. false) (a.0.0 e), λ e j f h k. apart (w.knows j) (d.known j) k, a.0.2), a.1)
          ];
    }
  where
    both : Held x Whole w.best w.sent w.list × Aside x w → Held x (Down r) (crashes w true r).best (λ i e. false) w.list × Aside x (crashes w true r)
    both a = (held-crash x w r a.0, λ l i f k. apart (w.knows i) (d.known i) k)

-- who has not learned holds on to x over a restart of another
restart-best : (p : Phase) (w : Facts) (i : Place) (x : ℕ) → Sound p w → same i (w.changed w.era) ≡ false → w.knows i ≡ false → x ≤ w.best i → x ≤ (restarts p w (may_return p w)).best i
restart-best Whole w i x d f k h = h
restart-best (Down r) w i x d f k h = apart (w.knows i) (d.known i) k
restart-best (Unsettled r) w i x d f k h = go (not (w.knows r))
  where
    go : (t : Bool) → x ≤ (restarts (Unsettled r) w t).best i
    go false = h
    go true = zeroed (same i r) (w.best i) x (subst (λ q. same i q ≡ false) (same_is (w.changed w.era) r (d.known i k)) f) h

held-back : (x : ℕ) (p : Phase) (w : Facts) → Held x p w.best w.sent w.list → Held x (restarted p) (restarts p w (may_return p w)).best (restarts p w (may_return p w)).sent w.list
held-back x Whole w h = h
held-back x (Down r) w h = held-restart x r w w.list h
held-back x (Unsettled r) w h = go (not (w.knows r))
  where
    go : (t : Bool) → Held x (Unsettled r) (restarts (Unsettled r) w t).best (restarts (Unsettled r) w t).sent w.list
    go false = h
    go true = held-restart x r w w.list h.0

-- who knows the era after a restart knew it before, or got its place last
restart-knows : (p : Phase) (w : Facts) (i : Place) → Sound p w → same i (w.changed w.era) ≡ false → w.knows i ≡ false → (restarts p w (may_return p w)).knows i ≡ false
restart-knows Whole w i d f k = k
restart-knows (Down r) w i d f k = apart (w.knows i) (d.known i) k
restart-knows (Unsettled r) w i d f k = go (not (w.knows r))
  where
    z : same i r ≡ false
    z = subst (λ q. same i q ≡ false) (same_is (w.changed w.era) r (d.known i k)) f

    go : (t : Bool) → (restarts (Unsettled r) w t).knows i ≡ false
    go false = k
    go true = rw z k

took-none : (x : ℕ) (p : Phase) (b : Place → ℕ) (list : Place → ℕ → ℕ) (i : Place) (e : ℕ) → false ≡ true → Took x p b list i e
took-none x Whole b list i e h = tt
took-none x (Down r) b list i e h = tt
took-none x (Unsettled r) b list i e h = apart false h refl

-- a restart: t says that somebody comes back
pub good-back : (x : ℕ) (p : Phase) (w : Facts) → may_return p w ≡ true → Sound p w → Good x p w → Good x (restarted p) (restarts p w (may_return p w))
good-back x p w t d g =
    record {
      told = λ r e. apart (w.write_era x == w.era) (eq_true (w.write_era x) w.era e) (and_closed (w.write_era x == w.era) (w.waiting x) r);
      stays = λ r e i a f k. restart-best p w i x d f (knew i k) (g.stays (ran r) e i a f (knew i k));
      moved = λ r e i a f k. held-back x p w (move i r e a f k);
      left = λ r e a l. g.left (ran r) e a l;
      past = λ r e i a f. both (g.past (ran r) e i a f);
      acknowledged = λ a. both (g.acknowledged a);
      took = λ i e z. took-none x (restarted p) (restarts p w (may_return p w)).best w.list i e (subst (λ q. (not q && w.took i e) ≡ true) t z);
      heard = λ n l b i v z.
          elim (g.heard n (and_right (not (may_return p w && (w.request_era n == w.era))) (w.undecided n) l) b i v z) [
            | inl a ↦ inl a
            | inr a ↦
                inr (
                  (
                    λ e. apart (w.request_era n == w.era) (eq_true (w.request_era n) w.era e) (and_closed (w.request_era n == w.era) (w.undecided n) l),
                    λ e j f h k. restart-best p w j x d h (knew j k) (a.0.1 e j f h (knew j k)),
                    a.0.2,
                  ),
                  a.1,
                )
          ];
    }
  where
    ran : (not (may_return p w && (w.write_era x == w.era)) && w.waiting x) ≡ true → w.waiting x ≡ true
    ran r = and_right (not (may_return p w && (w.write_era x == w.era))) (w.waiting x) r

    and_closed : (c b : Bool) → (not (may_return p w && c) && b) ≡ true → c ≡ false
    and_closed c b h = not_true c (subst (λ q. not (q && c) ≡ true) t (and_left (not (may_return p w && c)) b h))

    knew : (i : Place) → ((may_return p w && is_lacking p i) || w.knows i) ≡ false → w.knows i ≡ false
    knew i k = or_false_right (may_return p w && is_lacking p i) (w.knows i) k

    move : (i : Place) → (not (may_return p w && (w.write_era x == w.era)) && w.waiting x) ≡ true → suc (w.write_era x) ≡ w.era → w.ack x i ≡ true → same i (w.changed w.era) ≡ false → (restarts p w (may_return p w)).knows i ≡ true → Held x p w.best w.sent w.list
    move i r e a f k =
        elim (decide (w.knows i)) [
          | inl c ↦ g.moved (ran r) e i a f c
          | inr c ↦ apart ((restarts p w (may_return p w)).knows i) k (restart-knows p w i d f c)
        ]

    both : Held x p w.best w.sent w.list × Aside x w → Held x (restarted p) (restarts p w (may_return p w)).best (restarts p w (may_return p w)).sent w.list × Aside x (restarts p w (may_return p w))
    both a = (
      held-back x p w a.0,
      λ l i f k. elim (a.1 l i f (knew i k)) [ inl b ↦ inl b | inr b ↦ inr (restart-best p w i x d f (knew i k) b) ],
    )

pub good-restart : (x : ℕ) (p : Phase) (w : Facts) → Sound p w → Good x p w → Good x (restarted p) (restarts p w (may_return p w))
good-restart x Whole w d g = g
good-restart x (Down r) w d g = good-back x (Down r) w refl d g
good-restart x (Unsettled r) w d g = elim (decide (not (w.knows r))) [ inl a ↦ good-back x (Unsettled r) w a d g | inr a ↦ same_ (not (w.knows r)) a ]
  where
    same_ : (t : Bool) → t ≡ false → Good x (Unsettled r) (restarts (Unsettled r) w t)
    same_ false e = g
    same_ true e = cc

-- another instance gets place r
pub good-replace : (x : ℕ) (p : Phase) (w : Facts) (r : Place) (joins : Bool) → Sound p w → Good x p w → Good x (replaced p r) (replaces w (is_whole p) r joins)
good-replace x (Down q) w r joins d g = g
good-replace x (Unsettled q) w r joins d g = g
good-replace x Whole w r joins d g =
    record {
      told = λ y e i a u. absurd (omega (arith, e, d.write_era x));
      stays = λ y e i a f k. zeroed (same i r) (w.best i) x (apart_ i f) (g.told y (below e) i a refl);
      moved = λ y e i a f k. apart (same i r) (and_right joins (same i r) k) (apart_ i f);
      left = λ y e a l. rw (if_true (suc w.era == suc w.era) (w.best r) (w.old (suc w.era)) (eq_refl (suc w.era))) (g.told y (below e) r (subst (λ q. w.ack x q ≡ true) is_r a) refl);
      past = λ y e i a f. both (past_ y e i a f);
      acknowledged = λ a. both (g.acknowledged a).0;
      took = λ i e z. apart false z refl;
      heard = λ n l b i v z.
          elim (g.heard n l b i v z) [
            | inl a ↦ inl a
            | inr a ↦
                inr (
                  (
                    λ e. absurd (omega (arith, e, d.request_era n)),
                    λ e j f h k. zeroed (same j r) (w.best j) x (apart_ j h) (a.0.0 (below e) j f),
                    λ e f h. old_ (w.request_era n) i a.0 (suc (w.request_era n) == suc w.era) refl (d.request_era n) f h,
                  ),
                  a.1,
                )
          ];
    }
  where
    is_r : (if suc w.era == suc w.era then r else w.changed (suc w.era)) ≡ r
    is_r = if_true (suc w.era == suc w.era) r (w.changed (suc w.era)) (eq_refl (suc w.era))

    below : {a : ℕ} → suc a ≡ suc w.era → a ≡ w.era
    below e = omega arith

    apart_ : (i : Place) → same i (if suc w.era == suc w.era then r else w.changed (suc w.era)) ≡ false → same i r ≡ false
    apart_ i f = subst (λ q. same i q ≡ false) is_r f

    pick : (i : Place) → same i r ≡ false → ((s : Place) → Either x w.best s) → (x ≤ (if suc w.era == suc w.era then w.best r else w.old (suc w.era))) ⊎ (x ≤ (if same i r then 0 else w.best i))
    pick i f h = rw (if_true (suc w.era == suc w.era) (w.best r) (w.old (suc w.era)) (eq_refl (suc w.era)))
        (elim (pair x w.best i r f h) [ inl a ↦ inr (zeroed (same i r) (w.best i) x f a) | inr a ↦ inl a ])

    both : ((s : Place) → Either x w.best s) → Held x (Unsettled r) (replaces w true r joins).best (λ i e. false) w.list × Aside x (replaces w true r joins)
    both h = (held-restart x r w w.list (h r), λ l i f k. pick i (apart_ i f) h)

    past_ : w.waiting x ≡ true → suc (w.write_era x) < suc w.era → (i : Place) → w.ack x i ≡ true → same i (if suc (w.write_era x) == suc w.era then r else w.changed (suc (w.write_era x))) ≡ false → (s : Place) → Either x w.best s
    past_ y e i a f =
        let other : (suc (w.write_era x) == suc w.era) ≡ false = not_eq (suc (w.write_era x)) (suc w.era) e in
        let f' : same i (w.changed (suc (w.write_era x))) ≡ false = subst (λ q. same i q ≡ false) (if_false (suc (w.write_era x) == suc w.era) r (w.changed (suc (w.write_era x))) other) f in
        let choice : (suc (w.write_era x) ≡ w.era) ⊎ (suc (w.write_era x) < w.era) = grind (arith, e) in
        elim choice [
          | inl z ↦ g.moved y z i a (subst (λ k. same i (w.changed k) ≡ false) z f') (d.known i)
          | inr z ↦ (g.past y z i a f').0
        ]

    old_ : (a : ℕ) (i : Place) → Missed x Whole w a i → (c : Bool) → (suc a == suc w.era) ≡ c → a ≤ w.era → same i (if c then r else w.changed (suc a)) ≡ false → (if c then joins else w.lingers (suc a)) ≡ true → x ≤ (if c then w.best r else w.old (suc a))
    old_ a i m true e l f h = m.0 (below (eq_is (suc a) (suc w.era) e)) r f
    old_ a i m false e l f h = m.2 (less a w.era l e) f h
