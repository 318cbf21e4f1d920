-- Operations, lists and what an instance takes keep the facts of one stamp x.
use Rattle.std.proofs.Common.{◌≡◌, ℕ, suc, ◌-◌, ◌<◌, ◌≤◌, Bool, true, false, not, ◌&&◌, ◌||◌, if◌then◌else◌, ◌⊎◌, inl, inr, refl, subst, sym, arith}
use Rattle.std.specs.Prelude.{◌==◌}
use Rattle.am_stays.specs.Places.{Place, same}
use Rattle.am_stays.proofs.Phases.{next, last, Phase, Whole, Down, Unsettled}
use Rattle.am_stays.proofs.Machine.{Facts, grown, acks, says, requests, writes, replied, cuts, merges, may_come}
use Rattle.am_stays.proofs.Tables.{and_left, and_right, or_cases, not_true, apart, decide, same_is, same_refl, same_sym, eq_is, says_cases, acks_cases, if_Bool, if_false, mark_cases, cut_cases, three, grown-more, grown-has, two_places, less}
use Rattle.am_stays.proofs.Invariants.{Sound, Held, Aside, Took, Missed, Heard, Good}
use Rattle.am_stays.proofs.Holders.{held-more, held-cut, held-stay, held-two, missed-more, missed-cut}

took-more : (x : ℕ) (p : Phase) (b c : Place → ℕ) (list : Place → ℕ → ℕ) (i : Place) (e : ℕ) → ((j : Place) → x ≤ b j → x ≤ c j) → Took x p b list i e → Took x p c list i e
took-more x Whole b c list i e more h = tt
took-more x (Down r) b c list i e more h = tt
took-more x (Unsettled r) b c list i e more h = λ z. more r (h z)

-- who holds x goes on to
pub good-more : (x : ℕ) (p : Phase) (w : Facts) (c : Place → ℕ) (d : ℕ → ℕ) (outlived : ℕ) → ((j : Place) → x ≤ w.best j → x ≤ c j) → ((g : ℕ) → x ≤ w.old g → x ≤ d g) → Good x p w → Good x p (record w { best = c; old = d; outlived = outlived })
good-more x p w c d outlived more also g =
    record {
      told = λ r e i a u. more i (g.told r e i a u);
      stays = λ r e i a f k. more i (g.stays r e i a f k);
      moved = λ r e i a f k. held-more x p w.best c w.sent w.list more (g.moved r e i a f k);
      left = λ r e a l. also w.era (g.left r e a l);
      past = λ r e i a f. both (g.past r e i a f);
      acknowledged = λ a. both (g.acknowledged a);
      took = λ i e t. took-more x p w.best c w.list i e more (g.took i e t);
      heard = λ n l b i v z.
          elim (g.heard n l b i v z) [
            | inl a ↦ inl a
            | inr a ↦ inr ((λ e. missed-more x p w.best c w.sent w.list i more (a.0.0 e), λ e j f h k. more j (a.0.1 e j f h k), λ e f h. also (suc (w.request_era n)) (a.0.2 e f h)), a.1)
          ];
    }
  where
    both : Held x p w.best w.sent w.list × Aside x w → Held x p c w.sent w.list × Aside x (record w { best = c; old = d; outlived = outlived })
    both a = (held-more x p w.best c w.sent w.list more a.0, λ l i f k. elim (a.1 l i f k) [ inl b ↦ inl (also w.era b) | inr b ↦ inr (more i b) ])

-- operations, requests or those who lost their place end
pub good-less : (x : ℕ) (p : Phase) (w : Facts) (waiting undecided lingers : ℕ → Bool) → ((y : ℕ) → waiting y ≡ true → w.waiting y ≡ true) → ((n : ℕ) → undecided n ≡ true → w.undecided n ≡ true) → ((h : ℕ) → lingers h ≡ true → w.lingers h ≡ true) → Good x p w → Good x p (record w { waiting = waiting; undecided = undecided; lingers = lingers })
good-less x p w waiting undecided lingers fr fl fo g =
    record {
      told = λ r. g.told (fr x r);
      stays = λ r. g.stays (fr x r);
      moved = λ r. g.moved (fr x r);
      left = λ r e a l. g.left (fr x r) e a (fo w.era l);
      past = λ r e i a f. both (g.past (fr x r) e i a f);
      acknowledged = λ a. both (g.acknowledged a);
      took = g.took;
      heard = λ n l b i v z.
          elim (g.heard n (fl n l) b i v z) [
            | inl a ↦ inl a
            | inr a ↦ inr ((a.0.0, a.0.1, λ e f h. a.0.2 e f (fo (suc (w.request_era n)) h)), a.1)
          ];
    }
  where
    both : Held x p w.best w.sent w.list × Aside x w → Held x p w.best w.sent w.list × Aside x (record w { waiting = waiting; undecided = undecided; lingers = lingers })
    both a = (a.0, λ l i f k. a.1 (fo w.era l) i f k)

pub good-request : (x : ℕ) (p : Phase) (w : Facts) (n lag : ℕ) → Sound p w → Good x p w → Good x p (requests w n lag)
good-request x p w n lag s g =
    record {
      told = g.told;
      stays = g.stays;
      moved = g.moved;
      left = g.left;
      past = g.past;
      acknowledged = g.acknowledged;
      took = g.took;
      heard = λ m l b i v z.
          elim (decide (not (w.asked n) && (m == n))) [
            | inl a ↦
                let y : w.asked m ≡ false = subst (λ k. w.asked k ≡ false) (sym (eq_is m n (and_right (not (w.asked n)) (m == n) a))) (not_true (w.asked n) (and_left (not (w.asked n)) (m == n) a)) in
                apart (w.answer m i v) z (s.unsaid m y i v)
            | inr a ↦
                let l' : w.undecided m ≡ true = elim (or_cases (not (w.asked n) && (m == n)) (w.undecided m) l) [ inl c ↦ apart (not (w.asked n) && (m == n)) c a | inr c ↦ c ] in
                let b' : w.before m x ≡ true = elim (if_Bool (not (w.asked n) && (m == n)) (w.acknowledged x) (w.before m x) b) [ inl c ↦ apart (not (w.asked n) && (m == n)) c.0 a | inr c ↦ c.1 ] in
                subst (λ k. Heard x p w k (w.answer m) i v) (sym (if_false (not (w.asked n) && (m == n)) (w.era - lag) (w.request_era m) a)) (g.heard m l' b' i v z)
          ];
    }

-- an Answer: who may still answer without x is known to hold it
pub good-said : (x : ℕ) (p : Phase) (w : Facts) (t : Bool) (n : ℕ) (i : Place) (v : ℕ) → (t ≡ true → w.before n x ≡ true → (x ≤ v) ⊎ Missed x p w (w.request_era n) i) → (t ≡ true → (j : Place) → same j i ≡ false → Missed x p w (w.request_era n) j → x ≤ v) → Good x p w → Good x p (record w { answer = says t n i v w.answer })
good-said x p w t n i v new can g =
    record {
      told = g.told;
      stays = g.stays;
      moved = g.moved;
      left = g.left;
      past = g.past;
      acknowledged = g.acknowledged;
      took = g.took;
      heard = λ m l b j u z.
          elim (says_cases t n i v w.answer m j u z) [
            | inl a ↦ before_ m l b j u a
            | inr a ↦
                subst (λ k. Heard x p w (w.request_era k) (says t n i v w.answer k) j u) (sym a.1)
                (subst (λ k. Heard x p w (w.request_era n) (says t n i v w.answer n) k u) (sym a.2)
                (subst (λ k. Heard x p w (w.request_era n) (says t n i v w.answer n) i k) (sym a.3)
                (fresh_ a.0 (subst (λ k. w.undecided k ≡ true) a.1 l) (subst (λ k. w.before k x ≡ true) a.1 b))))
          ];
    }
  where
    before_ : (m : ℕ) → w.undecided m ≡ true → w.before m x ≡ true → (j : Place) (u : ℕ) → w.answer m j u ≡ true → Heard x p w (w.request_era m) (says t n i v w.answer m) j u
    before_ m l b j u z =
        elim (g.heard m l b j u z) [
          | inl a ↦ inl a
          | inr a ↦
              inr (
                a.0,
                λ k y e f.
                    elim (says_cases t n i v w.answer m k y f) [
                      | inl c ↦ a.1 k y e c
                      | inr c ↦ subst (λ q. x ≤ q) (sym c.3) (can c.0 j (subst (λ q. same j q ≡ false) c.2 e) (subst (λ q. Missed x p w (w.request_era q) j) c.1 a.0))
                    ],
              )
        ]

    fresh_ : t ≡ true → w.undecided n ≡ true → w.before n x ≡ true → Heard x p w (w.request_era n) (says t n i v w.answer n) i v
    fresh_ q l b =
        let choice : (x ≤ v) ⊎ (v < x) = grind arith in
        elim choice [
          | inl a ↦ inl a
          | inr less ↦
              elim (new q b) [
                | inl a ↦ inl a
                | inr a ↦
                    inr (
                      a,
                      λ k y e f.
                          elim (says_cases t n i v w.answer n k y f) [
                            | inl c ↦
                                elim (g.heard n l b k y c) [
                                  | inl d ↦ d
                                  | inr d ↦
                                      let z : x ≤ v = can q k (subst (λ z. z ≡ false) (same_sym i k) e) d.0 in
                                      absurd (omega (arith, less, z))
                                ]
                            | inr c ↦ apart (same i k) (subst (λ z. same i z ≡ true) (sym c.2) (same_refl i)) e
                          ],
                    )
              ]
        ]

-- a write of another stamp, or of x itself, of which nobody sent an Ack
pub good-write : (x : ℕ) (p : Phase) (w : Facts) (t : Bool) (n y : ℕ) → (t ≡ true → w.put y ≡ false) → Sound p w → Good x p w → Good x p (writes w t n y)
good-write x p w t n y new s g =
    record {
      told = λ r e i a u. g.told (runs i a r) (subst (λ k. k ≡ w.era) (same_era i a) e) i a u;
      stays = λ r e i a f k. g.stays (runs i a r) (subst (λ k. suc k ≡ w.era) (same_era i a) e) i a f k;
      moved = λ r e i a f k. g.moved (runs i a r) (subst (λ k. suc k ≡ w.era) (same_era i a) e) i a f k;
      left = λ r e a l. g.left (runs (w.changed w.era) a r) (subst (λ k. suc k ≡ w.era) (same_era (w.changed w.era) a) e) a l;
      past = λ r e i a f. g.past (runs i a r) (subst (λ k. suc k < w.era) (same_era i a) e) i a (subst (λ k. same i (w.changed (suc k)) ≡ false) (same_era i a) f);
      acknowledged = g.acknowledged;
      took = g.took;
      heard = λ m l b i v z. g.heard m (and_right (not (t && (m == n))) (w.undecided m) l) b i v z;
    }
  where
    other : (i : Place) → w.ack x i ≡ true → (t && (x == y)) ≡ false
    other i a =
        elim (decide (t && (x == y))) [
          | inl c ↦
              let z : w.put x ≡ false = subst (λ k. w.put k ≡ false) (sym (eq_is x y (and_right t (x == y) c))) (new (and_left t (x == y) c)) in
              apart (w.ack x i) a (s.fresh x z i)
          | inr c ↦ c
        ]

    runs : (i : Place) → w.ack x i ≡ true → ((t && (x == y)) || w.waiting x) ≡ true → w.waiting x ≡ true
    runs i a r = elim (or_cases (t && (x == y)) (w.waiting x) r) [ inl c ↦ apart (t && (x == y)) c (other i a) | inr c ↦ c ]

    same_era : (i : Place) → w.ack x i ≡ true → (if t && (x == y) then w.request_era n else w.write_era x) ≡ w.write_era x
    same_era i a = if_false (t && (x == y)) (w.request_era n) (w.write_era x) (other i a)

-- an Ack of y by i, which has y now
pub good-acks : (x : ℕ) (p : Phase) (w : Facts) (t : Bool) (y : ℕ) (i : Place) → (t ≡ true → w.write_era y ≡ w.era → y ≤ w.best i) → (t ≡ true → suc (w.write_era y) ≡ w.era → same i (w.changed w.era) ≡ false → w.knows i ≡ false → y ≤ w.best i) → (t ≡ true → suc (w.write_era y) ≡ w.era → same i (w.changed w.era) ≡ false → w.knows i ≡ false) → (t ≡ true → suc (w.write_era y) ≡ w.era → i ≡ w.changed w.era → y ≤ w.old w.era) → (t ≡ true → suc (w.write_era y) < w.era → i ≡ w.changed (suc (w.write_era y))) → Good x p w → Good x p (record w { ack = acks t y i w.ack })
good-acks x p w t y i n1 n2 n3 n4 n5 g =
    record {
      told = λ r e j a u.
          elim (acks_cases t y i w.ack x j a) [
            | inl c ↦ g.told r e j c u
            | inr c ↦ subst (λ k. x ≤ w.best k) (sym c.2) (subst (λ k. k ≤ w.best i) (sym c.1) (n1 c.0 (subst (λ k. w.write_era k ≡ w.era) c.1 e)))
          ];
      stays = λ r e j a f k.
          elim (acks_cases t y i w.ack x j a) [
            | inl c ↦ g.stays r e j c f k
            | inr c ↦ subst (λ k. x ≤ w.best k) (sym c.2) (subst (λ k. k ≤ w.best i) (sym c.1) (n2 c.0 (subst (λ k. suc (w.write_era k) ≡ w.era) c.1 e) (subst (λ q. same q (w.changed w.era) ≡ false) c.2 f) (subst (λ q. w.knows q ≡ false) c.2 k)))
          ];
      moved = λ r e j a f k.
          elim (acks_cases t y i w.ack x j a) [
            | inl c ↦ g.moved r e j c f k
            | inr c ↦ apart (w.knows i) (subst (λ q. w.knows q ≡ true) c.2 k) (n3 c.0 (subst (λ k. suc (w.write_era k) ≡ w.era) c.1 e) (subst (λ q. same q (w.changed w.era) ≡ false) c.2 f))
          ];
      left = λ r e a l.
          elim (acks_cases t y i w.ack x (w.changed w.era) a) [
            | inl c ↦ g.left r e c l
            | inr c ↦ subst (λ k. k ≤ w.old w.era) (sym c.1) (n4 c.0 (subst (λ k. suc (w.write_era k) ≡ w.era) c.1 e) (sym c.2))
          ];
      past = λ r e j a f.
          elim (acks_cases t y i w.ack x j a) [
            | inl c ↦ g.past r e j c f
            | inr c ↦
                let z : i ≡ w.changed (suc (w.write_era y)) = n5 c.0 (subst (λ k. suc (w.write_era k) < w.era) c.1 e) in
                let f' : same i (w.changed (suc (w.write_era y))) ≡ false = subst (λ k. same i (w.changed (suc (w.write_era k))) ≡ false) c.1 (subst (λ q. same q (w.changed (suc (w.write_era x))) ≡ false) c.2 f) in
                apart (same i (w.changed (suc (w.write_era y)))) (subst (λ q. same i q ≡ true) z (same_refl i)) f'
          ];
      acknowledged = g.acknowledged;
      took = g.took;
      heard = g.heard;
    }

-- two Acks while the operation is open: x is held from now on
pub reply-both : (x : ℕ) (p : Phase) (w : Facts) (s : Place) → Sound p w → Good x p w → w.waiting x ≡ true → w.ack x (next s) ≡ true → w.ack x (last s) ≡ true → Held x p w.best w.sent w.list × Aside x w
reply-both x p w s d g r a b =
    let era : w.write_era x ≤ w.era = d.write_era x in
    let choice : (w.write_era x ≡ w.era) ⊎ ((suc (w.write_era x) ≡ w.era) ⊎ (suc (w.write_era x) < w.era)) = grind arith in
    elim choice [
      | inl e ↦ (held-two x p s w.best w.sent w.list (g.told r e (next s) a) (g.told r e (last s) b), λ l i f k. apart (w.knows i) (d.wrote x puts e i f) k)
      | inr (inl e) ↦ (before_ e, aside_ e)
      | inr (inr e) ↦ elim (one (w.changed (suc (w.write_era x)))) [ inl f ↦ g.past r e (next s) a f | inr f ↦ g.past r e (last s) b f ]
    ]
  where
    puts : w.put x ≡ true
    puts = elim (decide (w.put x)) [ inl c ↦ c | inr c ↦ apart (w.ack x (next s)) a (d.fresh x c (next s)) ]

    one : (q : Place) → (same (next s) q ≡ false) ⊎ (same (last s) q ≡ false)
    one q = two_places s q

    stays_ : suc (w.write_era x) ≡ w.era → (k : Place) → w.ack x k ≡ true → same k (w.changed w.era) ≡ false → Held x p w.best w.sent w.list
    stays_ e k c f =
        elim (decide (w.knows k)) [
          | inl z ↦ g.moved r e k c f z
          | inr z ↦ held-stay x p w k d f z (g.stays r e k c f z)
        ]

    before_ : suc (w.write_era x) ≡ w.era → Held x p w.best w.sent w.list
    before_ e = elim (one (w.changed w.era)) [ inl f ↦ stays_ e (next s) a f | inr f ↦ stays_ e (last s) b f ]

    aside_ : suc (w.write_era x) ≡ w.era → Aside x w
    aside_ e = λ l i f k. three (λ q. same q (w.changed w.era) ≡ false → w.knows q ≡ false → (x ≤ w.old w.era) ⊎ (x ≤ w.best q)) s i (λ y z. inl (g.left r e (lost y) l)) (λ y z. inr (g.stays r e (next s) a y z)) (λ y z. inr (g.stays r e (last s) b y z)) f k
      where
        lost : same s (w.changed w.era) ≡ false → w.ack x (w.changed w.era) ≡ true
        lost y = three (λ q. same s q ≡ false → w.ack x q ≡ true) s (w.changed w.era) (λ z. apart (same s s) (same_refl s) z) (λ z. a) (λ z. b) y

pub good-reply : (x : ℕ) (p : Phase) (w : Facts) (t : Bool) (y : ℕ) (s : Place) → (t ≡ true → (w.waiting y ≡ true) × (w.ack y (next s) ≡ true) × (w.ack y (last s) ≡ true)) → Sound p w → Good x p w → Good x p (replied w t y)
good-reply x p w t y s two d g =
    record {
      told = λ r. g.told (and_right (not (t && (x == y))) (w.waiting x) r);
      stays = λ r. g.stays (and_right (not (t && (x == y))) (w.waiting x) r);
      moved = λ r. g.moved (and_right (not (t && (x == y))) (w.waiting x) r);
      left = λ r. g.left (and_right (not (t && (x == y))) (w.waiting x) r);
      past = λ r. g.past (and_right (not (t && (x == y))) (w.waiting x) r);
      acknowledged = λ a.
          elim (mark_cases t y x (w.acknowledged x) a) [
            | inl c ↦
                let h = two c.0 in
                reply-both x p w s d g (subst (λ k. w.waiting k ≡ true) (sym c.1) h.0) (subst (λ k. w.ack k (next s) ≡ true) (sym c.1) h.1) (subst (λ k. w.ack k (last s) ≡ true) (sym c.1) h.2)
            | inr c ↦ g.acknowledged c
          ];
      took = g.took;
      heard = g.heard;
    }

pub good-cut : (x : ℕ) (p : Phase) (w : Facts) (t : Bool) (i : Place) (e : ℕ) → (t ≡ true → w.sent i e ≡ false) → Sound p w → Good x p w → Good x p (cuts w t i e)
good-cut x p w t i e new d g =
    record {
      told = g.told;
      stays = g.stays;
      moved = λ r h j a f k. held-cut x p w t i e (g.moved r h j a f k);
      left = g.left;
      past = λ r h j a f. (held-cut x p w t i e (g.past r h j a f).0, (g.past r h j a f).1);
      acknowledged = λ a. (held-cut x p w t i e (g.acknowledged a).0, (g.acknowledged a).1);
      took = λ j f h.
          elim (decide (t && (same j i && (f == e)))) [
            | inl c ↦
                let q = and_right t (same j i && (f == e)) c in
                let z : w.sent j f ≡ false = subst (λ k. w.sent k f ≡ false) (sym (same_is j i (and_left (same j i) (f == e) q))) (subst (λ k. w.sent i k ≡ false) (sym (eq_is f e (and_right (same j i) (f == e) q))) (new (and_left t (same j i && (f == e)) c))) in
                apart (w.sent j f) (d.taken j f h) z
            | inr c ↦ took-list x p w.best w.list (cuts w t i e).list j f (if_false (t && (same j i && (f == e))) (w.best j) (w.list j f) c) (g.took j f h)
          ];
      heard = λ n l b j v z.
          elim (g.heard n l b j v z) [
            | inl a ↦ inl a
            | inr a ↦ inr ((λ h. missed-cut x p w t i e j (a.0.0 h), a.0.1, a.0.2), a.1)
          ];
    }
  where
    took-list : (x : ℕ) (p : Phase) (b : Place → ℕ) (list new : Place → ℕ → ℕ) (j : Place) (f : ℕ) → new j f ≡ list j f → Took x p b list j f → Took x p b new j f
    took-list x Whole b list new j f e h = tt
    took-list x (Down r) b list new j f e h = tt
    took-list x (Unsettled r) b list new j f e h = λ z. h (subst (λ k. x ≤ k) e z)

pub good-merge : (x : ℕ) (p : Phase) (w : Facts) (i : Place) (e : ℕ) → Good x p w → Good x p (merges p w (may_come p w i e) i e)
good-merge x Whole w i e g = g
good-merge x (Down r) w i e g = g
good-merge x (Unsettled r) w i e g = go (w.knows r && w.sent i e)
  where
    go : (t : Bool) → Good x (Unsettled r) (merges (Unsettled r) w t i e)
    go false = g
    go true =
        let h : Good x (Unsettled r) (record w { best = grown true r (w.list i e) w.best }) =
        good-more x (Unsettled r) w (grown true r (w.list i e) w.best) w.old w.outlived (λ j y. grown-more true r (w.list i e) w.best j x y) (λ k y. y) g
        in
        record {
          told = h.told;
          stays = h.stays;
          moved = h.moved;
          left = h.left;
          past = h.past;
          acknowledged = h.acknowledged;
          took = λ j f z.
              elim (cut_cases true i e j f (w.took j f) z) [
                | inl c ↦ λ y.
                    let a : w.list i e ≤ grown true r (w.list i e) w.best r = grown-has true r (w.list i e) w.best refl in
                    let b : x ≤ w.list i e = subst (λ k. x ≤ w.list i k) c.2 (subst (λ k. x ≤ w.list k f) c.1 y) in
                    omega (arith, a, b)
                | inr c ↦ h.took j f c
              ];
          heard = h.heard;
        }
