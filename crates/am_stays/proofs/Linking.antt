-- Places follow instances.
use Rattle.std.proofs.Common.{◌≡◌, ℕ, suc, ◌<◌, ◌≤◌, Bool, true, false, not, ◌&&◌, ◌||◌, if◌then◌else◌, ◌⊎◌, inl, inr, refl, subst, sym, ap, arith, ◌∙◌}
use Rattle.std.specs.Prelude.{nat_lt, ◌==◌}
use Rattle.std.proofs.lemmas.Bool.Decides.{nat_tests}
use Rattle.am_stays.specs.Places.{Place, same}
use Rattle.am_stays.proofs.Phases.{Phase, Whole, Down, Unsettled, is_up, is_lacking}
use Rattle.am_stays.proofs.Machine.{Facts, replaces, crashes, restarts, may_return, restarted}
use Rattle.am_stays.proofs.Links.{Links, IsGoing}
use Rattle.am_stays.proofs.Tables.{and_false, and_left, and_right, apart, decide, same_is, same_refl, eq_is, eq_refl, eq_true, not_eq, if_true, if_false}

lt_true : (m n : ℕ) → m < n → nat_lt m n ≡ true
lt_true m n h = grind (arith, nat_tests, h)

and_true : (a b : Bool) → a ≡ true → (a && b) ≡ b
and_true true b e = refl
and_true false b e = cc

swap : (a b : Bool) → (a && b) ≡ (b && a)
swap true true = refl
swap true false = refl
swap false true = refl
swap false false = refl

pub going : (p : Phase) (w : Facts) (member : ℕ → Place → ℕ) (known : ℕ → ℕ) (up : ℕ → Bool) → Links p w member known up → IsGoing p w member known up
going p w member known up l g i h =
    elim (decide (g == w.era)) [
      | inl now ↦ if_true (g == w.era) (w.knows i && is_up p i) (nat_lt g w.era && (if same i (w.changed (suc g)) then w.lingers (suc g) else (suc g == w.era) && not (w.knows i))) now ∙ now_ (eq_is g w.era now)
      | inr past ↦
          if_false (g == w.era) (w.knows i && is_up p i) (nat_lt g w.era && (if same i (w.changed (suc g)) then w.lingers (suc g) else (suc g == w.era) && not (w.knows i))) past
          ∙ (and_true (nat_lt g w.era) (if same i (w.changed (suc g)) then w.lingers (suc g) else (suc g == w.era) && not (w.knows i)) (lt_true g w.era (before_ past)) ∙ past_ (before_ past))
    ]
  where
    before_ : (g == w.era) ≡ false → g < w.era
    before_ past =
        let choice : (g ≡ w.era) ⊎ (g < w.era) = grind (arith, h) in
        elim choice [ inl a ↦ apart (g == w.era) (eq_true g w.era a) past | inr a ↦ a ]

    now_ : g ≡ w.era → (w.knows i && is_up p i) ≡ (up (member g i) && (known (member g i) == g))
    now_ e = subst (λ k. (w.knows i && is_up p i) ≡ (up (member k i) && (known (member k i) == k))) (sym e)
        (elim (decide (w.knows i)) [
          | inl a ↦ and_true (w.knows i) (is_up p i) a ∙ (l.here i a ∙ (sym (and_true (known (member w.era i) == w.era) (up (member w.era i)) (sym (l.knows i) ∙ a)) ∙ swap (known (member w.era i) == w.era) (up (member w.era i))))
          | inr a ↦ rw a (sym (and_false (up (member w.era i)) (known (member w.era i) == w.era) (sym (l.knows i) ∙ a)))
        ])

    -- who kept its place when g ended is the same one in the next era
    kept_ : g < w.era → same i (w.changed (suc g)) ≡ false → suc g ≡ w.era → w.knows i ≡ (known (member g i) == w.era)
    kept_ q f e = l.knows i ∙ ap (λ k. known k == w.era) (subst (λ k. member k i ≡ member g i) e (l.stays g i q f))

    stay_ : g < w.era → same i (w.changed (suc g)) ≡ false → ((suc g == w.era) && not (w.knows i)) ≡ (up (member g i) && (known (member g i) == g))
    stay_ q f =
        let choice : (suc g ≡ w.era) ⊎ (suc g < w.era) = grind (arith, q) in
        elim choice [
          | inl e ↦ last_ q f e
          | inr e ↦
              let ripe : suc g ≤ known (member g i) = subst (λ k. suc g ≤ known k) (l.stays g i q f) (l.ripe (suc g) i e) in
              rw (not_eq (suc g) w.era e) (sym (and_false (up (member g i)) (known (member g i) == g) (subst (λ k. k ≡ false) (same_eq g (known (member g i))) (not_eq g (known (member g i)) (omega (arith, ripe))))))
        ]
      where
        same_eq : (m n : ℕ) → (m == n) ≡ (n == m)
        same_eq m n = elim (decide (m == n)) [
          | inl a ↦ a ∙ sym (eq_true n m (sym (eq_is m n a)))
          | inr a ↦ elim (decide (n == m)) [ inl b ↦ apart (m == n) (eq_true m n (sym (eq_is n m b))) a | inr b ↦ a ∙ sym b ]
        ]

        last_ : g < w.era → same i (w.changed (suc g)) ≡ false → suc g ≡ w.era → ((suc g == w.era) && not (w.knows i)) ≡ (up (member g i) && (known (member g i) == g))
        last_ q f e =
            let k = kept_ q f e in
            elim (decide (known (member g i) == g)) [
              | inl a ↦
                  let z : w.knows i ≡ false = k ∙ not_eq (known (member g i)) w.era (omega (arith, eq_is (known (member g i)) g a, q)) in
                  let u : up (member g i) ≡ true = subst (λ m. up m ≡ true) (subst (λ m. member m i ≡ member g i) e (l.stays g i q f)) (l.waits i z (subst (λ m. same i (w.changed m) ≡ false) e f)) in
                  rw (eq_true (suc g) w.era e, z, a, u)
              | inr a ↦
                  let ge : g ≤ known (member g i) = l.ripe g i q in
                  let le : known (member g i) ≤ w.era = l.least (member g i) in
                  let choice : (known (member g i) ≡ g) ⊎ (known (member g i) ≡ w.era) = grind (arith, ge, le, e) in
                  elim choice [
                    | inl b ↦ apart (known (member g i) == g) (eq_true (known (member g i)) g b) a
                    | inr b ↦ rw (eq_true (suc g) w.era e, k ∙ eq_true (known (member g i)) w.era b, a) (sym (and_false (up (member g i)) false refl))
                  ]
            ]

    past_ : g < w.era → (if same i (w.changed (suc g)) then w.lingers (suc g) else (suc g == w.era) && not (w.knows i)) ≡ (up (member g i) && (known (member g i) == g))
    past_ q =
        elim (decide (same i (w.changed (suc g)))) [
          | inl a ↦ if_true (same i (w.changed (suc g))) (w.lingers (suc g)) ((suc g == w.era) && not (w.knows i)) a ∙ subst (λ k. w.lingers (suc g) ≡ (up (member g k) && (known (member g k) == g))) (sym (same_is i (w.changed (suc g)) a)) (l.lingers g q)
          | inr a ↦ if_false (same i (w.changed (suc g))) (w.lingers (suc g)) ((suc g == w.era) && not (w.knows i)) a ∙ stay_ q a
        ]

-- another instance i gets place r: by its join, or by the leave of who has it
pub step-replace : (w : Facts) (member new : ℕ → Place → ℕ) (known later : ℕ → ℕ) (up then_ : ℕ → Bool) (r : Place) (i : ℕ) (joins : Bool) → Links Whole w member known up → ((q : Place) → w.knows q ≡ true) → ((g : ℕ) (q : Place) → g ≤ w.era → new g q ≡ member g q) → new (suc w.era) r ≡ i → ((q : Place) → same q r ≡ false → new (suc w.era) q ≡ member w.era q) → ((q : Place) → member w.era q ≡ i → ⊥) → ((j : ℕ) → known j ≤ later j) → ((j : ℕ) → later j ≤ suc w.era) → ((q : Place) → later (member w.era q) ≡ w.era) → (later i == suc w.era) ≡ joins → ((q : Place) → same q r ≡ false → then_ (member w.era q) ≡ true) → then_ (member w.era r) ≡ joins → (joins ≡ true → then_ i ≡ true) → ((j g : ℕ) → g < w.era → (then_ j && (later j == g)) ≡ (up j && (known j == g))) → Links (Unsettled r) (replaces w true r joins) new later then_
step-replace w member new known later up then_ r i joins l all m1 m2 m3 apart_ k1 k2 k3 k4 u1 u2 u3 old =
    record {
      least = k2;
      ripe = λ g q h. rw (m1 g q (omega arith)) (grows g q (omega arith));
      stays = λ g q h f. stay g q (omega arith) f;
      news = λ g q h e. fresh g q (omega arith) e;
      distinct = λ g q s h e. differ g q s h e;
      knows = know;
      lingers = λ g h. linger g (omega arith);
      here = λ q h.
          let a : same q r ≡ true = and_right joins (same q r) h in
          let b : joins ≡ true = and_left joins (same q r) h in
          sym (subst (λ k. then_ (new (suc w.era) k) ≡ true) (sym (same_is q r a)) (subst (λ k. then_ k ≡ true) (sym m2) (u3 b)));
      waits = λ q h f. subst (λ k. then_ k ≡ true) (sym (m3 q (not_r q f))) (u1 q (not_r q f));
    }
  where
    role_now : (if suc w.era == suc w.era then r else w.changed (suc w.era)) ≡ r
    role_now = if_true (suc w.era == suc w.era) r (w.changed (suc w.era)) (eq_refl (suc w.era))

    role_old : (g : ℕ) → g < w.era → (if suc g == suc w.era then r else w.changed (suc g)) ≡ w.changed (suc g)
    role_old g h = if_false (suc g == suc w.era) r (w.changed (suc g)) (not_eq (suc g) (suc w.era) (omega arith))

    not_r : (q : Place) → same q (if suc w.era == suc w.era then r else w.changed (suc w.era)) ≡ false → same q r ≡ false
    not_r q f = subst (λ k. same q k ≡ false) role_now f

    grows : (g : ℕ) (q : Place) → g ≤ w.era → g ≤ later (member g q)
    grows g q h =
        let choice : (g < w.era) ⊎ (g ≡ w.era) = grind (arith, h) in
        elim choice [
          | inl a ↦ omega (arith, l.ripe g q a, k1 (member g q))
          | inr a ↦ subst (λ k. k ≤ later (member k q)) (sym a) (omega (arith, k3 q))
        ]

    stay : (g : ℕ) (q : Place) → g ≤ w.era → same q (if suc g == suc w.era then r else w.changed (suc g)) ≡ false → new (suc g) q ≡ new g q
    stay g q h f =
        let choice : (g < w.era) ⊎ (g ≡ w.era) = grind (arith, h) in
        elim choice [
          | inl a ↦ m1 (suc g) q (omega arith) ∙ (l.stays g q a (subst (λ k. same q k ≡ false) (role_old g a) f) ∙ sym (m1 g q h))
          | inr a ↦
              let f' : same q r ≡ false = subst (λ k. same q k ≡ false) (if_true (suc g == suc w.era) r (w.changed (suc g)) (eq_true (suc g) (suc w.era) (omega (arith, a)))) f in
              subst (λ k. new (suc k) q ≡ new k q) (sym a) (m3 q f' ∙ sym (m1 w.era q (omega arith)))
        ]

    fresh : (g : ℕ) (q : Place) → g ≤ w.era → new (suc g) (if suc g == suc w.era then r else w.changed (suc g)) ≡ new g q → ⊥
    fresh g q h e =
        let choice : (g < w.era) ⊎ (g ≡ w.era) = grind (arith, h) in
        elim choice [
          | inl a ↦ l.news g q a (sym (m1 (suc g) (w.changed (suc g)) (omega arith)) ∙ (subst (λ k. new (suc g) k ≡ new g q) (role_old g a) e ∙ m1 g q h))
          | inr a ↦ apart_ q (sym (m1 w.era q (omega arith)) ∙ (sym (subst (λ k. new (suc k) r ≡ new k q) a (subst (λ k. new (suc g) k ≡ new g q) (if_true (suc g == suc w.era) r (w.changed (suc g)) (eq_true (suc g) (suc w.era) (omega (arith, a)))) e)) ∙ m2))
        ]

    differ : (g : ℕ) (q s : Place) → g ≤ suc w.era → new g q ≡ new g s → same q s ≡ true
    differ g q s h e =
        let choice : (g ≤ w.era) ⊎ (g ≡ suc w.era) = grind (arith, h) in
        elim choice [
          | inl a ↦ l.distinct g q s a (sym (m1 g q a) ∙ (e ∙ m1 g s a))
          | inr a ↦ last_ (subst (λ k. new k q ≡ new k s) a e)
        ]
      where
        last_ : new (suc w.era) q ≡ new (suc w.era) s → same q s ≡ true
        last_ z =
            elim (decide (same q r)) [
              | inl b ↦
                  elim (decide (same s r)) [
                    | inl c ↦ subst (λ k. same q k ≡ true) (sym (same_is s r c)) b
                    | inr c ↦ absurd (apart_ s (sym (m3 s c) ∙ (sym z ∙ subst (λ k. new (suc w.era) k ≡ i) (sym (same_is q r b)) m2)))
                  ]
              | inr b ↦
                  elim (decide (same s r)) [
                    | inl c ↦ absurd (apart_ q (sym (m3 q b) ∙ (z ∙ subst (λ k. new (suc w.era) k ≡ i) (sym (same_is s r c)) m2)))
                    | inr c ↦ l.distinct w.era q s (omega arith) (sym (m3 q b) ∙ (z ∙ m3 s c))
                  ]
            ]

    know : (q : Place) → (joins && same q r) ≡ (later (new (suc w.era) q) == suc w.era)
    know q =
        elim (decide (same q r)) [
          | inl a ↦ subst (λ k. (joins && same k r) ≡ (later (new (suc w.era) k) == suc w.era)) (sym (same_is q r a)) (subst (λ k. (joins && same r r) ≡ (later k == suc w.era)) (sym m2) (rw (same_refl r, k4) (swap joins true)))
          | inr a ↦ and_false joins (same q r) a ∙ sym (subst (λ k. (later k == suc w.era) ≡ false) (sym (m3 q a)) (not_eq (later (member w.era q)) (suc w.era) (omega (arith, k3 q))))
        ]

    linger : (g : ℕ) → g ≤ w.era → (if suc g == suc w.era then joins else w.lingers (suc g)) ≡ (then_ (new g (if suc g == suc w.era then r else w.changed (suc g))) && (later (new g (if suc g == suc w.era then r else w.changed (suc g))) == g))
    linger g h =
        let choice : (g < w.era) ⊎ (g ≡ w.era) = grind (arith, h) in
        elim choice [
          | inl a ↦
              if_false (suc g == suc w.era) joins (w.lingers (suc g)) (not_eq (suc g) (suc w.era) (omega (arith, a)))
              ∙ (l.lingers g a
              ∙ (sym (old (member g (w.changed (suc g))) g a)
              ∙ sym (subst (λ k. (then_ (new g k) && (later (new g k) == g)) ≡ (then_ (member g (w.changed (suc g))) && (later (member g (w.changed (suc g))) == g))) (sym (role_old g a)) (ap (λ k. then_ k && (later k == g)) (m1 g (w.changed (suc g)) h)))))
          | inr a ↦
              let t : (suc g == suc w.era) ≡ true = eq_true (suc g) (suc w.era) (omega (arith, a)) in
              let m : new g r ≡ member w.era r = subst (λ k. new k r ≡ member w.era r) (sym a) (m1 w.era r (omega arith)) in
              let e : (later (member w.era r) == g) ≡ true = eq_true (later (member w.era r)) g (omega (arith, a, k3 r)) in
              if_true (suc g == suc w.era) joins (w.lingers (suc g)) t
              ∙ sym (subst (λ k. (then_ (new g k) && (later (new g k) == g)) ≡ joins) (sym (if_true (suc g == suc w.era) r (w.changed (suc g)) t))
              (ap (λ k. then_ k && (later k == g)) m ∙ (swap (then_ (member w.era r)) (later (member w.era r) == g) ∙ (and_true (later (member w.era r) == g) (then_ (member w.era r)) e ∙ u2))))
        ]

-- nothing happens to the three, nor to who lost its place and hasn't learned it
pub step-other : (p : Phase) (w : Facts) (member : ℕ → Place → ℕ) (known later : ℕ → ℕ) (up then_ : ℕ → Bool) → Links p w member known up → ((j : ℕ) → known j ≤ later j) → ((j : ℕ) → later j ≤ w.era) → ((q : Place) → (later (member w.era q) == w.era) ≡ (known (member w.era q) == w.era)) → ((q : Place) → then_ (member w.era q) ≡ up (member w.era q)) → ((g : ℕ) → g < w.era → (then_ (member g (w.changed (suc g))) && (later (member g (w.changed (suc g))) == g)) ≡ (up (member g (w.changed (suc g))) && (known (member g (w.changed (suc g))) == g))) → Links p w member later then_
step-other p w member known later up then_ l k1 k2 k3 u old =
    record {
      least = k2;
      ripe = λ g q h. omega (arith, l.ripe g q h, k1 (member g q));
      stays = l.stays;
      news = l.news;
      distinct = l.distinct;
      knows = λ q. l.knows q ∙ sym (k3 q);
      lingers = λ g h. l.lingers g h ∙ sym (old g h);
      here = λ q h. l.here q h ∙ sym (u q);
      waits = λ q h f. u q ∙ l.waits q h f;
    }

-- who lost its place when era suc h began learns so, crashes or leaves
pub step-out : (p : Phase) (w : Facts) (h : ℕ) (member : ℕ → Place → ℕ) (known later : ℕ → ℕ) (up then_ : ℕ → Bool) → Links p w member known up → ((j : ℕ) → known j ≤ later j) → ((j : ℕ) → later j ≤ w.era) → ((q : Place) → (later (member w.era q) == w.era) ≡ (known (member w.era q) == w.era)) → ((q : Place) → then_ (member w.era q) ≡ up (member w.era q)) → ((g : ℕ) → g < w.era → (g ≡ h → ⊥) → (then_ (member g (w.changed (suc g))) && (later (member g (w.changed (suc g))) == g)) ≡ (up (member g (w.changed (suc g))) && (known (member g (w.changed (suc g))) == g))) → (then_ (member h (w.changed (suc h))) && (later (member h (w.changed (suc h))) == h)) ≡ false → Links p (record w { lingers = λ k. not (k == suc h) && w.lingers k }) member later then_
step-out p w h member known later up then_ l k1 k2 k3 u old none =
    record {
      least = k2;
      ripe = λ g q z. omega (arith, l.ripe g q z, k1 (member g q));
      stays = l.stays;
      news = l.news;
      distinct = l.distinct;
      knows = λ q. l.knows q ∙ sym (k3 q);
      lingers = λ g z.
          elim (decide (suc g == suc h)) [
            | inl a ↦
                let e : g ≡ h = omega (arith, eq_is (suc g) (suc h) a) in
                rw a (sym (subst (λ k. (then_ (member k (w.changed (suc k))) && (later (member k (w.changed (suc k))) == k)) ≡ false) (sym e) none))
            | inr a ↦ rw a (l.lingers g z ∙ sym (old g z (λ e. apart (suc g == suc h) (eq_true (suc g) (suc h) (omega (arith, e))) a)))
          ];
      here = λ q z. l.here q z ∙ sym (u q);
      waits = λ q z f. u q ∙ l.waits q z f;
    }

-- the instance of place s learns the present era
pub step-learn : (p : Phase) (w : Facts) (s : Place) (member : ℕ → Place → ℕ) (known later : ℕ → ℕ) (up : ℕ → Bool) → Links p w member known up → is_up p s ≡ true → up (member w.era s) ≡ true → ((j : ℕ) → known j ≤ later j) → ((j : ℕ) → later j ≤ w.era) → later (member w.era s) ≡ w.era → ((q : Place) → same q s ≡ false → later (member w.era q) ≡ known (member w.era q)) → ((g : ℕ) → g < w.era → (up (member g (w.changed (suc g))) && (later (member g (w.changed (suc g))) == g)) ≡ (up (member g (w.changed (suc g))) && (known (member g (w.changed (suc g))) == g))) → Links p (record w { knows = λ q. same q s || w.knows q }) member later up
step-learn p w s member known later up l on there k1 k2 k3 k4 old =
    record {
      least = k2;
      ripe = λ g q h. omega (arith, l.ripe g q h, k1 (member g q));
      stays = l.stays;
      news = l.news;
      distinct = l.distinct;
      knows = λ q.
          elim (decide (same q s)) [
            | inl a ↦ rw a (sym (subst (λ k. (later (member w.era k) == w.era) ≡ true) (sym (same_is q s a)) (eq_true (later (member w.era s)) w.era k3)))
            | inr a ↦ rw a (l.knows q ∙ ap (λ k. k == w.era) (sym (k4 q a)))
          ];
      lingers = λ g h. l.lingers g h ∙ sym (old g h);
      here = λ q h.
          elim (decide (same q s)) [
            | inl a ↦ subst (λ k. is_up p k ≡ up (member w.era k)) (sym (same_is q s a)) (on ∙ sym there)
            | inr a ↦ l.here q (subst (λ c. (c || w.knows q) ≡ true) a h)
          ];
      waits = λ q h f.
          elim (decide (same q s)) [
            | inl a ↦ subst (λ k. up (member w.era k) ≡ true) (sym (same_is q s a)) there
            | inr a ↦ l.waits q (subst (λ c. (c || w.knows q) ≡ false) a h) f
          ];
    }

-- the instance of place r crashes
pub step-crash : (w : Facts) (r : Place) (member : ℕ → Place → ℕ) (known : ℕ → ℕ) (up then_ : ℕ → Bool) → Links Whole w member known up → ((q : Place) → w.knows q ≡ true) → then_ (member w.era r) ≡ false → ((q : Place) → same q r ≡ false → then_ (member w.era q) ≡ up (member w.era q)) → ((g : ℕ) → g < w.era → (then_ (member g (w.changed (suc g))) && (known (member g (w.changed (suc g))) == g)) ≡ (up (member g (w.changed (suc g))) && (known (member g (w.changed (suc g))) == g))) → Links (Down r) (crashes w true r) member known then_
step-crash w r member known up then_ l all u1 u2 old =
    record {
      least = l.least;
      ripe = l.ripe;
      stays = l.stays;
      news = l.news;
      distinct = l.distinct;
      knows = l.knows;
      lingers = λ g h. l.lingers g h ∙ sym (old g h);
      here = λ q h.
          elim (decide (same q r)) [
            | inl a ↦ rw a (sym (subst (λ k. then_ (member w.era k) ≡ false) (sym (same_is q r a)) u1))
            | inr a ↦ rw a (l.here q h ∙ sym (u2 q a))
          ];
      waits = λ q h f. apart (w.knows q) (all q) h;
    }

-- the instance of place r, which was down, is restarted
pub step-restart : (p : Phase) (w : Facts) (r : Place) (member : ℕ → Place → ℕ) (known later : ℕ → ℕ) (up then_ : ℕ → Bool) → Links p w member known up → may_return p w ≡ true → ((q : Place) → is_lacking p q ≡ same q r) → restarted p ≡ Unsettled r → ((q : Place) → same q r ≡ false → is_up p q ≡ true) → ((j : ℕ) → known j ≤ later j) → ((j : ℕ) → later j ≤ w.era) → later (member w.era r) ≡ w.era → ((q : Place) → same q r ≡ false → later (member w.era q) ≡ known (member w.era q)) → then_ (member w.era r) ≡ true → ((q : Place) → same q r ≡ false → then_ (member w.era q) ≡ up (member w.era q)) → ((g : ℕ) → g < w.era → (then_ (member g (w.changed (suc g))) && (later (member g (w.changed (suc g))) == g)) ≡ (up (member g (w.changed (suc g))) && (known (member g (w.changed (suc g))) == g))) → Links (restarted p) (restarts p w (may_return p w)) member later then_
step-restart p w r member known later up then_ l t lack weak others k1 k2 k3 k4 u1 u2 old =
    record {
      least = k2;
      ripe = λ g q h. omega (arith, l.ripe g q h, k1 (member g q));
      stays = l.stays;
      news = l.news;
      distinct = l.distinct;
      knows = λ q. new q ∙ know q;
      lingers = λ g h. l.lingers g h ∙ sym (old g h);
      here = λ q h.
          subst (λ k. is_up k q ≡ then_ (member w.era q)) (sym weak)
          (elim (decide (same q r)) [
            | inl a ↦ sym (subst (λ k. then_ (member w.era k) ≡ true) (sym (same_is q r a)) u1)
            | inr a ↦ sym (u2 q a ∙ (sym (l.here q (knew q a (sym (new q) ∙ h))) ∙ others q a))
          ]);
      waits = λ q h f.
          elim (decide (same q r)) [
            | inl a ↦ subst (λ k. then_ (member w.era k) ≡ true) (sym (same_is q r a)) u1
            | inr a ↦ u2 q a ∙ l.waits q (subst (λ c. (c || w.knows q) ≡ false) a (sym (new q) ∙ h)) f
          ];
    }
  where
    new : (q : Place) → ((may_return p w && is_lacking p q) || w.knows q) ≡ (same q r || w.knows q)
    new q = subst (λ c. ((c && is_lacking p q) || w.knows q) ≡ (same q r || w.knows q)) (sym t) (subst (λ c. (c || w.knows q) ≡ (same q r || w.knows q)) (sym (lack q)) refl)

    know : (q : Place) → (same q r || w.knows q) ≡ (later (member w.era q) == w.era)
    know q =
        elim (decide (same q r)) [
          | inl a ↦ rw a (sym (subst (λ k. (later (member w.era k) == w.era) ≡ true) (sym (same_is q r a)) (eq_true (later (member w.era r)) w.era k3)))
          | inr a ↦ rw a (l.knows q ∙ ap (λ k. k == w.era) (sym (k4 q a)))
        ]

    knew : (q : Place) → same q r ≡ false → (same q r || w.knows q) ≡ true → w.knows q ≡ true
    knew q a h = subst (λ c. (c || w.knows q) ≡ true) a h
