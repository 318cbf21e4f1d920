-- The machine does what the cluster does, where an instance takes an item or drops the key.
use Rattle.std.proofs.Common.{◌≡◌, ℕ, suc, ◌≤◌, max, Bool, true, false, not, ◌&&◌, ◌||◌, if◌then◌else◌, ◌⊎◌, inl, inr, refl, subst, sym, ap, arith, ◌∙◌}
use Rattle.std.specs.Prelude.{◌==◌}
use Rattle.am_stays.specs.Places.{Place, same}
use Rattle.am_stays.proofs.Phases.{Phase, Whole}
use Rattle.am_stays.proofs.Machine.{Facts, World, retires, Put_arrives, Accept, Retire, goes_by, stays, best_of, holds, happens, start}
use Rattle.am_stays.proofs.GoingBy.{le_era, one_place}
use Rattle.am_stays.specs.Shadow.{Shadow, is_member, after_put, after_accept, after_retire, shadow_start}
use Rattle.am_stays.proofs.Tied.{Tied}
use Rattle.am_stays.proofs.Members.{member_is}
use Rattle.am_stays.proofs.Tables.{and_left, and_right, or_cases, or_left, or_right, or_false_right, not_true, apart, decide, same_is, same_refl, eq_is, eq_refl, eq_true, if_true, if_false, and_both, differ}
use Rattle.am_stays.proofs.Events.{Now, Lost, Stays, goes_cases, best-here, best-left}
use Rattle.am_stays.proofs.Runs.{Fine}
use Rattle.am_stays.proofs.TiedRequests.{there}

stays_false : (w : Facts) (g : ℕ) (i : Place) → stays w g i ≡ false → same i (w.changed (suc g)) ≡ true
stays_false w g i e =
    elim (decide (same i (w.changed (suc g)))) [
      | inl a ↦ a
      | inr a ↦ apart (not (same i (w.changed (suc g)))) (rw a) (or_false_right (g == w.era) (not (same i (w.changed (suc g)))) e)
    ]

lost_place : (w : Facts) (g : ℕ) (i : Place) → (g == w.era) ≡ false → same i (w.changed (suc g)) ≡ true → stays w g i ≡ false
lost_place w g i e f = rw (e, f)

-- one place has one era in which it is used
same_era : (p : Phase) (w : Facts) (g h : ℕ) (i : Place) → goes_by p w g i ≡ true → goes_by p w h i ≡ true → stays w g i ≡ true → stays w h i ≡ true → g ≡ h
same_era p w g h i a b c d = go (goes_cases p w g i a) (goes_cases p w h i b)
  where
    go : Now p w g i ⊎ (Lost p w g i ⊎ Stays p w g i) → Now p w h i ⊎ (Lost p w h i ⊎ Stays p w h i) → g ≡ h
    go (inl x) (inl y) = x.1 ∙ sym y.1
    go (inl x) (inr (inl y)) = apart (stays w h i) d (lost_place w h i y.0 y.2)
    go (inl x) (inr (inr y)) = apart (w.knows i) x.2 y.3
    go (inr (inl x)) y = apart (stays w g i) c (lost_place w g i x.0 x.2)
    go (inr (inr x)) (inl y) = apart (w.knows i) y.2 x.3
    go (inr (inr x)) (inr (inl y)) = apart (stays w h i) d (lost_place w h i y.0 y.2)
    go (inr (inr x)) (inr (inr y)) = omega (arith, x.2, y.2)

acks-new : (t : Bool) (x : ℕ) (i : Place) (ack : ℕ → Place → Bool) → t ≡ true → ((t && ((x == x) && same i i)) || ack x i) ≡ true
acks-new t x i ack e = or_left (t && ((x == x) && same i i)) (ack x i) (and_both t ((x == x) && same i i) e (and_both (x == x) (same i i) (eq_refl x) (same_refl i)))

-- what each holds after (g, i) takes x
holds-same : (w : Facts) (g : ℕ) (i : Place) (x : ℕ) → best_of (holds w true g i x) g i ≡ max (best_of w g i) x
holds-same w g i x =
    elim (decide (stays w g i)) [
      | inl a ↦
          if_true (stays w g i) ((holds w true g i x).best i) ((holds w true g i x).old (suc g)) a
          ∙ (if_true (stays w g i && same i i) (max (w.best i) x) (w.best i) (and_both (stays w g i) (same i i) a (same_refl i))
          ∙ ap (λ k. max k x) (sym (best-here w g i a)))
      | inr a ↦
          if_false (stays w g i) ((holds w true g i x).best i) ((holds w true g i x).old (suc g)) a
          ∙ (if_true (not (stays w g i) && (suc g == suc g)) (max (w.old (suc g)) x) (w.old (suc g)) (and_both (not (stays w g i)) (suc g == suc g) (rw a) (eq_refl (suc g)))
          ∙ ap (λ k. max k x) (sym (best-left w g i a)))
    ]

-- what one instance takes or drops, no other does: b and o are what becomes of the one
keeps-other : (p : Phase) (w : Facts) (g h : ℕ) (i q : Place) (b : Place → ℕ) (o : ℕ → ℕ) → goes_by p w g i ≡ true → goes_by p w h q ≡ true → (h ≡ g → q ≡ i → ⊥) → (if stays w h q then (if stays w g i && same q i then b q else w.best q) else (if not (stays w g i) && (suc h == suc g) then o (suc h) else w.old (suc h))) ≡ best_of w h q
keeps-other p w g h i q b o on there_ other =
    elim (decide (stays w h q)) [
      | inl c ↦
          if_true (stays w h q) (if stays w g i && same q i then b q else w.best q) (if not (stays w g i) && (suc h == suc g) then o (suc h) else w.old (suc h)) c
          ∙ (if_false (stays w g i && same q i) (b q) (w.best q) (best_ c) ∙ sym (best-here w h q c))
      | inr c ↦
          if_false (stays w h q) (if stays w g i && same q i then b q else w.best q) (if not (stays w g i) && (suc h == suc g) then o (suc h) else w.old (suc h)) c
          ∙ (if_false (not (stays w g i) && (suc h == suc g)) (o (suc h)) (w.old (suc h)) (old_ c) ∙ sym (best-left w h q c))
    ]
  where
    best_ : stays w h q ≡ true → (stays w g i && same q i) ≡ false
    best_ c =
        elim (decide (stays w g i && same q i)) [
          | inr e ↦ e
          | inl e ↦
              let z = same_is q i (and_right (stays w g i) (same q i) e) in
              absurd (other (same_era p w h g i (subst (λ k. goes_by p w h k ≡ true) z there_) on (subst (λ k. stays w h k ≡ true) z c) (and_left (stays w g i) (same q i) e)) z)
        ]

    old_ : stays w h q ≡ false → (not (stays w g i) && (suc h == suc g)) ≡ false
    old_ c =
        elim (decide (not (stays w g i) && (suc h == suc g))) [
          | inr e ↦ e
          | inl e ↦
              let z : h ≡ g = omega (arith, eq_is (suc h) (suc g) (and_right (not (stays w g i)) (suc h == suc g) e)) in
              let m = stays_false w g i (not_true (stays w g i) (and_left (not (stays w g i)) (suc h == suc g) e)) in
              let n = stays_false w h q c in
              absurd (other z (same_is q (w.changed (suc h)) n ∙ (ap (λ k. w.changed (suc k)) z ∙ sym (same_is i (w.changed (suc g)) m))))
        ]

holds-other : (p : Phase) (w : Facts) (g h : ℕ) (i q : Place) (x : ℕ) → goes_by p w g i ≡ true → goes_by p w h q ≡ true → (h ≡ g → q ≡ i → ⊥) → best_of (holds w true g i x) h q ≡ best_of w h q
holds-other p w g h i q x a b other = keeps-other p w g h i q (λ j. max (w.best j) x) (λ k. max (w.old k) x) a b other

pub held-holds : (s : Shadow) (w : World) (g : ℕ) (i : Place) (j x : ℕ) → Tied s w → g ≤ w.facts.era → s.member g i ≡ j → s.era_of (s.known j) ≡ g → goes_by w.phase w.facts g i ≡ true → (h : ℕ) (q : Place) → goes_by w.phase w.facts h q ≡ true → (if s.member h q == j then max (s.held j) x else s.held (s.member h q)) ≡ best_of (holds w.facts true g i x) h q
held-holds s w g i j x d l m e on h q z =
    elim (decide (s.member h q == j)) [
      | inl c ↦
          let o = one_place s w g h i q j d l m e z (eq_is (s.member h q) j c) in
          if_true (s.member h q == j) (max (s.held j) x) (s.held (s.member h q)) c
          ∙ subst (λ b. max (s.held j) x ≡ best_of (holds w.facts true g i x) b q) (sym o.0)
          (subst (λ b. max (s.held j) x ≡ best_of (holds w.facts true g i x) g b) (sym o.1)
          (ap (λ b. max b x) (ap s.held (sym m) ∙ d.held g i on) ∙ sym (holds-same w.facts g i x)))
      | inr c ↦
          if_false (s.member h q == j) (max (s.held j) x) (s.held (s.member h q)) c
          ∙ (d.held h q z ∙ sym (holds-other w.phase w.facts g h i q x on z (λ k y. apart (s.member h q == j) (eq_true (s.member h q) j (subst (λ b. s.member b q ≡ j) (sym k) (subst (λ b. s.member g b ≡ j) (sym y) m))) c)))
    ]

-- the Put of x comes to instance j, at place i
pub tied-put : (s : Shadow) (w : World) (x j : ℕ) (i : Place) → Fine w → Tied s w → s.put x ≡ true → s.up j ≡ true → s.known j ≡ s.epoch (s.by x) → s.member (s.era_of (s.known j)) i ≡ j → Tied (after_put s x j) (happens w (Put_arrives x i))
tied-put s w x j i f d a u k m =
    record {
      links = d.links;
      held = λ h q z. subst (λ c. (if s.member h q == j then max (s.held j) x else s.held (s.member h q)) ≡ best_of (holds w.facts c g i x) h q) (sym t_true) (held-holds s w g i j x d (f.sound.write_era x) m' era on h q z);
      settles = d.settles;
      outlived = d.outlived;
      asking = d.asking;
      writing =
          record {
            put = d.writing.put;
            write_era = d.writing.write_era;
            by = d.writing.by;
            waiting = d.writing.waiting;
            ack = λ y z h.
                elim (or_cases ((y == x) && (z == j)) (s.ack y z) h) [
                  | inl c ↦
                      let e1 = eq_is y x (and_left (y == x) (z == j) c) in
                      let e2 = eq_is z j (and_right (y == x) (z == j) c) in
                      (i, subst (λ b. s.member (w.facts.write_era b) i ≡ z) (sym e1) (m' ∙ sym e2), subst (λ b. w2.ack b i ≡ true) (sym e1) (acks-new t x i w.facts.ack t_true))
                  | inr c ↦
                      let o = d.writing.ack y z c in
                      (o.0, o.1, or_right (t && ((y == x) && same o.0 i)) (w.facts.ack y o.0) o.2)
                ];
            acknowledged = d.writing.acknowledged;
          };
      states = d.states;
    }
  where
    w2 : Facts
    w2 = (happens w (Put_arrives x i)).facts

    g : ℕ
    g = w.facts.write_era x

    era : s.era_of (s.known j) ≡ g
    era = ap s.era_of k ∙ sym (d.writing.write_era x a)

    m' : s.member g i ≡ j
    m' = subst (λ z. s.member z i ≡ j) era m

    on : goes_by w.phase w.facts g i ≡ true
    on = there s w g i j d (f.sound.write_era x) m' u era

    t : Bool
    t = w.facts.put x && goes_by w.phase w.facts g i

    t_true : t ≡ true
    t_true = and_both (w.facts.put x) (goes_by w.phase w.facts g i) (d.writing.put x ∙ a) on

pub tied-accept : (s : Shadow) (w : World) (j x : ℕ) (i : Place) → Tied s w → s.era_of (s.known j) ≤ w.facts.era → s.up j ≡ true → s.member (s.era_of (s.known j)) i ≡ j → Tied (after_accept s j x) (happens w (Accept (s.era_of (s.known j)) i x))
tied-accept s w j x i d l u m =
    record {
      links = d.links;
      held = λ h q z. subst (λ c. (if s.member h q == j then max (s.held j) x else s.held (s.member h q)) ≡ best_of (holds w.facts c g i x) h q) (sym on) (held-holds s w g i j x d l m refl on h q z);
      settles = d.settles;
      outlived = d.outlived;
      asking = d.asking;
      writing = d.writing;
      states = d.states;
    }
  where
    w2 : Facts
    w2 = (happens w (Accept (s.era_of (s.known j)) i x)).facts

    g : ℕ
    g = s.era_of (s.known j)

    on : goes_by w.phase w.facts g i ≡ true
    on = there s w g i j d l m u refl

-- what each holds after (g, i) drops the key
retires-same : (w : Facts) (g : ℕ) (i : Place) → best_of (retires w true g i) g i ≡ 0
retires-same w g i =
    elim (decide (stays w g i)) [
      | inl a ↦
          if_true (stays w g i) ((retires w true g i).best i) ((retires w true g i).old (suc g)) a
          ∙ if_true (stays w g i && same i i) 0 (w.best i) (and_both (stays w g i) (same i i) a (same_refl i))
      | inr a ↦
          if_false (stays w g i) ((retires w true g i).best i) ((retires w true g i).old (suc g)) a
          ∙ if_true (not (stays w g i) && (suc g == suc g)) 0 (w.old (suc g)) (and_both (not (stays w g i)) (suc g == suc g) (rw a) (eq_refl (suc g)))
    ]

retires-other : (p : Phase) (w : Facts) (g h : ℕ) (i q : Place) → goes_by p w g i ≡ true → goes_by p w h q ≡ true → (h ≡ g → q ≡ i → ⊥) → best_of (retires w true g i) h q ≡ best_of w h q
retires-other p w g h i q a b other = keeps-other p w g h i q (λ j. 0) (λ k. 0) a b other

pub tied-retire : (s : Shadow) (w : World) (j : ℕ) (i : Place) → Tied s w → s.era_of (s.known j) ≤ w.facts.era → s.up j ≡ true → s.member (s.era_of (s.known j)) i ≡ j → Tied (after_retire s j) (happens w (Retire (s.era_of (s.known j)) i))
tied-retire s w j i d l u m =
    record {
      links = d.links;
      held = λ h q z.
          subst (λ c. (if s.member h q == j then 0 else s.held (s.member h q)) ≡ best_of (retires w.facts c g i) h q) (sym on)
          (elim (decide (s.member h q == j)) [
            | inl c ↦
                let o = one_place s w g h i q j d l m refl z (eq_is (s.member h q) j c) in
                if_true (s.member h q == j) 0 (s.held (s.member h q)) c
                ∙ subst (λ b. 0 ≡ best_of (retires w.facts true g i) b q) (sym o.0) (subst (λ b. 0 ≡ best_of (retires w.facts true g i) g b) (sym o.1) (sym (retires-same w.facts g i)))
            | inr c ↦
                if_false (s.member h q == j) 0 (s.held (s.member h q)) c
                ∙ (d.held h q z ∙ sym (retires-other w.phase w.facts g h i q on z (λ k y. apart (s.member h q == j) (eq_true (s.member h q) j (subst (λ b. s.member b q ≡ j) (sym k) (subst (λ b. s.member g b ≡ j) (sym y) m))) c)))
          ]);
      settles = d.settles;
      outlived = if_true (goes_by w.phase w.facts g i) (max w.facts.outlived (best_of w.facts g i)) w.facts.outlived on ∙ (ap (λ k. max k (best_of w.facts g i)) d.outlived ∙ ap (λ k. max s.outlived k) (sym (ap s.held (sym m) ∙ d.held g i on)));
      asking = d.asking;
      writing = d.writing;
      states = d.states;
    }
  where
    g : ℕ
    g = s.era_of (s.known j)

    w2 : Facts
    w2 = (happens w (Retire (s.era_of (s.known j)) i)).facts

    on : goes_by w.phase w.facts g i ≡ true
    on = there s w g i j d l m u refl

pub tied-start : (members : Place → ℕ) (held : ℕ → ℕ) → ((q r : Place) → members q ≡ members r → same q r ≡ true) → Tied (shadow_start members held) (start (λ q. held (members q)))
tied-start members held differ =
    record {
      links =
          record {
            least = λ i. omega arith;
            ripe = λ g q h. absurd (omega arith);
            stays = λ g q h f. refl;
            news = λ g q h. absurd (omega arith);
            distinct = λ g q r h e. differ q r e;
            knows = λ q. refl;
            lingers = λ g h. absurd (omega arith);
            here = λ q h. refl;
            waits = λ q h f. refl;
          };
      held = λ g i z.
          let e : 0 ≡ g = omega (arith, le_era Whole (start (λ q. held (members q))).facts g i z) in
          subst (λ k. (if is_member members (members i) then held (members i) else 0) ≡ best_of (start (λ q. held (members q))).facts k i) e (if_true (is_member members (members i)) (held (members i)) 0 (member_is members i));
      settles = λ g i z y. and_both (goes_by Whole (start (λ q. held (members q))).facts g i) (true || not (g == 0)) z refl;
      outlived = refl;
      asking =
          record {
            asked = λ n. refl;
            request_era = λ n z. refl;
            before = λ n x z. z;
            undecided = λ n z. z;
            answer = λ n j v z. apart false z refl;
          };
      writing =
          record {
            put = λ x. refl;
            write_era = λ x z. refl;
            by = λ x z. z;
            waiting = λ x z. z;
            ack = λ x j z. apart false z refl;
            acknowledged = λ x. refl;
          };
      states = tt;
    }
