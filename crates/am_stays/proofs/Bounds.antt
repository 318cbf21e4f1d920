-- Epochs and incarnations only grow: what bounds them.
use Rattle.std.proofs.Common.{◌≡◌, ℕ, zero, suc, ◌<◌, ◌≤◌, Bool, true, false, not, ◌&&◌, ◌||◌, if◌then◌else◌, ◌⊎◌, inl, inr, refl, subst, sym, ap, arith, ◌∙◌}
use Rattle.std.specs.Prelude.{◌==◌}
use Rattle.am_stays.specs.Places.{Place}
use Rattle.am_stays.specs.Shadow.{Shadow, is_list, shadow_start, after_request, after_cut, after_piece, after_learn, after_epoch, after_join, after_leave, after_rise, after_restart, after_stop}
use Rattle.am_stays.proofs.Tables.{and_left, and_right, or_cases, or_left, or_right, not_true, apart, decide, eq_is, eq_refl, eq_true, not_eq, if_false}
use Rattle.am_stays.proofs.Tied.{IsNew}

pub record Bounded (s : Shadow) : Type 0 where
  pub known : (k : ℕ) → s.known k ≤ s.present
  pub epoch : (n : ℕ) → s.asked n ≡ true → s.epoch n ≤ s.present
  pub epochs : (k e l m : ℕ) → s.cut k e l m ≡ true → e ≤ s.present
  pub incarnations : (k e l m : ℕ) → s.cut k e l m ≡ true → m ≤ s.incarnation l
  pub pieces : (k e l m : ℕ) → s.cut k e l m ≡ true → s.piece k e l m < s.pieces k e l m
  pub eras : (f : ℕ) → s.era_of f ≤ s.era_of s.present
  pub steps : (f : ℕ) → f < s.present → (s.era_of (suc f) ≡ s.era_of f) ⊎ (s.era_of (suc f) ≡ suc (s.era_of f))
  pub asked : (n : ℕ) → s.undecided n ≡ true → s.asked n ≡ true
  pub put : (x : ℕ) → s.waiting x ≡ true → s.put x ≡ true
  pub answered : (n j v : ℕ) → s.answer n j v ≡ true → (s.asked n ≡ true) × (s.epoch n ≤ s.known j)
  pub taken : (r j o : ℕ) → s.taken r j o ≡ true → s.cut j (s.known r) r (s.incarnation r) ≡ true

-- the next epoch is new
pub is-new : (s : Shadow) → Bounded s → IsNew s (s.era_of s.present) (suc s.present)
is-new s b =
    record {
      eras = b.eras;
      known = λ k. not_eq (s.known k) (suc s.present) (omega (arith, b.known k));
      asked = λ n a. not_eq (s.epoch n) (suc s.present) (omega (arith, b.epoch n a));
      cut = λ k l m.
          elim (decide (s.cut k (suc s.present) l m)) [
            | inl c ↦ absurd (omega (arith, b.epochs k (suc s.present) l m c))
            | inr c ↦ c
          ];
    }

-- nothing changes but what operations say, hold and end, and what is forgotten
pub bounded-less : (s : Shadow) (undecided : ℕ → Bool) (before : ℕ → ℕ → Bool) (answer : ℕ → ℕ → ℕ → Bool) (put : ℕ → Bool) (by : ℕ → ℕ) (waiting : ℕ → Bool) (ack : ℕ → ℕ → Bool) (acknowledged : ℕ → Bool) (held : ℕ → ℕ) (outlived : ℕ) (up settled : ℕ → Bool) (taken : ℕ → ℕ → ℕ → Bool) → ((n : ℕ) → undecided n ≡ true → s.undecided n ≡ true) → ((x : ℕ) → waiting x ≡ true → put x ≡ true) → ((n j v : ℕ) → answer n j v ≡ true → (s.asked n ≡ true) × (s.epoch n ≤ s.known j)) → ((r j o : ℕ) → taken r j o ≡ true → s.cut j (s.known r) r (s.incarnation r) ≡ true) → Bounded s → Bounded (record s { undecided = undecided; before = before; answer = answer; put = put; by = by; waiting = waiting; ack = ack; acknowledged = acknowledged; held = held; outlived = outlived; up = up; settled = settled; taken = taken })
bounded-less s undecided before answer put by waiting ack acknowledged held outlived up settled taken fewer puts says took b =
    record {
      known = b.known;
      epoch = b.epoch;
      epochs = b.epochs;
      incarnations = b.incarnations;
      pieces = b.pieces;
      eras = b.eras;
      steps = b.steps;
      asked = λ n u. b.asked n (fewer n u);
      put = puts;
      answered = says;
      taken = took;
    }

pub bounded-request : (s : Shadow) (n e : ℕ) → s.asked n ≡ false → e ≤ s.present → Bounded s → Bounded (after_request s n e)
bounded-request s n e new h b =
    record {
      known = b.known;
      epoch = λ m a.
          elim (decide (m == n)) [
            | inl c ↦ rw c h
            | inr c ↦ rw c (b.epoch m (subst (λ t. (t || s.asked m) ≡ true) c a))
          ];
      epochs = b.epochs;
      incarnations = b.incarnations;
      pieces = b.pieces;
      eras = b.eras;
      steps = b.steps;
      asked = λ m u.
          elim (or_cases (m == n) (s.undecided m) u) [
            | inl c ↦ or_left (m == n) (s.asked m) c
            | inr c ↦ or_right (m == n) (s.asked m) (b.asked m c)
          ];
      put = b.put;
      answered = λ m j v a.
          let o = b.answered m j v a in
          let c : (m == n) ≡ false = elim (decide (m == n)) [ inr c ↦ c | inl c ↦ apart (s.asked m) o.0 (ap s.asked (eq_is m n c) ∙ new) ] in
          (or_right (m == n) (s.asked m) o.0, rw c o.1);
      taken = b.taken;
    }

-- the parts of the test
pub list_parts : (s : Shadow) (j r k e l m : ℕ) → is_list s j r k e l m ≡ true → (k ≡ j) × (e ≡ s.known j) × (l ≡ r) × (m ≡ s.incarnation r)
list_parts s j r k e l m h =
    let a = and_right (k == j) ((e == s.known j) && ((l == r) && (m == s.incarnation r))) h in
    let c = and_right (e == s.known j) ((l == r) && (m == s.incarnation r)) a in
    (eq_is k j (and_left (k == j) ((e == s.known j) && ((l == r) && (m == s.incarnation r))) h), eq_is e (s.known j) (and_left (e == s.known j) ((l == r) && (m == s.incarnation r)) a), eq_is l r (and_left (l == r) (m == s.incarnation r) c), eq_is m (s.incarnation r) (and_right (l == r) (m == s.incarnation r) c))

pub bounded-cut : (s : Shadow) (j r pieces piece : ℕ) → piece < pieces → Bounded s → Bounded (after_cut s j r pieces piece)
bounded-cut s j r pieces piece less b =
    record {
      known = b.known;
      epoch = b.epoch;
      epochs = λ k e l m h.
          elim (or_cases (is_list s j r k e l m) (s.cut k e l m) h) [
            | inl c ↦ omega (arith, (list_parts s j r k e l m c).1, b.known j)
            | inr c ↦ b.epochs k e l m c
          ];
      incarnations = λ k e l m h.
          elim (or_cases (is_list s j r k e l m) (s.cut k e l m) h) [
            | inl c ↦ omega (arith, (list_parts s j r k e l m c).3, ap s.incarnation (list_parts s j r k e l m c).2)
            | inr c ↦ b.incarnations k e l m c
          ];
      pieces = λ k e l m h.
          elim (decide (is_list s j r k e l m)) [
            | inl c ↦ rw c less
            | inr c ↦ rw c (b.pieces k e l m (subst (λ t. (t || s.cut k e l m) ≡ true) c h))
          ];
      eras = b.eras;
      steps = b.steps;
      asked = b.asked;
      put = b.put;
      answered = b.answered;
      taken = λ k l o h. or_right (is_list s j r l (s.known k) k (s.incarnation k)) (s.cut l (s.known k) k (s.incarnation k)) (b.taken k l o h);
    }

pub bounded-piece : (s : Shadow) (j r p : ℕ) → s.cut j (s.known r) r (s.incarnation r) ≡ true → Bounded s → Bounded (after_piece s j r p)
bounded-piece s j r p cut b =
    bounded-less s s.undecided s.before s.answer s.put s.by s.waiting s.ack s.acknowledged (after_piece s j r p).held s.outlived s.up s.settled (after_piece s j r p).taken (λ n u. u) b.put b.answered
    (λ k l o h.
    elim (or_cases ((k == r) && ((l == j) && (o == p))) (s.taken k l o) h) [
      | inl c ↦
          let e : k ≡ r = eq_is k r (and_left (k == r) ((l == j) && (o == p)) c) in
          let f : l ≡ j = eq_is l j (and_left (l == j) (o == p) (and_right (k == r) ((l == j) && (o == p)) c)) in
          subst (λ n. s.cut l (s.known n) n (s.incarnation n) ≡ true) (sym e) (subst (λ n. s.cut n (s.known r) r (s.incarnation r) ≡ true) (sym f) cut)
      | inr c ↦ b.taken k l o c
    ])
    b

-- one goes by another epoch, or is of another incarnation, and forgets what it took
pub bounded-known : (s : Shadow) (i : ℕ) (known incarnation held : ℕ → ℕ) (up settled undecided waiting : ℕ → Bool) → ((k : ℕ) → known k ≤ s.present) → ((k : ℕ) → s.known k ≤ known k) → ((k : ℕ) → (k == i) ≡ false → known k ≡ s.known k) → ((k : ℕ) → (k == i) ≡ false → incarnation k ≡ s.incarnation k) → ((k : ℕ) → s.incarnation k ≤ incarnation k) → ((n : ℕ) → undecided n ≡ true → s.undecided n ≡ true) → ((x : ℕ) → waiting x ≡ true → s.waiting x ≡ true) → Bounded s → Bounded (record s { known = known; incarnation = incarnation; held = held; up = up; settled = settled; undecided = undecided; waiting = waiting; taken = λ k l o. not (k == i) && s.taken k l o })
bounded-known s i known incarnation held up settled undecided waiting least grows others same_incarnation more fewer closed b =
    record {
      known = least;
      epoch = b.epoch;
      epochs = b.epochs;
      incarnations = λ k e l m h. omega (arith, b.incarnations k e l m h, more l);
      pieces = b.pieces;
      eras = b.eras;
      steps = b.steps;
      asked = λ n u. b.asked n (fewer n u);
      put = λ x u. b.put x (closed x u);
      answered = λ n j v a. ((b.answered n j v a).0, omega (arith, (b.answered n j v a).1, grows j));
      taken = λ r j o h.
          let n : (r == i) ≡ false = not_true (r == i) (and_left (not (r == i)) (s.taken r j o) h) in
          subst (λ k. s.cut j k r (incarnation r) ≡ true) (sym (others r n)) (subst (λ k. s.cut j (s.known r) r k ≡ true) (sym (same_incarnation r n)) (b.taken r j o (and_right (not (r == i)) (s.taken r j o) h)));
    }

pub bounded-learn : (s : Shadow) (j : ℕ) → s.known j < s.present → Bounded s → Bounded (after_learn s j)
bounded-learn s j less b =
    bounded-known s j (after_learn s j).known s.incarnation (after_learn s j).held s.up (after_learn s j).settled s.undecided s.waiting
    (λ k. elim (decide (k == j)) [ inl c ↦ rw c (omega (arith, less)) | inr c ↦ rw c (b.known k) ])
    (λ k. elim (decide (k == j)) [ inl c ↦ rw c (omega (arith, ap s.known (eq_is k j c))) | inr c ↦ rw c (omega arith) ])
    (λ k n. if_false (k == j) (suc (s.known j)) (s.known k) n) (λ k n. refl) (λ k. omega arith) (λ n u. u) (λ x u. u) b

grown-incarnation : (s : Shadow) (j k : ℕ) → s.incarnation k ≤ (if k == j then suc (s.incarnation j) else s.incarnation k)
grown-incarnation s j k =
    elim (decide (k == j)) [
      | inl c ↦ rw c (omega (arith, ap s.incarnation (eq_is k j c)))
      | inr c ↦ rw c (omega arith)
    ]

pub bounded-rise : (s : Shadow) (j : ℕ) → Bounded s → Bounded (after_rise s j s.present)
bounded-rise s j b =
    bounded-known s j (after_rise s j s.present).known (after_rise s j s.present).incarnation (after_rise s j s.present).held (after_rise s j s.present).up (after_rise s j s.present).settled s.undecided s.waiting
    (λ k. elim (decide (k == j)) [ inl c ↦ rw c (omega arith) | inr c ↦ rw c (b.known k) ])
    (λ k. elim (decide (k == j)) [ inl c ↦ rw c (b.known k) | inr c ↦ rw c (omega arith) ])
    (λ k n. if_false (k == j) s.present (s.known k) n) (λ k n. if_false (k == j) (suc (s.incarnation j)) (s.incarnation k) n) (grown-incarnation s j) (λ n u. u) (λ x u. u) b

pub bounded-restart : (s : Shadow) (j : ℕ) → Bounded s → Bounded (after_restart s j s.present)
bounded-restart s j b =
    bounded-known s j (after_restart s j s.present).known (after_restart s j s.present).incarnation (after_restart s j s.present).held (after_restart s j s.present).up (after_restart s j s.present).settled (after_restart s j s.present).undecided (after_restart s j s.present).waiting
    (λ k. elim (decide (k == j)) [ inl c ↦ rw c (omega arith) | inr c ↦ rw c (b.known k) ])
    (λ k. elim (decide (k == j)) [ inl c ↦ rw c (b.known k) | inr c ↦ rw c (omega arith) ])
    (λ k n. if_false (k == j) s.present (s.known k) n) (λ k n. if_false (k == j) (suc (s.incarnation j)) (s.incarnation k) n) (grown-incarnation s j)
    (λ n u. and_right (not (s.era_of (s.epoch n) == s.era_of s.present)) (s.undecided n) u)
    (λ x u. and_right (not (s.era_of (s.epoch (s.by x)) == s.era_of s.present)) (s.waiting x) u) b

-- an epoch begins, of era a
pub bounded-epoch : (s : Shadow) (a : ℕ) → (a ≡ s.era_of s.present) ⊎ (a ≡ suc (s.era_of s.present)) → Bounded s → Bounded (after_epoch s a (suc s.present))
bounded-epoch s a step b =
    record {
      known = λ k. omega (arith, b.known k);
      epoch = λ n h. omega (arith, b.epoch n h);
      epochs = λ k e l m h. omega (arith, b.epochs k e l m h);
      incarnations = b.incarnations;
      pieces = b.pieces;
      eras = λ f. rw (eq_refl (suc s.present)) (least f);
      steps = steps_;
      asked = b.asked;
      put = b.put;
      answered = b.answered;
      taken = b.taken;
    }
  where
    more : s.era_of s.present ≤ a
    more = elim step [ inl c ↦ omega (arith, c) | inr c ↦ omega (arith, c) ]

    least : (f : ℕ) → (if f == suc s.present then a else s.era_of f) ≤ a
    least f =
        elim (decide (f == suc s.present)) [
          | inl c ↦ rw c (omega arith)
          | inr c ↦ rw c (omega (arith, b.eras f, more))
        ]

    era_ : ℕ → ℕ
    era_ f = if f == suc s.present then a else s.era_of f

    old : (f : ℕ) → f ≤ s.present → (if f == suc s.present then a else s.era_of f) ≡ s.era_of f
    old f h = if_false (f == suc s.present) a (s.era_of f) (not_eq f (suc s.present) (omega (arith, h)))

    steps_ : (f : ℕ) → f < suc s.present → ((if suc f == suc s.present then a else s.era_of (suc f)) ≡ (if f == suc s.present then a else s.era_of f)) ⊎ ((if suc f == suc s.present then a else s.era_of (suc f)) ≡ suc (if f == suc s.present then a else s.era_of f))
    steps_ f h =
        let choice : (f < s.present) ⊎ (f ≡ s.present) = grind (arith, h) in
        elim choice [
          | inl c ↦
              rw (old f (omega (arith, c)), old (suc f) (omega (arith, c))) (b.steps f c)
          | inr c ↦
              let t : (suc f == suc s.present) ≡ true = eq_true (suc f) (suc s.present) (omega (arith, c)) in
              rw (old f (omega (arith, c)), t) (elim step [ inl d ↦ inl (d ∙ ap s.era_of (sym c)) | inr d ↦ inr (d ∙ ap (λ k. suc (s.era_of k)) (sym c)) ])
        ]

-- Bounded doesn't name the three
pub bounded-member : (s : Shadow) (member : ℕ → Place → ℕ) → Bounded s → Bounded (record s { member = member })
bounded-member s member b = record { known = b.known; epoch = b.epoch; epochs = b.epochs; incarnations = b.incarnations; pieces = b.pieces; eras = b.eras; steps = b.steps; asked = b.asked; put = b.put; answered = b.answered; taken = b.taken }

pub bounded-join : (s : Shadow) (r : Place) (i : ℕ) → Bounded s → Bounded (after_join s (s.era_of s.present) r i (suc s.present))
bounded-join s r i b =
    bounded-member (record (after_epoch s (suc (s.era_of s.present)) (suc s.present)) { known = t.known; incarnation = t.incarnation; held = t.held; up = t.up; settled = t.settled; taken = t.taken }) t.member
    (bounded-known (after_epoch s (suc (s.era_of s.present)) (suc s.present)) i t.known t.incarnation t.held t.up t.settled s.undecided s.waiting
    (λ k. elim (decide (k == i)) [ inl c ↦ rw c (omega arith) | inr c ↦ rw c (omega (arith, b.known k)) ])
    (λ k. elim (decide (k == i)) [ inl c ↦ rw c (omega (arith, b.known k)) | inr c ↦ rw c (omega arith) ])
    (λ k n. if_false (k == i) (suc s.present) (s.known k) n) (λ k n. if_false (k == i) (suc (s.incarnation i)) (s.incarnation k) n) (grown-incarnation s i) (λ n u. u) (λ x u. u)
    (bounded-epoch s (suc (s.era_of s.present)) (inr refl) b))
  where
    t : Shadow
    t = after_join s (s.era_of s.present) r i (suc s.present)

pub bounded-leave : (s : Shadow) (r : Place) (i : ℕ) → Bounded s → Bounded (after_leave s (s.era_of s.present) r i (suc s.present))
bounded-leave s r i b =
    bounded-member (record (after_epoch s (suc (s.era_of s.present)) (suc s.present)) { up = t.up }) t.member
    (bounded-less (after_epoch s (suc (s.era_of s.present)) (suc s.present)) s.undecided s.before s.answer s.put s.by s.waiting s.ack s.acknowledged s.held s.outlived t.up s.settled s.taken (λ n u. u) b.put b.answered b.taken
    (bounded-epoch s (suc (s.era_of s.present)) (inr refl) b))
  where
    t : Shadow
    t = after_leave s (s.era_of s.present) r i (suc s.present)

pub bounded-stop : (s : Shadow) → Bounded s → Bounded (after_stop s (s.era_of s.present) (suc s.present))
bounded-stop s b =
    record {
      known = λ k. omega arith;
      epoch = b2.epoch;
      epochs = b2.epochs;
      incarnations = λ k e l m h. omega (arith, b.incarnations k e l m h);
      pieces = b.pieces;
      eras = b2.eras;
      steps = b2.steps;
      asked = λ n u. apart false u refl;
      put = λ x u. apart false u refl;
      answered = λ n j v a. ((b.answered n j v a).0, omega (arith, b.epoch n (b.answered n j v a).0));
      taken = λ r j o h. apart false h refl;
    }
  where
    b2 : Bounded (after_epoch s (s.era_of s.present) (suc s.present))
    b2 = bounded-epoch s (s.era_of s.present) (inl refl) b

pub bounded-start : (members : Place → ℕ) (held : ℕ → ℕ) → Bounded (shadow_start members held)
bounded-start members held =
    record {
      known = λ k. omega arith;
      epoch = λ n a. omega arith;
      epochs = λ k e l m h. apart false h refl;
      incarnations = λ k e l m h. apart false h refl;
      pieces = λ k e l m h. apart false h refl;
      eras = λ f. omega arith;
      steps = λ f h. inl refl;
      asked = λ n u. u;
      put = λ x u. u;
      answered = λ n j v a. apart false a refl;
      taken = λ r j o h. apart false h refl;
    }

-- eras don't go back
pub eras_grow : (s : Shadow) → Bounded s → (e f : ℕ) → e ≤ f → f ≤ s.present → s.era_of e ≤ s.era_of f
eras_grow s b e zero h l = subst (λ k. s.era_of k ≤ s.era_of 0) (sym same_) (omega arith)
  where
    same_ : e ≡ 0
    same_ = omega (arith, h)
eras_grow s b e (suc f) h l =
    let choice : (e ≡ suc f) ⊎ (e ≤ f) = grind (arith, h) in
    elim choice [
      | inl c ↦ subst (λ k. s.era_of k ≤ s.era_of (suc f)) (sym c) (omega arith)
      | inr c ↦
          let z = eras_grow s b e f c (omega (arith, l)) in
          elim (b.steps f (omega (arith, l))) [ inl y ↦ omega (arith, y, z) | inr y ↦ omega (arith, y, z) ]
    ]
