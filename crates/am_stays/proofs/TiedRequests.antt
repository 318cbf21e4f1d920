-- The machine does what the cluster does, at requests and writes.
use Rattle.std.proofs.Common.{◌≡◌, ℕ, ◌-◌, ◌<◌, ◌≤◌, max, Bool, true, false, not, ◌&&◌, ◌||◌, if◌then◌else◌, ◌⊎◌, inl, inr, refl, subst, sym, ap, arith, ◌∙◌}
use Rattle.std.specs.Prelude.{◌==◌}
use Rattle.am_stays.specs.Places.{Place, First, Second, Third, same}
use Rattle.am_stays.proofs.Phases.{next, last}
use Rattle.am_stays.proofs.Machine.{Facts, World, Request, Get_arrives, Write, Reply, Close, Refuse, goes_by, serves, best_of, says, may_write, may_reply, happens}
use Rattle.am_stays.specs.Shadow.{Shadow, after_request, after_get, after_write, after_reply, after_refuse, after_close}
use Rattle.am_stays.specs.Claims.{DecisionsSee}
use Rattle.am_stays.proofs.Tied.{Tied}
use Rattle.am_stays.proofs.Tables.{and_left, and_right, or_cases, or_left, or_right, apart, decide, same_is, same_refl, eq_is, eq_refl, eq_true, if_true, if_false, and_both}
use Rattle.am_stays.proofs.Linking.{going}
use Rattle.am_stays.proofs.Runs.{Fine, seen-from}

-- who is up and goes by an epoch of era g takes its messages
pub there : (s : Shadow) (w : World) (g : ℕ) (i : Place) (j : ℕ) → Tied s w → g ≤ w.facts.era → s.member g i ≡ j → s.up j ≡ true → s.era_of (s.known j) ≡ g → goes_by w.phase w.facts g i ≡ true
there s w g i j d h m u e =
    going w.phase w.facts s.member (λ k. s.era_of (s.known k)) s.up d.links g i h
    ∙ subst (λ k. (s.up k && (s.era_of (s.known k) == g)) ≡ true) (sym m) (and_both (s.up j) (s.era_of (s.known j) == g) u (eq_true (s.era_of (s.known j)) g e))

says-new : (t : Bool) (n : ℕ) (i : Place) (v : ℕ) (answer : ℕ → Place → ℕ → Bool) → t ≡ true → says t n i v answer n i v ≡ true
says-new t n i v answer e = or_left (t && ((n == n) && (same i i && (v == v)))) (answer n i v) (and_both t ((n == n) && (same i i && (v == v))) e (and_both (n == n) (same i i && (v == v)) (eq_refl n) (and_both (same i i) (v == v) (same_refl i) (eq_refl v))))

-- the Get of n comes to instance j, at place i
pub tied-get : (s : Shadow) (w : World) (n j : ℕ) (i : Place) → Fine w → Tied s w → s.asked n ≡ true → s.up j ≡ true → s.known j ≡ s.epoch n → s.settled j ≡ true → s.member (s.era_of (s.known j)) i ≡ j → Tied (after_get s n j) (happens w (Get_arrives n i))
tied-get s w n j i f d a u k q m =
    record {
      links = d.links;
      held = d.held;
      settles = d.settles;
      outlived = d.outlived;
      asking =
          record {
            asked = d.asking.asked;
            request_era = d.asking.request_era;
            before = d.asking.before;
            undecided = d.asking.undecided;
            answer = λ y z v h.
                elim (or_cases ((y == n) && ((z == j) && (v == s.held j))) (s.answer y z v) h) [
                  | inl c ↦
                      let e1 = eq_is y n (and_left (y == n) ((z == j) && (v == s.held j)) c) in
                      let c2 = and_right (y == n) ((z == j) && (v == s.held j)) c in
                      let e2 = eq_is z j (and_left (z == j) (v == s.held j) c2) in
                      let e3 = eq_is v (s.held j) (and_right (z == j) (v == s.held j) c2) in
                      new y z v e1 e2 e3
                  | inr c ↦
                      let o = d.asking.answer y z v c in
                      (o.0, o.1, or_right (t && ((y == n) && (same o.0 i && (v == best_of w.facts g i)))) (w.facts.answer y o.0 v) o.2)
                ];
          };
      writing = d.writing;
      states = d.states;
    }
  where
    g : ℕ
    g = w.facts.request_era n

    era : s.era_of (s.known j) ≡ g
    era = ap s.era_of k ∙ sym (d.asking.request_era n a)

    m' : s.member g i ≡ j
    m' = subst (λ z. s.member z i ≡ j) era m

    on : goes_by w.phase w.facts g i ≡ true
    on = there s w g i j d (f.sound.request_era n) m' u era

    t : Bool
    t = w.facts.asked n && serves w.phase w.facts g i

    t_true : t ≡ true
    t_true = and_both (w.facts.asked n) (serves w.phase w.facts g i) (d.asking.asked n ∙ a) (d.settles g i on (subst (λ z. s.settled z ≡ true) (sym m') q))

    new : (y z v : ℕ) → y ≡ n → z ≡ j → v ≡ s.held j → (o : Place) × (s.member (w.facts.request_era y) o ≡ z) × ((happens w (Get_arrives n i)).facts.answer y o v ≡ true)
    new y z v e1 e2 e3 = (
      i,
      subst (λ b. s.member (w.facts.request_era b) i ≡ z) (sym e1) (m' ∙ sym e2),
      subst (λ b. (happens w (Get_arrives n i)).facts.answer b i v ≡ true) (sym e1)
          (subst (λ b. (happens w (Get_arrives n i)).facts.answer n i b ≡ true) (sym (e3 ∙ (ap s.held (sym m') ∙ d.held g i on)))
          (says-new t n i (best_of w.facts g i) w.facts.answer t_true)),
    )

pub marked : (t c b : Bool) → t ≡ true → ((t && c) || b) ≡ (c || b)
marked true c b e = refl
marked false c b e = cc

pub left_out : (t c b : Bool) → t ≡ true → (not (t && c) && b) ≡ (not c && b)
left_out true c b e = refl
left_out false c b e = cc

pub if_same : {A : Type 0} (t c : Bool) (a b : A) → t ≡ true → (if t && c then a else b) ≡ (if c then a else b)
if_same true c a b e = refl
if_same false c a b e = cc

-- a request comes to an instance that goes by epoch e
pub tied-request : (s : Shadow) (w : World) (n e : ℕ) → Fine w → Tied s w → s.asked n ≡ false → s.era_of e ≤ w.facts.era → Tied (after_request s n e) (happens w (Request n (w.facts.era - s.era_of e)))
tied-request s w n e f d a h =
    record {
      links = d.links;
      held = d.held;
      settles = d.settles;
      outlived = d.outlived;
      asking =
          record {
            asked = λ m. ap (λ b. (m == n) || b) (d.asking.asked m);
            request_era = λ m z.
                elim (decide (m == n)) [
                  | inl c ↦ if_true (not (w.facts.asked n) && (m == n)) (w.facts.era - lag) (w.facts.request_era m) (and_both (not (w.facts.asked n)) (m == n) fresh c) ∙ (back ∙ sym (ap s.era_of (if_true (m == n) e (s.epoch m) c)))
                  | inr c ↦ old_era m c ∙ (d.asking.request_era m (subst (λ b. (b || s.asked m) ≡ true) c z) ∙ sym (ap s.era_of (if_false (m == n) e (s.epoch m) c)))
                ];
            before = λ m x z.
                elim (decide (m == n)) [
                  | inl c ↦ if_true (not (w.facts.asked n) && (m == n)) (w.facts.acknowledged x) (w.facts.before m x) (and_both (not (w.facts.asked n)) (m == n) fresh c) ∙ (d.writing.acknowledged x ∙ (sym (if_true (m == n) (s.acknowledged x) (s.before m x) c) ∙ z))
                  | inr c ↦ if_false (not (w.facts.asked n) && (m == n)) (w.facts.acknowledged x) (w.facts.before m x) (rw (fresh, c)) ∙ d.asking.before m x (sym (if_false (m == n) (s.acknowledged x) (s.before m x) c) ∙ z)
                ];
            undecided = λ m z.
                elim (or_cases (m == n) (s.undecided m) z) [
                  | inl c ↦ or_left (not (w.facts.asked n) && (m == n)) (w.facts.undecided m) (and_both (not (w.facts.asked n)) (m == n) fresh c)
                  | inr c ↦ or_right (not (w.facts.asked n) && (m == n)) (w.facts.undecided m) (d.asking.undecided m c)
                ];
            answer = λ m j v z.
                let o = d.asking.answer m j v z in
                elim (decide (m == n)) [
                  | inl c ↦ apart (w.facts.answer m o.0 v) o.2 (f.sound.unsaid m (subst (λ b. w.facts.asked b ≡ false) (sym (eq_is m n c)) (d.asking.asked n ∙ a)) o.0 v)
                  | inr c ↦ (o.0, subst (λ b. s.member b o.0 ≡ j) (sym (old_era m c)) o.1, o.2)
                ];
          };
      writing =
          record {
            put = d.writing.put;
            write_era = λ x z. old_write x z;
            by = λ x z. or_right (s.by x == n) (s.asked (s.by x)) (d.writing.by x z);
            waiting = d.writing.waiting;
            ack = d.writing.ack;
            acknowledged = d.writing.acknowledged;
          };
      states = d.states;
    }
  where
    lag : ℕ
    lag = w.facts.era - s.era_of e

    w2 : World
    w2 = happens w (Request n (w.facts.era - s.era_of e))

    fresh : not (w.facts.asked n) ≡ true
    fresh = rw (d.asking.asked n ∙ a)

    back : w.facts.era - lag ≡ s.era_of e
    back = omega (arith, h)

    old_era : (m : ℕ) → (m == n) ≡ false → (if not (w.facts.asked n) && (m == n) then w.facts.era - lag else w.facts.request_era m) ≡ w.facts.request_era m
    old_era m c = if_false (not (w.facts.asked n) && (m == n)) (w.facts.era - lag) (w.facts.request_era m) (rw (fresh, c))

    old_write : (x : ℕ) → s.put x ≡ true → w.facts.write_era x ≡ s.era_of (if s.by x == n then e else s.epoch (s.by x))
    old_write x z =
        elim (decide (s.by x == n)) [
          | inl c ↦ apart (s.asked n) (subst (λ b. s.asked b ≡ true) (eq_is (s.by x) n c) (d.writing.by x z)) a
          | inr c ↦ d.writing.write_era x z ∙ sym (ap s.era_of (if_false (s.by x == n) e (s.epoch (s.by x)) c))
        ]

-- two different places are the two other than a third
spare_of : (i j : Place) → same i j ≡ false → (o : Place) × (((next o ≡ i) × (last o ≡ j)) ⊎ ((next o ≡ j) × (last o ≡ i)))
spare_of First First e = cc
spare_of First Second e = (Third, inl (refl, refl))
spare_of First Third e = (Second, inr (refl, refl))
spare_of Second First e = (Third, inr (refl, refl))
spare_of Second Second e = cc
spare_of Second Third e = (First, inl (refl, refl))
spare_of Third First e = (Second, inl (refl, refl))
spare_of Third Second e = (First, inr (refl, refl))
spare_of Third Third e = cc

-- the Answers of two places decide n, which writes x
write-with : (s : Shadow) (w : World) (n x : ℕ) (o : Place) (a b : ℕ) → Fine w → Tied s w → s.undecided n ≡ true → w.facts.answer n (next o) a ≡ true → w.facts.answer n (last o) b ≡ true → s.put x ≡ false → Tied (after_write s n x) (happens w (Write n x o a b))
write-with s w n x o a b f d undecided sa sb new =
    record {
      links = d.links;
      held = d.held;
      settles = d.settles;
      outlived = d.outlived;
      asking =
          record {
            asked = d.asking.asked;
            request_era = d.asking.request_era;
            before = d.asking.before;
            undecided = λ m z. left_out t (m == n) (w.facts.undecided m) on ∙ both m z;
            answer = d.asking.answer;
          };
      writing =
          record {
            put = λ y. marked t (y == x) (w.facts.put y) on ∙ ap (λ c. (y == x) || c) (d.writing.put y);
            write_era = λ y z. if_same t (y == x) (w.facts.request_era n) (w.facts.write_era y) on ∙ era y z;
            by = λ y z. by_ y z;
            waiting = λ y z. marked t (y == x) (w.facts.waiting y) on ∙ run_ y z;
            ack = λ y k z. acks_ y k z;
            acknowledged = d.writing.acknowledged;
          };
      states = d.states;
    }
  where
    w2 : Facts
    w2 = (happens w (Write n x o a b)).facts

    t : Bool
    t = may_write w.facts n x o a b

    on : may_write w.facts n x o a b ≡ true
    on = and_both (w.facts.undecided n) (w.facts.answer n (next o) a && (w.facts.answer n (last o) b && not (w.facts.put x))) (d.asking.undecided n undecided) (and_both (w.facts.answer n (next o) a) (w.facts.answer n (last o) b && not (w.facts.put x)) sa (and_both (w.facts.answer n (last o) b) (not (w.facts.put x)) sb (rw (d.writing.put x ∙ new))))

    asked_ : s.asked n ≡ true
    asked_ = elim (decide (s.asked n)) [ inl c ↦ c | inr c ↦ apart (w.facts.answer n (next o) a) sa (f.sound.unsaid n (d.asking.asked n ∙ c) (next o) a) ]

    both : (m : ℕ) → (not (m == n) && s.undecided m) ≡ true → (not (m == n) && w.facts.undecided m) ≡ true
    both m z = and_both (not (m == n)) (w.facts.undecided m) (and_left (not (m == n)) (s.undecided m) z) (d.asking.undecided m (and_right (not (m == n)) (s.undecided m) z))

    by_ : (y : ℕ) → ((y == x) || s.put y) ≡ true → s.asked (if y == x then n else s.by y) ≡ true
    by_ y z =
        elim (decide (y == x)) [
          | inl c ↦ subst (λ m. s.asked m ≡ true) (sym (if_true (y == x) n (s.by y) c)) asked_
          | inr c ↦ subst (λ m. s.asked m ≡ true) (sym (if_false (y == x) n (s.by y) c)) (d.writing.by y (subst (λ e. (e || s.put y) ≡ true) c z))
        ]

    era : (y : ℕ) → ((y == x) || s.put y) ≡ true → (if y == x then w.facts.request_era n else w.facts.write_era y) ≡ s.era_of (s.epoch (if y == x then n else s.by y))
    era y z =
        elim (decide (y == x)) [
          | inl c ↦ if_true (y == x) (w.facts.request_era n) (w.facts.write_era y) c ∙ (d.asking.request_era n asked_ ∙ sym (ap (λ m. s.era_of (s.epoch m)) (if_true (y == x) n (s.by y) c)))
          | inr c ↦ if_false (y == x) (w.facts.request_era n) (w.facts.write_era y) c ∙ (d.writing.write_era y (subst (λ e. (e || s.put y) ≡ true) c z) ∙ sym (ap (λ m. s.era_of (s.epoch m)) (if_false (y == x) n (s.by y) c)))
        ]

    run_ : (y : ℕ) → ((y == x) || s.waiting y) ≡ true → ((y == x) || w.facts.waiting y) ≡ true
    run_ y z = elim (or_cases (y == x) (s.waiting y) z) [ inl c ↦ or_left (y == x) (w.facts.waiting y) c | inr c ↦ or_right (y == x) (w.facts.waiting y) (d.writing.waiting y c) ]

    acks_ : (y k : ℕ) → s.ack y k ≡ true → (i : Place) × (s.member (w2.write_era y) i ≡ k) × (w.facts.ack y i ≡ true)
    acks_ y k z =
        let h = d.writing.ack y k z in
        elim (decide (y == x)) [
          | inl c ↦ apart (w.facts.ack y h.0) h.2 (f.sound.fresh y (subst (λ e. w.facts.put e ≡ false) (sym (eq_is y x c)) (d.writing.put x ∙ new)) h.0)
          | inr c ↦ (h.0, subst (λ e. s.member e h.0 ≡ k) (sym (if_same t (y == x) (w.facts.request_era n) (w.facts.write_era y) on ∙ if_false (y == x) (w.facts.request_era n) (w.facts.write_era y) c)) h.1, h.2)
        ]

-- two Answers of different instances decide n, which writes x
pub tied-write : (s : Shadow) (w : World) (n x j v k u : ℕ) → Fine w → Tied s w → s.undecided n ≡ true → s.answer n j v ≡ true → s.answer n k u ≡ true → (j ≡ k → ⊥) → s.put x ≡ false → (o : Place) × (a : ℕ) × (b : ℕ) × Tied (after_write s n x) (happens w (Write n x o a b))
tied-write s w n x j v k u f d undecided aj ak apart_ new = go (spare_of pj.0 pk.0 other)
  where
    pj : (i : Place) × (s.member (w.facts.request_era n) i ≡ j) × (w.facts.answer n i v ≡ true)
    pj = d.asking.answer n j v aj

    pk : (i : Place) × (s.member (w.facts.request_era n) i ≡ k) × (w.facts.answer n i u ≡ true)
    pk = d.asking.answer n k u ak

    other : same pj.0 pk.0 ≡ false
    other = elim (decide (same pj.0 pk.0)) [ inr c ↦ c | inl c ↦ absurd (apart_ (sym pj.1 ∙ (ap (s.member (w.facts.request_era n)) (same_is pj.0 pk.0 c) ∙ pk.1))) ]

    go : ((o : Place) × (((next o ≡ pj.0) × (last o ≡ pk.0)) ⊎ ((next o ≡ pk.0) × (last o ≡ pj.0)))) → (o : Place) × (a : ℕ) × (b : ℕ) × Tied (after_write s n x) (happens w (Write n x o a b))
    go p =
        elim p.1 [
          | inl c ↦ (p.0, v, u, write-with s w n x p.0 v u f d undecided (subst (λ i. w.facts.answer n i v ≡ true) (sym c.0) pj.2) (subst (λ i. w.facts.answer n i u ≡ true) (sym c.1) pk.2) new)
          | inr c ↦ (p.0, u, v, write-with s w n x p.0 u v f d undecided (subst (λ i. w.facts.answer n i u ≡ true) (sym c.0) pk.2) (subst (λ i. w.facts.answer n i v ≡ true) (sym c.1) pj.2) new)
        ]

reply-with : (s : Shadow) (w : World) (x : ℕ) (o : Place) → Tied s w → s.waiting x ≡ true → w.facts.ack x (next o) ≡ true → w.facts.ack x (last o) ≡ true → Tied (after_reply s x) (happens w (Reply x o))
reply-with s w x o d wait a b =
    record {
      links = d.links;
      held = d.held;
      settles = d.settles;
      outlived = d.outlived;
      asking = d.asking;
      writing =
          record {
            put = d.writing.put;
            write_era = d.writing.write_era;
            by = d.writing.by;
            waiting = λ y z. left_out (may_reply w.facts x o) (y == x) (w.facts.waiting y) on ∙ and_both (not (y == x)) (w.facts.waiting y) (and_left (not (y == x)) (s.waiting y) z) (d.writing.waiting y (and_right (not (y == x)) (s.waiting y) z));
            ack = d.writing.ack;
            acknowledged = λ y. marked (may_reply w.facts x o) (y == x) (w.facts.acknowledged y) on ∙ ap (λ c. (y == x) || c) (d.writing.acknowledged y);
          };
      states = d.states;
    }
  where
    on : may_reply w.facts x o ≡ true
    on = and_both (w.facts.waiting x) (w.facts.ack x (next o) && w.facts.ack x (last o)) (d.writing.waiting x wait) (and_both (w.facts.ack x (next o)) (w.facts.ack x (last o)) a b)

-- the Acks of two different instances
pub tied-reply : (s : Shadow) (w : World) (x j k : ℕ) → Tied s w → s.waiting x ≡ true → s.ack x j ≡ true → s.ack x k ≡ true → (j ≡ k → ⊥) → (o : Place) × Tied (after_reply s x) (happens w (Reply x o))
tied-reply s w x j k d wait aj ak apart_ = go (spare_of pj.0 pk.0 other)
  where
    pj : (i : Place) × (s.member (w.facts.write_era x) i ≡ j) × (w.facts.ack x i ≡ true)
    pj = d.writing.ack x j aj

    pk : (i : Place) × (s.member (w.facts.write_era x) i ≡ k) × (w.facts.ack x i ≡ true)
    pk = d.writing.ack x k ak

    other : same pj.0 pk.0 ≡ false
    other = elim (decide (same pj.0 pk.0)) [ inr c ↦ c | inl c ↦ absurd (apart_ (sym pj.1 ∙ (ap (s.member (w.facts.write_era x)) (same_is pj.0 pk.0 c) ∙ pk.1))) ]

    go : ((o : Place) × (((next o ≡ pj.0) × (last o ≡ pk.0)) ⊎ ((next o ≡ pk.0) × (last o ≡ pj.0)))) → (o : Place) × Tied (after_reply s x) (happens w (Reply x o))
    go p =
        elim p.1 [
          | inl c ↦ (p.0, reply-with s w x p.0 d wait (subst (λ i. w.facts.ack x i ≡ true) (sym c.0) pj.2) (subst (λ i. w.facts.ack x i ≡ true) (sym c.1) pk.2))
          | inr c ↦ (p.0, reply-with s w x p.0 d wait (subst (λ i. w.facts.ack x i ≡ true) (sym c.0) pk.2) (subst (λ i. w.facts.ack x i ≡ true) (sym c.1) pj.2))
        ]

pub tied-refuse : (s : Shadow) (w : World) (n : ℕ) → Tied s w → Tied (after_refuse s n) (happens w (Refuse n))
tied-refuse s w n d =
    record {
      links = d.links;
      held = d.held;
      settles = d.settles;
      outlived = d.outlived;
      asking =
          record {
            asked = d.asking.asked;
            request_era = d.asking.request_era;
            before = d.asking.before;
            undecided = λ m z. and_both (not (m == n)) (w.facts.undecided m) (and_left (not (m == n)) (s.undecided m) z) (d.asking.undecided m (and_right (not (m == n)) (s.undecided m) z));
            answer = d.asking.answer;
          };
      writing = d.writing;
      states = d.states;
    }

pub tied-close : (s : Shadow) (w : World) (x : ℕ) → Tied s w → Tied (after_close s x) (happens w (Close x))
tied-close s w x d =
    record {
      links = d.links;
      held = d.held;
      settles = d.settles;
      outlived = d.outlived;
      asking = d.asking;
      writing =
          record {
            put = d.writing.put;
            write_era = d.writing.write_era;
            by = d.writing.by;
            waiting = λ y z. and_both (not (y == x)) (w.facts.waiting y) (and_left (not (y == x)) (s.waiting y) z) (d.writing.waiting y (and_right (not (y == x)) (s.waiting y) z));
            ack = d.writing.ack;
            acknowledged = d.writing.acknowledged;
          };
      states = d.states;
    }

-- a decision sees what was acknowledged before
pub seen-there : (s : Shadow) (w : World) → Fine w → Tied s w → DecisionsSee s
seen-there s w f d n x j v k u undecided b g aj ak apart_ = go (spare_of pj.0 pk.0 other)
  where
    pj : (i : Place) × (s.member (w.facts.request_era n) i ≡ j) × (w.facts.answer n i v ≡ true)
    pj = d.asking.answer n j v aj

    pk : (i : Place) × (s.member (w.facts.request_era n) i ≡ k) × (w.facts.answer n i u ≡ true)
    pk = d.asking.answer n k u ak

    other : same pj.0 pk.0 ≡ false
    other = elim (decide (same pj.0 pk.0)) [ inr c ↦ c | inl c ↦ absurd (apart_ (sym pj.1 ∙ (ap (s.member (w.facts.request_era n)) (same_is pj.0 pk.0 c) ∙ pk.1))) ]

    outlived : w.facts.outlived < x
    outlived = omega (arith, d.outlived, g)

    go : ((o : Place) × (((next o ≡ pj.0) × (last o ≡ pk.0)) ⊎ ((next o ≡ pk.0) × (last o ≡ pj.0)))) → x ≤ max v u
    go p =
        elim p.1 [
          | inl c ↦ seen-from w f n x p.0 v u (d.asking.undecided n undecided) (d.asking.before n x b) outlived (subst (λ i. w.facts.answer n i v ≡ true) (sym c.0) pj.2) (subst (λ i. w.facts.answer n i u ≡ true) (sym c.1) pk.2)
          | inr c ↦
              let h : x ≤ max u v = seen-from w f n x p.0 u v (d.asking.undecided n undecided) (d.asking.before n x b) outlived (subst (λ i. w.facts.answer n i u ≡ true) (sym c.0) pk.2) (subst (λ i. w.facts.answer n i v ≡ true) (sym c.1) pj.2) in
              omega (arith, h)
        ]
