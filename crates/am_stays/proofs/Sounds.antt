-- Each event keeps the facts that name no stamp.
use Rattle.std.proofs.Common.{◌≡◌, ℕ, suc, ◌-◌, Bool, true, false, not, ◌&&◌, ◌||◌, if◌then◌else◌, inl, inr, refl, subst, sym, arith}
use Rattle.std.specs.Prelude.{◌==◌}
use Rattle.am_stays.specs.Places.{Place, same}
use Rattle.am_stays.proofs.Phases.{next, last, Phase, Whole, Down, Unsettled, is_whole, is_settled}
use Rattle.am_stays.proofs.Machine.{Facts, acks, says, requests, writes, cuts, merges, crashes, restarts, replaces, crashed, restarted, replaced, settled, may_return}
use Rattle.am_stays.proofs.Tables.{and_left, and_right, or_cases, or_right, not_true, apart, decide, same_is, same_refl, eq_is, says_cases, acks_cases, or_false_right, if_ℕ, if_Bool, pick_upper, cut_cases, three, if_true, eq_refl}
use Rattle.am_stays.proofs.Invariants.{Known, Sound}

-- changes that none of them names
pub sound-same : (p : Phase) (w : Facts) (best : Place → ℕ) (old : ℕ → ℕ) (outlived : ℕ) (waiting undecided lingers acknowledged : ℕ → Bool) → ((x : ℕ) → w.acknowledged x ≡ true → acknowledged x ≡ true) → Sound p w → Sound p (record w { best = best; old = old; outlived = outlived; waiting = waiting; undecided = undecided; lingers = lingers; acknowledged = acknowledged })
sound-same p w best old outlived waiting undecided lingers acknowledged more s =
    record {
      known = s.known;
      sent = s.sent;
      taken = s.taken;
      write_era = s.write_era;
      request_era = s.request_era;
      unsaid = s.unsaid;
      fresh = s.fresh;
      spoke = s.spoke;
      wrote = s.wrote;
      acker = s.acker;
      earlier = λ n x b. more x (s.earlier n x b);
    }

pub sound-said : (p : Phase) (w : Facts) (t : Bool) (n : ℕ) (i : Place) (v : ℕ) → (t ≡ true → w.asked n ≡ true) → (t ≡ true → w.request_era n ≡ w.era → (j : Place) → (same j i || same i (w.changed w.era)) ≡ true → w.knows j ≡ true) → Sound p w → Sound p (record w { answer = says t n i v w.answer })
sound-said p w t n i v ask know s =
    record {
      known = s.known;
      sent = s.sent;
      taken = s.taken;
      write_era = s.write_era;
      request_era = s.request_era;
      unsaid = λ m e j u.
          elim (decide (says t n i v w.answer m j u)) [
            | inl yes_ ↦
                elim (says_cases t n i v w.answer m j u yes_) [
                  | inl a ↦ apart (w.answer m j u) a (s.unsaid m e j u)
                  | inr b ↦ apart (w.asked m) (subst (λ k. w.asked k ≡ true) (sym b.1) (ask b.0)) e
                ]
            | inr no_ ↦ no_
          ];
      fresh = s.fresh;
      spoke = λ m j u era_ e k h.
          elim (says_cases t n i v w.answer m j u e) [
            | inl a ↦ s.spoke m j u era_ a k h
            | inr b ↦ know b.0 (subst (λ q. w.request_era q ≡ w.era) b.1 era_) k (subst (λ q. (same k q || same q (w.changed w.era)) ≡ true) b.2 h)
          ];
      wrote = s.wrote;
      acker = s.acker;
      earlier = s.earlier;
    }

pub sound-put : (p : Phase) (w : Facts) (t : Bool) (x : ℕ) (i : Place) (best : Place → ℕ) (old : ℕ → ℕ) → (t ≡ true → w.put x ≡ true) → (t ≡ true → w.write_era x ≡ w.era → w.knows i ≡ true) → Sound p w → Sound p (record w { best = best; old = old; ack = acks t x i w.ack })
sound-put p w t x i best old puts know s =
    record {
      known = s.known;
      sent = s.sent;
      taken = s.taken;
      write_era = s.write_era;
      request_era = s.request_era;
      unsaid = s.unsaid;
      fresh = λ y e j.
          elim (decide (acks t x i w.ack y j)) [
            | inl yes_ ↦
                elim (acks_cases t x i w.ack y j yes_) [
                  | inl a ↦ apart (w.ack y j) a (s.fresh y e j)
                  | inr b ↦ apart (w.put y) (subst (λ k. w.put k ≡ true) (sym b.1) (puts b.0)) e
                ]
            | inr no_ ↦ no_
          ];
      spoke = s.spoke;
      wrote = s.wrote;
      acker = λ y j era_ e.
          elim (acks_cases t x i w.ack y j e) [
            | inl a ↦ s.acker y j era_ a
            | inr b ↦ subst (λ q. w.knows q ≡ true) (sym b.2) (know b.0 (subst (λ q. w.write_era q ≡ w.era) b.1 era_))
          ];
      earlier = s.earlier;
    }

-- a settled one that got another's place: then all know the era
pub all_know : (p : Phase) (changed : Place) (knows : Place → Bool) (i j : Place) → Known p changed knows → is_settled p i ≡ true → same i changed ≡ true → knows j ≡ true
all_know Whole changed knows i j k e f = k j
all_know (Down r) changed knows i j k e f = k j
all_know (Unsettled r) changed knows i j k e f =
    elim (decide (knows j)) [
      | inl a ↦ a
      | inr b ↦ apart (same i r) (subst (λ q. same q r ≡ true) (sym (same_is i changed f)) (k j b)) (not_true (same i r) e)
    ]

pub sound-request : (p : Phase) (w : Facts) (n lag : ℕ) → Sound p w → Sound p (requests w n lag)
sound-request p w n lag s =
    record {
      known = s.known;
      sent = s.sent;
      taken = s.taken;
      write_era = s.write_era;
      request_era = λ m. pick_upper (not (w.asked n) && (m == n)) (w.era - lag) (w.request_era m) w.era (omega arith) (s.request_era m);
      unsaid = λ m e. s.unsaid m (or_false_right (m == n) (w.asked m) e);
      fresh = s.fresh;
      spoke = λ m j u e h.
          elim (if_ℕ (not (w.asked n) && (m == n)) (w.era - lag) (w.request_era m) w.era e) [
            | inl a ↦
                let z : w.asked m ≡ false = subst (λ k. w.asked k ≡ false) (sym (eq_is m n (and_right (not (w.asked n)) (m == n) a.0))) (not_true (w.asked n) (and_left (not (w.asked n)) (m == n) a.0)) in
                apart (w.answer m j u) h (s.unsaid m z j u)
            | inr a ↦ s.spoke m j u a.1 h
          ];
      wrote = s.wrote;
      acker = s.acker;
      earlier = λ m x e.
          elim (if_Bool (not (w.asked n) && (m == n)) (w.acknowledged x) (w.before m x) e) [
            | inl a ↦ a.1
            | inr a ↦ s.earlier m x a.1
          ];
    }

pub sound-write : (p : Phase) (w : Facts) (t : Bool) (n x : ℕ) → (t ≡ true → w.put x ≡ false) → (t ≡ true → w.request_era n ≡ w.era → (i : Place) → same i (w.changed w.era) ≡ false → w.knows i ≡ true) → Sound p w → Sound p (writes w t n x)
sound-write p w t n x new know s =
    record {
      known = s.known;
      sent = s.sent;
      taken = s.taken;
      write_era = λ y. pick_upper (t && (y == x)) (w.request_era n) (w.write_era y) w.era (s.request_era n) (s.write_era y);
      request_era = s.request_era;
      unsaid = s.unsaid;
      fresh = λ y e. s.fresh y (or_false_right (t && (y == x)) (w.put y) e);
      spoke = s.spoke;
      wrote = λ y e f.
          elim (if_ℕ (t && (y == x)) (w.request_era n) (w.write_era y) w.era f) [
            | inl a ↦ know (and_left t (y == x) a.0) a.1
            | inr a ↦
                elim (or_cases (t && (y == x)) (w.put y) e) [
                  | inl b ↦ apart (t && (y == x)) b a.0
                  | inr b ↦ s.wrote y b a.1
                ]
          ];
      acker = λ y i f e.
          elim (if_ℕ (t && (y == x)) (w.request_era n) (w.write_era y) w.era f) [
            | inl a ↦
                let z : w.put y ≡ false = subst (λ k. w.put k ≡ false) (sym (eq_is y x (and_right t (y == x) a.0))) (new (and_left t (y == x) a.0)) in
                apart (w.ack y i) e (s.fresh y z i)
            | inr a ↦ s.acker y i a.1 e
          ];
      earlier = s.earlier;
    }

pub sound-cut : (p : Phase) (w : Facts) (t : Bool) (i : Place) (e : ℕ) → (t ≡ true → w.knows i ≡ true) → Sound p w → Sound p (cuts w t i e)
sound-cut p w t i e know s =
    record {
      known = s.known;
      sent = λ j f h.
          elim (cut_cases t i e j f (w.sent j f) h) [
            | inl a ↦ subst (λ k. w.knows k ≡ true) (sym a.1) (know a.0)
            | inr a ↦ s.sent j f a
          ];
      taken = λ j f h. or_right (t && (same j i && (f == e))) (w.sent j f) (s.taken j f h);
      write_era = s.write_era;
      request_era = s.request_era;
      unsaid = s.unsaid;
      fresh = s.fresh;
      spoke = s.spoke;
      wrote = s.wrote;
      acker = s.acker;
      earlier = s.earlier;
    }

pub sound-merge : (p : Phase) (w : Facts) (t : Bool) (i : Place) (e : ℕ) → (t ≡ true → w.sent i e ≡ true) → Sound p w → Sound p (merges p w t i e)
sound-merge p w t i e cut s =
    record {
      known = s.known;
      sent = s.sent;
      taken = λ j f h.
          elim (cut_cases t i e j f (w.took j f) h) [
            | inl a ↦ subst (λ k. w.sent k f ≡ true) (sym a.1) (subst (λ g. w.sent i g ≡ true) (sym a.2) (cut a.0))
            | inr a ↦ s.taken j f a
          ];
      write_era = s.write_era;
      request_era = s.request_era;
      unsaid = s.unsaid;
      fresh = s.fresh;
      spoke = s.spoke;
      wrote = s.wrote;
      acker = s.acker;
      earlier = s.earlier;
    }

known-more : (p : Phase) (changed : Place) (knows also : Place → Bool) → ((j : Place) → knows j ≡ true → also j ≡ true) → Known p changed knows → Known p changed also
known-more Whole changed knows also more k = λ j. more j (k j)
known-more (Down r) changed knows also more k = λ j. more j (k j)
known-more (Unsettled r) changed knows also more k = λ j e.
    elim (decide (knows j)) [
      | inl a ↦ apart (also j) (more j a) e
      | inr a ↦ k j a
    ]

-- more of them know the era
sound-known : (p : Phase) (w : Facts) (also : Place → Bool) → ((j : Place) → w.knows j ≡ true → also j ≡ true) → Sound p w → Sound p (record w { knows = also })
sound-known p w also more s =
    record {
      known = known-more p (w.changed w.era) w.knows also more s.known;
      sent = λ j e h. more j (s.sent j e h);
      taken = s.taken;
      write_era = s.write_era;
      request_era = s.request_era;
      unsaid = s.unsaid;
      fresh = s.fresh;
      spoke = λ n i v e h j f. more j (s.spoke n i v e h j f);
      wrote = λ x e f i h. more i (s.wrote x e f i h);
      acker = λ x i e h. more i (s.acker x i e h);
      earlier = s.earlier;
    }

pub sound-learn : (p : Phase) (w : Facts) (i : Place) → Sound p w → Sound p (record w { knows = λ j. same j i || w.knows j })
sound-learn p w i s = sound-known p w (λ j. same j i || w.knows j) (λ j e. or_right (same j i) (w.knows j) e) s

-- no list is cut, or taken, and the phase is another
sound-anew : (p q : Phase) (w : Facts) (best : Place → ℕ) (waiting undecided : ℕ → Bool) → Known q (w.changed w.era) w.knows → Sound p w → Sound q (record w { best = best; waiting = waiting; undecided = undecided; sent = λ i e. false; took = λ i e. false })
sound-anew p q w best waiting undecided k s =
    record {
      known = k;
      sent = λ i e h. apart false h refl;
      taken = λ i e h. h;
      write_era = s.write_era;
      request_era = s.request_era;
      unsaid = s.unsaid;
      fresh = s.fresh;
      spoke = s.spoke;
      wrote = s.wrote;
      acker = s.acker;
      earlier = s.earlier;
    }

pub sound-crash : (p : Phase) (w : Facts) (r : Place) → Sound p w → Sound (crashed p r) (crashes w (is_whole p) r)
sound-crash Whole w r s = sound-anew Whole (Down r) w (crashes w true r).best w.waiting w.undecided s.known s
sound-crash (Down q) w r s = s
sound-crash (Unsettled q) w r s = s

pub sound-restart : (p : Phase) (w : Facts) → Sound p w → Sound (restarted p) (restarts p w (may_return p w))
sound-restart Whole w s = s
sound-restart (Down r) w s =
    let v : Sound (Unsettled r) (record w { best = (restarts (Down r) w true).best; waiting = (restarts (Down r) w true).waiting; undecided = (restarts (Down r) w true).undecided; sent = λ i e. false; took = λ i e. false }) =
    sound-anew (Down r) (Unsettled r) w (restarts (Down r) w true).best (restarts (Down r) w true).waiting (restarts (Down r) w true).undecided (λ i e. apart (w.knows i) (s.known i) e) s
    in
    sound-known (Unsettled r) (record w { best = (restarts (Down r) w true).best; waiting = (restarts (Down r) w true).waiting; undecided = (restarts (Down r) w true).undecided; sent = λ i e. false; took = λ i e. false }) (restarts (Down r) w true).knows (λ j e. or_right (same j r) (w.knows j) e) v
sound-restart (Unsettled r) w s = go (not (w.knows r))
  where
    go : (t : Bool) → Sound (Unsettled r) (restarts (Unsettled r) w t)
    go false = s
    go true =
        sound-known (Unsettled r) (record w { best = (restarts (Unsettled r) w true).best; waiting = (restarts (Unsettled r) w true).waiting; undecided = (restarts (Unsettled r) w true).undecided; sent = λ i e. false; took = λ i e. false }) (restarts (Unsettled r) w true).knows (λ j e. or_right (same j r) (w.knows j) e) (sound-anew (Unsettled r) (Unsettled r) w (restarts (Unsettled r) w true).best (restarts (Unsettled r) w true).waiting (restarts (Unsettled r) w true).undecided s.known s)

pub sound-settle : (p : Phase) (w : Facts) (e : ℕ) → Sound p w → Sound (settled p w e) w
sound-settle Whole w e s = s
sound-settle (Down r) w e s = s
sound-settle (Unsettled r) w e s = go (w.knows r && (w.took (next r) e && w.took (last r) e)) refl
  where
    go : (t : Bool) → (w.knows r && (w.took (next r) e && w.took (last r) e)) ≡ t → Sound (if t then Whole else Unsettled r) w
    go false h = s
    go true h =
        let k = and_right (w.knows r) (w.took (next r) e && w.took (last r) e) h in
        record {
          known = λ j. three (λ q. w.knows q ≡ true) r j (and_left (w.knows r) (w.took (next r) e && w.took (last r) e) h) (s.sent (next r) e (s.taken (next r) e (and_left (w.took (next r) e) (w.took (last r) e) k))) (s.sent (last r) e (s.taken (last r) e (and_right (w.took (next r) e) (w.took (last r) e) k)));
          sent = s.sent;
          taken = s.taken;
          write_era = s.write_era;
          request_era = s.request_era;
          unsaid = s.unsaid;
          fresh = s.fresh;
          spoke = s.spoke;
          wrote = s.wrote;
          acker = s.acker;
          earlier = s.earlier;
        }

pub sound-replace : (p : Phase) (w : Facts) (r : Place) (joins : Bool) → Sound p w → Sound (replaced p r) (replaces w (is_whole p) r joins)
sound-replace Whole w r joins s =
    record {
      known = λ j e. rw (if_true (suc w.era == suc w.era) r (w.changed (suc w.era)) (eq_refl (suc w.era))) (same_refl r);
      sent = λ i e h. apart false h refl;
      taken = λ i e h. h;
      write_era = λ x. omega (arith, s.write_era x);
      request_era = λ n. omega (arith, s.request_era n);
      unsaid = s.unsaid;
      fresh = s.fresh;
      spoke = λ n i v e h j f. absurd (omega (arith, e, s.request_era n));
      wrote = λ x h e i f. absurd (omega (arith, e, s.write_era x));
      acker = λ x i e h. absurd (omega (arith, e, s.write_era x));
      earlier = s.earlier;
    }
sound-replace (Down q) w r joins s = s
sound-replace (Unsettled q) w r joins s = s
