-- Who got its place last holds nothing until it knows the era.
use Rattle.std.proofs.Common.{◌≡◌, ℕ, suc, max, Bool, true, false, ◌&&◌, if◌then◌else◌, ◌⊎◌, inl, inr, List, [], ◌∷◌, refl, subst, sym, ◌∙◌}
use Rattle.std.specs.Prelude.{◌==◌}
use Rattle.am_stays.specs.Places.{Place, same}
use Rattle.am_stays.proofs.Phases.{Phase, Whole, Down, Unsettled, is_whole, is_lacking}
use Rattle.am_stays.proofs.Machine.{Facts, Event, Request, Get_arrives, Write, Put_arrives, Reply, Close, Refuse, Accept, Retire, Cut, State_arrives, Settle, Learn, Drop_out, Crash, Restart, Replace, Stop, World, goes_by, stays, holds, may_return, facts_after, happens, run}
use Rattle.am_stays.proofs.MachineClaims.{IsEmpty}
use Rattle.am_stays.proofs.Tables.{and_left, and_right, apart, decide, same_is, eq_refl, if_true, if_false, or_false_right}
use Rattle.am_stays.proofs.Events.{Now, Lost, Stays, goes_cases}

and_none : (a b : Bool) → (a ≡ true → b ≡ false) → (a && b) ≡ false
and_none true b h = h refl
and_none false b h = refl

-- it goes by no era in which it would hold anything there
unused : (p : Phase) (w : Facts) (g : ℕ) (q : Place) → w.knows q ≡ false → same q (w.changed w.era) ≡ true → goes_by p w g q ≡ true → stays w g q ≡ false
unused p w g q k r z = go (goes_cases p w g q z)
  where
    go : Now p w g q ⊎ (Lost p w g q ⊎ Stays p w g q) → stays w g q ≡ false
    go (inl c) = apart (w.knows q) c.2 k
    go (inr (inl c)) = rw (c.0, c.2)
    go (inr (inr c)) = apart (same q (w.changed w.era)) r (subst (λ m. same q (w.changed m) ≡ false) c.2 c.1)

-- nothing is accepted there
unheld : (p : Phase) (w : Facts) (t : Bool) (g : ℕ) (i : Place) (x : ℕ) → (t ≡ true → goes_by p w g i ≡ true) → IsEmpty w → IsEmpty (holds w t g i x)
unheld p w t g i x on e q k r =
    if_false ((t && stays w g i) && same q i) (max (w.best q) x) (w.best q)
    (and_none (t && stays w g i) (same q i) (λ h.
    elim (decide (same q i)) [
      | inr a ↦ a
      | inl a ↦
          let y : goes_by p w g q ≡ true = subst (λ m. goes_by p w g m ≡ true) (sym (same_is q i a)) (on (and_left t (stays w g i) h)) in
          apart (stays w g i) (and_right t (stays w g i) h) (subst (λ m. stays w g m ≡ false) (same_is q i a) (unused p w g q k r y))
    ]))
    ∙ e q k r

zero_or : (c : Bool) (b : ℕ) → b ≡ 0 → (if c then 0 else b) ≡ 0
zero_or true b h = refl
zero_or false b h = h

empty-merge : (p : Phase) (w : Facts) (i : Place) (e : ℕ) → IsEmpty w → IsEmpty (facts_after p w (State_arrives i e))
empty-merge Whole w i e h = h
empty-merge (Down s) w i e h = h
empty-merge (Unsettled s) w i e h = λ q k r.
    if_false ((w.knows s && w.sent i e) && same q s) (max (w.best q) (w.list i e)) (w.best q)
    (and_none (w.knows s && w.sent i e) (same q s) (λ z.
    elim (decide (same q s)) [
      | inr a ↦ a
      | inl a ↦ apart (w.knows s) (and_left (w.knows s) (w.sent i e) z) (subst (λ m. w.knows m ≡ false) (same_is q s a) k)
    ]))
    ∙ h q k r

empty-replace : (p : Phase) (w : Facts) (s : Place) (joins : Bool) → IsEmpty w → IsEmpty (facts_after p w (Replace s joins))
empty-replace (Down o) w s joins h = h
empty-replace (Unsettled o) w s joins h = h
empty-replace Whole w s joins h = λ q k r. if_true (same q s) 0 (w.best q) (subst (λ m. same q m ≡ true) (if_true (suc w.era == suc w.era) s (w.changed (suc w.era)) (eq_refl (suc w.era))) r)

empty-after : (p : Phase) (w : Facts) (e : Event) → IsEmpty w → IsEmpty (facts_after p w e)
empty-after p w (Put_arrives x i) h = λ q k r. unheld p w (w.put x && goes_by p w (w.write_era x) i) (w.write_era x) i x (λ z. and_right (w.put x) (goes_by p w (w.write_era x) i) z) h q k r
empty-after p w (Accept g i s) h = unheld p w (goes_by p w g i) g i s (λ z. z) h
empty-after p w (Retire g i) h = λ q k r. zero_or ((goes_by p w g i && stays w g i) && same q i) (w.best q) (h q k r)
empty-after p w (State_arrives i e) h = empty-merge p w i e h
empty-after p w (Learn i) h = λ q k r. h q (or_false_right (same q i) (w.knows q) k) r
empty-after p w (Crash s) h = λ q k r. zero_or (is_whole p && same q s) (w.best q) (h q k r)
empty-after p w Restart h = λ q k r. zero_or (may_return p w && is_lacking p q) (w.best q) (h q (or_false_right (may_return p w && is_lacking p q) (w.knows q) k) r)
empty-after p w (Replace s joins) h = empty-replace p w s joins h
empty-after p w (Request n lag) h = h
empty-after p w (Get_arrives n i) h = h
empty-after p w (Write n x s v u) h = h
empty-after p w (Reply x s) h = h
empty-after p w (Close x) h = h
empty-after p w (Refuse n) h = h
empty-after p w (Cut i e) h = h
empty-after p w (Settle e) h = h
empty-after p w (Drop_out g) h = h
empty-after p w Stop h = h

pub empty-run : (events : List Event) (w : World) → IsEmpty w.facts → IsEmpty (run events w).facts
empty-run [] w h = h
empty-run (e ∷ es) w h = empty-run es (happens w e) (empty-after w.phase w.facts e h)
