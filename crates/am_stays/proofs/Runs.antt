-- What holds after every list of events.
use Rattle.std.proofs.Common.{◌≡◌, ℕ, suc, ◌<◌, ◌≤◌, true, false, ◌⊎◌, inl, inr, List, [], ◌∷◌, refl, subst, sym, arith, ◌∙◌}
use Rattle.std.specs.Prelude.{◌==◌}
use Rattle.am_stays.specs.Places.{Place, First, Second, Third, same}
use Rattle.am_stays.proofs.Phases.{next, last, is_settled}
use Rattle.am_stays.proofs.Machine.{Event, World, best_of, happens, run, start}
use Rattle.am_stays.proofs.MachineClaims.{IsKept, IsSeen, IsPast}
use Rattle.am_stays.proofs.Tables.{apart, same_is}
use Rattle.am_stays.proofs.Invariants.{Sound, Good, Held, Aside}
use Rattle.am_stays.proofs.Holders.{held-pair, unknown_settled}
use Rattle.am_stays.proofs.Events.{Now, Lost, Stays, goes_cases, serves_goes, serves_settled, best_now, best_stays, best_old, sound-after, good-after, two_spoke}

pub record Fine (w : World) : Type 0 where
  pub sound : Sound w.phase w.facts
  pub good : (x : ℕ) → w.facts.outlived < x → Good x w.phase w.facts

pub fine-happens : (w : World) (e : Event) → Fine w → Fine (happens w e)
fine-happens w e f =
    record {
      sound = sound-after w.phase w.facts e f.sound;
      good = λ x l. good-after x w.phase w.facts e l f.sound (f.good x);
    }

pub fine-run : (events : List Event) (w : World) → Fine w → Fine (run events w)
fine-run [] w f = f
fine-run (e ∷ es) w f = fine-run es (happens w e) (fine-happens w e f)

pub fine-start : (best : Place → ℕ) → Fine (start best)
fine-start best =
    record {
      sound =
          record {
            known = λ i. refl;
            sent = λ i e h. refl;
            taken = λ i e h. h;
            write_era = λ x. omega arith;
            request_era = λ n. omega arith;
            unsaid = λ n e i v. refl;
            fresh = λ x e i. refl;
            spoke = λ n i v e h j f. refl;
            wrote = λ x e f i h. refl;
            acker = λ x i e h. refl;
            earlier = λ n x h. h;
          };
      good = λ x l.
          record {
            told = λ r. apart false r refl;
            stays = λ r. apart false r refl;
            moved = λ r. apart false r refl;
            left = λ r. apart false r refl;
            past = λ r. apart false r refl;
            acknowledged = λ a. apart false a refl;
            took = λ i e z. apart false z refl;
            heard = λ n r. apart false r refl;
          };
    }

pub kept-from : (w : World) → Fine w → IsKept w
kept-from w f x g i j a l e s t = go (goes_cases w.phase w.facts g i (serves_goes w.phase w.facts g i s)) (goes_cases w.phase w.facts g j (serves_goes w.phase w.facts g j t))
  where
    both : Held x w.phase w.facts.best w.facts.sent w.facts.list × Aside x w.facts
    both = (f.good x l).acknowledged a

    settled_ : (k : Place) → Stays w.phase w.facts g k → is_settled w.phase k ≡ true
    settled_ k h = unknown_settled w.phase (w.facts.changed w.facts.era) k w.facts.knows f.sound.known (subst (λ q. same k (w.facts.changed q) ≡ false) h.2 h.1) h.3

    two : is_settled w.phase i ≡ true → is_settled w.phase j ≡ true → best_of w.facts g i ≡ w.facts.best i → best_of w.facts g j ≡ w.facts.best j → (x ≤ best_of w.facts g i) ⊎ (x ≤ best_of w.facts g j)
    two h k m n =
        elim (held-pair x w.phase w.facts.best w.facts.sent w.facts.list i j e h k both.0) [
          | inl b ↦ inl (subst (λ q. x ≤ q) (sym m) b)
          | inr b ↦ inr (subst (λ q. x ≤ q) (sym n) b)
        ]

    -- one lost its place, the other has not learned it
    aside : (k m : Place) → Lost w.phase w.facts g k → Stays w.phase w.facts g m → (x ≤ best_of w.facts g k) ⊎ (x ≤ best_of w.facts g m)
    aside k m h n =
        elim (both.1 (subst (λ q. w.facts.lingers q ≡ true) n.2 h.3) m (subst (λ q. same m (w.facts.changed q) ≡ false) n.2 n.1) n.3) [
          | inl b ↦ inl (subst (λ q. x ≤ q) (sym (best_old w.facts g k h.0 h.2)) (subst (λ q. x ≤ w.facts.old q) (sym n.2) b))
          | inr b ↦ inr (subst (λ q. x ≤ q) (sym (best_stays w.facts g m n.1)) b)
        ]

    go : Now w.phase w.facts g i ⊎ (Lost w.phase w.facts g i ⊎ Stays w.phase w.facts g i) → Now w.phase w.facts g j ⊎ (Lost w.phase w.facts g j ⊎ Stays w.phase w.facts g j) → (x ≤ best_of w.facts g i) ⊎ (x ≤ best_of w.facts g j)
    go (inl h) (inl k) = two (serves_settled w.phase w.facts g i s h.0) (serves_settled w.phase w.facts g j t k.0) (best_now w.facts g i h.0) (best_now w.facts g j k.0)
    go (inl h) (inr (inl k)) = apart (g == w.facts.era) h.0 k.0
    go (inl h) (inr (inr k)) = apart (g == w.facts.era) h.0 k.0
    go (inr (inl h)) (inl k) = apart (g == w.facts.era) k.0 h.0
    go (inr (inl h)) (inr (inl k)) = apart (same i j) (subst (λ q. same i q ≡ true) (sym (same_is j (w.facts.changed (suc g)) k.2)) h.2) e
    go (inr (inl h)) (inr (inr k)) = aside i j h k
    go (inr (inr h)) (inl k) = apart (g == w.facts.era) k.0 h.0
    go (inr (inr h)) (inr (inl k)) = elim (aside j i k h) [ inl b ↦ inr b | inr b ↦ inl b ]
    go (inr (inr h)) (inr (inr k)) = two (settled_ i h) (settled_ j k) (best_stays w.facts g i h.1) (best_stays w.facts g j k.1)

next_last : (s : Place) → same (next s) (last s) ≡ false
next_last First = refl
next_last Second = refl
next_last Third = refl

pub seen-from : (w : World) → Fine w → IsSeen w.facts
seen-from w f n x s v u l b g h k =
    elim ((f.good x g).heard n l b (next s) v h) [
      | inl a ↦ omega (arith, a)
      | inr a ↦ omega (arith, a.1 (last s) u (next_last s) k)
    ]

-- two different places are the two other than a third
pair_of : (P : Place → Place → Type 0) (i j : Place) → same i j ≡ false → ((s : Place) → P (next s) (last s)) → ((s : Place) → P (last s) (next s)) → P i j
pair_of P First First e h k = cc
pair_of P First Second e h k = h Third
pair_of P First Third e h k = k Second
pair_of P Second First e h k = k Third
pair_of P Second Second e h k = cc
pair_of P Second Third e h k = h First
pair_of P Third First e h k = h Second
pair_of P Third Second e h k = k First
pair_of P Third Third e h k = cc

pub past-from : (w : World) → Fine w → IsPast w
past-from w f n o g i j k l v u s t both e h y z = go (goes_cases w.phase w.facts g k y) (goes_cases w.phase w.facts g l z)
  where
    -- who kept its place knows the present era, if the requests are of it
    all : (q : Place) → Stays w.phase w.facts g q → w.facts.knows q ≡ true
    all q c =
        let now : w.facts.request_era n ≡ w.facts.era = omega (arith, c.2, h, f.sound.request_era n) in
        let d : same q (w.facts.changed w.facts.era) ≡ false = subst (λ m. same q (w.facts.changed m) ≡ false) c.2 c.1 in
        pair_of (λ a b. (v u : ℕ) → w.facts.answer n a v ≡ true → w.facts.answer o b u ≡ true → w.facts.knows q ≡ true) i j e (λ spare v u a b. two_spoke w.phase w.facts n o spare v u f.sound now (sym both ∙ now) a b q d) (λ spare v u a b. two_spoke w.phase w.facts o n spare u v f.sound (sym both ∙ now) now b a q d) v u s t

    go : Now w.phase w.facts g k ⊎ (Lost w.phase w.facts g k ⊎ Stays w.phase w.facts g k) → Now w.phase w.facts g l ⊎ (Lost w.phase w.facts g l ⊎ Stays w.phase w.facts g l) → same k l ≡ true
    go (inl c) d = absurd (omega (arith, c.1, h, f.sound.request_era n))
    go (inr c) (inl d) = absurd (omega (arith, d.1, h, f.sound.request_era n))
    go (inr (inr c)) (inr d) = apart (w.facts.knows k) (all k c) c.3
    go (inr (inl c)) (inr (inr d)) = apart (w.facts.knows l) (all l d) d.3
    go (inr (inl c)) (inr (inl d)) = subst (λ q. same k q ≡ true) (sym (same_is l (w.facts.changed (suc g)) d.2)) c.2
