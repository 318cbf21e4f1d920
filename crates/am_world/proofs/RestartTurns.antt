-- One instance is restarted, and all others follow that, in order of number: each has its turn.
use Rattle.std.proofs.Common.{◌≡◌, ◌⊎◌, ◌∙◌, ℕ, ◌+◌, ◌-◌, ◌<◌, ◌≤◌, ◌==◌, nat_eq, suc, zero, Bool, true, false}
use Rattle.std.proofs.Common.{List, [], ◌∷◌, ◌++◌, drop, inl, inr, length, take, refl, sym, ap, arith, subst}
use Rattle.std.proofs.Common.{if◌then◌else◌}
use Rattle.std.proofs.lemmas.Bool.{cases_Bool, or_right, true≢false}
use Rattle.std.proofs.lemmas.Bool.Decides.{nat_tests}
use Rattle.am_cluster.specs.Events.{Output}
use Rattle.am_cluster.specs.RingChanges.{just_opened, other_restarted}
use Rattle.am_cluster.proofs.Counted.{just_opened_counted}
use Rattle.am_item.specs.declared.fault.Fault.{Fault}
use Rattle.am_ring.specs.Instances.{all_instances, is_among}
use Rattle.am_instance.specs.Changing.{renewed}
use Rattle.am_instance.specs.Here.{Circumstances, here_on}
use Rattle.am_instance.specs.Instance.{local_in}
use Rattle.am_instance.specs.Reacting.{reaction_on}
use Rattle.am_instance.specs.Shelves.{Shelf}
use Rattle.am_instance.specs.Ticks.{Either}
use Rattle.am_instance.specs.declared.instance.Instance.{Instance}
use Rattle.am_world.specs.Changing.{ComesUp, ComesUpAt, FailsToComeUp, FailsToFollow, FollowsRestart, FollowsRestartAt}
use Rattle.am_world.specs.Changing.{InTurn, Restarting, TakesPart, WhereUp}
use Rattle.am_world.specs.Places.{AreNumbered}
use Rattle.am_world.specs.declared.state.State.{State}
use Rattle.am_world.proofs.InTurn.{Becomes, HadTurns, had_turns, in_turn_then}
use Rattle.am_world.proofs.SaidAll.{says_from, says_reacting}
use Rattle.am_world.proofs.TickPlaces.{CountsFrom, all_counted, not_later}
use Rattle.am_world.proofs.TickSaid.{AreFrom}
use Rattle.am_world.proofs.TurnsCounted.{other_counted}

-- ---- what each does

-- the one that is restarted is in its next incarnation then
abbrev pub restarted_as : Circumstances → (r : ℕ) → Becomes
restarted_as around r i x = if i == r then renewed around x else x

-- it comes up, and any other follows that, where it is up
abbrev pub DoesAtRestart : Circumstances → (r : ℕ) → (old new : Shelf) → (i : ℕ) → (told : List Output) → Instance
    → Instance → Type 0
DoesAtRestart around r old new i told x x' =
    Either (i == r) (ComesUp around old new told x x') (WhereUp (FollowsRestart around r) told x x')

-- .. or it stops
abbrev pub FailsAtRestart : Circumstances → (r : ℕ) → (old new : Shelf) → (i : ℕ) → Fault → Instance → Instance
    → Type 0
FailsAtRestart around r old new i fault x x' =
    Either (i == r) (FailsToComeUp around old new fault x x') (FailsToFollow around r fault x x')

-- ---- whose messages it tells

none_from : (i : ℕ) (told : List Output) → told ≡ [] → AreFrom i told
none_from i told none =
    subst (AreFrom i) (sym none) (λ m among. let within = among.1 in absurd (omega (arith, within)))

comes_from : (around : Circumstances) (old new : Shelf) (told : List Output) (x x' : Instance)
    → ComesUp around old new told x x' → AreFrom x.number told
unfolding here_on
comes_from around old new told x x' comes =
    says_from (renewed around x) told (λ t. just_opened (here_on around (renewed around x) t) (comes.held t))
    (record { all = comes.all; outputs = comes.outputs; says = λ t. (comes.does t).says })
    (λ t. (comes.held t).ledger.messages)
    (λ t. just_opened_counted (here_on around (renewed around x) t) (comes.held t))

follows_from : (around : Circumstances) (r : ℕ) (told : List Output) (x x' : Instance)
    → WhereUp (FollowsRestart around r) told x x' → AreFrom x.number told
unfolding here_on
follows_from around r told x x' follows = elim (cases_Bool x.up) [
  | inl up ↦
      says_from x told (λ t. reaction_on around x t (λ here. other_restarted here r))
      (says_reacting around (λ t here. other_restarted here r) x x' told (follows.acts up))
      (λ t. (local_in t x).ledger.messages)
      (λ t. other_counted (here_on around x t) r (local_in t x))
  | inr down ↦ none_from x.number told (follows.quiet down)
]

restart_from : (around : Circumstances) (r : ℕ) (old new : Shelf) (i : ℕ) (told : List Output) (x x' : Instance)
    → DoesAtRestart around r old new i told x x' → AreFrom x.number told
restart_from around r old new i told x x' does = by (i == r) does
  where
    by : (b : Bool)
        → Either b (ComesUp around old new told x x') (WhereUp (FollowsRestart around r) told x x')
        → AreFrom x.number told
    by true comes = comes_from around old new told x x' comes
    by false follows = follows_from around r told x x' follows

-- ---- all numbers, around one

-- it stands between those before and those behind it
around_one : (n r : ℕ) (ns : List ℕ) → CountsFrom n ns → n ≤ r → r < n + length ns
    → take (r - n) ns ++ r ∷ drop (suc (r - n)) ns ≡ ns
around_one n r [] counts low high = absurd (omega (arith, low, high))
around_one n r (m ∷ ms) (first, rest) low high = elim (cases_Bool (nat_eq r n)) [
  | inl h ↦
      let same : r ≡ n = grind (arith, nat_tests) in
      let none : r - n ≡ 0 = omega (arith, same) in
      rw none (ap (λ k. k ∷ ms) (same ∙ sym first))
  | inr h ↦
      let above : n < r = above_it h in
      let more : r - n ≡ suc (r - suc n) = omega (arith, above) in
      rw more (ap (λ ks. m ∷ ks)
      (around_one (suc n) r ms rest (omega (arith, above)) (omega (arith, high))))
]
  where
    above_it : nat_eq r n ≡ false → n < r
    above_it apart = grind (arith, nat_tests)

-- none of those before it is it
before_apart : (n i r : ℕ) (ns : List ℕ) → CountsFrom n ns → n ≤ r → is_among i (take (r - n) ns) ≡ true
    → nat_eq i r ≡ false
before_apart n i r [] counts low among = none (r - n) among
  where
    none : (k : ℕ) → is_among i (take k []) ≡ true → nat_eq i r ≡ false
    none zero never = absurd (true≢false (sym never))
    none (suc k) never = absurd (true≢false (sym never))
before_apart n i r (m ∷ ms) (first, rest) low among = elim (cases_Bool (nat_eq r n)) [
  | inl h ↦
      let same : r ≡ n = grind (arith, nat_tests) in
      let none : r - n ≡ 0 = omega (arith, same) in
      absurd (true≢false (sym (rw none at among)))
  | inr h ↦
      let above : n < r = above_it h in
      let more : r - n ≡ suc (r - suc n) = omega (arith, above) in
      either above (cases_Bool (nat_eq i m)) (rw more at among)
      (λ later. before_apart (suc n) i r ms rest (omega (arith, above)) later)
]
  where
    above_it : nat_eq r n ≡ false → n < r
    above_it apart = grind (arith, nat_tests)

    either : n < r → (nat_eq i m ≡ true) ⊎ (nat_eq i m ≡ false) → is_among i (m ∷ take (r - suc n) ms) ≡ true
        → (is_among i (take (r - suc n) ms) ≡ true → nat_eq i r ≡ false) → nat_eq i r ≡ false
    either above (inl h) is behind =
        let same : i ≡ m = grind (arith, nat_tests) in
        let less : i < r = omega (arith, same, first, above) in grind (arith, nat_tests)
    either above (inr h) is behind = behind (rw h at is)

pub not_before : (r : ℕ) → 1 ≤ r → is_among r (take (r - 1) all_instances) ≡ false
not_before r low = elim (cases_Bool (is_among r (take (r - 1) all_instances))) [
  | inl among ↦
      let itself : nat_eq r r ≡ true = grind (arith, nat_tests) in
      absurd (true≢false (sym itself ∙ before_apart 1 r r all_instances all_counted low among))
  | inr apart ↦ apart
]

-- .. nor of those behind it
behind_counts : (n k : ℕ) (ns : List ℕ) → CountsFrom n ns → CountsFrom (n + k) (drop k ns)
behind_counts n zero ns counts = let same : n + 0 ≡ n = omega arith in subst (λ m. CountsFrom m ns) (sym same) counts
behind_counts n (suc k) [] counts = tt
behind_counts n (suc k) (m ∷ ms) (first, rest) =
    let same : suc n + k ≡ n + suc k = omega arith in
    subst (λ j. CountsFrom j (drop k ms)) same (behind_counts (suc n) k ms rest)

behind_apart : (i r : ℕ) → is_among i (drop r all_instances) ≡ true → nat_eq i r ≡ false
behind_apart i r among = elim (cases_Bool (nat_eq i r)) [
  | inl h ↦
      let same : i ≡ r = grind (arith, nat_tests) in
      absurd (true≢false (sym among
      ∙ not_later (1 + r) i (drop r all_instances) (behind_counts 1 r all_instances all_counted)
      (omega (arith, same))))
  | inr h ↦ h
]

pub not_behind : (r : ℕ) → is_among r (drop r all_instances) ≡ false
not_behind r = elim (cases_Bool (is_among r (drop r all_instances))) [
  | inl among ↦
      let itself : nat_eq r r ≡ true = grind (arith, nat_tests) in
      absurd (true≢false (sym itself ∙ behind_apart r r among))
  | inr apart ↦ apart
]

-- ---- all their turns

-- a turn of this kind is one of that
pub in_turn_as : (One Other : ℕ → State → State → Type 0) (ns : List ℕ)
    → ((n : ℕ) → is_among n ns ≡ true → (w w' : State) → One n w w' → Other n w w') → (w w' : State)
    → InTurn One ns w w' → InTurn Other ns w w'
in_turn_as One Other [] makes w w' is = is
in_turn_as One Other (n ∷ ns) makes w w' (mid, turn, rest) =
    let itself : nat_eq n n ≡ true = grind (arith, nat_tests) in
    let first : is_among n (n ∷ ns) ≡ true = rw itself refl in (
      mid,
      makes n first w mid turn,
      in_turn_as One Other ns (λ m among. makes m (or_right (m == n) (is_among m ns) among)) mid w' rest,
    )

module _ (around : Circumstances) (r : ℕ) (old new : Shelf) where
  abbrev TakesPartBy : Bool → ℕ → State → State → Type 0
  TakesPartBy b i w w' =
      TakesPart i (λ x. if b then renewed around x else x)
      (λ told x x'. Either b (ComesUp around old new told x x') (WhereUp (FollowsRestart around r) told x x'))
      (λ fault x x'. Either b (FailsToComeUp around old new fault x x') (FailsToFollow around r fault x x')) w w'

  abbrev AtRestart : ℕ → State → State → Type 0
  AtRestart i w w' = TakesPartBy (i == r) i w w'

  itself_comes : (w w' : State) → ComesUpAt around r old new w w' → AtRestart r w w'
  itself_comes w w' comes =
      let itself : nat_eq r r ≡ true = grind (arith, nat_tests) in
      subst (λ b. TakesPartBy b r w w') (sym itself) comes

  other_follows : (i : ℕ) → nat_eq i r ≡ false → (w w' : State) → FollowsRestartAt around r i w w'
      → AtRestart i w w'
  other_follows i apart w w' follows = subst (λ b. TakesPartBy b i w w') (sym apart) follows

  all_in_turn : (w w' : State) → 1 ≤ r → r ≤ 8 → Restarting around r old new w w'
      → InTurn AtRestart all_instances w w'
  all_in_turn w w' low high restarting =
      subst (λ ns. InTurn AtRestart ns w w') all_of_them
      (in_turn_then AtRestart (take (r - 1) all_instances) (r ∷ drop r all_instances) w restarting.lower w'
      (in_turn_as (FollowsRestartAt around r) AtRestart (take (r - 1) all_instances)
      (λ n among. other_follows n (before_apart 1 n r all_instances all_counted low among)) w restarting.lower
      restarting.before) (
        restarting.upper,
        itself_comes restarting.lower restarting.upper restarting.opens,
        in_turn_as (FollowsRestartAt around r) AtRestart (drop r all_instances)
            (λ n among. other_follows n (behind_apart n r among)) restarting.upper w' restarting.after,
      ))
    where
      all_of_them : take (r - 1) all_instances ++ r ∷ drop r all_instances ≡ all_instances
      all_of_them =
          let next : r ≡ suc (r - 1) = omega (arith, low) in
          (λ d. take (r - 1) all_instances ++ r ∷ drop (next d) all_instances)
          ∙ around_one 1 r all_instances all_counted low (omega (arith, high))

  -- what each did, and who stopped
  pub restart_turns : (w w' : State) → AreNumbered w.instances → 1 ≤ r → r ≤ 8
      → Restarting around r old new w w'
      → HadTurns (restarted_as around r) (DoesAtRestart around r old new) (FailsAtRestart around r old new)
      all_instances w w'
  restart_turns w w' numbered low high restarting =
      had_turns (restarted_as around r) (DoesAtRestart around r old new) (FailsAtRestart around r old new)
      (restart_from around r old new) w w' numbered (all_in_turn w w' low high restarting)
