-- What became of each instance where one of them was restarted, and none stopped.
use Rattle.std.proofs.Common.{◌≡◌, ◌⊎◌, ◌∙◌, inl, inr, ℕ, ◌+◌, ◌==◌, nat_eq, true, false, List, [], ◌∷◌, map}
use Rattle.std.proofs.Common.{Option, None, Some, option_map, refl, sym, ap, subst, arith, if◌then◌else◌}
use Rattle.std.proofs.lemmas.Bool.{cases_Bool}
use Rattle.std.proofs.lemmas.Bool.Decides.{nat_tests}
use Rattle.am_cluster.proofs.Replied.{rows_over}
use Rattle.am_cluster.proofs.ReplyTurns.{just_opened_over, other_restarted_over}
use Rattle.am_cluster.specs.Events.{Output}
use Rattle.am_cluster.specs.Local.{Local}
use Rattle.am_cluster.specs.Outputs.{are_owned, front_outputs}
use Rattle.am_cluster.specs.Reactions.{Reaction}
use Rattle.am_cluster.specs.Replying.{IsOver, WaitOver}
use Rattle.am_cluster.specs.RingChanges.{other_restarted}
use Rattle.am_cluster.specs.Roster.{IsSameRoster, Restarts, put_at, roster_after}
use Rattle.am_cluster.specs.View.{Watch}
use Rattle.am_http.specs.Connections.{bytes_of}
use Rattle.am_ring.specs.Instances.{all_instances, is_among}
use Rattle.am_rows.specs.Rows.{rows_of}
use Rattle.am_instance.specs.Changing.{renewed}
use Rattle.am_instance.specs.Here.{Circumstances, here_on}
use Rattle.am_instance.specs.Instance.{IsSameNode, local_in, refused_in}
use Rattle.am_instance.specs.Reacting.{reaction_on}
use Rattle.am_instance.specs.Shelves.{Shelf}
use Rattle.am_instance.specs.Ticks.{Either}
use Rattle.am_instance.specs.declared.instance.Instance.{Instance}
use Rattle.am_world.specs.Changing.{ComesUp, FollowsRestart, WhereUp, around_opening, incarnations_with}
use Rattle.am_world.specs.Places.{AreNumbered, bytes_at, bytes_where, incarnation_at, incarnation_where}
use Rattle.am_world.specs.Places.{incarnations_of, instance_at, known_at, known_where, local_at, local_where}
use Rattle.am_world.specs.Places.{refused_at, refused_where, up_at, up_where}
use Rattle.am_world.specs.Simulation.{AreAsked, IsAskerOf, roster_of}
use Rattle.am_world.specs.Steps.{Later}
use Rattle.am_world.specs.declared.common.Common.{Common}
use Rattle.am_world.specs.declared.state.State.{State}
use Rattle.am_world.proofs.AloneOwn.{AreOf}
use Rattle.am_world.proofs.AlonePlaces.{at_each, incarnations_are}
use Rattle.am_world.proofs.AlonePlaces.{local_here, map_alike, up_here}
use Rattle.am_world.proofs.ComesUp.{opened_owned}
use Rattle.am_world.proofs.InTurn.{HadTurns}
use Rattle.am_world.proofs.InstancesLemmas.{number_of}
use Rattle.am_world.proofs.RestartTurns.{DoesAtRestart, FailsAtRestart, restarted_as}
use Rattle.am_world.proofs.RingOwn.{other_restarted_own}
use Rattle.am_world.proofs.Rostered.{StaysSo, named_by, opened_roster, put_here, put_other}
use Rattle.am_world.proofs.SaidAll.{SaysAll, says_no_front, says_owned, says_reacting}
use Rattle.am_world.proofs.TickPlaces.{at_each_place, nobody, standing}
use Rattle.am_world.proofs.TickSaid.{of_front, of_somebody}

-- ---- the incarnations of all, where one is in its next

abbrev raise : (r : ℕ) → Instance → Instance
raise r x = record x { incarnation = if x.number == r then x.incarnation + 1 else x.incarnation }

raise_all : (r : ℕ) (xs : List Instance) → incarnations_of (map (raise r) xs) ≡ incarnations_with r xs
raise_all r [] = refl
raise_all r (x ∷ xs) =
    ap (λ ns. (if x.number == r then x.incarnation + 1 else x.incarnation) ∷ ns) (raise_all r xs)

raise_numbers : (r : ℕ) (xs : List Instance)
    → map (λ (x : Instance). x.number) (map (raise r) xs) ≡ map (λ (x : Instance). x.number) xs
raise_numbers r [] = refl
raise_numbers r (x ∷ xs) = ap (λ ns. x.number ∷ ns) (raise_numbers r xs)

raise_at : (r j : ℕ) (xs : List Instance)
    → instance_at j (map (raise r) xs) ≡ option_map (raise r) (instance_at j xs)
unfolding instance_at
raise_at r j [] = refl
raise_at r j (x ∷ xs) = elim (cases_Bool (nat_eq x.number j)) [
  | inl h ↦ rw h refl
  | inr h ↦ rw h (raise_at r j xs)
]

pub next_incarnations : (r : ℕ) (xs : List Instance) (x : Instance) → AreNumbered xs → instance_at r xs ≡ Some x
    → incarnations_with r xs
    ≡ map (put_at (λ k. incarnation_at k xs) r (incarnation_at r xs + 1)) all_instances
unfolding incarnation_at
next_incarnations r xs x numbered here =
    sym (raise_all r xs)
    ∙ incarnations_are (map (raise r) xs) (raise_numbers r xs ∙ numbered)
    ∙ map_alike (λ j. incarnation_at j (map (raise r) xs)) next all_instances
    (at_each (λ j. incarnation_at j (map (raise r) xs) ≡ next j) r own other)
  where
    next : ℕ → ℕ
    next = put_at (λ k. incarnation_where (instance_at k xs)) r (incarnation_where (instance_at r xs) + 1)

    own : incarnation_where (instance_at r (map (raise r) xs)) ≡ next r
    own =
        let is : x.number ≡ r = number_of r xs x here in
        let itself : nat_eq x.number r ≡ true = grind (arith, nat_tests) in
        ap incarnation_where (raise_at r r xs ∙ ap (option_map (raise r)) here)
        ∙ ap (λ b. if b then x.incarnation + 1 else x.incarnation) itself
        ∙ ap (λ n. n + 1) (sym (ap incarnation_where here))
        ∙ sym (put_here (λ k. incarnation_where (instance_at k xs)) r (incarnation_where (instance_at r xs) + 1))

    by_found : (j : ℕ) → nat_eq j r ≡ false → (o : Option Instance) → instance_at j xs ≡ o
        → incarnation_where (option_map (raise r) o) ≡ incarnation_where o
    by_found j apart None found = refl
    by_found j apart (Some y) found =
        let is : y.number ≡ j = number_of j xs y found in
        let differs : nat_eq y.number r ≡ false = grind (arith, nat_tests) in
        ap (λ b. if b then y.incarnation + 1 else y.incarnation) differs

    other : (j : ℕ) → nat_eq j r ≡ false → incarnation_where (instance_at j (map (raise r) xs)) ≡ next j
    other j apart =
        ap incarnation_where (raise_at r j xs) ∙ by_found j apart (instance_at j xs) refl
        ∙ sym (put_other (λ k. incarnation_where (instance_at k xs)) r j (incarnation_where (instance_at r xs) + 1)
        apart)

-- ---- who did what

-- one that was up follows the restart
pub record Follower (j r : ℕ) (around : Circumstances) (told : List Output) (w w' : State) : Type 0 where
  pub x : Instance
  pub y : Instance
  pub is_at : instance_at j w.instances ≡ Some x
  pub is_then : instance_at j w'.instances ≡ Some y
  pub is_up : x.up ≡ true
  pub follows : FollowsRestart around r told x y

-- one that was down, or isn't there, does nothing
pub record Idle (j : ℕ) (told : List Output) (w w' : State) : Type 0 where
  pub quiet : told ≡ []
  pub same : instance_at j w'.instances ≡ instance_at j w.instances
  pub was_down : up_at j w.instances ≡ false

abbrev pub Restarted : (r : ℕ) → (old new : Shelf) → State → State → Type 0
Restarted r old new w w' =
    HadTurns (restarted_as (around_opening r w) r) (DoesAtRestart (around_opening r w) r old new)
    (FailsAtRestart (around_opening r w) r old new) all_instances w w'

-- what a follower says, by one reaction for each tenant
abbrev pub following : Circumstances → (r : ℕ) → Instance → List ℕ → Reaction
following around r x t = reaction_on around x t (λ here. other_restarted here r)

pub follower_says : (j r : ℕ) (around : Circumstances) (told : List Output) (w w' : State)
    (f : Follower j r around told w w') → SaysAll f.x told (following around r f.x)
follower_says j r around told w w' f = says_reacting around (λ t here. other_restarted here r) f.x f.y told f.follows

pub follower_own : (around : Circumstances) (r : ℕ) (x : Instance) (t : List ℕ) → AreOf t (following around r x t).said
unfolding here_on
follower_own around r x t = other_restarted_own (here_on around x t) r (local_in t x)

pub follower_over : (v : Watch) (j r : ℕ) (around : Circumstances) (told : List Output) (w w' : State)
    (f : Follower j r around told w w') → AreAsked v w → (t : List ℕ)
    → IsOver (λ c request. IsAskerOf v t c) (following around r f.x t)
follower_over v j r around told w w' f asked t =
    other_restarted_over (λ c request. IsAskerOf v t c) (here_on around f.x t) r (local_in t f.x)
    (subst (λ (l : Local). WaitOver (λ c request. IsAskerOf v t c) l.operations)
    (local_here t j w.instances f.x f.is_at) (asked t j))

module _ (w w' : State) (r : ℕ) (old new : Shelf) (numbered : AreNumbered w.instances)
    (exists : is_among r all_instances ≡ true) (turns : Restarted r old new w w')
    (on : (i : ℕ) → turns.stopped i ≡ false) where
  abbrev now : Circumstances
  now = around_opening r w

  pub first : (x : Instance) × (instance_at r w.instances ≡ Some x)
  first = standing r w.instances numbered exists

  pub last : (y : Instance) × (instance_at r w'.instances ≡ Some y)
  last = standing r w'.instances turns.numbered exists

  itself : nat_eq r r ≡ true
  itself = grind (arith, nat_tests)

  pub comes : ComesUp now old new (turns.told r) first.0 last.0
  comes =
      subst (λ b. Either b (ComesUp now old new (turns.told r) first.0 last.0)
      (WhereUp (FollowsRestart now r) (turns.told r) first.0 last.0)) itself
      (turns.acts r exists (on r) first.0 last.0 first.1 last.1)

  node : IsSameNode (renewed now first.0) last.0
  node =
      subst (λ b. IsSameNode (if b then renewed now first.0 else first.0) last.0) itself
      (turns.nodes r exists (on r) first.0 last.0 first.1 last.1)

  follows_at : (j : ℕ) → nat_eq j r ≡ false → is_among j all_instances ≡ true → (x y : Instance)
      → instance_at j w.instances ≡ Some x → instance_at j w'.instances ≡ Some y
      → WhereUp (FollowsRestart now r) (turns.told j) x y
  follows_at j apart among x y at after =
      subst (λ b. Either b (ComesUp now old new (turns.told j) x y)
      (WhereUp (FollowsRestart now r) (turns.told j) x y)) apart (turns.acts j among (on j) x y at after)

  node_at : (j : ℕ) → nat_eq j r ≡ false → is_among j all_instances ≡ true → (x y : Instance)
      → instance_at j w.instances ≡ Some x → instance_at j w'.instances ≡ Some y → IsSameNode x y
  node_at j apart among x y at after =
      subst (λ b. IsSameNode (if b then renewed now x else x) y) apart (turns.nodes j among (on j) x y at after)

  -- what is so of an instance that follows, and of what stays, is so at each other number
  elsewhere : (P : Option Instance → Option Instance → Type 0) (j : ℕ) → nat_eq j r ≡ false
      → ((o : Option Instance) → P o o)
      → ((x y : Instance) → WhereUp (FollowsRestart now r) (turns.told j) x y → IsSameNode x y → P (Some x) (Some y))
      → P (instance_at j w.instances) (instance_at j w'.instances)
  elsewhere P j apart same did =
      at_each_place P j w.instances w'.instances numbered turns.numbered (turns.others j) same (λ among x y at after.
      did x y (follows_at j apart among x y at after) (node_at j apart among x y at after))

  -- who follows, and who doesn't
  pub others_did : (j : ℕ) → nat_eq j r ≡ false
      → Follower j r now (turns.told j) w w' ⊎ Idle j (turns.told j) w w'
  unfolding up_at
  others_did j apart = elim (cases_Bool (is_among j all_instances)) [
    | inl among ↦
        let x = standing j w.instances numbered among in
        let y = standing j w'.instances turns.numbered among in
        let did = follows_at j apart among x.0 y.0 x.1 y.1 in
        elim (cases_Bool x.0.up) [
          | inl up ↦ inl (record {
            x = x.0;
            y = y.0;
            is_at = x.1;
            is_then = y.1;
            is_up = up;
            follows = did.acts up;
          })
          | inr down ↦ inr (record {
            quiet = did.quiet down;
            same = y.1 ∙ ap Some (did.idle down) ∙ sym x.1;
            was_down = up_here j w.instances x.0 x.1 ∙ down;
          })
        ]
    | inr outside ↦ inr (record {
      quiet = turns.none j outside;
      same = turns.others j outside;
      was_down = ap up_where (nobody j w.instances numbered outside);
    })
  ]

  -- ---- what is seen of them

  pub reading : (c j : ℕ) → bytes_at c j w'.instances ≡ bytes_at c j w.instances
  unfolding bytes_at
  reading c =
      at_each (λ j. bytes_where c (instance_at j w'.instances) ≡ bytes_where c (instance_at j w.instances)) r
      (ap (bytes_where c) last.1 ∙ ap (bytes_of c) comes.front ∙ sym (ap (bytes_where c) first.1))
      (λ j apart. elsewhere (λ o o'. bytes_where c o' ≡ bytes_where c o) j apart (λ o. refl)
      (λ x y did same. ap (bytes_of c) did.stays.front))

  pub refused : (j : ℕ) → refused_at j w'.instances ≡ refused_at j w.instances
  unfolding refused_at
  refused =
      at_each (λ j. refused_where (instance_at j w'.instances) ≡ refused_where (instance_at j w.instances)) r
      (ap refused_where last.1 ∙ comes.starts.refused ∙ sym (ap refused_where first.1))
      (λ j apart. elsewhere (λ o o'. refused_where o' ≡ refused_where o) j apart (λ o. refl)
      (λ x y did same. elim (cases_Bool x.up) [
        | inl up ↦ (did.acts up).refused
        | inr down ↦ ap refused_in (did.idle down)
      ]))

  pub up_others : (j : ℕ) → nat_eq j r ≡ false → up_at j w'.instances ≡ up_at j w.instances
  unfolding up_at
  up_others j apart =
      elsewhere (λ o o'. up_where o' ≡ up_where o) j apart (λ o. refl) (λ x y did same. did.stays.goes.up)

  pub up_then : up_at r w'.instances ≡ true
  up_then = up_here r w'.instances last.0 last.1 ∙ comes.starts.up

  -- each other one is in the incarnation, and knows the ring, that it was in and knew
  stays : (j : ℕ) → nat_eq j r ≡ false → StaysSo j w.instances w'.instances
  unfolding known_at incarnation_at
  stays j apart = record {
    known = elsewhere (λ o o'. known_where o' ≡ known_where o) j apart (λ o. refl) (λ x y did same. same.known);
    up = up_others j apart;
    incarnation = elsewhere (λ o o'. incarnation_where o' ≡ incarnation_where o) j apart (λ o. refl)
        (λ x y did same. same.incarnation);
  }

  pub roster : IsSameRoster (roster_of w') (roster_after (Restarts r) (roster_of w))
  unfolding roster_after
  roster =
      opened_roster r w w' first.0 last.0 first.1 last.1 (ap (λ (c : Common). c.first) turns.beside.common) stays now
      node comes.starts.up (ap (λ (c : Common). named_by c.rings.items) turns.beside.common)

  -- ---- what each tells

  module _ (v : Watch) (asked : AreAsked v w) (u : Watch) (later : Later v u) where
    pub fronts : (j : ℕ) → front_outputs u (turns.told j) ≡ []
    fronts =
        at_each (λ j. front_outputs u (turns.told j) ≡ []) r
        (ap (front_outputs u) comes.outputs
        ∙ of_front u (renewed now first.0) comes.all
        (opened_owned now (renewed now first.0) last.0 comes.held comes.all comes.does u))
        (λ j apart. elim (others_did j apart) [
          | inl f ↦
              says_no_front f.x (turns.told j) (following now r f.x) (follower_says j r now (turns.told j) w w' f) v u
              later (λ t. (follower_over v j r now (turns.told j) w w' f asked t).1) (follower_own now r f.x)
          | inr idle ↦ ap (front_outputs u) idle.quiet
        ])

    pub owns : (j : ℕ) → are_owned u (turns.told j) ≡ true
    owns =
        at_each (λ j. are_owned u (turns.told j) ≡ true) r
        (ap (are_owned u) comes.outputs
        ∙ of_somebody u (renewed now first.0) comes.all
        (opened_owned now (renewed now first.0) last.0 comes.held comes.all comes.does u))
        (λ j apart. elim (others_did j apart) [
          | inl f ↦
              says_owned f.x (turns.told j) (following now r f.x) (follower_says j r now (turns.told j) w w' f) v u
              later (λ t. (follower_over v j r now (turns.told j) w w' f asked t).1) (follower_own now r f.x)
          | inr idle ↦ ap (are_owned u) idle.quiet
        ])

  -- who waits for a reply had asked, where its disk had returned what was written
  pub still : new.is_clean ≡ true → (v : Watch) → AreAsked v w → AreAsked v w'
  unfolding local_at
  still clean v asked t =
      at_each (λ j. WaitOver (λ c request. IsAskerOf v t c) (local_at t j w'.instances).operations) r
      (subst (λ (l : Local). WaitOver (λ c request. IsAskerOf v t c) l.operations)
      (sym (local_here t r w'.instances last.0 last.1 ∙ (comes.does t).local))
      (just_opened_over (λ c request. IsAskerOf v t c) (here_on now (renewed now first.0) t) (comes.held t)
      (subst (λ (l : Local). WaitOver (λ c request. IsAskerOf v t c) l.operations) (sym (comes.opens clean t))
      (rows_over (λ c request. IsAskerOf v t c) (here_on now (renewed now first.0) t) (rows_of t old.pairs)))).0)
      (λ j apart. elim (others_did j apart) [
        | inl f ↦
            subst (λ (l : Local). WaitOver (λ c request. IsAskerOf v t c) l.operations)
            (sym (local_here t j w'.instances f.y f.is_then ∙ (f.follows.does t).local))
            (follower_over v j r now (turns.told j) w w' f asked t).0
        | inr idle ↦
            subst (λ o. WaitOver (λ c request. IsAskerOf v t c) (local_where t o).operations) (sym idle.same)
            (asked t j)
      ])
