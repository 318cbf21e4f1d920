-- What the tick of one instance is to a tenant, and to the tenant's private cluster.
use Rattle.std.proofs.Common.{◌≡◌, ◌∙◌, inl, inr, ℕ, ◌==◌, ◌&&◌, nat_eq, suc, Bool, true, false, Contains, List, []}
use Rattle.std.proofs.Common.{◌∷◌, find, map, Option, None, Some, refl, sym, ap, arith, if◌then◌else◌}
use Rattle.std.specs.List.{list_any}
use Rattle.std.specs.Option.{option_or}
use Rattle.std.proofs.lemmas.Bool.{cases_Bool}
use Rattle.std.proofs.lemmas.Bool.Decides.{nat_tests}
use Rattle.std.proofs.lemmas.List.Elements.{Contains-append_right}
use Rattle.std.proofs.lemmas.List.Folds.{find-append}
use Rattle.am_cluster.specs.Events.{Output}
use Rattle.am_cluster.specs.Messages.{Message}
use Rattle.am_cluster.specs.Outputs.{outputs_of}
use Rattle.am_cluster.specs.PrivateCluster.{PrivateCluster, here_at, output_of, put_out_at, reaction_at}
use Rattle.am_cluster.specs.Reactions.{Reaction, messages_in, stays}
use Rattle.am_cluster.specs.Replying.{WaitOver}
use Rattle.am_cluster.specs.Rings.{is_always_replica, ring_at}
use Rattle.am_cluster.specs.Roster.{has_stayed, three_at}
use Rattle.am_cluster.specs.Sent.{Sent, is_named, sent_at}
use Rattle.am_cluster.specs.Ticking.{ticked}
use Rattle.am_cluster.specs.View.{Watch}
use Rattle.am_cluster.proofs.Counted.{ticked_counted}
use Rattle.am_cluster.proofs.Named.{Turn, said_by_all, turns_of}
use Rattle.am_cluster.proofs.Posted.{none_found}
use Rattle.am_cluster.proofs.Posting.{turn_from}
use Rattle.am_ring.specs.Instances.{all_instances, is_among}
use Rattle.am_instance.specs.Here.{has_stayed_on, here_on, three_on}
use Rattle.am_instance.specs.Instance.{IsSameNode, local_in}
use Rattle.am_instance.specs.Ticks.{Ticks, TicksAll, said_of}
use Rattle.am_instance.specs.declared.instance.Instance.{Instance}
use Rattle.am_world.specs.Consistent.{around_at}
use Rattle.am_world.specs.Places.{AreNumbered, incarnation_at, instance_at, local_at, local_where, up_at, up_where}
use Rattle.am_world.specs.Simulation.{IsAskerOf, Stands}
use Rattle.am_world.specs.Steps.{Later}
use Rattle.am_world.specs.declared.state.State.{State}
use Rattle.am_world.proofs.AlonePlaces.{incarnation_here, incarnations_are, known_here, local_here, map_alike}
use Rattle.am_world.proofs.AlonePlaces.{up_here}
use Rattle.am_world.proofs.InstancesLemmas.{number_of}
use Rattle.am_world.proofs.TickPlaces.{CountsFrom, all_counted, not_later}
use Rattle.am_world.proofs.TickSaid.{all_owned, of_tenant}
use Rattle.am_world.proofs.AllReact.{or_nothing}

-- ---- what an instance goes by, and what its tenant's cluster does

pub here_alike : (t : List ℕ) (m i : ℕ) (w : State) (x : Instance) (p : PrivateCluster) → AreNumbered w.instances
    → Stands t w p → instance_at i w.instances ≡ Some x → here_on (around_at m w) x t ≡ here_at p m i
unfolding here_on here_at three_on has_stayed_on three_at has_stayed
here_alike t m i w x p numbered s at =
    let number : x.number ≡ i = number_of i w.instances x at in
    let k : x.incarnation ≡ p.roster.incarnation i =
    sym (incarnation_here i w.instances x at) ∙ s.roster.incarnation i in
    let e : x.known ≡ p.roster.known i = sym (known_here i w.instances x at) ∙ s.roster.known i in
    let ks : (around_at m w).incarnations ≡ map p.roster.incarnation all_instances =
    incarnations_are w.instances numbered
    ∙ map_alike (λ j. incarnation_at j w.instances) p.roster.incarnation all_instances s.roster.incarnation in
    λ d. record {
      tenant = sym s.tenant d;
      instance = number d;
      incarnation = k d;
      moment = m;
      limits = s.limits d;
      epoch = e d;
      three = sym s.replicas_by d (ring_at (e d) (s.roster.rings d));
      stayed = k d == s.roster.first d && is_always_replica (sym s.replicas_by d) (e d) (s.roster.rings d) (number d);
      incarnations = ks d;
    }

-- the cluster at the moment of the tick
abbrev pub at_tick : (m : ℕ) → PrivateCluster → PrivateCluster
at_tick m p = record p { clock = m }

-- what the instance of a number does there
abbrev pub turn_at : (m : ℕ) → PrivateCluster → ℕ → Reaction
turn_at m p i = reaction_at (λ j. ticked) m (at_tick m p) i

up_turn : (m i : ℕ) (p : PrivateCluster) → p.roster.up i ≡ true → turn_at m p i ≡ ticked (here_at p m i) (p.at i)
unfolding here_at
up_turn m i p up = ap (λ b. if b then ticked (here_at p m i) (p.at i) else stays (p.at i)) up

down_turn : (m i : ℕ) (p : PrivateCluster) → p.roster.up i ≡ false → turn_at m p i ≡ stays (p.at i)
down_turn m i p down = ap (λ b. if b then ticked (here_at (at_tick m p) m i) (p.at i) else stays (p.at i)) down

-- ---- one instance

-- an instance that stands at the number, before and after it ticked
pub record Stood (i m : ℕ) (w w' : State) (told : List Output) : Type 0 where
  pub x : Instance
  pub y : Instance
  pub is_at : instance_at i w.instances ≡ Some x
  pub is_then : instance_at i w'.instances ≡ Some y
  pub ticks : Ticks (around_at m w) x y [] told
  pub node : IsSameNode x y

-- what the instance of a number did is what the one of the tenant's cluster does
pub record IsTurnAlone (t : List ℕ) (v : Watch) (p : PrivateCluster) (m i : ℕ) (w' : State) (told : List Output) :
    Type 0 where
  pub local : local_at t i w'.instances ≡ (turn_at m p i).local
  pub fits : (turn_at m p i).fits ≡ true
  pub own : (u : Watch) → Later v u → outputs_of t u told ≡ put_out_at (at_tick m p) i (turn_at m p i).said

module _ (t : List ℕ) (v : Watch) (p : PrivateCluster) (m i : ℕ) (w w' : State) (told : List Output)
    (numbered : AreNumbered w.instances) (s : Stands t w p) where
  -- one that is up
  pub up_alone : (x : Stood i m w w' told)
      → ((u : List ℕ) → WaitOver (λ c request. IsAskerOf v u c) (local_in u x.x).operations) → x.x.up ≡ true
      → IsTurnAlone t v p m i w' told
  up_alone x asked up = record {
    local = local_here t i w'.instances x.y x.is_then ∙ (all.does t).local ∙ ap (λ (r : Reaction). r.local) turn;
    fits = sym (ap (λ (r : Reaction). r.fits) turn) ∙ (all.does t).fits;
    own = λ u later.
        ap (outputs_of t u) all.outputs
        ∙ of_tenant u x.x t all.all (all_owned (around_at m w) x.x x.y told all v asked u later)
        ∙ (λ d. map (output_of (sym s.tenant d) (number d) (k d)) (said d));
  }
    where
      all : TicksAll (around_at m w) x.x x.y [] told
      all = x.ticks.ticks up

      number : x.x.number ≡ i
      number = number_of i w.instances x.x x.is_at

      k : x.x.incarnation ≡ p.roster.incarnation i
      k = sym (incarnation_here i w.instances x.x x.is_at) ∙ s.roster.incarnation i

      have : local_in t x.x ≡ p.at i
      have = sym (local_here t i w.instances x.x x.is_at) ∙ s.local i

      turn : ticked (here_on (around_at m w) x.x t) (local_in t x.x) ≡ turn_at m p i
      turn =
          (λ d. ticked (here_alike t m i w x.x p numbered s x.is_at d) (have d))
          ∙ sym (up_turn m i p (sym (s.roster.up i) ∙ up_here i w.instances x.x x.is_at ∙ up))

      said : said_of t all.all ≡ (turn_at m p i).said
      said = (all.does t).says ∙ ap (λ (r : Reaction). r.said) turn

  -- one that isn't up, or doesn't stand there
  idle_alone : local_at t i w'.instances ≡ p.at i → p.roster.up i ≡ false → told ≡ [] → IsTurnAlone t v p m i w' told
  idle_alone local down quiet = record {
    local = local ∙ sym (ap (λ (r : Reaction). r.local) turn);
    fits = ap (λ (r : Reaction). r.fits) turn;
    own = λ u later.
        ap (outputs_of t u) quiet ∙ sym (ap (λ (r : Reaction). put_out_at (at_tick m p) i r.said) turn);
  }
    where
      turn : turn_at m p i ≡ stays (p.at i)
      turn = down_turn m i p down

  pub down_alone : (x : Stood i m w w' told) → x.x.up ≡ false → IsTurnAlone t v p m i w' told
  down_alone x down =
      idle_alone
      (local_here t i w'.instances x.y x.is_then ∙ ap (local_in t) (x.ticks.idle down)
      ∙ sym (local_here t i w.instances x.x x.is_at) ∙ s.local i)
      (sym (s.roster.up i) ∙ up_here i w.instances x.x x.is_at ∙ down) (x.ticks.quiet down)

  pub nobody_alone : instance_at i w.instances ≡ None → instance_at i w'.instances ≡ None → told ≡ []
      → IsTurnAlone t v p m i w' told
  unfolding local_at up_at
  nobody_alone none still quiet =
      idle_alone (ap (local_where t) still ∙ sym (ap (local_where t) none) ∙ s.local i)
      (sym (s.roster.up i) ∙ ap up_where none) quiet

-- ---- what is found under a name

-- what each instance of the tenant's cluster says at its turn is counted
pub turns_alone : (m : ℕ) (p : PrivateCluster) (i : ℕ) → Turn (at_tick m p) (turn_at m p) i
turns_alone m p = turns_of (λ i. ticked) m (at_tick m p) (λ i here. ticked_counted here)

-- what a tick lets all instances of the tenant's cluster send: each message is of the one that says it
module _ (m : ℕ) (p : PrivateCluster) (from incarnation to count : ℕ) where
  abbrev its : Sent → Bool
  its s = is_named from incarnation to count s

  unnamed : (i : ℕ) (ms : List Message) → ((n : Message) → Contains ms n → n.from ≡ i) → nat_eq from i ≡ false
      → list_any its (map (λ n. let s : Sent = record { message = n; moment = m; given_up = false } in s) ms) ≡ false
  unnamed i [] of apart = refl
  unnamed i (n ∷ ms) of apart =
      let is : n.from ≡ i = of n (0, omega arith, refl) in
      let other : nat_eq n.from from ≡ false = grind (arith, nat_tests) in
      rw other (unnamed i ms (λ k among. of k (Contains-append_right (n ∷ []) ms k among)) apart)

  unfound : (i : ℕ) → nat_eq from i ≡ false → find its (sent_at m (turn_at m p i).said) ≡ None
  unfound i apart =
      none_found its (sent_at m (turn_at m p i).said)
      (unnamed i (messages_in (turn_at m p i).said)
      (λ n among. (turn_from (at_tick m p) (turn_at m p) (turns_alone m p) i n among).0) apart)

  found_from : (n : ℕ) (ns : List ℕ) → CountsFrom n ns → find its (said_by_all m (turn_at m p) ns)
      ≡ (if is_among from ns then find its (sent_at m (turn_at m p from).said) else None)
  found_from n [] counts = refl
  found_from n (i ∷ ns) (first, counts) =
      find-append its (sent_at m (turn_at m p i).said) (said_by_all m (turn_at m p) ns)
      ∙ ap (option_or (find its (sent_at m (turn_at m p i).said))) (found_from (suc n) ns counts)
      ∙ elim (cases_Bool (nat_eq from i)) [
        | inl h ↦
            let is : i ≡ from = grind (arith, nat_tests) in
            let later : is_among from ns ≡ false = not_later (suc n) from ns counts (omega (arith, is, first)) in
            rw (h, later) (or_nothing (find its (sent_at m (turn_at m p i).said))
            ∙ ap (λ j. find its (sent_at m (turn_at m p j).said)) is)
        | inr h ↦ rw (h, unfound i h) refl
      ]

  -- .. is found where that one said it
  pub found_all : (among : Bool) → is_among from all_instances ≡ among → (among ≡ false → p.roster.up from ≡ false)
      → find its (said_by_all m (turn_at m p) all_instances) ≡ find its (sent_at m (turn_at m p from).said)
  found_all true is down = found_from 1 all_instances all_counted ∙ rw is refl
  found_all false is down =
      found_from 1 all_instances all_counted
      ∙ rw is (sym (ap (λ (r : Reaction). find its (sent_at m r.said)) (down_turn m from p (down refl))))
