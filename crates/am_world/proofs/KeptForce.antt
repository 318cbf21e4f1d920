-- A tenant is settled by force, and no instance stopped: the tenant has of it what its private cluster makes of it.
use Rattle.std.proofs.Common.{◌≡◌, ◌∙◌, inl, inr, ℕ, ◌&&◌, Bool, true, false, List, [], ◌∷◌, ◌++◌, find, map}
use Rattle.std.proofs.Common.{Option, Some, refl, sym, ap, subst, arith, if◌then◌else◌}
use Rattle.std.proofs.lemmas.Bool.{cases_Bool}
use Rattle.std.proofs.lemmas.List.{append-nil}
use Rattle.am_cluster.proofs.Counted.{forced_counted}
use Rattle.am_cluster.proofs.Named.{all_react_kept}
use Rattle.am_cluster.proofs.ReplyTurns.{forced_over}
use Rattle.am_cluster.specs.Courses.{after_all, course, course_by, fits_all, handled_by, refusal_of, told_all}
use Rattle.am_cluster.specs.Deciding.{deciding_at}
use Rattle.am_cluster.specs.Events.{Force, Output}
use Rattle.am_cluster.specs.Happening.{Forced}
use Rattle.am_cluster.specs.Local.{Local}
use Rattle.am_cluster.specs.Outputs.{front_told}
use Rattle.am_cluster.specs.Patterns.{AreAllBuilt}
use Rattle.am_cluster.specs.PrivateCluster.{Course, PrivateCluster, here_at, put_out_at, react_all, reaction_at}
use Rattle.am_cluster.specs.Reactions.{Reaction, stays}
use Rattle.am_cluster.specs.Replying.{WaitOver}
use Rattle.am_cluster.specs.Roster.{IsSameRoster}
use Rattle.am_cluster.specs.Sent.{Sent, is_named, sent_at}
use Rattle.am_cluster.specs.Transfers.{forced}
use Rattle.am_cluster.specs.View.{Watch, adds, watch}
use Rattle.am_http.specs.Connections.{bytes_of}
use Rattle.am_limit.specs.Books.{limits_of}
use Rattle.am_messages.specs.Posted.{posted_at}
use Rattle.am_ring.specs.Instances.{Members, all_instances, is_among}
use Rattle.am_tenant.specs.Names.{same}
use Rattle.am_tenant.proofs.Same.{same_tells}
use Rattle.am_instance.specs.Here.{Circumstances, here_on}
use Rattle.am_instance.specs.Instance.{IsSameNode, local_in, refused_in}
use Rattle.am_instance.specs.Reacting.{reaction_on}
use Rattle.am_instance.specs.declared.instance.Instance.{Instance}
use Rattle.am_world.specs.Changing.{FailsToForce, ForcesAt, InTurn, IsForced, WhereUp}
use Rattle.am_world.specs.Consistent.{around_at}
use Rattle.am_world.specs.Places.{AreNumbered, bytes_at, bytes_where, incarnation_at, incarnation_where, instance_at}
use Rattle.am_world.specs.Places.{known_at, known_where, local_at, local_where, refused_at, refused_where, up_at}
use Rattle.am_world.specs.Places.{up_where}
use Rattle.am_world.specs.Posting.{IsSamePost, posted_over, unlost_sent}
use Rattle.am_world.specs.Simulation.{AreAsked, IsAskerOf, IsPostedAlike, Stands, fault_count, limits_in, put_out}
use Rattle.am_world.specs.Simulation.{roster_of}
use Rattle.am_world.specs.declared.common.Common.{Common}
use Rattle.am_world.specs.declared.state.State.{State}
use Rattle.am_world.proofs.AllReact.{each_fits}
use Rattle.am_world.proofs.AlonePlaces.{local_here, roster_then, up_here}
use Rattle.am_world.proofs.Beside.{IsAsAlone, Kept}
use Rattle.am_world.proofs.InTurn.{HadTurns, had_turns}
use Rattle.am_world.proofs.TickAlone.{here_alike}
use Rattle.am_world.proofs.TickKept.{flat_none}
use Rattle.am_world.proofs.TickPlaces.{at_each_place, nobody, standing}
use Rattle.am_world.proofs.TickSaid.{AreFrom}

-- ---- the turn of each

-- it tells nothing
none_told : (around : Circumstances) (tenant : List ℕ) (told : List Output) (x x' : Instance)
    → WhereUp (IsForced around tenant) told x x' → told ≡ []
unfolding forced
none_told around tenant told x x' is = elim (cases_Bool x.up) [
  | inl up ↦ (is.acts up).reacts.outputs
  | inr down ↦ is.quiet down
]

none_from : (around : Circumstances) (tenant : List ℕ) (i : ℕ) (told : List Output) (x x' : Instance)
    → WhereUp (IsForced around tenant) told x x' → AreFrom x.number told
none_from around tenant i told x x' is =
    subst (AreFrom x.number) (sym (none_told around tenant told x x' is))
    (λ m among. let within = among.1 in absurd (omega (arith, within)))

-- who stopped, and what became of each of the others
abbrev pub Forcing : (around : Circumstances) (tenant : List ℕ) → State → State → Type 0
Forcing around tenant w w' =
    HadTurns (λ i x. x) (λ i. WhereUp (IsForced around tenant)) (λ i. FailsToForce around tenant) all_instances w w'

pub force_turns : (around : Circumstances) (tenant : List ℕ) (w w' : State) → AreNumbered w.instances
    → InTurn (ForcesAt around tenant) all_instances w w' → Forcing around tenant w w'
force_turns around tenant w w' numbered turns =
    had_turns (λ i x. x) (λ i. WhereUp (IsForced around tenant)) (λ i. FailsToForce around tenant)
    (none_from around tenant) w w' numbered turns

-- ---- what the cluster does

-- what the instance of a number does there
abbrev turn_at : PrivateCluster → ℕ → Reaction
turn_at p i = reaction_at (λ j. forced) p.clock p i

up_turn : (p : PrivateCluster) (i : ℕ) → p.roster.up i ≡ true → turn_at p i ≡ forced (here_at p p.clock i) (p.at i)
up_turn p i up = ap (λ b. if b then forced (here_at p p.clock i) (p.at i) else stays (p.at i)) up

down_turn : (p : PrivateCluster) (i : ℕ) → p.roster.up i ≡ false → turn_at p i ≡ stays (p.at i)
down_turn p i down = ap (λ b. if b then forced (here_at p p.clock i) (p.at i) else stays (p.at i)) down

-- it says nothing, and that fits
said_none : (p : PrivateCluster) (i : ℕ) → (turn_at p i).said ≡ []
unfolding forced
said_none p i = by_up (p.roster.up i)
  where
    by_up : (b : Bool) → (if b then forced (here_at p p.clock i) (p.at i) else stays (p.at i)).said ≡ []
    by_up true = refl
    by_up false = refl

all_fits : (p : PrivateCluster) (i : ℕ) → (turn_at p i).fits ≡ true
unfolding forced
all_fits p i = by_up (p.roster.up i)
  where
    by_up : (b : Bool) → (if b then forced (here_at p p.clock i) (p.at i) else stays (p.at i)).fits ≡ true
    by_up true = refl
    by_up false = refl

force_course : (p : PrivateCluster) → course p Forced ≡ react_all (λ i. forced) p.clock p
unfolding course_by refusal_of handled_by
force_course p = refl

force_outputs : (p : PrivateCluster) → (react_all (λ i. forced) p.clock p).outputs ≡ []
unfolding react_all
force_outputs p =
    flat_none (λ i. put_out_at p i (turn_at p i).said) all_instances
    (λ i. ap (λ said. put_out_at p i said) (said_none p i))

force_fits : (p : PrivateCluster) → (react_all (λ i. forced) p.clock p).fits ≡ true
unfolding react_all
force_fits p = each_fits (turn_at p) all_instances (all_fits p)

force_sent : (p : PrivateCluster) → (react_all (λ i. forced) p.clock p).cluster.sent ≡ p.sent
unfolding react_all
force_sent p =
    ap (λ sent. p.sent ++ sent)
    (flat_none (λ i. sent_at p.clock (turn_at p i).said) all_instances
    (λ i. ap (λ said. sent_at p.clock said) (said_none p i)))
    ∙ append-nil p.sent

-- ---- no instance stopped

module _ (w w' : State) (tenant : List ℕ) (numbered : AreNumbered w.instances)
    (turns : Forcing (around_at w.clock w) tenant w w') (on : (i : ℕ) → turns.stopped i ≡ false) where
  abbrev now : Circumstances
  now = around_at w.clock w

  told_none : (i : ℕ) → turns.told i ≡ []
  told_none i = elim (cases_Bool (is_among i all_instances)) [
    | inl among ↦
        let x = standing i w.instances numbered among in
        let y = standing i w'.instances turns.numbered among in
        none_told now tenant (turns.told i) x.0 y.0 (turns.acts i among (on i) x.0 y.0 x.1 y.1)
    | inr apart ↦ turns.none i apart
  ]

  same_post : IsSamePost w.messages w'.messages
  same_post name =
      turns.posted name
      ∙ ap (λ os. posted_over w.clock os name (posted_at name w.messages)) (told_none name.from)

  -- what is so of an instance that had its turn, and of what stays, is so at each number
  each_place : (P : Option Instance → Option Instance → Type 0) (i : ℕ) → ((o : Option Instance) → P o o)
      → ((x y : Instance) → WhereUp (IsForced now tenant) (turns.told i) x y → IsSameNode x y → P (Some x) (Some y))
      → P (instance_at i w.instances) (instance_at i w'.instances)
  each_place P i same did =
      at_each_place P i w.instances w'.instances numbered turns.numbered (turns.others i) same (λ among x y at after.
      did x y (turns.acts i among (on i) x y at after) (turns.nodes i among (on i) x y at after))

  reading : (c i : ℕ) → bytes_at c i w'.instances ≡ bytes_at c i w.instances
  unfolding bytes_at
  reading c i =
      each_place (λ o o'. bytes_where c o' ≡ bytes_where c o) i (λ o. refl)
      (λ x y did node. ap (bytes_of c) did.stays.front)

  refused : (i : ℕ) → refused_at i w'.instances ≡ refused_at i w.instances
  unfolding refused_at
  refused i =
      each_place (λ o o'. refused_where o' ≡ refused_where o) i (λ o. refl)
      (λ x y did node. elim (cases_Bool x.up) [
        | inl up ↦ (did.acts up).refused
        | inr down ↦ ap refused_in (did.idle down)
      ])

  roster : IsSameRoster (roster_of w') (roster_of w)
  unfolding up_at incarnation_at known_at
  roster = record {
    rings = ap (λ (c : Common). map (λ (ring : Members). ring.instances) c.rings.items) turns.beside.common;
    known = λ i. each_place (λ o o'. known_where o' ≡ known_where o) i (λ o. refl) (λ x y did node. node.known);
    up = λ i. each_place (λ o o'. up_where o' ≡ up_where o) i (λ o. refl) (λ x y did node. did.stays.goes.up);
    incarnation = λ i. each_place (λ o o'. incarnation_where o' ≡ incarnation_where o) i (λ o. refl)
        (λ x y did node. node.incarnation);
    first = ap (λ (c : Common). c.first) turns.beside.common;
  }

  -- ---- for who is known to have asked

  waits_still : (v : Watch) (t : List ℕ) (told : List Output) (x y : Instance)
      → WhereUp (IsForced now tenant) told x y
      → WaitOver (λ c request. IsAskerOf v t c) (local_in t x).operations
      → WaitOver (λ c request. IsAskerOf v t c) (local_in t y).operations
  waits_still v t told x y did waits = elim (cases_Bool x.up) [
    | inl up ↦
        subst (λ (l : Local). WaitOver (λ c request. IsAskerOf v t c) l.operations)
        (sym ((did.acts up).reacts.local t)) (either (same t tenant))
    | inr down ↦
        subst (λ (z : Instance). WaitOver (λ c request. IsAskerOf v t c) (local_in t z).operations)
        (sym (did.idle down)) waits
  ]
    where
      either : (b : Bool) → WaitOver (λ c request. IsAskerOf v t c)
          (if b then (reaction_on now x t forced).local else local_in t x).operations
      either true = (forced_over (λ c request. IsAskerOf v t c) (here_on now x t) (local_in t x) waits).0
      either false = waits

  still : (v : Watch) → AreAsked v w → AreAsked v w'
  unfolding local_at
  still v asked t i =
      each_place (λ o o'. WaitOver (λ c request. IsAskerOf v t c) (local_where t o).operations
      → WaitOver (λ c request. IsAskerOf v t c) (local_where t o').operations) i (λ o waits. waits)
      (λ x y did node. waits_still v t (turns.told i) x y did) (asked t i)

  -- ---- for a tenant

  module _ (t : List ℕ) (p : PrivateCluster) (s : Stands t w p) where
    posted_same : IsPostedAlike t w' p
    posted_same from k to count =
        same_post (record { tenant = t; from = from; incarnation = k; to = to; count = count })
        ∙ s.posted from k to count

    -- .. that isn't settled so
    other_local : same t tenant ≡ false → (i : ℕ) → local_at t i w'.instances ≡ p.at i
    unfolding local_at
    other_local other i =
        each_place (λ o o'. local_where t o' ≡ local_where t o) i (λ o. refl)
        (λ x y did node. elim (cases_Bool x.up) [
          | inl up ↦
              (did.acts up).reacts.local t
              ∙ ap (λ b. if b then (reaction_on now x t forced).local else local_in t x) other
          | inr down ↦ ap (local_in t) (did.idle down)
        ])
        ∙ s.local i

    other_stands : same t tenant ≡ false → Stands t w' p
    other_stands other = record {
      tenant = s.tenant;
      replicas_by = s.replicas_by;
      service_key = ap (λ (c : Common). c.service_key) turns.beside.common ∙ s.service_key;
      clock = turns.beside.clock ∙ s.clock;
      limits = (λ d. limits_in (record w { common = turns.beside.common d }) t) ∙ s.limits;
      roster = roster_then (roster_of w') (roster_of w) p.roster roster s.roster;
      local = other_local other;
      posted = posted_same;
      named = s.named;
    }

    -- .. that is
    up_local : (i : ℕ) (x y : Instance) → same t tenant ≡ true → instance_at i w.instances ≡ Some x
        → WhereUp (IsForced now tenant) (turns.told i) x y → x.up ≡ true → local_in t y ≡ (turn_at p i).local
    up_local i x y own at did up =
        let here : here_on now x t ≡ here_at p p.clock i =
        here_alike t w.clock i w x p numbered s at ∙ ap (λ m. here_at p m i) s.clock in
        let have : local_in t x ≡ p.at i = sym (local_here t i w.instances x at) ∙ s.local i in
        (did.acts up).reacts.local t
        ∙ ap (λ b. if b then (reaction_on now x t forced).local else local_in t x) own
        ∙ (λ d. (forced (here d) (have d)).local)
        ∙ sym (ap (λ (r : Reaction). r.local)
        (up_turn p i (sym (s.roster.up i) ∙ up_here i w.instances x at ∙ up)))

    down_local : (i : ℕ) (x y : Instance) → instance_at i w.instances ≡ Some x
        → WhereUp (IsForced now tenant) (turns.told i) x y → x.up ≡ false → local_in t y ≡ (turn_at p i).local
    down_local i x y at did down =
        ap (local_in t) (did.idle down) ∙ sym (local_here t i w.instances x at) ∙ s.local i
        ∙ sym (ap (λ (r : Reaction). r.local)
        (down_turn p i (sym (s.roster.up i) ∙ up_here i w.instances x at ∙ down)))

    own_local : same t tenant ≡ true → (i : ℕ) → local_at t i w'.instances ≡ (turn_at p i).local
    unfolding local_at up_at
    own_local own i = elim (cases_Bool (is_among i all_instances)) [
      | inl among ↦
          let x = standing i w.instances numbered among in
          let y = standing i w'.instances turns.numbered among in
          let did = turns.acts i among (on i) x.0 y.0 x.1 y.1 in
          ap (local_where t) y.1 ∙ elim (cases_Bool x.0.up) [
            | inl up ↦ up_local i x.0 y.0 own x.1 did up
            | inr down ↦ down_local i x.0 y.0 x.1 did down
          ]
      | inr apart ↦
          ap (local_where t) (turns.others i apart) ∙ s.local i
          ∙ sym (ap (λ (r : Reaction). r.local)
          (down_turn p i (sym (s.roster.up i) ∙ ap up_where (nobody i w.instances numbered apart))))
    ]

    own_posted : IsPostedAlike t w' (react_all (λ i. forced) p.clock p).cluster
    unfolding react_all
    own_posted from k to count =
        posted_same from k to count
        ∙ ap (λ (sent : List Sent). unlost_sent p.clock (find (is_named from k to count) sent)) (sym (force_sent p))

    own_stands : same t tenant ≡ true → Stands t w' (react_all (λ i. forced) p.clock p).cluster
    unfolding react_all
    own_stands own = record {
      tenant = s.tenant;
      replicas_by = s.replicas_by;
      service_key = ap (λ (c : Common). c.service_key) turns.beside.common ∙ s.service_key;
      clock = turns.beside.clock ∙ s.clock;
      limits = (λ d. limits_in (record w { common = turns.beside.common d }) t) ∙ s.limits;
      roster = roster_then (roster_of w') (roster_of w) p.roster roster s.roster;
      local = own_local own;
      posted = own_posted;
      named = all_react_kept (λ i. forced) p.clock p (λ i. forced_counted) s.named;
    }

    alone : (v : Watch) → IsAsAlone t v p (Force tenant) [] w'
    unfolding adds deciding_at
    alone v = elim (same_tells t tenant) [
      | inl mine ↦
          let added : adds t v (Force tenant) ≡ Forced ∷ [] = ap (λ b. if b then Forced ∷ [] else []) mine.0 in
          record {
            stands = subst (λ hs. Stands t w' (after_all p hs)) (sym added)
                (subst (λ (k : Course). Stands t w' k.cluster) (sym (force_course p)) (own_stands mine.0));
            told = λ u later.
                sym (ap (told_all p) added ∙ ap (λ (k : Course). k.outputs ++ []) (force_course p)
                ∙ ap (λ os. os ++ []) (force_outputs p));
            fits = ap (fits_all p) added ∙ ap (λ (k : Course). k.fits && true) (force_course p)
                ∙ ap (λ b. b && true) (force_fits p);
            built = subst (AreAllBuilt p) (sym added) (tt, tt);
          }
      | inr other ↦
          let none : adds t v (Force tenant) ≡ [] = ap (λ b. if b then Forced ∷ [] else []) other.0 in
          record {
            stands = subst (λ hs. Stands t w' (after_all p hs)) (sym none) (other_stands other.0);
            told = λ u later. sym (ap (told_all p) none);
            fits = ap (fits_all p) none;
            built = subst (AreAllBuilt p) (sym none) tt;
          }
    ]

  pub kept_force : fault_count w' ≡ fault_count w → Kept w (Force tenant) w'
  unfolding watch front_told
  kept_force counted = record {
    follows = λ v f. record {
      reading = λ c i. reading c i ∙ f.reading c i;
      roster = roster_then (roster_of w') (roster_of w) v.roster roster f.roster;
    };
    asked = λ v f new asked. still v asked;
    outs = [];
    appended = turns.appended
        ∙ ap (λ os. put_out w ++ os) (flat_none turns.told all_instances told_none);
    tenants = λ t v p given. inl (alone t p given.stands v);
    front = λ v f asked u later. refl;
    owned = λ v f asked u later. refl;
    roster = roster;
    clock = turns.beside.clock;
    limits = λ t. ap (λ (c : Common). limits_of t c.limits) turns.beside.common;
    service_key = ap (λ (c : Common). c.service_key) turns.beside.common;
    refused = refused;
    faults = counted;
  }
