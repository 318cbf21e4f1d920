-- One instance that is up reacts for one tenant, and nothing else happens: this is what comes of it in the tenant's
-- private cluster, and nothing in any other.
use Rattle.std.proofs.Common.{◌≡◌, ◌∙◌, inl, inr, ℕ, ◌&&◌, ◌==◌, ◌≤◌, ◌<◌, nat_eq, Bool, true, false, Contains, List}
use Rattle.std.proofs.Common.{[], ◌∷◌, map, Some, refl, sym, ap, arith, subst, if◌then◌else◌}
use Rattle.std.specs.Prelude.{nat_le}
use Rattle.std.proofs.lemmas.Bool.Decides.{nat_tests}
use Rattle.std.proofs.lemmas.List.Elements.{All-head, All-tail}
use Rattle.am_cluster.specs.Events.{Output}
use Rattle.am_cluster.specs.Here.{Here}
use Rattle.am_cluster.specs.Local.{Local}
use Rattle.am_cluster.specs.Messages.{Message}
use Rattle.am_limit.specs.declared.limits.Limits.{Limits}
use Rattle.am_cluster.specs.PrivateCluster.{PrivateCluster, here_at, output_of, react_one}
use Rattle.am_cluster.specs.Reactions.{Reaction, Replies, Said, Sends, Tells, messages_in}
use Rattle.am_cluster.specs.Rings.{is_always_replica, ring_at}
use Rattle.am_cluster.specs.Roster.{IsSameRoster, has_stayed, put_at, three_at}
use Rattle.am_cluster.specs.View.{Watch}
use Rattle.am_cluster.proofs.Counted.{AreCounted}
use Rattle.am_cluster.proofs.Named.{one_kept}
use Rattle.am_cluster.proofs.Names.{as_sent, new_named}
use Rattle.am_cluster.proofs.Posted.{contained}
use Rattle.am_cluster.proofs.Posting.{said_is_new}
use Rattle.am_http.specs.declared.request.Request.{Request}
use Rattle.am_item.specs.Retirement.{moment_after}
use Rattle.am_messages.specs.Posted.{message_life, posted_at}
use Rattle.am_messages.specs.declared.name.MessageName.{MessageName}
use Rattle.am_ring.specs.Instances.{all_instances}
use Rattle.am_ring.specs.Replicas.{replicas}
use Rattle.am_instance.specs.Here.{has_stayed_on, here_on, rings_on, three_on}
use Rattle.am_instance.specs.Instance.{IsSameNode, local_in}
use Rattle.am_instance.specs.Reacting.{Reacts, reaction_on}
use Rattle.am_instance.specs.declared.instance.Instance.{Instance}
use Rattle.am_world.specs.Consistent.{around_at}
use Rattle.am_world.specs.Places.{AreNumbered, SameElsewhere, Turns, incarnation_at, instance_at, local_at}
use Rattle.am_world.specs.Posting.{Posts, posted_over}
use Rattle.am_world.specs.Simulation.{IsAskerOf, IsPostedAlike, IsSameBeside, Stands, limits_in}
use Rattle.am_world.specs.Simulation.{roster_of}
use Rattle.am_world.specs.Turning.{Does}
use Rattle.am_world.specs.declared.common.Common.{Common}
use Rattle.am_world.specs.declared.state.State.{State}
use Rattle.am_tenant.specs.Names.{same}
use Rattle.am_tenant.proofs.Same.{same-refl}
use Rattle.am_text.specs.Moment.{greatest_moment}
use Rattle.am_world.proofs.AloneOwn.{AreOf, IsOf, SaysOwn}
use Rattle.am_world.proofs.AlonePlaces.{at_each, exists_then, incarnation_here, incarnations_are, known_here}
use Rattle.am_world.proofs.AlonePlaces.{local_here, local_other, locals_then, map_alike, roster_stays}
use Rattle.am_world.proofs.AlonePlaces.{roster_then, up_here}
use Rattle.am_world.proofs.InstancesLemmas.{number_of}
use Rattle.am_world.proofs.Posted.{just_sent, posted_alike, posted_of_others}

-- ---- what is asked of a reaction

-- whatever it is to: its messages are the tenant's, and counted
pub record Behaves (f : Here → Local → Reaction) : Type 0 where
  pub own : (here : Here) → SaysOwn here (f here)
  pub counted : (here : Here) → AreCounted here (f here)

-- the tenant asked over the connection, as far as is known
abbrev pub Over : Watch → (t : List ℕ) → (connection : ℕ) → Request → Type 0
Over v t c request = IsAskerOf v t c

-- ---- one instance reacts

-- at a moment for a tenant, and nothing else happens
pub record Acts (i moment : ℕ) (T : List ℕ) (f : Here → Local → Reaction) (told : List Output) (w w' : State) :
    Type 0 where
  pub x : Instance
  pub y : Instance
  pub is_at : instance_at i w.instances ≡ Some x
  pub is_then : instance_at i w'.instances ≡ Some y
  pub is_up : x.up ≡ true
  pub reacts : Reacts (around_at moment w) T f x y [] told
  pub node : IsSameNode x y
  pub stays_up : y.up ≡ x.up
  pub posts : Posts moment told w.messages w'.messages
  pub others : SameElsewhere i w.instances w'.instances
  pub numbered : AreNumbered w.instances
  pub beside : IsSameBeside w w'
  pub later : w.clock ≤ moment
  pub early : w.clock < greatest_moment

pub acts_of : (i moment : ℕ) (T : List ℕ) (f : Here → Local → Reaction)
    (Are : List Output → Instance → Instance → Type 0) (w w' : State) (x : Instance) → AreNumbered w.instances
    → w.clock ≤ moment → w.clock < greatest_moment
    → instance_at i w.instances ≡ Some x → x.up ≡ true → (does : Does i moment Are w w')
    → ((told : List Output) (y : Instance) → Are told x y → Reacts (around_at moment w) T f x y [] told)
    → Turns i (λ z z'. z'.up ≡ z.up) w.instances w'.instances → Acts i moment T f does.told w w'
acts_of i moment T f Are w w' x numbered later early here up does reacting up_too =
    let there = exists_then i w.instances w'.instances x numbered does.others.numbered here in
    record {
      x = x;
      y = there.0;
      is_at = here;
      is_then = there.1;
      is_up = up;
      reacts = reacting does.told there.0 (does.turns x there.0 here there.1);
      node = does.stays x there.0 here there.1;
      stays_up = up_too x there.0 here there.1;
      posts = does.posts;
      others = does.others.others;
      numbered = numbered;
      beside = does.beside;
      later = later;
      early = early;
    }

-- each message that is said is of this tenant
pub own_messages : (t : List ℕ) (said : List Said) → AreOf t said → (m : Message) → Contains (messages_in said) m
    → m.tenant ≡ t
own_messages t [] all m among = absurd (omega (arith, among.1))
own_messages t (Replies c bytes ∷ said) all m among =
    own_messages t said (All-tail (IsOf t) (Replies c bytes) said all) m among
own_messages t (Sends n ∷ said) all m among = elim (contained n (messages_in said) m among) [
  | inl here ↦ ap (λ (k : Message). k.tenant) (sym here) ∙ All-head (IsOf t) (Sends n) said all
  | inr later ↦ own_messages t said (All-tail (IsOf t) (Sends n) said all) m later
]
own_messages t (Tells s ∷ said) all m among =
    own_messages t said (All-tail (IsOf t) (Tells s) said all) m among

-- ---- what it goes by

here_from : (t u : List ℕ) (n i k l m e g : ℕ) (limits more : Limits) (three four : List ℕ) (stayed stays : Bool)
    (all these : List ℕ) → t ≡ u → n ≡ i → k ≡ l → limits ≡ more → e ≡ g → three ≡ four → stayed ≡ stays → all ≡ these
    → (let h : Here = record {
      tenant = t;
      instance = n;
      incarnation = k;
      moment = m;
      limits = limits;
      epoch = e;
      three = three;
      stayed = stayed;
      incarnations = all;
    } in h) ≡ (let h : Here = record {
      tenant = u;
      instance = i;
      incarnation = l;
      moment = m;
      limits = more;
      epoch = g;
      three = four;
      stayed = stays;
      incarnations = these;
    } in h)
here_from t u n i k l m e g limits more three four stayed stays all these te ne ke le ee he se ae =
    λ d. record {
      tenant = te d;
      instance = ne d;
      incarnation = ke d;
      moment = m;
      limits = le d;
      epoch = ee d;
      three = he d;
      stayed = se d;
      incarnations = ae d;
    }

module _ (i moment : ℕ) (T : List ℕ) (f : Here → Local → Reaction) (told : List Output) (w w' : State)
    (a : Acts i moment T f told w w') where
  pub number : a.x.number ≡ i
  number = number_of i w.instances a.x a.is_at

  pub roster_kept : IsSameRoster (roster_of w') (roster_of w)
  roster_kept = roster_stays i w w' a.x a.y a.is_at a.is_then a.node a.stays_up a.others a.beside

  incarnation_alike : (t : List ℕ) (p : PrivateCluster) → Stands t w p → a.x.incarnation ≡ p.roster.incarnation i
  incarnation_alike t p s = sym (incarnation_here i w.instances a.x a.is_at) ∙ s.roster.incarnation i

  known_alike : (t : List ℕ) (p : PrivateCluster) → Stands t w p → a.x.known ≡ p.roster.known i
  known_alike t p s = sym (known_here i w.instances a.x a.is_at) ∙ s.roster.known i

  pub up_alike : (t : List ℕ) (p : PrivateCluster) → Stands t w p → p.roster.up i ≡ true
  up_alike t p s = sym (s.roster.up i) ∙ up_here i w.instances a.x a.is_at ∙ a.is_up

  -- what it goes by for a tenant is what the instance of the tenant's cluster does
  pub here_alike : (t : List ℕ) (p : PrivateCluster) → Stands t w p
      → here_on (around_at moment w) a.x t ≡ here_at p moment i
  unfolding here_on here_at three_on has_stayed_on three_at has_stayed
  here_alike t p s =
      let k = incarnation_alike t p s in
      let e = known_alike t p s in
      here_from t p.tenant a.x.number i a.x.incarnation (p.roster.incarnation i) moment a.x.known (p.roster.known i)
      (limits_in w t) p.limits
      (replicas t (ring_at a.x.known (rings_on (around_at moment w))))
      (p.replicas_by (ring_at (p.roster.known i) p.roster.rings))
      (a.x.incarnation == w.common.first
      && is_always_replica (replicas t) a.x.known (rings_on (around_at moment w)) a.x.number)
      (p.roster.incarnation i == p.roster.first && is_always_replica p.replicas_by (p.roster.known i) p.roster.rings i)
      (around_at moment w).incarnations (map p.roster.incarnation all_instances)
      (sym s.tenant) number k s.limits e
      (λ d. sym s.replicas_by d (ring_at (e d) (s.roster.rings d)))
      (λ d. k d == s.roster.first d && is_always_replica (sym s.replicas_by d) (e d) (s.roster.rings d) (number d))
      (incarnations_are w.instances a.numbered
      ∙ map_alike (λ j. incarnation_at j w.instances) p.roster.incarnation all_instances s.roster.incarnation)

  pub local_alike : (t : List ℕ) (p : PrivateCluster) → Stands t w p → local_in t a.x ≡ p.at i
  local_alike t p s = sym (local_here t i w.instances a.x a.is_at) ∙ s.local i

  -- .. so that it reacts alike
  pub reaction_alike : (t : List ℕ) (p : PrivateCluster) → Stands t w p
      → reaction_on (around_at moment w) a.x t f ≡ f (here_at p moment i) (p.at i)
  reaction_alike t p s = λ d. f (here_alike t p s d) (local_alike t p s d)

  -- ---- the tenant itself

  pub told_is : (p : PrivateCluster) → Stands T w p
      → told ≡ map (output_of T i (p.roster.incarnation i)) (f (here_at p moment i) (p.at i)).said
  told_is p s =
      a.reacts.outputs
      ∙ (λ d. map (output_of T (number d) (incarnation_alike T p s d)) (reaction_alike T p s d).said)

  pub own_outputs : (p : PrivateCluster) → Stands T w p → told ≡ (react_one f moment i p).outputs
  unfolding react_one
  own_outputs p s =
      told_is p s
      ∙ (λ d. map (output_of (sym s.tenant d) i (p.roster.incarnation i)) (f (here_at p moment i) (p.at i)).said)

  pub own_fits : (p : PrivateCluster) → Stands T w p → (react_one f moment i p).fits ≡ true
  unfolding react_one
  own_fits p s = ap (λ (r : Reaction). r.fits) (sym (reaction_alike T p s)) ∙ a.reacts.fits

  own_local : (p : PrivateCluster) → Stands T w p
      → local_at T i w'.instances ≡ (f (here_at p moment i) (p.at i)).local
  own_local p s =
      local_here T i w'.instances a.y a.is_then ∙ a.reacts.local T
      ∙ ap (λ b. if b then (reaction_on (around_at moment w) a.x T f).local else local_in T a.x) (same-refl T)
      ∙ ap (λ (r : Reaction). r.local) (reaction_alike T p s)

  module _ (behaves : Behaves f) where
    own_posted : (p : PrivateCluster) → Stands T w p → IsPostedAlike T w' (react_one f moment i p).cluster
    unfolding react_one here_at as_sent
    own_posted p s from k to count =
        let r : Reaction = f (here_at p moment i) (p.at i) in
        let counted = behaves.counted (here_at p moment i) (p.at i) in
        let name : MessageName =
        record { tenant = T; from = from; incarnation = k; to = to; count = count } in
        a.posts name
        ∙ (λ d. posted_over moment (told_is p s d) name (s.posted from k to count d))
        ∙ posted_alike moment p.clock T from k to count
        (subst (λ clock. nat_le (moment_after moment message_life) clock ≡ false) s.clock
        (just_sent w.clock moment a.later a.early))
        i (p.roster.incarnation i) r.said p.sent
        (own_messages T r.said (subst (λ t. AreOf t r.said) s.tenant (behaves.own (here_at p moment i) (p.at i))))
        (λ m among. (said_is_new p moment i r s.named (up_alike T p s) counted m among).0)
        (new_named i (p.roster.incarnation i) (p.at i).ledger.messages r.local.ledger.messages moment
        (messages_in r.said) counted)

    -- it has what its cluster makes of it
    pub own_stands : (p : PrivateCluster) → Stands T w p → Stands T w' (react_one f moment i p).cluster
    unfolding react_one
    own_stands p s = record {
      tenant = s.tenant;
      replicas_by = s.replicas_by;
      service_key = ap (λ (c : Common). c.service_key) a.beside.common ∙ s.service_key;
      clock = a.beside.clock ∙ s.clock;
      limits = (λ d. limits_in (record w { common = a.beside.common d }) T) ∙ s.limits;
      roster = roster_then (roster_of w') (roster_of w) p.roster roster_kept s.roster;
      local = at_each (λ j. local_at T j w'.instances
          ≡ put_at p.at i (f (here_at p moment i) (p.at i)).local j) i
          (own_local p s ∙ put_itself)
          (λ j h. local_other T i j w.instances w'.instances a.others h ∙ s.local j ∙ put_other j h);
      posted = own_posted p s;
      named = one_kept f moment i p behaves.counted (up_alike T p s) s.named;
    }
      where
        new : Local
        new = (f (here_at p moment i) (p.at i)).local

        put_itself : new ≡ put_at p.at i new i
        put_itself = let test : nat_eq i i ≡ true = grind (arith, nat_tests) in rw test refl

        put_other : (j : ℕ) → nat_eq j i ≡ false → p.at j ≡ put_at p.at i new j
        put_other j h = rw h refl

    -- ---- every other tenant

    other_local : (t : List ℕ) → same t T ≡ false → local_at t i w'.instances ≡ local_at t i w.instances
    other_local t other =
        local_here t i w'.instances a.y a.is_then ∙ a.reacts.local t
        ∙ ap (λ b. if b then (reaction_on (around_at moment w) a.x t f).local else local_in t a.x) other
        ∙ sym (local_here t i w.instances a.x a.is_at)

    other_posted : (t : List ℕ) (p : PrivateCluster) → same t T ≡ false → Stands t w p → IsPostedAlike t w' p
    unfolding here_on
    other_posted t p other s from k to count =
        let said : List Said = (reaction_on (around_at moment w) a.x T f).said in
        let name : MessageName =
        record { tenant = t; from = from; incarnation = k; to = to; count = count } in
        a.posts name
        ∙ ap (λ outs. posted_over moment outs name (posted_at name w.messages)) a.reacts.outputs
        ∙ posted_of_others moment T a.x.number a.x.incarnation said name (posted_at name w.messages)
        (own_messages T said (behaves.own (here_on (around_at moment w) a.x T) (local_in T a.x))) other
        ∙ s.posted from k to count

    -- has what it had
    pub other_stands : (t : List ℕ) (p : PrivateCluster) → same t T ≡ false → Stands t w p → Stands t w' p
    other_stands t p other s = record {
      tenant = s.tenant;
      replicas_by = s.replicas_by;
      service_key = ap (λ (c : Common). c.service_key) a.beside.common ∙ s.service_key;
      clock = a.beside.clock ∙ s.clock;
      limits = (λ d. limits_in (record w { common = a.beside.common d }) t) ∙ s.limits;
      roster = roster_then (roster_of w') (roster_of w) p.roster roster_kept s.roster;
      local = λ j. locals_then t i w.instances w'.instances (other_local t other) a.others j ∙ s.local j;
      posted = other_posted t p other s;
      named = s.named;
    }
