-- A message that reaches its receiver keeps the simulation, also where it decides a request that is refused for a
-- pattern of its own; and so does one that is lost.
use Rattle.std.proofs.Common.{◌≡◌, ◌≢◌, ◌⊎◌, ◌∙◌, inl, inr, ℕ, true, false, All, Contains, List, []}
use Rattle.std.proofs.Common.{◌∷◌, ◌++◌, Option, None, Some, IfSome, option_map, refl, sym, ap, arith, subst}
use Rattle.std.proofs.Common.{if◌then◌else◌}
use Rattle.std.proofs.lemmas.List.{append-nil}
use Rattle.std.proofs.lemmas.List.Elements.{All-head}
use Rattle.am_cluster.specs.Patterns.{AsksBuilt, BuildsAccepted, IsRefusedBuild}
use Rattle.am_cluster.specs.Deciding.{Deciding, Decision, deciding_at, decision_of}
use Rattle.am_cluster.specs.Arriving.{arrive}
use Rattle.am_cluster.specs.Courses.{course, course_by, posted_in}
use Rattle.am_cluster.specs.Events.{Deliver, Output}
use Rattle.am_cluster.specs.Happening.{Delivered, Happening}
use Rattle.am_cluster.specs.Here.{Here}
use Rattle.am_cluster.specs.Local.{Local}
use Rattle.am_cluster.specs.Messages.{Message}
use Rattle.am_cluster.specs.Moments.{effective, is_too_late}
use Rattle.am_cluster.specs.Operating.{Decide, decision_on}
use Rattle.am_cluster.specs.Operations.{Operation}
use Rattle.am_cluster.specs.Outputs.{front_told}
use Rattle.am_cluster.specs.PrivateCluster.{Course, PrivateCluster, here_at, put_out_at, react_one}
use Rattle.am_cluster.specs.Reactions.{Reaction}
use Rattle.am_cluster.specs.Replying.{KeepsAskers}
use Rattle.am_cluster.specs.Roster.{put_at}
use Rattle.am_cluster.specs.Sent.{sent_at}
use Rattle.am_cluster.specs.View.{Watch, adds, watch}
use Rattle.am_cluster.proofs.Counted.{arrive_counted}
use Rattle.am_cluster.proofs.ReplyTurns.{arrive_over}
use Rattle.am_item.specs.declared.item.Item.{Item}
use Rattle.am_limit.specs.Books.{limits_of}
use Rattle.am_limit.specs.declared.limits.Limits.{Limits as TenantLimits}
use Rattle.am_messages.specs.Names.{name_of}
use Rattle.am_messages.specs.Posted.{posted_at}
use Rattle.am_messages.specs.declared.messages.Posted.{Posted}
use Rattle.am_messages.specs.declared.name.MessageName.{MessageName}
use Rattle.am_muting.specs.Failing.{AddsAmong}
use Rattle.am_instance.specs.Here.{IsGiven}
use Rattle.am_instance.specs.Instance.{ReadsOn, local_in, refused_in}
use Rattle.am_instance.specs.Receiving.{Receives}
use Rattle.am_instance.specs.declared.instance.Instance.{Instance}
use Rattle.am_world.specs.Consistent.{IsConsistent, around_at}
use Rattle.am_world.specs.Places.{Turns, instance_at, up_at}
use Rattle.am_world.specs.Simulation.{AreAsked, Stands, fault_count, put_out, refused_by}
use Rattle.am_world.specs.Steps.{KeepsBuilds, RefusesBuild}
use Rattle.am_world.specs.Turning.{Does}
use Rattle.am_world.specs.declared.common.Common.{Common}
use Rattle.am_world.specs.declared.state.State.{State}
use Rattle.am_instance.specs.Site.{Given, IsDecided, IsMade, asked_by, decided_by, here_of}
use Rattle.am_tenant.specs.Names.{same}
use Rattle.am_tenant.proofs.Same.{same-refl, same_tells}
use Rattle.am_world.proofs.Beside.{IsAsAlone, IsRefusedAlone, Kept, Premises}
use Rattle.am_world.proofs.Alone.{Acts, Behaves, Over, here_alike, local_alike, own_fits, own_outputs}
use Rattle.am_world.proofs.Alone.{own_stands, roster_kept, up_alike}
use Rattle.am_world.proofs.AloneDecided.{arrive_alike, as_deciding, decided_in}
use Rattle.am_world.proofs.AloneDelivered.{delivered_course, delivered_decides, posted_too}
use Rattle.am_world.proofs.AloneKept.{clock_before, effective_later, follows_on}
use Rattle.am_world.proofs.AloneOwn.{arrive_own}
use Rattle.am_world.proofs.AlonePlaces.{at_each, exists_then, refused_here, refused_other, refused_then, up_there}
use Rattle.am_world.proofs.AloneTold.{alone, asked_then, front_silent, of_tenant, other_alone, told_is_owned}
use Rattle.am_world.proofs.AloneTold.{told_owned}

-- ---- where its receiver takes it

arrive_behaves : (decide : Decide) (message : Message) → Behaves (λ here. arrive decide here message)
arrive_behaves decide message = record {
  own = λ here. arrive_own decide here message;
  counted = λ here. arrive_counted decide here message;
}

-- this is decided, whatever is
abbrev always : Decision → Decide
always decision here request list local = decision

no_more : (more : List (List ℕ)) → All (λ text. Contains [] text) more → more ≡ []
no_more [] each = refl
no_more (text ∷ more) each =
    let there = All-head (λ x. Contains [] x) text more each in
    let within = there.1 in absurd (omega (arith, within))

added_none : (old new : List (List ℕ)) → AddsAmong [] old new → new ≡ old
added_none old new adds =
    adds.refused ∙ ap (λ more. old ++ more) (no_more adds.more adds.each) ∙ append-nil old

-- where a reaction comes to the same, so does what comes of it
same_one : (f g : Here → Local → Reaction) (moment i : ℕ) (p : PrivateCluster)
    → f (here_at p moment i) (p.at i) ≡ g (here_at p moment i) (p.at i)
    → react_one f moment i p ≡ react_one g moment i p
unfolding react_one
same_one f g moment i p e =
    ap (λ (r : Reaction). let c : Course = record {
      cluster = record p { at = put_at p.at i r.local; sent = p.sent ++ sent_at moment r.said };
      outputs = put_out_at p i r.said;
      fits = r.fits;
    } in c) e

-- what is decided has only patterns that were built
built_of : (key : List ℕ) (here : Here) (local : Local) (o : Option (Operation × List Item))
    → IfSome o (λ x. BuildsAccepted x.0.request (decision_on key here x.0.request x.1 local))
    → IfSome (option_map (as_deciding here local) o) (λ (d : Deciding).
    BuildsAccepted d.operation.request (decision_of key d))
built_of key here local None built = tt
built_of key here local (Some x) built = built

-- a message was taken by its receiver, which decided so
pub record TakesMessage (w w' : State) (moment : ℕ) (m : Message) (told : List Output) : Type 0 where
  pub allowed : is_too_late moment ≡ false
  pub sent_at : ℕ
  pub found : posted_at (name_of m) w.messages ≡ Some (record { message = m; sent_at = sent_at })
  pub decision : Decision
  pub acts : Acts m.to (effective moment w.clock) m.tenant (λ here. arrive (always decision) here m) told w w'
  pub given : Given
  pub is_given : IsGiven (around_at (effective moment w.clock) w) acts.x m.tenant given
  pub adds : AddsAmong (asked_by given (decided_by given m (local_in m.tenant acts.x)))
      (refused_in acts.x) (refused_in acts.y)
  pub reads : ReadsOn acts.x acts.y
  pub appended : put_out w' ≡ put_out w ++ told
  pub faults : fault_count w' ≡ fault_count w

module _ (w w' : State) (moment : ℕ) (m : Message) (told : List Output) (k : TakesMessage w w' moment m told) where
  abbrev now : ℕ
  now = effective moment w.clock

  abbrev f : Here → Local → Reaction
  f here = arrive (always k.decision) here m

  abbrev h : Happening
  h = Delivered m.from m.incarnation m.to m.count moment

  behaves : Behaves f
  behaves = arrive_behaves (always k.decision) m

  keeps : (v : Watch) (here : Here) → KeepsAskers (Over v m.tenant) (f here)
  keeps v here = arrive_over (Over v m.tenant) (always k.decision) here m

  up : (p : PrivateCluster) → Stands m.tenant w p → p.roster.up m.to ≡ true
  up p s = up_alike m.to now m.tenant f told w w' k.acts m.tenant p s

  sent_too : (p : PrivateCluster) → Stands m.tenant w p → posted_in p m.from m.incarnation m.to m.count ≡ Some m
  sent_too p s =
      posted_too w (name_of m) p s ∙ ap (option_map (λ (posted : Posted). posted.message)) k.found

  course_so : (decide : Decide) (p : PrivateCluster) → Stands m.tenant w p
      → course_by decide p h ≡ react_one (λ here. arrive decide here m) now m.to p
  course_so decide p s =
      delivered_course p m.from m.incarnation m.to m.count moment decide m k.allowed (sent_too p s) (up p s)
      ∙ ap (λ clock. react_one (λ here. arrive decide here m) (effective moment clock) m.to p) (sym s.clock)

  given_here : (p : PrivateCluster) → Stands m.tenant w p → here_of k.given ≡ here_at p now m.to
  given_here p s = k.is_given.here ∙ here_alike m.to now m.tenant f told w w' k.acts m.tenant p s

  given_local : (p : PrivateCluster) → Stands m.tenant w p → local_in m.tenant k.acts.x ≡ p.at m.to
  given_local p s = local_alike m.to now m.tenant f told w w' k.acts m.tenant p s

  given_key : (p : PrivateCluster) → Stands m.tenant w p → k.given.service_key.now ≡ p.service_key
  given_key p s = k.is_given.key ∙ s.service_key

  -- what is decided there is decided in the cluster
  decided_so : (p : PrivateCluster) → Stands m.tenant w p → (o : Option (Operation × List Item))
      → decided_by k.given m (local_in m.tenant k.acts.x) ≡ o → decided_in (here_at p now m.to) m (p.at m.to) ≡ o
  decided_so p s o is = sym (λ d. decided_in (given_here p s d) m (given_local p s d)) ∙ is

  deciding_is : (p : PrivateCluster) → Stands m.tenant w p → (o : Option (Operation × List Item))
      → decided_by k.given m (local_in m.tenant k.acts.x) ≡ o
      → deciding_at p h ≡ option_map (as_deciding (here_at p now m.to) (p.at m.to)) o
  deciding_is p s o is =
      delivered_decides p m.from m.incarnation m.to m.count moment m k.allowed (sent_too p s) (up p s)
      ∙ ap (λ clock. option_map (as_deciding (here_at p (effective moment clock) m.to) (p.at m.to))
      (decided_in (here_at p (effective moment clock) m.to) m (p.at m.to))) (sym s.clock)
      ∙ ap (option_map (as_deciding (here_at p now m.to) (p.at m.to))) (decided_so p s o is)

  -- .. likewise
  course_right : (p : PrivateCluster) → Stands m.tenant w p → (o : Option (Operation × List Item))
      → decided_by k.given m (local_in m.tenant k.acts.x) ≡ o
      → IfSome o (λ x. decision_on p.service_key (here_at p now m.to) x.0.request x.1 (p.at m.to) ≡ k.decision)
      → course p h ≡ react_one f now m.to p
  course_right p s o is right =
      course_so (decision_on p.service_key) p s
      ∙ same_one (λ here. arrive (decision_on p.service_key) here m) f now m.to p
      (arrive_alike (decision_on p.service_key) (always k.decision) (here_at p now m.to) m (p.at m.to)
      (subst (λ q. IfSome q (λ x. decision_on p.service_key (here_at p now m.to) x.0.request x.1 (p.at m.to)
      ≡ k.decision)) (sym (decided_so p s o is)) right))

  built_right : (p : PrivateCluster) → Stands m.tenant w p → (o : Option (Operation × List Item))
      → decided_by k.given m (local_in m.tenant k.acts.x) ≡ o
      → IfSome o (λ x. BuildsAccepted x.0.request
      (decision_on p.service_key (here_at p now m.to) x.0.request x.1 (p.at m.to))) → AsksBuilt p h
  built_right p s o is built =
      subst (λ q. IfSome q (λ (d : Deciding). BuildsAccepted d.operation.request (decision_of p.service_key d)))
      (sym (deciding_is p s o is)) (built_of p.service_key (here_at p now m.to) (p.at m.to) o built)

  -- ---- what is kept whatever is decided

  kept_with : ((t : List ℕ) (v : Watch) (p : PrivateCluster) → Premises t v p w →
      IsAsAlone t v p (Deliver (name_of m) moment) told w'
      ⊎ IsRefusedAlone t v p w (Deliver (name_of m) moment) told w')
      → ((j : ℕ) → KeepsBuilds w (Deliver (name_of m) moment) j told w') → Kept w (Deliver (name_of m) moment) w'
  unfolding watch front_told
  kept_with tenants builds = record {
    follows = λ v follows. follows_on m.to v w w' k.acts.x k.acts.y k.acts.is_at k.acts.is_then k.reads.front
        k.acts.others (roster_kept m.to now m.tenant f told w w' k.acts) follows;
    asked = λ v follows new asked. asked_then m.to now m.tenant f told w w' k.acts behaves v asked (keeps v);
    outs = told;
    appended = k.appended;
    tenants = tenants;
    front = λ v follows asked u later.
        front_silent m.to now m.tenant f told w w' k.acts behaves v asked (keeps v) u later;
    owned = λ v follows asked u later.
        told_is_owned m.to now m.tenant f told w w' k.acts behaves v asked (keeps v) u later;
    roster = roster_kept m.to now m.tenant f told w w' k.acts;
    clock = k.acts.beside.clock;
    limits = λ t. ap (λ (common : Common). limits_of t common.limits) k.acts.beside.common;
    service_key = ap (λ (common : Common). common.service_key) k.acts.beside.common;
    refused = builds;
    faults = k.faults;
  }

  -- ---- nothing is decided, or what the cluster decides

  kept_right : (refused_in k.acts.y ≡ refused_in k.acts.x)
      → ((p : PrivateCluster) → Stands m.tenant w p → course p h ≡ react_one f now m.to p)
      → ((p : PrivateCluster) → Stands m.tenant w p → AsksBuilt p h) → Kept w (Deliver (name_of m) moment) w'
  unfolding watch adds
  kept_right same_builds is built =
      kept_with (λ t v p given. inl (alone m.to now m.tenant f told w w' k.acts behaves v given.asked (keeps v) t p
      (Deliver (name_of m) moment) h v given.stands (λ s. refl) refl (is p) (built p)))
      (λ j. inl (refused_then m.to w.instances w'.instances
      (refused_here m.to w'.instances k.acts.y k.acts.is_then ∙ same_builds
      ∙ sym (refused_here m.to w.instances k.acts.x k.acts.is_at)) k.acts.others j))

  -- ---- a request is refused for a pattern of its own

  module _ (operation : Operation) (list : List Item)
      (decides : decided_by k.given m (local_in m.tenant k.acts.x) ≡ Some (operation, list))
      (refused : IsRefusedBuild (refused_in k.acts.x) (refused_in k.acts.y) operation.request k.given.limits k.decision)
    where
      refused_places : (limits : TenantLimits) → k.given.limits ≡ limits
          → IsRefusedBuild (refused_by w m.to) (refused_by w' m.to) operation.request limits k.decision
      refused_places limits same_limits =
          subst (λ b. IsRefusedBuild b (refused_by w' m.to) operation.request limits k.decision)
          (sym (refused_here m.to w.instances k.acts.x k.acts.is_at))
          (subst (λ b. IsRefusedBuild (refused_in k.acts.x) b operation.request limits k.decision)
          (sym (refused_here m.to w'.instances k.acts.y k.acts.is_then))
          (subst (λ l. IsRefusedBuild (refused_in k.acts.x) (refused_in k.acts.y) operation.request l k.decision)
          same_limits refused))

      given_limits : (p : PrivateCluster) → Stands m.tenant w p → k.given.limits ≡ p.limits
      unfolding here_at
      given_limits p s = ap (λ (here : Here). here.limits) (given_here p s)

      refused_alone : (v : Watch) (p : PrivateCluster) → AreAsked v w → Stands m.tenant w p
          → IsRefusedAlone m.tenant v p w (Deliver (name_of m) moment) told w'
      unfolding watch adds here_at
      refused_alone v p asked s = record {
        happening = h;
        is_added = ap (λ c. if c then h ∷ [] else []) (same-refl m.tenant);
        deciding = as_deciding (here_at p now m.to) (p.at m.to) (operation, list);
        decides = deciding_is p s (Some (operation, list)) decides;
        decision = k.decision;
        refused = refused_places p.limits (given_limits p s);
        stands = subst (Stands m.tenant w') (sym (ap (λ (c : Course). c.cluster) (course_so (always k.decision) p s)))
            (own_stands m.to now m.tenant f told w w' k.acts behaves p s);
        told = λ u later.
            of_tenant u m.tenant told (told_owned m.to now m.tenant f told w w' k.acts behaves v asked (keeps v) u later)
            m.tenant (same-refl m.tenant)
            ∙ own_outputs m.to now m.tenant f told w w' k.acts p s
            ∙ ap (λ (c : Course). c.outputs) (sym (course_so (always k.decision) p s));
        fits = ap (λ (c : Course). c.fits) (course_so (always k.decision) p s)
            ∙ own_fits m.to now m.tenant f told w w' k.acts p s;
      }

      refused_for : (t : List ℕ) (v : Watch) (p : PrivateCluster) → Premises t v p w
          → IsAsAlone t v p (Deliver (name_of m) moment) told w'
          ⊎ IsRefusedAlone t v p w (Deliver (name_of m) moment) told w'
      unfolding watch adds
      refused_for t v p given = by_tenant (same_tells t m.tenant)
        where
          by_tenant : ((same t m.tenant ≡ true) × (t ≡ m.tenant)) ⊎ ((same t m.tenant ≡ false) × (t ≢ m.tenant))
              → IsAsAlone t v p (Deliver (name_of m) moment) told w'
              ⊎ IsRefusedAlone t v p w (Deliver (name_of m) moment) told w'
          by_tenant (inl mine) =
              inr (subst (λ s. IsRefusedAlone s v p w (Deliver (name_of m) moment) told w') (sym mine.1)
              (refused_alone v p given.asked (subst (λ s. Stands s w p) mine.1 given.stands)))
          by_tenant (inr other) =
              inl (other_alone m.to now m.tenant f told w w' k.acts behaves v given.asked (keeps v) t p
              (Deliver (name_of m) moment) v other.0 given.stands
              (ap (λ c. if c then h ∷ [] else []) other.0) refl)

      refuses : RefusesBuild w (name_of m) moment m.to told w'
      refuses = record {
        posted = record { message = m; sent_at = k.sent_at };
        found = k.found;
        receiver = refl;
        instance = k.acts.x;
        is_at = k.acts.is_at;
        given = k.given;
        is_given = k.is_given;
        operation = operation;
        list = list;
        decides = decides;
        decision = k.decision;
        refused = refused_places k.given.limits refl;
        told = k.acts.reacts.outputs;
        adds = subst (λ b. AddsAmong (asked_by k.given (Some (operation, list))) b (refused_by w' m.to))
            (sym (refused_here m.to w.instances k.acts.x k.acts.is_at))
            (subst (λ b. AddsAmong (asked_by k.given (Some (operation, list))) (refused_in k.acts.x) b)
            (sym (refused_here m.to w'.instances k.acts.y k.acts.is_then))
            (subst (λ o. AddsAmong (asked_by k.given o) (refused_in k.acts.x) (refused_in k.acts.y)) decides k.adds));
      }

      kept_refused : Kept w (Deliver (name_of m) moment) w'
      kept_refused =
          kept_with refused_for
          (at_each (λ j. KeepsBuilds w (Deliver (name_of m) moment) j told w') m.to (inr refuses)
          (λ j other. inl (refused_other m.to j w.instances w'.instances k.acts.others other)))

  -- ---- by what is decided

  kept_decided : (operation : Operation) (list : List Item)
      → decided_by k.given m (local_in m.tenant k.acts.x) ≡ Some (operation, list)
      → IsDecided (refused_in k.acts.x) (refused_in k.acts.y) k.given operation.request list
      (local_in m.tenant k.acts.x) k.decision → Kept w (Deliver (name_of m) moment) w'
  kept_decided operation list is decided = elim decided.decision [
    | inl right ↦
        let alike : (p : PrivateCluster) → Stands m.tenant w p
        → decision_on p.service_key (here_at p now m.to) operation.request list (p.at m.to) ≡ k.decision =
        λ p s. sym (right.0
        ∙ (λ d. decision_on (given_key p s d) (given_here p s d) operation.request list (given_local p s d))) in
        kept_right right.1 (λ p s. course_right p s (Some (operation, list)) is (alike p s))
        (λ p s. built_right p s (Some (operation, list)) is
        (subst (BuildsAccepted operation.request) (sym (alike p s)) decided.built))
    | inr refused ↦ kept_refused operation list is refused
  ]

  pub kept_taken : IsMade (refused_in k.acts.x) (refused_in k.acts.y) k.given m (local_in m.tenant k.acts.x) k.decision
      → Kept w (Deliver (name_of m) moment) w'
  kept_taken made = by_decision (decided_by k.given m (local_in m.tenant k.acts.x)) refl made
    where
      by_decision : (o : Option (Operation × List Item)) → decided_by k.given m (local_in m.tenant k.acts.x) ≡ o
          → IfSome o (λ d. IsDecided (refused_in k.acts.x) (refused_in k.acts.y) k.given d.0.request d.1
          (local_in m.tenant k.acts.x) k.decision) → Kept w (Deliver (name_of m) moment) w'
      by_decision None is made =
          kept_right (added_none (refused_in k.acts.x) (refused_in k.acts.y)
          (subst (λ o. AddsAmong (asked_by k.given o) (refused_in k.acts.x) (refused_in k.acts.y)) is k.adds))
          (λ p s. course_right p s None is tt) (λ p s. built_right p s None is tt)
      by_decision (Some (operation, list)) is made = kept_decided operation list is made

pub kept_deliver : (w w' : State) (name : MessageName) (moment : ℕ) (there : Posted) → is_too_late moment ≡ false
    → posted_at name w.messages ≡ Some there → up_at there.message.to w.instances ≡ true → IsConsistent w
    → Does there.message.to (effective moment w.clock)
    (λ told z z'. Receives (around_at (effective moment w.clock) w) there.message z z' [] told) w w'
    → Turns there.message.to ReadsOn w.instances w'.instances → Kept w (Deliver name moment) w'
kept_deliver w w' name moment there allowed found up consistent does stays =
    subst (λ n. Kept w (Deliver n moment) w') filed
    (kept_taken w w' moment there.message does.told (record {
      allowed = allowed;
      sent_at = there.sent_at;
      found = ap (λ n. posted_at n w.messages) filed ∙ found;
      decision = receives.decision;
      acts = record {
        x = at_first.0;
        y = at_last.0;
        is_at = at_first.1;
        is_then = at_last.1;
        is_up = at_first.2;
        reacts = receives.reacts;
        node = does.stays at_first.0 at_last.0 at_first.1 at_last.1;
        stays_up = reads.goes.up;
        posts = does.posts;
        others = does.others.others;
        numbered = consistent.numbered;
        beside = does.beside;
        later = effective_later moment w.clock;
        early = clock_before w consistent.clock;
      };
      given = receives.given;
      is_given = receives.is_given;
      adds = receives.adds;
      reads = reads;
      appended = does.appended;
      faults = does.faults;
    }) receives.made)
  where
    filed : name_of there.message ≡ name
    filed = consistent.filed name there found

    at_first : (x : Instance) × (instance_at there.message.to w.instances ≡ Some x) × (x.up ≡ true)
    at_first = up_there there.message.to w.instances up

    at_last : (y : Instance) × (instance_at there.message.to w'.instances ≡ Some y)
    at_last =
        exists_then there.message.to w.instances w'.instances at_first.0 consistent.numbered does.others.numbered
        at_first.1

    receives : Receives (around_at (effective moment w.clock) w) there.message at_first.0 at_last.0 [] does.told
    receives = does.turns at_first.0 at_last.0 at_first.1 at_last.1

    reads : ReadsOn at_first.0 at_last.0
    reads = stays at_first.0 at_last.0 at_first.1 at_last.1
