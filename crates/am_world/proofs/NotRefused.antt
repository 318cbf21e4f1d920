-- A change of the ring or of an instance that isn't refused: it is refused in no private cluster either, and what it
-- must leave in a world so that every tenant has of it what its private cluster makes of it.
use Rattle.std.proofs.Common.{◌≡◌, ◌∙◌, inl, ℕ, ◌&&◌, true, List, [], ◌∷◌, ◌++◌, None, refl, sym, ap, subst}
use Rattle.std.proofs.lemmas.List.{append-nil}
use Rattle.am_cluster.proofs.Watched.{after_same, refused_same}
use Rattle.am_cluster.specs.Courses.{after_all, changed, course, course_by, fits_all, handled_by, refusal_of, told_all}
use Rattle.am_cluster.specs.Deciding.{deciding_at}
use Rattle.am_cluster.specs.Events.{Output}
use Rattle.am_cluster.specs.Happening.{Changed}
use Rattle.am_cluster.specs.Outputs.{are_owned, front_outputs, outputs_of}
use Rattle.am_cluster.specs.Patterns.{AreAllBuilt}
use Rattle.am_cluster.specs.PrivateCluster.{Course, PrivateCluster}
use Rattle.am_cluster.specs.Roster.{Crashes, IsSameRoster, Joins, Learns, Leaves, Restarts, RingEvent, Roster}
use Rattle.am_cluster.specs.Roster.{ring_event_refusal, roster_after}
use Rattle.am_cluster.specs.View.{Watch, look, opens_new, shut_in, watch, watch_change}
use Rattle.am_limit.specs.Books.{limits_of}
use Rattle.am_limit.specs.declared.limits.Limits.{Limits}
use Rattle.am_world.specs.Changes.{OpensClean, roster_then, roster_with}
use Rattle.am_world.specs.Consistent.{Contents}
use Rattle.am_world.specs.Places.{bytes_at}
use Rattle.am_world.specs.Refusal.{refusal}
use Rattle.am_world.specs.Simulation.{AreAsked, Follows, StandsOver, bytes_read, fault_count, put_out, refused_by}
use Rattle.am_world.specs.Simulation.{roster_of}
use Rattle.am_world.specs.Steps.{IsAsAlone, Kept, KeepsBuilds, Later, Premises, limits_after}
use Rattle.am_world.specs.declared.state.State.{State}
use Rattle.am_world.proofs.AlonePlaces.{roster_then as same_then}
use Rattle.am_world.proofs.KeptRefusedRing.{adds_as, clock_as, event_of, front_as, roster_as, watched_as}
use Rattle.am_world.proofs.RunLater.{asked_later, later_after, later_watch}

-- what the event of a change is beside tenants
pub refusal_as : (change : RingEvent) (w : State)
    → refusal w (event_of change) ≡ ring_event_refusal change (roster_of w)
refusal_as (Joins i) w = refl
refusal_as (Leaves i) w = refl
refusal_as (Crashes i) w = refl
refusal_as (Restarts i) w = refl
refusal_as (Learns i) w = refl

opens_none : (change : RingEvent) (v : Watch) → opens_new v (event_of change)
opens_none (Joins i) v = tt
opens_none (Leaves i) v = tt
opens_none (Crashes i) v = tt
opens_none (Restarts i) v = tt
opens_none (Learns i) v = tt

limits_stay : (change : RingEvent) (t : List ℕ) (limits : Limits) → limits ≡ limits_after (event_of change) t limits
limits_stay (Joins i) t limits = refl
limits_stay (Leaves i) t limits = refl
limits_stay (Crashes i) t limits = refl
limits_stay (Restarts i) t limits = refl
limits_stay (Learns i) t limits = refl

builds_stay : (change : RingEvent) (w w' : State) (i : ℕ) (outs : List Output) → refused_by w' i ≡ refused_by w i
    → KeepsBuilds w (event_of change) i outs w'
builds_stay (Joins j) w w' i outs same = same
builds_stay (Leaves j) w w' i outs same = same
builds_stay (Crashes j) w w' i outs same = same
builds_stay (Restarts j) w w' i outs same = same
builds_stay (Learns j) w w' i outs same = same

none_built : (change : RingEvent) (p : PrivateCluster) → AreAllBuilt p (Changed change ∷ [])
unfolding deciding_at
none_built change p = (tt, tt)

-- ---- it is taken by all

module _ (w : State) (change : RingEvent) (none : ring_event_refusal change (roster_of w) ≡ None) where
  pub taken : refusal w (event_of change) ≡ None
  taken = refusal_as change w ∙ none

  none_alike : (roster : Roster) → IsSameRoster (roster_of w) roster → ring_event_refusal change roster ≡ None
  none_alike roster same = sym (refused_same change (roster_of w) roster same) ∙ none

  watched : (v : Watch) → Follows v w → watch v (event_of change)
      ≡ (let u : Watch = record { table = shut_in change v.table; roster = roster_after change v.roster } in u)
  unfolding watch_change
  watched v follows = watched_as change v ∙ rw (none_alike v.roster follows.roster) refl

  pub roster_turned : roster_then (event_of change) (roster_of w) ≡ roster_after change (roster_of w)
  unfolding roster_with
  roster_turned = roster_as change (roster_of w) ∙ rw none refl

  pub course_is : (p : PrivateCluster) → IsSameRoster (roster_of w) p.roster
      → course p (Changed change) ≡ changed change p
  unfolding course_by handled_by refusal_of
  course_is p same = rw (none_alike p.roster same) refl

-- ---- what it must leave

-- a tenant has what its private cluster makes of it
pub record IsChangedAlone (t : List ℕ) (v : Watch) (p : PrivateCluster) (change : RingEvent) (outs : List Output)
    (c' : Contents) : Type 0 where
  pub stands : StandsOver t c' (changed change p).cluster
  pub told : (u : Watch) → Later v u → outputs_of t u outs ≡ (changed change p).outputs
  pub fits : (changed change p).fits ≡ true

pub record Becomes (change : RingEvent) (c c' : Contents) : Type 0 where
  pub roster : IsSameRoster (roster_of c'.state) (roster_after change (roster_of c.state))
  pub reading : (v : Watch) → Follows v c.state → (d j : ℕ)
      → bytes_at d j c'.state.instances ≡ bytes_read j (look d (shut_in change v.table))
  pub asked : OpensClean (roster_of c.state) (event_of change) c'.shelves → (v : Watch) → AreAsked v c.state
      → AreAsked v c'.state
  pub outs : List Output
  pub appended : put_out c'.state ≡ put_out c.state ++ outs
  pub alone : OpensClean (roster_of c.state) (event_of change) c'.shelves → (t : List ℕ) (v : Watch)
      (p : PrivateCluster) → Premises t v p c → IsChangedAlone t v p change outs c'
  pub front : (v : Watch) → AreAsked v c.state → (u : Watch) → Later v u → front_outputs u outs ≡ []
  pub owned : (v : Watch) → AreAsked v c.state → (u : Watch) → Later v u → are_owned u outs ≡ true
  pub clock : c'.state.clock ≡ c.state.clock
  pub limits : c'.state.common.limits ≡ c.state.common.limits
  pub service_key : c'.state.common.service_key ≡ c.state.common.service_key
  pub refused : (i : ℕ) → refused_by c'.state i ≡ refused_by c.state i
  pub faults : fault_count c'.state ≡ fault_count c.state

module _ (change : RingEvent) (c c' : Contents) (none : ring_event_refusal change (roster_of c.state) ≡ None)
    (becomes : Becomes change c c') where
  later : (v : Watch) → Later v (watch v (event_of change))
  later v = later_watch v (event_of change) (opens_none change v)

  follows_then : (v : Watch) → Follows v c.state → Follows (watch v (event_of change)) c'.state
  follows_then v follows =
      subst (λ u. Follows u c'.state) (sym (watched c.state change none v follows)) (record {
        reading = becomes.reading v follows;
        roster = same_then (roster_of c'.state) (roster_after change (roster_of c.state))
            (roster_after change v.roster) becomes.roster
            (after_same change (roster_of c.state) v.roster follows.roster);
      })

  alone_then : (t : List ℕ) (v : Watch) (p : PrivateCluster) → Premises t v p c
      → IsChangedAlone t v p change becomes.outs c' → IsAsAlone t v p (event_of change) becomes.outs c'
  alone_then t v p given alone =
      let is : course p (Changed change) ≡ changed change p =
      course_is c.state change none p given.stands.stands.roster in
      let added = adds_as change t v in
      record {
        stands = subst (StandsOver t c') (sym (ap (after_all p) added ∙ ap (λ (q : Course). q.cluster) is))
            alone.stands;
        told = λ u after.
            alone.told u (later_after v (watch v (event_of change)) u (later v) after)
            ∙ sym (ap (told_all p) added ∙ ap (λ (q : Course). q.outputs ++ []) is
            ∙ append-nil (changed change p).outputs);
        fits = ap (fits_all p) added ∙ ap (λ (q : Course). q.fits && true) is ∙ ap (λ b. b && true) alone.fits;
        built = subst (AreAllBuilt p) (sym added) (none_built change p);
      }

  pub kept_changed : Kept c (event_of change) c'
  kept_changed = record {
    follows = follows_then;
    asked = λ clean v follows new asked.
        asked_later v (watch v (event_of change)) c'.state c'.state (later v) (λ t i. refl)
        (becomes.asked clean v asked);
    outs = becomes.outs;
    appended = becomes.appended;
    tenants = λ clean t v p given. inl (alone_then t v p given (becomes.alone clean t v p given));
    front = λ v follows asked u after.
        becomes.front v asked u (later_after v (watch v (event_of change)) u (later v) after)
        ∙ sym (front_as change v);
    owned = λ v follows asked u after.
        becomes.owned v asked u (later_after v (watch v (event_of change)) u (later v) after);
    roster = subst (IsSameRoster (roster_of c'.state)) (sym (roster_turned c.state change none)) becomes.roster;
    clock = becomes.clock ∙ sym (clock_as change c.state.clock);
    limits = λ t.
        ap (limits_of t) becomes.limits ∙ limits_stay change t (limits_of t c.state.common.limits);
    service_key = becomes.service_key;
    refused = λ i. builds_stay change c.state c'.state i becomes.outs (becomes.refused i);
    faults = becomes.faults;
  }
