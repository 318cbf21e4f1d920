-- A change of the ring or of an instance that is refused keeps the simulation: it changes nothing, and is refused in
-- any private cluster.
use Rattle.std.proofs.Common.{◌≡◌, ◌∙◌, inl, ℕ, true, is_some, List, [], ◌∷◌, Option, None, refl, sym, ap, subst}
use Rattle.std.proofs.lemmas.List.{append-nil}
use Rattle.am_cluster.proofs.Watched.{refused_same}
use Rattle.am_cluster.specs.Courses.{refusal_of}
use Rattle.am_cluster.specs.Deciding.{deciding_at}
use Rattle.am_cluster.specs.Events.{Event, Join, Leave, Crash, Restart, Learn}
use Rattle.am_cluster.specs.Happening.{Changed}
use Rattle.am_cluster.specs.Outputs.{front_told}
use Rattle.am_cluster.specs.PrivateCluster.{PrivateCluster}
use Rattle.am_cluster.specs.Refused.{Refused}
use Rattle.am_cluster.specs.Roster.{Crashes, IsSameRoster, Joins, Learns, Leaves, Restarts, RingEvent, Roster}
use Rattle.am_cluster.specs.Roster.{ring_event_refusal}
use Rattle.am_cluster.specs.View.{Watch, adds, watch, watch_change}
use Rattle.am_instance.specs.Shelves.{Shelf}
use Rattle.am_limit.specs.Books.{limits_of}
use Rattle.am_world.specs.Changes.{roster_then, roster_with}
use Rattle.am_world.specs.Consistent.{over}
use Rattle.am_world.specs.Simulation.{AreAsked, Follows, StandsOver, put_out, roster_of}
use Rattle.am_world.specs.Steps.{KeepsBuilds, Premises, clock_after, limits_after}
use Rattle.am_world.specs.Stopping.{Step}
use Rattle.am_world.specs.declared.state.State.{State}
use Rattle.am_world.proofs.KeptQuiet.{IsNothing, nothing_refused}
use Rattle.am_world.proofs.AlonePlaces.{same_again}

-- the event of a change
abbrev pub event_of : RingEvent → Event
event_of (Joins i) = Join i
event_of (Leaves i) = Leave i
event_of (Crashes i) = Crash i
event_of (Restarts i) = Restart i
event_of (Learns i) = Learn i

-- what it is to a tenant, to what is known, to the roster, and beside tenants
pub watched_as : (change : RingEvent) (v : Watch) → watch v (event_of change) ≡ watch_change change v
unfolding watch
watched_as (Joins i) v = refl
watched_as (Leaves i) v = refl
watched_as (Crashes i) v = refl
watched_as (Restarts i) v = refl
watched_as (Learns i) v = refl

pub adds_as : (change : RingEvent) (t : List ℕ) (v : Watch) → adds t v (event_of change) ≡ Changed change ∷ []
unfolding adds
adds_as (Joins i) t v = refl
adds_as (Leaves i) t v = refl
adds_as (Crashes i) t v = refl
adds_as (Restarts i) t v = refl
adds_as (Learns i) t v = refl

pub roster_as : (change : RingEvent) (roster : Roster)
    → roster_then (event_of change) roster ≡ roster_with change roster
roster_as (Joins i) roster = refl
roster_as (Leaves i) roster = refl
roster_as (Crashes i) roster = refl
roster_as (Restarts i) roster = refl
roster_as (Learns i) roster = refl

pub front_as : (change : RingEvent) (v : Watch) → front_told v (event_of change) ≡ []
unfolding front_told
front_as (Joins i) v = refl
front_as (Leaves i) v = refl
front_as (Crashes i) v = refl
front_as (Restarts i) v = refl
front_as (Learns i) v = refl

pub clock_as : (change : RingEvent) (clock : ℕ) → clock_after (event_of change) clock ≡ clock
clock_as (Joins i) clock = refl
clock_as (Leaves i) clock = refl
clock_as (Crashes i) clock = refl
clock_as (Restarts i) clock = refl
clock_as (Learns i) clock = refl

pub builds_as : (change : RingEvent) (w : State) (i : ℕ) → KeepsBuilds w (event_of change) i [] w
builds_as (Joins j) w i = refl
builds_as (Leaves j) w i = refl
builds_as (Crashes j) w i = refl
builds_as (Restarts j) w i = refl
builds_as (Learns j) w i = refl

limits_as : (change : RingEvent) (w : State) (t : List ℕ)
    → limits_of t w.common.limits ≡ limits_after (event_of change) t (limits_of t w.common.limits)
limits_as (Joins j) w t = refl
limits_as (Leaves j) w t = refl
limits_as (Crashes j) w t = refl
limits_as (Restarts j) w t = refl
limits_as (Learns j) w t = refl

undecided_change : (change : RingEvent) (p : PrivateCluster) → deciding_at p (Changed change) ≡ None
unfolding deciding_at
undecided_change change p = refl

module _ (w : State) (change : RingEvent) (refused : is_some (ring_event_refusal change (roster_of w)) ≡ true)
    (shelves : List Shelf) where
  refused_by_same : (roster : Roster) → IsSameRoster (roster_of w) roster
      → is_some (ring_event_refusal change roster) ≡ true
  refused_by_same roster same =
      ap (λ (o : Option Refused). is_some o) (sym (refused_same change (roster_of w) roster same)) ∙ refused

  unwatched : (v : Watch) → Follows v w → watch v (event_of change) ≡ v
  unfolding watch_change
  unwatched v follows = watched_as change v ∙ rw (refused_by_same v.roster follows.roster) refl

  unturned : roster_then (event_of change) (roster_of w) ≡ roster_of w
  unfolding roster_with
  unturned = roster_as change (roster_of w) ∙ rw refused refl

  nothing : (t : List ℕ) (v : Watch) (p : PrivateCluster) → Premises t v p (over w shelves)
      → IsNothing p (adds t v (event_of change))
  unfolding refusal_of
  nothing t v p given =
      subst (IsNothing p) (sym (adds_as change t v))
      (nothing_refused p (Changed change) (refused_by_same p.roster given.stands.stands.roster)
      (undecided_change change p))

  pub step_refused : Step (over w shelves) (event_of change) (over w shelves)
  step_refused = record {
    ends = inl (record {
      follows = λ v follows. subst (λ x. Follows x w) (sym (unwatched v follows)) follows;
      asked = λ clean v follows new asked. subst (λ x. AreAsked x w) (sym (unwatched v follows)) asked;
      outs = [];
      appended = sym (append-nil (put_out w));
      tenants = λ clean t v p given.
          let is = nothing t v p given in
          inl (record {
            stands = subst (StandsOver t (over w shelves)) (sym is.after) given.stands;
            told = λ u later. sym is.told;
            fits = is.fits;
            built = is.built;
          });
      front = λ v follows asked u later. sym (front_as change v);
      owned = λ v follows asked u later. refl;
      roster = subst (IsSameRoster (roster_of w)) (sym unturned) (same_again (roster_of w));
      clock = sym (clock_as change w.clock);
      limits = limits_as change w;
      service_key = refl;
      refused = builds_as change w;
      faults = refl;
    });
    clean = λ i clean. clean;
  }
