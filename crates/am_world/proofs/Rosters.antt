-- The rings and instances after events: only instances are up, the newest ring is in order, and what is the same of all
-- instances stays so.
use Rattle.std.proofs.Common.{◌≡◌, ◌∙◌, ℕ, ◌==◌, ◌&&◌, is_none, is_some, List, [], ◌∷◌, Option, None, Some, refl, sym}
use Rattle.std.proofs.Common.{ap, if◌then◌else◌}
use Rattle.am_cluster.proofs.Newest.{in_order_after}
use Rattle.am_cluster.proofs.UpExist.{up_exist_event}
use Rattle.am_cluster.proofs.Watched.{after_same, refused_same}
use Rattle.am_cluster.specs.Events.{Event, Open, Bytes, Close, Limits, Tick, Outcome, Deliver, Lose}
use Rattle.am_cluster.specs.Events.{Join, Leave, Crash, Restart, Learn, Force}
use Rattle.am_cluster.specs.Refused.{Refused}
use Rattle.am_cluster.specs.Roster.{AreInstancesUp, Crashes, IsSameRoster, Joins, Learns, Leaves, Restarts, RingEvent}
use Rattle.am_cluster.specs.Roster.{Roster, ring_event_refusal, ring_now, roster_after}
use Rattle.am_ring.specs.Instances.{in_order}
use Rattle.am_instance.specs.Shelves.{Shelf}
use Rattle.am_world.specs.Changes.{AreOpenedClean, OpensClean, opens_store, roster_then, roster_with}
use Rattle.am_world.specs.Shelves.{AreClean, NeverCleaner}

pub record IsSound (roster : Roster) : Type 0 where
  pub up : AreInstancesUp roster
  pub ordered : ring_now roster ≡ in_order (ring_now roster)

pub sound_same : (a b : Roster) → IsSameRoster a b → IsSound b → IsSound a
sound_same a b same sound = record {
  up = λ i up. sound.up i (sym (same.up i) ∙ up);
  ordered = rw same.rings sound.ordered;
}

sound_with : (change : RingEvent) (roster : Roster) → IsSound roster → IsSound (roster_with change roster)
unfolding roster_with
sound_with change roster sound = by_refusal (ring_event_refusal change roster) refl
  where
    by_refusal : (o : Option Refused) → ring_event_refusal change roster ≡ o
        → IsSound (if is_some o then roster else roster_after change roster)
    by_refusal (Some refusal) is = sound
    by_refusal None none = record {
      up = up_exist_event roster change sound.ordered none sound.up;
      ordered = in_order_after roster change sound.ordered none;
    }

pub sound_then : (e : Event) (roster : Roster) → IsSound roster → IsSound (roster_then e roster)
sound_then (Open c i) roster sound = sound
sound_then (Bytes c moment piece) roster sound = sound
sound_then (Close c) roster sound = sound
sound_then (Limits tenant limits) roster sound = sound
sound_then (Tick moment) roster sound = sound
sound_then (Outcome attempt tries moment status) roster sound = sound
sound_then (Deliver name moment) roster sound = sound
sound_then (Lose name) roster sound = sound
sound_then (Join i) roster sound = sound_with (Joins i) roster sound
sound_then (Leave i) roster sound = sound_with (Leaves i) roster sound
sound_then (Crash i) roster sound = sound_with (Crashes i) roster sound
sound_then (Restart i) roster sound = sound_with (Restarts i) roster sound
sound_then (Learn i) roster sound = sound_with (Learns i) roster sound
sound_then (Force tenant) roster sound = sound

-- ---- the same of every instance

with_same : (change : RingEvent) (a b : Roster) → IsSameRoster a b
    → IsSameRoster (roster_with change a) (roster_with change b)
unfolding roster_with
with_same change a b same =
    by_refusal (ring_event_refusal change a) (ring_event_refusal change b) (refused_same change a b same)
  where
    by_refusal : (o o' : Option Refused) → o ≡ o' → IsSameRoster (if is_some o then a else roster_after change a)
        (if is_some o' then b else roster_after change b)
    by_refusal None None e = after_same change a b same
    by_refusal (Some refusal) (Some refusal') e = same
    by_refusal None (Some refusal) e = absurd cc
    by_refusal (Some refusal) None e = absurd cc

pub then_same : (e : Event) (a b : Roster) → IsSameRoster a b → IsSameRoster (roster_then e a) (roster_then e b)
then_same (Open c i) a b same = same
then_same (Bytes c moment piece) a b same = same
then_same (Close c) a b same = same
then_same (Limits tenant limits) a b same = same
then_same (Tick moment) a b same = same
then_same (Outcome attempt tries moment status) a b same = same
then_same (Deliver name moment) a b same = same
then_same (Lose name) a b same = same
then_same (Join i) a b same = with_same (Joins i) a b same
then_same (Leave i) a b same = with_same (Leaves i) a b same
then_same (Crash i) a b same = with_same (Crashes i) a b same
then_same (Restart i) a b same = with_same (Restarts i) a b same
then_same (Learn i) a b same = with_same (Learns i) a b same
then_same (Force tenant) a b same = same

-- ---- stores that are opened

opens_same : (e : Event) (a b : Roster) → IsSameRoster a b → (i : ℕ) → opens_store a e i ≡ opens_store b e i
opens_same (Open c j) a b same i = refl
opens_same (Bytes c moment piece) a b same i = refl
opens_same (Close c) a b same i = refl
opens_same (Limits tenant limits) a b same i = refl
opens_same (Tick moment) a b same i = refl
opens_same (Outcome attempt tries moment status) a b same i = refl
opens_same (Deliver name moment) a b same i = refl
opens_same (Lose name) a b same i = refl
opens_same (Join j) a b same i =
    ap (λ (o : Option Refused). i == j && is_none o) (refused_same (Joins j) a b same)
opens_same (Leave j) a b same i = refl
opens_same (Crash j) a b same i = refl
opens_same (Restart j) a b same i =
    ap (λ (o : Option Refused). i == j && is_none o) (refused_same (Restarts j) a b same)
opens_same (Learn j) a b same i = refl
opens_same (Force tenant) a b same i = refl

pub clean_same : (es : List Event) (a b : Roster) (new : List Shelf) → IsSameRoster a b → AreOpenedClean b es new
    → AreOpenedClean a es new
clean_same [] a b new same clean = tt
clean_same (e ∷ es) a b new same clean = (
  λ i is opens. clean.0 i is (sym (opens_same e a b same i) ∙ opens),
  clean_same es (roster_then e a) (roster_then e b) new (then_same e a b same) clean.1,
)

-- what is so of all stores in the end
pub clean_before : (roster : Roster) (e : Event) (mid new : List Shelf) → NeverCleaner mid new
    → OpensClean roster e new → OpensClean roster e mid
clean_before roster e mid new never clean i is opens = never i (clean i is opens)

pub clean_all : (es : List Event) (roster : Roster) (new : List Shelf) → AreClean new → AreOpenedClean roster es new
clean_all [] roster new clean = tt
clean_all (e ∷ es) roster new clean = (λ i is opens. clean i is, clean_all es (roster_then e roster) new clean)
