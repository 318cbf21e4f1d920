-- An instance is settled by force, and the tenant's groups then wait by its position.
use Rattle.std.proofs.Common.{◌≡◌, ℕ, Bool, true, false, ◌&&◌, not, List, [], is_some, ap, refl, sym, ◌∙◌, if◌then◌else◌}
use Rattle.std.proofs.lemmas.Bool.{false≢true}
use Rattle.am_cluster.specs.Here.{Here, is_replica_here}
use Rattle.am_cluster.specs.Local.{Local, is_settled, with_settling}
use Rattle.am_cluster.specs.Reactions.{Reaction, stays}
use Rattle.am_cluster.specs.Transfers.{forced}
use Rattle.am_context.proofs.Changes.{own}
use Rattle.am_item.specs.declared.fault.Fault.{Fault}
use Rattle.am_item.specs.declared.fault.Fault.TheVariants.{OutOfMemory, CountsExhausted, PatternNotBuilt, StoreRefused}
use Rattle.am_transfer.specs.Progress.{on}
use Rattle.am_transfer.specs.Settling.{now_settled}
use Rattle.am_transfer.specs.Tenants.{Becomes}
use Rattle.am_transfer.specs.Timers.{AreTimed, Room}
use Rattle.am_site.specs.Here.{here_of}
use Rattle.am_site.specs.InOrder.{IsAtPosition, IsInOrder, StopsMoving}
use Rattle.am_site.specs.Learning.{StopsForcing}
use Rattle.am_site.specs.Locals.{local_of}
use Rattle.am_site.specs.Reacting.{KeepsOthers, MovesInSilence, Reacts}
use Rattle.am_site.specs.declared.here.Here.{Here as Given}
use Rattle.am_site.specs.declared.said.Said.{Said as Spoken}
use Rattle.am_site.specs.declared.site.Site.{Site}
use Rattle.am_site.proofs.Arrived.{then_moves}
use Rattle.am_site.proofs.InOrder.{made_sound}
use Rattle.am_site.proofs.Moving.{moves}
use Rattle.am_site.proofs.Reacting.{nothing, quiet, reacts_from}
use Rattle.am_site.proofs.Settled.{settles, settling_does, with_room}
use Rattle.am_site.proofs.SoundSettling.{forced_sound}

module _ (here : Here) (l : Local) where
  pub forced_elsewhere : is_replica_here here ≡ false → forced here l ≡ stays l
  unfolding forced
  forced_elsewhere none = rw none refl

  pub forced_already : is_settled here l ≡ true → forced here l ≡ stays l
  unfolding forced
  forced_already settled = by (is_replica_here here)
    where
      by : (b : Bool) → stays (if b && not (is_settled here l) then with_settling (now_settled l.settling) l else l) ≡ stays l
      by true = rw settled refl
      by false = refl

  forced_as : is_replica_here here ≡ true → is_settled here l ≡ false → settles now_settled l ≡ forced here l
  unfolding forced
  forced_as replica unsettled = rw (replica, unsettled) refl

-- nothing happens
pub forces_nothing : (here : Here) (site : Site) → forced here (local_of here.tenant site) ≡ stays (local_of here.tenant site)
    → MovesInSilence here.tenant (forced here) site site
forces_nothing here site is = λ x. moves here.tenant (forced here) site site x x (nothing here.tenant (forced here) site x is)

module _ (given : Given) (old : Site) (room : Room) (replica : is_replica_here (here_of given) ≡ true)
    (unsettled : is_settled (here_of given) (local_of given.tenant.now old) ≡ false)
    (becomes : Becomes given.tenant.now (on now_settled) old.settling.progress room.progress) (timed : AreTimed old.settling → AreTimed room) where
  abbrev t : List ℕ
  t = given.tenant.now

  abbrev here : Here
  here = here_of given

  abbrev mid : Site
  mid = with_room old room

  forces : (x : List Spoken) → Reacts t (forced here) old mid x x
  forces x =
      reacts_from t (settles now_settled) (forced here) old (forced_as here (local_of t old) replica unsettled) mid x x
      (quiet t (settles now_settled) old mid x (settling_does t now_settled (on now_settled) old room (λ p. refl) becomes timed (λ p. refl)))

  pub forces_silently : (new : Site) → ((s : List ℕ) → local_of s new ≡ local_of s mid) → KeepsOthers t mid new → MovesInSilence t (forced here) old new
  forces_silently new left kept = λ x. then_moves t (forced here) old mid new x x (forces x) left kept

  pub forced_in_order : (new : Site) → MovesInSilence t (forced here) old new → IsAtPosition here new → IsInOrder here old → IsInOrder here new
  forced_in_order new silent at order =
      let made : local_of t new ≡ (settles now_settled (local_of t old)).local =
      own t _ _ _ ((silent []).local t) ∙ ap (λ (r : Reaction). r.local) (sym (forced_as here (local_of t old) replica unsettled)) in
      record {
        position = λ some. at;
        asked = λ some. absurd (false≢true (sym (ap (λ (l : Local). is_some l.settling.asked_at) made) ∙ some));
        sound = made_sound here (forced here) old new (forced_sound here) (silent []).local order.sound;
      }

  pub stops_forcing : (refused : List (List ℕ)) (fault : Fault) → StopsMoving refused given mid fault → StopsForcing refused given old fault
  stops_forcing refused OutOfMemory stops = tt
  stops_forcing refused CountsExhausted stops = stops
  stops_forcing refused PatternNotBuilt (apart, stops) = (replica, unsettled, stops)
  stops_forcing refused StoreRefused stops = stops
