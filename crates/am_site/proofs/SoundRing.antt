-- What is sound of what an instance has of a tenant is so where it is opened, and stays so as the ring changes.
use Rattle.std.proofs.Common.{◌≡◌, ℕ, ◌≤◌, ◌&&◌, Bool, true, false, not, List, refl, if◌then◌else◌}
use Rattle.std.specs.List.Sorted.{IsStrictlySortedBy}
use Rattle.std.proofs.lemmas.List.Elements.{All-nil}
use Rattle.am_cluster.specs.Accepting.{accepted}
use Rattle.am_cluster.specs.Here.{Here, is_replica_here, others}
use Rattle.am_cluster.specs.Local.{Local, blank, holds_any, is_settled, with_settling}
use Rattle.am_cluster.specs.Operating.{replicas_changed}
use Rattle.am_cluster.specs.Reactions.{each, only_if, stays, ◌>>◌}
use Rattle.am_cluster.specs.RingChanges.{are_same, dropped, end_push, go_on, go_on_or_drop, just_opened, opened, other_restarted, push_if_settled, push_or_ask, ring_learned}
use Rattle.am_cluster.specs.Transfers.{asks_first, begin_push}
use Rattle.am_item.specs.declared.item.Item.{Item}
use Rattle.am_ring.specs.Instances.{is_among}
use Rattle.am_transfer.specs.Settling.{in_new_epoch, to_push}
use Rattle.am_site.specs.InOrder.{IsSound}
use Rattle.am_site.proofs.Sound.{KeepsSound, accepted_sound, blank_sound, in_turn_sound, only_if_sound, replicas_changed_sound, sound_at}
use Rattle.am_site.proofs.SoundSettling.{asks_first_sound, begin_push_where, each_where, end_push_sound}

module _ (here : Here) where
  -- ---- an opening

  pub opened_sound : (rows : List Item) → IsSound here (opened here rows)
  unfolding opened
  opened_sound rows = by (is_replica_here here)
    where
      by : (b : Bool) → IsSound here (if b then accepted here.moment rows blank else blank)
      by true = accepted_sound here here.moment rows blank (blank_sound here)
      by false = blank_sound here

  pub just_opened_sound : KeepsSound here (just_opened here)
  unfolding just_opened
  just_opened_sound l sound = only_if_sound here (holds_any l) (asks_first here) (asks_first_sound here) l sound

  -- ---- another ring

  push_or_ask_sound : (receivers : List ℕ) → KeepsSound here (push_or_ask here receivers)
  push_or_ask_sound receivers l sound = by (holds_any l)
    where
      sends : (settled : Bool) → is_settled here l ≡ settled → IsSound here ((if settled then each (begin_push here) receivers else asks_first here) l).local
      sends true is = (each_where here true (begin_push here) receivers (begin_push_where here) l is sound).1
      sends false is = asks_first_sound here l sound

      by : (b : Bool) → IsSound here (only_if b (if is_settled here l then each (begin_push here) receivers else asks_first here) l).local
      by true = sends (is_settled here l) refl
      by false = sound

  -- ---- a restart

  push_if_settled_sound : (r : ℕ) → KeepsSound here (push_if_settled here r)
  push_if_settled_sound r l sound = by (is_replica_here here && (is_settled here l && holds_any l)) refl
    where
      settled : (a b c : Bool) → (a && (b && c)) ≡ true → b ≡ true
      settled a true c is = refl
      settled true false c is = is
      settled false false c is = is

      by : (b : Bool) → (is_replica_here here && (is_settled here l && holds_any l)) ≡ b → IsSound here (only_if b (begin_push here r) l).local
      by true is = (begin_push_where here r l (settled (is_replica_here here) (is_settled here l) (holds_any l) is) sound).1
      by false is = sound

  pub other_restarted_sound : (r : ℕ) → KeepsSound here (other_restarted here r)
  unfolding other_restarted
  other_restarted_sound r l sound =
      only_if_sound here (is_among r here.three) (replicas_changed >> (end_push r >> push_if_settled here r))
      (in_turn_sound here replicas_changed (end_push r >> push_if_settled here r) (replicas_changed_sound here)
      (in_turn_sound here (end_push r) (push_if_settled here r) (end_push_sound here r) (push_if_settled_sound r))) l sound

-- an instance goes by another ring: it went by the first, and goes by the second
module _ (was here : Here) where
  pub new_epoch_sound : (l : Local) → IsSound was l → IsSound here (with_settling (in_new_epoch l.settling) l)
  unfolding IsStrictlySortedBy
  new_epoch_sound l sound = record { numbered = sound.numbered; used = sound.used; pushes = tt; apart = λ unsettled. refl; quiet = λ settled. refl }

  pub dropped_sound : (l : Local) → IsSound here (dropped l)
  unfolding dropped IsStrictlySortedBy
  dropped_sound l = record { numbered = tt; used = All-nil (λ n. n ≤ l.ledger.operations); pushes = tt; apart = λ unsettled. refl; quiet = λ settled. refl }

  -- where it neither is one of the three nor was one before, it hasn't stayed, and hadn't
  pub ring_learned_sound : (before : List ℕ) (l : Local) → (is_replica_here here ≡ false → is_among here.instance before ≡ false → here.stayed ≡ was.stayed)
      → IsSound was l → IsSound here (ring_learned here before l).local
  unfolding ring_learned
  ring_learned_sound before l alike sound =
      goes (only_if (not (are_same before here.three)) replicas_changed l).local
      (only_if_sound was (not (are_same before here.three)) replicas_changed (replicas_changed_sound was) l sound)
    where
      drops : (m : Local) → IsSound was m → is_replica_here here ≡ false → (b : Bool) → is_among here.instance before ≡ b → IsSound here (if b then dropped m else m)
      drops m sound none true is = dropped_sound m
      drops m sound none false is = sound_at was here m (alike none is) sound

      by : (m : Local) → IsSound was m → (b : Bool) → is_replica_here here ≡ b
          → IsSound here (if b then go_on here before m else stays (if is_among here.instance before then dropped m else m)).local
      by m sound true is = push_or_ask_sound here (to_push (others here) before m.settling) (with_settling (in_new_epoch m.settling) m) (new_epoch_sound m sound)
      by m sound false is = drops m sound is (is_among here.instance before) refl

      goes : (m : Local) → IsSound was m → IsSound here (go_on_or_drop here before m).local
      goes m sound = by m sound (is_replica_here here) refl
