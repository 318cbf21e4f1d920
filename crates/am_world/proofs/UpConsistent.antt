-- A world in which an instance came up is consistent; and where it didn't, or what it told wasn't put out, it is so but
-- for it.
use Rattle.std.proofs.Common.{◌≡◌, ◌∙◌, ℕ, ◌+◌, ◌-◌, ◌<◌, ◌≤◌, Bool, All, List, [], length, Some, sym, ap}
use Rattle.std.proofs.Common.{arith, subst}
use Rattle.std.proofs.lemmas.List.{length-map}
use Rattle.am_cluster.specs.Events.{Output}
use Rattle.am_cluster.specs.Moments.{last_moment}
use Rattle.am_ring.specs.Instances.{Members, is_among}
use Rattle.am_instance.specs.Changing.{OpensAnew, renewed}
use Rattle.am_instance.specs.Here.{Circumstances}
use Rattle.am_instance.specs.Instance.{IsDown, IsSameNode}
use Rattle.am_instance.specs.Whole.{IsWhole}
use Rattle.am_instance.specs.declared.instance.Instance.{Instance}
use Rattle.am_item.specs.declared.item.Item.{Item}
use Rattle.am_world.specs.Changing.{MayComeUp}
use Rattle.am_world.specs.Consistent.{IsConsistent, IsConsistentBut, IsMember, IsRingInOrder, around_at, newest_in}
use Rattle.am_world.specs.Places.{At, ChangesAt, EachIs, Turns, instance_at}
use Rattle.am_world.specs.Posting.{AreFiled, IsSamePost, LosesAll, Posts}
use Rattle.am_world.specs.Shelves.{IsQuiet}
use Rattle.am_world.specs.Simulation.{IsSameBeside}
use Rattle.am_world.specs.declared.common.Common.{Common}
use Rattle.am_world.specs.declared.state.State.{State}
use Rattle.am_world.proofs.ComesUp.{lost_none_opened, past_opened, reached_opened, renewed_lost, tells_next}
use Rattle.am_world.proofs.Fresh.{TellsNext}
use Rattle.am_world.proofs.FreshOn.{consistent_knowing}
use Rattle.am_world.proofs.InstancesLemmas.{at_here}
use Rattle.am_world.proofs.Placed.{also_there, each_after}
use Rattle.am_world.proofs.Reached.{NotEarlier}
use Rattle.am_world.proofs.Turned.{quiet_up, whole_at}

-- in its next incarnation, in which it knows the newest ring, it may have come up or not
pub but_renewed : (i : ℕ) (around : Circumstances) (w w' : State) → IsConsistent w
    → ChangesAt i w.instances w'.instances → IsSameBeside w w' → AreFiled w'.messages
    → Turns i (λ x x'. IsSameNode (renewed around x) x') w.instances w'.instances
    → around.rings ≡ w.common.rings.items → IsSamePost w.messages w'.messages → IsConsistentBut i w'
but_renewed i around w w' was change beside filed node rings alike =
    consistent_knowing i w w' was change beside filed known later alike
  where
    known : At i (λ x. x.known < length w'.common.rings.items) w'.instances
    known x' found =
        let x = also_there i w'.instances w.instances change.numbered was.numbered x' found in
        let some : x.0.known < length w.common.rings.items = (was.whole i x.0 x.1).known in
        let size : length w'.common.rings.items ≡ length w.common.rings.items =
        ap (λ (c : Common). length c.rings.items) beside.common in
        let newest : x'.known ≡ length w.common.rings.items - 1 =
        (node x.0 x' x.1 found).known
        ∙ ap (λ n. n - 1) (length-map around.rings (λ (r : Members). r.instances) ∙ ap length rings) in
        omega (arith, some, size, newest)

    later : Turns i NotEarlier w.instances w'.instances
    later x x' from to =
        let up_to : x'.incarnation ≡ x.incarnation + 1 = (node x x' from to).incarnation in omega (arith, up_to)

-- the instance of a number was this, and opened its store in its next incarnation; it goes by this
module _ (i : ℕ) (around : Circumstances) (w w' : State) (x x' : Instance) (was : IsConsistent w)
    (here : instance_at i w.instances ≡ Some x) (after : instance_at i w'.instances ≡ Some x')
    (may : MayComeUp (newest_in w.common) x) (is_clean : Bool) (pairs : List (List ℕ × Item)) (told : List Output)
    (opens : OpensAnew around is_clean pairs (renewed around x) x' [] told) (node : IsSameNode (renewed around x) x')
    (rings : around.rings ≡ w.common.rings.items)
    (change : ChangesAt i w.instances w'.instances) (beside : IsSameBeside w w') (filed : AreFiled w'.messages) where
  down : IsDown x
  down = was.quiet i x here may.down

  next : All (TellsNext (renewed around x) x') told
  next =
      subst (All (TellsNext (renewed around x) x')) (sym opens.outputs)
      (tells_next around (renewed around x) x' opens.held opens.all opens.does (renewed_lost around x down))

  clock : w'.clock ≤ last_moment
  clock = subst (λ n. n ≤ last_moment) (sym beside.clock) was.clock

  ring : IsRingInOrder (newest_in w'.common)
  ring = subst (λ (c : Common). IsRingInOrder (newest_in c)) (sym beside.common) was.ring

  each_member : EachIs (IsMember (newest_in w'.common)) w.instances
  each_member = subst (λ (c : Common). EachIs (IsMember (newest_in c)) w.instances) (sym beside.common) was.members

  each_whole : EachIs (IsWhole (around_at w'.clock w')) w.instances
  each_whole j y found =
      whole_at (around_at w.clock w) (around_at w'.clock w') y (ap (λ (c : Common). c.rings.items) beside.common)
      (ap (λ (c : Common). c.first) beside.common) (was.whole j y found)

  own_member : IsMember (newest_in w'.common) x'
  own_member up =
      ap (λ n. is_among n (newest_in w'.common)) node.number
      ∙ ap (λ (c : Common). is_among x.number (newest_in c)) beside.common ∙ may.member

  pub consistent_opened : IsWhole (around_at w'.clock w') x' → Posts w.clock told w.messages w'.messages
      → IsConsistent w'
  consistent_opened whole posts = record {
    clock = clock;
    numbered = change.numbered;
    whole = each_after (IsWhole (around_at w'.clock w')) i w.instances w'.instances change.others each_whole
        (at_here (IsWhole (around_at w'.clock w')) i w'.instances x' after whole);
    quiet = each_after IsQuiet i w.instances w'.instances change.others was.quiet
        (at_here IsQuiet i w'.instances x' after (quiet_up x' opens.starts.up));
    ring = ring;
    members = each_after (IsMember (newest_in w'.common)) i w.instances w'.instances change.others each_member
        (at_here (IsMember (newest_in w'.common)) i w'.instances x' after own_member);
    filed = filed;
    past = past_opened i around x x' told w.instances w'.instances here after change.others node next w.messages
        was.past was.fresh w.clock w'.messages posts;
    fresh = reached_opened i around x x' told w.instances w'.instances here after change.others node next w.messages
        was.past was.fresh w.clock w'.messages posts;
  }

  pub same_post : LosesAll told w.messages w'.messages → IsSamePost w.messages w'.messages
  same_post loses =
      lost_none_opened i around x x' told w.instances w'.instances here after change.others node next w.messages
      was.past was.fresh w'.messages loses
