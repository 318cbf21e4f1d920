-- What is done for a timer.
use Rattle.std.proofs.Common.{◌≡◌, ℕ, Bool, true, false, List, Option, Some, None, ap, refl, ◌∙◌, if◌then◌else◌}
use Rattle.am_agenda.specs.Plan.{group_in}
use Rattle.am_cluster.specs.Flushing.{flushed}
use Rattle.am_cluster.specs.Here.{Here}
use Rattle.am_cluster.specs.Local.{Local}
use Rattle.am_cluster.specs.Operating.{finish, timed_out}
use Rattle.am_cluster.specs.Reactions.{Reaction, only_if, where_some}
use Rattle.am_cluster.specs.Ticking.{handled, is_flush_due, send_again}
use Rattle.am_labels.specs.declared.Label.{Label}
use Rattle.am_node.specs.Held.{local_of as local_in_node}
use Rattle.am_quorum.specs.Operations.{operation_at}
use Rattle.am_quorum.specs.declared.operation.Operation.{Operation}
use Rattle.am_rows.specs.Rows.{stored_in}
use Rattle.am_tenant.specs.Names.{same}
use Rattle.am_timer.specs.Timer.{Key}
use Rattle.am_timer.specs.declared.key.TimerKey.TheVariants.{Operation as OperationKey, Group as GroupKey, Retry as RetryKey, Push as PushKey}
use Rattle.am_transfer.specs.Peers.{at_number}
use Rattle.am_site.specs.Locals.{local_of}
use Rattle.am_site.specs.Notices.{notified_for}
use Rattle.am_site.specs.Reacting.{Reacts}
use Rattle.am_site.specs.declared.said.Said.{Said as Spoken}
use Rattle.am_site.specs.declared.site.Site.{Site}
use Rattle.am_site.proofs.Quiet.{IsLike, IsQuiet, flushed_quiet}
use Rattle.am_site.proofs.Sound.{KeepsSound, flushed_sound, only_if_sound, retried_sound}

module _ (here : Here) (muted : List (List Label)) where
  module _ (l : Local) where
    pub operation_done : (number : ℕ) → where_some timed_out (operation_at number l.operations) l ≡ handled here muted (OperationKey number) l
    unfolding handled
    operation_done number = refl

    -- .. for a group or an attempt
    pub notice_done : (key : Key) → ((number : ℕ) → key ≡ OperationKey number → ⊥) → ((to : ℕ) → key ≡ PushKey to → ⊥) → notified_for here muted key l ≡ handled here muted key l
    unfolding handled
    notice_done (OperationKey number) no_operation no_push = absurd (no_operation number refl)
    notice_done (GroupKey key) no_operation no_push = refl
    notice_done (RetryKey number) no_operation no_push = refl
    notice_done (PushKey to) no_operation no_push = absurd (no_push to refl)

    pub push_done : (to : ℕ) → send_again here to (at_number to l.settling.pushes) l ≡ handled here muted (PushKey to) l
    unfolding handled
    push_done to = refl

  -- a notice leaves what is in order
  pub noticed_quiet : (key : Key) → IsQuiet (notified_for here muted key)
  noticed_quiet (OperationKey number) l = (refl, (refl, refl))
  noticed_quiet (GroupKey key) l = by (is_flush_due here key l)
    where
      by : (b : Bool) → IsLike l (only_if b (flushed here muted (group_in key)) l).local
      by true = flushed_quiet here muted (group_in key) l
      by false = (refl, (refl, refl))
  noticed_quiet (RetryKey number) l = (refl, (refl, refl))
  noticed_quiet (PushKey to) l = (refl, (refl, refl))

  pub noticed_sound : (key : Key) → KeepsSound here (notified_for here muted key)
  noticed_sound (OperationKey number) l sound = sound
  noticed_sound (GroupKey key) l sound =
      only_if_sound here (is_flush_due here key l) (flushed here muted (group_in key)) (flushed_sound here muted (group_in key)) l sound
  noticed_sound (RetryKey number) l sound = retried_sound here number l sound
  noticed_sound (PushKey to) l sound = sound

-- ---- what is stored

pub given_up_holds : (number : ℕ) (l : Local) → (where_some timed_out (operation_at number l.operations) l).local.held ≡ l.held
unfolding finish
given_up_holds number l = by (operation_at number l.operations)
  where
    by : (found : Option Operation) → (where_some timed_out found l).local.held ≡ l.held
    by None = refl
    by (Some o) = refl

pub stored_after : (tenant : List ℕ) (react : Local → Reaction) (old new : Site) (x y : List Spoken) → Reacts tenant react old new x y
    → ((l : Local) → (react l).local.held ≡ l.held) → (t : List ℕ) → stored_in (local_in_node t new.node).held ≡ stored_in (local_in_node t old.node).held
unfolding local_of
stored_after tenant react old new x y reacts holds t = ap stored_in (by (same t tenant) (reacts.local t))
  where
    by : (b : Bool) → local_of t new ≡ (if b then (react (local_of t old)).local else local_of t old) → (local_in_node t new.node).held ≡ (local_in_node t old.node).held
    by true is = ap (λ (l : Local). l.held) is ∙ holds (local_of t old)
    by false is = ap (λ (l : Local). l.held) is
