-- What an instance says of a tenant where its ring or another instance changes, or by force: each message is the
-- tenant's; and one that comes up replies to nobody.
use Rattle.std.proofs.Common.{ℕ, Bool, true, false, ◌&&◌, not, List, if◌then◌else◌}
use Rattle.std.specs.Prelude.{codes, ◌==◌}
use Rattle.std.proofs.lemmas.List.Elements.{All-nil, All-weaker}
use Rattle.am_http.specs.declared.request.Request.{Request}
use Rattle.am_ring.specs.Instances.{is_among}
use Rattle.am_transfer.specs.Settling.{in_new_epoch, to_push}
use Rattle.am_cluster.specs.Courses.{at_restart}
use Rattle.am_cluster.specs.Here.{Here, is_replica_here, others, peer_now}
use Rattle.am_cluster.specs.Local.{Local, holds_any, is_settled, with_settling}
use Rattle.am_cluster.specs.Operating.{finish, replicas_changed, unavailable}
use Rattle.am_cluster.specs.Reactions.{Reaction, Replies, Said, Sends, Tells, each, only_if, stays, ◌>>◌}
use Rattle.am_cluster.specs.Replying.{GoesOver, ReplyOver}
use Rattle.am_cluster.specs.RingChanges.{are_same, dropped, end_push, go_on, go_on_or_drop, just_opened}
use Rattle.am_cluster.specs.RingChanges.{other_restarted, push_if_settled, push_or_ask, ring_learned}
use Rattle.am_cluster.specs.Transfers.{asks_first, begin_push, forced}
use Rattle.am_world.proofs.AloneOwn.{AreOf, IsOf, SaysOwn, asks_first_own, chosen_own, each_own, finish_own}
use Rattle.am_world.proofs.AloneOwn.{only_if_own, push_own, seq, stays_own}
use Rattle.am_world.proofs.ComesUp.{IsAskOf, opened_only}

if_own : (t : List ℕ) (b : Bool) (r s : Reaction) → AreOf t r.said → AreOf t s.said
    → AreOf t (if b then r else s).said
if_own t true r s one other = one
if_own t false r s one other = other

replicas_changed_own : (here : Here) → SaysOwn here replicas_changed
unfolding replicas_changed
replicas_changed_own here l =
    each_own here (finish (unavailable (codes "Q2"))) l.operations (finish_own here (unavailable (codes "Q2"))) l

-- ---- it comes up

pub just_opened_own : (here : Here) → SaysOwn here (just_opened here)
unfolding just_opened
just_opened_own here l = only_if_own here (holds_any l) (asks_first here) (asks_first_own here) l

-- ---- another ring

push_or_ask_own : (here : Here) (receivers : List ℕ) → SaysOwn here (push_or_ask here receivers)
push_or_ask_own here receivers l =
    only_if_own here (holds_any l) (if is_settled here l then each (begin_push here) receivers else asks_first here)
    (chosen_own here (is_settled here l) (each (begin_push here) receivers) (asks_first here)
    (each_own here (begin_push here) receivers (λ i. push_own here (peer_now here i))) (asks_first_own here)) l

go_on_own : (here : Here) (before : List ℕ) → SaysOwn here (go_on here before)
go_on_own here before l =
    push_or_ask_own here (to_push (others here) before l.settling) (with_settling (in_new_epoch l.settling) l)

go_on_or_drop_own : (here : Here) (before : List ℕ) → SaysOwn here (go_on_or_drop here before)
go_on_or_drop_own here before l =
    if_own here.tenant (is_replica_here here) (go_on here before l)
    (stays (if is_among here.instance before then dropped l else l)) (go_on_own here before l)
    (stays_own here (if is_among here.instance before then dropped l else l))

pub learned_own : (here : Here) (before : List ℕ) → SaysOwn here (ring_learned here before)
unfolding ring_learned
learned_own here before l =
    seq here (only_if (not (are_same before here.three)) replicas_changed) (go_on_or_drop here before)
    (only_if_own here (not (are_same before here.three)) replicas_changed (replicas_changed_own here))
    (go_on_or_drop_own here before) l

-- ---- a restart

push_if_settled_own : (here : Here) (r : ℕ) → SaysOwn here (push_if_settled here r)
push_if_settled_own here r l =
    only_if_own here (is_replica_here here && (is_settled here l && holds_any l)) (begin_push here r)
    (push_own here (peer_now here r)) l

pub other_restarted_own : (here : Here) (r : ℕ) → SaysOwn here (other_restarted here r)
unfolding other_restarted
other_restarted_own here r l =
    only_if_own here (is_among r here.three) (replicas_changed >> (end_push r >> push_if_settled here r))
    (seq here replicas_changed (end_push r >> push_if_settled here r) (replicas_changed_own here)
    (seq here (end_push r) (push_if_settled here r) (λ k. All-nil (IsOf here.tenant)) (push_if_settled_own here r))) l

pub restart_own : (r i : ℕ) (here : Here) → SaysOwn here (at_restart r i here)
restart_own r i here l =
    if_own here.tenant (i == r) (just_opened here l) (other_restarted here r l) (just_opened_own here l)
    (other_restarted_own here r l)

-- ---- by force

pub forced_own : (here : Here) → SaysOwn here (forced here)
unfolding forced
forced_own here l = All-nil (IsOf here.tenant)

-- ---- to whom one that comes up replies

module _ (P : (connection : ℕ) → Request → Type 0) where
  asks_unreplied : (t : List ℕ) (word : Said) → IsAskOf t word → GoesOver P word
  asks_unreplied t (Replies connection bytes) never = absurd never
  asks_unreplied t (Sends message) own = tt
  asks_unreplied t (Tells sending) never = absurd never

  -- whatever it has
  pub just_opened_unreplied : (here : Here) (l : Local) → ReplyOver P (just_opened here l).said
  just_opened_unreplied here l =
      All-weaker (IsAskOf here.tenant) (GoesOver P) (asks_unreplied here.tenant) (just_opened here l).said
      (opened_only here l)
