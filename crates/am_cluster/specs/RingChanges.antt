-- What an instance does where it is opened, where it goes on to another ring, and where another one was restarted.
use Rattle.std.specs.Prelude.{ℕ, Bool, ◌&&◌, not, List, if◌then◌else◌}
use Rattle.std.specs.List.{list_all}
use Rattle.am_item.specs.declared.item.Item.{Item}
use Rattle.am_outlet.specs.Attempts.{cleared}
use Rattle.am_ring.specs.Instances.{is_among}
use Rattle.am_cluster.specs.Accepting.{accepted}
use Rattle.am_cluster.specs.Here.{Here, is_replica_here, others}
use Rattle.am_cluster.specs.Local.{Local, blank, holds_any, is_settled, with_settling}
use Rattle.am_cluster.specs.Operating.{replicas_changed}
use Rattle.am_cluster.specs.Reactions.{Reaction, each, only_if, stays, ◌>>◌}
use Rattle.am_transfer.specs.Settling.{in_new_epoch, to_push, without_push}
use Rattle.am_cluster.specs.Transfers.{asks_first, begin_push}

-- ---- an opening

-- a replica accepts the rows that it finds in its store where it is opened; any other instance drops them
unfoldable pub opened : Here → (rows : List Item) → Local
opened here rows = if is_replica_here here then accepted here.moment rows blank else blank

-- a replica that was joined or restarted asks, where it holds an item
unfoldable pub just_opened : Here → Local → Reaction
just_opened here local = only_if (holds_any local) (asks_first here) local

-- ---- another ring

-- both lists name the same instances
abbrev pub are_same : List ℕ → List ℕ → Bool
are_same one other = list_all (λ i. is_among i other) one && list_all (λ i. is_among i one) other

-- an instance that stops being a replica drops all of the tenant but what it has counted, and its place in the words
unfoldable pub dropped : Local → Local
dropped local = record blank { ledger = local.ledger; desk = cleared local.desk }

-- a settled replica that holds an item pushes its State to these, an unsettled one that holds an item asks
abbrev pub push_or_ask : Here → (receivers : List ℕ) → Local → Reaction
push_or_ask here receivers local =
    only_if (holds_any local)
    (if is_settled here local then each (begin_push here) receivers else asks_first here) local

-- a replica goes on in the new epoch, where the three were these before
abbrev pub go_on : Here → (before : List ℕ) → Local → Reaction
go_on here before local =
    push_or_ask here (to_push (others here) before local.settling)
    (with_settling (in_new_epoch local.settling) local)

abbrev pub go_on_or_drop : Here → (before : List ℕ) → Local → Reaction
go_on_or_drop here before local =
    if is_replica_here here then go_on here before local
    else stays (if is_among here.instance before then dropped local else local)

-- the instance goes by another ring from now on, and the three were these before: where they are others now, its open
-- operations are answered so; then it sends
unfoldable pub ring_learned : Here → (before : List ℕ) → Local → Reaction
ring_learned here before local =
    (only_if (not (are_same before here.three)) replicas_changed >> go_on_or_drop here before) local

-- ---- a restart

-- a push to an earlier incarnation of a restarted instance is over
abbrev pub end_push : (restarted : ℕ) → Local → Reaction
end_push r local = stays (with_settling (without_push r local.settling) local)

-- a settled replica that holds an item begins a push to it
abbrev pub push_if_settled : Here → (restarted : ℕ) → Local → Reaction
push_if_settled here r local =
    only_if (is_replica_here here && (is_settled here local && holds_any local)) (begin_push here r) local

-- another instance was restarted: where this one knows it as one of the three, its open operations are answered that
-- the replicas changed; then it sends
unfoldable pub other_restarted : Here → (restarted : ℕ) → Local → Reaction
other_restarted here r local =
    only_if (is_among r here.three) (replicas_changed >> (end_push r >> push_if_settled here r)) local
