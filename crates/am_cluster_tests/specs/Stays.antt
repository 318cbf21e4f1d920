-- Three runs in which the words on acknowledged writes are evaluated: what is calm, what was written, who holds it, and
-- whether the list of a later decision has it.
use Rattle.std.specs.Prelude.{ℕ, Bool, false, not, codes, List, [], ◌∷◌, ◌++◌, Option, Some, None}
use Rattle.std.specs.List.{list_all, list_any}
use Rattle.am_item.specs.declared.item.Item.{Item}
use Rattle.am_ring.specs.Replicas.{replicas}
use Rattle.am_cluster.specs.AcknowledgedWrites.{has, is_holder}
use Rattle.am_cluster.specs.Deciding.{Deciding, deciding_at, written_at}
use Rattle.am_cluster.specs.Happening.{Happening, Delivered, Ticked}
use Rattle.am_cluster.specs.PrivateCluster.{PrivateCluster}
use Rattle.am_cluster.specs.Roster.{Crashes, Joins, Restarts}
use Rattle.am_cluster.specs.Sent.{Sent}
use Rattle.am_cluster_tests.specs.Rows.{played_by}
use Rattle.am_cluster_tests.specs.Scenario.{Line, Play, call, change, deliver, drop, first_waiting, force, learn_all}
use Rattle.am_cluster_tests.specs.Scenario.{pump, pumped}
use Rattle.am_cluster_tests.specs.StandIn.{get_alerts, post_alerts, tenant}

-- ---- what is asked of a run

-- the tenant's replicas by ring
abbrev pub by_distance : List ℕ → List ℕ
by_distance = replicas tenant

-- the cluster after some lines, where the tenant's replicas are so by ring
abbrev pub cluster_by : (replicas_by : List ℕ → List ℕ) → List Line → PrivateCluster
cluster_by replicas_by lines = (played_by replicas_by lines).cluster

-- .. and once so many more messages were handed over
abbrev pub handed_over : ℕ → Play → Play
handed_over most play = pumped most (first_waiting play) play

-- the oldest message that waits is handed over; or, where none does, a tick comes
abbrev pub delivery_of : Option Sent → (moment : ℕ) → Happening
delivery_of None moment = Ticked moment
delivery_of (Some s) moment = Delivered s.message.from s.message.incarnation s.message.to s.message.count moment

abbrev pub next_delivery : Play → Happening
next_delivery play = delivery_of (first_waiting play) play.moment

-- what is decided by the next message
abbrev pub next_decision : Play → Option Deciding
next_decision play = deciding_at play.cluster (next_delivery play)

-- something is decided, on a list that has all of these, or none of them
abbrev pub decides_with : Option Deciding → List Item → Bool
decides_with None items = false
decides_with (Some d) items = list_all (λ item. has d.list item) items

abbrev pub decides_without : Option Deciding → List Item → Bool
decides_without None items = false
decides_without (Some d) items = not (list_any (λ item. has d.list item) items)

abbrev pub holds_all : PrivateCluster → List Item → (i : ℕ) → Bool
holds_all p items i = list_all (λ item. is_holder p item i) items

-- ---- a write

-- an alert is posted at 1, its Put to 3 is lost, and 2 has acknowledged it
abbrev pub one_ack : List Line
one_ack =
    call 1 1 (post_alerts (codes "b")) ∷ deliver 1 1 2 1 ∷ deliver 2 1 1 1 ∷ deliver 1 1 1 2 ∷ deliver 1 1 1 4
    ∷ drop 3 1 3 ∷ deliver 1 1 2 5 ∷ deliver 1 1 1 6 ∷ deliver 2 1 1 2 ∷ []

-- what is written once 1 has acknowledged it too: the alert, as each of the three Puts has it
abbrev pub written_by : (replicas_by : List ℕ → List ℕ) → List Item
written_by replicas_by =
    written_at (cluster_by replicas_by one_ack) (Delivered 1 1 1 8 (played_by replicas_by one_ack).moment)

-- .. and so has 1 itself
abbrev pub acknowledged : List Line
acknowledged = one_ack ++ deliver 1 1 1 8 ∷ []

-- ---- three runs

-- 2 crashes and comes again, and has the States of both others. A request at 3 is decided by 2 and 3.
abbrev pub came_again : List Line
came_again = acknowledged ++ change (Crashes 2) ∷ change (Restarts 2) ∷ pump ∷ []

abbrev pub asked_again : (replicas_by : List ℕ → List ℕ) → Play
asked_again replicas_by =
    handed_over 3 (played_by replicas_by (came_again ++ call 2 3 get_alerts ∷ drop 1 3 1 ∷ []))

-- 4 joins in the place of 3, and has the States of both others; then 1 crashes. A request at 4 is decided by 2 and 4.
abbrev pub joined : List Line
joined = acknowledged ++ change (Joins 4) ∷ learn_all ∷ pump ∷ []

abbrev pub asked_joined : (replicas_by : List ℕ → List ℕ) → Play
asked_joined replicas_by =
    handed_over 4 (played_by replicas_by (joined ++ change (Crashes 1) ∷ call 2 4 get_alerts ∷ []))

-- 1 crashes, and then 2, which isn't calm. Both come again, and are settled by force. A request at 3 is decided by
-- them.
abbrev pub one_down : List Line
one_down = acknowledged ++ change (Crashes 1) ∷ []

abbrev pub two_again : List Line
two_again = one_down ++ change (Crashes 2) ∷ change (Restarts 1) ∷ change (Restarts 2) ∷ pump ∷ []

abbrev pub asked_forced : (replicas_by : List ℕ → List ℕ) → Play
asked_forced replicas_by = handed_over 4 (played_by replicas_by (two_again ++ force ∷ call 2 3 get_alerts ∷ []))
