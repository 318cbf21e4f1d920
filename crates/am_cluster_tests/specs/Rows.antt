-- The rows: scenarios, and what comes of them. The ring holds the instances 1, 2 and 3, and the tenant `a` has there
-- the replicas 2, 1 and 3, in this order; with instance 4 they are 2, 4 and 1.
use Rattle.std.specs.Prelude.{ℕ, ◌+◌, Bool, List, [], ◌∷◌, ◌++◌, codes, length, Option, Some, None, ◌&&◌, ◌==◌, if◌then◌else◌}
use Rattle.std.specs.List.{filter_map}
use Rattle.am_http.specs.Replies.{refusal, reply}
use Rattle.am_limit.specs.Limits.{default_limits}
use Rattle.am_ring.specs.Replicas.{replicas}
use Rattle.am_setup.specs.Setup.{Origin}
use Rattle.am_cluster.specs.Messages.{Ack, Answer, Ask, Body, Get, Got, Message, Put, State}
use Rattle.am_cluster.specs.PrivateCluster.{opened_by, stored_at}
use Rattle.am_cluster.specs.Roster.{Crashes, Joins, Leaves, Restarts}
use Rattle.am_cluster.specs.Sent.{Sent}
use Rattle.am_cluster_tests.specs.Scenario.{Line, Play, at, block, call, change, deliver, drop, force, learn_all, lose, played, pump, started, tick}
use Rattle.am_cluster_tests.specs.StandIn.{get_alerts, get_configuration, post_alerts, post_configuration, tenant}

-- the moment at which the rows begin
abbrev pub z : ℕ
z = 1_750_000_000_000

abbrev pub origin_of : (first : ℕ) → Origin
origin_of first = record {
  service_key = [];
  ring = 1 ∷ 2 ∷ 3 ∷ [];
  first = first;
  limits = default_limits;
}

-- what a scenario leaves of the tenant's cluster, which is opened with empty stores, where its replicas are so by ring
abbrev pub played_by : (replicas_by : List ℕ → List ℕ) → List Line → Play
played_by replicas_by lines = played (at z ∷ tick ∷ lines) (started (opened_by replicas_by (origin_of 1) tenant (λ i. [])))

abbrev pub played_out : List Line → Play
played_out lines = played_by (replicas tenant) lines

abbrev pub ok : (body : List ℕ) → List ℕ
ok body = reply 200 body

abbrev pub refused_as : (code : List ℕ) → List ℕ
refused_as code = reply 503 (refusal code)

-- the pieces of States that went from one instance to another: their places, whether the last one, and how many items
abbrev pub piece_of : (from to : ℕ) → Message → Body → Option (ℕ × Bool × ℕ)
piece_of from to m (State incarnation place is_last items) =
    if m.from == from && m.to == to then Some (place, is_last, length items) else None
piece_of from to m (Get operation) = None
piece_of from to m (Answer operation incarnation items) = None
piece_of from to m (Put operation items) = None
piece_of from to m (Ack operation incarnation) = None
piece_of from to m (Ask incarnation) = None
piece_of from to m (Got incarnation place) = None

abbrev pub pieces_between : (from to : ℕ) → Play → List (ℕ × Bool × ℕ)
pieces_between from to play = filter_map (λ (s : Sent). piece_of from to s.message s.message.body) play.cluster.sent

-- ---- an alert is posted and listed

abbrev pub posted : List Line
posted = call 1 1 (post_alerts (codes "b")) ∷ pump ∷ []

abbrev pub posted_and_listed : List Line
posted_and_listed = posted ++ (call 2 1 get_alerts ∷ pump ∷ [])

-- ---- a Put and an Answer are lost

abbrev pub put_lost : List Line
put_lost =
    call 1 1 (post_alerts (codes "b")) ∷ deliver 1 1 2 1 ∷ deliver 2 1 1 1 ∷ deliver 1 1 1 2 ∷ deliver 1 1 1 4
    ∷ drop 3 1 3 ∷ pump ∷ []

abbrev pub put_and_answer_lost : List Line
put_and_answer_lost = put_lost ++ (call 2 1 get_alerts ∷ deliver 1 1 2 9 ∷ drop 2 2 1 ∷ pump ∷ [])

-- ---- repeats add nothing

-- the Get is delivered to instance 2 twice, and each of its two Answers twice
abbrev pub answered_twice : List Line
answered_twice =
    call 1 1 get_alerts ∷ deliver 1 1 2 1 ∷ deliver 1 1 2 1 ∷ deliver 2 1 1 1 ∷ deliver 2 1 1 1 ∷ deliver 2 1 1 2
    ∷ deliver 2 1 1 2 ∷ []

-- the Put is delivered to instance 2, and its Ack twice
abbrev pub acknowledged_by_one : List Line
acknowledged_by_one =
    call 1 1 (post_alerts (codes "b")) ∷ deliver 1 1 2 1 ∷ deliver 2 1 1 1 ∷ deliver 1 1 1 2 ∷ deliver 1 1 1 4
    ∷ deliver 1 1 2 5 ∷ deliver 2 1 1 2 ∷ deliver 2 1 1 2 ∷ []

-- .. and to instance 1
abbrev pub acknowledged_by_two : List Line
acknowledged_by_two = acknowledged_by_one ++ (deliver 1 1 1 6 ∷ deliver 1 1 1 8 ∷ [])

-- ---- the replicas change under an open operation

-- it learns a ring in which another instance is one of the three
abbrev pub replaced : List Line
replaced = call 1 1 get_alerts ∷ change (Joins 4) ∷ learn_all ∷ []

-- one of the three is restarted
abbrev pub restarted : List Line
restarted = call 1 1 get_alerts ∷ change (Crashes 2) ∷ change (Restarts 2) ∷ []

-- ---- two of three crash: a deadline, then settling, then force

abbrev pub two_crash : List Line
two_crash =
    posted ++ (change (Crashes 1) ∷ change (Crashes 2) ∷ call 3 3 get_alerts ∷ pump ∷ at (z + 5000) ∷ tick
    ∷ change (Restarts 1) ∷ change (Restarts 2) ∷ pump ∷ call 4 3 get_alerts ∷ pump ∷ at (z + 10_000) ∷ tick
    ∷ force ∷ call 5 3 get_alerts ∷ pump ∷ [])

-- ---- an instance joins

abbrev pub joined : List Line
joined = posted ++ (change (Joins 4) ∷ learn_all ∷ [])

-- it settles, and serves with one other replica
abbrev pub join_settles : List Line
join_settles = joined ++ (pump ∷ change (Crashes 2) ∷ call 3 4 get_alerts ∷ pump ∷ [])

-- it doesn't settle where no State reaches it
abbrev pub join_unsettled : List Line
join_unsettled =
    joined ++ (block 6 4 ∷ call 3 4 get_alerts ∷ pump ∷ change (Crashes 2) ∷ call 4 4 get_alerts ∷ pump
    ∷ at (z + 5000) ∷ tick ∷ [])

-- who is no replica any more serves by those who are
abbrev pub served_by_another : List Line
served_by_another = joined ++ (pump ∷ call 3 3 get_alerts ∷ pump ∷ [])

-- before a ring is learned, each goes by the one that it knows
abbrev pub not_yet_learned : List Line
not_yet_learned =
    posted ++ (change (Joins 4) ∷ call 3 1 get_alerts ∷ pump ∷ call 4 4 get_alerts ∷ pump ∷ at (z + 5000) ∷ tick
    ∷ learn_all ∷ pump ∷ call 5 4 get_alerts ∷ pump ∷ [])

-- ---- a State in two pieces

-- 65 bytes
abbrev pub many : List ℕ
many =
    1 ∷ 2 ∷ 3 ∷ 4 ∷ 5 ∷ 6 ∷ 7 ∷ 8 ∷ 9 ∷ 10 ∷ 11 ∷ 12 ∷ 13 ∷ 14 ∷ 15 ∷ 16 ∷ 17 ∷ 18 ∷ 19 ∷ 20 ∷ 21 ∷ 22 ∷ 23 ∷ 24 ∷ 25
    ∷ 26 ∷ 27 ∷ 28 ∷ 29 ∷ 30 ∷ 31 ∷ 32 ∷ 33 ∷ 34 ∷ 35 ∷ 36 ∷ 37 ∷ 38 ∷ 39 ∷ 40 ∷ 41 ∷ 42 ∷ 43 ∷ 44 ∷ 45 ∷ 46 ∷ 47 ∷ 48
    ∷ 49 ∷ 50 ∷ 51 ∷ 52 ∷ 53 ∷ 54 ∷ 55 ∷ 56 ∷ 57 ∷ 58 ∷ 59 ∷ 60 ∷ 61 ∷ 62 ∷ 63 ∷ 64 ∷ 65 ∷ []

abbrev pub many_joined : List Line
many_joined =
    call 1 1 (post_alerts many) ∷ pump ∷ change (Joins 4) ∷ learn_all ∷ block 5 1 ∷ block 5 2 ∷ []

-- the second piece is lost, or the first one
abbrev pub second_piece_lost : List Line
second_piece_lost = many_joined ++ (deliver 2 1 4 3 ∷ drop 6 2 4 ∷ pump ∷ at (z + 10_000) ∷ tick ∷ [])

abbrev pub first_piece_lost : List Line
first_piece_lost = many_joined ++ (drop 6 2 4 ∷ pump ∷ at (z + 10_000) ∷ tick ∷ [])

-- ---- acknowledged writes stay

-- a replica that has a write crashes and comes again, where another one never had it
abbrev pub write_survives : List Line
write_survives =
    put_lost ++ (change (Crashes 2) ∷ change (Restarts 2) ∷ pump ∷ call 2 3 get_alerts ∷ drop 1 3 1 ∷ pump ∷ [])

-- a configuration survives a stop of all
abbrev pub text : List ℕ
text = codes "{}"

abbrev pub configuration_put_lost : List Line
configuration_put_lost =
    call 1 1 (post_configuration text) ∷ deliver 1 1 2 1 ∷ deliver 2 1 1 1 ∷ deliver 1 1 1 2 ∷ deliver 1 1 1 4
    ∷ drop 3 1 3 ∷ pump ∷ []

abbrev pub restarted_by : (replicas_by : List ℕ → List ℕ) → List Line → List Line → Play
restarted_by replicas_by before after =
    played after (started (opened_by replicas_by (origin_of 2) tenant (stored_at (played_by replicas_by before).cluster)))

abbrev pub stopped_and_started : List Line → List Line → Play
stopped_and_started before after = restarted_by (replicas tenant) before after

abbrev pub read_after_stop : List Line
read_after_stop = call 2 3 get_configuration ∷ drop 1 3 1 ∷ pump ∷ []

-- answers and Acks of an earlier incarnation count for nothing
abbrev pub old_answers : List Line
old_answers =
    change (Joins 4) ∷ learn_all ∷ pump ∷ call 1 3 (post_alerts (codes "b"))
    ∷ deliver 3 1 2 1 ∷ deliver 3 1 1 3 ∷ deliver 2 1 3 1 ∷ deliver 1 1 3 1 ∷ deliver 3 1 2 4 ∷ deliver 3 1 1 6
    ∷ change (Crashes 3) ∷ change (Restarts 3) ∷ call 2 3 (post_alerts (codes "d"))
    ∷ deliver 2 1 3 1 ∷ deliver 1 1 3 1 ∷ deliver 2 1 3 2 ∷ deliver 1 1 3 2 ∷ at (z + 5000) ∷ tick ∷ []

-- ---- refusals

abbrev pub leave_of_three : List Line
leave_of_three = change (Leaves 1) ∷ []

-- a message is lost a minute after it was sent
abbrev pub lost_in_time : List Line
lost_in_time =
    call 1 1 get_alerts ∷ at (z + 59_999) ∷ tick ∷ deliver 1 1 2 1 ∷ at (z + 60_000) ∷ tick ∷ deliver 1 1 2 1 ∷ []

-- a message that was given up is lost
abbrev pub given_up : List Line
given_up = call 1 1 get_alerts ∷ lose 1 1 2 1 ∷ deliver 1 1 2 1 ∷ lose 1 1 2 1 ∷ []
