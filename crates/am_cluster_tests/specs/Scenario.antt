-- Scenarios, played through the definitions of the private cluster: each line as the things that happen by it.
use Rattle.std.specs.Prelude.{ℕ, zero, suc, Bool, ◌&&◌, not, ◌==◌, nat_lt, List, [], ◌∷◌, ◌++◌, filter, find, Option, Some, None}
use Rattle.std.specs.List.{filter_map, list_any}
use Rattle.am_http.specs.declared.request.Request.{Request}
use Rattle.am_ring.specs.Instances.{all_instances}
use Rattle.am_cluster.specs.Courses.{course_by, refusal_of}
use Rattle.am_cluster.specs.Events.{Notice, Output, Reply, Send}
use Rattle.am_cluster.specs.Happening.{Happening, Asked, Changed, Delivered, Forced, Lost, Ticked}
use Rattle.am_cluster.specs.Messages.{Message}
use Rattle.am_cluster.specs.PrivateCluster.{Course, PrivateCluster}
use Rattle.am_cluster.specs.Refused.{Refused}
use Rattle.am_cluster.specs.Rings.{newest_epoch}
use Rattle.am_cluster.specs.Roster.{Learns, RingEvent}
use Rattle.am_cluster.specs.Sent.{Sent, is_lost}
use Rattle.am_wire.specs.Messages.{body_number, kind_of_body}
use Rattle.am_cluster_tests.specs.StandIn.{stand_in}

-- a line of a scenario
pub data Line : Type 0 where
  -- the own moment of what follows
  at : (moment : ℕ) → Line
  tick : Line
  -- a whole request over a new connection
  call : (connection instance : ℕ) (request : Request) → Line
  -- every message that wasn't handed over yet, oldest first, until none is left
  pump : Line
  -- the oldest message, not yet handed over, of this kind from one instance to another is kept back
  drop : (kind from to : ℕ) → Line
  -- from now on every message of this kind to this instance is kept back
  block : (kind to : ℕ) → Line
  -- a message by name, handed over before or not
  deliver : (from incarnation to count : ℕ) → Line
  -- the transport gives it up
  lose : (from incarnation to count : ℕ) → Line
  change : (event : RingEvent) → Line
  -- each instance that is behind goes on to the next ring, in rounds, until none is
  learn_all : Line
  force : Line

-- a message by what names it beside its tenant
pub record Name : Type 0 where
  pub from : ℕ
  pub incarnation : ℕ
  pub to : ℕ
  pub count : ℕ

-- the cluster, the own moment, which messages were handed over or kept back, of which kinds and receivers every one
-- is kept back, what was put out, and what was refused
pub record Play : Type 0 where
  pub cluster : PrivateCluster
  pub moment : ℕ
  pub handed : List Name
  pub blocked : List (ℕ × ℕ)
  pub outputs : List Output
  pub refused : List Refused

abbrev pub started : PrivateCluster → Play
started p = record { cluster = p; moment = 0; handed = []; blocked = []; outputs = []; refused = [] }

-- ---- one thing happens

abbrev pub with_course : Course → Play → Play
with_course c play = record play { cluster = c.cluster; outputs = play.outputs ++ c.outputs }

abbrev pub happens_unless : Option Refused → Happening → Play → Play
happens_unless None h play = with_course (course_by stand_in play.cluster h) play
happens_unless (Some refusal) h play = record play { refused = play.refused ++ refusal ∷ [] }

abbrev pub happens : Happening → Play → Play
happens h play = happens_unless (refusal_of play.cluster h) h play

-- ---- messages that wait

abbrev pub name_of : Message → Name
name_of m = record { from = m.from; incarnation = m.incarnation; to = m.to; count = m.count }

abbrev pub is_same : Name → Name → Bool
is_same a b = a.from == b.from && (a.incarnation == b.incarnation && (a.to == b.to && a.count == b.count))

abbrev pub is_blocked : Message → List (ℕ × ℕ) → Bool
is_blocked m blocked = list_any (λ b. body_number (kind_of_body m.body) == b.0 && m.to == b.1) blocked

abbrev pub waits : Play → Sent → Bool
waits play sent =
    not (is_lost play.cluster.clock sent)
    && (not (list_any (is_same (name_of sent.message)) play.handed) && not (is_blocked sent.message play.blocked))

abbrev pub with_handed : Name → Play → Play
with_handed name play = record play { handed = name ∷ play.handed }

abbrev pub hand_over : Name → Play → Play
hand_over n play =
    with_handed n (happens (Delivered n.from n.incarnation n.to n.count play.moment) play)

abbrev pub first_waiting : Play → Option Sent
first_waiting play = find (waits play) play.cluster.sent

-- at most so many
abbrev pub pumped : ℕ → Option Sent → Play → Play
pumped zero next play = play
pumped (suc most) None play = play
pumped (suc most) (Some sent) play =
    let after : Play = hand_over (name_of sent.message) play in pumped most (first_waiting after) after

abbrev pub is_kind : (kind from to : ℕ) → Sent → Bool
is_kind kind from to sent =
    body_number (kind_of_body sent.message.body) == kind && (sent.message.from == from && sent.message.to == to)

abbrev pub kept_back : Option Sent → Play → Play
kept_back None play = play
kept_back (Some sent) play = with_handed (name_of sent.message) play

abbrev pub dropped : (kind from to : ℕ) → Play → Play
dropped kind from to play = kept_back (find (λ s. waits play s && is_kind kind from to s) play.cluster.sent) play

-- ---- rings

abbrev pub is_behind : PrivateCluster → ℕ → Bool
is_behind p i = p.roster.up i && nat_lt (p.roster.known i) (newest_epoch p.roster.rings)

abbrev pub each_learns : List ℕ → Play → Play
each_learns [] play = play
each_learns (i ∷ more) play = each_learns more (happens (Changed (Learns i)) play)

abbrev pub rounds_learn : ℕ → Play → Play
rounds_learn zero play = play
rounds_learn (suc most) play = rounds_learn most (each_learns (filter (is_behind play.cluster) all_instances) play)

-- ---- lines

abbrev pub most_messages : ℕ
most_messages = 200

abbrev pub done : Line → Play → Play
done (at moment) play = record play { moment = moment }
done tick play = happens (Ticked play.moment) play
done (call c i request) play = happens (Asked c i play.moment request) play
done pump play = pumped most_messages (first_waiting play) play
done (drop kind from to) play = dropped kind from to play
done (block kind to) play = record play { blocked = (kind, to) ∷ play.blocked }
done (deliver from k to count) play =
    hand_over (record { from = from; incarnation = k; to = to; count = count }) play
done (lose from k to count) play = happens (Lost from k to count) play
done (change event) play = happens (Changed event) play
done learn_all play = rounds_learn (newest_epoch play.cluster.roster.rings) play
done force play = happens Forced play

abbrev pub played : List Line → Play → Play
played [] play = play
played (line ∷ lines) play = played lines (done line play)

-- ---- what came of it

-- a reply, by its connection
abbrev pub reply_in : Output → Option (ℕ × List ℕ)
reply_in (Reply connection bytes) = Some (connection, bytes)
reply_in (Notice attempt tries url bytes) = None
reply_in (Send message) = None

abbrev pub replies : Play → List (ℕ × List ℕ)
replies play = filter_map reply_in play.outputs
