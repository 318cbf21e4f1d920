-- A cluster whose ring is as it was opened, and in which no instance has come back: it has the replicas settled from
-- the beginning, and sends nothing so that they settle.
use Rattle.std.specs.Prelude.{◌≡◌, ℕ, Bool, true, false, nat_lt, List}
use Rattle.std.specs.List.{list_any}
use Rattle.am_ring.specs.Instances.{is_among}
use Rattle.am_cluster.specs.Happening.{Happening, Asked, Changed, Delivered, Forced, Limited, Lost, Ticked, Tried}
use Rattle.am_cluster.specs.Messages.{Ack, Answer, Ask, Body, Get, Got, Put, State}
use Rattle.am_cluster.specs.PrivateCluster.{PrivateCluster}
use Rattle.am_cluster.specs.Rings.{newest_epoch}
use Rattle.am_cluster.specs.Roster.{Crashes, Joins, Learns, Leaves, Restarts, RingEvent, has_stayed, three_at}
use Rattle.am_cluster.specs.Sent.{Sent}
use Rattle.am_transfer.specs.Settling.{untouched}

-- a message by which instances settle
abbrev pub is_of_settling : Body → Bool
is_of_settling (Ask incarnation) = true
is_of_settling (State incarnation place is_last items) = true
is_of_settling (Got incarnation place) = true
is_of_settling (Get operation) = false
is_of_settling (Answer operation incarnation items) = false
is_of_settling (Put operation items) = false
is_of_settling (Ack operation incarnation) = false

-- each replica by the ring that an instance knows has stayed one from the opening on, and no other instance has; none
-- has a ring to learn; nothing came of a State, and none was sent or asked for
pub record IsSteady (p : PrivateCluster) : Type 0 where
  pub stayed : (i : ℕ) → has_stayed p.replicas_by p.roster i ≡ is_among i (three_at p.replicas_by p.roster i)
  pub newest : (i : ℕ) → nat_lt (p.roster.known i) (newest_epoch p.roster.rings) ≡ false
  pub settling : (i : ℕ) → (p.at i).settling ≡ untouched
  pub sent : list_any (λ (s : Sent). is_of_settling s.message.body) p.sent ≡ false

-- an instance joins, leaves or is restarted. (A crash leaves the ring and the incarnations as they are.)
abbrev pub is_move : RingEvent → Bool
is_move (Joins i) = true
is_move (Leaves i) = true
is_move (Restarts i) = true
is_move (Crashes i) = false
is_move (Learns i) = false

abbrev pub moves : Happening → Bool
moves (Changed event) = is_move event
moves (Asked connection i moment request) = false
moves (Limited limits) = false
moves (Ticked moment) = false
moves (Tried i k number tries moment status) = false
moves (Delivered from k to count moment) = false
moves (Lost from k to count) = false
moves Forced = false

-- such a thing is among what happens
abbrev pub any_moves : List Happening → Bool
any_moves hs = list_any moves hs
