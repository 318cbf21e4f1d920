-- Writes that were acknowledged stay: what the words of that claim mean, over what happens to one tenant. It is claimed of
-- the cluster as it is opened, where its stores have earlier rows alone.
use Rattle.std.specs.Prelude.{◌≡◌, ◌⊎◌, ◌<◌, ℕ, ◌+◌, Bool, true, false, IsTrue, ◌&&◌, not, ◌==◌, Contains, IfSome, List}
use Rattle.std.specs.Prelude.{[], ◌∷◌, ◌++◌, length, Option, Some, None, is_some, if◌then◌else◌}
use Rattle.std.specs.List.{list_any, list_all}
use Rattle.std.specs.Ordering.{is_lt}
use Rattle.am_http.specs.declared.request.Request.{Request}
use Rattle.am_item.specs.Key.{has_key, key_of}
use Rattle.am_item.specs.Retirement.{is_retired}
use Rattle.am_item.specs.Stamp.{stamp_cmp}
use Rattle.am_item.specs.declared.item.Item.{Item}
use Rattle.am_ring.specs.Instances.{in_order, is_among}
use Rattle.am_rows.specs.Rows.{is_stored}
use Rattle.am_cluster.specs.Courses.{after, after_all, refusal_of}
use Rattle.am_cluster.specs.Deciding.{Deciding, deciding_at, written_at}
use Rattle.am_cluster.specs.Happening.{Happening, Asked, Changed, Delivered, Forced, Limited, Lost, Ticked, Tried}
use Rattle.am_cluster.specs.Local.{is_settled}
use Rattle.am_setup.specs.Setup.{Origin}
use Rattle.am_transfer.specs.Peers.{peer}
use Rattle.am_transfer.specs.Pieces.{reach_of}
use Rattle.am_cluster.specs.PrivateCluster.{PrivateCluster, here_at, opened, stored_at}
use Rattle.am_cluster.specs.RingChanges.{are_same}
use Rattle.am_cluster.specs.Rings.{newest_epoch}
use Rattle.am_cluster.specs.Roster.{Crashes, Joins, Learns, Leaves, Restarts, RingEvent, ring_now, roster_after}
use Rattle.am_cluster.specs.SentFacts.{StateName, pieces_sent}
use Rattle.am_transfer.specs.Settling.{spans_from}

-- ---- what holds an item

-- an item of the key of another, with its stamp or a greater one
abbrev pub covers : (other item : Item) → Bool
covers other item = has_key (key_of item) other && not (is_lt (stamp_cmp other.stamp item.stamp))

-- a list has the item, or one of its key with its stamp or a greater one
abbrev pub has : List Item → Item → Bool
has list item = list_any (λ other. covers other item) list

-- the tenant's three replicas by the newest ring
abbrev pub three_now : PrivateCluster → List ℕ
three_now p = p.replicas_by (ring_now p.roster)

-- a replica by the ring that it knows, which is up and settled
abbrev pub is_settled_at : PrivateCluster → (i : ℕ) → Bool
is_settled_at p i =
    p.roster.up i && (is_among i (here_at p p.clock i).three && is_settled (here_at p p.clock i) (p.at i))

-- a replica holds the item, itself or a greater one of its key
abbrev pub is_holder : PrivateCluster → Item → (i : ℕ) → Bool
is_holder p item i = is_among i (here_at p p.clock i).three && has (p.at i).held item

-- ---- calm

-- all three replicas by the newest ring are up and settled, and know that ring
abbrev pub are_ready : PrivateCluster → Bool
are_ready p =
    list_all (λ i. is_settled_at p i && p.roster.known i == newest_epoch p.roster.rings) (three_now p)

-- another ring has other replicas of the tenant
abbrev pub changes_three : PrivateCluster → RingEvent → Bool
changes_three p event = not (are_same (three_now p) (p.replicas_by (ring_now (roster_after event p.roster))))

-- a join or a leave that changes the tenant's replicas, or a crash of one of them
abbrev pub needs_calm : PrivateCluster → RingEvent → Bool
needs_calm p (Joins i) = changes_three p (Joins i)
needs_calm p (Leaves i) = changes_three p (Leaves i)
needs_calm p (Crashes i) = is_among i (three_now p)
needs_calm p (Restarts i) = false
needs_calm p (Learns i) = false

-- it comes while all three are ready; nothing makes a replica settled by force
abbrev pub is_calm_at : PrivateCluster → Happening → Bool
is_calm_at p (Changed event) = if needs_calm p event then are_ready p else true
is_calm_at p Forced = false
is_calm_at p (Asked connection i moment request) = true
is_calm_at p (Limited limits) = true
is_calm_at p (Ticked moment) = true
is_calm_at p (Tried i k number tries moment status) = true
is_calm_at p (Delivered from k to count moment) = true
is_calm_at p (Lost from k to count) = true

-- what happens is calm; what is refused changes nothing, and so is calm
abbrev pub is_calm : PrivateCluster → List Happening → Bool
is_calm p [] = true
is_calm p (h ∷ hs) = (if is_some (refusal_of p h) then true else is_calm_at p h) && is_calm (after p h) hs

-- ---- outlived

-- the tick at which something happens, where it is one that isn't refused
abbrev pub tick_at : PrivateCluster → Happening → Option ℕ
tick_at p (Ticked moment) = if is_some (refusal_of p (Ticked moment)) then None else Some moment
tick_at p (Asked connection i moment request) = None
tick_at p (Limited limits) = None
tick_at p (Tried i k number tries moment status) = None
tick_at p (Delivered from k to count moment) = None
tick_at p (Lost from k to count) = None
tick_at p (Changed event) = None
tick_at p Forced = None

-- the clock was told this moment while the happenings came
pub record TicksAt (p : PrivateCluster) (hs : List Happening) (moment : ℕ) : Type 0 where
  pub before : List Happening
  pub tick : Happening
  pub later : List Happening
  pub all : hs ≡ before ++ tick ∷ later
  pub told : tick_at (after_all p before) tick ≡ Some moment

-- an instance held this item at some time while they came
pub record Held (p : PrivateCluster) (hs : List Happening) (item : Item) : Type 0 where
  pub before : List Happening
  pub later : List Happening
  pub all : hs ≡ before ++ later
  pub instance : ℕ
  pub held : Contains ((after_all p before).at instance).held item

-- while they came, an item of its key with its stamp or a greater one was held, and was past its retirement at a tick
pub record IsOutlived (p : PrivateCluster) (hs : List Happening) (item : Item) : Type 0 where
  pub other : Item
  pub covers : IsTrue (covers other item)
  pub held : Held p hs other
  pub moment : ℕ
  pub tick : TicksAt p hs moment
  pub retired : IsTrue (is_retired moment other)

-- ---- acknowledged writes

-- a write of the item is acknowledged by what comes behind these happenings
abbrev pub IsWritten : PrivateCluster → (before : List Happening) → Happening → Item → Type 0
IsWritten p before ack item = Contains (written_at (after_all p before) ack) item

-- the operation that is decided is the one that a request starts which comes behind these happenings: it has the
-- number that is then the next one at the instance, in the incarnation of the instance then
abbrev pub IsStartedBy : PrivateCluster → (before : List Happening) → (instance : ℕ) → Deciding → Type 0
IsStartedBy p before i d =
    (d.here.instance ≡ i) × (d.here.incarnation ≡ (after_all p before).roster.incarnation i)
    × (d.operation.number ≡ ((after_all p before).at i).ledger.operations + 1)

-- The claim: where a write of an item was acknowledged, and later a request came, and later still that was decided,
-- the list on which it was decided has the item or a greater one of its key, unless the item was outlived by then.
abbrev pub WritesStay : PrivateCluster → List Happening → Type 0
WritesStay p hs =
    (before between meanwhile rest : List Happening) (ack decides : Happening) (connection i moment : ℕ)
    (request : Request)
    (item : Item)
    → hs ≡ before ++ ack ∷ (between ++ Asked connection i moment request ∷ (meanwhile ++ decides ∷ rest))
    → IsWritten p before ack item
    → IfSome (deciding_at (after_all p (before ++ ack ∷ (between ++ Asked connection i moment request ∷ meanwhile)))
    decides)
    (λ d. IsStartedBy p (before ++ ack ∷ between) i d
    → IsTrue (has d.list item)
    ⊎ IsOutlived p (before ++ ack ∷ (between ++ Asked connection i moment request ∷ (meanwhile ++ decides ∷ []))) item)

-- .. of what is calm
abbrev pub CalmWritesStay : PrivateCluster → List Happening → Type 0
CalmWritesStay p hs = IsTrue (is_calm p hs) → WritesStay p hs

-- ---- the same over a stop

-- The stop of all instances behind these happenings, and a new start: it falls while all three are ready; the ring is
-- as it stood, in whatever order it is given, with the same service key; and no incarnation is used again.
pub record IsRestart (p : PrivateCluster) (hs : List Happening) (origin : Origin) : Type 0 where
  pub ready : IsTrue (are_ready (after_all p hs))
  pub service_key : origin.service_key ≡ p.service_key
  pub ring : in_order origin.ring ≡ ring_now (after_all p hs).roster
  pub unused : (i : ℕ) → (after_all p hs).roster.incarnation i < origin.first

-- the cluster as it is opened from the stores that were left
abbrev pub reopened : PrivateCluster → List Happening → Origin → PrivateCluster
reopened p hs origin = opened origin p.tenant (stored_at (after_all p hs))

-- The claim: where a write of a silence or a configuration was acknowledged before the stop, the list of every
-- decision behind it has the item or a greater one of its key, unless the item was outlived before the stop or by
-- then.
abbrev pub StoredWritesStay : PrivateCluster → List Happening → Origin → List Happening → Type 0
StoredWritesStay p hs origin more =
    (before rest done left : List Happening) (ack decides : Happening) (item : Item)
    → hs ≡ before ++ ack ∷ rest
    → more ≡ done ++ decides ∷ left
    → IsWritten p before ack item
    → IsTrue (is_stored item)
    → IfSome (deciding_at (after_all (reopened p hs origin) done) decides)
    (λ d. IsTrue (has d.list item)
    ⊎ (IsOutlived p hs item ⊎ IsOutlived (reopened p hs origin) (done ++ decides ∷ []) item))

-- .. of what is calm before and behind the stop
abbrev pub CalmStoredWritesStay : PrivateCluster → List Happening → Origin → List Happening → Type 0
CalmStoredWritesStay p hs origin more =
    IsRestart p hs origin → IsTrue (is_calm p hs) → IsTrue (is_calm (reopened p hs origin) more)
    → StoredWritesStay p hs origin more

-- ---- what keeps it so

-- of any two settled replicas that go by rings of one epoch, one at least holds each item whose write was
-- acknowledged, unless it was outlived
abbrev pub HoldersRemain : PrivateCluster → List Happening → Type 0
HoldersRemain p hs =
    (before rest : List Happening) (ack : Happening) (item : Item) (i j : ℕ)
    → hs ≡ before ++ ack ∷ rest
    → IsWritten p before ack item
    → IsTrue (is_settled_at (after_all p hs) i)
    → IsTrue (is_settled_at (after_all p hs) j)
    → (i ≡ j → ⊥)
    → (after_all p hs).roster.known i ≡ (after_all p hs).roster.known j
    → (IsTrue (is_holder (after_all p hs) item i) ⊎ IsTrue (is_holder (after_all p hs) item j)) ⊎ IsOutlived p hs item

-- .. of what is calm
abbrev pub CalmHoldersRemain : PrivateCluster → List Happening → Type 0
CalmHoldersRemain p hs = IsTrue (is_calm p hs) → HoldersRemain p hs

-- the item was held by the sender of a State when this was first sent, while these happenings came
pub record WasListed (p : PrivateCluster) (hs : List Happening) (name : StateName) (item : Item) : Type 0 where
  pub before : List Happening
  pub sends : Happening
  pub later : List Happening
  pub all : hs ≡ before ++ sends ∷ later
  pub unsent : pieces_sent name (after_all p before).sent ≡ []
  pub sent : 0 < length (pieces_sent name (after (after_all p before) sends).sent)
  pub held : Contains ((after_all p before).at name.from).held item

-- the State of this name came whole at its receiver
abbrev pub is_whole_at : PrivateCluster → StateName → Bool
is_whole_at p name =
    (reach_of (spans_from (peer name.from name.incarnation) (p.at name.to).settling)).is_complete

-- a State is for what its receiver is now: for its incarnation, and of the epoch that it knows
pub record IsPresent (p : PrivateCluster) (name : StateName) : Type 0 where
  pub incarnation : name.to_incarnation ≡ p.roster.incarnation name.to
  pub epoch : name.epoch ≡ p.roster.known name.to

-- An instance that is settled from what happens on has then, of each State that came whole, each item that the sender
-- held when the State was first sent: itself or a greater one of its key, unless it was outlived.
abbrev pub SettledHaveAll : PrivateCluster → List Happening → Type 0
SettledHaveAll p hs =
    (before rest : List Happening) (settles : Happening) (name : StateName) (item : Item)
    → hs ≡ before ++ settles ∷ rest
    → is_settled_at (after_all p before) name.to ≡ false
    → IsTrue (is_settled_at (after (after_all p before) settles) name.to)
    → IsPresent (after (after_all p before) settles) name
    → IsTrue (is_whole_at (after (after_all p before) settles) name)
    → WasListed p before name item
    → IsTrue (has ((after (after_all p before) settles).at name.to).held item)
    ⊎ IsOutlived p (before ++ settles ∷ []) item
