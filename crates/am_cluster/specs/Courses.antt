-- What comes of each thing that happens to a tenant: one function for each kind, and when it is refused.
use Rattle.std.specs.Prelude.{ℕ, Bool, true, ◌&&◌, ◌==◌, List, [], ◌∷◌, ◌++◌, Option, Some, None, is_some}
use Rattle.std.specs.Prelude.{if◌then◌else◌}
use Rattle.am_rows.specs.Rows.{stored_in}
use Rattle.am_cluster.specs.Arriving.{arrive}
use Rattle.am_cluster.specs.Delivery.{is_awaited, outcome}
use Rattle.am_cluster.specs.Events.{Output}
use Rattle.am_cluster.specs.Happening.{Happening, Asked, Changed, Delivered, Forced, Limited, Lost, Ticked, Tried}
use Rattle.am_cluster.specs.Here.{Here}
use Rattle.am_cluster.specs.Local.{Local}
use Rattle.am_cluster.specs.Messages.{Message}
use Rattle.am_cluster.specs.Moments.{effective, is_refused_tick, is_too_late}
use Rattle.am_cluster.specs.Operating.{Decide, decision_on, start}
use Rattle.am_cluster.specs.PrivateCluster.{Course, PrivateCluster, react, react_all, stopped, unchanged, with_opened}
use Rattle.am_cluster.specs.Reactions.{Reaction}
use Rattle.am_cluster.specs.Refused.{Refused, MomentRefused, NotAwaited, NotSent}
use Rattle.am_cluster.specs.RingChanges.{just_opened, other_restarted, ring_learned}
use Rattle.am_cluster.specs.Roster.{Crashes, Joins, Learns, Leaves, Restarts, RingEvent, ring_event_refusal}
use Rattle.am_cluster.specs.Roster.{roster_after, three_at}
use Rattle.am_cluster.specs.Sent.{posted, with_given_up}
use Rattle.am_cluster.specs.Ticking.{ticked}
use Rattle.am_cluster.specs.Transfers.{forced}

-- ---- the ring and its instances

abbrev pub with_event : RingEvent → PrivateCluster → PrivateCluster
with_event event p = record p { roster = roster_after event p.roster }

-- the restarted instance, and each other one
abbrev pub at_restart : (restarted i : ℕ) → Here → Local → Reaction
at_restart r i here local = if i == r then just_opened here local else other_restarted here r local

-- a change that isn't refused: an instance that leaves takes its rows with it, unless it is down
unfoldable pub changed : RingEvent → PrivateCluster → Course
changed (Joins i) p = react just_opened p.clock i (with_opened i (with_event (Joins i) p))
changed (Leaves i) p = unchanged (stopped i (if p.roster.up i then [] else p.rows i) (with_event (Leaves i) p))
changed (Crashes i) p = unchanged (stopped i (stored_in (p.at i).held) (with_event (Crashes i) p))
changed (Restarts i) p = react_all (at_restart i) p.clock (with_opened i (with_event (Restarts i) p))
changed (Learns i) p =
    react (λ here local. ring_learned here (three_at p.replicas_by p.roster i) local) p.clock i
    (with_event (Learns i) p)

-- ---- messages and outcomes

-- the message of a name that is there to be delivered
abbrev pub posted_in : PrivateCluster → (from incarnation to count : ℕ) → Option Message
posted_in p from k to count = posted p.clock from k to count p.sent

-- a message reaches its receiver
abbrev pub delivered : Decide → (moment : ℕ) → Option Message → PrivateCluster → Course
delivered decide moment None p = unchanged p
delivered decide moment (Some message) p = react (λ here local. arrive decide here message local) moment message.to p

-- the instance is up in that incarnation and awaits the outcome of this try
abbrev pub awaits : PrivateCluster → (instance incarnation number tries : ℕ) → Bool
awaits p i k number tries = p.roster.up i && (p.roster.incarnation i == k && is_awaited number tries (p.at i))

-- ---- one thing happens

abbrev pub refused_unless : Bool → Refused → Option Refused
refused_unless test refusal = if test then None else Some refusal

-- why it is refused; a moment is looked at first
unfoldable pub refusal_of : PrivateCluster → Happening → Option Refused
refusal_of p (Asked connection i moment request) = None
refusal_of p (Limited limits) = None
refusal_of p (Ticked moment) = if is_refused_tick moment p.clock then Some MomentRefused else None
refusal_of p (Tried i k number tries moment status) =
    if is_too_late moment then Some MomentRefused else refused_unless (awaits p i k number tries) NotAwaited
refusal_of p (Delivered from k to count moment) =
    if is_too_late moment then Some MomentRefused
    else refused_unless (is_some (posted_in p from k to count)) NotSent
refusal_of p (Lost from k to count) = refused_unless (is_some (posted_in p from k to count)) NotSent
refusal_of p (Changed event) = ring_event_refusal event p.roster
refusal_of p Forced = None

-- what happens where it isn't refused, and where requests are decided so
unfoldable pub handled_by : Decide → PrivateCluster → Happening → Course
handled_by decide p (Asked connection i moment request) =
    react (λ here local. start here connection request local) (effective moment p.clock) i p
handled_by decide p (Limited limits) = unchanged (record p { limits = limits })
handled_by decide p (Ticked moment) = react_all (λ i. ticked) moment (record p { clock = moment })
handled_by decide p (Tried i k number tries moment status) =
    react (λ here local. outcome here number tries status local) (effective moment p.clock) i p
handled_by decide p (Delivered from k to count moment) =
    delivered decide (effective moment p.clock) (posted_in p from k to count) p
handled_by decide p (Lost from k to count) = unchanged (record p { sent = with_given_up from k to count p.sent })
handled_by decide p (Changed event) = changed event p
handled_by decide p Forced = react_all (λ i. forced) p.clock p

-- what is refused changes nothing
unfoldable pub course_by : Decide → PrivateCluster → Happening → Course
course_by decide p h = if is_some (refusal_of p h) then unchanged p else handled_by decide p h

-- .. where requests are decided as they are
abbrev pub course : PrivateCluster → Happening → Course
course p h = course_by (decision_on p.service_key) p h

-- the cluster afterwards, what it puts out, and whether no count passed the greatest and no message was too long
abbrev pub after : PrivateCluster → Happening → PrivateCluster
after p h = (course p h).cluster

abbrev pub told : PrivateCluster → Happening → List Output
told p h = (course p h).outputs

abbrev pub fits : PrivateCluster → Happening → Bool
fits p h = (course p h).fits

-- one thing after the other
abbrev pub after_all : PrivateCluster → List Happening → PrivateCluster
after_all p [] = p
after_all p (h ∷ hs) = after_all (after p h) hs

abbrev pub told_all : PrivateCluster → List Happening → List Output
told_all p [] = []
told_all p (h ∷ hs) = told p h ++ told_all (after p h) hs

abbrev pub fits_all : PrivateCluster → List Happening → Bool
fits_all p [] = true
fits_all p (h ∷ hs) = fits p h && fits_all (after p h) hs
