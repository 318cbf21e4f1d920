-- What an instance keeps of a tenant for settling.
use Rattle.std.specs.Prelude.{ℕ, ◌+◌, min, Bool, false, ◌&&◌, not, ◌==◌, List, [], ◌∷◌, Option, Some, None, is_some}
use Rattle.std.specs.Prelude.{if◌then◌else◌}
use Rattle.am_item.specs.declared.item.Item.{Item}
use Rattle.am_ring.specs.Instances.{is_among}
use Rattle.am_text.specs.Moment.{greatest_moment}
use Rattle.am_transfer.specs.Peers.{Peer, at_number, peer}
use Rattle.am_transfer.specs.Pieces.{pieces_to_send}
use Rattle.am_transfer.specs.Settling.{Push, Settling, asking, goes_to, is_merged, lacking, list_for, named_in}
use Rattle.am_transfer.specs.Settling.{pushed, untouched}
use Rattle.am_transfer.specs.declared.again.Again.{Again}
use Rattle.am_transfer.specs.declared.again.Again.TheVariants as again

-- how far it has come, and whom it asked last: these it asks again, as long as their States are lacking
pub record Progress : Type 0 where
  pub settling : Settling
  pub asked : List ℕ

abbrev pub nothing_yet : Progress
nothing_yet = record { settling = untouched; asked = [] }

-- how far it has come changes so
abbrev pub on : (Settling → Settling) → Progress → Progress
on change p = record p { settling = change p.settling }

-- ---- a Got

-- it is meant: it comes from the incarnation to which the State now goes, where the receiver's present one is this
abbrev pub is_got : (from : Peer) → (present : ℕ) → Settling → Bool
is_got from present s = from.incarnation == goes_to from.instance present s

-- .. and then it names a place
abbrev pub after_got : (from : Peer) → (present place : ℕ) → Settling → Settling
after_got from present place s = if is_got from present s then named_in from place s else s

-- ---- what is sent again

-- a State that is pushed and an Ask are sent again so many milliseconds after they were last sent
abbrev pub again_after : ℕ
again_after = 10_000

abbrev pub again_at : (last : ℕ) → ℕ
again_at last = min (last + again_after) greatest_moment

-- when an Ask is sent again to an instance, which is one of these or not: as long as its State is lacking
abbrev pub ask_due : Option ℕ → (is_asked is_there : Bool) → Option ℕ
ask_due None is_asked is_there = None
ask_due (Some last) is_asked is_there = if is_asked && not is_there then Some (again_at last) else None

-- a State that is pushed to it, or else an Ask
abbrev pub push_due : Option Push → (ask : Option ℕ) → Option ℕ
push_due (Some push) ask = Some (again_at push.last)
push_due None ask = ask

-- when something is sent again to an instance
unfoldable pub due_of : ℕ → Progress → Option ℕ
due_of i p =
    push_due (at_number i p.settling.pushes) (ask_due p.settling.asked_at (is_among i p.asked) (is_merged p.settling i))

-- ---- Asks

-- whom an unsettled replica asks first: those of the others whose State is lacking, once in an epoch and incarnation
abbrev pub to_ask : (others : List ℕ) → Settling → List ℕ
to_ask others s = if is_some s.asked_at then [] else lacking others s

-- it asked these, at a moment
abbrev pub asked_of : (receivers others : List ℕ) → (moment : ℕ) → Progress → Progress
asked_of [] others moment p = p
asked_of (i ∷ receivers) others moment p = record { settling = asking moment p.settling; asked = others }

abbrev pub first_asked : (moment : ℕ) → (others : List ℕ) → Progress → Progress
first_asked moment others p = asked_of (to_ask others p.settling) others moment p

-- ---- what is sent again, now

-- an Ask is sent again to an instance, as long as its State is lacking
abbrev pub is_asking : (to : ℕ) → Progress → Bool
is_asking to p = is_some p.settling.asked_at && (is_among to p.asked && not (is_merged p.settling to))

abbrev pub again_by : Option Push → (is_asked : Bool) → (to : ℕ) → (held : List Item) → Settling → Again
again_by (Some push) is_asked to held s =
    again.State push.incarnation (pieces_to_send false (list_for (peer to push.incarnation) held s))
again_by None is_asked to held s = if is_asked then again.Ask else again.Nothing

-- a State that is pushed to an instance, or else an Ask
abbrev pub again_to : (to : ℕ) → (held : List Item) → Progress → Again
again_to to held p = again_by (at_number to p.settling.pushes) (is_asking to p) to held p.settling

abbrev pub sent_by : Option Push → (is_asked : Bool) → (to moment : ℕ) → (held : List Item) → Settling → Settling
sent_by (Some push) is_asked to moment held s = pushed (peer to push.incarnation) moment held s
sent_by None is_asked to moment held s = if is_asked then asking moment s else s

-- .. and what is kept then
abbrev pub sent_again : (to moment : ℕ) → (held : List Item) → Progress → Progress
sent_again to moment held p =
    on (sent_by (at_number to p.settling.pushes) (is_asking to p) to moment held) p
