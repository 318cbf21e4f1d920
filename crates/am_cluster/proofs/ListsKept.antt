-- What of the lists of States is kept by a reaction, and that several reactions, one after the other, keep it.
use Rattle.std.proofs.Common.{◌≡◌, ℕ, Bool, true, false, List, [], ◌∷◌, ◌++◌, Option, Some, None, if◌then◌else◌, is_some, refl, sym, ap, subst, ◌∙◌}
use Rattle.am_item.specs.declared.item.Item.{Item}
use Rattle.std.specs.Prelude.{◌⊎◌, cond, nat_le, option_map}
use Rattle.std.proofs.lemmas.Bool.{false≢true}
use Rattle.std.proofs.Common.{inl, inr}
use Rattle.am_cluster.proofs.Counted.{messages-append}
use Rattle.am_cluster.specs.Here.{Here}
use Rattle.am_cluster.specs.Local.{Local}
use Rattle.am_cluster.specs.Messages.{Ack, Answer, Ask, Body, Get, Got, Message, Put, State}
use Rattle.am_transfer.specs.Peers.{ByPeer, Peer, at_peer, peer}
use Rattle.am_transfer.specs.Pieces.{Piece, SentList, cut, pieces_from}
use Rattle.am_cluster.specs.Reactions.{Reaction, each, messages_in, only_if, stays, where_some, ◌>>◌}

-- ---- what is kept and sent

-- the list that is kept for a receiver
abbrev pub list_at : Peer → Local → Option (List Item)
list_at q l = option_map (λ (s : SentList). s.items) (at_peer q l.settling.lists)

-- a piece is one of these
abbrev pub Within : Piece → List Piece → Type 0
Within x [] = ⊥
Within x (y ∷ ys) = (y ≡ x) ⊎ Within x ys

-- a message, where it is a piece of a State, is one of the known epoch, of the list that is kept for its receiver
abbrev pub cut_in : Here → Local → Message → Body → Type 0
cut_in here k m (State incarnation place is_last items) =
    (m.epoch ≡ here.epoch) × ((list : List Item) × (list_at (peer m.to incarnation) k ≡ Some list)
    × Within (record { place = place; is_last = is_last; items = items }) (cut list))
cut_in here k m (Get operation) = Unit {0}
cut_in here k m (Answer operation incarnation items) = Unit {0}
cut_in here k m (Put operation items) = Unit {0}
cut_in here k m (Ack operation incarnation) = Unit {0}
cut_in here k m (Ask incarnation) = Unit {0}
cut_in here k m (Got incarnation place) = Unit {0}

abbrev pub AreCut : Here → Local → List Message → Type 0
AreCut here k [] = Unit {0}
AreCut here k (m ∷ ms) = cut_in here k m m.body × AreCut here k ms

-- each list that was kept is kept
abbrev pub Keeps : Local → Local → Type 0
Keeps l k = (q : Peer) (list : List Item) → list_at q l ≡ Some list → list_at q k ≡ Some list

pub cut_later : (here : Here) (l k : Local) (m : Message) (body : Body) → Keeps l k → cut_in here l m body → cut_in here k m body
cut_later here l k m (State incarnation place is_last items) keeps e = (e.0, (e.1.0, keeps (peer m.to incarnation) e.1.0 e.1.1, e.1.2))
cut_later here l k m (Get operation) keeps e = e
cut_later here l k m (Answer operation incarnation items) keeps e = e
cut_later here l k m (Put operation items) keeps e = e
cut_later here l k m (Ack operation incarnation) keeps e = e
cut_later here l k m (Ask incarnation) keeps e = e
cut_later here l k m (Got incarnation place) keeps e = e

pub all_later : (here : Here) (l k : Local) (ms : List Message) → Keeps l k → AreCut here l ms → AreCut here k ms
all_later here l k [] keeps e = tt
all_later here l k (m ∷ ms) keeps e = (cut_later here l k m m.body keeps e.0, all_later here l k ms keeps e.1)

pub cut-append : (here : Here) (k : Local) (ms ns : List Message) → AreCut here k ms → AreCut here k ns → AreCut here k (ms ++ ns)
cut-append here k [] ns e d = d
cut-append here k (m ∷ ms) ns e d = (e.0, cut-append here k ms ns e.1 d)

-- all of these are
abbrev pub AllWithin : List Piece → List Piece → Type 0
AllWithin [] all = Unit {0}
AllWithin (p ∷ ps) all = Within p all × AllWithin ps all

pub more_within : (ps all : List Piece) (p : Piece) → AllWithin ps all → AllWithin ps (p ∷ all)
more_within [] all p e = tt
more_within (x ∷ ps) all p e = (inr e.0, more_within ps all p e.1)

pub kept_within : (t : Bool) (p : Piece) (ps all : List Piece) → AllWithin ps all → AllWithin (cond t (p ∷ ps) ps) (p ∷ all)
kept_within true p ps all e = (inl refl, more_within ps all p e)
kept_within false p ps all e = more_within ps all p e

pub from_within : (place : ℕ) (ps : List Piece) → AllWithin (pieces_from place ps) ps
from_within place [] = tt
from_within place (p ∷ ps) = kept_within (nat_le place p.place) p (pieces_from place ps) ps (from_within place ps)

pub none_some : {A : Type 0} {x : A} → None ≡ Some x → ⊥
none_some e = false≢true (ap is_some e)

-- ---- one reaction

-- it keeps its lists, and what it sends is of lists that it keeps then
abbrev pub IsListed : Here → Local → Reaction → Type 0
IsListed here l r = Keeps l r.local × AreCut here r.local (messages_in r.said)

abbrev pub AreListed : Here → (Local → Reaction) → Type 0
AreListed here f = (l : Local) → IsListed here l (f l)

-- nothing is sent, and the lists are as they were
pub still : (here : Here) (l : Local) (r : Reaction) → r.local.settling.lists ≡ l.settling.lists → messages_in r.said ≡ [] → IsListed here l r
still here l r same none = (
  λ q list e. ap (λ (ls : ByPeer SentList). option_map (λ (s : SentList). s.items) (at_peer q ls)) same ∙ e,
  subst (AreCut here r.local) (sym none) tt,
)

pub stays_listed : (here : Here) → AreListed here stays
stays_listed here l = still here l (stays l) refl refl

pub seq : (here : Here) (f g : Local → Reaction) → AreListed here f → AreListed here g → AreListed here (f >> g)
seq here f g cf cg l =
    let first = cf l in
    let next = cg (f l).local in (
      λ q list e. next.0 q list (first.0 q list e),
      subst (AreCut here (g (f l).local).local) (sym (messages-append (f l).said (g (f l).local).said))
          (cut-append here (g (f l).local).local (messages_in (f l).said) (messages_in (g (f l).local).said)
          (all_later here (f l).local (g (f l).local).local (messages_in (f l).said) next.0 first.1) next.1),
    )

pub each_listed : {A : Type 0} (here : Here) (f : A → Local → Reaction) (xs : List A) → ((x : A) → AreListed here (f x))
    → AreListed here (each f xs)
each_listed here f [] c l = still here l (stays l) refl refl
each_listed here f (x ∷ xs) c l = seq here (f x) (each f xs) (c x) (each_listed here f xs c) l

pub if_listed : (here : Here) (t : Bool) (f g : Local → Reaction) → AreListed here f → AreListed here g
    → (l : Local) → IsListed here l (if t then f l else g l)
if_listed here true f g cf cg l = cf l
if_listed here false f g cf cg l = cg l

pub chosen_listed : (here : Here) (t : Bool) (f g : Local → Reaction) → AreListed here f → AreListed here g
    → AreListed here (if t then f else g)
chosen_listed here true f g cf cg l = cf l
chosen_listed here false f g cf cg l = cg l

pub only_if_listed : (here : Here) (t : Bool) (f : Local → Reaction) → AreListed here f → AreListed here (only_if t f)
only_if_listed here t f c l = if_listed here t f stays c (stays_listed here) l

pub where_some_listed : {A : Type 0} (here : Here) (f : A → Local → Reaction) (o : Option A) → ((x : A) → AreListed here (f x))
    → AreListed here (where_some f o)
where_some_listed here f None c l = still here l (stays l) refl refl
where_some_listed here f (Some x) c l = c x l
