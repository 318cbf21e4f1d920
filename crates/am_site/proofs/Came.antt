-- What comes of a message that brings no items.
use Rattle.std.proofs.Common.{◌≡◌, ℕ, ◌==◌, Bool, true, false, List, [], ◌∷◌, length, Option, Some, None, ap, refl, sym, subst, ◌∙◌, if◌then◌else◌}
use Rattle.am_api.specs.Replied.{Decision}
use Rattle.am_cluster.specs.Arriving.{answer_get, does, take_put}
use Rattle.am_cluster.specs.Here.{Here}
use Rattle.am_cluster.specs.Local.{Local}
use Rattle.am_cluster.specs.Messages.{Ack, Ask, Body, Get, Got, Message, Put, State}
use Rattle.am_cluster.specs.Operating.{Decide, acked, answer_by, answered, carry_out, finish, first_answer, list_for, stamp, wait_with}
use Rattle.am_cluster.specs.Operations.{Answered, Decided, Operation, Stage, Undecided, operation_of}
use Rattle.am_cluster.specs.Reactions.{Reaction, where_some, ◌>>◌}
use Rattle.am_cluster.specs.Sending.{send_all, send_in}
use Rattle.am_cluster.specs.Transfers.{answer_ask, take_got, take_state}
use Rattle.am_http.specs.Replies.{reply}
use Rattle.am_item.specs.declared.item.Item.{Item}
use Rattle.am_node.specs.Held.{local_of as local_in_node}
use Rattle.am_tenant.specs.Names.{same}
use Rattle.am_transfer.specs.Peers.{peer}
use Rattle.am_site.specs.Arriving.{Takes, no_decision}
use Rattle.am_site.specs.Here.{here_of}
use Rattle.am_site.specs.Locals.{local_of}
use Rattle.am_site.specs.Reacting.{Does, Makes, Moves, Reacts}
use Rattle.am_site.specs.declared.here.Here.{Here as Given}
use Rattle.am_site.specs.declared.said.Said.{Said as Spoken}
use Rattle.am_site.specs.declared.site.Site.{Site}
use Rattle.am_site.proofs.Moving.{moves}
use Rattle.am_site.proofs.Reacting.{quiet}

-- ---- what a message is for is done

module _ (given : Given) (before after : List (List ℕ)) (message : Message) (old new : Site) (x y : List Spoken) where
  abbrev t : List ℕ
  t = given.tenant.now

  abbrev here : Here
  here = here_of given

  pub takes_get : (operation : ℕ) → message.body ≡ Get operation → Reacts t (answer_get here (peer message.from message.incarnation) operation) old new x y
      → Takes given before after message message.body old new x y
  takes_get operation is reacts =
      subst (λ body. Takes given before after message body old new x y) (sym is)
      (record { decision = no_decision; made = tt; moves = moves t (answer_get here (peer message.from message.incarnation) operation) old new x y reacts })

  pub takes_ack : (operation incarnation : ℕ) → message.body ≡ Ack operation incarnation → Reacts t (acked operation message.epoch message.from) old new x y
      → Takes given before after message message.body old new x y
  takes_ack operation incarnation is reacts =
      subst (λ body. Takes given before after message body old new x y) (sym is)
      (record { decision = no_decision; made = tt; moves = moves t (acked operation message.epoch message.from) old new x y reacts })

  pub takes_ask : (incarnation : ℕ) → message.body ≡ Ask incarnation → Reacts t (answer_ask here (peer message.from incarnation)) old new x y
      → Takes given before after message message.body old new x y
  takes_ask incarnation is reacts =
      subst (λ body. Takes given before after message body old new x y) (sym is)
      (record { decision = no_decision; made = tt; moves = moves t (answer_ask here (peer message.from incarnation)) old new x y reacts })

-- .. with items
pub takes_put : (given : Given) (before after : List (List ℕ)) (message : Message) (old new : Site) (x y : List Spoken) (operation : ℕ) (items : List Item)
    → message.body ≡ Put operation items → Moves given.tenant.now (take_put (here_of given) (peer message.from message.incarnation) operation items) old new x y
    → Takes given before after message message.body old new x y
takes_put given before after message old new x y operation items is moves =
    subst (λ body. Takes given before after message body old new x y) (sym is) (record { decision = no_decision; made = tt; moves = moves })

pub takes_state : (given : Given) (before after : List (List ℕ)) (message : Message) (old new : Site) (x y : List Spoken) (incarnation place : ℕ) (is_last : Bool) (items : List Item)
    → message.body ≡ State incarnation place is_last items
    → Moves given.tenant.now (take_state (here_of given) (peer message.from message.incarnation) place is_last items) old new x y
    → Takes given before after message message.body old new x y
takes_state given before after message old new x y incarnation place is_last items is moves =
    subst (λ body. Takes given before after message body old new x y) (sym is) (record { decision = no_decision; made = tt; moves = moves })

pub takes_got : (given : Given) (before after : List (List ℕ)) (message : Message) (old new : Site) (x : List Spoken) (incarnation place : ℕ)
    → message.body ≡ Got incarnation place → Does given.tenant.now (take_got (here_of given) (peer message.from message.incarnation) place) old new
    → Takes given before after message message.body old new x x
takes_got given before after message old new x incarnation place is does =
    let react : Local → Reaction = take_got (here_of given) (peer message.from message.incarnation) place in
    subst (λ body. Takes given before after message body old new x x) (sym is)
    (record { decision = no_decision; made = tt; moves = moves given.tenant.now react old new x x (quiet given.tenant.now react old new x does) })

-- ---- what is held stays

abbrev pub HoldsStill : (Local → Reaction) → Type 0
HoldsStill react = (l : Local) → (react l).local.held ≡ l.held

sends_still : (epoch : ℕ) (here : Here) (to : List ℕ) (body : Body) → HoldsStill (send_all epoch here to body)
unfolding send_in
sends_still epoch here [] body l = refl
sends_still epoch here (i ∷ to) body l = sends_still epoch here to body (send_in epoch here i body l).local

finish_still : (bytes : List ℕ) (o : Operation) → HoldsStill (finish bytes o)
unfolding finish
finish_still bytes o l = refl

either_still : (b : Bool) (f g : Local → Reaction) → HoldsStill f → HoldsStill g → HoldsStill (if b then f else g)
either_still true f g one two = one
either_still false f g one two = two

carried_still : (here : Here) (o : Operation) (d : Decision) → HoldsStill (carry_out here o d)
unfolding carry_out
carried_still here o d l =
    let bytes : List ℕ = reply d.status d.body in
    let waits : Local → Reaction = wait_with bytes o >> send_all o.epoch here here.three (Put o.number d.items) in
    either_still (length d.items == 0) (finish bytes o) waits (finish_still bytes o)
    (λ m. sends_still o.epoch here here.three (Put o.number d.items) (wait_with bytes o m).local) (stamp d l).local

first_still : (o : Operation) (stage : Stage) (answer : Answered) (l : Local) → (first_answer o stage answer l).held ≡ l.held
first_still o (Undecided None) answer l = refl
first_still o (Undecided (Some first)) answer l = refl
first_still o (Decided reply first) answer l = refl

answer_still : (decide : Decide) (here : Here) (o : Operation) (answer : Answered) (list : Option (List Item)) → HoldsStill (answer_by decide here o answer list)
answer_still decide here o answer None l = first_still o o.stage answer l
answer_still decide here o answer (Some list) l = carried_still here o (decide here o.request list l) l

pub answered_still : (decide : Decide) (here : Here) (number epoch : ℕ) (answer : Answered) → HoldsStill (answered decide here number epoch answer)
unfolding answered
answered_still decide here number epoch answer l = by (operation_of number epoch l.operations)
  where
    by : (found : Option Operation) → (where_some (λ (o : Operation). answer_by decide here o answer (list_for o.stage answer)) found l).local.held ≡ l.held
    by None = refl
    by (Some o) = answer_still decide here o answer (list_for o.stage answer) l

pub held_still : (tenant : List ℕ) (react : Local → Reaction) (old new : Site) → HoldsStill react → Makes tenant (λ l. (react l).local) old new
    → (t : List ℕ) → (local_in_node t new.node).held ≡ (local_in_node t old.node).held
unfolding local_of
held_still tenant react old new still makes t = by (same t tenant) (makes t)
  where
    by : (b : Bool) → local_of t new ≡ (if b then (react (local_of t old)).local else local_of t old) → (local_in_node t new.node).held ≡ (local_in_node t old.node).held
    by true is = ap (λ (l : Local). l.held) is ∙ still (local_of t old)
    by false is = ap (λ (l : Local). l.held) is
