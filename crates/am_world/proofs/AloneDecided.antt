-- What a message decides at an instance, in the tenant's private cluster and there; and that the reaction to it is the
-- same whatever else would be decided.
use Rattle.std.proofs.Common.{◌≡◌, ◌∙◌, ℕ, ◌==◌, not, Bool, true, false, List, Option, None, Some, IfSome, option_map}
use Rattle.std.proofs.Common.{option_and_then, refl, sym, ap, if◌then◌else◌}
use Rattle.am_cluster.specs.Arriving.{Arrival, Counted, Dropped, Taken, arrival, arrive, arrive_as, does, is_meant}
use Rattle.am_cluster.specs.Deciding.{Deciding, Reached, deciding_by, deciding_on, unless_dropped}
use Rattle.am_cluster.specs.Here.{Here}
use Rattle.am_cluster.specs.Local.{Local}
use Rattle.am_cluster.specs.Messages.{Ack, Answer, Ask, Body, Get, Got, Message, Put, State, is_answer}
use Rattle.am_cluster.specs.Operating.{Decide, answer_by, answered, carry_out, list_for}
use Rattle.am_cluster.specs.Operations.{Answered, Operation, operation_of}
use Rattle.am_cluster.specs.Reactions.{Reaction, in_turn, where_some}
use Rattle.am_cluster.specs.Transfers.{asks_first}
use Rattle.am_item.specs.declared.item.Item.{Item}
use Rattle.am_instance.specs.Site.{decides, decides_on}

-- the operation that a message decides, and the list on which it does, where the instance is meant
abbrev pub decided_in : Here → Message → Local → Option (Operation × List Item)
decided_in here message local =
    if is_meant here message message.body local then decides message message.body local else None

-- an operation that is decided so
abbrev pub as_deciding : Here → Local → Operation × List Item → Deciding
as_deciding here local d = record { here = here; local = local; operation = d.0; list = d.1 }

-- ---- what is decided

-- what becomes of a message, by whether the instance is meant and knows its epoch
abbrev arrives_as : (meant same : Bool) → Body → Arrival
arrives_as meant same body =
    if not meant then Dropped else if same then Taken else if is_answer body then Counted else Dropped

abbrev or_dropped : Arrival → Option Deciding → Option Deciding
or_dropped Dropped o = None
or_dropped Counted o = o
or_dropped Taken o = o

module _ (here : Here) (message : Message) (local : Local) where
  none_dropped : (a : Arrival) → or_dropped a None ≡ None
  none_dropped Dropped = refl
  none_dropped Counted = refl
  none_dropped Taken = refl

  by_arrival : (a : Arrival) → option_and_then (λ (r : Reached). deciding_by r r.message.body)
      (unless_dropped a (record { here = here; local = local; message = message }))
      ≡ or_dropped a (deciding_by (record { here = here; local = local; message = message }) message.body)
  by_arrival Dropped = refl
  by_arrival Counted = refl
  by_arrival Taken = refl

  -- the operation is found, or not
  by_operation : (answer : Answered) (o : Option Operation)
      → option_and_then (λ (x : Operation). option_map
      (deciding_on (record { here = here; local = local; message = message }) x) (list_for x.stage answer)) o
      ≡ option_map (as_deciding here local)
      (option_and_then (λ (x : Operation). option_map (λ list. (x, list)) (list_for x.stage answer)) o)
  by_operation answer None = refl
  by_operation answer (Some x) = by_list (list_for x.stage answer)
    where
      by_list : (l : Option (List Item))
          → option_map (deciding_on (record { here = here; local = local; message = message }) x) l
          ≡ option_map (as_deciding here local) (option_map (λ list. (x, list)) l)
      by_list None = refl
      by_list (Some list) = refl

  none_meant : (b : Bool) (o : Option (Operation × List Item)) → o ≡ None
      → None ≡ option_map (as_deciding here local) (if b then o else None)
  none_meant true o e = ap (option_map (as_deciding here local)) (sym e)
  none_meant false o e = refl

  nothing_by : (a : Arrival) (b : Bool)
      → or_dropped a None ≡ option_map (as_deciding here local) (if b then None else None)
  nothing_by a b = none_dropped a ∙ none_meant b None refl

  by_body : (meant same : Bool) (body : Body)
      → or_dropped (arrives_as meant same body)
      (deciding_by (record { here = here; local = local; message = message }) body)
      ≡ option_map (as_deciding here local) (if meant then decides message body local else None)
  by_body true true (Answer number incarnation items) =
      by_operation (record { from = message.from; items = items }) (operation_of number message.epoch local.operations)
  by_body true false (Answer number incarnation items) =
      by_operation (record { from = message.from; items = items }) (operation_of number message.epoch local.operations)
  by_body false same (Answer number incarnation items) = refl
  by_body meant same (Get operation) = nothing_by (arrives_as meant same (Get operation)) meant
  by_body meant same (Put operation items) = nothing_by (arrives_as meant same (Put operation items)) meant
  by_body meant same (Ack operation incarnation) = nothing_by (arrives_as meant same (Ack operation incarnation)) meant
  by_body meant same (Ask incarnation) = nothing_by (arrives_as meant same (Ask incarnation)) meant
  by_body meant same (State incarnation place is_last items) =
      nothing_by (arrives_as meant same (State incarnation place is_last items)) meant
  by_body meant same (Got incarnation place) = nothing_by (arrives_as meant same (Got incarnation place)) meant

  -- as the private cluster says it
  pub deciding_in : option_and_then (λ (r : Reached). deciding_by r r.message.body)
      (unless_dropped (arrival here message local) (record { here = here; local = local; message = message }))
      ≡ option_map (as_deciding here local) (decided_in here message local)
  deciding_in =
      by_arrival (arrival here message local)
      ∙ by_body (is_meant here message message.body local) (message.epoch == here.epoch) message.body

-- ---- what comes of it

module _ (d e : Decide) (here : Here) (message : Message) (local : Local) where
  answered_alike : (number epoch : ℕ) (answer : Answered)
      → IfSome (decides_on number epoch answer local.operations)
      (λ x. d here x.0.request x.1 local ≡ e here x.0.request x.1 local)
      → answered d here number epoch answer local ≡ answered e here number epoch answer local
  unfolding answered
  answered_alike number epoch answer alike = by_operation_of (operation_of number epoch local.operations) alike
    where
      by_list : (x : Operation) (l : Option (List Item))
          → IfSome {T = Operation × List Item} (option_map (λ list. (x, list)) l)
          (λ y. d here y.0.request y.1 local ≡ e here y.0.request y.1 local)
          → answer_by d here x answer l local ≡ answer_by e here x answer l local
      by_list x None alike = refl
      by_list x (Some list) alike = ap (λ decision. carry_out here x decision local) alike

      by_operation_of : (o : Option Operation)
          → IfSome {T = Operation × List Item}
          (option_and_then (λ (x : Operation). option_map (λ list. (x, list)) (list_for x.stage answer)) o)
          (λ y. d here y.0.request y.1 local ≡ e here y.0.request y.1 local)
          → where_some (λ (x : Operation). answer_by d here x answer (list_for x.stage answer)) o local
          ≡ where_some (λ (x : Operation). answer_by e here x answer (list_for x.stage answer)) o local
      by_operation_of None alike = refl
      by_operation_of (Some x) alike = by_list x (list_for x.stage answer) alike

  does_alike : (body : Body) → IfSome (decides message body local)
      (λ x. d here x.0.request x.1 local ≡ e here x.0.request x.1 local)
      → does d here message body local ≡ does e here message body local
  does_alike (Answer number incarnation items) alike =
      answered_alike number message.epoch (record { from = message.from; items = items }) alike
  does_alike (Get operation) alike = refl
  does_alike (Put operation items) alike = refl
  does_alike (Ack operation incarnation) alike = refl
  does_alike (Ask incarnation) alike = refl
  does_alike (State incarnation place is_last items) alike = refl
  does_alike (Got incarnation place) alike = refl

  pub arrive_alike : IfSome (decided_in here message local)
      (λ x. d here x.0.request x.1 local ≡ e here x.0.request x.1 local)
      → arrive d here message local ≡ arrive e here message local
  unfolding arrive
  arrive_alike alike = by_meant (is_meant here message message.body local) (message.epoch == here.epoch) alike
    where
      taken_alike : does d here message message.body local ≡ does e here message message.body local
          → (a : Arrival) → arrive_as a d here message local ≡ arrive_as a e here message local
      taken_alike same Dropped = refl
      taken_alike same Counted = same
      taken_alike same Taken = ap (λ (r : Reaction). in_turn r (asks_first here)) same

      by_meant : (meant same : Bool) → IfSome (if meant then decides message message.body local else None)
          (λ x. d here x.0.request x.1 local ≡ e here x.0.request x.1 local)
          → arrive_as (arrives_as meant same message.body) d here message local
          ≡ arrive_as (arrives_as meant same message.body) e here message local
      by_meant true same alike =
          taken_alike (does_alike message.body alike) (arrives_as true same message.body)
      by_meant false same alike = refl
