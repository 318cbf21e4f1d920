-- What an Ack makes of a tenant's docket is what it makes of what an instance has.
use Rattle.std.proofs.Common.{◌≡◌, ℕ, true, List, Option, Some, None, refl}
use Rattle.am_cluster.specs.Local.{Local}
use Rattle.am_cluster.specs.Operating.{ack_by, acked, finish, first_ack}
use Rattle.am_cluster.specs.Reactions.{Reaction, where_some}
use Rattle.am_node.specs.Local.{Local as NodeLocal}
use Rattle.am_quorum.specs.Dockets.{Docket, with_operations}
use Rattle.am_quorum.specs.Operations.{acked_by, acked_with, first_ack as first_ack_there, operation_of, ready_by, ready_with, reply_for}
use Rattle.am_quorum.specs.declared.operation.Operation.{Operation}
use Rattle.am_quorum.specs.declared.operation.Stage.{Stage}
use Rattle.am_quorum.specs.declared.operation.Stage.TheVariants.{Undecided, Decided}
use Rattle.am_transfer.specs.Settling.{Settling}
use Rattle.am_site.specs.Locals.{from_rooms}
use Rattle.am_site.specs.Reacting.{replied}

module _ (node : NodeLocal) (d : Docket) (sent : ℕ) (settling : Settling) (from : ℕ) where
  abbrev l : Local
  l = from_rooms node d sent settling

  kept : (o : Operation) (stage : Stage) → first_ack o stage from l ≡ from_rooms node (with_operations (first_ack_there o stage from) d) sent settling
  kept o (Undecided first) = refl
  kept o (Decided reply None) = refl
  kept o (Decided reply (Some first)) = refl

  one_local : (o : Operation) (reply : Option (List ℕ)) → (ack_by o from reply l).local ≡ from_rooms node (with_operations (acked_with from o reply) d) sent settling
  unfolding finish
  one_local o None = kept o o.stage
  one_local o (Some reply) = refl

  one_said : (o : Operation) (reply : Option (List ℕ)) → (ack_by o from reply l).said ≡ replied (ready_with o reply)
  unfolding finish
  one_said o None = refl
  one_said o (Some reply) = refl

  one_fits : (o : Operation) (reply : Option (List ℕ)) → (ack_by o from reply l).fits ≡ true
  unfolding finish
  one_fits o None = refl
  one_fits o (Some reply) = refl

  abbrev reaction : Option Operation → Reaction
  reaction found = where_some (λ (o : Operation). ack_by o from (reply_for o.stage from)) found l

  local_by : (found : Option Operation) → (reaction found).local ≡ from_rooms node (with_operations (acked_by from found) d) sent settling
  local_by None = refl
  local_by (Some o) = one_local o (reply_for o.stage from)

  said_by : (found : Option Operation) → (reaction found).said ≡ replied (ready_by from found)
  said_by None = refl
  said_by (Some o) = one_said o (reply_for o.stage from)

  fits_by : (found : Option Operation) → (reaction found).fits ≡ true
  fits_by None = refl
  fits_by (Some o) = one_fits o (reply_for o.stage from)

  module _ (number epoch : ℕ) where
    pub acked_local : (acked number epoch from l).local ≡ from_rooms node (with_operations (acked_by from (operation_of number epoch d.operations)) d) sent settling
    unfolding acked
    acked_local = local_by (operation_of number epoch d.operations)

    pub acked_said : (acked number epoch from l).said ≡ replied (ready_by from (operation_of number epoch d.operations))
    unfolding acked
    acked_said = said_by (operation_of number epoch d.operations)

    pub acked_fits : (acked number epoch from l).fits ≡ true
    unfolding acked
    acked_fits = fits_by (operation_of number epoch d.operations)
