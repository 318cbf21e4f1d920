-- What the requests of all calls hold, as one of them changes.
use Rattle.std.proofs.Common.{◌≡◌, ℕ, ◌+◌, ◌*◌, ◌≤◌, List, [], ◌∷◌, Option, Some, None, refl, ap, arith, cond}
use Rattle.std.specs.Prelude.{is_some, count_by}
use Rattle.std.proofs.lemmas.List.Sums.{get_or-le-sum_by, sum_by-cons, sum_by-set}
use Rattle.slab.specs.Slab.{Slab, Updates, get, slab_len, with_value}
use Rattle.am_serve.specs.CallTables.{request_bytes, request_bytes_at, request_bytes_in}
use Rattle.am_serve.specs.declared.call.Call.{Call}
use Rattle.am_serve.specs.declared.call.CallStage.{CallStage}
use Rattle.am_serve.specs.declared.call.CallStage.TheVariants.{Asking, Awaiting}
use Rattle.am_serve.proofs.Sums.{sum_changed, undelivered-bound}
use Rattle.am_serve.proofs.Turns.{within}

pub request-bound : (stage : CallStage) → request_bytes stage ≤ 18446744073709551615
request-bound (Asking request) = undelivered-bound request
request-bound (Awaiting _) = omega arith

module _ {S N : Type 0} where
  -- a call that came adds its request
  pub requests-new : (old new : Slab (Call S N)) (key : ℕ) (call : Call S N) → get old key ≡ None
      → Updates old new key (Some call) → request_bytes_in new.slots ≡ request_bytes_in old.slots + request_bytes call.stage
  requests-new old new key call absent updates =
      omega (
        arith,
        sum_changed request_bytes_at refl old.slots new.slots key updates.others,
        ap request_bytes_at absent,
        ap request_bytes_at updates.changed,
      )

  -- one that left takes it along
  pub requests-gone : (old new : Slab (Call S N)) (key : ℕ) (call : Call S N) → Some call ≡ get old key
      → Updates old new key None → request_bytes_in new.slots + request_bytes call.stage ≡ request_bytes_in old.slots
  requests-gone old new key call there updates =
      omega (
        arith,
        sum_changed request_bytes_at refl old.slots new.slots key updates.others,
        ap request_bytes_at there,
        ap request_bytes_at updates.changed,
      )

  -- what the requests hold as one call changes
  pub requests-with : (table : Slab (Call S N)) (key : ℕ) (old new : Call S N) → Some old ≡ get table key
      → request_bytes_in (with_value table key new).slots + request_bytes old.stage
      ≡ request_bytes_in table.slots + request_bytes new.stage
  requests-with table key old new there =
      omega (
        arith,
        sum_by-set request_bytes_at table.slots key (Some new) None (within table.slots key old there),
        ap request_bytes_at there,
      )

  -- they hold as much as one of them
  pub requests-at : (table : Slab (Call S N)) (key : ℕ) (call : Call S N) → Some call ≡ get table key
      → request_bytes call.stage ≤ request_bytes_in table.slots
  requests-at table key call there =
      omega (
        arith,
        get_or-le-sum_by request_bytes_at table.slots key None (within table.slots key call there),
        ap request_bytes_at there,
      )

  -- as many calls are there as one of them changes
  pub calls-with : (table : Slab (Call S N)) (key : ℕ) (old new : Call S N) → Some old ≡ get table key
      → slab_len (with_value table key new) ≡ slab_len table
  calls-with table key old new there =
      let one : Option (Call S N) → ℕ = λ slot. cond (is_some slot) 1 0 in
      omega (arith, sum_by-set one table.slots key (Some new) None (within table.slots key old there), ap one there)

  -- so many requests hold at most as much as so many numbers of 64 bits
  pub requests-bound : (slots : List (Option (Call S N)))
      → request_bytes_in slots ≤ 18446744073709551615 * count_by is_some slots
  requests-bound [] = omega arith
  requests-bound (None ∷ slots) =
      omega (
        arith,
        requests-bound slots,
        sum_by-cons request_bytes_at None slots,
        sum_by-cons (λ (slot : Option (Call S N)). cond (is_some slot) 1 0) None slots,
      )
  requests-bound (Some call ∷ slots) =
      omega (
        arith,
        requests-bound slots,
        request-bound call.stage,
        sum_by-cons request_bytes_at (Some call) slots,
        sum_by-cons (λ (slot : Option (Call S N)). cond (is_some slot) 1 0) (Some call) slots,
      )
