-- What all clients of a table hold, as one of them changes.
use Rattle.std.proofs.Common.{◌≡◌, ◌≢◌, ℕ, zero, suc, ◌+◌, ◌*◌, ◌≤◌, List, [], ◌∷◌, get_or, ◌<◌, IfSome, Option, Some, None, refl, ap, arith, sum_by, cond}
use Rattle.std.specs.Prelude.{is_some, count_by}
use Rattle.std.proofs.lemmas.List.Sums.{get_or-le-sum_by, sum_by-cons, sum_by-set}
use Rattle.slab.specs.Slab.{Slab, Updates, get, slab_len, with_value}
use Rattle.am_serve.specs.Giving.{NoneGives, reply_bytes, reply_bytes_at, reply_bytes_in}
use Rattle.am_serve.specs.Outgoings.{undelivered, unless_sent, unsent}
use Rattle.am_serve.specs.Pools.{excess_at, excess_in, held_at, held_in}
use Rattle.am_serve.specs.declared.client.Client.{Client}
use Rattle.am_serve.specs.declared.client.Stage.{Stage}
use Rattle.am_serve.specs.declared.client.Stage.TheVariants.{Asking, Awaiting, Telling, Draining}
use Rattle.am_serve.specs.declared.giving.Wanted.TheVariants.{Reply}
use Rattle.am_serve.specs.declared.outgoing.Outgoing.{Outgoing}
use Rattle.am_serve.proofs.Turns.{within}

module _ {T : Type 0} (f : Option T → ℕ) (none : f None ≡ 0) where
  -- lists with the same values have the same sum
  same_sums : (xs ys : List (Option T)) → ((j : ℕ) → get_or ys j None ≡ get_or xs j None) → sum_by f ys ≡ sum_by f xs
  same_sums [] [] h = refl
  same_sums [] (y ∷ ys) h = omega (arith, sum_by-cons f y ys, ap f (h 0), none, same_sums [] ys (λ j. h (suc j)))
  same_sums (x ∷ xs) [] h = omega (arith, sum_by-cons f x xs, ap f (h 0), none, same_sums xs [] (λ j. h (suc j)))
  same_sums (x ∷ xs) (y ∷ ys) h = omega (arith, sum_by-cons f x xs, sum_by-cons f y ys, ap f (h 0), same_sums xs ys (λ j. h (suc j)))

  Changed : List (Option T) → List (Option T) → ℕ → Type 0
  Changed xs ys key = (other : ℕ) → other ≢ key → get_or ys other None ≡ get_or xs other None

  -- where one value changes, so does the sum
  pub sum_changed : (xs ys : List (Option T)) (key : ℕ) → ((other : ℕ) → other ≢ key → get_or ys other None ≡ get_or xs other None)
      → sum_by f ys + f (get_or xs key None) ≡ sum_by f xs + f (get_or ys key None)
  sum_changed [] [] key h = refl
  sum_changed [] (y ∷ ys) zero h = omega (arith, sum_by-cons f y ys, none, same_sums [] ys (λ j. h (suc j) (omega arith)))
  sum_changed [] (y ∷ ys) (suc key) h =
      omega (arith, sum_by-cons f y ys, none, ap f (h 0 (omega arith)), sum_changed [] ys key (λ j ne. h (suc j) (omega (arith, ne))))
  sum_changed (x ∷ xs) [] zero h = omega (arith, sum_by-cons f x xs, none, same_sums xs [] (λ j. h (suc j) (omega arith)))
  sum_changed (x ∷ xs) [] (suc key) h =
      omega (arith, sum_by-cons f x xs, none, ap f (h 0 (omega arith)), sum_changed xs [] key (λ j ne. h (suc j) (omega (arith, ne))))
  sum_changed (x ∷ xs) (y ∷ ys) zero h = omega (arith, sum_by-cons f x xs, sum_by-cons f y ys, same_sums xs ys (λ j. h (suc j) (omega arith)))
  sum_changed (x ∷ xs) (y ∷ ys) (suc key) h =
      omega (arith, sum_by-cons f x xs, sum_by-cons f y ys, ap f (h 0 (omega arith)), sum_changed xs ys key (λ j ne. h (suc j) (omega (arith, ne))))

module _ {S : Type 0} where
  -- a client that holds nothing takes nothing out of the pool
  pub excess-new : (old new : Slab (Client S)) (key : ℕ) (client : Client S) → get old key ≡ None → client.held ≡ 0 → Updates old new key (Some client) → excess_in new.slots ≡ excess_in old.slots
  excess-new old new key client absent empty updates =
      omega (arith, sum_changed excess_at refl old.slots new.slots key updates.others, ap excess_at absent, ap excess_at updates.changed, empty)

  -- what all clients hold is bounded by their number and the pool
  pub held-bound : (slots : List (Option (Client S))) → held_in slots ≤ 32768 * count_by is_some slots + excess_in slots
  held-bound [] = omega arith
  held-bound (None ∷ slots) =
      omega (arith, held-bound slots, sum_by-cons held_at None slots, sum_by-cons excess_at None slots, sum_by-cons (λ (slot : Option (Client S)). cond (is_some slot) 1 0) None slots)
  held-bound (Some client ∷ slots) =
      omega (arith, held-bound slots, sum_by-cons held_at (Some client) slots, sum_by-cons excess_at (Some client) slots, sum_by-cons (λ (slot : Option (Client S)). cond (is_some slot) 1 0) (Some client) slots)

-- a reply's length is a number of 64 bits
pub undelivered-bound : (reply : Outgoing) → undelivered reply ≤ 18446744073709551615
unfolding undelivered
undelivered-bound reply = omega (arith, at_most (unsent reply) reply.bytes.len, reply.fits)
  where
    at_most : (left : List ℕ) (count : ℕ) → unless_sent left count ≤ count
    at_most [] count = omega arith
    at_most (_ ∷ _) count = omega arith

reply-bound : (stage : Stage) → reply_bytes stage ≤ 18446744073709551615
reply-bound Asking = omega arith
reply-bound Awaiting = omega arith
reply-bound (Telling reply) = undelivered-bound reply
reply-bound Draining = omega arith

module _ {S : Type 0} where
  -- a client that has no reply yet adds nothing to what the replies hold
  pub replies-new : (old new : Slab (Client S)) (key : ℕ) (client : Client S) → get old key ≡ None → reply_bytes client.stage ≡ 0 → Updates old new key (Some client) → reply_bytes_in new.slots ≡ reply_bytes_in old.slots
  replies-new old new key client absent empty updates =
      omega (arith, sum_changed reply_bytes_at refl old.slots new.slots key updates.others, ap reply_bytes_at absent, ap reply_bytes_at updates.changed, empty)

  -- what the replies hold as one client changes
  pub replies-with : (table : Slab (Client S)) (key : ℕ) (old new : Client S) → Some old ≡ get table key
      → reply_bytes_in (with_value table key new).slots + reply_bytes old.stage ≡ reply_bytes_in table.slots + reply_bytes new.stage
  replies-with table key old new there =
      omega (arith, sum_by-set reply_bytes_at table.slots key (Some new) None (within table.slots key old there), ap reply_bytes_at there)

  -- they hold as much as one of them
  pub replies-at : (table : Slab (Client S)) (key : ℕ) (client : Client S) → Some client ≡ get table key → reply_bytes client.stage ≤ reply_bytes_in table.slots
  replies-at table key client there =
      omega (arith, get_or-le-sum_by reply_bytes_at table.slots key None (within table.slots key client there), ap reply_bytes_at there)

  -- what clients hold past their own shares as one of them changes
  pub excess-with : (table : Slab (Client S)) (key : ℕ) (old new : Client S) → Some old ≡ get table key
      → (excess_in (with_value table key new).slots + excess_at (Some old) ≡ excess_in table.slots + excess_at (Some new)) × (excess_at (Some old) ≤ excess_in table.slots)
  excess-with table key old new there = (
    omega (arith, sum_by-set excess_at table.slots key (Some new) None (within table.slots key old there), ap excess_at there),
    omega (arith, get_or-le-sum_by excess_at table.slots key None (within table.slots key old there), ap excess_at there),
  )

  -- as many clients are there as one of them changes
  pub count-with : (table : Slab (Client S)) (key : ℕ) (old new : Client S) → Some old ≡ get table key → slab_len (with_value table key new) ≡ slab_len table
  count-with table key old new there =
      let one : Option (Client S) → ℕ = λ slot. cond (is_some slot) 1 0 in
      omega (arith, sum_by-set one table.slots key (Some new) None (within table.slots key old there), ap one there)

  -- the replies of so many clients hold at most as much as so many numbers of 64 bits
  pub replies-bound : (slots : List (Option (Client S))) → reply_bytes_in slots ≤ 18446744073709551615 * count_by is_some slots
  replies-bound [] = omega arith
  replies-bound (None ∷ slots) =
      omega (arith, replies-bound slots, sum_by-cons reply_bytes_at None slots, sum_by-cons (λ (slot : Option (Client S)). cond (is_some slot) 1 0) None slots)
  replies-bound (Some client ∷ slots) =
      omega (arith, replies-bound slots, reply-bound client.stage, sum_by-cons reply_bytes_at (Some client) slots, sum_by-cons (λ (slot : Option (Client S)). cond (is_some slot) 1 0) (Some client) slots)

  no_replies : (slots : List (Option (Client S))) → ((key : ℕ) → IfSome (get_or slots key None) (λ client. 0 < reply_bytes client.stage → ⊥)) → reply_bytes_in slots ≡ 0
  no_replies [] none = refl
  no_replies (None ∷ slots) none = omega (arith, no_replies slots (λ key. none (suc key)), sum_by-cons reply_bytes_at None slots)
  no_replies (Some client ∷ slots) none =
      omega (arith, no_replies slots (λ key. none (suc key)), none 0, sum_by-cons reply_bytes_at (Some client) slots)

  -- where no client has a reply that is under way, the replies hold nothing
  pub replies-none : (clients : Slab (Client S)) → NoneGives Reply clients → reply_bytes_in clients.slots ≡ 0
  replies-none clients none = no_replies clients.slots none
