-- What the clients of a table hold undecided.
use Rattle.std.specs.Prelude.{ℕ, ◌+◌, ◌-◌, List, Option, Some, None, sum_by}
use Rattle.am_serve.specs.Clients.{excess_of}
use Rattle.am_serve.specs.declared.client.Client.{Client}

module _ {S : Type 0} where
  abbrev pub held_at : Option (Client S) → ℕ
  held_at None = 0
  held_at (Some client) = client.held

  abbrev pub excess_at : Option (Client S) → ℕ
  excess_at None = 0
  excess_at (Some client) = excess_of client

  -- how many bytes all clients hold
  abbrev pub held_in : List (Option (Client S)) → ℕ
  held_in slots = sum_by held_at slots

  -- how many bytes they hold past their own shares
  abbrev pub excess_in : List (Option (Client S)) → ℕ
  excess_in slots = sum_by excess_at slots

  -- how many bytes a client of the table may hold
  abbrev pub most_for : List (Option (Client S)) → Client S → ℕ
  most_for slots client = 32768 + (33554432 - (excess_in slots - excess_of client))
