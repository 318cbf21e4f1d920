use Rattle.std.proofs.Common.{◌≡◌, ℕ, List}
use Rattle.std.specs.List.{FoldsTo}
use Rattle.slab.specs.Slab.{slab_len}
use Rattle.am_serve.specs.Giving.{Relieves}
use Rattle.am_serve.proofs.clients.Clients.relieve.Given as goal

abbrev pub invariant-loop : goal.invariant-loop
invariant-loop g l =
    ((keys : List ℕ) × FoldsTo Relieves l.fn.self.clients keys l.self.clients)
    × (l.self.opened ≡ l.fn.self.opened)
    × (l.self.limit ≡ l.fn.self.limit)

abbrev pub decreases-loop : goal.decreases-loop
decreases-loop g l = slab_len l.self.clients
