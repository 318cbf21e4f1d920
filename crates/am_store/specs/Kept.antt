-- When what a store shows may be relied on.
use Rattle.std.specs.Prelude.{IsTrue}
use Rattle.sqlite.specs.Store.{Ghosts}
use Rattle.sqlite.specs.Held.{Held, state}
use Rattle.sqlite.specs.State.{HasCleanDisk}
use Rattle.am_store.specs.Rows.{IsStore}

-- the disk has returned what was written, the connection is open, and it shows a store
pub record Stands {S : Type 0} (g : Ghosts S) (h : Held S) : Type 0 where
  pub clean : HasCleanDisk (state g h)
  pub is_open : IsTrue (state g h).is_open
  pub store : IsStore (state g h).now
