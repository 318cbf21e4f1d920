-- A tenant whom nothing has named: no instance has anything of it, and nothing was sent for it.
use Rattle.std.specs.Prelude.{◌≡◌, ℕ, Bool, true, false, ◌&&◌, List, [], ◌∷◌}
use Rattle.am_cluster.specs.Happening.{Happening, Asked, Changed, Delivered, Forced, Limited, Lost, Ticked, Tried}
use Rattle.am_cluster.specs.Local.{blank}
use Rattle.am_cluster.specs.PrivateCluster.{PrivateCluster}

pub record IsUnnamed (p : PrivateCluster) : Type 0 where
  pub at : (i : ℕ) → p.at i ≡ blank
  pub rows : (i : ℕ) → p.rows i ≡ []
  pub sent : p.sent ≡ []

-- what happens to every tenant: a tick, and a change of the ring or of an instance
abbrev pub names_nobody : Happening → Bool
names_nobody (Ticked moment) = true
names_nobody (Changed event) = true
names_nobody (Asked connection i moment request) = false
names_nobody (Limited limits) = false
names_nobody (Tried i k number tries moment status) = false
names_nobody (Delivered from k to count moment) = false
names_nobody (Lost from k to count) = false
names_nobody Forced = false

-- nothing else happened
abbrev pub name_nobody : List Happening → Bool
name_nobody [] = true
name_nobody (h ∷ hs) = names_nobody h && name_nobody hs
