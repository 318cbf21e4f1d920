-- For which tenants an instance is settled, and what it counted.
use Rattle.std.specs.Prelude.{ℕ, ◌≡◌, Bool, ◌&&◌, not, List, count_by, filter}
use Rattle.am_cluster.specs.Here.{is_replica_here}
use Rattle.am_cluster.specs.Local.{is_settled}
use Rattle.am_instance.specs.Here.{Circumstances, here_on}
use Rattle.am_instance.specs.Instance.{local_in}
use Rattle.am_instance.specs.declared.instance.Instance.{Instance}
use Rattle.am_instance.specs.declared.standing.Standing.{Standing}

-- the instance is a replica of the tenant, ..
abbrev pub is_replica_for : Circumstances → Instance → List ℕ → Bool
is_replica_for around x t = is_replica_here (here_on around x t)

-- .. and isn't settled for it
abbrev pub is_unsettled_for : Circumstances → Instance → List ℕ → Bool
is_unsettled_for around x t = is_replica_for around x t && not (is_settled (here_on around x t) (local_in t x))

-- of how many of the tenants of whom it may have something it is a replica, and for which of them it isn't settled, in
-- order; and how often a notice was held back
pub record IsStanding (around : Circumstances) (x : Instance) (standing : Standing) : Type 0 where
  pub tenants : standing.tenants ≡ count_by (is_replica_for around x) x.tenants
  pub unsettled : standing.unsettled.items ≡ filter (is_unsettled_for around x) x.tenants
  pub held_back : standing.held_back ≡ x.site.node.notifier.held_back
