-- What is so of an instance between calls.
use Rattle.std.specs.Prelude.{◌≡◌, ℕ, ◌<◌, false, List, length}
use Rattle.am_cluster.specs.Here.{is_replica_here}
use Rattle.am_site.specs.InOrder.{IsInOrder}
use Rattle.am_site.specs.Learning.{IsIdle}
use Rattle.am_transfer.specs.Timers.{AreTimed}
use Rattle.am_instance.specs.declared.instance.Instance.{Instance}
use Rattle.am_instance.specs.Here.{Circumstances, here_on}
use Rattle.am_instance.specs.Instance.{local_in}
use Rattle.am_instance.specs.Tenants.{AreNoted}

-- where it goes by this: it knows one of the rings; what it has of each tenant is in order; what is sent again has its
-- timers; its operations are of its incarnation; each tenant of whom it has something is noted; and of a tenant of whom
-- it is no replica it holds no alert, pushes nothing and asked nobody
pub record IsWhole (around : Circumstances) (x : Instance) : Type 0 where
  pub known : x.known < length around.rings
  pub order : (t : List ℕ) → IsInOrder (here_on around x t) x.site
  pub timed : AreTimed x.site.settling
  pub incarnation : x.site.operations.incarnation ≡ x.incarnation
  pub noted : AreNoted x
  pub idle : (t : List ℕ) → is_replica_here (here_on around x t) ≡ false → IsIdle (local_in t x)
