use Rattle.std.proofs.Common.{◌≡◌, take, true}
use Rattle.am_incarnation.specs.Incarnations.{IsReached}
use Rattle.am_rows.specs.Refusing.{Wears}
use Rattle.am_rows.specs.Rows.{Keeps}
use Rattle.am_incarnation.proofs.Greatest.{AreBounded}
use Rattle.am_incarnation.proofs.incarnations.greatest_of.Given as goal

abbrev pub invariant-loop-tenant : goal.invariant-loop-tenant
invariant-loop-tenant g l =
    (g.R.Rows.is_open l.store ≡ true)
    × (g.R.Rows.is_clean l.store ≡ true → g.R.Rows.is_clean l.fn.store ≡ true)
    × (g.R.Rows.is_clean l.store ≡ true → Keeps (g.R.Rows.pairs l.fn.store) (g.R.Rows.pairs l.store))
    × (g.R.Rows.is_clean l.store ≡ true → AreBounded l.greatest (g.R.Rows.pairs l.fn.store) (take l.tenant-index l.tenants))
    × (g.R.Rows.is_clean l.store ≡ true → IsReached l.greatest (g.R.Rows.pairs l.fn.store))
    × (g.R.Rows.is_clean l.store ≡ true → Wears (g.R.Rows.medium l.fn.store) (g.R.Rows.medium l.store))
