use Rattle.std.proofs.Common.{◌≡◌, true, take}
use Rattle.am_rows.specs.Refusing.{Wears}
use Rattle.am_site.specs.Opening.{KeepsOwnAmong}
use Rattle.am_site.proofs.opening.keep_own_among.Given as goal

abbrev pub invariant-loop-tenant : goal.invariant-loop-tenant
invariant-loop-tenant g l = record {
  clean : g.R.Rows.is_clean l.store ≡ true → g.R.Rows.is_clean l.fn.store ≡ true;
  opened : g.R.Rows.is_open l.store ≡ true;
  kept : g.R.Rows.is_clean l.store ≡ true → KeepsOwnAmong (take l.tenant-index l.names) l.ring.instances l.instance (g.R.Rows.pairs l.fn.store) (g.R.Rows.pairs l.store);
  wears : g.R.Rows.is_clean l.store ≡ true → Wears (g.R.Rows.medium l.fn.store) (g.R.Rows.medium l.store);
}
