use Rattle.std.proofs.Common.{◌≡◌, ℕ, List, true, take, [], if◌then◌else◌}
use Rattle.am_rows.specs.Refusing.{Wears}
use Rattle.am_rows.specs.Rows.{rows_of}
use Rattle.am_instance.specs.Tenants.{is_noted}
use Rattle.am_instance.proofs.leaving.drop_rows.Given as goal

abbrev pub invariant-loop-tenant : goal.invariant-loop-tenant
invariant-loop-tenant g l = record {
  clean : g.R.Rows.is_clean l.store ≡ true → g.R.Rows.is_clean l.fn.store ≡ true;
  opened : g.R.Rows.is_open l.store ≡ true;
  rows : g.R.Rows.is_clean l.store ≡ true → (t : List ℕ) → rows_of t (g.R.Rows.pairs l.store)
      ≡ (if is_noted t (take l.tenant-index l.names) then [] else rows_of t (g.R.Rows.pairs l.fn.store));
  wears : g.R.Rows.is_clean l.store ≡ true → Wears (g.R.Rows.medium l.fn.store) (g.R.Rows.medium l.store);
}
