use Rattle.std.proofs.Common.{◌≡◌, ℕ, false, true, List, take}
use Rattle.std.specs.List.{list_any}
use Rattle.am_pattern.specs.Asking.{Stays}
use Rattle.am_rows.specs.Refusing.{Wears}
use Rattle.am_rows.specs.Rows.{Keeps, rows_of}
use Rattle.am_tenant.specs.Names.{same}
use Rattle.am_node.specs.Held.{local_of}
use Rattle.am_node.specs.Local.{blank}
use Rattle.am_node.specs.Plans.{HoldsNoAlert, IsPlanned}
use Rattle.am_node.proofs.Begun.{begun}
use Rattle.am_node.proofs.parts.Parts.hold_each.Given as goal

abbrev pub invariant-loop-tenant : goal.invariant-loop-tenant
invariant-loop-tenant g l = record {
  clean : g.R.Rows.is_clean l.store ≡ true → g.R.Rows.is_clean l.fn.store ≡ true;
  opened : g.R.Rows.is_open l.store ≡ true;
  asked : Stays l.fn.cache l.cache;
  keeps : g.R.Rows.is_clean l.store ≡ true → Keeps (g.R.Rows.pairs l.fn.store) (g.R.Rows.pairs l.store);
  planned : (t : List ℕ) → IsPlanned (local_of t l.self);
  alertless : (t : List ℕ) → HoldsNoAlert (local_of t l.self);
  ahead : (t : List ℕ) → list_any (same t) (take l.tenant-index l.names) ≡ false → local_of t l.self ≡ blank;
  held : g.R.Rows.is_clean l.store ≡ true → (t : List ℕ) → local_of t l.self ≡ begun (list_any (same t) (take l.tenant-index l.names)) l.moment (rows_of t (g.R.Rows.pairs l.fn.store));
  wears : g.R.Rows.is_clean l.store ≡ true → Wears (g.R.Rows.medium l.fn.store) (g.R.Rows.medium l.store);
}
