use Rattle.std.proofs.Common.{◌≡◌, true, take}
use Rattle.am_rows.specs.Refusing.{Wears}
use Rattle.am_instance.specs.Here.{circumstances}
use Rattle.am_instance.specs.Shelves.{IsBacked, shelf_of}
use Rattle.am_instance.proofs.Turning.{TurnsThrough}
use Rattle.am_instance.proofs.instance.Instance.turn_each.Given as goal

abbrev pub invariant-loop-tenant : goal.invariant-loop-tenant
invariant-loop-tenant g l = record {
  through : TurnsThrough (circumstances l.occasion) l.before.instances (take l.tenant-index l.names) l.fn.self l.self l.told.items;
  clean : g.R.Rows.is_clean l.store ≡ true → g.R.Rows.is_clean l.fn.store ≡ true;
  backed : IsBacked l.self (shelf_of g.R.Rows l.store);
  wears : g.R.Rows.is_clean l.store ≡ true → Wears (g.R.Rows.medium l.fn.store) (g.R.Rows.medium l.store);
}
