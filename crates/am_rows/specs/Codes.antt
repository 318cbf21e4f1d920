-- The codes of what a store refuses.
use Rattle.std.specs.Prelude.{ℕ, List, codes}
use Rattle.am_rows.specs.declared.refusal.StoreRefusal.{StoreRefusal}
use Rattle.am_rows.specs.declared.refusal.StoreRefusal.TheVariants.{Database, Foreign}

abbrev pub code_of : StoreRefusal → List ℕ
code_of Database = codes "F2"
code_of Foreign = codes "F3"
