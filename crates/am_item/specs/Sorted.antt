-- Entries in order of their keys, as a list.
use Rattle.std.specs.Prelude.{List, Option}
use Rattle.std.specs.BTreeMap.{is_at}
use Rattle.std.specs.List.Sorted.{IsStrictlySortedBy}
use Rattle.std.specs.Map.{keys_of, lookup}
use Rattle.std.specs.declared.cmp.Ordering.{Ordering}

-- what stands under a key
abbrev pub get : {K X : Type 0} → (K → K → Ordering) → List (K × X) → K → Option X
get cmp es q = lookup (is_at (cmp q)) es

-- the keys rise
abbrev pub IsOrdered : {K X : Type 0} → (K → K → Ordering) → List (K × X) → Type 0
IsOrdered cmp es = IsStrictlySortedBy cmp (keys_of es)
