-- What went from what an instance holds.
use Rattle.std.specs.Prelude.{ℕ, Bool, ◌&&◌, List}
use Rattle.std.specs.List.{list_any}
use Rattle.std.specs.Ordering.{is_eq}
use Rattle.am_item.specs.Key.{Key, key_cmp}
use Rattle.am_tenant.specs.Names.{same}

-- what a tenant had under this key is among what went
abbrev pub is_gone : List ℕ → Key → List (List ℕ × Key) → Bool
is_gone t key gone = list_any (λ g. same t g.0 && is_eq (key_cmp key g.1)) gone
