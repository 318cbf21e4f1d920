-- What is held of a tenant, part by part.
use Rattle.std.proofs.Common.{◌≡◌, ℕ, List, refl}
use Rattle.am_item.specs.declared.item.Item.{Item}
use Rattle.am_replica.specs.Holds.{Holds}

abbrev pub with_parts : List Item → ℕ → Holds
with_parts held stamps = record { held = held; stamps = stamps }

-- equal parts make it equal
pub both : (h k : List Item) (u v : ℕ) → h ≡ k → u ≡ v → with_parts h u ≡ with_parts k v
both h k u v held stamps = rw (held, stamps) refl
