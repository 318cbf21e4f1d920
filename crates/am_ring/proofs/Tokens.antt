-- The table of tokens has the hashes.
use Rattle.std.proofs.Common.{◌≡◌, ℕ, ◌-◌, List, map, get_or, refl}
use Rattle.std.specs.Prelude.{IsTrue}
use Rattle.std.specs.Fmt.{digits}
use Rattle.am_labels.specs.Hashes.{fnv32_from}
use Rattle.am_ring.specs.declared.distance.TheConstants.{TOKENS}
use Rattle.am_ring.specs.Instances.{all_instances, is_instance}
use Rattle.am_ring.specs.Distances.{tokens}
use Rattle.am_ring.proofs.Numbers.{at_instance}

table : TOKENS ≡ map tokens all_instances
unfolding fnv32_from digits
table = refl

pub row : (i : ℕ) (d : List ℕ) → IsTrue (is_instance i) → get_or TOKENS (i - 1) d ≡ tokens i
row i d is = rw table (at_instance tokens i d is)
