-- Where a key stands, or would stand, among entries in order of their keys.
use Rattle.std.specs.Prelude.{◌≡◌, ℕ, ◌<◌, ◌≤◌, List, length}
use Rattle.std.specs.List.{AllWithin, HoldsAt}
use Rattle.std.specs.declared.cmp.Ordering.{Ordering}
use Rattle.std.specs.declared.cmp.Ordering.TheVariants.{Less, Equal, Greater}

-- the entry there has the key
pub record IsPlace {K X : Type 0} (cmp : K → K → Ordering) (q : K) (es : List (K × X)) (i : ℕ) : Type 0 where
  pub within : i < length es
  pub here : HoldsAt (λ e. cmp e.0 q ≡ Equal) es i

-- the entries before it have lower keys, those from it on greater ones
pub record IsGap {K X : Type 0} (cmp : K → K → Ordering) (q : K) (es : List (K × X)) (i : ℕ) : Type 0 where
  pub within : i ≤ length es
  pub below : AllWithin (λ e. cmp e.0 q ≡ Less) es 0 i
  pub above : AllWithin (λ e. cmp e.0 q ≡ Greater) es i (length es)
