-- The places of values.
use Rattle.std.specs.Prelude.{◌≡◌, ℕ, ◌++◌, ◌∷◌, [], List, filter, map, zip, if◌then◌else◌}
use Rattle.std.specs.Borrow.{Bor}
use Rattle.std.specs.BTreeMap.{BTreeMap, get_by}
use Rattle.std.specs.Cmp.Lexicographic.{slice_cmp}
use Rattle.std.specs.Global.{Vec}
use Rattle.std.specs.Option.{option_map_or}
use Rattle.std.specs.Ordering.{nat_cmp}
use Rattle.std.specs.Str.{bytes_eq}

-- of values that stand at places, those at which this one stands
abbrev pub places_of : List ℕ → List ℕ → List (List ℕ) → List ℕ
places_of value places values =
    map (λ (place, other). place) (filter (λ (place, other). bytes_eq value other) (zip places values))

-- the places that are noted of a value
abbrev pub found_at : BTreeMap (Bor (List ℕ)) (Vec ℕ) → List ℕ → List ℕ
found_at places value =
    option_map_or (λ (found : Vec ℕ). found.items) (get_by (λ key. slice_cmp nat_cmp value key.now) places) []

-- those of each value
abbrev pub AreLists : List ℕ → List (List ℕ) → BTreeMap (Bor (List ℕ)) (Vec ℕ) → Type 0
AreLists places values lists = (value : List ℕ) → found_at lists value ≡ places_of value places values

-- a place more of this value
abbrev pub IsNoted : ℕ → List ℕ → (old new : BTreeMap (Bor (List ℕ)) (Vec ℕ)) → Type 0
IsNoted place value old new =
    (other : List ℕ)
    → found_at new other ≡ (if bytes_eq other value then found_at old other ++ place ∷ [] else found_at old other)
