-- Flags at places.
use Rattle.std.specs.Prelude.{◌==◌, ℕ, ◌∷◌, [], false, Bool, List, filter, get_or, map, not, slice_set, zip}
use Rattle.std.specs.Prelude.{if◌then◌else◌}
use Rattle.std.specs.Bool.{beq}
use Rattle.std.specs.List.{list_any}

-- it is one of these places
abbrev pub is_place : ℕ → List ℕ → Bool
is_place place places = list_any (λ other. place == other) places

-- flags without those at these places
abbrev pub cleared : List ℕ → List Bool → List Bool
cleared [] flags = flags
cleared (place ∷ places) flags = cleared places (slice_set flags place false)

-- flags once those at these places came from others
abbrev pub kept : List ℕ → List Bool → List Bool → List Bool
kept [] others flags = flags
kept (place ∷ places) others flags = kept places others (slice_set flags place (get_or others place false))

-- the places whose answer differs from that of all others
abbrev pub differing : Bool → List ℕ → List Bool → List ℕ
differing others places answers =
    map (λ (place, answer). place) (filter (λ (place, answer). not (beq answer others)) (zip places answers))

-- whether the answer at a place is true; the first is that of all places but these, whose own stand behind it
abbrev pub is_met_at : ℕ → List ℕ → List Bool → Bool
is_met_at place places [] = false
is_met_at place places (others ∷ answers) =
    if is_place place (differing others places answers) then not others else others
