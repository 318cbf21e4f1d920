-- Which values are equal.
use Rattle.std.specs.Prelude.{◌≡◌, ℕ, ◌<◌, List, All, [], get_or, length, map}

-- for each of the values the place of an equal one
abbrev pub AreAlike : List (List ℕ) → List ℕ → Type 0
AreAlike values places =
    All (λ place. place < length values) places × (map (λ place. get_or values place []) places ≡ values)
