-- The identifiers that are drawn from words.
use Rattle.std.specs.Prelude.{ℕ, zero, suc, ◌*◌, Bool, not, is_some, List, [], ◌∷◌, ◌++◌, Option, find}
use Rattle.std.specs.Int.{w32, to_le_bytes}
use Rattle.std.specs.Option.{option_map, option_map_or}
use Rattle.uuid.specs.Parts.{with_variant, with_version}
use Rattle.uuid.specs.declared.Variant.TheVariants.{RFC4122}
use Rattle.uuid.specs.declared.Version.TheVariants.{Random}
use Rattle.am_item.specs.Best.{item_at}
use Rattle.am_item.specs.declared.key.ThingKey.TheVariants.{Silence as SilenceKey}
use Rattle.am_item.specs.declared.item.Item.{Item}
use Rattle.am_words.specs.Words.{place_after}

-- the words that an identifier takes, and how many identifiers are drawn at most for one that isn't held
abbrev pub words_of_id : ℕ
words_of_id = 4

abbrev pub most_draws : ℕ
most_draws = 8

-- the bytes of the word at a place, the least first
abbrev pub bytes_at : (ℕ → ℕ) → ℕ → List ℕ
bytes_at words place = to_le_bytes w32 (words place)

-- the bytes of the four words from a place on
abbrev pub bytes_from : (ℕ → ℕ) → ℕ → List ℕ
bytes_from words place =
    bytes_at words place ++ bytes_at words (place_after place 1) ++ bytes_at words (place_after place 2) ++ bytes_at words (place_after place 3)

-- the identifier from a place on: these bytes, with the bits of version 4
unfoldable pub id_from : (ℕ → ℕ) → ℕ → List ℕ
id_from words place = with_version (with_variant (bytes_from words place) RFC4122) Random

-- so many identifiers, drawn one after the other from a place on, each with the place after it
abbrev pub draws : (ℕ → ℕ) → ℕ → ℕ → List (List ℕ × ℕ)
draws words zero place = []
draws words (suc more) place =
    let next = place_after place words_of_id in
    (id_from words place, next) ∷ draws words more next

-- a silence of this identifier is held
abbrev pub is_held : List Item → List ℕ → Bool
is_held items id = is_some (item_at (SilenceKey id) items)

-- the first draw of an identifier that isn't held
abbrev pub first_unheld : (ℕ → ℕ) → ℕ → List Item → Option (List ℕ × ℕ)
first_unheld words place items = find (λ draw. not (is_held items draw.0)) (draws words most_draws place)

-- the new identifier that is drawn from a place on, where one of the draws isn't held
unfoldable pub new_id : (ℕ → ℕ) → ℕ → List Item → Option (List ℕ)
new_id words place items = option_map (λ draw. draw.0) (first_unheld words place items)

-- the place after it, or after all draws
unfoldable pub place_drawn : (ℕ → ℕ) → ℕ → List Item → ℕ
place_drawn words place items =
    option_map_or (λ draw. draw.1) (first_unheld words place items) (place_after place (words_of_id * most_draws))
