-- The names of the receivers of a configuration.
use Rattle.std.specs.Prelude.{ℕ, List, map, Option, option_map, slice_get}
use Rattle.std.specs.List.{filter_map}
use Rattle.am_config.specs.declared.parts.Receiver.{Receiver}
use Rattle.am_config.specs.Configuration.{Configuration}

-- the name of the receiver at a place
abbrev pub name_at : Configuration → ℕ → Option (List ℕ)
name_at c place = option_map (λ (receiver : Receiver). receiver.name) (slice_get c.receivers place)

-- the names of the receivers at these places
abbrev pub names_at : Configuration → List ℕ → List (List ℕ)
names_at c places = filter_map (name_at c) places

-- the names of all receivers, in the configuration's order
abbrev pub names_of : Configuration → List (List ℕ)
names_of c = map (λ (receiver : Receiver). receiver.name) c.receivers
