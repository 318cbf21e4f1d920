-- Patterns that give no answer, so that no alert is listed.
use Rattle.std.specs.Prelude.{ℕ, List, ◌++◌}
use Rattle.am_item.specs.declared.item.Item.{Item}
use Rattle.am_match.specs.Matchers.{patterns_of}
use Rattle.am_config.specs.Configuration.{Configuration}
use Rattle.am_route.specs.Asked.{route_matchers}
use Rattle.am_muting.specs.Failing.{HasUnanswered, patterns_muting}
use Rattle.am_query.specs.Patterns.{HasRefused}
use Rattle.am_listing.specs.declared.refusal.Unanswered.{Unanswered}
use Rattle.am_listing.specs.declared.refusal.Unanswered.TheVariants.{Asked, Stored}

-- whose pattern gave no answer
abbrev pub IsUnanswered : List (List ℕ) → List (List ℕ) → List (List ℕ) → Unanswered → Type 0
IsUnanswered refused own stored Asked = HasRefused refused own
IsUnanswered refused own stored Stored = HasUnanswered refused stored

-- the patterns that are in use at a moment: those of a configuration's routes, and those that mute
abbrev pub patterns_in_use : Configuration → ℕ → List Item → List (List ℕ)
patterns_in_use c moment held = patterns_of (route_matchers c.routes) ++ patterns_muting c moment held
