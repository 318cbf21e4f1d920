-- What clauses see of a configuration.
use Rattle.std.specs.Prelude.{ℕ, List, Option, option_map, option_and_then, slice_get}
use Rattle.am_text.specs.declared.tree.Node.{Node}
use Rattle.am_draft.specs.declared.route.Grouping.{Grouping}
use Rattle.am_config.specs.declared.parts.Receiver.{Receiver}
use Rattle.am_config.specs.declared.parts.Route.{Route}
use Rattle.am_config.specs.declared.parts.Rule.{Rule}
use Rattle.am_config.specs.declared.parts.Settings.{Settings}

-- its text; milliseconds that an alert without an end fires; the routes, each before those within it; receivers and inhibit
-- rules in the order in which they are written
pub record Configuration : Type 0 where
  pub text : List ℕ
  pub resolve_timeout : ℕ
  pub routes : List (Node Route)
  pub receivers : List Receiver
  pub rules : List Rule

-- the settings that hold for the route of this number
abbrev pub settings_at : Configuration → ℕ → Option Settings
settings_at c number = option_map (λ (node : Node Route). node.item.settings) (slice_get c.routes number)

-- its receiver
abbrev pub receiver_of : Configuration → ℕ → Option Receiver
receiver_of c number = option_and_then (λ (settings : Settings). slice_get c.receivers settings.receiver) (settings_at c number)

-- the `group_by` of the route of this number
abbrev pub grouping_at : Configuration → ℕ → Option Grouping
grouping_at c number = option_and_then (λ (node : Node Route). node.item.grouping) (slice_get c.routes number)

-- the grouping that holds for the route of this number; none where it groups by no label
abbrev pub grouping_of : Configuration → ℕ → Option Grouping
grouping_of c number = option_and_then (grouping_at c) (option_and_then (λ (settings : Settings). settings.grouping) (settings_at c number))
