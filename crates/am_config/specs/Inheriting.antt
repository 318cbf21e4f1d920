-- What holds for routes: what each says itself, and for the rest what holds for the nearest route around it.
use Rattle.std.specs.Prelude.{◌≡◌, ℕ, ◌+◌, List, [], ◌∷◌, ◌++◌, length, map, Some, None, Ok, unwrap_or, if◌then◌else◌}
use Rattle.am_text.specs.Trees.{Forest, none, tree, flat}
use Rattle.am_text.specs.declared.tree.Node.{Node}
use Rattle.am_draft.specs.declared.draft.Draft.{Draft}
use Rattle.am_draft.specs.declared.receiver.ReceiverDraft.{ReceiverDraft}
use Rattle.am_draft.specs.declared.route.RouteDraft.{RouteDraft}
use Rattle.am_draft.specs.Forests.{forest_of}
use Rattle.am_config.specs.declared.parts.Receiver.{Receiver}
use Rattle.am_config.specs.declared.parts.Route.{Route}
use Rattle.am_config.specs.declared.parts.Settings.{Settings}
use Rattle.am_config.specs.declared.terms.Own.{Own}
use Rattle.am_config.specs.Configuration.{Configuration}
use Rattle.am_config.specs.Terms.{owns_in}

-- what holds where no route says anything: 30 seconds, 5 minutes, 4 hours, and no label to group by
abbrev pub defaults : Settings
defaults = record { receiver = 0; grouping = None; group_wait = 30_000; group_interval = 300_000; repeat_interval = 14_400_000 }

-- what holds for the route of this number: what it says, and for the rest what holds around it
unfoldable pub with_own : ℕ → Settings → Own → Settings
with_own number around own = record {
  receiver = unwrap_or own.receiver around.receiver;
  grouping = if own.is_grouped then Some number else around.grouping;
  group_wait = unwrap_or own.group_wait around.group_wait;
  group_interval = unwrap_or own.group_interval around.group_interval;
  repeat_interval = unwrap_or own.repeat_interval around.repeat_interval;
}

-- What holds for the routes of a forest, in their order, of which the first has this number: what holds for a route holds around
-- those within it.
unfoldable pub inherited : ℕ → Settings → Forest Own → List Settings
inherited number around none = []
inherited number around (tree own within after) =
    let settings = with_own number around own in
    settings ∷ (inherited (number + 1) settings within ++ inherited (number + (1 + length (flat within))) around after)

-- the same for a whole tree as a flat list
abbrev pub settings_of : List (Node Own) → List Settings
settings_of owns = inherited 0 defaults (forest_of owns)

-- What a draft's routes say is one tree, and the settings of a configuration's routes are what they inherit there. Its routes
-- and receivers stand where the draft's do: with as many routes within each, and under the same names.
pub record InheritsFrom (c : Configuration) (draft : Draft) : Type 0 where
  pub root : Own
  pub within : Forest Own
  pub owns : owns_in draft.receivers draft.routes ≡ Ok (flat (tree root within none))
  pub shape : map (λ (node : Node Route). node.within) c.routes ≡ map (λ (node : Node RouteDraft). node.within) draft.routes
  pub names : map (λ (receiver : Receiver). receiver.name) c.receivers ≡ map (λ (receiver : ReceiverDraft). receiver.name) draft.receivers
  pub settings : map (λ (node : Node Route). node.item.settings) c.routes ≡ inherited 0 defaults (tree root within none)
