-- What holds of every configuration, whoever holds one.
use Rattle.std.specs.Prelude.{◌≡◌, ◌≢◌, ℕ, ◌<◌, ◌≤◌, List, [], ◌∷◌, All, AllPairs, HoldsAt, length, get_or, IsSome, IsTrue}
use Rattle.std.specs.Option.{ForSome}
use Rattle.am_text.specs.Duration.{longest_duration}
use Rattle.am_pattern.specs.Taking.{IsPattern}
use Rattle.am_match.specs.Matchers.{MatcherText, is_on_pattern}
use Rattle.am_text.specs.declared.tree.Node.{Node}
use Rattle.am_text.specs.Trees.{IsTree}
use Rattle.am_draft.specs.LabelNames.{AreLabelNames, HasLabelNames}
use Rattle.am_config.specs.declared.parts.Receiver.{Receiver}
use Rattle.am_config.specs.declared.parts.Route.{Route}
use Rattle.am_config.specs.declared.parts.Rule.{Rule}
use Rattle.am_config.specs.declared.parts.Settings.{Settings}
use Rattle.am_config.specs.Checks.{most_receivers, most_routes, most_webhooks}
use Rattle.am_config.specs.Configuration.{Configuration}
use Rattle.am_config.specs.Terms.{shortest_interval}

-- the value of a matcher on a pattern is a pattern, of no more bytes than one may have
abbrev pub HasPattern : MatcherText → Type 0
HasPattern matcher = IsTrue (is_on_pattern matcher.operator) → IsPattern matcher.value

-- the root has no matchers
abbrev pub HasBareRoot : List (Node Route) → Type 0
HasBareRoot [] = Unit {0}
HasBareRoot (root ∷ routes) = root.item.matchers ≡ []

-- none of its durations is longer than the longest, and both intervals are at least `shortest_interval`
abbrev pub HasSpans : Settings → Type 0
HasSpans settings =
    (settings.group_wait ≤ longest_duration)
    × ((shortest_interval ≤ settings.group_interval) × (settings.group_interval ≤ longest_duration))
    × ((shortest_interval ≤ settings.repeat_interval) × (settings.repeat_interval ≤ longest_duration))

-- the second number is that of a route with a grouping of its own: the route of the first number, or one before it
abbrev pub IsGroupingOf : List (Node Route) → ℕ → ℕ → Type 0
IsGroupingOf routes number grouping =
    (grouping ≤ number) × HoldsAt (λ (node : Node Route). IsSome node.item.grouping) routes grouping

-- the grouping of each route's settings is that of a route at or before it
abbrev pub AreGrouped : List (Node Route) → Type 0
AreGrouped routes =
    (number : ℕ) (other : Node Route) → number < length routes →
    ForSome (get_or routes number other).item.settings.grouping (λ grouping. IsGroupingOf routes number grouping)

pub record IsConfiguration (c : Configuration) : Type 0 where
  -- an alert without an end fires no longer than the longest duration
  pub timeout : c.resolve_timeout ≤ longest_duration
  -- the routes are one whole tree
  pub tree : IsTree c.routes
  -- of so many at most
  pub few_routes : length c.routes ≤ most_routes
  -- whose root has no matchers
  pub bare_root : HasBareRoot c.routes
  -- the receiver of each route is a place in the list
  pub places : All (λ (node : Node Route). node.item.settings.receiver < length c.receivers) c.routes
  -- each route is grouped as a route at or before it says
  pub groupings : AreGrouped c.routes
  -- the labels that a route names to group by are label names
  pub grouping_names : All (λ (node : Node Route). ForSome node.item.grouping HasLabelNames) c.routes
  -- the durations of each route are within their bounds
  pub spans : All (λ (node : Node Route). HasSpans node.item.settings) c.routes
  -- the routes' matchers on patterns have patterns
  pub patterns : All (λ (node : Node Route). All HasPattern node.item.matchers) c.routes
  -- at most so many receivers
  pub few_receivers : length c.receivers ≤ most_receivers
  -- no two of one name
  pub names : AllPairs (λ (first second : Receiver). first.name ≢ second.name) c.receivers
  -- each with at most so many webhooks
  pub few_webhooks : All (λ (receiver : Receiver). length receiver.webhooks ≤ most_webhooks) c.receivers
  -- the inhibit rules' matchers on patterns have patterns
  pub rule_patterns : All (λ (rule : Rule). All HasPattern rule.source × All HasPattern rule.target) c.rules
  -- the labels that they name to be equal are label names
  pub equal_names : All (λ (rule : Rule). AreLabelNames rule.equal) c.rules
