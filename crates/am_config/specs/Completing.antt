-- The configuration that a draft makes, where every check passes.
use Rattle.std.specs.Prelude.{List, [], ◌∷◌, map, Option, Some, None, Result, Ok, Err}
use Rattle.am_text.specs.Outcome.{◌>>=◌}
use Rattle.am_text.specs.declared.tree.Node.{Node}
use Rattle.am_url.specs.Urls.{url_of, Url}
use Rattle.am_draft.specs.declared.draft.Draft.{Draft}
use Rattle.am_draft.specs.declared.receiver.ReceiverDraft.{ReceiverDraft}
use Rattle.am_draft.specs.declared.receiver.WebhookDraft.{WebhookDraft}
use Rattle.am_draft.specs.declared.route.RouteDraft.{RouteDraft}
use Rattle.am_draft.specs.declared.rule.RuleDraft.{RuleDraft}
use Rattle.am_config.specs.declared.refusal.ConfigRefusal.{ConfigRefusal}
use Rattle.am_config.specs.declared.refusal.ConfigRefusal.TheVariants.{BadUrl}
use Rattle.am_config.specs.declared.parts.Receiver.{Receiver}
use Rattle.am_config.specs.declared.parts.Route.{Route}
use Rattle.am_config.specs.declared.parts.Rule.{Rule}
use Rattle.am_config.specs.declared.parts.Settings.{Settings}
use Rattle.am_config.specs.declared.parts.Webhook.{Webhook}
use Rattle.am_config.specs.declared.terms.Terms.{Terms}
use Rattle.am_config.specs.Configuration.{Configuration}
use Rattle.am_config.specs.Inheriting.{settings_of}
use Rattle.am_config.specs.Matching.{matchers_in}

-- a route for which these settings hold
abbrev pub route_of : Settings → RouteDraft → Route
route_of settings route = record {
  settings = settings;
  grouping = route.grouping;
  matchers = matchers_in route.matchers;
  goes_on = route.goes_on;
}

-- the routes, for each of which the settings at its place hold
unfoldable pub routes_with : List Settings → List (Node RouteDraft) → List (Node Route)
routes_with [] nodes = []
routes_with (settings ∷ more) [] = []
routes_with (settings ∷ more) (node ∷ nodes) =
    record { item = route_of settings node.item; within = node.within } ∷ routes_with more nodes

-- a webhook has a URL
abbrev pub with_url : WebhookDraft → Option Url → Result Webhook ConfigRefusal
with_url webhook None = Err BadUrl
with_url webhook (Some url) = Ok (record { url = url; send_resolved = webhook.send_resolved; max_alerts = webhook.max_alerts })

abbrev pub webhook_of : WebhookDraft → Result Webhook ConfigRefusal
webhook_of webhook = with_url webhook (url_of webhook.url)

unfoldable pub webhooks_of : List WebhookDraft → Result (List Webhook) ConfigRefusal
webhooks_of [] = Ok []
webhooks_of (first ∷ later) = do
  webhook ← webhook_of first
  webhooks ← webhooks_of later
  Ok (webhook ∷ webhooks)

unfoldable pub receiver_of : ReceiverDraft → Result Receiver ConfigRefusal
receiver_of receiver = do
  webhooks ← webhooks_of receiver.webhooks
  Ok (record { name = receiver.name; webhooks = webhooks })

unfoldable pub receivers_of : List ReceiverDraft → Result (List Receiver) ConfigRefusal
receivers_of [] = Ok []
receivers_of (first ∷ later) = do
  receiver ← receiver_of first
  receivers ← receivers_of later
  Ok (receiver ∷ receivers)

abbrev pub rule_of : RuleDraft → Rule
rule_of rule = record { source = matchers_in rule.source; target = matchers_in rule.target; equal = rule.equal }

-- the configuration of a draft with these terms and receivers
unfoldable pub completed : Draft → Terms → List Receiver → Configuration
completed draft terms receivers = record {
  text = draft.text;
  resolve_timeout = terms.resolve_timeout;
  routes = routes_with (settings_of terms.owns) draft.routes;
  receivers = receivers;
  rules = map rule_of draft.rules;
}
