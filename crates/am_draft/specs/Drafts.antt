-- A configuration as it is written: what its document and its text say.
use Rattle.std.specs.Prelude.{ℕ, Bool, false, ◌||◌, List, [], ◌∷◌, codes, None, is_some, Result, Ok, Err}
use Rattle.std.specs.List.{list_any}
use Rattle.serde_json.specs.Data.{Data}
use Rattle.serde_json.specs.Find.{get}
use Rattle.am_text.specs.Outcome.{◌>>=◌, outcome_map}
use Rattle.am_text.specs.declared.tree.Node.{Node}
use Rattle.am_text.specs.Trees.{none, tree, flat}
use Rattle.am_json.specs.Reading.{formed, json, optional, required, some_text_in, text_in}
use Rattle.am_json.specs.declared.refusal.JsonRefusal.{JsonRefusal}
use Rattle.am_json.specs.declared.refusal.JsonRefusal.TheVariants.{BadForm}
use Rattle.am_draft.specs.declared.keys.Place.TheVariants.{Document, Top, Global}
use Rattle.am_draft.specs.declared.draft.Draft.{Draft}
use Rattle.am_draft.specs.declared.draft.GlobalDraft.{GlobalDraft}
use Rattle.am_draft.specs.declared.refusal.DraftRefusal.{DraftRefusal}
use Rattle.am_draft.specs.declared.receiver.ReceiverDraft.{ReceiverDraft}
use Rattle.am_draft.specs.declared.receiver.WebhookDraft.{WebhookDraft}
use Rattle.am_draft.specs.declared.route.RouteDraft.{RouteDraft}
use Rattle.am_draft.specs.declared.rule.RuleDraft.{RuleDraft}
use Rattle.am_draft.specs.Keys.{leaves_out}
use Rattle.am_draft.specs.Receivers.{receivers_in}
use Rattle.am_draft.specs.Refusals.{refusal_of}
use Rattle.am_draft.specs.Routes.{tree_in}
use Rattle.am_draft.specs.Rules.{rules_in}

unfoldable pub global_in : Data → Result GlobalDraft JsonRefusal
global_in d = do
  left_out ← leaves_out Global d
  resolve_timeout ← optional None some_text_in (get (codes "resolve_timeout") d)
  Ok (record { resolve_timeout = resolve_timeout; left_out = left_out })

abbrev pub no_global : GlobalDraft
no_global = record { resolve_timeout = None; left_out = false }

-- the list of routes, whose first one has a receiver
abbrev pub rooted : List (Node RouteDraft) → Result (List (Node RouteDraft)) JsonRefusal
rooted [] = Err BadForm
rooted (root ∷ routes) = formed root.item.receiver >>= λ receiver. Ok (root ∷ routes)

-- the whole tree of routes as a flat list
abbrev pub root_in : Data → Result (List (Node RouteDraft)) JsonRefusal
root_in d = tree_in 1 d >>= λ t. rooted (flat (tree t.0 t.1 none))

-- the first route names a receiver
abbrev pub root_has_receiver : List (Node RouteDraft) → Bool
root_has_receiver [] = false
root_has_receiver (root ∷ routes) = is_some root.item.receiver

-- what the JSON value of this text says
unfoldable pub draft_of : List ℕ → Data → Result Draft JsonRefusal
draft_of text d = do
  left_out ← leaves_out Top d
  global ← optional no_global global_in (get (codes "global") d)
  routes ← required root_in (get (codes "route") d)
  receivers ← required receivers_in (get (codes "receivers") d)
  rules ← optional [] rules_in (get (codes "inhibit_rules") d)
  Ok (record {
    text = text;
    global = global;
    routes = routes;
    receivers = receivers;
    rules = rules;
    left_out = left_out;
  })

-- what the text of a configuration says
unfoldable pub said_by_text : List ℕ → Result Draft JsonRefusal
said_by_text text = json text >>= draft_of text

-- the same by the draft's refusals
unfoldable pub draft_in : List ℕ → Result Draft DraftRefusal
draft_in text = outcome_map refusal_of (said_by_text text)

-- the draft, where a key of its document is left out or none is
abbrev pub within_document : Draft → Bool → Draft
within_document draft left_out =
    record {
      text = draft.text;
      global = draft.global;
      routes = draft.routes;
      receivers = draft.receivers;
      rules = draft.rules;
      left_out = draft.left_out || left_out;
    }

-- what a posted document says: of its keys only after its text was read, so that a text which isn't JSON comes before
-- an unknown key
unfoldable pub said_by_document : List ℕ → Result Draft JsonRefusal
said_by_document document = do
  d ← json document
  text ← required text_in (get (codes "alertmanager_config") d)
  draft ← said_by_text text
  left_out ← leaves_out Document d
  Ok (within_document draft left_out)

-- the same by the draft's refusals
unfoldable pub posted : List ℕ → Result Draft DraftRefusal
posted document = outcome_map refusal_of (said_by_document document)

abbrev pub route_leaves_out : Node RouteDraft → Bool
route_leaves_out node = node.item.left_out

abbrev pub webhook_leaves_out : WebhookDraft → Bool
webhook_leaves_out webhook = webhook.left_out

abbrev pub receiver_leaves_out : ReceiverDraft → Bool
receiver_leaves_out receiver = receiver.left_out || list_any webhook_leaves_out receiver.webhooks

abbrev pub rule_leaves_out : RuleDraft → Bool
rule_leaves_out rule = rule.left_out

-- a key is left out at some place
abbrev pub has_left_out : Draft → Bool
has_left_out draft =
    draft.left_out || (draft.global.left_out || (list_any route_leaves_out draft.routes
    || (list_any receiver_leaves_out draft.receivers || list_any rule_leaves_out draft.rules)))
