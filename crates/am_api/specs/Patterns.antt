-- The patterns that requests ask, and those that are stored.
use Rattle.std.specs.Prelude.{ℕ, List, [], Some, None}
use Rattle.std.specs.List.{flat_map}
use Rattle.am_match.specs.Matchers.{patterns_of}
use Rattle.am_draft.specs.Drafts.{draft_in, posted}
use Rattle.am_config.specs.Matching.{patterns_of_draft}
use Rattle.am_http.specs.declared.request.Method.{Method}
use Rattle.am_http.specs.declared.request.Method.TheVariants.{Get, Post, Delete}
use Rattle.am_http.specs.declared.request.Endpoint.{Endpoint}
use Rattle.am_http.specs.declared.request.Endpoint.TheVariants.{Alerts, AlertGroups, Silences, Silence, Receivers}
use Rattle.am_http.specs.declared.request.Endpoint.TheVariants.{Configuration}
use Rattle.am_http.specs.declared.request.Request.{Request}
use Rattle.am_item.specs.declared.item.Item.{Item}
use Rattle.am_item.specs.declared.item.Thing.{Thing}
use Rattle.am_item.specs.declared.item.Thing.TheVariants as thing
use Rattle.am_query.specs.Patterns.{patterns_of_filters, patterns_of_group_query, patterns_of_query}
use Rattle.am_silence.specs.Posted.{patterns_in_body}

-- those of a request to the alerts: a GET has them in its query
abbrev pub patterns_of_alerts : Method → Request → List (List ℕ)
patterns_of_alerts Get request = patterns_of_query request.query
patterns_of_alerts Post request = []
patterns_of_alerts Delete request = []

-- those of a request to the groups: a GET has them in its query
abbrev pub patterns_of_groups : Method → Request → List (List ℕ)
patterns_of_groups Get request = patterns_of_group_query request.query
patterns_of_groups Post request = []
patterns_of_groups Delete request = []

-- those of a request to the configuration: a POST has them in its document
abbrev pub patterns_of_document : Method → Request → List (List ℕ)
patterns_of_document Get request = []
patterns_of_document Post request = patterns_of_draft (posted request.body)
patterns_of_document Delete request = []

-- those of a request to the silences: a GET has them in its filters, a POST in its body
abbrev pub patterns_of_silences : Method → Request → List (List ℕ)
patterns_of_silences Get request = patterns_of_filters request.query
patterns_of_silences Post request = patterns_in_body request.body
patterns_of_silences Delete request = []

-- by what the request speaks of
abbrev pub patterns_by : Endpoint → Request → List (List ℕ)
patterns_by Alerts request = patterns_of_alerts request.method request
patterns_by AlertGroups request = patterns_of_groups request.method request
patterns_by Silences request = patterns_of_silences request.method request
patterns_by (Silence text) request = []
patterns_by Receivers request = []
patterns_by Configuration request = patterns_of_document request.method request

-- the texts that a request has as patterns
unfoldable pub patterns_of_request : Request → List (List ℕ)
patterns_of_request request = patterns_by request.endpoint request

-- the texts that a thing has as patterns: those of a configuration's text, and those of a silence's matchers
abbrev pub patterns_of_thing : Thing → List (List ℕ)
patterns_of_thing (thing.Configuration (Some text)) = patterns_of_draft (draft_in text)
patterns_of_thing (thing.Configuration None) = []
patterns_of_thing (thing.Silence silence) = patterns_of silence.matchers
patterns_of_thing (thing.Alert alert) = []
patterns_of_thing (thing.SentEntry entry) = []

-- the texts that items have as patterns
unfoldable pub patterns_of_items : List Item → List (List ℕ)
patterns_of_items items = flat_map (λ (item : Item). patterns_of_thing item.thing) items
