-- The decision on a request.
use Rattle.std.specs.Prelude.{ℕ, ◌+◌, nat_lt, List, [], ◌∷◌, codes, length, Option, Some, None, option_map, Result, Ok}
use Rattle.std.specs.Prelude.{Err, if◌then◌else◌}
use Rattle.am_http.specs.declared.request.Method.{Method}
use Rattle.am_http.specs.declared.request.Method.TheVariants.{Get, Post, Delete}
use Rattle.am_http.specs.declared.request.Endpoint.{Endpoint}
use Rattle.am_http.specs.declared.request.Endpoint.TheVariants.{Alerts, AlertGroups, Silences, Silence, Receivers}
use Rattle.am_http.specs.declared.request.Endpoint.TheVariants.{Configuration}
use Rattle.am_http.specs.declared.request.Request.{Request}
use Rattle.am_limit.specs.declared.limits.Limits.{Limits}
use Rattle.am_draft.specs.Drafts as drafts
use Rattle.am_config.specs.declared.refusal.ConfigRefusal.{ConfigRefusal}
use Rattle.am_config.specs.declared.refusal.ConfigRefusal.TheVariants.{BuildRefused}
use Rattle.am_config.specs.Configuration as config
use Rattle.am_config.specs.Judging.{configuration}
use Rattle.am_config.specs.Refusals as config_refusals
use Rattle.am_item.specs.declared.item.Alert.{Alert}
use Rattle.am_item.specs.declared.item.Item.{Item}
use Rattle.am_item.specs.declared.item.Thing.{Thing}
use Rattle.am_item.specs.declared.item.Thing.TheVariants as thing
use Rattle.am_item.specs.Best.{all_joined, item_at}
use Rattle.am_item.specs.declared.key.ThingKey.TheVariants.{Configuration as ConfigurationKey}
use Rattle.am_item.specs.Kinds.{alerts_of}
use Rattle.am_alert.specs.declared.maker.Maker.{Maker}
use Rattle.am_alert.specs.declared.refusal.PostedRefusal.{PostedRefusal}
use Rattle.am_alert.specs.Made.{made, stamp_moment}
use Rattle.am_alert.specs.Posted as alerts
use Rattle.am_current.specs.Current.{configuration_in}
use Rattle.am_query.specs.declared.query.Query.{Query}
use Rattle.am_query.specs.declared.refusal.QueryRefusal.{QueryRefusal}
use Rattle.am_query.specs.Queries as queries
use Rattle.am_listing.specs.Written.{alerts_text}
use Rattle.am_group_list.specs.Written.{groups_text}
use Rattle.am_payload.specs.Written.{document_text, receivers_text}
use Rattle.am_api.specs.Replied.{Decision, refused, replied, stored}
use Rattle.am_api.specs.Silences.{silence_decided, silences_decided}
use Rattle.rand_chacha.specs.ChaCha.{ChaCha}

-- ---- the alerts

-- what a query asks for is listed, as this text
abbrev pub listed_or_refused : (Query → List ℕ) → Result Query QueryRefusal → Decision
listed_or_refused text (Ok query) = replied 200 (text query)
listed_or_refused text (Err reason) = refused (queries.status_of reason) (queries.code_of reason)

-- how many alerts are held once posted ones have come
unfoldable pub count_with : List Item → ℕ → Maker → List Alert → ℕ
count_with held moment maker posted = length (alerts_of (all_joined held (made held moment maker posted)))

-- posted alerts are stored as items, unless more would then be held than the limit says
abbrev pub stored_within : ℕ → List Item → ℕ → Maker → List Alert → Decision
stored_within limit held moment maker posted =
    if nat_lt limit (count_with held moment maker posted) then refused 429 (codes "Li1")
    else stored (made held moment maker posted) 200 []

-- a posted list is stored whole, or refused whole
abbrev pub stored_or_refused : ℕ → List Item → ℕ → Maker → Result (List Alert) PostedRefusal → Decision
stored_or_refused limit held moment maker (Ok posted) = stored_within limit held moment maker posted
stored_or_refused limit held moment maker (Err reason) = refused 400 (alerts.code_of reason)

-- GET lists those that fire, by its query; POST stores those of its body, where one without an end ends as the
-- configuration says. (The front lets no other method through.)
abbrev pub alerts_decided : config.Configuration → Request → Method → List Item → Limits → ℕ → Maker → Decision
alerts_decided c request Get held limits moment maker =
    listed_or_refused (λ query. alerts_text c query moment held) (queries.query_in request.query)
alerts_decided c request Post held limits moment maker =
    stored_or_refused limits.alerts held moment maker (alerts.posted moment c.resolve_timeout request.body)
alerts_decided c request Delete held limits moment maker = refused 405 (codes "H6")

-- GET lists those that fire in their groups, by its query. (The front lets no other method through.)
abbrev pub groups_decided : config.Configuration → Request → Method → List Item → ℕ → Decision
groups_decided c request Get held moment =
    listed_or_refused (λ query. groups_text c query moment held) (queries.group_query_in request.query)
groups_decided c request Post held moment = refused 405 (codes "H6")
groups_decided c request Delete held moment = refused 405 (codes "H6")

-- ---- the receivers

-- GET lists those of the configuration. (The front lets no other method through.)
abbrev pub receivers_decided : config.Configuration → Method → Decision
receivers_decided c Get = replied 200 (receivers_text c)
receivers_decided c Post = refused 405 (codes "H6")
receivers_decided c Delete = refused 405 (codes "H6")

-- ---- the configuration

-- the stamp moment of the configuration that is held, also of one that was deleted
abbrev pub seen : List Item → Option ℕ
seen held = option_map (λ (item : Item). item.stamp.moment) (item_at ConfigurationKey held)

-- a configuration's text, or its deletion, as an item with the next count
abbrev pub configuration_item : List Item → ℕ → Maker → Option (List ℕ) → Item
configuration_item held moment maker text = record {
  stamp = record {
    moment = stamp_moment moment (seen held);
    instance = maker.instance;
    incarnation = maker.incarnation;
    count = maker.used + 1;
  };
  thing = thing.Configuration text;
}

-- it is stored
abbrev pub configuration_stored : ℕ → List Item → ℕ → Maker → Option (List ℕ) → Decision
configuration_stored status held moment maker text =
    stored (configuration_item held moment maker text ∷ []) status []

-- the status code of a configuration that is refused
abbrev pub status_of : ConfigRefusal → ℕ
status_of BuildRefused = 503
status_of _ = 400

-- the text of a configuration that passes every check is stored, without the document around it
abbrev pub accepted_or_refused : List Item → ℕ → Maker → Result config.Configuration ConfigRefusal → Decision
accepted_or_refused held moment maker (Ok c) = configuration_stored 201 held moment maker (Some c.text)
accepted_or_refused held moment maker (Err reason) = refused (status_of reason) (config_refusals.code_of reason)

-- a document within the limit is judged
abbrev pub configuration_posted : Limits → List Item → ℕ → Maker → List ℕ → Decision
configuration_posted limits held moment maker document =
    if nat_lt limits.configuration (length document) then refused 400 (codes "Li3")
    else accepted_or_refused held moment maker (configuration (drafts.posted document))

-- the text of a thing that is a configuration, unless it was deleted
abbrev pub text_in : Thing → Option (List ℕ)
text_in (thing.Configuration text) = text
text_in (thing.Silence silence) = None
text_in (thing.Alert alert) = None
text_in (thing.SentEntry entry) = None

-- the text of the item, where there is one
abbrev pub text_at : Option Item → Option (List ℕ)
text_at None = None
text_at (Some item) = text_in item.thing

-- the text is read, where there is one
abbrev pub read_or_none : Option (List ℕ) → Decision
read_or_none None = refused 404 (codes "K1")
read_or_none (Some text) = replied 200 (document_text text)

-- GET reads the text that is held, POST stores the text of its document, DELETE stores that there is none, whether or
-- not there was one
abbrev pub configuration_decided : Request → Method → List Item → Limits → ℕ → Maker → Decision
configuration_decided request Get held limits moment maker = read_or_none (text_at (item_at ConfigurationKey held))
configuration_decided request Post held limits moment maker = configuration_posted limits held moment maker request.body
configuration_decided request Delete held limits moment maker = configuration_stored 200 held moment maker None

-- ---- all requests

-- by what the request speaks of, where this configuration is in use
abbrev pub decided_by : config.Configuration → Request → Endpoint → List Item → Limits → ℕ → Maker → ChaCha → Decision
decided_by c request Alerts held limits moment maker words =
    alerts_decided c request request.method held limits moment maker
decided_by c request AlertGroups held limits moment maker words = groups_decided c request request.method held moment
decided_by c request Silences held limits moment maker words =
    silences_decided request request.method held limits moment maker words
decided_by c request (Silence text) held limits moment maker words =
    silence_decided text request.method held moment maker
decided_by c request Receivers held limits moment maker words = receivers_decided c request.method
decided_by c request Configuration held limits moment maker words =
    configuration_decided request request.method held limits moment maker

-- the decision on a request, from the items held of its tenant, its limits, the moment, who makes items, and the words of
-- the tenant from the next one on
unfoldable pub decided : Request → List Item → Limits → ℕ → Maker → ChaCha → Decision
decided request held limits moment maker words =
    decided_by (configuration_in held) request request.endpoint held limits moment maker words
