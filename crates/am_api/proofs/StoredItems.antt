-- The patterns of the items of a decision are those that its request has, or those of what is held.
use Rattle.std.proofs.Common.{◌≡◌, ℕ, ◌+◌, List, [], ◌∷◌, Bool, true, false, if◌then◌else◌, Option, None, Some, Result, Ok, Err, length, nat_lt, refl, append-nil, ◌++◌}
use Rattle.std.proofs.lemmas.List.Elements.{Contains-append_left}
use Rattle.am_http.specs.declared.request.Method.{Method}
use Rattle.am_http.specs.declared.request.Method.TheVariants.{Get, Post, Delete}
use Rattle.am_http.specs.declared.request.Endpoint.{Endpoint}
use Rattle.am_http.specs.declared.request.Endpoint.TheVariants.{Alerts, AlertGroups, Silences, Silence, Receivers, Configuration}
use Rattle.am_http.specs.declared.request.Request.{Request}
use Rattle.am_limit.specs.declared.limits.Limits.{Limits}
use Rattle.am_draft.specs.Drafts as drafts
use Rattle.am_config.specs.declared.refusal.ConfigRefusal.{ConfigRefusal}
use Rattle.am_config.specs.Configuration as config
use Rattle.am_config.specs.Judging.{configuration}
use Rattle.am_config.specs.Matching.{patterns_of_draft}
use Rattle.am_item.specs.declared.item.Alert.{Alert}
use Rattle.am_item.specs.declared.item.Item.{Item}
use Rattle.am_item.specs.Best.{item_at}
use Rattle.am_item.specs.declared.key.ThingKey.TheVariants.{Configuration as ConfigurationKey}
use Rattle.am_alert.specs.Made.{items_from, last_of_each, made}
use Rattle.am_alert.specs.Posted as alerts
use Rattle.am_alert.specs.declared.refusal.PostedRefusal.{PostedRefusal}
use Rattle.am_alert.specs.declared.maker.Maker.{Maker}
use Rattle.am_current.specs.Current.{configuration_in}
use Rattle.rand_chacha.specs.ChaCha.{ChaCha}
use Rattle.am_query.specs.declared.query.Query.{Query}
use Rattle.am_query.specs.declared.refusal.QueryRefusal.{QueryRefusal}
use Rattle.am_query.specs.Patterns.{Among}
use Rattle.am_query.specs.Queries.{group_query_in, query_in}
use Rattle.am_listing.specs.Written.{alerts_text}
use Rattle.am_group_list.specs.Written.{groups_text}
use Rattle.am_api.specs.Decision.{accepted_or_refused, alerts_decided, configuration_decided, count_with, decided, decided_by, groups_decided, listed_or_refused, read_or_none, receivers_decided, stored_or_refused, text_at}
use Rattle.am_api.specs.Patterns.{patterns_by, patterns_of_document, patterns_of_items, patterns_of_request}
use Rattle.am_api.specs.Replied.{Decision, stored}
use Rattle.am_api.proofs.StoredLemmas.{among_if, none_in, nowhere, posted_patterns}
use Rattle.am_api.proofs.StoredSilences.{silence_among, silences_among}

-- alerts have none
none_from : (held : List Item) (moment : ℕ) (maker : Maker) (posted : List Alert) → patterns_of_items (items_from held moment maker posted) ≡ []
unfolding patterns_of_items items_from
none_from held moment maker [] = refl
none_from held moment maker (alert ∷ posted) = none_from held moment (record maker { used = maker.used + 1 }) posted

none_within : (past : Bool) (held : List Item) (moment : ℕ) (maker : Maker) (posted : List Alert) (decision : Decision) (ys : List (List ℕ)) →
    decision.items ≡ [] →
    Among (patterns_of_items (let chosen : Decision = if past then decision else stored (made held moment maker posted) 200 [] in chosen.items)) ys
unfolding made
none_within true held moment maker posted decision ys none = rw none (none_in ys)
none_within false held moment maker posted decision ys none = rw (none_from held moment maker (last_of_each posted)) (nowhere ys)

none_posted : (limit : ℕ) (held : List Item) (moment : ℕ) (maker : Maker) (outcome : Result (List Alert) PostedRefusal) (ys : List (List ℕ)) →
    Among (patterns_of_items (stored_or_refused limit held moment maker outcome).items) ys
none_posted limit held moment maker (Ok posted) ys = none_within (nat_lt limit (count_with held moment maker posted)) held moment maker posted _ ys refl
none_posted limit held moment maker (Err reason) ys = none_in ys

none_listed : (text : Query → List ℕ) (outcome : Result Query QueryRefusal) (ys : List (List ℕ)) →
    Among (patterns_of_items (listed_or_refused text outcome).items) ys
none_listed text (Ok query) ys = none_in ys
none_listed text (Err reason) ys = none_in ys

none_alerts : (c : config.Configuration) (request : Request) (method : Method) (held : List Item) (limits : Limits) (moment : ℕ) (maker : Maker) (ys : List (List ℕ)) →
    Among (patterns_of_items (alerts_decided c request method held limits moment maker).items) ys
none_alerts c request Get held limits moment maker ys = none_listed (λ query. alerts_text c query moment held) (query_in request.query) ys
none_alerts c request Post held limits moment maker ys = none_posted limits.alerts held moment maker (alerts.posted moment c.resolve_timeout request.body) ys
none_alerts c request Delete held limits moment maker ys = none_in ys

none_groups : (c : config.Configuration) (request : Request) (method : Method) (held : List Item) (moment : ℕ) (ys : List (List ℕ)) →
    Among (patterns_of_items (groups_decided c request method held moment).items) ys
none_groups c request Get held moment ys = none_listed (λ query. groups_text c query moment held) (group_query_in request.query) ys
none_groups c request Post held moment ys = none_in ys
none_groups c request Delete held moment ys = none_in ys

none_receivers : (c : config.Configuration) (method : Method) (ys : List (List ℕ)) → Among (patterns_of_items (receivers_decided c method).items) ys
none_receivers c Get ys = none_in ys
none_receivers c Post ys = none_in ys
none_receivers c Delete ys = none_in ys

none_read : (text : Option (List ℕ)) (ys : List (List ℕ)) → Among (patterns_of_items (read_or_none text).items) ys
none_read None ys = none_in ys
none_read (Some text) ys = none_in ys

accepted_among : (held : List Item) (moment : ℕ) (maker : Maker) (document : List ℕ) (outcome : Result config.Configuration ConfigRefusal) →
    configuration (drafts.posted document) ≡ outcome →
    Among (patterns_of_items (accepted_or_refused held moment maker outcome).items) (patterns_of_draft (drafts.posted document))
unfolding patterns_of_items
accepted_among held moment maker document (Ok c) is text there =
    rw (← posted_patterns document c is) (rw (append-nil (patterns_of_draft (drafts.draft_in c.text))) at there)
accepted_among held moment maker document (Err reason) is text there = nowhere _ text there

configuration_among : (request : Request) (method : Method) (held : List Item) (limits : Limits) (moment : ℕ) (maker : Maker) →
    Among (patterns_of_items (configuration_decided request method held limits moment maker).items) (patterns_of_document method request)
unfolding patterns_of_items
configuration_among request Get held limits moment maker = none_read (text_at (item_at ConfigurationKey held)) []
configuration_among request Post held limits moment maker =
    among_if (nat_lt limits.configuration (length request.body)) _ (accepted_or_refused held moment maker (configuration (drafts.posted request.body))) _ refl
    (accepted_among held moment maker request.body (configuration (drafts.posted request.body)) refl)
configuration_among request Delete held limits moment maker = nowhere []

-- by more texts
to_left : (own held xs : List (List ℕ)) → Among xs own → Among xs (own ++ held)
to_left own held xs among text there = Contains-append_left own held text (among text there)

by_endpoint : (c : config.Configuration) (request : Request) (endpoint : Endpoint) (held : List Item) (limits : Limits) (moment : ℕ) (maker : Maker) (words : ChaCha) →
    Among (patterns_of_items (decided_by c request endpoint held limits moment maker words).items) (patterns_by endpoint request ++ patterns_of_items held)
by_endpoint c request Alerts held limits moment maker words =
    none_alerts c request request.method held limits moment maker (patterns_by Alerts request ++ patterns_of_items held)
by_endpoint c request AlertGroups held limits moment maker words =
    none_groups c request request.method held moment (patterns_by AlertGroups request ++ patterns_of_items held)
by_endpoint c request Silences held limits moment maker words = silences_among request request.method held limits moment maker words
by_endpoint c request (Silence text) held limits moment maker words = silence_among text request.method held moment maker
by_endpoint c request Receivers held limits moment maker words = none_receivers c request.method (patterns_of_items held)
by_endpoint c request Configuration held limits moment maker words =
    to_left (patterns_of_document request.method request) (patterns_of_items held) _ (configuration_among request request.method held limits moment maker)

-- the patterns of a decision's items are among those of its request and of what is held
pub decided_among : (request : Request) (held : List Item) (limits : Limits) (moment : ℕ) (maker : Maker) (words : ChaCha) →
    Among (patterns_of_items (decided request held limits moment maker words).items) (patterns_of_request request ++ patterns_of_items held)
unfolding decided patterns_of_request
decided_among request held limits moment maker words = by_endpoint (configuration_in held) request request.endpoint held limits moment maker words
