-- How requests are refused where a pattern of theirs is not built: by the first check that fails, in their order.
use Rattle.std.specs.Prelude.{◌≡◌, ◌⊎◌, ℕ, ◌≤◌, true, List, [], codes, length}
use Rattle.std.specs.List.{list_all}
use Rattle.am_pattern.specs.Cache.{Cache}
use Rattle.am_draft.specs.Drafts.{posted}
use Rattle.am_config.specs.declared.refusal.ConfigRefusal.{ConfigRefusal}
use Rattle.am_config.specs.Judging.{IsRefusalOf}
use Rattle.am_config.specs.Refusals as config_refusals
use Rattle.am_http.specs.declared.request.Method.{Method}
use Rattle.am_http.specs.declared.request.Method.TheVariants.{Get, Post, Delete}
use Rattle.am_http.specs.declared.request.Endpoint.{Endpoint}
use Rattle.am_http.specs.declared.request.Endpoint.TheVariants.{Alerts, AlertGroups, Silences, Silence, Receivers}
use Rattle.am_http.specs.declared.request.Endpoint.TheVariants.{Configuration}
use Rattle.am_http.specs.declared.request.Request.{Request}
use Rattle.am_limit.specs.declared.limits.Limits.{Limits}
use Rattle.am_query.specs.declared.query.Parameter.{Parameter}
use Rattle.am_query.specs.declared.refusal.QueryRefusal.{QueryRefusal}
use Rattle.am_query.specs.Queries as queries
use Rattle.am_query.specs.Stopping.{StopsAt, is_fine}
use Rattle.am_silence.specs.Deciding.{FirstDecides}
use Rattle.am_silence.specs.Posted.{patterns_in_body}
use Rattle.am_silence.specs.Unbuilt.{IsUnbuilt}
use Rattle.am_silence.specs.declared.refusal.SilenceRefusal.{SilenceRefusal}
use Rattle.am_api.specs.Decision.{status_of}
use Rattle.am_api.specs.Replied.{Decision, refused}
use Rattle.am_api.specs.Silences.{refused_for}

-- the refusal of a query
abbrev pub refused_query : QueryRefusal → Decision
refused_query reason = refused (queries.status_of reason) (queries.code_of reason)

-- a query is refused at the first of its parameters that is
abbrev pub QueryRefuses : List Parameter → Cache → Cache → Decision → Type 0
QueryRefuses parameters old new d = (reason : QueryRefusal) × (d ≡ refused_query reason)
    × StopsAt parameters reason old new

-- a pattern of a query that was read isn't built when it is asked
abbrev pub IsNotAnswered : List Parameter → Decision → Type 0
IsNotAnswered parameters d = (d ≡ refused 503 (codes "B2")) × (list_all is_fine parameters ≡ true)

-- a list is refused for its query, or for such a pattern
abbrev pub ListRefuses : List Parameter → Cache → Cache → Decision → Type 0
ListRefuses parameters old new d = QueryRefuses parameters old new d ⊎ IsNotAnswered parameters d

-- a posted silence is refused, within its limit, for the first of its patterns that is
abbrev pub SilenceRefuses : List ℕ → Limits → Cache → Cache → Decision → Type 0
SilenceRefuses body limits old new d =
    (length body ≤ limits.silence) × (reason : SilenceRefusal) × (d ≡ refused_for reason)
    × IsUnbuilt new.refused (patterns_in_body body) reason × FirstDecides (patterns_in_body body) old new reason

-- the refusal of a configuration
abbrev pub refused_document : ConfigRefusal → Decision
refused_document reason = refused (status_of reason) (config_refusals.code_of reason)

-- a posted configuration is refused, within its limit, at its first text of matchers that is
abbrev pub ConfigurationRefuses : List ℕ → Limits → Cache → Cache → Decision → Type 0
ConfigurationRefuses document limits old new d =
    (length document ≤ limits.configuration) × (reason : ConfigRefusal) × (d ≡ refused_document reason)
    × IsRefusalOf (posted document) old new reason

-- by what the request speaks of, and by its method: no other one has patterns
abbrev pub AlertsRefuse : Method → Request → Cache → Cache → Decision → Type 0
AlertsRefuse Get request old new d = ListRefuses (queries.parameters_in request.query) old new d
AlertsRefuse Post request old new d = ⊥
AlertsRefuse Delete request old new d = ⊥

abbrev pub GroupsRefuse : Method → Request → Cache → Cache → Decision → Type 0
GroupsRefuse Get request old new d = ListRefuses
    (queries.processed_among (queries.parameters_in request.query)) old new d
GroupsRefuse Post request old new d = ⊥
GroupsRefuse Delete request old new d = ⊥

abbrev pub SilencesRefuse : Method → Request → Limits → Cache → Cache → Decision → Type 0
SilencesRefuse Get request limits old new d = QueryRefuses
    (queries.filters_among (queries.parameters_in request.query)) old new d
SilencesRefuse Post request limits old new d = SilenceRefuses request.body limits old new d
SilencesRefuse Delete request limits old new d = ⊥

abbrev pub DocumentRefuses : Method → Request → Limits → Cache → Cache → Decision → Type 0
DocumentRefuses Get request limits old new d = ⊥
DocumentRefuses Post request limits old new d = ConfigurationRefuses request.body limits old new d
DocumentRefuses Delete request limits old new d = ⊥

abbrev pub RefusesBy : Endpoint → Request → Limits → Cache → Cache → Decision → Type 0
RefusesBy Alerts request limits old new d = AlertsRefuse request.method request old new d
RefusesBy AlertGroups request limits old new d = GroupsRefuse request.method request old new d
RefusesBy Silences request limits old new d = SilencesRefuse request.method request limits old new d
RefusesBy (Silence text) request limits old new d = ⊥
RefusesBy Receivers request limits old new d = ⊥
RefusesBy Configuration request limits old new d = DocumentRefuses request.method request limits old new d

-- a request is refused so
unfoldable pub Refuses : Request → Limits → Cache → Cache → Decision → Type 0
Refuses request limits old new d = RefusesBy request.endpoint request limits old new d

-- ---- the stored patterns that requests ask

-- the lists of alerts and of groups ask those in use
abbrev pub asked_by_method : Method → List (List ℕ) → List (List ℕ)
asked_by_method Get in_use = in_use
asked_by_method Post in_use = []
asked_by_method Delete in_use = []

abbrev pub asked_by : Endpoint → Method → List (List ℕ) → List (List ℕ)
asked_by Alerts method in_use = asked_by_method method in_use
asked_by AlertGroups method in_use = asked_by_method method in_use
asked_by Silences method in_use = []
asked_by (Silence text) method in_use = []
asked_by Receivers method in_use = []
asked_by Configuration method in_use = []

-- of those in use the ones that a request asks
unfoldable pub stored_asked : Request → List (List ℕ) → List (List ℕ)
stored_asked request in_use = asked_by request.endpoint request.method in_use
