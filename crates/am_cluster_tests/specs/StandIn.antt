-- A decision that stands in for the real one: a POST stores an alert for each byte of its body, and a GET lists those
-- bytes; or, of the configuration, stores the body as its text, and reads that.
use Rattle.std.specs.Prelude.{ℕ, ◌+◌, List, [], ◌∷◌, codes, map, Some, option_map, unwrap_or}
use Rattle.std.specs.List.{flat_map}
use Rattle.am_alert.specs.Made.{made, stamp_moment}
use Rattle.am_api.specs.Replied.{Decision, refused, replied, stored}
use Rattle.am_http.specs.declared.request.Endpoint.{Endpoint}
use Rattle.am_http.specs.declared.request.Endpoint.TheVariants.{Alerts, AlertGroups, Silences, Silence, Receivers, Configuration}
use Rattle.am_http.specs.declared.request.Method.{Method}
use Rattle.am_http.specs.declared.request.Method.TheVariants.{Get, Post, Delete}
use Rattle.am_http.specs.declared.request.Request.{Request}
use Rattle.am_item.specs.Best.{item_at}
use Rattle.am_item.specs.Key.{ConfigurationKey}
use Rattle.am_item.specs.declared.item.Alert.{Alert}
use Rattle.am_item.specs.declared.item.Item.{Item}
use Rattle.am_item.specs.declared.item.Thing.{Thing}
use Rattle.am_item.specs.declared.item.Thing.TheVariants as thing
use Rattle.am_labels.specs.declared.Label.{Label}
use Rattle.am_cluster.specs.Here.{Here}
use Rattle.am_cluster.specs.Local.{Local}
use Rattle.am_cluster.specs.Operating.{Decide, maker}

-- the alert of a byte: the label `a` has it as its value, and it fires for five minutes
abbrev pub alert_for : (moment byte : ℕ) → Alert
alert_for moment byte = record {
  labels = record { name = codes "a"; value = byte ∷ [] } ∷ [];
  annotations = [];
  starts_at = moment;
  ends_at = moment + 300_000;
  generator_url = [];
}

-- the bytes of which there are alerts in a list
abbrev pub bytes_of_labels : List Label → List ℕ
bytes_of_labels labels = flat_map (λ (l : Label). l.value) labels

abbrev pub bytes_of_thing : Thing → List ℕ
bytes_of_thing (thing.Alert alert) = bytes_of_labels alert.labels
bytes_of_thing (thing.Configuration text) = []
bytes_of_thing (thing.Silence silence) = []
bytes_of_thing (thing.SentEntry entry) = []

abbrev pub bytes_listed : List Item → List ℕ
bytes_listed items = flat_map (λ (item : Item). bytes_of_thing item.thing) items

abbrev pub text_of_thing : Thing → List ℕ
text_of_thing (thing.Configuration text) = unwrap_or text []
text_of_thing (thing.Alert alert) = []
text_of_thing (thing.Silence silence) = []
text_of_thing (thing.SentEntry entry) = []

abbrev pub text_listed : List Item → List ℕ
text_listed items = flat_map (λ (item : Item). text_of_thing item.thing) items

abbrev pub configuration_for : Here → List Item → Local → List ℕ → Item
configuration_for here list local text = record {
  stamp = record {
    moment = stamp_moment here.moment (option_map (λ (item : Item). item.stamp.moment) (item_at ConfigurationKey list));
    instance = here.instance;
    incarnation = here.incarnation;
    count = local.ledger.stamps + 1;
  };
  thing = thing.Configuration (Some text);
}

abbrev pub on_alerts : Method → Here → Request → List Item → Local → Decision
on_alerts Get here request list local = replied 200 (bytes_listed list)
on_alerts Post here request list local =
    stored (made list here.moment (maker here local.ledger) (map (alert_for here.moment) request.body)) 200 []
on_alerts Delete here request list local = refused 405 (codes "H6")

abbrev pub on_configuration : Method → Here → Request → List Item → Local → Decision
on_configuration Get here request list local = replied 200 (text_listed list)
on_configuration Post here request list local = stored (configuration_for here list local request.body ∷ []) 201 []
on_configuration Delete here request list local = refused 405 (codes "H6")

abbrev pub by_endpoint : Endpoint → Here → Request → List Item → Local → Decision
by_endpoint Alerts here request list local = on_alerts request.method here request list local
by_endpoint Configuration here request list local = on_configuration request.method here request list local
by_endpoint AlertGroups here request list local = refused 404 (codes "H5")
by_endpoint Silences here request list local = refused 404 (codes "H5")
by_endpoint (Silence text) here request list local = refused 404 (codes "H5")
by_endpoint Receivers here request list local = refused 404 (codes "H5")

abbrev pub stand_in : Decide
stand_in here request list local = by_endpoint request.endpoint here request list local

-- ---- requests of the tenant `a`

abbrev pub tenant : List ℕ
tenant = codes "a"

abbrev pub request_of : Method → Endpoint → (body : List ℕ) → Request
request_of method endpoint body =
    record { tenant = tenant; method = method; endpoint = endpoint; query = []; body = body }

abbrev pub get_alerts : Request
get_alerts = request_of Get Alerts []

abbrev pub post_alerts : List ℕ → Request
post_alerts bytes = request_of Post Alerts bytes

abbrev pub get_configuration : Request
get_configuration = request_of Get Configuration []

abbrev pub post_configuration : List ℕ → Request
post_configuration text = request_of Post Configuration text
