-- The keys of each kind of object, and those that are left out.
use Rattle.std.specs.Prelude.{ℕ, ◌==◌, Bool, true, false, ◌&&◌, ◌||◌, List, [], ◌∷◌, codes, Result, Ok, Err, if◌then◌else◌}
use Rattle.std.specs.List.{list_any, ends_with}
use Rattle.std.specs.Str.{bytes_eq}
use Rattle.serde_json.specs.Data.{Data, Items, no_items, item, Members, no_members, member}
use Rattle.serde_json.specs.Find.{as_array, as_object}
use Rattle.am_json.specs.declared.refusal.JsonRefusal.{JsonRefusal}
use Rattle.am_json.specs.declared.refusal.JsonRefusal.TheVariants.{BadForm}
use Rattle.am_draft.specs.declared.keys.Place.{Place}
use Rattle.am_draft.specs.declared.keys.Place.TheVariants.{Document, Top, Global, Route, Receiver, Webhook, Rule}
use Rattle.am_text.specs.Outcome.{◌>>=◌}
use Rattle.am_json.specs.Reading.{formed}

-- the text is one of these
abbrev pub has_text : List (List ℕ) → List ℕ → Bool
has_text texts text = list_any (λ known. bytes_eq text known) texts

-- the keys that an object may have
abbrev pub keys_of : Place → List (List ℕ)
keys_of Document = codes "alertmanager_config" ∷ []
keys_of Top = codes "global" ∷ codes "route" ∷ codes "receivers" ∷ codes "inhibit_rules" ∷ []
keys_of Global = codes "resolve_timeout" ∷ []
keys_of Route =
    codes "receiver" ∷ codes "group_by" ∷ codes "group_wait" ∷ codes "group_interval" ∷ codes "repeat_interval"
    ∷ codes "matchers" ∷ codes "continue" ∷ codes "routes" ∷ []
keys_of Receiver = codes "name" ∷ codes "webhook_configs" ∷ []
keys_of Webhook = codes "url" ∷ codes "send_resolved" ∷ codes "max_alerts" ∷ []
keys_of Rule = codes "source_matchers" ∷ codes "target_matchers" ∷ codes "equal" ∷ []

-- keys that are left out in any object
abbrev pub left_out_keys : List (List ℕ)
left_out_keys =
    codes "match" ∷ codes "match_re" ∷ codes "mute_time_intervals" ∷ codes "active_time_intervals"
    ∷ codes "time_intervals" ∷ codes "http_config" ∷ codes "url_file" ∷ codes "timeout" ∷ []

abbrev pub is_receiver : Place → Bool
is_receiver Receiver = true
is_receiver _ = false

-- the key is left out here; a receiver leaves out each kind of receiver but its webhooks
abbrev pub is_left_out : Place → List ℕ → Bool
is_left_out place key =
    has_text left_out_keys key || (is_receiver place && ends_with (λ a b. a == b) key (codes "_configs"))

-- a list of templates, which is left out where it holds one
abbrev pub has_items : Items → Bool
has_items no_items = false
has_items (item d ds) = true

abbrev pub templates_in : Data → Result Bool JsonRefusal
templates_in d = formed (as_array d) >>= λ ds. Ok (has_items ds)

-- an object of templates' files, which is left out where it holds one
abbrev pub has_members : Members → Bool
has_members no_members = false
has_members (member k d ms) = true

abbrev pub template_files_in : Data → Result Bool JsonRefusal
template_files_in d = formed (as_object d) >>= λ ms. Ok (has_members ms)

-- whether this key, with what it holds, is left out; refused where it is unknown
unfoldable pub key_leaves_out : Place → List ℕ → Data → Result Bool JsonRefusal
key_leaves_out place key d =
    if bytes_eq key (codes "templates") then templates_in d
    else if bytes_eq key (codes "template_files") then template_files_in d
    else if has_text (keys_of place) key then Ok false
    else if is_left_out place key then Ok true
    else Err BadForm

-- whether one of the keys is left out, or one before them was
abbrev pub leaves_out_after : Place → Bool → Members → Result Bool JsonRefusal
leaves_out_after place seen no_members = Ok seen
leaves_out_after place seen (member key d ms) =
    key_leaves_out place key d >>= λ left_out. leaves_out_after place (seen || left_out) ms

-- whether one of the object's keys is left out; refused where one is unknown, or where this is no object
abbrev pub leaves_out : Place → Data → Result Bool JsonRefusal
leaves_out place d = formed (as_object d) >>= leaves_out_after place false
