-- What a posted body says: its alerts, or the first refusal, by which all of it is refused.
use Rattle.std.specs.Prelude.{ℕ, ◌+◌, min, List, [], ◌∷◌, ◌==◌, codes, length, nat_lt, Result, Ok, Err, if◌then◌else◌, unwrap_or}
use Rattle.serde_json.specs.Data.{Data, Items, no_items, item}
use Rattle.serde_json.specs.Find.{as_array}
use Rattle.am_text.specs.Moment.{greatest_moment}
use Rattle.am_text.specs.Outcome.{◌>>=◌, outcome_as}
use Rattle.am_json.specs.Reading.{formed, json}
use Rattle.am_item.specs.declared.item.Alert.{Alert}
use Rattle.am_alert.specs.declared.refusal.PostedRefusal.{PostedRefusal}
use Rattle.am_alert.specs.declared.refusal.PostedRefusal.TheVariants.{NoLabels, EndsBeforeStart, BadForm}
use Rattle.am_alert.specs.declared.written.Written.{Written}
use Rattle.am_alert.specs.Written.{written_of}

-- the code that a refusal shows
abbrev pub code_of : PostedRefusal → List ℕ
code_of NoLabels = codes "A1"
code_of EndsBeforeStart = codes "A2"
code_of BadForm = codes "A3"

-- an absent end is the moment of the post and resolve_timeout more; an absent start is the end that was given, else the moment
abbrev pub completed : ℕ → ℕ → Written → Alert
completed moment resolve_timeout w = record {
  labels = w.labels;
  annotations = w.annotations;
  starts_at = unwrap_or w.starts_at (unwrap_or w.ends_at moment);
  ends_at = unwrap_or w.ends_at (min (moment + resolve_timeout) greatest_moment);
  generator_url = w.generator_url;
}

-- an alert has a label, and doesn't end before it starts
abbrev pub judged : Alert → Result Alert PostedRefusal
judged alert = if length alert.labels == 0 then Err NoLabels else (if nat_lt alert.ends_at alert.starts_at then Err EndsBeforeStart else Ok alert)

-- one alert: its form comes before what it says
unfoldable pub alert_of : ℕ → ℕ → Data → Result Alert PostedRefusal
alert_of moment resolve_timeout d = outcome_as BadForm (written_of d) >>= λ w. judged (completed moment resolve_timeout w)

-- the alerts in the order of the list, up to the first refusal
unfoldable pub alerts_of : ℕ → ℕ → Items → Result (List Alert) PostedRefusal
alerts_of moment resolve_timeout no_items = Ok []
alerts_of moment resolve_timeout (item d ds) = do
  alert ← alert_of moment resolve_timeout d
  alerts ← alerts_of moment resolve_timeout ds
  Ok (alert ∷ alerts)

-- the body is a JSON array of alerts
unfoldable pub posted : ℕ → ℕ → List ℕ → Result (List Alert) PostedRefusal
posted moment resolve_timeout body = do
  d ← outcome_as BadForm (json body)
  ds ← outcome_as BadForm (formed (as_array d))
  alerts_of moment resolve_timeout ds
