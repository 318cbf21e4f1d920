-- What one object of a posted list says.
use Rattle.std.specs.Prelude.{List, [], length, nat_le, Option, None, Result, Ok, Err, if◌then◌else◌, codes}
use Rattle.serde_json.specs.Data.{Data}
use Rattle.serde_json.specs.Find.{get, as_object}
use Rattle.am_text.specs.Outcome.{◌>>=◌, outcome_as}
use Rattle.am_labels.specs.declared.Label.{Label}
use Rattle.am_labels.specs.Sets.{label_set, annotations}
use Rattle.am_json.specs.Reading.{formed, moment_in, optional, pairs_in, text_in}
use Rattle.am_json.specs.declared.refusal.JsonRefusal.{JsonRefusal}
use Rattle.am_json.specs.declared.refusal.JsonRefusal.TheVariants.{BadForm}
use Rattle.am_alert.specs.declared.written.Written.{Written}

-- an alert has at most 64 labels, and at most 64 annotations
abbrev pub few : List Label → Result (List Label) JsonRefusal
few labels = if nat_le (length labels) 64 then Ok labels else Err BadForm

-- the label set of an object that there may be: empty values are left out, each name is a label name
unfoldable pub labels_in : Option Data → Result (List Label) JsonRefusal
labels_in found = do
  pairs ← optional [] pairs_in found
  labels ← outcome_as BadForm (label_set pairs)
  few labels

-- the annotations of an object that there may be, whose names are label names too
unfoldable pub annotations_in : Option Data → Result (List Label) JsonRefusal
annotations_in found = do
  pairs ← optional [] pairs_in found
  made ← outcome_as BadForm (annotations pairs)
  few made

-- everything that an object says of an alert; keys of other names are passed over
unfoldable pub written_of : Data → Result Written JsonRefusal
written_of d = do
  members ← formed (as_object d)
  labels ← labels_in (get (codes "labels") d)
  found ← annotations_in (get (codes "annotations") d)
  starts_at ← optional None moment_in (get (codes "startsAt") d)
  ends_at ← optional None moment_in (get (codes "endsAt") d)
  generator_url ← optional [] text_in (get (codes "generatorURL") d)
  Ok (record { labels = labels; annotations = found; starts_at = starts_at; ends_at = ends_at; generator_url = generator_url })
