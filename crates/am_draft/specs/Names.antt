-- Lists of label names.
use Rattle.std.specs.Prelude.{ℕ, List, Result, Ok, Err, if◌then◌else◌}
use Rattle.std.specs.List.{list_all}
use Rattle.serde_json.specs.Data.{Data}
use Rattle.am_text.specs.Outcome.{◌>>=◌}
use Rattle.am_json.specs.Reading.{texts_in}
use Rattle.am_json.specs.declared.refusal.JsonRefusal.{JsonRefusal}
use Rattle.am_json.specs.declared.refusal.JsonRefusal.TheVariants.{BadForm}
use Rattle.am_labels.specs.Labels.{is_label_name}

-- the names, each of which must be a label name
abbrev pub named : List (List ℕ) → Result (List (List ℕ)) JsonRefusal
named names = if list_all is_label_name names then Ok names else Err BadForm

-- a list of label names
abbrev pub names_in : Data → Result (List (List ℕ)) JsonRefusal
names_in d = texts_in d >>= named
