-- The first place at which a value has the refusal that is looked for. Objects are gone through in the order of keys'
-- bytes, lists in their order, and what stands in a value comes after the value itself.
use Rattle.std.specs.Prelude.{ℕ, ◌+◌, List, [], codes, Option, Some, None, Result, Ok, Err, if◌then◌else◌}
use Rattle.serde_json.specs.Data.{Data, null, boolean, number, string, array, object, Items, no_items, item, Members}
use Rattle.serde_json.specs.Data.{no_members, member}
use Rattle.serde_json.specs.Events.{items_len}
use Rattle.serde_json.specs.Find.{as_str, get}
use Rattle.am_text.specs.Outcome.{◌>>=◌}
use Rattle.am_json.specs.Reading.{json}
use Rattle.am_json.specs.declared.refusal.JsonRefusal.{JsonRefusal}
use Rattle.am_place.specs.Places.{at_key}
use Rattle.am_judge.specs.declared.cause.Cause.{Cause}
use Rattle.am_judge.specs.declared.cause.Cause.TheVariants.{Absent, Value}
use Rattle.am_judge.specs.declared.cause.Finding.{Finding}
use Rattle.am_judge.specs.declared.facts.Facts.{Facts}
use Rattle.am_judge.specs.declared.kind.Kind.{Kind}
use Rattle.am_judge.specs.declared.kind.Kind.TheVariants as kind
use Rattle.am_judge.specs.declared.kind.ObjectKind.TheVariants as object_kind
use Rattle.am_judge.specs.declared.kind.TextKind.TheVariants as text_kind
use Rattle.am_judge.specs.Causes.{cause_of}
use Rattle.am_judge.specs.Faults.{has_fault, is_for_form}
use Rattle.am_judge.specs.Kinds.{absent_key, item_of, member_of, numbered}
use Rattle.am_judge.specs.Places.{at_item}

-- passed, or the place at which it is not, and what stands there
abbrev pub Checked : Type 0
Checked = Result (Unit {0}) Finding

abbrev pub refused_at : List ℕ → Cause → Checked
refused_at place cause = Err (record { place = place; cause = cause })

-- a key that is absent and must be there
abbrev pub checked_keys : List ℕ → Option (List ℕ) → Checked
checked_keys place None = Ok tt
checked_keys place (Some key) = refused_at (at_key place key) Absent

-- the value by itself, with the keys that it must have
unfoldable pub here : Facts → List ℕ → Kind → Data → Checked
here facts place k d =
    if has_fault facts k d then refused_at place (cause_of facts.reason k d)
    else if is_for_form facts.reason then checked_keys place (absent_key k d)
    else Ok tt

abbrev mutual
  -- a value of this kind at this place, and then all that stands in it
  pub checked : Facts → List ℕ → Kind → Data → Checked
  checked facts place k null = here facts place k null
  checked facts place k (boolean b) = here facts place k (boolean b)
  checked facts place k (number n) = here facts place k (number n)
  checked facts place k (string s) = here facts place k (string s)
  checked facts place k (array ds) =
      here facts place k (array ds) >>= λ _. checked_items facts place (item_of k (items_len ds)) 0 ds
  checked facts place k (object ms) =
      here facts place k (object ms) >>= λ _. checked_members facts place k ms

  -- the items of a list from this number on, the first of the list of this kind
  pub checked_items : Facts → List ℕ → Kind → ℕ → Items → Checked
  checked_items facts place k n no_items = Ok tt
  checked_items facts place k n (item d ds) =
      checked facts (at_item place n) (numbered k n) d >>= λ _. checked_items facts place k (n + 1) ds

  -- the members of an object of this kind
  pub checked_members : Facts → List ℕ → Kind → Members → Checked
  checked_members facts place k no_members = Ok tt
  checked_members facts place k (member key d ms) =
      checked facts (at_key place key) (member_of k key) d >>= λ _. checked_members facts place k ms

-- the value of a configuration's text; a text that isn't JSON is refused where it stands
abbrev pub checked_top : Facts → Result Data JsonRefusal → Checked
checked_top facts (Ok d) = checked facts [] (kind.Object object_kind.Top) d
checked_top facts (Err refusal) = refused_at (codes "alertmanager_config") (Value (kind.Text text_kind.Plain))

abbrev pub checked_within : Facts → List ℕ → Checked
checked_within facts text = checked_top facts (json text)

abbrev pub checked_or_none : Facts → Option (List ℕ) → Checked
checked_or_none facts None = Ok tt
checked_or_none facts (Some text) = checked_within facts text

abbrev pub checked_at : Facts → Option Data → Checked
checked_at facts None = Ok tt
checked_at facts (Some d) = checked_or_none facts (as_str d)

-- the text in a document, where there is one
abbrev pub checked_text : Facts → Data → Checked
checked_text facts d = checked_at facts (get (codes "alertmanager_config") d)

-- a document: the text in it, and then itself
unfoldable pub checked_document : Facts → Data → Checked
checked_document facts d =
    checked_text facts d >>= λ _. checked facts [] (kind.Object object_kind.Document) d
