-- Items: how they are spelled, which may be, and how they are read.
use Rattle.std.specs.Prelude.{◌≡◌, ℕ, ◌<◌, ◌≤◌, ◌^◌, ◌==◌, true, false, All, List, [], ◌∷◌, ◌++◌, length, Option, Some, None, IfSome, Ok, Err, IsTrue, IsUtf8, if◌then◌else◌}
use Rattle.std.specs.List.{flat_map}
use Rattle.am_text.specs.Moment.{greatest_moment}
use Rattle.am_text.specs.Outcome.{◌>>=◌}
use Rattle.am_labels.specs.Labels.{is_label_name}
use Rattle.am_match.specs.declared.matcher.Operator.{Operator}
use Rattle.am_match.specs.declared.matcher.Operator.TheVariants.{Equal, NotEqual, Match, NotMatch}
use Rattle.am_match.specs.Matchers.{IsMatcher, MatcherText}
use Rattle.am_match.specs.Spelling.{operator_number}
use Rattle.am_ring.specs.Instances.{is_instance}
use Rattle.am_item.specs.declared.entry.SentEntry.{SentEntry}
use Rattle.am_item.specs.declared.item.Alert.{Alert}
use Rattle.am_item.specs.declared.item.Item.{Item}
use Rattle.am_item.specs.declared.item.Thing.{Thing}
use Rattle.am_item.specs.declared.item.Thing.TheVariants as thing
use Rattle.am_item.specs.declared.silence.Silence.{Silence}
use Rattle.am_item.specs.declared.stamp.Stamp.{Stamp}
use Rattle.am_wire.specs.declared.kinds.ThingKind.{ThingKind}
use Rattle.am_wire.specs.declared.kinds.ThingKind.TheVariants as kind
use Rattle.am_wire.specs.declared.refusal.WireRefusal.TheVariants.{BadValue}
use Rattle.am_wire.specs.Fields.{Reading, byte_at, bytes_at, flag_at, instance_at, moment_at, number_at, number_bytes, several, text_at, text_bytes}
use Rattle.am_wire.specs.LabelFields.{AreSetFields, IsAnnotationsField, IsSetField, label_sets_at, label_sets_bytes, labels_at, labels_bytes}

-- ---- as they are spelled

-- an operator, a name and a value
unfoldable pub matcher_bytes : MatcherText → List ℕ
matcher_bytes m = operator_number m.operator ∷ (text_bytes m.name ++ text_bytes m.value)

-- matchers behind their number
unfoldable pub matchers_bytes : List MatcherText → List ℕ
matchers_bytes ms = number_bytes 2 (length ms) ++ flat_map matcher_bytes ms

-- when and where an item was written
unfoldable pub stamp_bytes : Stamp → List ℕ
stamp_bytes s = number_bytes 8 s.moment ++ s.instance ∷ (number_bytes 4 s.incarnation ++ number_bytes 8 s.count)

-- a configuration behind a flag; one that was deleted is the flag alone
unfoldable pub configuration_bytes : Option (List ℕ) → List ℕ
configuration_bytes None = 0 ∷ []
configuration_bytes (Some text) = 1 ∷ text_bytes text

unfoldable pub silence_bytes : Silence → List ℕ
silence_bytes s =
    s.id ++ (number_bytes 8 s.starts_at ++ (number_bytes 8 s.ends_at ++ (number_bytes 8 s.kept_until
    ++ (text_bytes s.created_by ++ (text_bytes s.comment ++ matchers_bytes s.matchers)))))

unfoldable pub alert_bytes : Alert → List ℕ
alert_bytes a =
    labels_bytes a.labels ++ (labels_bytes a.annotations
    ++ (number_bytes 8 a.starts_at ++ (number_bytes 8 a.ends_at ++ text_bytes a.generator_url)))

unfoldable pub entry_bytes : SentEntry → List ℕ
entry_bytes e =
    text_bytes e.receiver ++ (text_bytes e.group ++ e.webhook ∷ (number_bytes 8 e.ends_at
    ++ (label_sets_bytes e.firing ++ label_sets_bytes e.resolved)))

-- a thing, whose kind is known
abbrev pub thing_bytes : Thing → List ℕ
thing_bytes (thing.Configuration text) = configuration_bytes text
thing_bytes (thing.Silence silence) = silence_bytes silence
thing_bytes (thing.Alert alert) = alert_bytes alert
thing_bytes (thing.SentEntry entry) = entry_bytes entry

-- the number of a kind
abbrev pub thing_number : ThingKind → ℕ
thing_number kind.Configuration = 1
thing_number kind.Silence = 2
thing_number kind.Alert = 3
thing_number kind.SentEntry = 4

abbrev pub kind_of_thing : Thing → ThingKind
kind_of_thing (thing.Configuration text) = kind.Configuration
kind_of_thing (thing.Silence silence) = kind.Silence
kind_of_thing (thing.Alert alert) = kind.Alert
kind_of_thing (thing.SentEntry entry) = kind.SentEntry

-- the kind, the stamp and the thing
unfoldable pub item_bytes : Item → List ℕ
item_bytes item = thing_number (kind_of_thing item.thing) ∷ (stamp_bytes item.stamp ++ thing_bytes item.thing)

-- items behind their number
unfoldable pub items_bytes : List Item → List ℕ
items_bytes items = number_bytes 4 (length items) ++ flat_map item_bytes items

-- ---- which may be

-- the stamp names an instance, and its numbers fit their bytes
pub record IsStamp (s : Stamp) : Type 0 where
  pub moment : s.moment ≤ greatest_moment
  pub instance : IsTrue (is_instance s.instance)
  pub incarnation : s.incarnation < 2 ^ 32
  pub count : s.count < 2 ^ 64

-- the number of matchers fits 2 bytes
pub record AreMatchers (ms : List MatcherText) : Type 0 where
  pub each : All IsMatcher ms
  pub few : length ms < 2 ^ 16

pub record IsSilence (s : Silence) : Type 0 where
  pub id : length s.id ≡ 16
  pub starts_at : s.starts_at ≤ greatest_moment
  pub ends_at : s.ends_at ≤ greatest_moment
  pub kept_until : s.kept_until ≤ greatest_moment
  pub created_by : IsUtf8 s.created_by
  pub comment : IsUtf8 s.comment
  pub matchers : AreMatchers s.matchers

pub record IsAlert (a : Alert) : Type 0 where
  pub labels : IsSetField a.labels
  pub annotations : IsAnnotationsField a.annotations
  pub starts_at : a.starts_at ≤ greatest_moment
  pub ends_at : a.ends_at ≤ greatest_moment
  pub generator_url : IsUtf8 a.generator_url

pub record IsEntry (e : SentEntry) : Type 0 where
  pub receiver : IsUtf8 e.receiver
  pub group : IsUtf8 e.group
  pub webhook : e.webhook < 2 ^ 8
  pub ends_at : e.ends_at ≤ greatest_moment
  pub firing : AreSetFields e.firing
  pub resolved : AreSetFields e.resolved

abbrev pub IsThing : Thing → Type 0
IsThing (thing.Configuration text) = IfSome text IsUtf8
IsThing (thing.Silence silence) = IsSilence silence
IsThing (thing.Alert alert) = IsAlert alert
IsThing (thing.SentEntry entry) = IsEntry entry

pub record IsItem (item : Item) : Type 0 where
  pub stamp : IsStamp item.stamp
  pub thing : IsThing item.thing

-- ---- as they are read

unfoldable pub operator_at : List ℕ → Reading Operator
operator_at bytes = do
  (byte, rest) ← byte_at bytes
  if byte == 0 then Ok (Equal, rest)
      else (if byte == 1 then Ok (NotEqual, rest)
      else (if byte == 2 then Ok (Match, rest)
      else (if byte == 3 then Ok (NotMatch, rest) else Err BadValue)))

-- the name of a label
unfoldable pub matcher_name_at : List ℕ → Reading (List ℕ)
matcher_name_at bytes = do
  (name, rest) ← text_at bytes
  if is_label_name name then Ok (name, rest) else Err BadValue

unfoldable pub matcher_at : List ℕ → Reading MatcherText
matcher_at bytes = do
  (operator, after) ← operator_at bytes
  (name, behind) ← matcher_name_at after
  (value, rest) ← text_at behind
  Ok (record { operator = operator; name = name; value = value }, rest)

unfoldable pub matchers_at : List ℕ → Reading (List MatcherText)
matchers_at bytes = do
  (n, behind) ← number_at 2 bytes
  several (λ before. matcher_at) n None behind

unfoldable pub stamp_at : List ℕ → Reading Stamp
stamp_at bytes = do
  (moment, after_moment) ← moment_at bytes
  (instance, after_instance) ← instance_at after_moment
  (incarnation, behind) ← number_at 4 after_instance
  (count, rest) ← number_at 8 behind
  Ok (record { moment = moment; instance = instance; incarnation = incarnation; count = count }, rest)

unfoldable pub configuration_at : List ℕ → Reading (Option (List ℕ))
configuration_at bytes = do
  (is_present, behind) ← flag_at bytes
  if is_present then (text_at behind >>= λ read. Ok (Some read.0, read.1)) else Ok (None, behind)

unfoldable pub silence_at : List ℕ → Reading Silence
silence_at bytes = do
  (id, after_id) ← bytes_at 16 bytes
  (starts_at, after_start) ← moment_at after_id
  (ends_at, after_end) ← moment_at after_start
  (kept_until, after_kept) ← moment_at after_end
  (created_by, after_author) ← text_at after_kept
  (comment, behind) ← text_at after_author
  (matchers, rest) ← matchers_at behind
  Ok (
    record {
      id = id;
      starts_at = starts_at;
      ends_at = ends_at;
      kept_until = kept_until;
      created_by = created_by;
      comment = comment;
      matchers = matchers;
    },
    rest,
  )

unfoldable pub alert_at : List ℕ → Reading Alert
alert_at bytes = do
  (labels, after_labels) ← labels_at false bytes
  (annotations, after_annotations) ← labels_at true after_labels
  (starts_at, after_start) ← moment_at after_annotations
  (ends_at, behind) ← moment_at after_start
  (generator_url, rest) ← text_at behind
  Ok (
    record {
      labels = labels;
      annotations = annotations;
      starts_at = starts_at;
      ends_at = ends_at;
      generator_url = generator_url;
    },
    rest,
  )

unfoldable pub entry_at : List ℕ → Reading SentEntry
entry_at bytes = do
  (receiver, after_receiver) ← text_at bytes
  (group, after_group) ← text_at after_receiver
  (webhook, after_webhook) ← byte_at after_group
  (ends_at, after_end) ← moment_at after_webhook
  (firing, behind) ← label_sets_at after_end
  (resolved, rest) ← label_sets_at behind
  Ok (
    record {
      receiver = receiver;
      group = group;
      webhook = webhook;
      ends_at = ends_at;
      firing = firing;
      resolved = resolved;
    },
    rest,
  )

unfoldable pub thing_kind_at : List ℕ → Reading ThingKind
thing_kind_at bytes = do
  (byte, rest) ← byte_at bytes
  if byte == 1 then Ok (kind.Configuration, rest)
      else (if byte == 2 then Ok (kind.Silence, rest)
      else (if byte == 3 then Ok (kind.Alert, rest)
      else (if byte == 4 then Ok (kind.SentEntry, rest) else Err BadValue)))

-- a thing of this kind
unfoldable pub thing_at : ThingKind → List ℕ → Reading Thing
thing_at kind.Configuration bytes = do
  (text, rest) ← configuration_at bytes
  Ok (thing.Configuration text, rest)
thing_at kind.Silence bytes = do
  (silence, rest) ← silence_at bytes
  Ok (thing.Silence silence, rest)
thing_at kind.Alert bytes = do
  (alert, rest) ← alert_at bytes
  Ok (thing.Alert alert, rest)
thing_at kind.SentEntry bytes = do
  (entry, rest) ← entry_at bytes
  Ok (thing.SentEntry entry, rest)

unfoldable pub item_at : List ℕ → Reading Item
item_at bytes = do
  (its_kind, after_kind) ← thing_kind_at bytes
  (stamp, behind) ← stamp_at after_kind
  (what, rest) ← thing_at its_kind behind
  Ok (record { stamp = stamp; thing = what }, rest)

unfoldable pub items_at : List ℕ → Reading (List Item)
items_at bytes = do
  (n, behind) ← number_at 4 bytes
  several (λ before. item_at) n None behind
