-- What is spelled is read again: items.
use Rattle.std.proofs.Common.{◌≡◌, ℕ, ◌<◌, ◌≤◌, ◌^◌, List, [], ◌∷◌, ◌++◌, length, Option, Some, None, Ok, All, refl, ap, ◌∙◌, append_assoc, length-append, arith, IsUtf8}
use Rattle.std.specs.List.{flat_map}
use Rattle.std.specs.Prelude.{IfSome}
use Rattle.std.proofs.lemmas.List.Elements.{All-head, All-tail}
use Rattle.std.proofs.lemmas.Str.{IsUtf8-from_ascii}
use Rattle.am_match.specs.declared.matcher.Operator.{Operator}
use Rattle.am_match.specs.declared.matcher.Operator.TheVariants.{Equal, NotEqual, Match, NotMatch}
use Rattle.am_match.specs.Matchers.{IsMatcher, MatcherText}
use Rattle.am_match.specs.Spelling.{operator_number}
use Rattle.am_match.proofs.NameLemmas.{all_in_name, IsAscii-all_in_name}
use Rattle.am_item.specs.declared.entry.SentEntry.{SentEntry}
use Rattle.am_item.specs.declared.item.Alert.{Alert}
use Rattle.am_item.specs.declared.item.Item.{Item}
use Rattle.am_item.specs.declared.item.Thing.{Thing}
use Rattle.am_item.specs.declared.item.Thing.TheVariants as thing
use Rattle.am_item.specs.declared.silence.Silence.{Silence}
use Rattle.am_item.specs.declared.stamp.Stamp.{Stamp}
use Rattle.am_wire.specs.declared.kinds.ThingKind.{ThingKind}
use Rattle.am_wire.specs.declared.kinds.ThingKind.TheVariants as kind
use Rattle.am_wire.specs.Fields.{Chain, flag_at, number_bytes, text_bytes}
use Rattle.am_wire.specs.LabelFields.{label_sets_bytes, labels_bytes}
use Rattle.am_wire.specs.ItemFields.{AreMatchers, IsAlert, IsEntry, IsItem, IsSilence, IsStamp, IsThing, alert_at, alert_bytes, configuration_at, configuration_bytes, entry_at, entry_bytes, item_at, item_bytes, items_at, items_bytes, kind_of_thing, matcher_at, matcher_bytes, matcher_name_at, matchers_at, matchers_bytes, operator_at, silence_at, silence_bytes, stamp_at, stamp_bytes, thing_at, thing_bytes, thing_kind_at, thing_number}
use Rattle.am_wire.proofs.FieldsAgain.{bytes_again, instance_again, length-several, moment_again, number_again, several_again, short_back, short_front, text_again}
use Rattle.am_wire.proofs.LabelsAgain.{annotations_again, label_sets_again, set_again}

operator_again : (operator : Operator) (rest : List ℕ) → operator_at (operator_number operator ∷ rest) ≡ Ok (operator, rest)
unfolding operator_at
operator_again Equal rest = refl
operator_again NotEqual rest = refl
operator_again Match rest = refl
operator_again NotMatch rest = refl

matcher_again : (m : MatcherText) (rest : List ℕ) → IsMatcher m → length (matcher_bytes m) < 2 ^ 32 → matcher_at (matcher_bytes m ++ rest) ≡ Ok (m, rest)
unfolding matcher_at matcher_bytes matcher_name_at
matcher_again m rest is short =
    let sum = length-append (text_bytes m.name) (text_bytes m.value) in
    let utf8 : IsUtf8 m.name = IsUtf8-from_ascii m.name (IsAscii-all_in_name m.name (all_in_name m.name is.named)) in
    let name = text_again m.name (text_bytes m.value ++ rest) utf8 (omega (arith, short, sum)) in
    let value = text_again m.value rest is.text (omega (arith, short, sum)) in
    ap (λ (xs : List ℕ). matcher_at (operator_number m.operator ∷ xs)) (append_assoc (text_bytes m.name) (text_bytes m.value) rest)
    ∙ rw (operator_again m.operator (text_bytes m.name ++ (text_bytes m.value ++ rest)), name, is.named, value) refl

-- what holds of each thing holds whatever stands before it
chain_of_all : {A : Type 0} (Q : A → Type 0) (before : Option A) (xs : List A) → All Q xs → Chain (λ _. Q) before xs
chain_of_all Q before [] all = tt
chain_of_all Q before (x ∷ xs) all = (All-head Q x xs all, chain_of_all Q (Some x) xs (All-tail Q x xs all))

matchers_again : (ms : List MatcherText) (rest : List ℕ) → AreMatchers ms → length (matchers_bytes ms) < 2 ^ 32 →
    matchers_at (matchers_bytes ms ++ rest) ≡ Ok (ms, rest)
unfolding matchers_at matchers_bytes
matchers_again ms rest are short =
    ap matchers_at (append_assoc (number_bytes 2 (length ms)) (flat_map matcher_bytes ms) rest)
    ∙ rw (number_again 2 (length ms) (flat_map matcher_bytes ms ++ rest) are.few)
    (several_again (λ before. matcher_at) matcher_bytes (λ before. IsMatcher) (λ before. matcher_again) None ms rest
    (chain_of_all IsMatcher None ms are.each) (short_back (number_bytes 2 (length ms)) (flat_map matcher_bytes ms) short))

stamp_again : (s : Stamp) (rest : List ℕ) → IsStamp s → stamp_at (stamp_bytes s ++ rest) ≡ Ok (s, rest)
unfolding stamp_at stamp_bytes
stamp_again s rest is =
    let regrouped : stamp_bytes s ++ rest ≡ number_bytes 8 s.moment ++ s.instance ∷ (number_bytes 4 s.incarnation ++ (number_bytes 8 s.count ++ rest)) =
    simp append_assoc in
    ap stamp_at regrouped
    ∙ rw (
      moment_again s.moment (s.instance ∷ (number_bytes 4 s.incarnation ++ (number_bytes 8 s.count ++ rest))) is.moment,
      instance_again s.instance (number_bytes 4 s.incarnation ++ (number_bytes 8 s.count ++ rest)) is.instance,
      number_again 4 s.incarnation (number_bytes 8 s.count ++ rest) is.incarnation,
      number_again 8 s.count rest is.count,
    ) refl

configuration_again : (text : Option (List ℕ)) (rest : List ℕ) → IfSome text IsUtf8 → length (configuration_bytes text) < 2 ^ 32 →
    configuration_at (configuration_bytes text ++ rest) ≡ Ok (text, rest)
unfolding configuration_at configuration_bytes flag_at
configuration_again None rest is short = refl
configuration_again (Some text) rest is short = rw (text_again text rest is (omega (arith, short))) refl

silence_again : (s : Silence) (rest : List ℕ) → IsSilence s → length (silence_bytes s) < 2 ^ 32 → silence_at (silence_bytes s ++ rest) ≡ Ok (s, rest)
unfolding silence_at silence_bytes
silence_again s rest is short =
    let five : List ℕ = text_bytes s.comment ++ matchers_bytes s.matchers in
    let four : List ℕ = text_bytes s.created_by ++ five in
    let three : List ℕ = number_bytes 8 s.kept_until ++ four in
    let two : List ℕ = number_bytes 8 s.ends_at ++ three in
    let one : List ℕ = number_bytes 8 s.starts_at ++ two in
    let short_four = short_back (number_bytes 8 s.kept_until) four (short_back (number_bytes 8 s.ends_at) three
    (short_back (number_bytes 8 s.starts_at) two (short_back s.id one short))) in
    let short_five = short_back (text_bytes s.created_by) five short_four in
    let last : List ℕ = matchers_bytes s.matchers ++ rest in
    let regrouped : silence_bytes s ++ rest ≡ s.id ++ (number_bytes 8 s.starts_at ++ (number_bytes 8 s.ends_at ++ (number_bytes 8 s.kept_until
    ++ (text_bytes s.created_by ++ (text_bytes s.comment ++ last))))) = simp append_assoc in
    ap silence_at regrouped
    ∙ rw (
      bytes_again 16 s.id (number_bytes 8 s.starts_at ++ (number_bytes 8 s.ends_at ++ (number_bytes 8 s.kept_until ++ (text_bytes s.created_by ++ (text_bytes s.comment ++ last))))) is.id,
      moment_again s.starts_at (number_bytes 8 s.ends_at ++ (number_bytes 8 s.kept_until ++ (text_bytes s.created_by ++ (text_bytes s.comment ++ last)))) is.starts_at,
      moment_again s.ends_at (number_bytes 8 s.kept_until ++ (text_bytes s.created_by ++ (text_bytes s.comment ++ last))) is.ends_at,
      moment_again s.kept_until (text_bytes s.created_by ++ (text_bytes s.comment ++ last)) is.kept_until,
      text_again s.created_by (text_bytes s.comment ++ last) is.created_by (short_front (text_bytes s.created_by) five short_four),
      text_again s.comment last is.comment (short_front (text_bytes s.comment) (matchers_bytes s.matchers) short_five),
      matchers_again s.matchers rest is.matchers (short_back (text_bytes s.comment) (matchers_bytes s.matchers) short_five),
    ) refl

alert_again : (a : Alert) (rest : List ℕ) → IsAlert a → length (alert_bytes a) < 2 ^ 32 → alert_at (alert_bytes a ++ rest) ≡ Ok (a, rest)
unfolding alert_at alert_bytes
alert_again a rest is short =
    let three : List ℕ = number_bytes 8 a.ends_at ++ text_bytes a.generator_url in
    let two : List ℕ = number_bytes 8 a.starts_at ++ three in
    let one : List ℕ = labels_bytes a.annotations ++ two in
    let short_one = short_back (labels_bytes a.labels) one short in
    let short_url = short_back (number_bytes 8 a.ends_at) (text_bytes a.generator_url) (short_back (number_bytes 8 a.starts_at) three
    (short_back (labels_bytes a.annotations) two short_one)) in
    let last : List ℕ = text_bytes a.generator_url ++ rest in
    let regrouped : alert_bytes a ++ rest ≡ labels_bytes a.labels ++ (labels_bytes a.annotations
    ++ (number_bytes 8 a.starts_at ++ (number_bytes 8 a.ends_at ++ last))) = simp append_assoc in
    ap alert_at regrouped
    ∙ rw (
      set_again a.labels (labels_bytes a.annotations ++ (number_bytes 8 a.starts_at ++ (number_bytes 8 a.ends_at ++ last))) is.labels (short_front (labels_bytes a.labels) one short),
      annotations_again a.annotations (number_bytes 8 a.starts_at ++ (number_bytes 8 a.ends_at ++ last)) is.annotations (short_front (labels_bytes a.annotations) two short_one),
      moment_again a.starts_at (number_bytes 8 a.ends_at ++ last) is.starts_at,
      moment_again a.ends_at last is.ends_at,
      text_again a.generator_url rest is.generator_url short_url,
    ) refl

entry_again : (e : SentEntry) (rest : List ℕ) → IsEntry e → length (entry_bytes e) < 2 ^ 32 → entry_at (entry_bytes e ++ rest) ≡ Ok (e, rest)
unfolding entry_at entry_bytes
entry_again e rest is short =
    let four : List ℕ = label_sets_bytes e.firing ++ label_sets_bytes e.resolved in
    let three : List ℕ = number_bytes 8 e.ends_at ++ four in
    let one : List ℕ = text_bytes e.group ++ e.webhook ∷ three in
    let short_one = short_back (text_bytes e.receiver) one short in
    let short_two = short_back (text_bytes e.group) (e.webhook ∷ three) short_one in
    let short_three : length three < 2 ^ 32 = omega (arith, short_two) in
    let short_four = short_back (number_bytes 8 e.ends_at) four short_three in
    let last : List ℕ = label_sets_bytes e.firing ++ (label_sets_bytes e.resolved ++ rest) in
    let regrouped : entry_bytes e ++ rest ≡ text_bytes e.receiver ++ (text_bytes e.group ++ e.webhook ∷ (number_bytes 8 e.ends_at ++ last)) =
    simp append_assoc in
    ap entry_at regrouped
    ∙ rw (
      text_again e.receiver (text_bytes e.group ++ e.webhook ∷ (number_bytes 8 e.ends_at ++ last)) is.receiver (short_front (text_bytes e.receiver) one short),
      text_again e.group (e.webhook ∷ (number_bytes 8 e.ends_at ++ last)) is.group (short_front (text_bytes e.group) (e.webhook ∷ three) short_one),
      moment_again e.ends_at last is.ends_at,
      label_sets_again e.firing (label_sets_bytes e.resolved ++ rest) is.firing (short_front (label_sets_bytes e.firing) (label_sets_bytes e.resolved) short_four),
      label_sets_again e.resolved rest is.resolved (short_back (label_sets_bytes e.firing) (label_sets_bytes e.resolved) short_four),
    ) refl

thing_kind_again : (its_kind : ThingKind) (rest : List ℕ) → thing_kind_at (thing_number its_kind ∷ rest) ≡ Ok (its_kind, rest)
unfolding thing_kind_at
thing_kind_again kind.Configuration rest = refl
thing_kind_again kind.Silence rest = refl
thing_kind_again kind.Alert rest = refl
thing_kind_again kind.SentEntry rest = refl

thing_again : (x : Thing) (rest : List ℕ) → IsThing x → length (thing_bytes x) < 2 ^ 32 →
    thing_at (kind_of_thing x) (thing_bytes x ++ rest) ≡ Ok (x, rest)
unfolding thing_at
thing_again (thing.Configuration text) rest is short = rw (configuration_again text rest is short) refl
thing_again (thing.Silence silence) rest is short = rw (silence_again silence rest is short) refl
thing_again (thing.Alert alert) rest is short = rw (alert_again alert rest is short) refl
thing_again (thing.SentEntry entry) rest is short = rw (entry_again entry rest is short) refl

item_again : (item : Item) (rest : List ℕ) → IsItem item → length (item_bytes item) < 2 ^ 32 → item_at (item_bytes item ++ rest) ≡ Ok (item, rest)
unfolding item_at item_bytes
item_again item rest is short =
    let behind : length (stamp_bytes item.stamp ++ thing_bytes item.thing) < 2 ^ 32 = omega (arith, short) in
    ap (λ (xs : List ℕ). item_at (thing_number (kind_of_thing item.thing) ∷ xs)) (append_assoc (stamp_bytes item.stamp) (thing_bytes item.thing) rest)
    ∙ rw (
      thing_kind_again (kind_of_thing item.thing) (stamp_bytes item.stamp ++ (thing_bytes item.thing ++ rest)),
      stamp_again item.stamp (thing_bytes item.thing ++ rest) is.stamp,
      thing_again item.thing rest is.thing (short_back (stamp_bytes item.stamp) (thing_bytes item.thing) behind),
    ) refl

some_item : (item : Item) → 1 ≤ length (item_bytes item)
unfolding item_bytes
some_item item = omega arith

pub items_again : (items : List Item) (rest : List ℕ) → All IsItem items → length (items_bytes items) < 2 ^ 32 →
    items_at (items_bytes items ++ rest) ≡ Ok (items, rest)
unfolding items_at items_bytes
items_again items rest all short =
    let behind = short_back (number_bytes 4 (length items)) (flat_map item_bytes items) short in
    let count : length items < 2 ^ 32 = omega (arith, behind, length-several item_bytes some_item items) in
    ap items_at (append_assoc (number_bytes 4 (length items)) (flat_map item_bytes items) rest)
    ∙ rw (number_again 4 (length items) (flat_map item_bytes items ++ rest) count)
    (several_again (λ before. item_at) item_bytes (λ before. IsItem) (λ before. item_again) None items rest (chain_of_all IsItem None items all) behind)
