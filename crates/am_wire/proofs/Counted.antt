-- The lengths of what is spelled: an item's, field by field, is the one that it knows.
use Rattle.std.proofs.Common.{◌≡◌, ℕ, ◌+◌, Bool, true, false, List, [], ◌∷◌, Option, Some, None, length, sym, ap, ◌∙◌, length-append, refl, arith}
use Rattle.std.specs.List.{flat_map, sum_by}
use Rattle.std.proofs.lemmas.List.Sums.{sum_by-cons}
use Rattle.am_length.specs.Lengths.{label_length, label_sets_length, labels_length, matcher_length, matchers_length, optional_text_length, text_length}
use Rattle.am_item.specs.Lengths.{spelled_length, thing_length}
use Rattle.am_item.specs.declared.item.Item.{Item}
use Rattle.am_item.specs.declared.item.Thing.{Thing}
use Rattle.am_item.specs.declared.item.Thing.TheVariants as thing
use Rattle.am_labels.specs.declared.Label.{Label}
use Rattle.am_match.specs.Matchers.{MatcherText}
use Rattle.am_wire.specs.declared.message.Body.TheVariants.{Get, Answer, Put, Ack, Ask, State, Got}
use Rattle.am_wire.specs.declared.message.Message.{Message}
use Rattle.am_wire.specs.Fields.{flag_bytes, text_bytes}
use Rattle.am_wire.specs.ItemFields.{alert_bytes, configuration_bytes, entry_bytes, item_bytes, items_bytes, matcher_bytes, matchers_bytes, silence_bytes, stamp_bytes, thing_bytes}
use Rattle.am_wire.specs.LabelFields.{label_bytes, label_sets_bytes, labels_bytes}
use Rattle.am_wire.specs.Messages.{body_bytes, inside, spelling}
use Rattle.am_wire.proofs.Framed.{length-number_bytes, length-spelling}

-- things one after another are as long as the sum of their lengths
length_of_all : {A : Type 0} (bytes : A → List ℕ) (size : A → ℕ) → ((x : A) → length (bytes x) ≡ size x) → (xs : List A) → length (flat_map bytes xs) ≡ sum_by size xs
length_of_all bytes size each [] = refl
length_of_all bytes size each (x ∷ xs) =
    length-append (bytes x) (flat_map bytes xs)
    ∙ ap (λ n. n + length (flat_map bytes xs)) (each x) ∙ ap (λ n. size x + n) (length_of_all bytes size each xs) ∙ sym (sum_by-cons size x xs)

length-flag : (flag : Bool) → length (flag_bytes flag) ≡ 1
length-flag true = omega arith
length-flag false = omega arith

of_text : (text : List ℕ) → length (text_bytes text) ≡ text_length text
unfolding text_bytes
of_text text = simp (length-append, length-number_bytes) (omega arith)

of_label : (label : Label) → length (label_bytes label) ≡ label_length label
unfolding label_bytes
of_label label = simp (length-append, of_text) (omega arith)

of_labels : (labels : List Label) → length (labels_bytes labels) ≡ labels_length labels
unfolding labels_bytes
of_labels labels = simp (length-append, length-number_bytes, length_of_all label_bytes label_length of_label) (omega arith)

of_sets : (sets : List (List Label)) → length (label_sets_bytes sets) ≡ label_sets_length sets
unfolding label_sets_bytes
of_sets sets = simp (length-append, length-number_bytes, length_of_all labels_bytes labels_length of_labels) (omega arith)

of_matcher : (m : MatcherText) → length (matcher_bytes m) ≡ matcher_length m
unfolding matcher_bytes
of_matcher m = simp (length-append, of_text) (omega arith)

of_matchers : (ms : List MatcherText) → length (matchers_bytes ms) ≡ matchers_length ms
unfolding matchers_bytes
of_matchers ms = simp (length-append, length-number_bytes, length_of_all matcher_bytes matcher_length of_matcher) (omega arith)

of_configuration : (text : Option (List ℕ)) → length (configuration_bytes text) ≡ optional_text_length text
unfolding configuration_bytes
of_configuration None = refl
of_configuration (Some text) = omega (arith, of_text text)

of_thing : (what : Thing) → length (thing_bytes what) ≡ thing_length what
unfolding silence_bytes alert_bytes entry_bytes
of_thing (thing.Configuration text) = of_configuration text
of_thing (thing.Silence silence) = simp (length-append, length-number_bytes, of_text, of_matchers) (omega arith)
of_thing (thing.Alert alert) = simp (length-append, length-number_bytes, of_text, of_labels) (omega arith)
of_thing (thing.SentEntry entry) = simp (length-append, length-number_bytes, of_text, of_sets) (omega arith)

pub item_spelled : (item : Item) → length (item_bytes item) ≡ spelled_length item
unfolding item_bytes stamp_bytes spelled_length
item_spelled item = simp (length-append, length-number_bytes, of_thing) (omega arith)

pub items_spelled : (items : List Item) → length (flat_map item_bytes items) ≡ sum_by spelled_length items
items_spelled items = length_of_all item_bytes spelled_length item_spelled items

pub items_length : (items : List Item) → length (items_bytes items) ≡ 4 + length (flat_map item_bytes items)
unfolding items_bytes
items_length items = simp (length-append, length-number_bytes) (omega arith)

pub get_length : (operation : ℕ) → length (body_bytes (Get operation)) ≡ 8
unfolding body_bytes
get_length operation = length-number_bytes 8 operation

pub answer_length : (operation incarnation : ℕ) (items : List Item) → length (body_bytes (Answer operation incarnation items)) ≡ 12 + length (items_bytes items)
unfolding body_bytes
answer_length operation incarnation items = simp (length-append, length-number_bytes) (omega arith)

pub put_length : (operation : ℕ) (items : List Item) → length (body_bytes (Put operation items)) ≡ 8 + length (items_bytes items)
unfolding body_bytes
put_length operation items = simp (length-append, length-number_bytes) (omega arith)

pub ack_length : (operation incarnation : ℕ) → length (body_bytes (Ack operation incarnation)) ≡ 12
unfolding body_bytes
ack_length operation incarnation = simp (length-append, length-number_bytes) (omega arith)

pub ask_length : (incarnation : ℕ) → length (body_bytes (Ask incarnation)) ≡ 4
unfolding body_bytes
ask_length incarnation = length-number_bytes 4 incarnation

pub state_length : (incarnation place : ℕ) (is_last : Bool) (items : List Item) →
    length (body_bytes (State incarnation place is_last items)) ≡ 9 + length (items_bytes items)
unfolding body_bytes
state_length incarnation place is_last items = simp (length-append, length-number_bytes, length-flag) (omega arith)

pub got_length : (incarnation place : ℕ) → length (body_bytes (Got incarnation place)) ≡ 8
unfolding body_bytes
got_length incarnation place = simp (length-append, length-number_bytes) (omega arith)

pub ruleset body_lengths = (get_length, answer_length, put_length, ack_length, ask_length, state_length, got_length)

pub message_length : (m : Message) → length (spelling m) ≡ 29 + length m.tenant + length (body_bytes m.body)
unfolding inside
message_length m = length-spelling m ∙ simp (length-append, length-number_bytes) (omega arith)
