-- What was read stood there, spelled so: labels and label sets.
use Rattle.std.specs.Prelude.{◌==◌}
use Rattle.std.proofs.Common.{◌≡◌, ℕ, ◌<◌, ◌^◌, Bool, true, false, ◌&&◌, ◌||◌, not, List, length, Option, Some, None, Ordering, Less, Equal, Greater, refl, subst, rules, is_lt, IsTrue, IsUtf8}
use Rattle.am_text.specs.Outcome.{◌>>=◌}
use Rattle.am_labels.specs.declared.Label.{Label}
use Rattle.am_labels.specs.Labels.{is_label_name, labels_cmp, name_cmp}
use Rattle.am_wire.specs.declared.refusal.WireRefusal.TheVariants.{BadValue}
use Rattle.am_wire.specs.Bytes.{AreBytes}
use Rattle.am_wire.specs.Fields.{Chain, Rises, number_at, rises, several, text_at, text_bytes}
use Rattle.am_wire.specs.LabelFields.{AreSetFields, IsAnnotationsField, IsLabelAfter, IsSetAfter, IsSetField, label_at, label_bytes, label_set_at, label_sets_at, label_sets_bytes, labels_at, labels_bytes, name_at, value_at}
use Rattle.am_wire.proofs.FieldsFound.{Stood, bind_ok, counted, done, done_is, kept_if, number_2_found, number_4_found, several_found, text_found, then_takes}
use Rattle.am_wire.proofs.Rising.{annotations_of_chain, both_true, set_of_chain, sets_of_chain}

less_where : (o : Ordering) → is_lt o ≡ true → o ≡ Less
less_where Less e = refl
less_where Equal e = absurd (let never : false ≡ true = e in cc)
less_where Greater e = absurd (let never : false ≡ true = e in cc)

-- what the test lets through rises
rises_so : {A : Type 0} (cmp : A → A → Ordering) (before : Option A) (x : A) → rises cmp before x ≡ true → Rises cmp before x
rises_so cmp None x e = tt
rises_so cmp (Some y) x e = less_where (cmp y x) e

name_rises_so : (before : Option Label) (label : Label) → rises name_cmp before (record { name = label.name; value = label.name }) ≡ true → Rises name_cmp before label
name_rises_so None label e = tt
name_rises_so (Some y) label e = less_where (name_cmp y label) e

-- a name that was read
record IsName (before : Option Label) (name : List ℕ) : Type 0 where
  named : IsTrue (is_label_name name)
  rising : rises name_cmp before (record { name = name; value = name }) ≡ true
  text : IsUtf8 name

name_found : (before : Option Label) (bytes : List ℕ) (x : List ℕ × List ℕ) → AreBytes bytes → name_at before bytes ≡ done x → Stood text_bytes (IsName before) bytes x
unfolding name_at
name_found before bytes x are e =
    let a = bind_ok (text_at bytes) _ x e in
    let text = text_found bytes a.0 are a.1 in
    let named : Bool = is_label_name a.0.0 in
    let like : Label = record { name = a.0.0; value = a.0.0 } in
    let kept = kept_if (named && rises name_cmp before like) BadValue a.0 x a.2 in
    let both = both_true named (rises name_cmp before like) kept.0 in
    subst (Stood text_bytes (IsName before) bytes) kept.1
    (record { takes = text.takes; valid = record { named = both.0; rising = both.1; text = text.valid } })

-- a value that was read
record IsValue (may_be_empty : Bool) (value : List ℕ) : Type 0 where
  allowed : IsTrue (may_be_empty || not (length value == 0))
  text : IsUtf8 value

value_found : (may_be_empty : Bool) (bytes : List ℕ) (x : List ℕ × List ℕ) → AreBytes bytes → value_at may_be_empty bytes ≡ done x →
    Stood text_bytes (IsValue may_be_empty) bytes x
unfolding value_at
value_found may_be_empty bytes x are e =
    let a = bind_ok (text_at bytes) _ x e in
    let text = text_found bytes a.0 are a.1 in
    let kept = kept_if (may_be_empty || not (length a.0.0 == 0)) BadValue a.0 x a.2 in
    subst (Stood text_bytes (IsValue may_be_empty) bytes) kept.1
    (record { takes = text.takes; valid = record { allowed = kept.0; text = text.valid } })

label_found : (may_be_empty : Bool) (before : Option Label) (bytes : List ℕ) (x : Label × List ℕ) → AreBytes bytes → label_at may_be_empty before bytes ≡ done x →
    Stood label_bytes (IsLabelAfter may_be_empty before) bytes x
unfolding label_at label_bytes
label_found may_be_empty before bytes x are e =
    let a = bind_ok (name_at before bytes) _ x e in
    let b = bind_ok (value_at may_be_empty a.0.1) _ x a.2 in
    let name = name_found before bytes a.0 are a.1 in
    let value = value_found may_be_empty a.0.1 b.0 name.takes.are b.1 in
    let label : Label = record { name = a.0.0; value = b.0.0 } in
    let both = then_takes name.takes value.takes in
    let made : Label × List ℕ = (label, b.0.1) in
    subst (Stood label_bytes (IsLabelAfter may_be_empty before) bytes) (done_is made x b.2) (record {
      takes = both;
      valid = record {
        named = name.valid.named;
        rising = name_rises_so before label name.valid.rising;
        value = value.valid.allowed;
        texts = record { name = name.valid.text; value = value.valid.text };
      };
    })

-- labels that were read one behind the other
record AreLabels (may_be_empty : Bool) (labels : List Label) : Type 0 where
  chain : Chain (IsLabelAfter may_be_empty) None labels
  few : length labels < 2 ^ 16

labels_found : (may_be_empty : Bool) (bytes : List ℕ) (x : List Label × List ℕ) → AreBytes bytes → labels_at may_be_empty bytes ≡ done x →
    Stood labels_bytes (AreLabels may_be_empty) bytes x
unfolding labels_at labels_bytes
labels_found may_be_empty bytes x are e =
    let a = bind_ok (number_at 2 bytes) _ x e in
    let number = number_2_found bytes a.0 are a.1 in
    let labels = several_found (label_at may_be_empty) label_bytes (IsLabelAfter may_be_empty) (label_found may_be_empty) a.0.0 None a.0.1 x number.takes.are a.2 in
    let both = counted 2 x.0 number.takes labels.takes labels.long in
    record {
      takes = both;
      valid = record { chain = labels.valid; few = rw labels.long number.valid };
    }

pub set_found : (bytes : List ℕ) (x : List Label × List ℕ) → AreBytes bytes → labels_at false bytes ≡ done x → Stood labels_bytes IsSetField bytes x
set_found bytes x are e =
    let labels = labels_found false bytes x are e in
    record { takes = labels.takes; valid = set_of_chain x.0 labels.valid.chain labels.valid.few }

pub annotations_found : (bytes : List ℕ) (x : List Label × List ℕ) → AreBytes bytes → labels_at true bytes ≡ done x → Stood labels_bytes IsAnnotationsField bytes x
annotations_found bytes x are e =
    let labels = labels_found true bytes x are e in
    record { takes = labels.takes; valid = annotations_of_chain x.0 labels.valid.chain labels.valid.few }

rising_set_found : (before : Option (List Label)) (bytes : List ℕ) (x : List Label × List ℕ) → AreBytes bytes → label_set_at before bytes ≡ done x →
    Stood labels_bytes (IsSetAfter before) bytes x
unfolding label_set_at
rising_set_found before bytes x are e =
    let a = bind_ok (labels_at false bytes) _ x e in
    let set = set_found bytes a.0 are a.1 in
    let kept = kept_if (rises labels_cmp before a.0.0) BadValue a.0 x a.2 in
    subst (Stood labels_bytes (IsSetAfter before) bytes) kept.1
    (record { takes = set.takes; valid = record { set = set.valid; rising = rises_so labels_cmp before a.0.0 kept.0 } })

pub label_sets_found : (bytes : List ℕ) (x : List (List Label) × List ℕ) → AreBytes bytes → label_sets_at bytes ≡ done x → Stood label_sets_bytes AreSetFields bytes x
unfolding label_sets_at label_sets_bytes
label_sets_found bytes x are e =
    let a = bind_ok (number_at 4 bytes) _ x e in
    let number = number_4_found bytes a.0 are a.1 in
    let sets = several_found label_set_at labels_bytes IsSetAfter rising_set_found a.0.0 None a.0.1 x number.takes.are a.2 in
    let both = counted 4 x.0 number.takes sets.takes sets.long in
    record { takes = both; valid = sets_of_chain x.0 sets.valid }
