-- What was read stood there, spelled so: items.
use Rattle.std.specs.Prelude.{◌==◌, IfSome}
use Rattle.std.proofs.Common.{◌≡◌, ℕ, ◌<◌, ◌^◌, Bool, true, false, cond, All, List, [], ◌∷◌, ◌++◌, length, Option, Some, None, Ok, refl, ap, sym, subst, inl, inr, IsTrue, IsUtf8}
use Rattle.std.proofs.lemmas.Bool.Decides.{eqb_tells}
use Rattle.am_text.specs.Outcome.{◌>>=◌}
use Rattle.am_labels.specs.Labels.{is_label_name}
use Rattle.am_match.specs.declared.matcher.Operator.{Operator}
use Rattle.am_match.specs.declared.matcher.Operator.TheVariants.{Equal, NotEqual, Match, NotMatch}
use Rattle.am_match.specs.Matchers.{IsMatcher, MatcherText}
use Rattle.am_match.specs.Spelling.{operator_number}
use Rattle.am_item.specs.declared.entry.SentEntry.{SentEntry}
use Rattle.am_item.specs.declared.item.Alert.{Alert}
use Rattle.am_item.specs.declared.item.Item.{Item}
use Rattle.am_item.specs.declared.item.Thing.{Thing}
use Rattle.am_item.specs.declared.item.Thing.TheVariants as thing
use Rattle.am_item.specs.declared.silence.Silence.{Silence}
use Rattle.am_item.specs.declared.stamp.Stamp.{Stamp}
use Rattle.am_wire.specs.declared.kinds.ThingKind.{ThingKind}
use Rattle.am_wire.specs.declared.kinds.ThingKind.TheVariants as kind
use Rattle.am_wire.specs.declared.refusal.WireRefusal.TheVariants.{BadValue, FieldPastEnd}
use Rattle.am_wire.specs.Bytes.{AreBytes}
use Rattle.am_wire.specs.Fields.{Reading, byte_at, bytes_at, flag_at, flag_bytes, instance_at, moment_at, number_at, number_bytes, several, text_at, text_bytes}
use Rattle.am_wire.specs.LabelFields.{label_sets_at, labels_at}
use Rattle.am_wire.specs.ItemFields.{AreMatchers, IsAlert, IsEntry, IsItem, IsSilence, IsStamp, IsThing, alert_at, alert_bytes, configuration_at, configuration_bytes, entry_at, entry_bytes, item_at, item_bytes, items_at, items_bytes, kind_of_thing, matcher_at, matcher_bytes, matcher_name_at, matchers_at, matchers_bytes, operator_at, silence_at, silence_bytes, stamp_at, stamp_bytes, thing_at, thing_bytes, thing_kind_at, thing_number}
use Rattle.am_wire.proofs.FieldsFound.{Stood, Takes, bind_ok, byte_found, byte_takes, bytes_found, counted, done, done_is, failed, flag_found, instance_found, kept_if, moment_found, number_2_found, number_4_found, number_8_found, several_found, text_found, then_takes}
use Rattle.am_wire.proofs.LabelsFound.{annotations_found, label_sets_found, set_found}
use Rattle.am_wire.proofs.Several.{all_of_chain}

-- what a byte says, by its number
pub said_by : {A : Type 0} (number_of : A → ℕ) (byte : ℕ) (rest : List ℕ) (what : A) (x : A × List ℕ) → AreBytes (byte ∷ rest) → byte ≡ number_of what →
    done (what, rest) ≡ done x → Takes (byte ∷ rest) (number_of x.0 ∷ []) x.1
said_by {A} number_of byte rest what x are is e =
    let made : A × List ℕ = (what, rest) in
    subst (λ (p : A × List ℕ). Takes (byte ∷ rest) (number_of p.0 ∷ []) p.1) (done_is made x e)
    (subst (λ (n : ℕ). Takes (byte ∷ rest) (n ∷ []) rest) is (byte_takes byte rest are))

operator_found : (bytes : List ℕ) (x : Operator × List ℕ) → AreBytes bytes → operator_at bytes ≡ done x → Takes bytes (operator_number x.0 ∷ []) x.1
unfolding operator_at
operator_found [] x are e = absurd (let never : failed FieldPastEnd ≡ done x = e in cc)
operator_found (byte ∷ rest) x are e =
    let read : cond (byte == 0) (done (Equal, rest)) (cond (byte == 1) (done (NotEqual, rest)) (cond (byte == 2) (done (Match, rest))
    (cond (byte == 3) (done (NotMatch, rest)) (failed BadValue)))) ≡ done x = e in
    elim (eqb_tells byte 0) [
      | inl zeroth ↦ said_by operator_number byte rest Equal x are zeroth.1 (rw zeroth.0 at read)
      | inr one ↦ elim (eqb_tells byte 1) [
        | inl first ↦ said_by operator_number byte rest NotEqual x are first.1 (rw (one.0, first.0) at read)
        | inr two ↦ elim (eqb_tells byte 2) [
          | inl second ↦ said_by operator_number byte rest Match x are second.1 (rw (one.0, two.0, second.0) at read)
          | inr three ↦ elim (eqb_tells byte 3) [
            | inl third ↦ said_by operator_number byte rest NotMatch x are third.1 (rw (one.0, two.0, three.0, third.0) at read)
            | inr other ↦ absurd (let never : failed BadValue ≡ done x = rw (one.0, two.0, three.0, other.0) at read in cc)
          ]
        ]
      ]
    ]

-- the name of a label
abbrev IsNamed : List ℕ → Type 0
IsNamed name = IsTrue (is_label_name name)

matcher_name_found : (bytes : List ℕ) (x : List ℕ × List ℕ) → AreBytes bytes → matcher_name_at bytes ≡ done x → Stood text_bytes IsNamed bytes x
unfolding matcher_name_at
matcher_name_found bytes x are e =
    let a = bind_ok (text_at bytes) _ x e in
    let text = text_found bytes a.0 are a.1 in
    let kept = kept_if (is_label_name a.0.0) BadValue a.0 x a.2 in
    subst (Stood text_bytes IsNamed bytes) kept.1 (record { takes = text.takes; valid = kept.0 })

matcher_found : (bytes : List ℕ) (x : MatcherText × List ℕ) → AreBytes bytes → matcher_at bytes ≡ done x → Stood matcher_bytes IsMatcher bytes x
unfolding matcher_at matcher_bytes
matcher_found bytes x are e =
    let a = bind_ok (operator_at bytes) _ x e in
    let b = bind_ok (matcher_name_at a.0.1) _ x a.2 in
    let c = bind_ok (text_at b.0.1) _ x b.2 in
    let operator = operator_found bytes a.0 are a.1 in
    let name = matcher_name_found a.0.1 b.0 operator.are b.1 in
    let value = text_found b.0.1 c.0 name.takes.are c.1 in
    let matcher : MatcherText = record { operator = a.0.0; name = b.0.0; value = c.0.0 } in
    let whole = then_takes operator (then_takes name.takes value.takes) in
    let made : MatcherText × List ℕ = (matcher, c.0.1) in
    subst (Stood matcher_bytes IsMatcher bytes) (done_is made x c.2)
    (record { takes = whole; valid = record { named = name.valid; text = value.valid } })

matchers_found : (bytes : List ℕ) (x : List MatcherText × List ℕ) → AreBytes bytes → matchers_at bytes ≡ done x → Stood matchers_bytes AreMatchers bytes x
unfolding matchers_at matchers_bytes
matchers_found bytes x are e =
    let a = bind_ok (number_at 2 bytes) _ x e in
    let number = number_2_found bytes a.0 are a.1 in
    let matchers = several_found (λ before. matcher_at) matcher_bytes (λ before. IsMatcher) (λ before. matcher_found) a.0.0 None a.0.1 x number.takes.are a.2 in
    let both = counted 2 x.0 number.takes matchers.takes matchers.long in
    record {
      takes = both;
      valid = record { each = all_of_chain IsMatcher None x.0 matchers.valid; few = rw matchers.long number.valid };
    }

stamp_found : (bytes : List ℕ) (x : Stamp × List ℕ) → AreBytes bytes → stamp_at bytes ≡ done x → Stood stamp_bytes IsStamp bytes x
unfolding stamp_at stamp_bytes
stamp_found bytes x are e =
    let a = bind_ok (moment_at bytes) _ x e in
    let b = bind_ok (instance_at a.0.1) _ x a.2 in
    let c = bind_ok (number_at 4 b.0.1) _ x b.2 in
    let d = bind_ok (number_at 8 c.0.1) _ x c.2 in
    let moment = moment_found bytes a.0 are a.1 in
    let instance = instance_found a.0.1 b.0 moment.takes.are b.1 in
    let incarnation = number_4_found b.0.1 c.0 instance.takes.are c.1 in
    let count = number_8_found c.0.1 d.0 incarnation.takes.are d.1 in
    let stamp : Stamp = record { moment = a.0.0; instance = b.0.0; incarnation = c.0.0; count = d.0.0 } in
    let whole = then_takes moment.takes (then_takes instance.takes (then_takes incarnation.takes count.takes)) in
    let made : Stamp × List ℕ = (stamp, d.0.1) in
    subst (Stood stamp_bytes IsStamp bytes) (done_is made x d.2) (record {
      takes = whole;
      valid = record { moment = moment.valid; instance = instance.valid; incarnation = incarnation.valid; count = count.valid };
    })

-- a configuration behind its flag
abbrev some_text : List ℕ × List ℕ → Reading (Option (List ℕ))
some_text read = Ok (Some read.0, read.1)

abbrev no_text : List ℕ → Reading (Option (List ℕ))
no_text behind = Ok (None, behind)

abbrev IsConfiguration : Option (List ℕ) → Type 0
IsConfiguration text = IfSome text IsUtf8

behind_flag : (bytes behind : List ℕ) (is_present : Bool) (x : Option (List ℕ) × List ℕ) → Takes bytes (flag_bytes is_present) behind →
    cond is_present (text_at behind >>= some_text) (no_text behind) ≡ done x → Stood configuration_bytes IsConfiguration bytes x
unfolding configuration_bytes
behind_flag bytes behind true x flag e =
    let a = bind_ok (text_at behind) some_text x e in
    let text = text_found behind a.0 flag.are a.1 in
    let both = then_takes flag text.takes in
    let made : Option (List ℕ) × List ℕ = (Some a.0.0, a.0.1) in
    subst (Stood configuration_bytes IsConfiguration bytes) (done_is made x a.2) (record { takes = both; valid = text.valid })
behind_flag bytes behind false x flag e =
    let made : Option (List ℕ) × List ℕ = (None, behind) in
    subst (Stood configuration_bytes IsConfiguration bytes) (done_is made x e) (record { takes = flag; valid = tt })

configuration_found : (bytes : List ℕ) (x : Option (List ℕ) × List ℕ) → AreBytes bytes → configuration_at bytes ≡ done x →
    Stood configuration_bytes IsConfiguration bytes x
unfolding configuration_at
configuration_found bytes x are e =
    let a = bind_ok (flag_at bytes) _ x e in
    behind_flag bytes a.0.1 a.0.0 x (flag_found bytes a.0 are a.1) a.2

silence_found : (bytes : List ℕ) (x : Silence × List ℕ) → AreBytes bytes → silence_at bytes ≡ done x → Stood silence_bytes IsSilence bytes x
unfolding silence_at silence_bytes
silence_found bytes x are e =
    let a = bind_ok (bytes_at 16 bytes) _ x e in
    let b = bind_ok (moment_at a.0.1) _ x a.2 in
    let c = bind_ok (moment_at b.0.1) _ x b.2 in
    let d = bind_ok (moment_at c.0.1) _ x c.2 in
    let f = bind_ok (text_at d.0.1) _ x d.2 in
    let g = bind_ok (text_at f.0.1) _ x f.2 in
    let h = bind_ok (matchers_at g.0.1) _ x g.2 in
    let id = bytes_found 16 bytes a.0 are a.1 in
    let starts_at = moment_found a.0.1 b.0 id.takes.are b.1 in
    let ends_at = moment_found b.0.1 c.0 starts_at.takes.are c.1 in
    let kept_until = moment_found c.0.1 d.0 ends_at.takes.are d.1 in
    let created_by = text_found d.0.1 f.0 kept_until.takes.are f.1 in
    let comment = text_found f.0.1 g.0 created_by.takes.are g.1 in
    let matchers = matchers_found g.0.1 h.0 comment.takes.are h.1 in
    let silence : Silence = record {
      id = a.0.0;
      starts_at = b.0.0;
      ends_at = c.0.0;
      kept_until = d.0.0;
      created_by = f.0.0;
      comment = g.0.0;
      matchers = h.0.0;
    } in
    let whole = then_takes id.takes (then_takes starts_at.takes (then_takes ends_at.takes (then_takes kept_until.takes
    (then_takes created_by.takes (then_takes comment.takes matchers.takes))))) in
    let made : Silence × List ℕ = (silence, h.0.1) in
    subst (Stood silence_bytes IsSilence bytes) (done_is made x h.2) (record {
      takes = whole;
      valid = record {
        id = id.long;
        starts_at = starts_at.valid;
        ends_at = ends_at.valid;
        kept_until = kept_until.valid;
        created_by = created_by.valid;
        comment = comment.valid;
        matchers = matchers.valid;
      };
    })

alert_found : (bytes : List ℕ) (x : Alert × List ℕ) → AreBytes bytes → alert_at bytes ≡ done x → Stood alert_bytes IsAlert bytes x
unfolding alert_at alert_bytes
alert_found bytes x are e =
    let a = bind_ok (labels_at false bytes) _ x e in
    let b = bind_ok (labels_at true a.0.1) _ x a.2 in
    let c = bind_ok (moment_at b.0.1) _ x b.2 in
    let d = bind_ok (moment_at c.0.1) _ x c.2 in
    let f = bind_ok (text_at d.0.1) _ x d.2 in
    let labels = set_found bytes a.0 are a.1 in
    let annotations = annotations_found a.0.1 b.0 labels.takes.are b.1 in
    let starts_at = moment_found b.0.1 c.0 annotations.takes.are c.1 in
    let ends_at = moment_found c.0.1 d.0 starts_at.takes.are d.1 in
    let url = text_found d.0.1 f.0 ends_at.takes.are f.1 in
    let alert : Alert = record { labels = a.0.0; annotations = b.0.0; starts_at = c.0.0; ends_at = d.0.0; generator_url = f.0.0 } in
    let whole = then_takes labels.takes (then_takes annotations.takes (then_takes starts_at.takes (then_takes ends_at.takes url.takes))) in
    let made : Alert × List ℕ = (alert, f.0.1) in
    subst (Stood alert_bytes IsAlert bytes) (done_is made x f.2) (record {
      takes = whole;
      valid = record {
        labels = labels.valid;
        annotations = annotations.valid;
        starts_at = starts_at.valid;
        ends_at = ends_at.valid;
        generator_url = url.valid;
      };
    })

entry_found : (bytes : List ℕ) (x : SentEntry × List ℕ) → AreBytes bytes → entry_at bytes ≡ done x → Stood entry_bytes IsEntry bytes x
unfolding entry_at entry_bytes
entry_found bytes x are e =
    let a = bind_ok (text_at bytes) _ x e in
    let b = bind_ok (text_at a.0.1) _ x a.2 in
    let c = bind_ok (byte_at b.0.1) _ x b.2 in
    let d = bind_ok (moment_at c.0.1) _ x c.2 in
    let f = bind_ok (label_sets_at d.0.1) _ x d.2 in
    let g = bind_ok (label_sets_at f.0.1) _ x f.2 in
    let receiver = text_found bytes a.0 are a.1 in
    let group = text_found a.0.1 b.0 receiver.takes.are b.1 in
    let webhook = byte_found b.0.1 c.0 group.takes.are c.1 in
    let ends_at = moment_found c.0.1 d.0 webhook.takes.are d.1 in
    let firing = label_sets_found d.0.1 f.0 ends_at.takes.are f.1 in
    let resolved = label_sets_found f.0.1 g.0 firing.takes.are g.1 in
    let entry : SentEntry = record { receiver = a.0.0; group = b.0.0; webhook = c.0.0; ends_at = d.0.0; firing = f.0.0; resolved = g.0.0 } in
    let whole = then_takes receiver.takes (then_takes group.takes (then_takes webhook.takes (then_takes ends_at.takes
    (then_takes firing.takes resolved.takes)))) in
    let made : SentEntry × List ℕ = (entry, g.0.1) in
    subst (Stood entry_bytes IsEntry bytes) (done_is made x g.2) (record {
      takes = whole;
      valid = record {
        receiver = receiver.valid;
        group = group.valid;
        webhook = webhook.valid;
        ends_at = ends_at.valid;
        firing = firing.valid;
        resolved = resolved.valid;
      };
    })

thing_kind_found : (bytes : List ℕ) (x : ThingKind × List ℕ) → AreBytes bytes → thing_kind_at bytes ≡ done x → Takes bytes (thing_number x.0 ∷ []) x.1
unfolding thing_kind_at
thing_kind_found [] x are e = absurd (let never : failed FieldPastEnd ≡ done x = e in cc)
thing_kind_found (byte ∷ rest) x are e =
    let read : cond (byte == 1) (done (kind.Configuration, rest)) (cond (byte == 2) (done (kind.Silence, rest)) (cond (byte == 3) (done (kind.Alert, rest))
    (cond (byte == 4) (done (kind.SentEntry, rest)) (failed BadValue)))) ≡ done x = e in
    elim (eqb_tells byte 1) [
      | inl first ↦ said_by thing_number byte rest kind.Configuration x are first.1 (rw first.0 at read)
      | inr two ↦ elim (eqb_tells byte 2) [
        | inl second ↦ said_by thing_number byte rest kind.Silence x are second.1 (rw (two.0, second.0) at read)
        | inr three ↦ elim (eqb_tells byte 3) [
          | inl third ↦ said_by thing_number byte rest kind.Alert x are third.1 (rw (two.0, three.0, third.0) at read)
          | inr four ↦ elim (eqb_tells byte 4) [
            | inl fourth ↦ said_by thing_number byte rest kind.SentEntry x are fourth.1 (rw (two.0, three.0, four.0, fourth.0) at read)
            | inr other ↦ absurd (let never : failed BadValue ≡ done x = rw (two.0, three.0, four.0, other.0) at read in cc)
          ]
        ]
      ]
    ]

-- a thing of the kind that was read
record IsOfKind (its_kind : ThingKind) (x : Thing) : Type 0 where
  its : kind_of_thing x ≡ its_kind
  valid : IsThing x

thing_found : (its_kind : ThingKind) (bytes : List ℕ) (x : Thing × List ℕ) → AreBytes bytes → thing_at its_kind bytes ≡ done x →
    Stood thing_bytes (IsOfKind its_kind) bytes x
unfolding thing_at
thing_found kind.Configuration bytes x are e =
    let a = bind_ok (configuration_at bytes) _ x e in
    let found = configuration_found bytes a.0 are a.1 in
    let made : Thing × List ℕ = (thing.Configuration a.0.0, a.0.1) in
    subst (Stood thing_bytes (IsOfKind kind.Configuration) bytes) (done_is made x a.2)
    (record { takes = found.takes; valid = record { its = refl; valid = found.valid } })
thing_found kind.Silence bytes x are e =
    let a = bind_ok (silence_at bytes) _ x e in
    let found = silence_found bytes a.0 are a.1 in
    let made : Thing × List ℕ = (thing.Silence a.0.0, a.0.1) in
    subst (Stood thing_bytes (IsOfKind kind.Silence) bytes) (done_is made x a.2)
    (record { takes = found.takes; valid = record { its = refl; valid = found.valid } })
thing_found kind.Alert bytes x are e =
    let a = bind_ok (alert_at bytes) _ x e in
    let found = alert_found bytes a.0 are a.1 in
    let made : Thing × List ℕ = (thing.Alert a.0.0, a.0.1) in
    subst (Stood thing_bytes (IsOfKind kind.Alert) bytes) (done_is made x a.2)
    (record { takes = found.takes; valid = record { its = refl; valid = found.valid } })
thing_found kind.SentEntry bytes x are e =
    let a = bind_ok (entry_at bytes) _ x e in
    let found = entry_found bytes a.0 are a.1 in
    let made : Thing × List ℕ = (thing.SentEntry a.0.0, a.0.1) in
    subst (Stood thing_bytes (IsOfKind kind.SentEntry) bytes) (done_is made x a.2)
    (record { takes = found.takes; valid = record { its = refl; valid = found.valid } })

item_found : (bytes : List ℕ) (x : Item × List ℕ) → AreBytes bytes → item_at bytes ≡ done x → Stood item_bytes IsItem bytes x
unfolding item_at item_bytes
item_found bytes x are e =
    let a = bind_ok (thing_kind_at bytes) _ x e in
    let b = bind_ok (stamp_at a.0.1) _ x a.2 in
    let c = bind_ok (thing_at a.0.0 b.0.1) _ x b.2 in
    let its_kind = thing_kind_found bytes a.0 are a.1 in
    let stamp = stamp_found a.0.1 b.0 its_kind.are b.1 in
    let what = thing_found a.0.0 b.0.1 c.0 stamp.takes.are c.1 in
    let behind : List ℕ = stamp_bytes b.0.0 ++ thing_bytes c.0.0 in
    let whole = then_takes its_kind (then_takes stamp.takes what.takes) in
    let item : Item = record { stamp = b.0.0; thing = c.0.0 } in
    let made : Item × List ℕ = (item, c.0.1) in
    subst (Stood item_bytes IsItem bytes) (done_is made x c.2) (record {
      takes = subst (λ (k : ThingKind). Takes bytes (thing_number k ∷ behind) c.0.1) (sym what.valid.its) whole;
      valid = record { stamp = stamp.valid; thing = what.valid.valid };
    })

pub items_found : (bytes : List ℕ) (x : List Item × List ℕ) → AreBytes bytes → items_at bytes ≡ done x → Stood items_bytes (All IsItem) bytes x
unfolding items_at items_bytes
items_found bytes x are e =
    let a = bind_ok (number_at 4 bytes) _ x e in
    let number = number_4_found bytes a.0 are a.1 in
    let items = several_found (λ before. item_at) item_bytes (λ before. IsItem) (λ before. item_found) a.0.0 None a.0.1 x number.takes.are a.2 in
    let both = counted 4 x.0 number.takes items.takes items.long in
    record { takes = both; valid = all_of_chain IsItem None x.0 items.valid }
