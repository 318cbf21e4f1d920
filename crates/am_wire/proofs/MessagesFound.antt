-- What was read stood there, spelled so: messages.
use Rattle.std.specs.Prelude.{◌==◌}
use Rattle.std.proofs.Common.{◌≡◌, ℕ, ◌<◌, ◌^◌, Bool, true, false, ◌&&◌, cond, All, List, [], ◌∷◌, ◌++◌, length, Result, Ok, Err, refl, ap, sym, ◌∙◌, subst, append-nil, eqb-true, inl, inr, IsTrue}
use Rattle.std.proofs.lemmas.List.{nil_from_length}
use Rattle.std.proofs.lemmas.Bool.Decides.{eqb_tells}
use Rattle.am_text.specs.Outcome.{◌>>=◌, outcome_as}
use Rattle.am_tenant.specs.Names.{is_tenant_name}
use Rattle.am_item.specs.declared.item.Item.{Item}
use Rattle.am_wire.specs.declared.kinds.BodyKind.{BodyKind}
use Rattle.am_wire.specs.declared.kinds.BodyKind.TheVariants as kind
use Rattle.am_wire.specs.declared.message.Body.{Body}
use Rattle.am_wire.specs.declared.message.Body.TheVariants.{Get, Answer, Put, Ack, Ask, State, Got}
use Rattle.am_wire.specs.declared.message.Message.{Message}
use Rattle.am_wire.specs.declared.refusal.WireRefusal.{WireRefusal}
use Rattle.am_wire.specs.declared.refusal.WireRefusal.TheVariants.{BadTenant, BytesLeft, CutShort, FieldPastEnd, UnknownKind}
use Rattle.am_wire.specs.Bytes.{AreBytes}
use Rattle.am_wire.specs.Fields.{Reading, byte_at, bytes_at, flag_at, instance_at, number_at, number_bytes}
use Rattle.am_wire.specs.ItemFields.{IsItem, items_at}
use Rattle.am_wire.specs.Messages.{IsBody, IsMessage, Spells, ack_at, answer_at, ask_at, body_at, body_bytes, body_kind_at, body_number, frame_at, get_at, got_at, inside, kind_of_body, message_at, message_of, message_version, put_at, spelling, state_at, tenant_at, version_at}
use Rattle.am_wire.proofs.FieldsFound.{IsField, Stood, Takes, bind_ok, byte_found, byte_takes, bytes_found, counted, done, done_is, failed, flag_found, instance_found, kept_if, number_4_found, number_8_found, then_takes}
use Rattle.am_wire.proofs.ItemsFound.{items_found, said_by}
use Rattle.am_wire.proofs.Rising.{both_true}

version_found : (bytes : List ℕ) (x : ℕ × List ℕ) → AreBytes bytes → version_at bytes ≡ done x → Takes bytes (message_version ∷ []) x.1
unfolding version_at
version_found [] x are e = absurd (let never : failed FieldPastEnd ≡ done x = e in cc)
version_found (byte ∷ rest) x are e =
    let made : ℕ × List ℕ = (byte, rest) in
    let kept = kept_if (byte == message_version) UnknownKind made x e in
    subst (λ (p : ℕ × List ℕ). Takes (byte ∷ rest) (message_version ∷ []) p.1) kept.1
    (subst (λ (n : ℕ). Takes (byte ∷ rest) (n ∷ []) rest) (eqb-true byte message_version kept.0) (byte_takes byte rest are))

body_kind_found : (bytes : List ℕ) (x : BodyKind × List ℕ) → AreBytes bytes → body_kind_at bytes ≡ done x → Takes bytes (body_number x.0 ∷ []) x.1
unfolding body_kind_at
body_kind_found [] x are e = absurd (let never : failed FieldPastEnd ≡ done x = e in cc)
body_kind_found (byte ∷ rest) x are e =
    let read : cond (byte == 1) (done (kind.Get, rest)) (cond (byte == 2) (done (kind.Answer, rest)) (cond (byte == 3) (done (kind.Put, rest))
    (cond (byte == 4) (done (kind.Ack, rest)) (cond (byte == 5) (done (kind.Ask, rest)) (cond (byte == 6) (done (kind.State, rest))
    (cond (byte == 7) (done (kind.Got, rest)) (failed UnknownKind))))))) ≡ done x = e in
    elim (eqb_tells byte 1) [
      | inl first ↦ said_by body_number byte rest kind.Get x are first.1 (rw first.0 at read)
      | inr two ↦ elim (eqb_tells byte 2) [
        | inl second ↦ said_by body_number byte rest kind.Answer x are second.1 (rw (two.0, second.0) at read)
        | inr three ↦ elim (eqb_tells byte 3) [
          | inl third ↦ said_by body_number byte rest kind.Put x are third.1 (rw (two.0, three.0, third.0) at read)
          | inr four ↦ elim (eqb_tells byte 4) [
            | inl fourth ↦ said_by body_number byte rest kind.Ack x are fourth.1 (rw (two.0, three.0, four.0, fourth.0) at read)
            | inr five ↦ elim (eqb_tells byte 5) [
              | inl fifth ↦ said_by body_number byte rest kind.Ask x are fifth.1 (rw (two.0, three.0, four.0, five.0, fifth.0) at read)
              | inr six ↦ elim (eqb_tells byte 6) [
                | inl sixth ↦ said_by body_number byte rest kind.State x are sixth.1 (rw (two.0, three.0, four.0, five.0, six.0, sixth.0) at read)
                | inr seven ↦ elim (eqb_tells byte 7) [
                  | inl seventh ↦ said_by body_number byte rest kind.Got x are seventh.1 (rw (two.0, three.0, four.0, five.0, six.0, seven.0, seventh.0) at read)
                  | inr other ↦ absurd (let never : failed UnknownKind ≡ done x = rw (two.0, three.0, four.0, five.0, six.0, seven.0, other.0) at read in cc)
                ]
              ]
            ]
          ]
        ]
      ]
    ]

-- a name behind its length
abbrev named_bytes : List ℕ → List ℕ
named_bytes name = length name ∷ name

abbrev IsTenant : List ℕ → Type 0
IsTenant name = IsTrue (is_tenant_name name)

tenant_found : (bytes : List ℕ) (x : List ℕ × List ℕ) → AreBytes bytes → tenant_at bytes ≡ done x →
    Stood named_bytes IsTenant bytes x
unfolding tenant_at
tenant_found bytes x are e =
    let a = bind_ok (byte_at bytes) _ x e in
    let b = bind_ok (bytes_at a.0.0 a.0.1) _ x a.2 in
    let byte = byte_found bytes a.0 are a.1 in
    let name = bytes_found a.0.0 a.0.1 b.0 byte.takes.are b.1 in
    let kept = kept_if (is_tenant_name b.0.0) BadTenant b.0 x b.2 in
    let both = then_takes byte.takes name.takes in
    subst (Stood named_bytes IsTenant bytes) kept.1
    (record { takes = subst (λ (n : ℕ). Takes bytes (n ∷ b.0.0) b.0.1) (sym name.long) both; valid = kept.0 })

-- a body of the kind that was read
record IsOfKind (its_kind : BodyKind) (body : Body) : Type 0 where
  its : kind_of_body body ≡ its_kind
  valid : IsBody body

get_found : (bytes : List ℕ) (x : Body × List ℕ) → AreBytes bytes → get_at bytes ≡ done x → Stood body_bytes (IsOfKind kind.Get) bytes x
unfolding get_at body_bytes
get_found bytes x are e =
    let a = bind_ok (number_at 8 bytes) _ x e in
    let operation = number_8_found bytes a.0 are a.1 in
    let made : Body × List ℕ = (Get a.0.0, a.0.1) in
    subst (Stood body_bytes (IsOfKind kind.Get) bytes) (done_is made x a.2)
    (record { takes = operation.takes; valid = record { its = refl; valid = operation.valid } })

answer_found : (bytes : List ℕ) (x : Body × List ℕ) → AreBytes bytes → answer_at bytes ≡ done x → Stood body_bytes (IsOfKind kind.Answer) bytes x
unfolding answer_at body_bytes
answer_found bytes x are e =
    let a = bind_ok (number_at 8 bytes) _ x e in
    let b = bind_ok (number_at 4 a.0.1) _ x a.2 in
    let c = bind_ok (items_at b.0.1) _ x b.2 in
    let operation = number_8_found bytes a.0 are a.1 in
    let incarnation = number_4_found a.0.1 b.0 operation.takes.are b.1 in
    let items = items_found b.0.1 c.0 incarnation.takes.are c.1 in
    let whole = then_takes operation.takes (then_takes incarnation.takes items.takes) in
    let made : Body × List ℕ = (Answer a.0.0 b.0.0 c.0.0, c.0.1) in
    subst (Stood body_bytes (IsOfKind kind.Answer) bytes) (done_is made x c.2) (record {
      takes = whole;
      valid = record { its = refl; valid = (operation.valid, incarnation.valid, items.valid) };
    })

put_found : (bytes : List ℕ) (x : Body × List ℕ) → AreBytes bytes → put_at bytes ≡ done x → Stood body_bytes (IsOfKind kind.Put) bytes x
unfolding put_at body_bytes
put_found bytes x are e =
    let a = bind_ok (number_at 8 bytes) _ x e in
    let b = bind_ok (items_at a.0.1) _ x a.2 in
    let operation = number_8_found bytes a.0 are a.1 in
    let items = items_found a.0.1 b.0 operation.takes.are b.1 in
    let whole = then_takes operation.takes items.takes in
    let made : Body × List ℕ = (Put a.0.0 b.0.0, b.0.1) in
    subst (Stood body_bytes (IsOfKind kind.Put) bytes) (done_is made x b.2)
    (record { takes = whole; valid = record { its = refl; valid = (operation.valid, items.valid) } })

ack_found : (bytes : List ℕ) (x : Body × List ℕ) → AreBytes bytes → ack_at bytes ≡ done x → Stood body_bytes (IsOfKind kind.Ack) bytes x
unfolding ack_at body_bytes
ack_found bytes x are e =
    let a = bind_ok (number_at 8 bytes) _ x e in
    let b = bind_ok (number_at 4 a.0.1) _ x a.2 in
    let operation = number_8_found bytes a.0 are a.1 in
    let incarnation = number_4_found a.0.1 b.0 operation.takes.are b.1 in
    let whole = then_takes operation.takes incarnation.takes in
    let made : Body × List ℕ = (Ack a.0.0 b.0.0, b.0.1) in
    subst (Stood body_bytes (IsOfKind kind.Ack) bytes) (done_is made x b.2)
    (record { takes = whole; valid = record { its = refl; valid = (operation.valid, incarnation.valid) } })

ask_found : (bytes : List ℕ) (x : Body × List ℕ) → AreBytes bytes → ask_at bytes ≡ done x → Stood body_bytes (IsOfKind kind.Ask) bytes x
unfolding ask_at body_bytes
ask_found bytes x are e =
    let a = bind_ok (number_at 4 bytes) _ x e in
    let incarnation = number_4_found bytes a.0 are a.1 in
    let made : Body × List ℕ = (Ask a.0.0, a.0.1) in
    subst (Stood body_bytes (IsOfKind kind.Ask) bytes) (done_is made x a.2)
    (record { takes = incarnation.takes; valid = record { its = refl; valid = incarnation.valid } })

state_found : (bytes : List ℕ) (x : Body × List ℕ) → AreBytes bytes → state_at bytes ≡ done x → Stood body_bytes (IsOfKind kind.State) bytes x
unfolding state_at body_bytes
state_found bytes x are e =
    let a = bind_ok (number_at 4 bytes) _ x e in
    let b = bind_ok (number_at 4 a.0.1) _ x a.2 in
    let c = bind_ok (flag_at b.0.1) _ x b.2 in
    let d = bind_ok (items_at c.0.1) _ x c.2 in
    let incarnation = number_4_found bytes a.0 are a.1 in
    let place = number_4_found a.0.1 b.0 incarnation.takes.are b.1 in
    let is_last = flag_found b.0.1 c.0 place.takes.are c.1 in
    let items = items_found c.0.1 d.0 is_last.are d.1 in
    let whole = then_takes incarnation.takes (then_takes place.takes (then_takes is_last items.takes)) in
    let made : Body × List ℕ = (State a.0.0 b.0.0 c.0.0 d.0.0, d.0.1) in
    subst (Stood body_bytes (IsOfKind kind.State) bytes) (done_is made x d.2) (record {
      takes = whole;
      valid = record { its = refl; valid = (incarnation.valid, place.valid, items.valid) };
    })

got_found : (bytes : List ℕ) (x : Body × List ℕ) → AreBytes bytes → got_at bytes ≡ done x → Stood body_bytes (IsOfKind kind.Got) bytes x
unfolding got_at body_bytes
got_found bytes x are e =
    let a = bind_ok (number_at 4 bytes) _ x e in
    let b = bind_ok (number_at 4 a.0.1) _ x a.2 in
    let incarnation = number_4_found bytes a.0 are a.1 in
    let place = number_4_found a.0.1 b.0 incarnation.takes.are b.1 in
    let whole = then_takes incarnation.takes place.takes in
    let made : Body × List ℕ = (Got a.0.0 b.0.0, b.0.1) in
    subst (Stood body_bytes (IsOfKind kind.Got) bytes) (done_is made x b.2)
    (record { takes = whole; valid = record { its = refl; valid = (incarnation.valid, place.valid) } })

body_found : (its_kind : BodyKind) (bytes : List ℕ) (x : Body × List ℕ) → AreBytes bytes → body_at its_kind bytes ≡ done x →
    Stood body_bytes (IsOfKind its_kind) bytes x
unfolding body_at
body_found kind.Get bytes x are e = get_found bytes x are e
body_found kind.Answer bytes x are e = answer_found bytes x are e
body_found kind.Put bytes x are e = put_found bytes x are e
body_found kind.Ack bytes x are e = ack_found bytes x are e
body_found kind.Ask bytes x are e = ask_found bytes x are e
body_found kind.State bytes x are e = state_found bytes x are e
body_found kind.Got bytes x are e = got_found bytes x are e

message_found : (bytes : List ℕ) (x : Message × List ℕ) → AreBytes bytes → message_at bytes ≡ done x → Stood inside IsMessage bytes x
unfolding message_at inside
message_found bytes x are e =
    let a = bind_ok (version_at bytes) _ x e in
    let b = bind_ok (body_kind_at a.0.1) _ x a.2 in
    let c = bind_ok (instance_at b.0.1) _ x b.2 in
    let d = bind_ok (number_at 4 c.0.1) _ x c.2 in
    let f = bind_ok (instance_at d.0.1) _ x d.2 in
    let g = bind_ok (number_at 8 f.0.1) _ x f.2 in
    let h = bind_ok (number_at 8 g.0.1) _ x g.2 in
    let i = bind_ok (tenant_at h.0.1) _ x h.2 in
    let j = bind_ok (body_at b.0.0 i.0.1) _ x i.2 in
    let version = version_found bytes a.0 are a.1 in
    let its_kind = body_kind_found a.0.1 b.0 version.are b.1 in
    let from = instance_found b.0.1 c.0 its_kind.are c.1 in
    let incarnation = number_4_found c.0.1 d.0 from.takes.are d.1 in
    let to = instance_found d.0.1 f.0 incarnation.takes.are f.1 in
    let count = number_8_found f.0.1 g.0 to.takes.are g.1 in
    let epoch = number_8_found g.0.1 h.0 count.takes.are h.1 in
    let tenant = tenant_found h.0.1 i.0 epoch.takes.are i.1 in
    let body = body_found b.0.0 i.0.1 j.0 tenant.takes.are j.1 in
    let message : Message = record {
      from = c.0.0;
      incarnation = d.0.0;
      to = f.0.0;
      count = g.0.0;
      epoch = h.0.0;
      tenant = i.0.0;
      body = j.0.0;
    } in
    let behind : List ℕ = c.0.0 ∷ (number_bytes 4 d.0.0 ++ f.0.0 ∷ (number_bytes 8 g.0.0 ++ (number_bytes 8 h.0.0
    ++ length i.0.0 ∷ (i.0.0 ++ body_bytes j.0.0)))) in
    let after_kind = then_takes from.takes (then_takes incarnation.takes (then_takes to.takes
    (then_takes count.takes (then_takes epoch.takes (then_takes tenant.takes body.takes))))) in
    let whole = then_takes version (then_takes its_kind after_kind) in
    let made : Message × List ℕ = (message, j.0.1) in
    subst (Stood inside IsMessage bytes) (done_is made x j.2) (record {
      takes = subst (λ (k : BodyKind). Takes bytes (message_version ∷ (body_number k ∷ behind)) j.0.1) (sym body.valid.its) whole;
      valid = record {
        from = from.valid;
        incarnation = incarnation.valid;
        to = to.valid;
        count = count.valid;
        epoch = epoch.valid;
        tenant = tenant.valid;
        body = body.valid.valid;
      };
    })

-- what is refused otherwise ended well where it ended well
ended_well : {A : Type 0} (refusal : WireRefusal) (r : Result A WireRefusal) (x : A) → outcome_as refusal r ≡ done x → r ≡ done x
ended_well refusal (Ok y) x e = e
ended_well refusal (Err other) x e = absurd (let never : failed refusal ≡ done x = e in cc)

-- a frame that was read
record IsFrame (bytes : List ℕ) (x : List ℕ × List ℕ) : Type 0 where
  takes : Takes bytes (number_bytes 4 (length x.0) ++ x.0) x.1
  short : length x.0 < 2 ^ 32
  are : AreBytes x.0

frame_found : (bytes : List ℕ) (x : List ℕ × List ℕ) → AreBytes bytes → frame_at bytes ≡ done x → IsFrame bytes x
unfolding frame_at
frame_found bytes x are e =
    let a = bind_ok (outcome_as CutShort (number_at 4 bytes)) _ x e in
    let number = number_4_found bytes a.0 are (ended_well CutShort (number_at 4 bytes) a.0 a.1) in
    let framed = bytes_found a.0.0 a.0.1 x number.takes.are (ended_well CutShort (bytes_at a.0.0 a.0.1) x a.2) in
    let both = counted 4 x.0 number.takes framed.takes framed.long in
    record { takes = both; short = rw framed.long number.valid; are = framed.are }

-- nothing is left
nothing_left : (left : List ℕ) → (length left == 0) ≡ true → left ≡ []
nothing_left left e = nil_from_length left (eqb-true (length left) 0 e)

pub spells_where_read : (m : Message) (bytes : List ℕ) → AreBytes bytes → message_of bytes ≡ Ok m → Spells bytes m
unfolding message_of spelling
spells_where_read m bytes are e =
    let a = bind_ok (frame_at bytes) _ m e in
    let b = bind_ok (message_at a.0.0) _ m a.2 in
    let frame = frame_found bytes a.0 are a.1 in
    let found = message_found a.0.0 b.0 frame.are b.1 in
    let kept = kept_if (length b.0.1 == 0 && length a.0.1 == 0) BytesLeft b.0.0 m b.2 in
    let left = both_true (length b.0.1 == 0) (length a.0.1 == 0) kept.0 in
    let whole : List ℕ = number_bytes 4 (length a.0.0) ++ a.0.0 in
    let read : a.0.0 ≡ inside b.0.0 =
    found.takes.front ∙ ap (λ (behind : List ℕ). inside b.0.0 ++ behind) (nothing_left b.0.1 left.0) ∙ append-nil (inside b.0.0) in
    let written : bytes ≡ whole =
    frame.takes.front ∙ ap (λ (behind : List ℕ). whole ++ behind) (nothing_left a.0.1 left.1) ∙ append-nil whole in
    subst (Spells bytes) kept.1 (record {
      bytes_are = written ∙ ap (λ (framed : List ℕ). number_bytes 4 (length framed) ++ framed) read;
      valid = found.valid;
      short = subst (λ (framed : List ℕ). length framed < 2 ^ 32) read frame.short;
    })
