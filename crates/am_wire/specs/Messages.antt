-- Messages: how they are spelled, which may be, and how they are read.
use Rattle.std.specs.Prelude.{◌≡◌, ℕ, ◌<◌, ◌≤◌, ◌^◌, ◌&&◌, ◌==◌, All, List, ◌∷◌, ◌++◌, length, Result, Ok, Err, IsTrue, if◌then◌else◌}
use Rattle.am_tenant.specs.Names.{is_tenant_name}
use Rattle.am_text.specs.Outcome.{◌>>=◌, outcome_as}
use Rattle.am_ring.specs.Instances.{is_instance}
use Rattle.am_wire.specs.declared.kinds.BodyKind.{BodyKind}
use Rattle.am_wire.specs.declared.kinds.BodyKind.TheVariants as kind
use Rattle.am_wire.specs.declared.message.Body.{Body}
use Rattle.am_wire.specs.declared.message.Body.TheVariants.{Get, Answer, Put, Ack, Ask, State, Got}
use Rattle.am_wire.specs.declared.message.Message.{Message}
use Rattle.am_wire.specs.declared.refusal.EncodeRefusal.{EncodeRefusal}
use Rattle.am_wire.specs.declared.refusal.EncodeRefusal.TheVariants.{BadItem, TooLong}
use Rattle.am_wire.specs.declared.refusal.WireRefusal.{WireRefusal}
use Rattle.am_wire.specs.declared.refusal.WireRefusal.TheVariants.{CutShort, UnknownKind, BadTenant, BytesLeft}
use Rattle.am_wire.specs.Fields.{Reading, byte_at, bytes_at, flag_at, flag_bytes, instance_at, number_at, number_bytes}
use Rattle.am_wire.specs.ItemFields.{IsItem, items_at, items_bytes}

-- ---- as they are spelled

-- the version of all messages, their first byte behind the length
abbrev pub message_version : ℕ
message_version = 2

-- the number of a kind
abbrev pub body_number : BodyKind → ℕ
body_number kind.Get = 1
body_number kind.Answer = 2
body_number kind.Put = 3
body_number kind.Ack = 4
body_number kind.Ask = 5
body_number kind.State = 6
body_number kind.Got = 7

abbrev pub kind_of_body : Body → BodyKind
kind_of_body (Get operation) = kind.Get
kind_of_body (Answer operation incarnation items) = kind.Answer
kind_of_body (Put operation items) = kind.Put
kind_of_body (Ack operation incarnation) = kind.Ack
kind_of_body (Ask incarnation) = kind.Ask
kind_of_body (State incarnation place is_last items) = kind.State
kind_of_body (Got incarnation place) = kind.Got

-- what a message says, whose kind is known: operations in 8 bytes, incarnations and places in 4
unfoldable pub body_bytes : Body → List ℕ
body_bytes (Get operation) = number_bytes 8 operation
body_bytes (Answer operation incarnation items) =
    number_bytes 8 operation ++ (number_bytes 4 incarnation ++ items_bytes items)
body_bytes (Put operation items) = number_bytes 8 operation ++ items_bytes items
body_bytes (Ack operation incarnation) = number_bytes 8 operation ++ number_bytes 4 incarnation
body_bytes (Ask incarnation) = number_bytes 4 incarnation
body_bytes (State incarnation place is_last items) =
    number_bytes 4 incarnation ++ (number_bytes 4 place ++ (flag_bytes is_last ++ items_bytes items))
body_bytes (Got incarnation place) = number_bytes 4 incarnation ++ number_bytes 4 place

-- a message behind its length: the version, the kind, the sender and its incarnation, the receiver, the count, the epoch, the
-- tenant behind the length of its name, and what the message says
unfoldable pub inside : Message → List ℕ
inside m =
    message_version ∷ (body_number (kind_of_body m.body) ∷ (m.from ∷ (number_bytes 4 m.incarnation ++ m.to ∷ (number_bytes 8 m.count
    ++ (number_bytes 8 m.epoch ++ length m.tenant ∷ (m.tenant ++ body_bytes m.body))))))

-- a message with the length of what follows in front, in 4 bytes
unfoldable pub spelling : Message → List ℕ
spelling m = number_bytes 4 (length (inside m)) ++ inside m

-- ---- which may be

abbrev pub IsBody : Body → Type 0
IsBody (Get operation) = operation < 2 ^ 64
IsBody (Answer operation incarnation items) = (operation < 2 ^ 64) × (incarnation < 2 ^ 32) × All IsItem items
IsBody (Put operation items) = (operation < 2 ^ 64) × All IsItem items
IsBody (Ack operation incarnation) = (operation < 2 ^ 64) × (incarnation < 2 ^ 32)
IsBody (Ask incarnation) = incarnation < 2 ^ 32
IsBody (State incarnation place is_last items) = (incarnation < 2 ^ 32) × (place < 2 ^ 32) × All IsItem items
IsBody (Got incarnation place) = (incarnation < 2 ^ 32) × (place < 2 ^ 32)

-- each value of the message is allowed
pub record IsMessage (m : Message) : Type 0 where
  pub from : IsTrue (is_instance m.from)
  pub incarnation : m.incarnation < 2 ^ 32
  pub to : IsTrue (is_instance m.to)
  pub count : m.count < 2 ^ 64
  pub epoch : m.epoch < 2 ^ 64
  pub tenant : IsTrue (is_tenant_name m.tenant)
  pub body : IsBody m.body

-- the bytes spell the message
pub record Spells (bytes : List ℕ) (m : Message) : Type 0 where
  pub bytes_are : bytes ≡ spelling m
  pub valid : IsMessage m
  pub short : length (inside m) < 2 ^ 32

-- why a message isn't written: for a value that isn't allowed, or else for its length
abbrev pub IsRefusalOf : Message → EncodeRefusal → Type 0
IsRefusalOf m BadItem = ¬ IsMessage m
IsRefusalOf m TooLong = IsMessage m × (2 ^ 32 ≤ length (spelling m))

-- ---- as they are read

unfoldable pub version_at : List ℕ → Reading ℕ
version_at bytes = do
  (byte, rest) ← byte_at bytes
  if byte == message_version then Ok (byte, rest) else Err UnknownKind

unfoldable pub body_kind_at : List ℕ → Reading BodyKind
body_kind_at bytes = do
  (byte, rest) ← byte_at bytes
  if byte == 1 then Ok (kind.Get, rest)
      else (if byte == 2 then Ok (kind.Answer, rest)
      else (if byte == 3 then Ok (kind.Put, rest)
      else (if byte == 4 then Ok (kind.Ack, rest)
      else (if byte == 5 then Ok (kind.Ask, rest)
      else (if byte == 6 then Ok (kind.State, rest)
      else (if byte == 7 then Ok (kind.Got, rest) else Err UnknownKind))))))

unfoldable pub tenant_at : List ℕ → Reading (List ℕ)
tenant_at bytes = do
  (n, behind) ← byte_at bytes
  (name, rest) ← bytes_at n behind
  if is_tenant_name name then Ok (name, rest) else Err BadTenant

unfoldable pub get_at : List ℕ → Reading Body
get_at bytes = do
  (operation, rest) ← number_at 8 bytes
  Ok (Get operation, rest)

unfoldable pub answer_at : List ℕ → Reading Body
answer_at bytes = do
  (operation, after) ← number_at 8 bytes
  (incarnation, behind) ← number_at 4 after
  (items, rest) ← items_at behind
  Ok (Answer operation incarnation items, rest)

unfoldable pub put_at : List ℕ → Reading Body
put_at bytes = do
  (operation, behind) ← number_at 8 bytes
  (items, rest) ← items_at behind
  Ok (Put operation items, rest)

unfoldable pub ack_at : List ℕ → Reading Body
ack_at bytes = do
  (operation, behind) ← number_at 8 bytes
  (incarnation, rest) ← number_at 4 behind
  Ok (Ack operation incarnation, rest)

unfoldable pub ask_at : List ℕ → Reading Body
ask_at bytes = do
  (incarnation, rest) ← number_at 4 bytes
  Ok (Ask incarnation, rest)

unfoldable pub state_at : List ℕ → Reading Body
state_at bytes = do
  (incarnation, after_incarnation) ← number_at 4 bytes
  (place, after_place) ← number_at 4 after_incarnation
  (is_last, behind) ← flag_at after_place
  (items, rest) ← items_at behind
  Ok (State incarnation place is_last items, rest)

unfoldable pub got_at : List ℕ → Reading Body
got_at bytes = do
  (incarnation, behind) ← number_at 4 bytes
  (place, rest) ← number_at 4 behind
  Ok (Got incarnation place, rest)

-- what a message of this kind says
unfoldable pub body_at : BodyKind → List ℕ → Reading Body
body_at kind.Get bytes = get_at bytes
body_at kind.Answer bytes = answer_at bytes
body_at kind.Put bytes = put_at bytes
body_at kind.Ack bytes = ack_at bytes
body_at kind.Ask bytes = ask_at bytes
body_at kind.State bytes = state_at bytes
body_at kind.Got bytes = got_at bytes

-- a message behind its length
unfoldable pub message_at : List ℕ → Reading Message
message_at bytes = do
  (version, after_version) ← version_at bytes
  (its_kind, after_kind) ← body_kind_at after_version
  (from, after_from) ← instance_at after_kind
  (incarnation, after_incarnation) ← number_at 4 after_from
  (to, after_to) ← instance_at after_incarnation
  (count, after_count) ← number_at 8 after_to
  (epoch, after_epoch) ← number_at 8 after_count
  (tenant, behind) ← tenant_at after_epoch
  (body, rest) ← body_at its_kind behind
  Ok (
    record {
      from = from;
      incarnation = incarnation;
      to = to;
      count = count;
      epoch = epoch;
      tenant = tenant;
      body = body;
    },
    rest,
  )

-- as many bytes as are stated in front of them
unfoldable pub frame_at : List ℕ → Reading (List ℕ)
frame_at bytes = do
  (n, behind) ← outcome_as CutShort (number_at 4 bytes)
  outcome_as CutShort (bytes_at n behind)

-- the message that the bytes spell, or the first refusal from left to right
unfoldable pub message_of : List ℕ → Result Message WireRefusal
message_of bytes = do
  (framed, behind) ← frame_at bytes
  (message, left) ← message_at framed
  if length left == 0 && length behind == 0 then Ok message else Err BytesLeft
