-- The codes of the refusals.
use Rattle.std.specs.Prelude.{◌≡◌, ℕ, List, codes}
use Rattle.am_text.specs.declared.failure.Failure.{Failure}
use Rattle.am_text.specs.declared.failure.Failure.TheVariants.{Refused, OutOfMemory}
use Rattle.am_wire.specs.declared.refusal.WireRefusal.{WireRefusal}
use Rattle.am_wire.specs.declared.refusal.WireRefusal.TheVariants.{CutShort, FieldPastEnd, UnknownKind, BadTenant, BadValue, BytesLeft}
use Rattle.am_wire.specs.declared.refusal.EncodeRefusal.{EncodeRefusal}
use Rattle.am_wire.specs.declared.refusal.EncodeRefusal.TheVariants.{BadItem, TooLong}

-- the code of the refusal of bytes
abbrev pub code_of : WireRefusal → List ℕ
code_of CutShort = codes "Wi1"
code_of FieldPastEnd = codes "Wi2"
code_of UnknownKind = codes "Wi3"
code_of BadTenant = codes "Wi4"
code_of BadValue = codes "Wi5"
code_of BytesLeft = codes "Wi6"

-- the code of the refusal of a message
abbrev pub encode_code_of : EncodeRefusal → List ℕ
encode_code_of BadItem = codes "Wo1"
encode_code_of TooLong = codes "Wo2"

-- a message isn't written for a value that isn't allowed, by this reason, or for memory
abbrev pub IsBadBy : Type 0 → Failure EncodeRefusal → Type 0
IsBadBy Reason (Refused refusal) = (refusal ≡ BadItem) × Reason
IsBadBy Reason OutOfMemory = Unit {0}
