-- What was read stood there, spelled so: numbers, texts, and things one after another.
use Rattle.std.specs.Prelude.{◌==◌}
use Rattle.std.proofs.Common.{◌≡◌, ℕ, zero, suc, ◌<◌, ◌≤◌, ◌^◌, Bool, true, false, cond, List, [], ◌∷◌, ◌++◌, length, take, drop, Option, Some, Result, Ok, Err, refl, sym, ap, subst, ◌∙◌, append_assoc, take-append-drop, length-take-le, leb-true, inl, inr, nat_le, IsTrue, IsUtf8}
use Rattle.std.specs.List.{flat_map}
use Rattle.std.specs.Str.{is_utf8}
use Rattle.std.proofs.lemmas.Bool.Decides.{eqb_tells}
use Rattle.std.proofs.lemmas.Str.{IsUtf8-from_is_utf8}
use Rattle.byteorder.specs.Endian.{big_number}
use Rattle.byteorder.specs.Numbers.{big_from-lt}
use Rattle.am_ring.specs.Instances.{is_instance}
use Rattle.am_text.specs.Moment.{greatest_moment}
use Rattle.am_text.specs.Outcome.{◌>>=◌}
use Rattle.am_wire.specs.declared.refusal.WireRefusal.{WireRefusal}
use Rattle.am_wire.specs.declared.refusal.WireRefusal.TheVariants.{BadValue, FieldPastEnd}
use Rattle.am_wire.specs.Bytes.{AreBytes}
use Rattle.am_wire.specs.Fields.{Chain, Reading, byte_at, bytes_at, flag_at, flag_bytes, instance_at, moment_at, number_at, number_bytes, several, text_at, text_bytes}
use Rattle.am_wire.proofs.Numbers.{AreBytes-drop, AreBytes-take, found_2, found_4, found_8}

-- what ended well, and what didn't
abbrev pub done : {A : Type 0} → A → Result A WireRefusal
done x = Ok x

abbrev pub failed : {A : Type 0} → WireRefusal → Result A WireRefusal
failed refusal = Err refusal

pub done_is : {A : Type 0} (x y : A) → done x ≡ done y → x ≡ y
done_is x y e = cc

-- where two steps end well, the first did, and the second from there
pub bind_ok : {A B : Type 0} (r : Result A WireRefusal) (f : A → Result B WireRefusal) (y : B) → (r >>= f) ≡ done y →
    (x : A) × (r ≡ done x) × (f x ≡ done y)
bind_ok (Ok x) f y e = (x, refl, e)
bind_ok (Err refusal) f y e = absurd (let never : failed refusal ≡ done y = e in cc)

-- where a test lets through, it holds
pub kept_if : {A : Type 0} (test : Bool) (refusal : WireRefusal) (x y : A) → cond test (done x) (failed refusal) ≡ done y → (test ≡ true) × (x ≡ y)
kept_if true refusal x y e = (refl, done_is x y e)
kept_if false refusal x y e = absurd (let never : failed refusal ≡ done y = e in cc)

-- what was taken from the front, and what is left
pub record Takes (bytes field left : List ℕ) : Type 0 where
  pub front : bytes ≡ field ++ left
  pub are : AreBytes left

pub then_takes : {a x b y c : List ℕ} → Takes a x b → Takes b y c → Takes a (x ++ y) c
then_takes {a} {x} {b} {y} {c} first second = record {
  front = first.front ∙ ap (λ (behind : List ℕ). x ++ behind) second.front ∙ sym (append_assoc x y c);
  are = second.are;
}

-- a thing that was read stood there, spelled so, and this holds of it
pub record Stood {A : Type 0} (bytes_of : A → List ℕ) (P : A → Type 0) (bytes : List ℕ) (x : A × List ℕ) : Type 0 where
  pub takes : Takes bytes (bytes_of x.0) x.1
  pub valid : P x.0

-- a number below another
abbrev pub IsBelow : ℕ → ℕ → Type 0
IsBelow limit n = n < limit

-- a byte
abbrev pub one_byte : ℕ → List ℕ
one_byte byte = byte ∷ []

pub byte_takes : (byte : ℕ) (rest : List ℕ) → AreBytes (byte ∷ rest) → Takes (byte ∷ rest) (byte ∷ []) rest
byte_takes byte rest are = record { front = refl; are = AreBytes-drop 1 (byte ∷ rest) are }

pub byte_found : (bytes : List ℕ) (x : ℕ × List ℕ) → AreBytes bytes → byte_at bytes ≡ done x → Stood one_byte (IsBelow 256) bytes x
byte_found [] x are e = absurd (let never : failed FieldPastEnd ≡ done x = e in cc)
byte_found (byte ∷ rest) x are e =
    subst (Stood one_byte (IsBelow 256) (byte ∷ rest)) (done_is (byte, rest) x e)
    (record { takes = byte_takes byte rest are; valid = are 0 })

-- so many bytes
pub record IsField (n : ℕ) (bytes : List ℕ) (x : List ℕ × List ℕ) : Type 0 where
  pub takes : Takes bytes x.0 x.1
  pub long : length x.0 ≡ n
  pub are : AreBytes x.0

pub bytes_found : (n : ℕ) (bytes : List ℕ) (x : List ℕ × List ℕ) → AreBytes bytes → bytes_at n bytes ≡ done x → IsField n bytes x
unfolding bytes_at
bytes_found n bytes x are e =
    let made : List ℕ × List ℕ = (take n bytes, drop n bytes) in
    let kept = kept_if (nat_le n (length bytes)) FieldPastEnd made x e in
    subst (IsField n bytes) kept.1 (record {
      takes = record { front = sym (take-append-drop n bytes); are = AreBytes-drop n bytes are };
      long = length-take-le n bytes (leb-true n (length bytes) kept.0);
      are = AreBytes-take n bytes are;
    })

-- a number in so many bytes, where its bytes are those that were there
module _ (n : ℕ) (spelled : (bytes field left : List ℕ) (x : ℕ) → AreBytes field → bytes ≡ field ++ left → length field ≡ n → x ≡ big_number n field →
    bytes ≡ number_bytes n x ++ left) where
  number_found : (bytes : List ℕ) (x : ℕ × List ℕ) → AreBytes bytes → number_at n bytes ≡ done x → Stood (number_bytes n) (IsBelow (256 ^ n)) bytes x
  unfolding number_at
  number_found bytes x are e =
      let a = bind_ok (bytes_at n bytes) _ x e in
      let field = bytes_found n bytes a.0 are a.1 in
      let made : ℕ × List ℕ = (big_number n a.0.0, a.0.1) in
      subst (Stood (number_bytes n) (IsBelow (256 ^ n)) bytes) (done_is made x a.2) (record {
        takes = record {
          front = spelled bytes a.0.0 a.0.1 (big_number n a.0.0) field.are field.takes.front field.long refl;
          are = field.takes.are;
        };
        valid = big_from-lt 0 n a.0.0 field.are;
      })

pub number_2_found : (bytes : List ℕ) (x : ℕ × List ℕ) → AreBytes bytes → number_at 2 bytes ≡ done x → Stood (number_bytes 2) (IsBelow (2 ^ 16)) bytes x
number_2_found = number_found 2 found_2

pub number_4_found : (bytes : List ℕ) (x : ℕ × List ℕ) → AreBytes bytes → number_at 4 bytes ≡ done x → Stood (number_bytes 4) (IsBelow (2 ^ 32)) bytes x
number_4_found = number_found 4 found_4

pub number_8_found : (bytes : List ℕ) (x : ℕ × List ℕ) → AreBytes bytes → number_at 8 bytes ≡ done x → Stood (number_bytes 8) (IsBelow (2 ^ 64)) bytes x
number_8_found = number_found 8 found_8

-- a flag
flag_is : (byte : ℕ) (rest : List ℕ) (flag : Bool) (x : Bool × List ℕ) → AreBytes (byte ∷ rest) → byte ∷ [] ≡ flag_bytes flag → done (flag, rest) ≡ done x →
    Takes (byte ∷ rest) (flag_bytes x.0) x.1
flag_is byte rest flag x are is e =
    subst (λ (p : Bool × List ℕ). Takes (byte ∷ rest) (flag_bytes p.0) p.1) (done_is (flag, rest) x e)
    (subst (λ (field : List ℕ). Takes (byte ∷ rest) field rest) is (byte_takes byte rest are))

pub flag_found : (bytes : List ℕ) (x : Bool × List ℕ) → AreBytes bytes → flag_at bytes ≡ done x → Takes bytes (flag_bytes x.0) x.1
unfolding flag_at
flag_found [] x are e = absurd (let never : failed FieldPastEnd ≡ done x = e in cc)
flag_found (byte ∷ rest) x are e =
    let read : cond (byte == 0) (done (false, rest)) (cond (byte == 1) (done (true, rest)) (failed BadValue)) ≡ done x = e in
    elim (eqb_tells byte 0) [
      | inl none ↦ flag_is byte rest false x are (ap (λ (b : ℕ). b ∷ []) none.1) (rw none.0 at read)
      | inr some ↦ elim (eqb_tells byte 1) [
        | inl one ↦ flag_is byte rest true x are (ap (λ (b : ℕ). b ∷ []) one.1) (rw (some.0, one.0) at read)
        | inr other ↦ absurd (let never : failed BadValue ≡ done x = rw (some.0, other.0) at read in cc)
      ]
    ]

-- an instance
abbrev pub IsInstance : ℕ → Type 0
IsInstance i = IsTrue (is_instance i)

pub instance_found : (bytes : List ℕ) (x : ℕ × List ℕ) → AreBytes bytes → instance_at bytes ≡ done x → Stood one_byte IsInstance bytes x
unfolding instance_at
instance_found [] x are e = absurd (let never : failed FieldPastEnd ≡ done x = e in cc)
instance_found (byte ∷ rest) x are e =
    let made : ℕ × List ℕ = (byte, rest) in
    let kept = kept_if (is_instance byte) BadValue made x e in
    subst (Stood one_byte IsInstance (byte ∷ rest)) kept.1
    (record { takes = byte_takes byte rest are; valid = kept.0 })

-- a moment
abbrev pub IsMoment : ℕ → Type 0
IsMoment moment = moment ≤ greatest_moment

pub moment_found : (bytes : List ℕ) (x : ℕ × List ℕ) → AreBytes bytes → moment_at bytes ≡ done x → Stood (number_bytes 8) IsMoment bytes x
unfolding moment_at
moment_found bytes x are e =
    let a = bind_ok (number_at 8 bytes) _ x e in
    let number = number_8_found bytes a.0 are a.1 in
    let kept = kept_if (nat_le a.0.0 greatest_moment) BadValue a.0 x a.2 in
    subst (Stood (number_bytes 8) IsMoment bytes) kept.1
    (record { takes = number.takes; valid = leb-true a.0.0 greatest_moment kept.0 })

-- what stands behind its length, or its number
pub counted : {A : Type 0} {bytes field behind left : List ℕ} {n : ℕ} (width : ℕ) (xs : List A) → Takes bytes (number_bytes width n) behind →
    Takes behind field left → length xs ≡ n → Takes bytes (number_bytes width (length xs) ++ field) left
counted {bytes = bytes} {field = field} {left = left} width xs number things long =
    subst (λ (n : ℕ). Takes bytes (number_bytes width n ++ field) left) (sym long) (then_takes number things)

-- a text
pub text_found : (bytes : List ℕ) (x : List ℕ × List ℕ) → AreBytes bytes → text_at bytes ≡ done x → Stood text_bytes IsUtf8 bytes x
unfolding text_at text_bytes
text_found bytes x are e =
    let a = bind_ok (number_at 4 bytes) _ x e in
    let b = bind_ok (bytes_at a.0.0 a.0.1) _ x a.2 in
    let number = number_4_found bytes a.0 are a.1 in
    let field = bytes_found a.0.0 a.0.1 b.0 number.takes.are b.1 in
    let kept = kept_if (is_utf8 b.0.0) BadValue b.0 x b.2 in
    let both = counted 4 b.0.0 number.takes field.takes field.long in
    subst (Stood text_bytes IsUtf8 bytes) kept.1 (record { takes = both; valid = IsUtf8-from_is_utf8 b.0.0 kept.0 })

-- things one after another
pub record StoodAll {A : Type 0} (bytes_of : A → List ℕ) (P : Option A → A → Type 0) (n : ℕ) (before : Option A) (bytes : List ℕ) (x : List A × List ℕ) : Type 0 where
  pub takes : Takes bytes (flat_map bytes_of x.0) x.1
  pub valid : Chain P before x.0
  pub long : length x.0 ≡ n

module _ {A : Type 0} (one : Option A → List ℕ → Reading A) (bytes_of : A → List ℕ) (P : Option A → A → Type 0)
    (one_found : (before : Option A) (bytes : List ℕ) (x : A × List ℕ) → AreBytes bytes → one before bytes ≡ done x → Stood bytes_of (P before) bytes x) where
  pub several_found : (n : ℕ) (before : Option A) (bytes : List ℕ) (x : List A × List ℕ) → AreBytes bytes → several one n before bytes ≡ done x →
      StoodAll bytes_of P n before bytes x
  unfolding several
  several_found zero before bytes x are e =
      let made : List A × List ℕ = ([], bytes) in
      subst (StoodAll bytes_of P zero before bytes) (done_is made x e)
      (record { takes = record { front = refl; are = are }; valid = tt; long = refl })
  several_found (suc n) before bytes x are e =
      let a = bind_ok (one before bytes) _ x e in
      let b = bind_ok (several one n (Some a.0.0) a.0.1) _ x a.2 in
      let first = one_found before bytes a.0 are a.1 in
      let others = several_found n (Some a.0.0) a.0.1 b.0 first.takes.are b.1 in
      let both = then_takes first.takes others.takes in
      let made : List A × List ℕ = (a.0.0 ∷ b.0.0, b.0.1) in
      subst (StoodAll bytes_of P (suc n) before bytes) (done_is made x b.2)
      (record { takes = both; valid = (first.valid, others.valid); long = ap suc others.long })
