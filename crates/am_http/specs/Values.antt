-- How the values of fields are gathered, one after another.
use Rattle.std.specs.Prelude.{ℕ, List, [], ◌∷◌, length, Option, Some, None, Result, Ok, Err, if◌then◌else◌, ◌==◌, IsTrue}
use Rattle.std.specs.Str.Parse.{digits_value}
use Rattle.httparse.specs.declared.spans.Span.{Span}
use Rattle.httparse.specs.Spans.{span_bytes, IsWithin}
use Rattle.am_http.specs.declared.refusal.FrontRefusal.{FrontRefusal}
use Rattle.am_http.specs.Fields.{is_digits}

-- the value, if it is one, seen by a function
abbrev pub seen : {A B : Type 0} → (A → B) → Result A FrontRefusal → Result B FrontRefusal
seen f (Ok x) = Ok (f x)
seen f (Err refusal) = Err refusal

-- digits without the zeros in front
abbrev pub without_zeros : List ℕ → List ℕ
without_zeros [] = []
without_zeros (d ∷ digits) = if d == 48 then without_zeros digits else d ∷ digits

-- the number whose digits the span covers
abbrev pub number_at : List ℕ → Span → ℕ
number_at head span = digits_value 10 (span_bytes head span)

-- the span, if there is one, covers digits of the head
abbrev pub IsNumberAt : List ℕ → Option Span → Type 0
IsNumberAt head None = Unit {0}
IsNumberAt head (Some span) = IsWithin (length head) span × IsTrue (is_digits (span_bytes head span))
