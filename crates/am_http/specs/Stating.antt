-- How the numbers of Content-Length are gathered, one after another.
use Rattle.std.specs.Prelude.{ℕ, List, [], ◌∷◌, Option, Some, None, Result, Ok, Err, if◌then◌else◌, ◌==◌, codes}
use Rattle.std.specs.Str.{str_eq_ignore_ascii_case}
use Rattle.am_http.specs.declared.refusal.FrontRefusal.{FrontRefusal}
use Rattle.am_http.specs.declared.refusal.FrontRefusal.TheVariants.{BadLength}
use Rattle.am_http.specs.declared.fields.Stated.{Stated}
use Rattle.am_http.specs.declared.fields.Stated.TheVariants.{Nothing, Number, Bad}
use Rattle.am_http.specs.Fields.{Fields, number}
use Rattle.am_http.specs.Values.{number_at, IsNumberAt}

-- the number, where the fields so far state one
abbrev pub stated_view : List ℕ → Stated → Result (Option ℕ) FrontRefusal
stated_view head Nothing = Ok None
stated_view head (Number digits) = Ok (Some (number_at head digits))
stated_view head Bad = Err BadLength

-- its digits lie in the head
abbrev pub IsStatedAt : List ℕ → Stated → Type 0
IsStatedAt head Nothing = Unit {0}
IsStatedAt head (Number digits) = IsNumberAt head (Some digits)
IsStatedAt head Bad = Unit {0}

-- a number, or a value that is none, after those before
abbrev pub and_stated : Result (Option ℕ) FrontRefusal → Option ℕ → Result (Option ℕ) FrontRefusal
and_stated (Err refusal) n = Err refusal
and_stated (Ok before) None = Err BadLength
and_stated (Ok None) (Some n) = Ok (Some n)
and_stated (Ok (Some m)) (Some n) = if m == n then Ok (Some n) else Err BadLength

-- the fields after those before
abbrev pub stated_after : Result (Option ℕ) FrontRefusal → Fields → Result (Option ℕ) FrontRefusal
stated_after stated [] = stated
stated_after stated (f ∷ fields) =
    stated_after
    (if str_eq_ignore_ascii_case f.0 (codes "Content-Length") then and_stated stated (number f.1) else stated) fields
