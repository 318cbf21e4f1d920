-- The search for the end of a head, which keeps of the bytes that came what it needs to go on.
use Rattle.std.specs.Prelude.{ℕ, ◌+◌, Bool, true, false, List, [], ◌∷◌, Option, Some, None, if◌then◌else◌, ◌==◌}
use Rattle.std.specs.Option.{option_map_or}
use Rattle.am_http.specs.declared.scan.Line.{Line}
use Rattle.am_http.specs.declared.scan.Line.TheVariants.{Empty, Return, Text}
use Rattle.am_http.specs.declared.scan.Place.{Place}
use Rattle.am_http.specs.declared.scan.Scan.{Scan}
use Rattle.am_http.specs.declared.scan.Scan.TheVariants.{Ended, Open}

-- what is kept of a line with one byte more
abbrev pub kind_and : Line → ℕ → Line
kind_and Empty b = if b == 13 then Return else Text
kind_and Return b = Text
kind_and Text b = Text

-- what is kept of a whole line
abbrev pub kind : List ℕ → Line
kind [] = Empty
kind (b ∷ []) = kind_and Empty b
kind (_ ∷ _ ∷ _) = Text

-- the beginning of a head
abbrev pub start : Place
start = record { begun = false; line = Empty }

-- the place after an LF, unless the head ends with it
abbrev pub next_line : Bool → Line → Option Place
next_line begun Empty = if begun then None else Some start
next_line begun Return = if begun then None else Some start
next_line begun Text = Some (record { begun = true; line = Empty })

-- the place after a byte, unless the head ends with it
abbrev pub next_place : Place → ℕ → Option Place
next_place p b =
    if b == 10 then next_line p.begun p.line else Some (record { begun = p.begun; line = kind_and p.line b })

-- where the head ends, or the place at which its bytes stop; n bytes came before
abbrev pub scanned : ℕ → Place → List ℕ → Scan
scanned n p [] = Open p
scanned n p (b ∷ bytes) = option_map_or (λ q. scanned (n + 1) q bytes) (next_place p b) (Ended (n + 1))
