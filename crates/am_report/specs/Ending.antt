-- How a scenario ends: what is written last, what is told on standard error, and the exit status.
use Rattle.std.specs.Prelude.{ℕ, List, [], ◌∷◌, ◌++◌, codes, decimal}
use Rattle.am_report.specs.declared.ending.Played.{Played}
use Rattle.am_report.specs.declared.ending.Played.TheVariants.{All, BadLine}

-- the last line of a scenario that was played whole
abbrev pub faults_line : ℕ → List ℕ
faults_line faults = codes "faults " ++ (decimal faults ++ 10 ∷ [])

-- what is written last, after this many faults; nothing where a line is no command
abbrev pub ending : Played → ℕ → List ℕ
ending All faults = faults_line faults
ending (BadLine n) faults = []

-- 0 where every line was played, 2 where one is no command
abbrev pub status_of : Played → ℕ
status_of All = 0
status_of (BadLine number) = 2

abbrev pub told : Played → List ℕ
told All = []
told (BadLine number) = codes "line " ++ (decimal number ++ (codes ": not a command" ++ 10 ∷ []))

-- an error's line
abbrev pub complaint : List ℕ → List ℕ
complaint text = codes "amring: " ++ (text ++ 10 ∷ [])
