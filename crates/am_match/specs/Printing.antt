-- How matchers are printed, as characters.
use Rattle.std.specs.Prelude.{ℕ, List, [], ◌∷◌, ◌++◌, ◌==◌, chars, codes, if◌then◌else◌}
use Rattle.std.specs.List.{flat_map, join_by}
use Rattle.am_match.specs.declared.matcher.Operator.{Operator}
use Rattle.am_match.specs.declared.matcher.Operator.TheVariants.{Equal, NotEqual, Match, NotMatch}
use Rattle.am_match.specs.Matchers.{MatcherText}

-- an operator as it is written
abbrev pub operator_text : Operator → List ℕ
operator_text Equal = codes "="
operator_text NotEqual = codes "!="
operator_text Match = codes "=~"
operator_text NotMatch = codes "!~"

-- a character as it stands within quotation marks
abbrev pub escaped : ℕ → List ℕ
escaped c =
    if c == 34 then codes "\\\""
    else if c == 92 then codes "\\\\"
    else if c == 10 then codes "\\n"
    else c ∷ []

-- a value within quotation marks
abbrev pub printed_value : List ℕ → List ℕ
printed_value value = 34 ∷ (flat_map escaped (chars value) ++ 34 ∷ [])

-- a name, which is ASCII, an operator and a value
abbrev pub printed_one : MatcherText → List ℕ
printed_one m = m.name ++ (operator_text m.operator ++ printed_value m.value)

-- the matchers with commas between
abbrev pub printed : List MatcherText → List ℕ
printed ms = join_by printed_one (codes ",") ms
