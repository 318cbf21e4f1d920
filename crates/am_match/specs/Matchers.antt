-- What clauses see of a matcher.
use Rattle.std.specs.Prelude.{ℕ, Bool, true, false, List, [], ◌∷◌, IsTrue, IsUtf8, if◌then◌else◌}
use Rattle.am_labels.specs.Labels.{is_label_name}
use Rattle.am_match.specs.declared.matcher.Operator.TheVariants.{Equal, NotEqual, Match, NotMatch}
use Rattle.am_match.specs.declared.matcher.Operator.{Operator}

-- an operator between a label's name and a value, both as UTF-8
pub record MatcherText : Type 0 where
  pub operator : Operator
  pub name : List ℕ
  pub value : List ℕ

-- the name is a label name, and the value is text
pub record IsMatcher (m : MatcherText) : Type 0 where
  pub named : IsTrue (is_label_name m.name)
  pub text : IsUtf8 m.value

-- the operator compares by a pattern
abbrev pub is_on_pattern : Operator → Bool
is_on_pattern Equal = false
is_on_pattern NotEqual = false
is_on_pattern Match = true
is_on_pattern NotMatch = true

-- the patterns of matchers, in their order
abbrev pub patterns_of : List MatcherText → List (List ℕ)
patterns_of [] = []
patterns_of (m ∷ ms) = if is_on_pattern m.operator then m.value ∷ patterns_of ms else patterns_of ms
