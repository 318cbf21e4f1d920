-- What matchers take.
use Rattle.std.specs.Prelude.{ℕ, List, Bool, not, ◌&&◌, Result, Ok, Err, if◌then◌else◌}
use Rattle.std.specs.List.{list_all}
use Rattle.std.specs.Str.{bytes_eq}
use Rattle.am_pattern.specs.Taking.{is_pattern, takes}
use Rattle.am_pattern.specs.declared.refusal.PatternRefusal.{PatternRefusal}
use Rattle.am_pattern.specs.declared.refusal.PatternRefusal.TheVariants.{BadPattern}
use Rattle.am_labels.specs.declared.Label.{Label}
use Rattle.am_labels.specs.Sets.{value_of}
use Rattle.am_match.specs.declared.matcher.Operator.{Operator}
use Rattle.am_match.specs.declared.matcher.Operator.TheVariants.{Equal, NotEqual, Match, NotMatch}
use Rattle.am_match.specs.Matchers.{MatcherText, is_on_pattern}

-- whether a label's value passes, against the matcher's value
abbrev pub passes : Operator → List ℕ → List ℕ → Bool
passes Equal wanted value = bytes_eq wanted value
passes NotEqual wanted value = not (bytes_eq wanted value)
passes Match wanted value = takes wanted value
passes NotMatch wanted value = not (takes wanted value)

-- whether the matcher takes the labels; a missing one has the empty value
abbrev pub takes_labels : MatcherText → List Label → Bool
takes_labels m labels = passes m.operator m.value (value_of m.name labels)

-- whether all of the matchers take the labels
abbrev pub all_take : List MatcherText → List Label → Bool
all_take ms labels = list_all (λ m. takes_labels m labels) ms

-- what a question comes to, whatever is built: whether the labels are taken, or the refusal of what is no pattern
abbrev pub taking_of : MatcherText → List Label → Result Bool PatternRefusal
taking_of m labels =
    if is_on_pattern m.operator && not (is_pattern m.value) then Err BadPattern else Ok (takes_labels m labels)
