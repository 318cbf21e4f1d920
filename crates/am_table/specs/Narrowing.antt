-- How label sets that are taken become fewer, matcher by matcher.
use Rattle.std.specs.Prelude.{◌&&◌, ℕ, [], ◌∷◌, List, Bool, true, false, map, zip}
use Rattle.am_labels.specs.declared.Label.{Label}
use Rattle.am_match.specs.Matchers.{MatcherText}
use Rattle.am_match.specs.Meaning.{passes, takes_labels}

-- of label sets that are taken so far, which are once one more matcher was asked
abbrev pub narrowed : MatcherText → List (List Label) → List Bool → List Bool
narrowed m sets taken = map (λ (labels, so_far). so_far && takes_labels m labels) (zip sets taken)

-- the same of values of the matcher's label
abbrev pub narrowed_by : MatcherText → List (List ℕ) → List Bool → List Bool
narrowed_by m values taken = map (λ (value, so_far). so_far && passes m.operator m.value value) (zip values taken)

-- flags whose set ones give way to answers, in their order; a set one that gets none goes
abbrev pub answered : List Bool → List Bool → List Bool
answered [] answers = []
answered (false ∷ flags) answers = false ∷ answered flags answers
answered (true ∷ flags) [] = false ∷ answered flags []
answered (true ∷ flags) (answer ∷ answers) = answer ∷ answered flags answers
