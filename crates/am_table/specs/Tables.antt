-- Lists of matchers, and which label sets each takes.
use Rattle.std.specs.Prelude.{◌≡◌, ◌==◌, ◌||◌, ◌++◌, ◌∷◌, [], ℕ, ◌+◌, ◌<◌, List, Bool, not, get_or, length, map}
use Rattle.std.specs.Global.{Vec}
use Rattle.std.specs.List.{flat_map, list_all}
use Rattle.am_labels.specs.declared.Label.{Label}
use Rattle.am_match.specs.Matchers.{MatcherText}
use Rattle.am_match.specs.Meaning.{takes_labels}

-- all matchers of lists
abbrev pub all_matchers : List (List MatcherText) → List MatcherText
all_matchers lists = flat_map (λ (ms : List MatcherText). ms) lists

-- the matchers of lists, each with its list's number, where the first list has this number
abbrev pub questions_from : ℕ → List (List MatcherText) → List (ℕ × MatcherText)
questions_from first [] = []
questions_from first (ms ∷ lists) = map (λ matcher. (first, matcher)) ms ++ questions_from (first + 1) lists

-- whether all those of the matchers that are the list's take the labels
abbrev pub answer_of : List (ℕ × MatcherText) → ℕ → List Label → Bool
answer_of questions number labels =
    list_all (λ (list, matcher). not (list == number) || takes_labels matcher labels) questions

-- rows of flags, one for each number: which of the label sets have this answer
abbrev pub IsTable : (ℕ → List Label → Bool) → List (List Label) → ℕ → List (Vec Bool) → Type 0
IsTable answer sets count rows =
    (length rows ≡ count)
    × ((number : ℕ) (other : Vec Bool) → number < count → (get_or rows number other).items ≡ map (answer number) sets)
