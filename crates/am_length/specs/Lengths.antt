-- How many bytes spell texts, labels and matchers in a message.
use Rattle.std.specs.Prelude.{ℕ, ◌+◌, List, length, sum_by, Option, Some, None}
use Rattle.am_labels.specs.declared.Label.{Label}
use Rattle.am_match.specs.Matchers.{MatcherText}

-- a text, behind its length in 4 bytes
abbrev pub text_length : List ℕ → ℕ
text_length text = 4 + length text

-- a text that may be missing, behind a flag
abbrev pub optional_text_length : Option (List ℕ) → ℕ
optional_text_length None = 1
optional_text_length (Some text) = 1 + text_length text

-- a label: its name and its value
abbrev pub label_length : Label → ℕ
label_length label = text_length label.name + text_length label.value

-- labels, behind their number in 2 bytes
abbrev pub labels_length : List Label → ℕ
labels_length labels = 2 + sum_by label_length labels

-- label sets, behind their number in 4 bytes
abbrev pub label_sets_length : List (List Label) → ℕ
label_sets_length sets = 4 + sum_by labels_length sets

-- a matcher: its operator in a byte, its label's name and its value
abbrev pub matcher_length : MatcherText → ℕ
matcher_length m = 1 + text_length m.name + text_length m.value

-- matchers, behind their number in 2 bytes
abbrev pub matchers_length : List MatcherText → ℕ
matchers_length ms = 2 + sum_by matcher_length ms
