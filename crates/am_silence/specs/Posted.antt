-- What a posted body comes to: a silence, or the first refusal that it meets.
use Rattle.std.specs.Prelude.{ℕ, nat_le, List, [], ◌∷◌, Option, Result, Ok, Err, if◌then◌else◌}
use Rattle.am_text.specs.Outcome.{◌>>=◌, outcome_as, outcome_map}
use Rattle.am_labels.specs.Labels.{is_label_name}
use Rattle.am_json.specs.Reading.{json}
use Rattle.am_pattern.specs.Taking.{is_pattern}
use Rattle.am_match.specs.Checking.{pattern_refusal, unless_refused}
use Rattle.am_match.specs.Matchers.{MatcherText, patterns_of}
use Rattle.am_match.specs.Meaning.{all_take}
use Rattle.am_match.specs.declared.refusal.MatcherRefusal.TheVariants.{NoMatchers}
use Rattle.am_silence.specs.declared.posted.PostedSilence.{PostedSilence}
use Rattle.am_silence.specs.declared.refusal.SilenceRefusal.{SilenceRefusal}
use Rattle.am_silence.specs.declared.refusal.SilenceRefusal.TheVariants.{WithoutMatchers, TakesEmpty, EndsByStart, Ended, BadForm, BadMatcher}
use Rattle.am_silence.specs.declared.written.Written.{Written}
use Rattle.am_silence.specs.declared.written.WrittenMatcher.{WrittenMatcher}
use Rattle.am_silence.specs.Written.{written_of}

-- a posted silence, with the list of its matchers; `id` is a text that isn't empty
pub record Posted : Type 0 where
  pub id : Option (List ℕ)
  pub starts_at : ℕ
  pub ends_at : ℕ
  pub created_by : List ℕ
  pub comment : List ℕ
  pub matchers : List MatcherText

-- what a posted silence is, without where its matchers lie in memory
abbrev pub posted_of : PostedSilence → Posted
posted_of p = record {
  id = p.id;
  starts_at = p.starts_at;
  ends_at = p.ends_at;
  created_by = p.created_by;
  comment = p.comment;
  matchers = p.matchers.items;
}

-- ---- the matchers

abbrev pub matcher_of : WrittenMatcher → MatcherText
matcher_of m = record { operator = m.operator; name = m.name; value = m.value }

-- it is on a label name
unfoldable pub named : WrittenMatcher → Result MatcherText SilenceRefusal
named m = if is_label_name m.name then Ok (matcher_of m) else Err (BadMatcher NoMatchers)

unfoldable pub each_named : List WrittenMatcher → Result (List MatcherText) SilenceRefusal
each_named [] = Ok []
each_named (m ∷ ms) = do
  matcher ← named m
  matchers ← each_named ms
  Ok (matcher ∷ matchers)

-- there is one, and each is on a label name
abbrev pub some_named : List WrittenMatcher → Result (List MatcherText) SilenceRefusal
some_named [] = Err WithoutMatchers
some_named (m ∷ ms) = each_named (m ∷ ms)

-- their patterns are patterns: a short one that isn't comes before a long one
abbrev pub with_patterns : List MatcherText → Result (List MatcherText) SilenceRefusal
with_patterns matchers = outcome_map BadMatcher (unless_refused (pattern_refusal is_pattern (patterns_of matchers)) matchers)

-- not all of them take the empty text: they would take an alert without labels
abbrev pub taking_some : List MatcherText → Result (List MatcherText) SilenceRefusal
taking_some matchers = if all_take matchers [] then Err TakesEmpty else Ok matchers

-- the matchers, judged in this order
unfoldable pub matchers_judged : List WrittenMatcher → Result (List MatcherText) SilenceRefusal
matchers_judged written = do
  matchers ← some_named written
  patterned ← with_patterns matchers
  taking_some patterned

-- ---- the times, and all of it

-- the silence ends after its start and after the moment
abbrev pub times_judged : ℕ → Posted → Result Posted SilenceRefusal
times_judged moment p =
    if nat_le p.ends_at p.starts_at then Err EndsByStart
    else (if nat_le p.ends_at moment then Err Ended else Ok p)

-- what is written, with these matchers
abbrev pub posted_with : Written → List MatcherText → Posted
posted_with w matchers = record {
  id = w.id;
  starts_at = w.starts_at;
  ends_at = w.ends_at;
  created_by = w.created_by;
  comment = w.comment;
  matchers = matchers;
}

-- the matchers come before the times
unfoldable pub judged : ℕ → Written → Result Posted SilenceRefusal
judged moment w = matchers_judged w.matchers >>= λ matchers. times_judged moment (posted_with w matchers)

-- what the body says, where it is of its form
abbrev pub written_in : List ℕ → Result Written SilenceRefusal
written_in body = do
  d ← outcome_as BadForm (json body)
  outcome_as BadForm (written_of d)

-- a body that is posted at a moment: its form comes before what it says
unfoldable pub posted : ℕ → List ℕ → Result Posted SilenceRefusal
posted moment body = written_in body >>= λ w. judged moment w

-- ---- its patterns

-- those of matchers that are named: where they are refused for that, no pattern is asked
abbrev pub patterns_named : Result (List MatcherText) SilenceRefusal → List (List ℕ)
patterns_named (Ok matchers) = patterns_of matchers
patterns_named (Err refusal) = []

abbrev pub patterns_written : Result Written SilenceRefusal → List (List ℕ)
patterns_written (Ok w) = patterns_named (some_named w.matchers)
patterns_written (Err refusal) = []

-- the texts that a body has as patterns, once it is of its form and its matchers are on label names
unfoldable pub patterns_in_body : List ℕ → List (List ℕ)
patterns_in_body body = patterns_written (written_in body)
