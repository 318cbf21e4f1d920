-- Where the reading of texts of matchers, one after another, stops.
use Rattle.std.specs.Prelude.{◌≡◌, ℕ, true, List, ◌∷◌, ◌++◌, chars}
use Rattle.std.specs.List.{list_all}
use Rattle.am_text.specs.Outcome.{MatchFailure}
use Rattle.am_text.specs.declared.failure.Failure.{Failure}
use Rattle.am_pattern.specs.Asking.{Stays}
use Rattle.am_pattern.specs.Cache.{Cache}
use Rattle.am_match.specs.declared.refusal.MatcherRefusal.{MatcherRefusal}
use Rattle.am_match.specs.Checking.{IsTextRefusal}
use Rattle.am_match.specs.Reading.{matchers_of}
use Rattle.am_config.specs.declared.refusal.ConfigRefusal.{ConfigRefusal}
use Rattle.am_config.specs.Matching.{reads_matchers}
use Rattle.am_config.specs.Refusals.{of_matcher}

-- At the first text that can't be read, for its refusal; the refused patterns are then the old ones and perhaps one of its.
pub record StopsAt (texts : List (List ℕ)) (refusal : ConfigRefusal) (old new : Cache) : Type 0 where
  pub front : List (List ℕ)
  pub text : List ℕ
  pub back : List (List ℕ)
  pub cause : MatcherRefusal
  pub order : texts ≡ front ++ text ∷ back
  pub before : list_all reads_matchers front ≡ true
  pub refuses : of_matcher cause ≡ refusal
  pub is_refusal : IsTextRefusal (matchers_of (chars text)) old new cause

-- the reading stops there, or memory ran out
abbrev pub IsStopOf : List (List ℕ) → Cache → Cache → Failure ConfigRefusal → Type 0
IsStopOf texts old new failure = MatchFailure failure (λ refusal. StopsAt texts refusal old new) (Stays old new)
