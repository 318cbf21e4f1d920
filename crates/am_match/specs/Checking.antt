-- Why a text gives no matchers: it spells none, or a pattern of it is refused.
use Rattle.std.specs.Prelude.{◌≡◌, ℕ, ◌≤◌, ◌++◌, ◌∷◌, [], true, List, All, Bool, not, ◌&&◌, nat_le, length, Option, Some, None, Result, Ok, Err, if◌then◌else◌}
use Rattle.std.specs.List.{list_any}
use Rattle.std.specs.Option.{option_map_or}
use Rattle.am_text.specs.declared.failure.Failure.{Failure}
use Rattle.am_text.specs.declared.failure.Failure.TheVariants.{Refused, OutOfMemory}
use Rattle.am_pattern.specs.Asking.{IsRefused, Stays}
use Rattle.am_pattern.specs.Cache.{Cache}
use Rattle.am_pattern.specs.Refused.{noted, IsRefusedRightly}
use Rattle.am_pattern.specs.Taking.{is_pattern, is_shallow, longest_pattern}
use Rattle.am_pattern.specs.declared.refusal.PatternRefusal.{PatternRefusal}
use Rattle.am_pattern.specs.declared.refusal.PatternRefusal.TheVariants as pattern
use Rattle.am_match.specs.declared.refusal.MatcherRefusal.{MatcherRefusal}
use Rattle.am_match.specs.declared.refusal.MatcherRefusal.TheVariants.{NoMatchers, BadPattern, LongPattern, BuildRefused}
use Rattle.am_match.specs.Matchers.{MatcherText, patterns_of}

-- short enough to be built: no longer than a pattern may be
abbrev pub is_short : List ℕ → Bool
is_short p = nat_le (length p) longest_pattern

-- the refusal of patterns by a test: of a short one that fails it, else of one that is too long
abbrev pub pattern_refusal : (List ℕ → Bool) → List (List ℕ) → Option MatcherRefusal
pattern_refusal test patterns =
    if list_any (λ p. is_short p && not (test p)) patterns then Some BadPattern
    else if list_any (λ p. not (is_short p)) patterns then Some LongPattern
    else None

-- the value, unless there is a refusal
abbrev pub unless_refused : {A : Type 0} → Option MatcherRefusal → A → Result A MatcherRefusal
unless_refused None value = Ok value
unless_refused (Some refusal) value = Err refusal

-- what a text comes to by what it spells: its matchers, or its refusal where patterns have to pass the test
abbrev pub outcome_by : (List ℕ → Bool) → Option (List MatcherText) → Result (List MatcherText) MatcherRefusal
outcome_by test None = Err NoMatchers
outcome_by test (Some ms) = unless_refused (pattern_refusal test (patterns_of ms)) ms

-- what a text means, whatever is built
abbrev pub meaning_of : Option (List MatcherText) → Result (List MatcherText) MatcherRefusal
meaning_of spelled = outcome_by is_pattern spelled

-- what a text is read as: its meaning, but that a pattern which nests too deep to be built is taken for none
abbrev pub reading_of : Option (List MatcherText) → Result (List MatcherText) MatcherRefusal
reading_of spelled = outcome_by is_shallow spelled

-- a refusal that was returned is the one that the outcome is; of a refused build and of memory it says nothing
abbrev pub FailsUnlessBuild : {Y : Type 0} → Failure MatcherRefusal → Result Y MatcherRefusal → Type 0
FailsUnlessBuild (Refused NoMatchers) outcome = outcome ≡ Err NoMatchers
FailsUnlessBuild (Refused BadPattern) outcome = outcome ≡ Err BadPattern
FailsUnlessBuild (Refused LongPattern) outcome = outcome ≡ Err LongPattern
FailsUnlessBuild (Refused BuildRefused) outcome = Unit {0}
FailsUnlessBuild OutOfMemory outcome = Unit {0}

-- what was returned, seen by view, is the outcome, unless a build was refused or memory ran out
abbrev pub GivesUnlessBuild : {X Y : Type 0} → (X → Y) → Result X (Failure MatcherRefusal) → Result Y MatcherRefusal → Type 0
GivesUnlessBuild view (Ok x) outcome = outcome ≡ Ok (view x)
GivesUnlessBuild view (Err failure) outcome = FailsUnlessBuild failure outcome

-- it is so of the text, unless that is too long to be built
abbrev pub WhereShort : (List ℕ → Type 0) → List ℕ → Type 0
WhereShort Is p = length p ≤ longest_pattern → Is p

-- the text isn't refused as a pattern, unless it is too long to be built
abbrev pub IsFine : List ℕ → Type 0
IsFine = WhereShort (λ p. is_shallow p ≡ true)

-- The first of the short patterns that was refused, and for what; the cache then has it as refused, and no other.
pub record StopsAt (patterns : List (List ℕ)) (refusal : PatternRefusal) (old new : Cache) : Type 0 where
  pub front : List (List ℕ)
  pub refused : List ℕ
  pub back : List (List ℕ)
  pub order : patterns ≡ front ++ refused ∷ back
  pub fine : All IsFine front
  pub short : length refused ≤ longest_pattern
  pub is_refused : IsRefused new refused refusal
  pub kept : new.refused ≡ noted old.refused refused

-- A refusal of patterns: the first that was refused decides, and a long one only where there is none.
abbrev pub IsPatternRefusal : List (List ℕ) → Cache → Cache → MatcherRefusal → Type 0
IsPatternRefusal patterns old new NoMatchers = ⊥
IsPatternRefusal patterns old new BadPattern = StopsAt patterns pattern.BadPattern old new
IsPatternRefusal patterns old new BuildRefused = StopsAt patterns pattern.BuildRefused old new
IsPatternRefusal patterns old new LongPattern =
    All IsFine patterns × (list_any (λ p. not (is_short p)) patterns ≡ true) × Stays old new

-- a refusal of a text, by what it spells
abbrev pub IsTextRefusal : Option (List MatcherText) → Cache → Cache → MatcherRefusal → Type 0
IsTextRefusal None old new NoMatchers = Stays old new
IsTextRefusal None old new refusal = ⊥
IsTextRefusal (Some ms) old new refusal = IsPatternRefusal (patterns_of ms) old new refusal

-- the checking of patterns fails, for a refusal or for memory
abbrev pub IsPatternFailure : List (List ℕ) → Cache → Cache → Failure MatcherRefusal → Type 0
IsPatternFailure patterns old new (Refused refusal) = IsPatternRefusal patterns old new refusal
IsPatternFailure patterns old new OutOfMemory = Stays old new

-- the reading of a text fails, by what it spells
abbrev pub IsTextFailure : Option (List MatcherText) → Cache → Cache → Failure MatcherRefusal → Type 0
IsTextFailure spelled old new (Refused refusal) = IsTextRefusal spelled old new refusal
IsTextFailure spelled old new OutOfMemory = Stays old new

-- where one of the patterns is among the refused texts, it is no pattern
abbrev pub AreRefusedRightly : List (List ℕ) → List (List ℕ) → Type 0
AreRefusedRightly texts patterns = All (λ p. IsRefusedRightly texts p) patterns

-- the patterns in what a text spells
abbrev pub patterns_in : Option (List MatcherText) → List (List ℕ)
patterns_in spelled = option_map_or patterns_of spelled []
