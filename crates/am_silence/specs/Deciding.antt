-- Which pattern decides where one is refused.
use Rattle.std.specs.Prelude.{ℕ, List}
use Rattle.am_text.specs.Outcome.{MatchFailure}
use Rattle.am_text.specs.declared.failure.Failure.{Failure}
use Rattle.am_pattern.specs.Asking.{Stays}
use Rattle.am_pattern.specs.Cache.{Cache}
use Rattle.am_match.specs.Checking.{IsPatternRefusal}
use Rattle.am_match.specs.declared.refusal.MatcherRefusal.TheVariants.{NoMatchers, BadPattern, LongPattern, BuildRefused}
use Rattle.am_silence.specs.declared.refusal.SilenceRefusal.{SilenceRefusal}
use Rattle.am_silence.specs.declared.refusal.SilenceRefusal.TheVariants.{WithoutMatchers, TakesEmpty, EndsByStart, Unknown, Ended, BadForm, BadMatcher}

-- Where a pattern is refused, the first short one that is refused decides, and a long one only where there is none. For all
-- else no build was refused.
abbrev pub FirstDecides : List (List ℕ) → Cache → Cache → SilenceRefusal → Type 0
FirstDecides patterns old new (BadMatcher BadPattern) = IsPatternRefusal patterns old new BadPattern
FirstDecides patterns old new (BadMatcher BuildRefused) = IsPatternRefusal patterns old new BuildRefused
FirstDecides patterns old new (BadMatcher LongPattern) = IsPatternRefusal patterns old new LongPattern
FirstDecides patterns old new (BadMatcher NoMatchers) = Stays old new
FirstDecides patterns old new WithoutMatchers = Stays old new
FirstDecides patterns old new TakesEmpty = Stays old new
FirstDecides patterns old new EndsByStart = Stays old new
FirstDecides patterns old new Unknown = Stays old new
FirstDecides patterns old new Ended = Stays old new
FirstDecides patterns old new BadForm = Stays old new

-- .. or memory ran out
abbrev pub FailsFirst : List (List ℕ) → Cache → Cache → Failure SilenceRefusal → Type 0
FailsFirst patterns old new failure = MatchFailure failure (FirstDecides patterns old new) (Stays old new)

-- it is not a pattern that is refused
abbrev pub IsOfNoPattern : SilenceRefusal → Type 0
IsOfNoPattern (BadMatcher BadPattern) = ⊥
IsOfNoPattern (BadMatcher BuildRefused) = ⊥
IsOfNoPattern (BadMatcher LongPattern) = ⊥
IsOfNoPattern (BadMatcher NoMatchers) = Unit {0}
IsOfNoPattern WithoutMatchers = Unit {0}
IsOfNoPattern TakesEmpty = Unit {0}
IsOfNoPattern EndsByStart = Unit {0}
IsOfNoPattern Unknown = Unit {0}
IsOfNoPattern Ended = Unit {0}
IsOfNoPattern BadForm = Unit {0}
