-- Why matchers that are asked give no answer, and what the cache then has as refused.
use Rattle.std.specs.Prelude.{◌≡◌, List, IsTrue}
use Rattle.std.specs.List.{Contains}
use Rattle.am_text.specs.declared.failure.Failure.{Failure}
use Rattle.am_text.specs.declared.failure.Failure.TheVariants.{Refused, OutOfMemory}
use Rattle.am_pattern.specs.Asking.{IsRefused, Stays}
use Rattle.am_pattern.specs.Cache.{Cache}
use Rattle.am_pattern.specs.Refused.{noted}
use Rattle.am_pattern.specs.declared.refusal.PatternRefusal.{PatternRefusal}
use Rattle.am_match.specs.Matchers.{MatcherText, is_on_pattern}

-- the pattern of the matcher was refused, and the cache then has it as refused, and no other
pub record IsRefusalOf (m : MatcherText) (old new : Cache) (refusal : PatternRefusal) : Type 0 where
  pub on_pattern : IsTrue (is_on_pattern m.operator)
  pub is_refused : IsRefused new m.value refusal
  pub kept : new.refused ≡ noted old.refused m.value

-- the matcher gives no answer
abbrev pub IsFailureOf : MatcherText → Cache → Cache → Failure PatternRefusal → Type 0
IsFailureOf m old new (Refused refusal) = IsRefusalOf m old new refusal
IsFailureOf m old new OutOfMemory = Stays old new

-- one of the matchers gives no answer
abbrev pub IsFailureAmong : List MatcherText → Cache → Cache → Failure PatternRefusal → Type 0
IsFailureAmong ms old new (Refused refusal) = (m : MatcherText) × Contains ms m × IsRefusalOf m old new refusal
IsFailureAmong ms old new OutOfMemory = Stays old new
