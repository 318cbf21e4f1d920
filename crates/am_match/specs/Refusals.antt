-- The refusals by their codes.
use Rattle.std.specs.Prelude.{ℕ, List, codes}
use Rattle.am_pattern.specs.declared.refusal.PatternRefusal.{PatternRefusal}
use Rattle.am_pattern.specs.declared.refusal.PatternRefusal.TheVariants as pattern
use Rattle.am_match.specs.declared.refusal.MatcherRefusal.{MatcherRefusal}
use Rattle.am_match.specs.declared.refusal.MatcherRefusal.TheVariants.{NoMatchers, BadPattern, LongPattern, BuildRefused}
use Rattle.am_match.specs.declared.refusal.SpellRefusal.{SpellRefusal}
use Rattle.am_match.specs.declared.refusal.SpellRefusal.TheVariants.{TooLong}
use Rattle.am_match.specs.declared.refusal.TakeRefusal.{TakeRefusal}
use Rattle.am_match.specs.declared.refusal.TakeRefusal.TheVariants.{Short, Bad}

-- the code of a text or a pattern that is refused
abbrev pub matcher_code : MatcherRefusal → List ℕ
matcher_code NoMatchers = codes "M1"
matcher_code BadPattern = codes "M2"
matcher_code LongPattern = codes "M3"
matcher_code BuildRefused = codes "B2"

-- the code of matchers that are refused as bytes
abbrev pub spelling_code : SpellRefusal → List ℕ
spelling_code TooLong = codes "Mb1"

-- the code of bytes that are refused as matchers
abbrev pub taking_code : TakeRefusal → List ℕ
taking_code Short = codes "Mb2"
taking_code Bad = codes "Mb3"

-- the refusal of a pattern as one of its matchers
abbrev pub refusal_of : PatternRefusal → MatcherRefusal
refusal_of pattern.BadPattern = BadPattern
refusal_of pattern.BuildRefused = BuildRefused
