-- The refusals of silences by their codes.
use Rattle.std.specs.Prelude.{ℕ, List, codes}
use Rattle.am_match.specs.Refusals.{matcher_code}
use Rattle.am_silence.specs.declared.refusal.SilenceRefusal.{SilenceRefusal}
use Rattle.am_silence.specs.declared.refusal.SilenceRefusal.TheVariants.{WithoutMatchers, TakesEmpty, EndsByStart, Unknown, Ended, BadForm, BadMatcher}

-- the code that a refusal shows
abbrev pub code_of : SilenceRefusal → List ℕ
code_of WithoutMatchers = codes "S1"
code_of TakesEmpty = codes "S2"
code_of EndsByStart = codes "S3"
code_of Unknown = codes "S4"
code_of Ended = codes "S5"
code_of BadForm = codes "S6"
code_of (BadMatcher refusal) = matcher_code refusal
