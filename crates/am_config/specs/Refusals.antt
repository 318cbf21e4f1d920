-- The refusals of configurations, by their codes.
use Rattle.std.specs.Prelude.{ℕ, List, codes}
use Rattle.am_draft.specs.declared.refusal.DraftRefusal.{DraftRefusal}
use Rattle.am_draft.specs.declared.refusal.DraftRefusal.TheVariants as draft
use Rattle.am_match.specs.declared.refusal.MatcherRefusal.{MatcherRefusal}
use Rattle.am_match.specs.declared.refusal.MatcherRefusal.TheVariants as matcher
use Rattle.am_config.specs.declared.refusal.ConfigRefusal.{ConfigRefusal}
use Rattle.am_config.specs.declared.refusal.ConfigRefusal.TheVariants.{NotJson, BadForm, BadReceiver, RootMatchers, BadDuration, LeftOut, BadMatcher, TooMany, BadUrl, BuildRefused}

-- the code that a refusal carries
abbrev pub code_of : ConfigRefusal → List ℕ
code_of NotJson = codes "C1"
code_of BadForm = codes "C2"
code_of BadReceiver = codes "C3"
code_of RootMatchers = codes "C4"
code_of BadDuration = codes "C5"
code_of LeftOut = codes "C6"
code_of BadMatcher = codes "C7"
code_of TooMany = codes "C8"
code_of BadUrl = codes "C9"
code_of BuildRefused = codes "B2"

-- a draft's refusal is the configuration's
abbrev pub of_draft : DraftRefusal → ConfigRefusal
of_draft draft.NotJson = NotJson
of_draft draft.BadForm = BadForm

-- a text that gives no matchers; a build that was refused is told apart
abbrev pub of_matcher : MatcherRefusal → ConfigRefusal
of_matcher matcher.NoMatchers = BadMatcher
of_matcher matcher.BadPattern = BadMatcher
of_matcher matcher.LongPattern = BadMatcher
of_matcher matcher.BuildRefused = BuildRefused
