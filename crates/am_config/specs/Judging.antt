-- The checks in their order, over a draft: the configuration where each passes, else the first that fails.
use Rattle.std.specs.Prelude.{◌≡◌, ℕ, Bool, not, List, Result, Ok, Err, IsOkAnd, is_ok, true, if◌then◌else◌}
use Rattle.std.specs.List.{list_all}
use Rattle.am_text.specs.Outcome.{◌>>=◌, outcome_as, outcome_map}
use Rattle.am_text.specs.declared.failure.Failure.{Failure}
use Rattle.am_text.specs.declared.failure.Failure.TheVariants.{Refused, OutOfMemory}
use Rattle.am_pattern.specs.Asking.{Stays}
use Rattle.am_pattern.specs.Cache.{Cache}
use Rattle.am_draft.specs.declared.draft.Draft.{Draft}
use Rattle.am_draft.specs.declared.refusal.DraftRefusal.{DraftRefusal}
use Rattle.am_draft.specs.Drafts.{draft_in, has_left_out}
use Rattle.am_config.specs.declared.refusal.ConfigRefusal.{ConfigRefusal}
use Rattle.am_config.specs.declared.refusal.ConfigRefusal.TheVariants.{BadReceiver, RootMatchers, BadDuration, LeftOut, BadMatcher, TooMany, BadUrl, BuildRefused}
use Rattle.am_config.specs.declared.terms.Terms.{Terms}
use Rattle.am_config.specs.Checks.{receivers_fit, is_root_bare, counts_fit}
use Rattle.am_config.specs.Completing.{completed, receivers_of}
use Rattle.am_config.specs.Configuration.{Configuration}
use Rattle.am_config.specs.Matching.{gives_matchers, matcher_texts, reads_matchers}
use Rattle.am_config.specs.Refusals.{of_draft}
use Rattle.am_config.specs.Stopping.{StopsAt}
use Rattle.am_config.specs.Terms.{terms_in}

-- what comes before the matchers: receivers, the root, durations, and keys that are left out
unfoldable pub before_matchers : Draft → Result Terms ConfigRefusal
before_matchers draft =
    if not (receivers_fit draft) then Err BadReceiver
    else if not (is_root_bare draft.routes) then Err RootMatchers
    else (outcome_as BadDuration (terms_in draft) >>= λ terms. if has_left_out draft then Err LeftOut else Ok terms)

-- what is left once all matchers are read: the counts, and then the webhooks' URLs
abbrev pub after_matchers : Draft → Terms → Result Configuration ConfigRefusal
after_matchers draft terms =
    if not (counts_fit draft) then Err TooMany
    else (receivers_of draft.receivers >>= λ receivers. Ok (completed draft terms receivers))

-- what a draft comes to where each text of matchers has to pass this test
abbrev pub judged_by : (List ℕ → Bool) → Draft → Result Configuration ConfigRefusal
judged_by test draft =
    before_matchers draft >>= λ terms.
    if not (list_all test (matcher_texts draft)) then Err BadMatcher else after_matchers draft terms

-- what reading a draft and judging it comes to, whatever is built
abbrev pub configuration : Result Draft DraftRefusal → Result Configuration ConfigRefusal
configuration drafted = outcome_map of_draft drafted >>= judged_by gives_matchers

-- the same by the grammars alone: a pattern that nests too deep to be built is taken for none
abbrev pub reading : Result Draft DraftRefusal → Result Configuration ConfigRefusal
reading drafted = outcome_map of_draft drafted >>= judged_by reads_matchers

-- it is what its text means
abbrev pub IsMeant : Configuration → Type 0
IsMeant c = configuration (draft_in c.text) ≡ Ok c

-- it is what its text is read as
abbrev pub IsRead : Configuration → Type 0
IsRead c = reading (draft_in c.text) ≡ Ok c

-- a draft's matchers were reached, and their reading stopped
abbrev pub StopsInDraft : Draft → ConfigRefusal → Cache → Cache → Type 0
StopsInDraft draft refusal old new = (is_ok (before_matchers draft) ≡ true) × StopsAt (matcher_texts draft) refusal old new

-- Why a configuration was refused. The first matcher that could not be read decides between a bad one and a build that was
-- refused; every other refusal is the one that the definition gives, and no build was refused.
abbrev pub IsRefusalOf : Result Draft DraftRefusal → Cache → Cache → ConfigRefusal → Type 0
IsRefusalOf drafted old new BadMatcher = IsOkAnd drafted (λ draft. StopsInDraft draft BadMatcher old new)
IsRefusalOf drafted old new BuildRefused = IsOkAnd drafted (λ draft. StopsInDraft draft BuildRefused old new)
IsRefusalOf drafted old new refusal = (configuration drafted ≡ Err refusal) × Stays old new

-- why there is no configuration
abbrev pub IsFailureOf : Result Draft DraftRefusal → Cache → Cache → Failure ConfigRefusal → Type 0
IsFailureOf drafted old new (Refused refusal) = IsRefusalOf drafted old new refusal
IsFailureOf drafted old new OutOfMemory = Stays old new

-- a refusal that can come once all matchers are read
abbrev pub IsLate : ConfigRefusal → Type 0
IsLate TooMany = Unit {0}
IsLate BadUrl = Unit {0}
IsLate refusal = ⊥
