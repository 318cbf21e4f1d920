-- What a call comes to where a build of a pattern may have been refused.
use Rattle.std.specs.Prelude.{◌≡◌, ◌⊎◌, ℕ, true, List, Result, Ok, Err}
use Rattle.std.specs.List.{Contains}
use Rattle.am_text.specs.declared.failure.Failure.{Failure}
use Rattle.am_text.specs.declared.failure.Failure.TheVariants as failures
use Rattle.am_pattern.specs.Refused.{has_text}
use Rattle.am_pattern.specs.Taking.{IsPattern}
use Rattle.am_match.specs.declared.refusal.MatcherRefusal.TheVariants.{BadPattern, BuildRefused}
use Rattle.am_silence.specs.declared.refusal.SilenceRefusal.{SilenceRefusal}
use Rattle.am_silence.specs.declared.refusal.SilenceRefusal.TheVariants.{BadMatcher}

-- one of these texts is a pattern, and stands among those that were refused a build
abbrev pub HasRefused : List (List ℕ) → List (List ℕ) → Type 0
HasRefused refused texts =
    (text : List ℕ) × (Contains texts text × (IsPattern text × (has_text refused text ≡ true)))

-- a refusal that a pattern gets which is not built, of these texts: one that nests too deep is told as no pattern
abbrev pub IsUnbuilt : List (List ℕ) → List (List ℕ) → SilenceRefusal → Type 0
IsUnbuilt refused texts refusal =
    ((refusal ≡ BadMatcher BuildRefused) ⊎ (refusal ≡ BadMatcher BadPattern)) × HasRefused refused texts

-- a refusal that was returned is the one that the outcome is, or one of these; out of memory says nothing of it
abbrev pub FailsUnless : {Y R : Type 0} → (R → Type 0) → Failure R → Result Y R → Type 0
FailsUnless other (failures.Refused refusal) outcome = (outcome ≡ Err refusal) ⊎ other refusal
FailsUnless other failures.OutOfMemory outcome = Unit {0}

-- what was returned, seen by view, is the outcome, unless it is one of these refusals, or memory ran out
abbrev pub GivesUnless : {X Y R : Type 0} → (R → Type 0) → (X → Y) → Result X (Failure R) → Result Y R → Type 0
GivesUnless other view (Ok x) outcome = outcome ≡ Ok (view x)
GivesUnless other view (Err failure) outcome = FailsUnless other failure outcome
