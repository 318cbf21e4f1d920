-- What was returned for a query, where patterns may be refused a build.
use Rattle.std.specs.Prelude.{◌≡◌, ◌⊎◌, ℕ, List, Result, Ok, Err}
use Rattle.am_text.specs.declared.failure.Failure.{Failure}
use Rattle.am_text.specs.declared.failure.Failure.TheVariants as failures
use Rattle.am_match.specs.declared.refusal.MatcherRefusal.TheVariants as matcher
use Rattle.am_query.specs.declared.refusal.QueryRefusal.{QueryRefusal}
use Rattle.am_query.specs.declared.refusal.QueryRefusal.TheVariants.{BadMatcher}
use Rattle.am_query.specs.Patterns.{HasRefused}

-- a refusal that a pattern gets which is not built, of these texts
abbrev pub IsUnbuiltRefusal : List (List ℕ) → List (List ℕ) → QueryRefusal → Type 0
IsUnbuiltRefusal refused texts reason =
    ((reason ≡ BadMatcher matcher.BuildRefused) ⊎ (reason ≡ BadMatcher matcher.BadPattern)) × HasRefused refused texts

-- a refusal that was returned is the one that the outcome is, or one of these; out of memory says nothing of it
abbrev pub FailsUnless : {Y R : Type 0} → (R → Type 0) → Failure R → Result Y R → Type 0
FailsUnless other (failures.Refused refusal) outcome = (outcome ≡ Err refusal) ⊎ other refusal
FailsUnless other failures.OutOfMemory outcome = Unit {0}

-- what was returned, seen by view, is the outcome, unless it is one of these refusals, or memory ran out
abbrev pub GivesUnless : {X Y R : Type 0} → (R → Type 0) → (X → Y) → Result X (Failure R) → Result Y R → Type 0
GivesUnless other view (Ok x) outcome = outcome ≡ Ok (view x)
GivesUnless other view (Err failure) outcome = FailsUnless other failure outcome
