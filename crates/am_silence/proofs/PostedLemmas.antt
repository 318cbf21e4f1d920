-- What a posted body comes to where one of its matchers is refused.
use Rattle.std.proofs.Common.{◌≡◌, ℕ, List, Result, Ok, refl, sym, ◌∙◌, inl, inr}
use Rattle.am_text.specs.Outcome.{◌>>=◌, ForRefused}
use Rattle.am_text.specs.declared.failure.Failure.{Failure}
use Rattle.am_text.specs.declared.failure.Failure.TheVariants as failures
use Rattle.am_pattern.specs.declared.refusal.PatternRefusal.{PatternRefusal}
use Rattle.am_match.specs.Checking.{AreRefusedRightly}
use Rattle.am_match.specs.Matchers.{MatcherText, patterns_of}
use Rattle.am_silence.specs.Posted.{matchers_judged, patterns_named, some_named, taking_some, with_patterns}
use Rattle.am_silence.specs.Unbuilt.{FailsUnless, HasRefused, IsUnbuilt}
use Rattle.am_silence.specs.declared.refusal.SilenceRefusal.{SilenceRefusal}
use Rattle.am_silence.specs.declared.written.WrittenMatcher.{WrittenMatcher}
use Rattle.am_silence.proofs.BuildLemmas.{rightly_or_not}

fails_first : {A B : Type 0} (other : SilenceRefusal → Type 0) (failure : Failure SilenceRefusal) (first : Result A SilenceRefusal) (next : A → Result B SilenceRefusal) →
    FailsUnless other failure first → FailsUnless other failure (first >>= next)
fails_first other failures.OutOfMemory first next fails = tt
fails_first other (failures.Refused refusal) first next (inl is) = inl (rw is refl)
fails_first other (failures.Refused refusal) first next (inr others) = inr others

-- patterns that are refused refuse the matchers
pub patterns_failed : (ws : List WrittenMatcher) (ms : List MatcherText) (refused : List (List ℕ)) (failure : Failure SilenceRefusal) → some_named ws ≡ Ok ms →
    FailsUnless (IsUnbuilt refused (patterns_of ms)) failure (with_patterns ms) →
    FailsUnless (IsUnbuilt refused (patterns_named (some_named ws))) failure (matchers_judged ws)
unfolding matchers_judged
patterns_failed ws ms refused failure named' fails =
    rw named' (fails_first (IsUnbuilt refused (patterns_of ms)) failure (with_patterns ms) taking_some fails)

-- so does one that is refused when it is asked
pub asking_failed : (ws : List WrittenMatcher) (ms : List MatcherText) (refused : List (List ℕ)) (failure : Failure SilenceRefusal) (outcome : Result (List MatcherText) SilenceRefusal) →
    some_named ws ≡ Ok ms → ForRefused failure (IsUnbuilt refused (patterns_of ms)) →
    FailsUnless (IsUnbuilt refused (patterns_named (some_named ws))) failure outcome
asking_failed ws ms refused failures.OutOfMemory outcome named' unbuilt = tt
asking_failed ws ms refused (failures.Refused refusal) outcome named' unbuilt = inr (rw named' unbuilt)

-- what is refused when it is asked was refused a build
pub refused_asked : (refused ps : List (List ℕ)) (failure : Failure PatternRefusal) (refusal : PatternRefusal) → failure ≡ failures.Refused refusal →
    (AreRefusedRightly refused ps → failure ≡ failures.OutOfMemory) → HasRefused refused ps
refused_asked refused ps failure refusal is means =
    elim (rightly_or_not refused ps) [
      | inl rightly ↦ (let clash : failures.Refused refusal ≡ failures.OutOfMemory = sym is ∙ means rightly in absurd (cc))
      | inr known ↦ known
    ]
