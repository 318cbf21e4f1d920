-- What a call returns where a build of a pattern may have been refused.
use Rattle.std.proofs.Common.{◌≡◌, ◌⊎◌, ℕ, suc, List, [], ◌∷◌, true, Option, Some, None, Result, Ok, Err, refl, sym, ◌∙◌, inl, inr, arith, true≢false}
use Rattle.std.proofs.lemmas.Bool.{cases_Bool}
use Rattle.std.proofs.lemmas.List.Elements.{All-nil, All-cons, All-contains}
use Rattle.am_text.specs.Outcome.{Fails, Gives, outcome_map}
use Rattle.am_text.specs.declared.failure.Failure.{Failure}
use Rattle.am_text.specs.declared.failure.Failure.TheVariants as failures
use Rattle.am_pattern.specs.Cache.{Cache}
use Rattle.am_pattern.specs.Refused.{has_text, IsRefusedRightly}
use Rattle.am_pattern.specs.Taking.{IsPattern, is_pattern}
use Rattle.am_pattern.proofs.Decided.{IsPattern-from_test, test-from_IsPattern}
use Rattle.am_match.specs.Checking.{AreRefusedRightly, IsPatternRefusal, pattern_refusal, unless_refused}
use Rattle.am_match.specs.declared.refusal.MatcherRefusal.{MatcherRefusal}
use Rattle.am_match.specs.declared.refusal.MatcherRefusal.TheVariants.{NoMatchers, BadPattern, LongPattern, BuildRefused}
use Rattle.am_match.proofs.CheckingLemmas.{long_meant}
use Rattle.am_silence.specs.Unbuilt.{FailsUnless, GivesUnless, HasRefused, IsUnbuilt}
use Rattle.am_silence.specs.declared.refusal.SilenceRefusal.{SilenceRefusal}
use Rattle.am_silence.specs.declared.refusal.SilenceRefusal.TheVariants.{BadMatcher}

-- one text: it was refused rightly, or is a pattern that was refused
of_one : (refused : List (List ℕ)) (p : List ℕ) → IsRefusedRightly refused p ⊎ (IsPattern p × (has_text refused p ≡ true))
of_one refused p =
    elim (cases_Bool (is_pattern p)) [
      | inr none ↦ inl (λ _ pattern. absurd (true≢false (sym (test-from_IsPattern p pattern) ∙ none)))
      | inl is ↦ elim (cases_Bool (has_text refused p)) [
        | inl there ↦ inr (IsPattern-from_test p is, there)
        | inr apart ↦ inl (λ there. absurd (true≢false (sym there ∙ apart)))
      ]
    ]

of_more : (refused : List (List ℕ)) (p : List ℕ) (ps : List (List ℕ)) → IsRefusedRightly refused p ⊎ (IsPattern p × (has_text refused p ≡ true)) →
    AreRefusedRightly refused ps ⊎ HasRefused refused ps → AreRefusedRightly refused (p ∷ ps) ⊎ HasRefused refused (p ∷ ps)
of_more refused p ps (inr found) rest = inr (p, ((0, omega arith, refl), found))
of_more refused p ps (inl rightly) (inl all) = inl (All-cons (λ q. IsRefusedRightly refused q) p ps rightly all)
of_more refused p ps (inl rightly) (inr (q, (there, found))) = inr (q, ((suc there.0, omega (arith, there.1), there.2), found))

-- either each of these texts was refused rightly, or one that is a pattern was refused
pub rightly_or_not : (refused ps : List (List ℕ)) → AreRefusedRightly refused ps ⊎ HasRefused refused ps
rightly_or_not refused [] = inl (All-nil (λ q. IsRefusedRightly refused q))
rightly_or_not refused (p ∷ ps) = of_more refused p ps (of_one refused p) (rightly_or_not refused ps)

-- and not both
not_both : (refused ps : List (List ℕ)) → AreRefusedRightly refused ps → HasRefused refused ps → ⊥
not_both refused ps rightly (p, (there, (pattern, known))) = All-contains (λ q. IsRefusedRightly refused q) ps p rightly there known pattern

-- what is returned where each was refused rightly
fails_rightly : {Y : Type 0} (refused ps : List (List ℕ)) (failure : Failure SilenceRefusal) (outcome : Result Y SilenceRefusal) →
    FailsUnless (IsUnbuilt refused ps) failure outcome → AreRefusedRightly refused ps → Fails failure outcome
fails_rightly refused ps failures.OutOfMemory outcome given rightly = tt
fails_rightly refused ps (failures.Refused refusal) outcome (inl is) rightly = is
fails_rightly refused ps (failures.Refused refusal) outcome (inr unbuilt) rightly = absurd (not_both refused ps rightly unbuilt.1)

pub gives_rightly : {X Y : Type 0} (refused ps : List (List ℕ)) (view : X → Y) (result : Result X (Failure SilenceRefusal)) (outcome : Result Y SilenceRefusal) →
    GivesUnless (IsUnbuilt refused ps) view result outcome → AreRefusedRightly refused ps → Gives view result outcome
gives_rightly refused ps view (Ok x) outcome given rightly = given
gives_rightly refused ps view (Err failure) outcome given rightly = fails_rightly refused ps failure outcome given rightly

told_of : {Y : Type 0} (found : Option MatcherRefusal) (refusal : MatcherRefusal) (y : Y) → unless_refused found y ≡ Err refusal → found ≡ Some refusal
told_of None refusal y e = absurd (cc)
told_of (Some other) refusal y e = cc

-- patterns that are refused: for what they are, or since one isn't built
pub patterns_refused : {Y Z : Type 0} (y : Y) (z : Z) (ps : List (List ℕ)) (old new : Cache) (refusal : MatcherRefusal) → IsPatternRefusal ps old new refusal →
    (AreRefusedRightly new.refused ps → unless_refused (pattern_refusal is_pattern ps) y ≡ Err refusal) →
    (outcome_map BadMatcher (unless_refused (pattern_refusal is_pattern ps) z) ≡ Err (BadMatcher refusal)) ⊎ IsUnbuilt new.refused ps (BadMatcher refusal)
patterns_refused y z ps old new NoMatchers found means = absurd found
patterns_refused y z ps old new LongPattern found means = inl (rw (long_meant ps found.0 found.1) refl)
patterns_refused y z ps old new BadPattern found means =
    elim (rightly_or_not new.refused ps) [
      | inl rightly ↦ inl (rw (told_of _ BadPattern y (means rightly)) refl)
      | inr known ↦ inr (inr refl, known)
    ]
patterns_refused y z ps old new BuildRefused found means =
    elim (rightly_or_not new.refused ps) [
      | inl rightly ↦ inl (rw (told_of _ BuildRefused y (means rightly)) refl)
      | inr known ↦ inr (inl refl, known)
    ]
