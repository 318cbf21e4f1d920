-- Why what came can't be followed.
use Rattle.std.proofs.Common.{◌⊎◌, inl, inr, ℕ, ◌<◌, length, List, [], ◌∷◌, Result, Ok, Err, IfErr, subst, arith}
use Rattle.std.proofs.lemmas.List.{length-map}
use Rattle.am_config.specs.Configuration.{Configuration}
use Rattle.am_labels.specs.declared.Label.{Label}
use Rattle.am_planning.specs.Planning.{planned_alerts}
use Rattle.am_members.specs.declared.known.Known.{Known}
use Rattle.am_members.specs.Grouped.{put_all}
use Rattle.am_text.specs.Outcome.{ForRefused}
use Rattle.am_text.specs.declared.failure.Failure.{Failure}
use Rattle.am_text.specs.declared.failure.Failure.TheVariants.{Refused, OutOfMemory}
use Rattle.am_notifier.specs.Following.{all_sooner, met, unknown_of}

-- a refusal for one more reason
pub with_reason : {R : Type 0} (P Q : Type 0) (failure : Failure R) → P → ForRefused failure (λ _. Q) → ForRefused failure (λ _. P × Q)
with_reason P Q (Refused refusal) p q = (p, q)
with_reason P Q OutOfMemory p q = tt

-- .. or for another one
pub by_either : {R : Type 0} (P P' Q : Type 0) (failure : Failure R) → (P → P') → ForRefused failure (λ _. P × Q) → ForRefused failure (λ _. P' × Q)
by_either P P' Q (Refused refusal) more found = (more found.0, found.1)
by_either P P' Q OutOfMemory more found = tt

pub all_by_either : {R X : Type 0} (P P' Q : Type 0) (result : Result X (Failure R)) → (P → P') → IfErr result (λ failure. ForRefused failure (λ _. P × Q)) →
    IfErr result (λ failure. ForRefused failure (λ _. P' × Q))
all_by_either P P' Q (Ok x) more found = tt
all_by_either P P' Q (Err failure) more found = by_either P P' Q failure more found

-- alerts are there once label sets came: one of these wasn't known, or one was there before
pub met_some : (c : Configuration) (moment : ℕ) (sets : List (List Label)) (alerts : List (List Label × Known)) → 0 < length (met c moment sets alerts) →
    (0 < length (unknown_of moment sets alerts)) ⊎ (0 < length alerts)
unfolding met all_sooner planned_alerts
met_some c moment sets alerts some = by (unknown_of moment sets alerts) some
  where
    by : (us : List (List Label × ℕ)) → 0 < length (put_all (planned_alerts c us) (all_sooner moment sets alerts)) → (0 < length us) ⊎ (0 < length alerts)
    by [] there = inr (subst (λ n. 0 < n) (length-map alerts _) there)
    by (u ∷ us) there = inl (omega arith)
