-- Patterns that give no answer.
use Rattle.std.proofs.Common.{ℕ, List, All, ◌++◌, inl, inr}
use Rattle.std.specs.List.{Contains}
use Rattle.std.proofs.lemmas.List.Elements.{All-contains, Contains-append_cases, Contains-append_left, Contains-append_right}
use Rattle.am_text.specs.Outcome.{ForRefused}
use Rattle.am_text.specs.declared.failure.Failure.{Failure}
use Rattle.am_text.specs.declared.failure.Failure.TheVariants.{Refused, OutOfMemory}
use Rattle.am_pattern.specs.Taking.{IsPattern}
use Rattle.am_muting.specs.Failing.{HasUnanswered}
use Rattle.am_muting.proofs.Failures.{unanswered_later}
use Rattle.am_query.specs.Patterns.{Among, HasRefused}
use Rattle.am_query.proofs.Builds.{refused_among}
use Rattle.am_listing.specs.declared.refusal.Unanswered.{Unanswered}
use Rattle.am_listing.specs.declared.refusal.Unanswered.TheVariants.{Asked, Stored}
use Rattle.am_listing.specs.Failing.{IsUnanswered}

-- of texts that are all patterns the one that gives no answer was refused a build
pub refused_pattern : (refused texts : List (List ℕ)) → All IsPattern texts → HasUnanswered refused texts → HasRefused refused texts
refused_pattern refused texts patterns found =
    let is = All-contains IsPattern texts found.0 patterns found.1.0 in (found.0, (found.1.0, (is, found.1.1 is)))

-- and one that was refused a build gives no answer
pub unanswered_pattern : (refused texts : List (List ℕ)) → HasRefused refused texts → HasUnanswered refused texts
unanswered_pattern refused texts found = (found.0, (found.1.0, λ _. found.1.1.1))

-- by more texts of both
pub unanswered_among : (refused xs ys stored more : List (List ℕ)) (failure : Failure Unanswered) → Among xs ys → Among stored more →
    ForRefused failure (IsUnanswered refused xs stored) → ForRefused failure (IsUnanswered refused ys more)
unanswered_among refused xs ys stored more OutOfMemory own others known = tt
unanswered_among refused xs ys stored more (Refused Asked) own others known = refused_among refused xs ys own known
unanswered_among refused xs ys stored more (Refused Stored) own others known = unanswered_later refused stored more others known

-- ---- texts of the query, and of what is stored

-- with more stored ones in front
pub within_all : (own others stored : List (List ℕ)) (text : List ℕ) → Contains (own ++ stored) text → Contains (own ++ (others ++ stored)) text
within_all own others stored text there =
    elim (Contains-append_cases own stored text there) [
      | inl mine ↦ Contains-append_left own (others ++ stored) text mine
      | inr theirs ↦ Contains-append_right own (others ++ stored) text (Contains-append_right others stored text theirs)
    ]

-- with more of the query's behind its own
pub left_more : (own others stored : List (List ℕ)) (text : List ℕ) → Contains (own ++ stored) text → Contains ((own ++ others) ++ stored) text
left_more own others stored text there =
    elim (Contains-append_cases own stored text there) [
      | inl mine ↦ Contains-append_left (own ++ others) stored text (Contains-append_left own others text mine)
      | inr theirs ↦ Contains-append_right (own ++ others) stored text theirs
    ]

-- with more of the query's in front, and stored ones
pub right_more : (own others stored : List (List ℕ)) (text : List ℕ) → Contains others text → Contains ((own ++ others) ++ stored) text
right_more own others stored text there =
    Contains-append_left (own ++ others) stored text (Contains-append_right own others text there)
