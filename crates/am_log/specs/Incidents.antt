-- What happened, and is to be told.
use Rattle.std.specs.Prelude.{ℕ, List, [], ◌∷◌, Option, None, Some}
use Rattle.am_log.specs.declared.entry.ToldFailure.{ToldFailure}
use Rattle.am_log.specs.declared.entry.WebhookFailure.{WebhookFailure}

-- a failure as it is told with how many were left out before it, or nothing where it is left out
abbrev pub told_with : WebhookFailure → Option ℕ → List ToldFailure
told_with failure None = []
told_with failure (Some left_out) = record { failure = failure; left_out = left_out } ∷ []
