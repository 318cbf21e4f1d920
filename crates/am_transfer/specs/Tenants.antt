-- How far an instance has come with every tenant.
use Rattle.std.specs.Prelude.{◌≡◌, ℕ, List, unwrap_or, if◌then◌else◌}
use Rattle.std.specs.Map.{lookup}
use Rattle.am_tenant.specs.Names.{same}
use Rattle.am_transfer.specs.Progress.{Progress, nothing_yet}
use Rattle.am_transfer.specs.Settling.{Settling}

-- what is kept of a tenant; nothing, where no entry is its
unfoldable pub progress_of : List ℕ → List (List ℕ × Progress) → Progress
progress_of t entries = unwrap_or (lookup (λ s. same t s) entries) nothing_yet

abbrev pub settling_of : List ℕ → List (List ℕ × Progress) → Settling
settling_of t entries = (progress_of t entries).settling

-- what is kept of this tenant changes so, and what is kept of every other stays
abbrev pub Becomes : (tenant : List ℕ) → (Progress → Progress) → (old new : List (List ℕ × Progress)) → Type 0
Becomes tenant change old new =
    (t : List ℕ) → progress_of t new ≡ (if same t tenant then change (progress_of t old) else progress_of t old)
