-- Patterns that give no answer.
use Rattle.std.specs.Prelude.{◌≡◌, ℕ, true, List, All, ◌++◌}
use Rattle.std.specs.List.{Contains}
use Rattle.am_item.specs.declared.item.Item.{Item}
use Rattle.am_pattern.specs.Refused.{has_text}
use Rattle.am_pattern.specs.Taking.{IsPattern}
use Rattle.am_match.specs.Matchers.{patterns_of}
use Rattle.am_config.specs.Configuration.{Configuration}
use Rattle.am_inhibit.specs.Inhibits.{rule_matchers}
use Rattle.am_silence.specs.Held.{active_among, matchers_in}

-- one of these texts gives no answer: where it is a pattern, it stands among those that were refused a build
abbrev pub HasUnanswered : List (List ℕ) → List (List ℕ) → Type 0
HasUnanswered refused texts =
    (text : List ℕ) × (Contains texts text × (IsPattern text → has_text refused text ≡ true))

-- the patterns that mute alerts: those of a configuration's inhibit rules, and those of the silences that are active
abbrev pub patterns_muting : Configuration → ℕ → List Item → List (List ℕ)
patterns_muting c moment held = patterns_of (rule_matchers c.rules) ++ patterns_of (matchers_in (active_among moment held))

-- the later texts are the earlier ones, and behind them only such as these
pub record AddsOnly (IsSuch : List ℕ → Type 0) (old new : List (List ℕ)) : Type 0 where
  pub more : List (List ℕ)
  pub refused : new ≡ old ++ more
  pub each : All IsSuch more

-- .. only some of these texts
abbrev pub AddsAmong : List (List ℕ) → List (List ℕ) → List (List ℕ) → Type 0
AddsAmong texts old new = AddsOnly (λ text. Contains texts text) old new
