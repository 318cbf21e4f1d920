-- Silences as values, and their states at a moment.
use Rattle.std.specs.Prelude.{ℕ, Bool, true, false, ◌&&◌, nat_le, nat_lt, List, if◌then◌else◌}
use Rattle.am_match.specs.Matchers.{MatcherText}
use Rattle.am_item.specs.declared.silence.Silence.{Silence}
use Rattle.am_item.specs.declared.silence.SilenceDetails.{SilenceDetails}
use Rattle.am_silence.specs.declared.state.SilenceState.{SilenceState}
use Rattle.am_silence.specs.declared.state.SilenceState.TheVariants.{Pending, Active, Expired}

-- what a silence is beside its identifier
pub record Details : Type 0 where
  pub starts_at : ℕ
  pub ends_at : ℕ
  pub kept_until : ℕ
  pub created_by : List ℕ
  pub comment : List ℕ
  pub matchers : List MatcherText

-- the same of what is held, and of a silence
abbrev pub details_of : SilenceDetails → Details
details_of s = record {
  starts_at = s.starts_at;
  ends_at = s.ends_at;
  kept_until = s.kept_until;
  created_by = s.created_by;
  comment = s.comment;
  matchers = s.matchers;
}

abbrev pub details_in : Silence → Details
details_in s = record {
  starts_at = s.starts_at;
  ends_at = s.ends_at;
  kept_until = s.kept_until;
  created_by = s.created_by;
  comment = s.comment;
  matchers = s.matchers;
}

-- before its start a silence is pending, from its start until before its end active, from its end on expired
abbrev pub state_at : (moment starts_at ends_at : ℕ) → SilenceState
state_at moment starts_at ends_at =
    if nat_lt moment starts_at then Pending
    else (if nat_lt moment ends_at then Active else Expired)

abbrev pub state_of : ℕ → Details → SilenceState
state_of moment s = state_at moment s.starts_at s.ends_at

abbrev pub has_expired : SilenceState → Bool
has_expired Pending = false
has_expired Active = false
has_expired Expired = true

abbrev pub is_expired : ℕ → Details → Bool
is_expired moment s = has_expired (state_of moment s)

-- the silence is active, by its times alone
abbrev pub is_active : (moment starts_at ends_at : ℕ) → Bool
is_active moment starts_at ends_at = nat_le starts_at moment && nat_lt moment ends_at
