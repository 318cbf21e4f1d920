-- The status line of a response (RFC 9112 section 4).
use Rattle.std.specs.Prelude.{◌≡◌, ◌⊎◌, ℕ, ◌+◌, ◌*◌, ◌≤◌, List, codes, slice_index}
use Rattle.std.specs.Io.{StartsWith}

abbrev pub IsDigit : ℕ → Type 0
IsDigit byte = (48 ≤ byte) × (byte ≤ 57)

-- the bytes are `HTTP/1.0` or `HTTP/1.1`, a space and the three digits of a status from 100 on, which a space or the
-- line's end follows
pub record IsStatusLine (line : List ℕ) (status : ℕ) : Type 0 where
  pub version : StartsWith line (codes "HTTP/1.")
  pub minor : (slice_index line 7 ≡ 48) ⊎ (slice_index line 7 ≡ 49)
  pub space : slice_index line 8 ≡ 32
  pub hundreds : IsDigit (slice_index line 9)
  pub tens : IsDigit (slice_index line 10)
  pub ones : IsDigit (slice_index line 11)
  pub after : (slice_index line 12 ≡ 32) ⊎ (slice_index line 12 ≡ 13)
  pub value : status + 5328 ≡ 100 * slice_index line 9 + 10 * slice_index line 10 + slice_index line 11
  pub least : 100 ≤ status
  pub greatest : status ≤ 999
