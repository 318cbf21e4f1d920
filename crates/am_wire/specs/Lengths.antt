-- Lengths in 32 bits.
use Rattle.std.specs.Prelude.{ℕ, ◌^◌, nat_lt, Option, Some, None, if◌then◌else◌}

-- a number that fits 32 bits
abbrev pub in_32_bits : ℕ → Option ℕ
in_32_bits n = if nat_lt n (2 ^ 32) then Some n else None
