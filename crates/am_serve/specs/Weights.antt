-- How many bytes wait, of whom most, and when that is too much.
use Rattle.std.specs.Prelude.{◌≡◌, ◌⊎◌, ℕ, ◌≤◌, nat_lt, Bool, true, false, ◌&&◌, if◌then◌else◌}
use Rattle.std.specs.Prelude.{List, ◌∷◌, Option, Some, None, sum_by}
use Rattle.std.specs.BTreeMap.{BTreeMap, values}
use Rattle.std.specs.List.{All}
use Rattle.am_serve.specs.Lanes.{can_begin, is_ready, waiting_of}
use Rattle.am_serve.specs.declared.lanes.Lane.{Lane}

module _ {T : Type 0} (weight : T → ℕ) where
  -- how many bytes wait of a tenant
  abbrev pub bytes_of : List ℕ → BTreeMap (List ℕ) (Lane T) → ℕ
  bytes_of t lanes = sum_by weight (waiting_of t lanes)

  -- how many wait in a lane
  abbrev pub bytes_in : Lane T → ℕ
  bytes_in lane = sum_by weight lane.waiting.items

  -- how many wait of all tenants
  abbrev pub all_bytes : BTreeMap (List ℕ) (Lane T) → ℕ
  all_bytes lanes = sum_by bytes_in (values lanes)

  -- each lane knows how many bytes wait in it
  abbrev pub AreCounted : BTreeMap (List ℕ) (Lane T) → Type 0
  AreCounted lanes = All (λ lane. lane.bytes ≡ bytes_in lane) (values lanes)

  -- something waits of this tenant that could begin, and of none more bytes do
  pub record IsHeaviest (tenant : List ℕ) (lanes : BTreeMap (List ℕ) (Lane T)) : Type 0 where
    pub waits : is_ready 18446744073709551615 tenant lanes ≡ true
    pub most : (t : List ℕ) → is_ready 18446744073709551615 t lanes ≡ true → bytes_of t lanes ≤ bytes_of tenant lanes

  -- one item holds all bytes that wait
  pub record HoldsAll (tenant : List ℕ) (lanes : BTreeMap (List ℕ) (Lane T)) : Type 0 where
    pub item : T
    pub behind : List T
    pub first : waiting_of tenant lanes ≡ item ∷ behind
    pub all : weight item ≡ all_bytes lanes

  -- what waits holds at most 256 MiB, or one item holds all of it; or nothing waits that could go out
  abbrev pub WaitsWithin : BTreeMap (List ℕ) (Lane T) → Type 0
  WaitsWithin lanes = (all_bytes lanes ≤ 268435456)
      ⊎ ((tenant : List ℕ) × HoldsAll tenant lanes)
      ⊎ ((t : List ℕ) → is_ready 18446744073709551615 t lanes ≡ false)

-- these are more bytes than those of a tenant that was found, if one was
abbrev pub exceeds : ℕ → Option (List ℕ × ℕ) → Bool
exceeds bytes None = true
exceeds bytes (Some found) = nat_lt found.1 bytes

-- of a tenant that was found with its bytes and another one, that of whom more bytes wait
abbrev pub heavier : {T : Type 0} → Option (List ℕ × ℕ) → List ℕ → Lane T → Option (List ℕ × ℕ)
heavier found tenant lane =
    if can_begin 18446744073709551615 lane && exceeds lane.bytes found then Some (tenant, lane.bytes) else found
