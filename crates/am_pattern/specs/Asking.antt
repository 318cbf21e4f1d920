-- What a call that asks leaves in a cache.
use Rattle.std.specs.Prelude.{◌≡◌, ℕ, true, false, ◌++◌, List, All, Result, Ok, Err}
use Rattle.am_pattern.specs.declared.refusal.PatternRefusal.{PatternRefusal}
use Rattle.am_pattern.specs.declared.refusal.PatternRefusal.TheVariants.{BadPattern, BuildRefused}
use Rattle.am_pattern.specs.Taking.{IsPattern, is_shallow}
use Rattle.am_pattern.specs.Refused.{has_text}
use Rattle.am_pattern.specs.Cache.{Cache}

-- the same capacity and the same refused texts
pub record Stays (old new : Cache) : Type 0 where
  pub refused : new.refused ≡ old.refused
  pub capacity : new.capacity ≡ old.capacity

-- the same capacity, and after the refused texts only patterns
pub record Grows (old new : Cache) : Type 0 where
  pub more : List (List ℕ)
  pub refused : new.refused ≡ old.refused ++ more
  pub patterns : All IsPattern more
  pub capacity : new.capacity ≡ old.capacity

-- what a call leaves: on success no text more is refused, else there may be
abbrev pub Asked : {X E : Type 0} → Result X E → Cache → Cache → Type 0
Asked (Ok _) old new = Stays old new
Asked (Err _) old new = Grows old new

-- The text was refused so as a pattern, and where it is a pattern it stands among the refused texts of the cache.
abbrev pub IsRefused : Cache → List ℕ → PatternRefusal → Type 0
IsRefused cache p BadPattern = (is_shallow p ≡ false) × (IsPattern p → has_text cache.refused p ≡ true)
IsRefused cache p BuildRefused = (is_shallow p ≡ true) × IsPattern p × (has_text cache.refused p ≡ true)
