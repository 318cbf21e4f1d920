-- Which patterns a cache keeps built, and what they take.
use Rattle.std.specs.Prelude.{◌≡◌, ℕ, ◌+◌, ◌-◌, ◌^◌, ◌<◌, ◌≤◌, true, ◌∷◌, List, All, Result, Ok, Err, map, min, take, length, if◌then◌else◌}
use Rattle.std.specs.List.{sum_by}
use Rattle.std.specs.Set.{remove_key}
use Rattle.std.specs.Str.{bytes_eq}
use Rattle.regex.specs.Patterns.{default_config}
use Rattle.regex.specs.Strings.{regex_source, regex_config, regex_size, IsReadFromSource}
use Rattle.regex.specs.declared.string.regex.Regex.{Regex}
use Rattle.am_text.specs.declared.failure.Failure.{Failure}
use Rattle.am_pattern.specs.declared.refusal.PatternRefusal.{PatternRefusal}
use Rattle.am_pattern.specs.Taking.{anchored, is_shallow}
use Rattle.am_pattern.specs.Refused.{has_text}
use Rattle.am_pattern.specs.Cache.{Cache}

-- of these texts the first `capacity`, once p was asked: p is the first, and the others follow as they stood
abbrev pub asked_first : ℕ → List (List ℕ) → List ℕ → List (List ℕ)
asked_first capacity texts p = take capacity (p ∷ remove_key (bytes_eq p) texts)

-- the patterns that are kept after an answer: an error changes nothing
abbrev pub kept_after : {X : Type 0} → ℕ → List (List ℕ) → List ℕ → Result X (Failure PatternRefusal) → List (List ℕ)
kept_after capacity texts p (Ok _) = asked_first capacity texts p
kept_after capacity texts p (Err _) = texts

-- the number after it, but none past 64 bits
abbrev pub counted_on : ℕ → ℕ
counted_on n = min (n + 1) (2 ^ 64 - 1)

-- the misses after p was asked: one more where it wasn't kept
abbrev pub misses_after : Cache → List ℕ → ℕ
misses_after cache p = if has_text cache.kept p then cache.misses else counted_on cache.misses

-- how many bytes the tables of one built pattern may take
abbrev pub largest : ℕ
largest = 2 ^ 18 + 24

-- a regex whose tables take no more was built of the text as it stands
pub record IsBuilt (text : List ℕ) : Type 0 where
  pub regex : Regex
  pub source : regex_source regex ≡ text
  pub config : regex_config regex ≡ default_config
  pub read : IsReadFromSource regex
  pub small : regex_size regex ≤ largest

-- one was built of the pattern, that is of its anchored form
unfoldable pub HasRegex : List ℕ → Type 0
HasRegex p = IsBuilt (anchored p)

-- what a regex was built of, and how many bytes its tables take
pub record Compiled : Type 0 where
  pub source : List ℕ
  pub size : ℕ

module _ {K : Type 0} (text : K → List ℕ) where
  -- the texts of the entries
  abbrev pub texts_of : List (K × Compiled) → List (List ℕ)
  texts_of entries = map (λ e. text e.0) entries

  -- a regex was built for the text that is its key
  pub record IsBuiltFor (e : K × Compiled) : Type 0 where
    pub shallow : is_shallow (text e.0) ≡ true
    pub source : e.1.source ≡ anchored (text e.0)
    pub small : e.1.size ≤ largest
    pub regex : HasRegex (text e.0)

  -- each was, and there are no more than fit
  pub record IsSound (entries : List (K × Compiled)) (capacity : ℕ) : Type 0 where
    pub built : All IsBuiltFor entries
    pub fits : length entries ≤ capacity
    pub room : 0 < capacity

-- how many bytes their tables take
abbrev pub size_of : {K : Type 0} → List (K × Compiled) → ℕ
size_of entries = sum_by (λ e. e.1.size) entries
