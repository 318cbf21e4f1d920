-- What a pattern is, and which texts it takes.
use Rattle.std.specs.Prelude.{ℕ, ◌<◌, ◌≤◌, nat_le, ◌++◌, List, Bool, false, ◌&&◌, Option, None, Some, IsTrue, IsSomeAnd, is_some, codes, chars, length}
use Rattle.regex.specs.Patterns.{default_config, find_str, Re}
use Rattle.regex_syntax.specs.Grammar.{read, Names}
use Rattle.regex_syntax.specs.Brackets.{Nested}

-- the pattern, made to match a whole text or nothing
abbrev pub anchored : List ℕ → List ℕ
anchored p = codes "^(?:" ++ p ++ codes ")$"

-- the grammar of the `regex` crate reads the text, however deep it nests
unfoldable pub is_read : List ℕ → Bool
is_read text = is_some (read default_config (chars text))

-- the same as a fact
abbrev pub IsRead : List ℕ → Type 0
IsRead text = IsTrue (is_read text)

-- the text is read, and nests deeper than the crate builds
unfoldable pub IsTooDeep : List ℕ → Type 0
IsTooDeep text = IsSomeAnd (read default_config (chars text)) (λ (found, _). default_config.nest_limit < found.depth)

-- what was read nests no deeper than that; nothing does, where nothing was read
abbrev pub is_within : ℕ → Option (Nested Re × Names) → Bool
is_within most None = false
is_within most (Some (found, names)) = nat_le found.depth most

-- the text is read, and nests no deeper than the crate builds
unfoldable pub is_parsed : List ℕ → Bool
is_parsed text = is_within default_config.nest_limit (read default_config (chars text))

-- what was read has a match in the value; nothing has, where nothing was read
abbrev pub found_in : Option (Nested Re × Names) → List ℕ → Bool
found_in None value = false
found_in (Some (found, names)) value = is_some (find_str found.value value 0)

-- what the text is read as has a match in the value
unfoldable pub has_match : List ℕ → List ℕ → Bool
has_match text value = found_in (read default_config (chars text)) value

-- the most bytes that a pattern may have
abbrev pub longest_pattern : ℕ
longest_pattern = 256

-- a pattern has at most `longest_pattern` bytes, and is read both alone and anchored
abbrev pub IsPattern : List ℕ → Type 0
IsPattern p = (length p ≤ longest_pattern) × IsRead p × IsRead (anchored p)

-- the same as a test
abbrev pub is_pattern : List ℕ → Bool
is_pattern p = nat_le (length p) longest_pattern && (is_read p && is_read (anchored p))

-- a pattern that nests no deeper, alone and anchored: the only texts that are built
abbrev pub is_shallow : List ℕ → Bool
is_shallow p = nat_le (length p) longest_pattern && (is_parsed p && is_parsed (anchored p))

-- the pattern takes the value: its anchored form has a match there
abbrev pub takes : List ℕ → List ℕ → Bool
takes p value = has_match (anchored p) value
