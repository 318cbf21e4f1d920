-- What a text of matchers says, by its characters. `None` means that it is no list of matchers.
use Rattle.std.specs.Prelude.{ℕ, zero, suc, Bool, true, false, not, ◌&&◌, ◌||◌, ◌==◌, nat_eq, List, [], ◌∷◌, length, drop, Option, Some, None, option_and_then, option_map, if◌then◌else◌, codes, encode_utf8_all}
use Rattle.std.specs.List.{starts_with}
use lib.Pointwise.{pointwise}
use Prim.Native.String.{String}
use Rattle.am_match.specs.declared.matcher.Operator.{Operator}
use Rattle.am_match.specs.declared.matcher.Operator.TheVariants.{Equal, NotEqual, Match, NotMatch}
use Rattle.std.specs.Char.{is_ascii_alphanumeric}
use Rattle.am_labels.specs.Labels.{is_label_name}
use Rattle.am_match.specs.Matchers.{MatcherText}

-- characters
abbrev pub Text : Type 0
Text = List ℕ

-- one step after another, where each may refuse the text
infixl 10 ◌>>=◌
abbrev pub ◌>>=◌ : {A B : Type 0} → Option A → (A → Option B) → Option B
o >>= f = option_and_then f o

-- goes on only where the test holds
infixl 10 ◌>>◌
abbrev pub ◌>>◌ : {B : Type 0} → Bool → Option B → Option B
test >> rest = if test then rest else None

-- the text begins with this word
abbrev pub begins : String → Text → Bool
begins word t = starts_with nat_eq t (codes word)

-- what follows the spaces at the front
abbrev pub skip : Text → Text
skip [] = []
skip (c ∷ t) = if c == 32 then skip t else c ∷ t

-- a character more in front of what was read
abbrev pub onto : ℕ → Text × Text → Text × Text
onto c (read, rest) = (c ∷ read, rest)

-- the longest beginning of characters that pass, and the rest
abbrev pub run : (ℕ → Bool) → Text → Text × Text
run test [] = ([], [])
run test (c ∷ t) = if test c then onto c (run test t) else ([], c ∷ t)

-- a letter, a digit or _
abbrev pub is_in_name : ℕ → Bool
is_in_name c = is_ascii_alphanumeric c || c == 95

-- the operator at the front, the longest that fits
abbrev pub operator : Text → Option (Operator × Text)
operator t =
    if begins "=~" t then Some (Match, drop 2 t)
    else if begins "!~" t then Some (NotMatch, drop 2 t)
    else if begins "!=" t then Some (NotEqual, drop 2 t)
    else if begins "=" t then Some (Equal, drop 1 t)
    else None

-- what the character behind a backslash stands for
abbrev pub unescaped : ℕ → Option ℕ
unescaped c =
    if c == 34 then Some 34
    else if c == 92 then Some 92
    else if c == 110 then Some 10
    else None

-- what is quoted, up to the closing quotation mark, and the rest; the flag says that a backslash came before
abbrev pub quoted : Bool → Text → Option (Text × Text)
quoted escaped [] = None
quoted true (c ∷ t) = do
  meant ← unescaped c
  option_map (onto meant) (quoted false t)
quoted false (c ∷ t) =
    if c == 34 then Some ([], t)
    else if c == 92 then quoted true t
    else option_map (onto c) (quoted false t)

-- what may stand in a value without quotation marks: all but `,`, `"`, `{` and `}`
abbrev pub is_bare : ℕ → Bool
is_bare c = not (c == 44 || c == 34 || c == 123 || c == 125)

-- no character is left
abbrev pub is_empty : Text → Bool
is_empty [] = true
is_empty (c ∷ t) = false

-- without the spaces at the end
abbrev pub trim_end : Text → Text
trim_end [] = []
trim_end (c ∷ t) = let rest = trim_end t in if c == 32 && is_empty rest then [] else c ∷ rest

-- a value without quotation marks, and the rest
abbrev pub bare : Text → Text × Text
bare t = let (read, rest) = run is_bare t in (trim_end read, rest)

-- a value, in quotation marks or without, and the rest
abbrev pub value : Text → Option (Text × Text)
value t = if begins "\"" t then quoted false (drop 1 t) else Some (bare t)

-- one matcher, with spaces around each part, and the rest
abbrev pub one : Text → Option (MatcherText × Text)
one t = do
  let (name, after) = run is_in_name (skip t)
  (found, behind) ← operator (skip after)
  (meant, rest) ← value (skip behind)
  is_label_name name >> Some (record { operator = found; name = name; value = encode_utf8_all meant }, skip rest)

-- a comma, and the rest behind it
abbrev pub after_comma : Text → Option Text
after_comma t = if begins "," t then Some (drop 1 t) else None

-- nothing is left but the closing brace, where one was opened
abbrev pub is_end : Bool → Text → Bool
is_end braced t = pointwise nat_eq t (if braced then codes "}" else [])

-- at most so many matchers, with commas between, up to the end
unfoldable pub several : Bool → ℕ → Text → Option (List MatcherText)
several braced zero t = None
several braced (suc n) t = do
  (first, rest) ← one t
  if is_end braced rest then Some (first ∷ [])
      else (after_comma rest >>= λ more. option_map (λ others. first ∷ others) (several braced n more))

-- the matchers that a text gives, perhaps within braces; each takes a character at least
abbrev pub matchers_of : Text → Option (List MatcherText)
matchers_of t = if begins "{" t then several true (length t) (drop 1 t) else several false (length t) t
