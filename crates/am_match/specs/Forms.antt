-- The texts of matchers as they may be written, and what each says.
use Rattle.std.specs.Prelude.{◌≡◌, ◌≢◌, ℕ, Bool, true, false, List, [], ◌∷◌, ◌++◌, All, IsTrue, map, replicate, encode_utf8_all, codes}
use Rattle.std.specs.List.{flat_map, list_all, join_by}
use Rattle.am_match.specs.declared.matcher.Operator.{Operator}
use Rattle.am_match.specs.declared.matcher.Operator.TheVariants.{Equal}
use Rattle.am_labels.specs.Labels.{is_label_name}
use Rattle.am_match.specs.Matchers.{MatcherText}
use Rattle.am_match.specs.Printing.{operator_text}
use Rattle.am_match.specs.Reading.{is_bare}

-- so many spaces
abbrev pub spaces : ℕ → List ℕ
spaces n = replicate n 32

-- what stands for a character within quotation marks: itself, or `\"`, `\\`, `\n`
pub data Piece : Type 0 where
  itself : ℕ → Piece
  mark : Piece
  slash : Piece
  line : Piece

-- a quotation mark and a backslash don't stand for themselves
abbrev pub IsPiece : Piece → Type 0
IsPiece (itself c) = (c ≢ 34) × (c ≢ 92)
IsPiece mark = Unit {0}
IsPiece slash = Unit {0}
IsPiece line = Unit {0}

-- a piece as it is written
abbrev pub piece_text : Piece → List ℕ
piece_text (itself c) = c ∷ []
piece_text mark = codes "\\\""
piece_text slash = codes "\\\\"
piece_text line = codes "\\n"

-- the character that it stands for
abbrev pub character_of : Piece → ℕ
character_of (itself c) = c
character_of mark = 34
character_of slash = 92
character_of line = 10

-- a value, within quotation marks or without
pub data Value : Type 0 where
  in_marks : List Piece → Value
  unmarked : List ℕ → Value

-- a value without quotation marks has none of `,`, `"`, `{`, `}`, and no space at its ends
abbrev pub IsValue : Value → Type 0
IsValue (in_marks pieces) = All IsPiece pieces
IsValue (unmarked t) = IsTrue (list_all is_bare t) × ((u : List ℕ) → t ≢ 32 ∷ u) × ((u : List ℕ) → t ≢ u ++ 32 ∷ [])

-- a value as it is written
abbrev pub value_text : Value → List ℕ
value_text (in_marks pieces) = 34 ∷ (flat_map piece_text pieces ++ 34 ∷ [])
value_text (unmarked t) = t

-- the characters that it says
abbrev pub characters_of : Value → List ℕ
characters_of (in_marks pieces) = map character_of pieces
characters_of (unmarked t) = t

-- a matcher's parts in their order, with the numbers of spaces before, between and after them
pub record Form : Type 0 where
  pub before : ℕ
  pub name : List ℕ
  pub between : ℕ
  pub operator : Operator
  pub behind : ℕ
  pub value : Value
  pub after : ℕ

-- the name is a label name, and `=~` isn't `=` with a value that begins with `~`
pub record IsForm (f : Form) : Type 0 where
  pub named : IsTrue (is_label_name f.name)
  pub valued : IsValue f.value
  pub longest : f.operator ≡ Equal → (u : List ℕ) → spaces f.behind ++ value_text f.value ≢ 126 ∷ u

-- a matcher as it is written
abbrev pub form_text : Form → List ℕ
form_text f =
    spaces f.before ++ (f.name ++ (spaces f.between ++ (operator_text f.operator
    ++ (spaces f.behind ++ (value_text f.value ++ spaces f.after)))))

-- the matcher that it says
abbrev pub matcher_of : Form → MatcherText
matcher_of f = record { operator = f.operator; name = f.name; value = encode_utf8_all (characters_of f.value) }

-- matchers as they are written: with commas between, perhaps within braces
abbrev pub forms_text : Bool → List Form → List ℕ
forms_text false fs = join_by form_text (codes ",") fs
forms_text true fs = 123 ∷ (join_by form_text (codes ",") fs ++ 125 ∷ [])

-- the text says these matchers: it is one or more forms of them
pub record Says (text : List ℕ) (ms : List MatcherText) : Type 0 where
  pub braced : Bool
  pub forms : List Form
  pub written : text ≡ forms_text braced forms
  pub some : forms ≢ []
  pub valid : All IsForm forms
  pub said : map matcher_of forms ≡ ms
