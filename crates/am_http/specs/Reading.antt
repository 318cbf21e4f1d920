-- The reader of request heads. It splits the text into lines, builds the only head that these can be, and keeps that
-- head where it is one by the grammar of `httparse`, has at most `most_fields` field lines and prints to the text.
use Rattle.std.specs.Prelude.{ℕ, ◌-◌, ◌≤◌, Bool, ◌&&◌, nat_lt, nat_le, List, [], ◌∷◌, length, reverse, slice_index, Option, Some, None, if◌then◌else◌, ◌==◌}
use Rattle.std.specs.List.{list_all, before_first, after_first}
use Rattle.std.specs.Str.{bytes_eq, is_utf8}
use Rattle.httparse.specs.Grammar.{LineEnd, crlf, lf, Field, RequestHead, ReadsRequest, print_request, is_token, is_uri_byte, is_value_byte}

-- a line: its bytes, and how it ends
pub record Row : Type 0 where
  pub bytes : List ℕ
  pub end : LineEnd

-- the line of these bytes, the last one first: a CR before its LF belongs to its end
abbrev pub row_of : List ℕ → Row
row_of [] = record { bytes = []; end = lf }
row_of (b ∷ back) =
    if b == 13 then record { bytes = reverse back; end = crlf } else record { bytes = reverse (b ∷ back); end = lf }

-- the lines of a text, where `back` is what came of the first one, its last byte first
abbrev pub rows_after : List ℕ → List ℕ → List Row
rows_after back [] = []
rows_after back (b ∷ bytes) = if b == 10 then row_of back ∷ rows_after [] bytes else rows_after (b ∷ back) bytes

-- the parts of a field line, around its first colon
abbrev pub field_of : Row → Field
field_of row =
    record { name = before_first (λ b. b == 58) row.bytes; raw = after_first (λ b. b == 58) row.bytes; end = row.end }

-- all lines but the last, as field lines
abbrev pub fields_of : List Row → List Field
fields_of [] = []
fields_of (row ∷ []) = []
fields_of (row ∷ next ∷ rows) = field_of row ∷ fields_of (next ∷ rows)

-- how the last line ends
abbrev pub last_end : LineEnd → List Row → LineEnd
last_end end [] = end
last_end end (row ∷ rows) = last_end row.end rows

-- the head of a request line and the lines that follow it, after empty lines of these ends
abbrev pub head_at : List LineEnd → Row → List Row → RequestHead
head_at blank row rows =
    let rest = after_first (λ b. b == 32) row.bytes in
    record {
      blank = blank;
      method = before_first (λ b. b == 32) row.bytes;
      target = before_first (λ b. b == 32) rest;
      minor = slice_index (after_first (λ b. b == 32) rest) 7 - 48;
      line_end = row.end;
      fields = fields_of rows;
      last = last_end lf rows;
    }

-- the head that lines can be, if there is one, after empty lines of these ends, the last one first
abbrev pub head_of : List LineEnd → List Row → Option RequestHead
head_of blank [] = None
head_of blank (row ∷ rows) =
    if length row.bytes == 0 then head_of (row.end ∷ blank) rows else Some (head_at (reverse blank) row rows)

-- whether each part of a field line is of its class
abbrev pub is_field : Field → Bool
is_field f = is_token f.name && list_all is_value_byte f.raw

-- how many field lines a head may have
abbrev pub most_fields : ℕ
most_fields = 64

-- whether each part of a head is of its class, with at most `most_fields` field lines
abbrev pub is_head : RequestHead → Bool
is_head h =
    is_token h.method && nat_lt 0 (length h.target) && list_all is_uri_byte h.target && is_utf8 h.target
    && nat_le h.minor 1 && list_all is_field h.fields && nat_le (length h.fields) most_fields

-- the head, where it is one and prints to the text
abbrev pub kept : List ℕ → Option RequestHead → Option RequestHead
kept text None = None
kept text (Some h) = if is_head h && bytes_eq (print_request h) text then Some h else None

-- the head that the text is
unfoldable pub read_head : List ℕ → Option RequestHead
read_head text = kept text (head_of [] (rows_after [] text))

-- what a reader of heads says of a text, by the grammar alone: the head that it is, with at most `most_fields` field
-- lines, or that it is none
abbrev pub HeadIs : List ℕ → Option RequestHead → Type 0
HeadIs text (Some h) = ReadsRequest text h [] × (length h.fields ≤ most_fields)
HeadIs text None = (h : RequestHead) → ReadsRequest text h [] → length h.fields ≤ most_fields → ⊥
