-- The reader of heads answers what the grammar says.
use Rattle.std.proofs.Common.{◌≡◌, ◌≢◌, ℕ, ◌+◌, ◌-◌, ◌<◌, ◌≤◌, Bool, true, false, ◌&&◌, List, [], ◌∷◌, ◌++◌, length, reverse, refl, sym, ap, subst, ◌∙◌, arith, append_assoc, append-nil, ◌==◌, Option, Some, None, IsTrue, All, nat_le, nat_lt, IsUtf8}
use Rattle.std.specs.List.{flat_map, list_all, before_first, after_first, position_or_len, AllByRecursion}
use Rattle.std.proofs.lemmas.List.{take_at, drop_at, reverse-append, reverse-reverse, length-append}
use Rattle.std.proofs.lemmas.List.Elements.{recursion_from_All}
use Rattle.std.proofs.lemmas.Bool.Decides.{nat_tests, Decides-and, Decides-ltb, Decides-like, Decides-by_and}
use Rattle.std.proofs.lemmas.Slice.Eq.{bytes_eq-Decides}
use Rattle.std.proofs.lemmas.Option.{none-some, cond_some}
use Rattle.std.proofs.lemmas.Str.{IsUtf8-from_is_utf8, is_utf8-from_IsUtf8}
use Rattle.std.specs.Bool.{Decides}
use Rattle.std.specs.Str.{bytes_eq, is_utf8}
use Rattle.httparse.specs.Grammar.{LineEnd, crlf, lf, print_end, print_blank, print_version, Field, print_field, IsField, AllPass, is_token, RequestHead, IsRequestHead, ReadsRequest, print_request, is_token_byte, is_uri_byte, is_value_byte}
use Rattle.httparse.proofs.GrammarLemmas.{print_request-append}
use Rattle.httparse.proofs.PieceLemmas.{space_ends_token, colon_ends_token, token_is_no_newline}
use Rattle.am_http.specs.Reading.{Row, row_of, rows_after, field_of, fields_of, last_end, head_at, head_of, is_field, is_head, kept, read_head, HeadIs}

-- ---- lines

-- a byte that ends no line
abbrev Inner : ℕ → Type 0
Inner b = (b ≢ 10) × (b ≢ 13)

-- bytes that end no line
abbrev Clean : List ℕ → Type 0
Clean [] = Unit {0}
Clean (b ∷ bytes) = Inner b × Clean bytes

-- the byte before is no CR
abbrev NoReturn : List ℕ → Type 0
NoReturn [] = Unit {0}
NoReturn (b ∷ back) = b ≢ 13

reverse-cons : (b : ℕ) (back bytes : List ℕ) → reverse (b ∷ back) ++ bytes ≡ reverse back ++ b ∷ bytes
reverse-cons b back bytes =
    let split : reverse (b ∷ back) ≡ reverse back ++ b ∷ [] = reverse-append (b ∷ []) back in
    rw (split, append_assoc) refl

row_of-lf : (back : List ℕ) → NoReturn back → row_of back ≡ record { bytes = reverse back; end = lf }
row_of-lf [] h = refl
row_of-lf (b ∷ back) h = grind (arith, nat_tests)

not_lf : (b : ℕ) → Inner b → (b == 10) ≡ false
not_lf b h = grind (arith, nat_tests)

-- a line comes out as it went in
rows-row : (bytes back rest : List ℕ) (e : LineEnd) → Clean bytes → NoReturn back
    → rows_after back (bytes ++ (print_end e ++ rest)) ≡ record { bytes = reverse back ++ bytes; end = e } ∷ rows_after [] rest
rows-row [] back rest lf c h = rw (row_of-lf back h, append-nil) refl
rows-row [] back rest crlf c h = rw append-nil refl
rows-row (b ∷ bytes) back rest e c h =
    rw (not_lf b c.0, rows-row bytes (b ∷ back) rest e c.1 c.0.1, reverse-cons) refl

abbrev blank_row : LineEnd → Row
blank_row e = record { bytes = []; end = e }

abbrev field_row : Field → Row
field_row f = record { bytes = f.name ++ 58 ∷ f.raw; end = f.end }

-- ---- the classes of bytes

token_no_space : (b : ℕ) → is_token_byte b ≡ true → b ≢ 32
token_no_space b t e = let f : true ≡ false = sym (subst (λ (v : ℕ). is_token_byte v ≡ true) e t) ∙ space_ends_token in cc

token_no_colon : (b : ℕ) → is_token_byte b ≡ true → b ≢ 58
token_no_colon b t e = let f : true ≡ false = sym (subst (λ (v : ℕ). is_token_byte v ≡ true) e t) ∙ colon_ends_token in cc

token_inner : (b : ℕ) → is_token_byte b ≡ true → Inner b
token_inner b t = let n = token_is_no_newline b t in grind (arith, nat_tests)

uri_no_space : (b : ℕ) → is_uri_byte b ≡ true → b ≢ 32
uri_no_space b u = grind (arith, nat_tests)

uri_inner : (b : ℕ) → is_uri_byte b ≡ true → Inner b
uri_inner b u = grind (arith, nat_tests)

value_inner : (b : ℕ) → is_value_byte b ≡ true → Inner b
value_inner b u = grind (arith, nat_tests)

clean : (test : ℕ → Bool) → ((b : ℕ) → test b ≡ true → Inner b) → (bytes : List ℕ) → AllByRecursion (λ b. IsTrue (test b)) bytes → Clean bytes
clean test inner [] h = tt
clean test inner (b ∷ bytes) h = (inner b h.0, clean test inner bytes h.1)

Clean-append : (a b : List ℕ) → Clean a → Clean b → Clean (a ++ b)
Clean-append [] b x y = y
Clean-append (c ∷ a) b x y = (x.0, Clean-append a b x.1 y)

-- the byte isn't among these
abbrev Lacks : ℕ → List ℕ → Type 0
Lacks c [] = Unit {0}
Lacks c (b ∷ bytes) = (b ≢ c) × Lacks c bytes

lacks : (test : ℕ → Bool) (c : ℕ) → ((b : ℕ) → test b ≡ true → b ≢ c) → (bytes : List ℕ) → AllByRecursion (λ b. IsTrue (test b)) bytes → Lacks c bytes
lacks test c other [] h = tt
lacks test c other (b ∷ bytes) h = (other b h.0, lacks test c other bytes h.1)

-- ---- the parts of a line

not_at : (b c : ℕ) → b ≢ c → (b == c) ≡ false
not_at b c h = grind (arith, nat_tests)

at_itself : (c : ℕ) → (c == c) ≡ true
at_itself c = grind (arith, nat_tests)

first_at : (c : ℕ) (word rest : List ℕ) → Lacks c word → position_or_len (λ b. b == c) (word ++ c ∷ rest) ≡ length word
first_at c [] rest h = rw (at_itself c) refl
first_at c (b ∷ word) rest h = rw (not_at b c h.0, first_at c word rest h.1) (omega arith)

before : (c : ℕ) (word rest : List ℕ) → Lacks c word → before_first (λ b. b == c) (word ++ c ∷ rest) ≡ word
before c word rest h = rw (first_at c word rest h) (take_at word (c ∷ rest) (length word) refl)

past_one : (word : List ℕ) (c : ℕ) (rest : List ℕ) → word ++ c ∷ rest ≡ (word ++ c ∷ []) ++ rest
past_one word c rest = sym (append_assoc word (c ∷ []) rest)

after : (c : ℕ) (word rest : List ℕ) → Lacks c word → after_first (λ b. b == c) (word ++ c ∷ rest) ≡ rest
after c word rest h =
    let len : length (word ++ c ∷ []) ≡ length word + 1 = length-append word (c ∷ []) in
    rw (first_at c word rest h, past_one word c rest) (drop_at (word ++ c ∷ []) rest (length word + 1) len)

field_again : (f : Field) → IsField f → field_of (field_row f) ≡ f
field_again f h =
    let word = lacks is_token_byte 58 token_no_colon f.name (recursion_from_All _ f.name h.name.1) in
    rw (before 58 f.name f.raw word, after 58 f.name f.raw word) refl

-- ---- the lines of a head

field_clean : (f : Field) → IsField f → Clean (f.name ++ 58 ∷ f.raw)
field_clean f h = Clean-append f.name (58 ∷ f.raw) (clean is_token_byte token_inner f.name (recursion_from_All _ f.name h.name.1))
    ((λ e. omega arith, λ e. omega arith), clean is_value_byte value_inner f.raw (recursion_from_All _ f.raw h.raw))

blank_rows : List LineEnd → List Row
blank_rows [] = []
blank_rows (e ∷ ends) = blank_row e ∷ blank_rows ends

field_rows : List Field → List Row
field_rows [] = []
field_rows (f ∷ fields) = field_row f ∷ field_rows fields

rows-blank : (ends : List LineEnd) (rest : List ℕ) → rows_after [] (print_blank ends ++ rest) ≡ blank_rows ends ++ rows_after [] rest
unfolding blank_rows
rows-blank [] rest = refl
rows-blank (e ∷ ends) rest =
    rw (append_assoc (print_end e) (print_blank ends) rest, rows-row [] [] (print_blank ends ++ rest) e tt tt, rows-blank ends rest) refl

rows-fields : (fields : List Field) (rest : List ℕ) → AllByRecursion IsField fields
    → rows_after [] (flat_map print_field fields ++ rest) ≡ field_rows fields ++ rows_after [] rest
unfolding field_rows
rows-fields [] rest h = refl
rows-fields (f ∷ fields) rest h =
    rw (
      append_assoc (print_field f) (flat_map print_field fields) rest,
      append_assoc (f.name ++ 58 ∷ f.raw) (print_end f.end) (flat_map print_field fields ++ rest),
      rows-row (f.name ++ 58 ∷ f.raw) [] (flat_map print_field fields ++ rest) f.end (field_clean f h.0) tt,
      rows-fields fields rest h.1,
    ) refl

abbrev version_bytes : ℕ → List ℕ
version_bytes minor = print_version minor

abbrev first_row : RequestHead → Row
first_row h = record { bytes = h.method ++ 32 ∷ (h.target ++ 32 ∷ print_version h.minor); end = h.line_end }

-- a byte that is written out
letter : (b : ℕ) → 13 < b → Inner b
letter b h = (λ e. omega arith, λ e. omega arith)

method_clean : (h : RequestHead) → IsRequestHead h → Clean (h.method ++ 32 ∷ (h.target ++ 32 ∷ print_version h.minor))
method_clean h valid =
    let small : h.minor ≤ 1 = valid.minor in
    let digit : Inner (48 + h.minor) = (λ e. omega arith, λ e. omega arith) in
    let version : Clean (print_version h.minor) = (letter 72 (omega arith), (letter 84 (omega arith), (letter 84 (omega arith), (letter 80 (omega arith), (letter 47 (omega arith), (letter 49 (omega arith), (letter 46 (omega arith), (digit, tt)))))))) in
    let target : Clean h.target = clean is_uri_byte uri_inner h.target (recursion_from_All _ h.target valid.target.1) in
    let rest : Clean (h.target ++ 32 ∷ print_version h.minor) = Clean-append h.target (32 ∷ print_version h.minor) target ((λ e. omega arith, λ e. omega arith), version) in
    Clean-append h.method (32 ∷ (h.target ++ 32 ∷ print_version h.minor))
    (clean is_token_byte token_inner h.method (recursion_from_All _ h.method valid.method.1))
    ((λ e. omega arith, λ e. omega arith), rest)

-- the bytes of a head, line by line
whole : (h : RequestHead) → print_request h
    ≡ print_blank h.blank ++ ((first_row h).bytes ++ (print_end h.line_end ++ (flat_map print_field h.fields ++ (print_end h.last ++ []))))
whole h =
    sym (append-nil (print_request h)) ∙ print_request-append h [] ∙ rw (
      append_assoc h.method (32 ∷ (h.target ++ 32 ∷ print_version h.minor)) (print_end h.line_end ++ (flat_map print_field h.fields ++ (print_end h.last ++ []))),
      append_assoc h.target (32 ∷ print_version h.minor) (print_end h.line_end ++ (flat_map print_field h.fields ++ (print_end h.last ++ []))),
      append_assoc (flat_map print_field h.fields) (print_end h.last) [],
    ) refl

-- the lines of a head come out as they went in
rows-head : (h : RequestHead) → IsRequestHead h
    → rows_after [] (print_request h) ≡ blank_rows h.blank ++ (first_row h ∷ (field_rows h.fields ++ (blank_row h.last ∷ [])))
rows-head h valid =
    let section = flat_map print_field h.fields ++ (print_end h.last ++ []) in
    rw (
      whole h,
      rows-blank h.blank ((first_row h).bytes ++ (print_end h.line_end ++ section)),
      rows-row (first_row h).bytes [] section h.line_end (method_clean h valid) tt,
      rows-fields h.fields (print_end h.last ++ []) (recursion_from_All _ h.fields valid.fields),
      rows-row [] [] [] h.last tt tt,
    ) refl

head_of-blank : (ends back : List LineEnd) (rows : List Row) → head_of back (blank_rows ends ++ rows) ≡ head_of (reverse ends ++ back) rows
unfolding blank_rows
head_of-blank [] back rows = refl
head_of-blank (e ∷ ends) back rows = rw (head_of-blank ends (e ∷ back) rows, reverse-append (e ∷ []) ends, append_assoc) refl

fields_again : (fields : List Field) (last : Row) → AllByRecursion IsField fields → fields_of (field_rows fields ++ (last ∷ [])) ≡ fields
unfolding field_rows
fields_again [] last h = refl
fields_again (f ∷ []) last h = rw (field_again f h.0) refl
fields_again (f ∷ g ∷ fields) last h = rw (field_again f h.0, fields_again (g ∷ fields) last h.1) refl

last_again : (fields : List Field) (e : LineEnd) (last : Row) → last_end e (field_rows fields ++ (last ∷ [])) ≡ last.end
unfolding field_rows
last_again [] e last = refl
last_again (f ∷ fields) e last = last_again fields f.end last

first_again : (h : RequestHead) → IsRequestHead h
    → head_at h.blank (first_row h) (field_rows h.fields ++ (blank_row h.last ∷ [])) ≡ h
first_again h valid =
    let version = print_version h.minor in
    let method = lacks is_token_byte 32 token_no_space h.method (recursion_from_All _ h.method valid.method.1) in
    let target = lacks is_uri_byte 32 uri_no_space h.target (recursion_from_All _ h.target valid.target.1) in
    let minor : (48 + h.minor) - 48 ≡ h.minor = omega arith in
    rw (
      after 32 h.method (h.target ++ 32 ∷ version) method,
      before 32 h.method (h.target ++ 32 ∷ version) method,
      before 32 h.target version target,
      after 32 h.target version target,
      minor,
      fields_again h.fields (blank_row h.last) (recursion_from_All _ h.fields valid.fields),
      last_again h.fields lf (blank_row h.last),
    ) refl

not_empty : (word : List ℕ) (c : ℕ) (rest : List ℕ) → (length (word ++ c ∷ rest) == 0) ≡ false
not_empty word c rest = let l : length (word ++ c ∷ rest) ≡ length word + length (c ∷ rest) = length-append word (c ∷ rest) in grind (arith, nat_tests)

read_text : (h : RequestHead) → IsRequestHead h → head_of [] (rows_after [] (print_request h)) ≡ Some h
read_text h valid =
    rw (
      rows-head h valid,
      head_of-blank h.blank [] (first_row h ∷ (field_rows h.fields ++ (blank_row h.last ∷ []))),
      append-nil,
      not_empty h.method 32 (h.target ++ 32 ∷ print_version h.minor),
      reverse-reverse,
    )
    (ap (λ (k : RequestHead). Some k) (first_again h valid))

-- ---- the reader

all_Decides : (test : ℕ → Bool) (bytes : List ℕ) → Decides (list_all test bytes) (AllPass test bytes)
all_Decides test bytes = Decides-by_and test (λ b. IsTrue (test b)) (list_all test) (λ b. (λ e. e, λ e. e)) refl (λ _ _. refl) bytes

le_Decides : (a b : ℕ) → Decides (nat_le a b) (a ≤ b)
le_Decides a b = (λ e. grind (arith, nat_tests), λ e. grind (arith, nat_tests))

word_Decides : (test : ℕ → Bool) (bytes : List ℕ) → Decides (nat_lt 0 (length bytes) && list_all test bytes) ((0 < length bytes) × AllPass test bytes)
word_Decides test bytes = Decides-and (nat_lt 0 (length bytes)) (list_all test bytes) (Decides-ltb 0 (length bytes)) (all_Decides test bytes)

field_Decides : (f : Field) → Decides (is_field f) (IsField f)
field_Decides f = Decides-like (is_field f) (λ p. record { name = p.0; raw = p.1 }) (λ h. (h.name, h.raw))
    (Decides-and (is_token f.name) (list_all is_value_byte f.raw) (word_Decides is_token_byte f.name) (all_Decides is_value_byte f.raw))

fields_Decides : (fields : List Field) → Decides (list_all is_field fields) (All IsField fields)
fields_Decides fields = Decides-by_and is_field IsField (list_all is_field) field_Decides refl (λ _ _. refl) fields

-- the test of a head
abbrev IsKept : RequestHead → Type 0
IsKept h = IsRequestHead h × (length h.fields ≤ 64)

head_Decides : (h : RequestHead) → Decides (is_head h) (IsKept h)
head_Decides h =
    let few = le_Decides (length h.fields) 64 in
    let fields = fields_Decides h.fields in
    let minor = le_Decides h.minor 1 in
    let text : Decides (is_utf8 h.target) (IsUtf8 h.target) = (IsUtf8-from_is_utf8 h.target, is_utf8-from_IsUtf8 h.target) in
    let long = Decides-ltb 0 (length h.target) in
    let uri = all_Decides is_uri_byte h.target in
    let method = word_Decides is_token_byte h.method in
    Decides-like (is_head h)
    (λ p. (record { method = p.0.0.0.0.0.0; target = (p.0.0.0.0.0.1, p.0.0.0.0.1); target_text = p.0.0.0.1; minor = p.0.0.1; fields = p.0.1 }, p.1))
    (λ k. ((((((k.0.method, k.0.target.0), k.0.target.1), k.0.target_text), k.0.minor), k.0.fields), k.1))
    (Decides-and _ _ (Decides-and _ _ (Decides-and _ _ (Decides-and _ _ (Decides-and _ _ (Decides-and _ _ method long) uri) text) minor) fields) few)

-- a head with which a text is read is kept
kept-found : (h : RequestHead) (text : List ℕ) → IsKept h → print_request h ≡ text → kept text (Some h) ≡ Some h
kept-found h text k e = rw ((head_Decides h).1 k, (bytes_eq-Decides (print_request h) text).1 e) refl

kept-only : (text : List ℕ) (o : Option RequestHead) (h : RequestHead) → kept text o ≡ Some h → IsKept h × (print_request h ≡ text)
kept-only text None h e = absurd (none-some h e)
kept-only text (Some k) h e =
    let both = cond_some (is_head k && bytes_eq (print_request k) text) k h e in
    let parts = (Decides-and (is_head k) (bytes_eq (print_request k) text) (head_Decides k) (bytes_eq-Decides (print_request k) text)).0 both.0 in
    subst (λ (g : RequestHead). IsKept g × (print_request g ≡ text)) both.1 parts

-- what the text prints is what is read
read_head-found : (text : List ℕ) (h : RequestHead) → ReadsRequest text h [] → length h.fields ≤ 64 → read_head text ≡ Some h
unfolding read_head
read_head-found text h reads few =
    let printed : print_request h ≡ text = sym (append-nil (print_request h)) ∙ sym reads.1 in
    subst (λ (t : List ℕ). kept t (head_of [] (rows_after [] t)) ≡ Some h) printed
    (rw (read_text h reads.0) (kept-found h (print_request h) (reads.0, few) refl))

read_head-only : (text : List ℕ) (h : RequestHead) → read_head text ≡ Some h → HeadIs text (Some h)
unfolding read_head
read_head-only text h e =
    let k = kept-only text (head_of [] (rows_after [] text)) h e in
    ((k.0.0, sym (append-nil (print_request h) ∙ k.1)), k.0.1)

head_is : (text : List ℕ) (o : Option RequestHead) → read_head text ≡ o → HeadIs text o
head_is text None e = λ h reads few. none-some h (sym e ∙ read_head-found text h reads few)
head_is text (Some h) e = read_head-only text h e

-- the reader answers what the grammar says
pub read_head_is : (text : List ℕ) → HeadIs text (read_head text)
read_head_is text = head_is text (read_head text) refl

-- and nothing else does
pub read_head-same : (text : List ℕ) (o : Option RequestHead) → HeadIs text o → read_head text ≡ o
read_head-same text None h = none_read (read_head text) refl
  where
    none_read : (p : Option RequestHead) → read_head text ≡ p → p ≡ None
    none_read None e = refl
    none_read (Some k) e = let is = read_head-only text k e in absurd (h k is.0 is.1)
read_head-same text (Some h) is = read_head-found text h is.0 is.1
