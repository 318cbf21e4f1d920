-- That a printed list of matchers reads as itself.
use Rattle.std.proofs.Common.{◌≡◌, ℕ, zero, suc, ◌<◌, ◌≤◌, List, [], ◌∷◌, ◌++◌, All, true, false, Some, length, refl, sym, ap, ◌∙◌, inl, inr, arith, append_assoc, append-nil, length-append, encode_utf8, encode_utf8_all, chars, IsUtf8, IsTrue, ap₂, cond, take, drop, map, get_or, length-drop, ◌-◌}
use lib.Utf8.{encode}
use Rattle.std.proofs.lemmas.Grind.{flat_map-append}
use Rattle.std.specs.List.{flat_map}
use Rattle.std.proofs.lemmas.Bool.Decides.{eqb_tells}
use Rattle.std.proofs.lemmas.List.Elements.{All-head, All-tail}
use Rattle.std.proofs.lemmas.Str.{encodes-chars, encodes-append, encodes-IsAscii, chars_from_encodes}
use Rattle.std.proofs.Math.Seq.{drop-cons, take-length}
use Rattle.am_labels.specs.Labels.{is_label_name}
use Rattle.am_match.specs.declared.matcher.Operator.{Operator}
use Rattle.am_match.specs.declared.matcher.Operator.TheVariants.{Equal, NotEqual, Match, NotMatch}
use Rattle.am_match.specs.Matchers.{MatcherText, IsMatcher}
use Rattle.am_match.specs.Printing.{operator_text, escaped, printed_value, printed_one, printed}
use Rattle.am_match.specs.Reading.{Text, skip, quoted, one, several, matchers_of, begins}
use Rattle.am_match.proofs.NameLemmas.{all_in_name, IsAscii-all_in_name, skip-name, begins-name, run-name}

-- what is escaped is read as it was
quoted-escaped : (cs t : Text) → quoted false (flat_map escaped cs ++ 34 ∷ t) ≡ Some (cs, t)
quoted-escaped [] t = refl
quoted-escaped (c ∷ cs) t =
    elim (eqb_tells c 34) [
      | inl mark ↦ rw (mark.1, quoted-escaped cs t)
      | inr no_mark ↦ elim (eqb_tells c 92) [
        | inl slash ↦ rw (slash.1, quoted-escaped cs t)
        | inr no_slash ↦ elim (eqb_tells c 10) [
          | inl line ↦ rw (line.1, quoted-escaped cs t)
          | inr no_line ↦ rw (no_mark.0, no_slash.0, no_line.0, no_mark.0, no_slash.0, quoted-escaped cs t)
        ]
      ]
    ]

-- a printed matcher reads as itself, whatever follows that is no space
one-parts : (o : Operator) (n v t : List ℕ) → is_label_name n ≡ true → IsUtf8 v → skip t ≡ t →
    one (n ++ (operator_text o ++ (34 ∷ (flat_map escaped (chars v) ++ 34 ∷ t))))
    ≡ Some (record { operator = o; name = n; value = v }, t)
one-parts Equal n v t named text skipped =
    let behind : List ℕ = 34 ∷ (flat_map escaped (chars v) ++ 34 ∷ t) in
    rw (
      skip-name n (61 ∷ behind) named,
      run-name n (61 ∷ behind) (all_in_name n named) refl,
      quoted-escaped (chars v) t,
      named,
      encodes-chars v text,
      skipped,
    )
one-parts NotEqual n v t named text skipped =
    let behind : List ℕ = 34 ∷ (flat_map escaped (chars v) ++ 34 ∷ t) in
    rw (
      skip-name n (33 ∷ 61 ∷ behind) named,
      run-name n (33 ∷ 61 ∷ behind) (all_in_name n named) refl,
      quoted-escaped (chars v) t,
      named,
      encodes-chars v text,
      skipped,
    )
one-parts Match n v t named text skipped =
    let behind : List ℕ = 34 ∷ (flat_map escaped (chars v) ++ 34 ∷ t) in
    rw (
      skip-name n (61 ∷ 126 ∷ behind) named,
      run-name n (61 ∷ 126 ∷ behind) (all_in_name n named) refl,
      quoted-escaped (chars v) t,
      named,
      encodes-chars v text,
      skipped,
    )
one-parts NotMatch n v t named text skipped =
    let behind : List ℕ = 34 ∷ (flat_map escaped (chars v) ++ 34 ∷ t) in
    rw (
      skip-name n (33 ∷ 126 ∷ behind) named,
      run-name n (33 ∷ 126 ∷ behind) (all_in_name n named) refl,
      quoted-escaped (chars v) t,
      named,
      encodes-chars v text,
      skipped,
    )

-- the same of the whole matcher
one-printed : (m : MatcherText) (t : Text) → IsMatcher m → skip t ≡ t → one (printed_one m ++ t) ≡ Some (m, t)
one-printed m t valid skipped =
    let apart : printed_one m ++ t ≡ m.name ++ (operator_text m.operator ++ (34 ∷ (flat_map escaped (chars m.value) ++ 34 ∷ t))) =
    simp append_assoc in
    rw apart (one-parts m.operator m.name m.value t valid.named valid.text skipped)

-- a matcher behind a comma
abbrev pub further : MatcherText → Text
further m = 44 ∷ printed_one m

-- and of a list of them
several-printed : (n : ℕ) (m : MatcherText) (ms : List MatcherText) → IsMatcher m → All IsMatcher ms → length ms < n →
    several false n (printed (m ∷ ms)) ≡ Some (m ∷ ms)
unfolding several
several-printed zero m ms valid others less = absurd (omega arith)
several-printed (suc n) m [] valid others less =
    rw (one-printed m [] valid refl)
several-printed (suc n) m (k ∷ ms) valid others less =
    let rest : Text = printed (k ∷ ms) in
    let whole : printed (m ∷ k ∷ ms) ≡ printed_one m ++ 44 ∷ rest = refl in
    rw (
      one-printed m (44 ∷ rest) valid refl,
      several-printed n k ms (All-head IsMatcher k ms others) (All-tail IsMatcher k ms others) (omega arith),
    )

-- there are no more matchers than characters
length-further : (ms : List MatcherText) → length ms ≤ length (flat_map further ms)
length-further [] = omega arith
length-further (m ∷ ms) = omega (arith, length-further ms, length-append (further m) (flat_map further ms))

-- the same of the whole list
length-printed : (m : MatcherText) (ms : List MatcherText) → length ms < length (printed (m ∷ ms))
length-printed m ms =
    let value = printed_value m.value in
    omega (
      arith,
      length-further ms,
      length-append (printed_one m) (flat_map further ms),
      length-append m.name (operator_text m.operator ++ value),
      length-append (operator_text m.operator) value,
    )

-- a printed list of matchers reads as itself
pub matchers_of-printed : (m : MatcherText) (ms : List MatcherText) → IsMatcher m → All IsMatcher ms →
    matchers_of (printed (m ∷ ms)) ≡ Some (m ∷ ms)
matchers_of-printed m ms valid others =
    let bare : printed (m ∷ ms) ≡ m.name ++ ((operator_text m.operator ++ printed_value m.value) ++ flat_map further ms) =
    simp append_assoc in
    let t : Text = printed (m ∷ ms) in
    let no_brace : begins "{" t ≡ false =
    ap (begins "{") bare
    ∙ begins-name m.name ((operator_text m.operator ++ printed_value m.value) ++ flat_map further ms) valid.named in
    ap (λ b. cond b (several true (length t) (drop 1 t)) (several false (length t) t)) no_brace
    ∙ several-printed (length t) m ms valid others (length-printed m ms)

-- ---- what was written so far

-- a map that leaves each character
pub map-itself : (xs : Text) → map (λ x. x) xs ≡ xs
map-itself [] = refl
map-itself (x ∷ xs) = ap (λ t. x ∷ t) (map-itself xs)

-- one item more was written
pub written_more : {X : Type 0} (f : X → Text) (start before after : List ℕ) (xs : List X) (x : X) →
    before ≡ start ++ encode_utf8_all (flat_map f xs) → after ≡ before ++ encode_utf8_all (f x) →
    after ≡ start ++ encode_utf8_all (flat_map f (xs ++ x ∷ []))
written_more f start before after xs x so_far here =
    here ∙ ap (λ b. b ++ encode_utf8_all (f x)) so_far
    ∙ append_assoc start (encode_utf8_all (flat_map f xs)) (encode_utf8_all (f x))
    ∙ sym (ap (λ b. start ++ b)
    (ap encode_utf8_all (flat_map-append f xs (x ∷ []) ∙ ap (λ b. flat_map f xs ++ b) (append-nil (f x)))
    ∙ encodes-append (flat_map f xs) (f x)))

-- a comma and a matcher were written
pub written-further : (m : MatcherText) (before comma after : List ℕ) → comma ≡ before ++ encode_utf8 44 →
    after ≡ comma ++ encode_utf8_all (printed_one m) → after ≡ before ++ encode_utf8_all (further m)
written-further m before comma after first then =
    then ∙ ap (λ b. b ++ encode_utf8_all (printed_one m)) first
    ∙ append_assoc before (encode_utf8 44) (encode_utf8_all (printed_one m))

-- the quotation marks and what stands between them were written
pub written-value : (v start first inner after : List ℕ) → first ≡ start ++ encode_utf8 34 →
    inner ≡ first ++ encode_utf8_all (flat_map escaped (chars v)) → after ≡ inner ++ encode_utf8 34 →
    after ≡ start ++ encode_utf8_all (printed_value v)
written-value v start first inner after a b c =
    let between : Text = flat_map escaped (chars v) in
    let ends : encode_utf8_all (between ++ 34 ∷ []) ≡ encode_utf8_all between ++ encode_utf8 34 =
    encodes-append between (34 ∷ []) ∙ ap (λ t. encode_utf8_all between ++ t) (append-nil (encode_utf8 34)) in
    rw ends (rw (c, b, a) (simp append_assoc))

-- an operator is ASCII
operator_as_utf8 : (o : Operator) → encode_utf8_all (operator_text o) ≡ operator_text o
unfolding encode
operator_as_utf8 Equal = refl
operator_as_utf8 NotEqual = refl
operator_as_utf8 Match = refl
operator_as_utf8 NotMatch = refl

-- the name, the operator and the value were written
pub written-one : (m : MatcherText) (start name operator after : List ℕ) → IsTrue (is_label_name m.name) →
    name ≡ start ++ m.name → operator ≡ name ++ operator_text m.operator → after ≡ operator ++ encode_utf8_all (printed_value m.value) →
    after ≡ start ++ encode_utf8_all (printed_one m)
written-one m start name operator after named a b c =
    let ascii : encode_utf8_all m.name ≡ m.name = encodes-IsAscii m.name (IsAscii-all_in_name m.name (all_in_name m.name named)) in
    let symbol : encode_utf8_all (operator_text m.operator) ≡ operator_text m.operator = operator_as_utf8 m.operator in
    let whole : encode_utf8_all (printed_one m) ≡ m.name ++ (operator_text m.operator ++ encode_utf8_all (printed_value m.value)) =
    encodes-append m.name (operator_text m.operator ++ printed_value m.value)
    ∙ ap₂ ◌++◌ ascii (encodes-append (operator_text m.operator) (printed_value m.value)
    ∙ ap (λ t. t ++ encode_utf8_all (printed_value m.value)) symbol) in
    rw whole (rw (c, b, a) (simp append_assoc))

-- a list begins with its first element
pub cons_of_first : (ms : List MatcherText) (m : MatcherText) → 1 ≤ length ms → m ≡ get_or ms 0 m →
    ms ≡ m ∷ take (length ms - 1) (drop 1 ms)
cons_of_first ms m some is =
    let left : length ms - 1 ≡ length (drop 1 ms) = omega (arith, length-drop 1 ms) in
    let others : take (length ms - 1) (drop 1 ms) ≡ drop 1 ms = rw left (take-length (drop 1 ms)) in
    drop-cons ms 0 m (omega arith) ∙ ap (λ x. x ∷ drop 1 ms) (sym is) ∙ ap (λ t. m ∷ t) (sym others)

-- all matchers were written
pub written-all : (ms : List MatcherText) (m : MatcherText) (rest : List MatcherText) (start first after : List ℕ) → ms ≡ m ∷ rest →
    start ≡ [] → first ≡ start ++ encode_utf8_all (printed_one m) → after ≡ first ++ encode_utf8_all (flat_map further rest) →
    after ≡ encode_utf8_all (printed ms)
written-all ms m rest start first after whole empty one others =
    rw (whole, encodes-append (printed_one m) (flat_map further rest)) (rw (others, one, empty) refl)

-- and they are read from what was written
pub reads_written : (ms : List MatcherText) (m : MatcherText) (rest : List MatcherText) (text : List ℕ) → ms ≡ m ∷ rest → IsUtf8 text →
    text ≡ encode_utf8_all (printed ms) → IsMatcher m → All IsMatcher rest → matchers_of (chars text) ≡ Some ms
reads_written ms m rest text whole utf8 written valid others =
    let characters : printed ms ≡ chars text = chars_from_encodes (printed ms) text utf8 (sym written) in
    rw (← characters, whole) (matchers_of-printed m rest valid others)
