-- That a text of matchers, written in any of its forms, is read as what it says.
use Rattle.std.proofs.Common.{◌≡◌, ◌≢◌, ℕ, zero, suc, ◌<◌, ◌≤◌, List, [], ◌∷◌, ◌++◌, All, Bool, true, false, cond, Some, option_map, codes, ◌-◌, length, map, drop, get_or, refl, sym, ap, ne_eqb, ◌&&◌, ◌==◌, ◌∙◌, inl, inr, arith, append_assoc, append-nil, length-append, encode_utf8_all, true≢false}
use Rattle.std.specs.List.{flat_map, list_all, join_by}
use Rattle.std.proofs.lemmas.Bool.{and_parts}
use Rattle.std.proofs.lemmas.Bool.Decides.{eqb_tells}
use Rattle.std.proofs.lemmas.List.Elements.{All-head, All-tail}
use Rattle.am_labels.specs.Labels.{is_label_name}
use Rattle.am_match.specs.declared.matcher.Operator.{Operator}
use Rattle.am_match.specs.declared.matcher.Operator.TheVariants.{Equal, NotEqual, Match, NotMatch}
use Rattle.am_match.specs.Matchers.{MatcherText}
use Rattle.am_match.specs.Printing.{operator_text}
use Rattle.am_match.specs.Reading.{Text, skip, run, is_in_name, operator, quoted, is_bare, trim_end, value, one, is_end, several, matchers_of, begins}
use Rattle.am_match.specs.Forms.{spaces, Piece, itself, mark, slash, line, IsPiece, piece_text, character_of, Value, in_marks, unmarked, IsValue, value_text, characters_of, Form, IsForm, form_text, matcher_of, forms_text, Says}
use Rattle.am_match.proofs.NameLemmas.{all_in_name, skip-name, begins-name, run-name}
use Rattle.am_match.proofs.ReadingLemmas.{trim_end-space, several-last, several-more}

-- spaces at the front go
skip-spaces : (k : ℕ) (t : Text) → skip (spaces k ++ t) ≡ skip t
skip-spaces zero t = refl
skip-spaces (suc k) t = skip-spaces k t

-- spaces at the end go
trim_end-spaces : (v : Text) (k : ℕ) → trim_end (v ++ spaces k) ≡ trim_end v
trim_end-spaces v zero = ap trim_end (append-nil v)
trim_end-spaces v (suc k) =
    ap trim_end (sym (append_assoc v (32 ∷ []) (spaces k))) ∙ trim_end-spaces (v ++ 32 ∷ []) k ∙ trim_end-space v

-- what may follow a matcher: nothing, a comma or a brace
data Tail : Type 0 where
  nothing : Tail
  comma : Text → Tail
  brace : Text → Tail

-- as text
abbrev tail_text : Tail → Text
tail_text nothing = []
tail_text (comma t) = 44 ∷ t
tail_text (brace t) = 125 ∷ t

-- there no space is skipped
skip-tail : (t : Tail) → skip (tail_text t) ≡ tail_text t
skip-tail nothing = refl
skip-tail (comma t) = refl
skip-tail (brace t) = refl

-- nor a character of a bare value taken
run-tail : (t : Tail) → run is_bare (tail_text t) ≡ ([], tail_text t)
run-tail nothing = refl
run-tail (comma t) = refl
run-tail (brace t) = refl

-- nor does a quotation mark stand there
value-tail : (t : Tail) → value (tail_text t) ≡ Some ([], tail_text t)
value-tail nothing = refl
value-tail (comma t) = refl
value-tail (brace t) = refl

-- the run of a bare value ends where no more of it follows
run-bare : (v t : Text) → list_all is_bare v ≡ true → run is_bare t ≡ ([], t) → run is_bare (v ++ t) ≡ (v, t)
run-bare [] t e stuck = stuck
run-bare (c ∷ v) t e stuck =
    let parts = and_parts (is_bare c) (list_all is_bare v) e in
    rw (parts.0, run-bare v t parts.1 stuck)

-- a value without a space at its end stays
trim_end-bare : (v : Text) → ((u : Text) → v ≢ u ++ 32 ∷ []) → trim_end v ≡ v
trim_end-bare [] other = refl
trim_end-bare (c ∷ []) unspaced =
    elim (eqb_tells c 32) [
      | inl space ↦ absurd (unspaced [] (ap (λ (x : ℕ). x ∷ []) space.1))
      | inr other ↦ rw other.0
    ]
trim_end-bare (c ∷ d ∷ v) unspaced =
    let kept : trim_end (d ∷ v) ≡ d ∷ v = trim_end-bare (d ∷ v) (λ u e. unspaced (c ∷ u) (ap (λ (t : Text). c ∷ t) e)) in
    rw kept (and_no (c == 32))
  where
    and_no : (b : Bool) → cond (b && false) [] (c ∷ d ∷ v) ≡ c ∷ d ∷ v
    and_no true = refl
    and_no false = refl

-- pieces are read as the characters that they stand for
quoted-pieces : (ps : List Piece) (t : Text) → All IsPiece ps → quoted false (flat_map piece_text ps ++ 34 ∷ t) ≡ Some (map character_of ps, t)
quoted-pieces [] t valid = refl
quoted-pieces (p ∷ ps) t valid =
    ap (quoted false) (append_assoc (piece_text p) (flat_map piece_text ps) (34 ∷ t))
    ∙ quoted-piece p (All-head IsPiece p ps valid) (flat_map piece_text ps ++ 34 ∷ t) (map character_of ps) t
    (quoted-pieces ps t (All-tail IsPiece p ps valid))
  where
    quoted-piece : (p : Piece) → IsPiece p → (u cs t : Text) → quoted false u ≡ Some (cs, t) →
        quoted false (piece_text p ++ u) ≡ Some (character_of p ∷ cs, t)
    quoted-piece (itself c) other u cs t e = rw (ne_eqb c 34 other.0, ne_eqb c 92 other.1, e)
    quoted-piece mark other u cs t e = rw e
    quoted-piece slash other u cs t e = rw e
    quoted-piece line other u cs t e = rw e

-- a value that was read, and what follows the spaces behind it
record ValueRead (t : Text) (cs after : Text) : Type 0 where
  rest : Text
  read : value t ≡ Some (cs, rest)
  skipped : skip rest ≡ after

-- a value with spaces around it is read as what it says
value-read : (v : Value) (k n : ℕ) (t : Tail) → IsValue v →
    ValueRead (skip (spaces k ++ (value_text v ++ (spaces n ++ tail_text t)))) (characters_of v) (tail_text t)
value-read (in_marks ps) k n t valid =
    let front : skip (spaces k ++ ((34 ∷ (flat_map piece_text ps ++ 34 ∷ [])) ++ (spaces n ++ tail_text t)))
    ≡ 34 ∷ (flat_map piece_text ps ++ 34 ∷ (spaces n ++ tail_text t)) =
    skip-spaces k ((34 ∷ (flat_map piece_text ps ++ 34 ∷ [])) ++ (spaces n ++ tail_text t))
    ∙ ap (λ (u : Text). 34 ∷ u) (append_assoc (flat_map piece_text ps) (34 ∷ []) (spaces n ++ tail_text t)) in
    record {
      rest = spaces n ++ tail_text t;
      read = rw front (quoted-pieces ps (spaces n ++ tail_text t) valid);
      skipped = skip-spaces n (tail_text t) ∙ skip-tail t;
    }
value-read (unmarked []) k n t valid =
    let front : skip (spaces k ++ (spaces n ++ tail_text t)) ≡ tail_text t =
    skip-spaces k (spaces n ++ tail_text t) ∙ skip-spaces n (tail_text t) ∙ skip-tail t in
    record { rest = tail_text t; read = ap value front ∙ value-tail t; skipped = skip-tail t }
value-read (unmarked (c ∷ v)) k n t valid =
    let other : (c == 32) ≡ false = ne_eqb c 32 (λ e. valid.1 v (ap (λ (x : ℕ). x ∷ v) e)) in
    let first = (and_parts (is_bare c) (list_all is_bare v) valid.0).0 in
    let behind : Text = v ++ (spaces n ++ tail_text t) in
    let front : skip (spaces k ++ (c ∷ behind)) ≡ c ∷ behind = skip-spaces k (c ∷ behind) ∙ rw other in
    let taken : run is_bare (c ∷ behind) ≡ (c ∷ (v ++ spaces n), tail_text t) =
    ap (run is_bare) (sym (append_assoc (c ∷ v) (spaces n) (tail_text t)))
    ∙ run-bare ((c ∷ v) ++ spaces n) (tail_text t) (all-spaced (c ∷ v) n valid.0) (run-tail t) in
    let kept : trim_end (c ∷ (v ++ spaces n)) ≡ c ∷ v = trim_end-spaces (c ∷ v) n ∙ trim_end-bare (c ∷ v) valid.2 in
    record { rest = tail_text t; read = ap value front ∙ rw (no_mark c first, taken, kept); skipped = skip-tail t }
  where
    all-spaced : (v : Text) (n : ℕ) → list_all is_bare v ≡ true → list_all is_bare (v ++ spaces n) ≡ true
    all-spaced [] zero e = refl
    all-spaced [] (suc n) e = all-spaced [] n e
    all-spaced (d ∷ v) n e =
        let parts = and_parts (is_bare d) (list_all is_bare v) e in
        rw (parts.0, all-spaced v n parts.1)

    no_mark : (c : ℕ) → is_bare c ≡ true → (34 == c) ≡ false
    no_mark c e = elim (eqb_tells 34 c) [ inl same ↦ absurd (true≢false (sym (rw (← same.1) at e))) | inr other ↦ other.0 ]

-- a label name ends where spaces and an operator follow
run-operator : (k : ℕ) (o : Operator) (t : Text) →
    run is_in_name (spaces k ++ (operator_text o ++ t)) ≡ ([], spaces k ++ (operator_text o ++ t))
run-operator zero Equal t = refl
run-operator zero NotEqual t = refl
run-operator zero Match t = refl
run-operator zero NotMatch t = refl
run-operator (suc k) o t = refl

-- no space is skipped in front of an operator
skip-operator : (k : ℕ) (o : Operator) (t : Text) → skip (spaces k ++ (operator_text o ++ t)) ≡ operator_text o ++ t
skip-operator k Equal t = skip-spaces k (operator_text Equal ++ t)
skip-operator k NotEqual t = skip-spaces k (operator_text NotEqual ++ t)
skip-operator k Match t = skip-spaces k (operator_text Match ++ t)
skip-operator k NotMatch t = skip-spaces k (operator_text NotMatch ++ t)

-- an operator is read where it isn't the beginning of a longer one
operator-read : (o : Operator) (t : Text) → (o ≡ Equal → (u : Text) → t ≢ 126 ∷ u) → operator (operator_text o ++ t) ≡ Some (o, t)
operator-read Equal [] longest = refl
operator-read Equal (c ∷ t) longest =
    elim (eqb_tells 126 c) [
      | inl longer ↦ absurd (longest refl t (ap (λ (x : ℕ). x ∷ t) (sym longer.1)))
      | inr other ↦ rw other.0
    ]
operator-read NotEqual t longest = refl
operator-read Match t longest = refl
operator-read NotMatch t longest = refl

-- a matcher from its parts
one-step : (t after behind rest : Text) (m : MatcherText) (meant : Text) → run is_in_name (skip t) ≡ (m.name, after) →
    operator (skip after) ≡ Some (m.operator, behind) → value (skip behind) ≡ Some (meant, rest) → is_label_name m.name ≡ true →
    encode_utf8_all meant ≡ m.value → one t ≡ Some (m, skip rest)
one-step t after behind rest m meant name operator' value' named text = rw (name, operator', value', named, text)

-- texts that are equal begin alike
pub first_of : {t u : Text} → t ≡ u → get_or t 0 0 ≡ get_or u 0 0
first_of e = ap (λ (x : Text). get_or x 0 0) e

-- what follows the value of a form begins as the value does, or with a space or what may follow
longest-tail : (f : Form) (t : Tail) → IsForm f → f.operator ≡ Equal → (u : Text) →
    spaces f.behind ++ (value_text f.value ++ (spaces f.after ++ tail_text t)) ≢ 126 ∷ u
longest-tail f t valid equal u e = front f.behind f.value f.after t (valid.longest equal) u e
  where
    after-value : (n : ℕ) (t : Tail) (u : Text) → spaces n ++ tail_text t ≢ 126 ∷ u
    after-value zero nothing u e = omega (arith, first_of e)
    after-value zero (comma t) u e = omega (arith, first_of e)
    after-value zero (brace t) u e = omega (arith, first_of e)
    after-value (suc n) t u e = omega (arith, first_of e)

    front : (k : ℕ) (v : Value) (n : ℕ) (t : Tail) → ((u : Text) → spaces k ++ value_text v ≢ 126 ∷ u) →
        (u : Text) → spaces k ++ (value_text v ++ (spaces n ++ tail_text t)) ≢ 126 ∷ u
    front (suc k) v n t longest u e = omega (arith, first_of e)
    front zero (in_marks ps) n t longest u e = omega (arith, first_of e)
    front zero (unmarked []) n t longest u e = after-value n t u e
    front zero (unmarked (c ∷ v)) n t longest u e = longest v (ap (λ (x : ℕ). x ∷ v) (first_of e))

-- a form is read as what it says, whatever may follow
one-form : (f : Form) (t : Tail) → IsForm f → one (form_text f ++ tail_text t) ≡ Some (matcher_of f, tail_text t)
one-form f t valid =
    let last : Text = value_text f.value ++ (spaces f.after ++ tail_text t) in
    let behind : Text = spaces f.behind ++ last in
    let after : Text = spaces f.between ++ (operator_text f.operator ++ behind) in
    let apart : form_text f ++ tail_text t ≡ spaces f.before ++ (f.name ++ after) = simp append_assoc in
    let found = value-read f.value f.behind f.after t valid.valued in
    let name : run is_in_name (skip (form_text f ++ tail_text t)) ≡ (f.name, after) =
    ap (λ (x : Text). run is_in_name (skip x)) apart
    ∙ ap (run is_in_name) (skip-spaces f.before (f.name ++ after) ∙ skip-name f.name after valid.named)
    ∙ run-name f.name after (all_in_name f.name valid.named) (run-operator f.between f.operator behind) in
    let operator' : operator (skip after) ≡ Some (f.operator, behind) =
    ap operator (skip-operator f.between f.operator behind) ∙ operator-read f.operator behind (longest-tail f t valid) in
    one-step (form_text f ++ tail_text t) after behind found.rest (matcher_of f) (characters_of f.value) name operator' found.read valid.named refl
    ∙ ap (λ (x : Text). Some (matcher_of f, x)) found.skipped

-- the closing brace, where one was opened
abbrev closing : Bool → Tail
closing true = brace []
closing false = nothing

-- the end of the text
is_end-closing : (braced : Bool) → is_end braced (tail_text (closing braced)) ≡ true
is_end-closing true = refl
is_end-closing false = refl

-- and what isn't
is_end-comma : (braced : Bool) (t : Text) → is_end braced (44 ∷ t) ≡ false
is_end-comma true t = refl
is_end-comma false t = refl

-- a form behind a comma
abbrev further : Form → Text
further f = 44 ∷ form_text f

-- forms with commas between are read as what they say
several-forms : (braced : Bool) (n : ℕ) (f : Form) (fs : List Form) → IsForm f → All IsForm fs → length fs < n →
    several braced n (join_by form_text (codes ",") (f ∷ fs) ++ tail_text (closing braced)) ≡ Some (map matcher_of (f ∷ fs))
several-forms braced n f [] valid others less =
    let whole : join_by form_text (codes ",") (f ∷ []) ++ tail_text (closing braced) ≡ form_text f ++ tail_text (closing braced) =
    simp append_assoc in
    several-last braced n _ (matcher_of f) (tail_text (closing braced)) (omega (arith, less))
    (ap one whole ∙ one-form f (closing braced) valid) (is_end-closing braced)
several-forms braced n f (g ∷ fs) valid others less =
    let rest : Text = join_by form_text (codes ",") (g ∷ fs) ++ tail_text (closing braced) in
    let whole : join_by form_text (codes ",") (f ∷ g ∷ fs) ++ tail_text (closing braced) ≡ form_text f ++ 44 ∷ rest =
    simp append_assoc in
    several-more braced n _ (matcher_of f) (44 ∷ rest) rest (omega (arith, less))
    (ap one whole ∙ one-form f (comma rest) valid) (is_end-comma braced rest) refl
    ∙ ap (option_map (λ ms. matcher_of f ∷ ms))
    (several-forms braced (n - 1) g fs (All-head IsForm g fs others) (All-tail IsForm g fs others) (omega (arith, less)))

-- an operator has a character
length-operator : (o : Operator) → 1 ≤ length (operator_text o)
length-operator Equal = omega arith
length-operator NotEqual = omega arith
length-operator Match = omega arith
length-operator NotMatch = omega arith

-- there are no more forms than characters
length-further : (fs : List Form) → length fs ≤ length (flat_map further fs)
length-further [] = omega arith
length-further (f ∷ fs) = omega (arith, length-further fs, length-append (further f) (flat_map further fs))

-- the same of the whole list
length-forms : (f : Form) (fs : List Form) (t : Text) → length fs < length (join_by form_text (codes ",") (f ∷ fs) ++ t)
length-forms f fs t =
    let value' = value_text f.value ++ spaces f.after in
    let behind = spaces f.behind ++ value' in
    let operator' = operator_text f.operator ++ behind in
    let between = spaces f.between ++ operator' in
    omega (
      arith,
      length-further fs,
      length-operator f.operator,
      length-append (join_by form_text (codes ",") (f ∷ fs)) t,
      length-append (form_text f) (flat_map further fs),
      length-append (spaces f.before) (f.name ++ between),
      length-append f.name between,
      length-append (spaces f.between) operator',
      length-append (operator_text f.operator) behind,
    )

-- no brace stands in front of a form
begins-form : (f : Form) (t : Text) → IsForm f → begins "{" (form_text f ++ t) ≡ false
begins-form f t valid =
    let behind : Text = spaces f.between ++ (operator_text f.operator ++ (spaces f.behind ++ (value_text f.value ++ (spaces f.after ++ t)))) in
    let apart : form_text f ++ t ≡ spaces f.before ++ (f.name ++ behind) = simp append_assoc in
    ap (begins "{") apart ∙ no_brace f.before behind
  where
    no_brace : (k : ℕ) (u : Text) → begins "{" (spaces k ++ (f.name ++ u)) ≡ false
    no_brace zero u = begins-name f.name u valid.named
    no_brace (suc k) u = refl

-- forms are read as what they say
forms-read : (braced : Bool) (fs : List Form) → fs ≢ [] → All IsForm fs → matchers_of (forms_text braced fs) ≡ Some (map matcher_of fs)
forms-read braced [] some valid = absurd (some refl)
forms-read true (f ∷ fs) some valid =
    let within : Text = join_by form_text (codes ",") (f ∷ fs) ++ 125 ∷ [] in
    several-forms true (length (123 ∷ within)) f fs (All-head IsForm f fs valid) (All-tail IsForm f fs valid)
    (omega (arith, length-forms f fs (125 ∷ [])))
forms-read false (f ∷ fs) some valid =
    let text : Text = join_by form_text (codes ",") (f ∷ fs) in
    let first = All-head IsForm f fs valid in
    let end : text ++ [] ≡ text = append-nil text in
    let apart : text ≡ form_text f ++ flat_map further fs = refl in
    let no_brace : begins "{" text ≡ false = ap (begins "{") apart ∙ begins-form f (flat_map further fs) first in
    ap (λ b. cond b (several true (length text) (drop 1 text)) (several false (length text) text)) no_brace
    ∙ ap (several false (length text)) (sym end)
    ∙ several-forms false (length text) f fs first (All-tail IsForm f fs valid)
    (rw end at (length-forms f fs []))

-- a text is read as what it says
pub says_read : (text : List ℕ) (ms : List MatcherText) → Says text ms → matchers_of text ≡ Some ms
says_read text ms says =
    ap matchers_of says.written ∙ forms-read says.braced says.forms says.some says.valid ∙ ap Some says.said
