-- That what is read of a text of matchers is what the text says.
use Rattle.std.proofs.Common.{◌≡◌, ◌≢◌, ℕ, zero, suc, ◌+◌, List, [], ◌∷◌, ◌++◌, All, Bool, true, false, ◌&&◌, ◌==◌, cond, Some, None, Option, option_map, option_and_then, codes, length, map, drop, refl, sym, ap, ◌∙◌, inl, inr, arith, append_assoc, append-nil, encode_utf8_all, true≢false, subst}
use Rattle.std.specs.List.{flat_map, list_all, join_by}
use Rattle.std.proofs.lemmas.Bool.{and_parts, and_from, cases_Bool}
use Rattle.std.proofs.lemmas.Bool.Decides.{eqb_tells}
use Rattle.std.proofs.lemmas.List.{replicate-append-replicate}
use Rattle.std.proofs.lemmas.List.Elements.{All-cons, All-nil}
use Rattle.am_labels.specs.Labels.{is_label_name}
use Rattle.am_match.specs.declared.matcher.Operator.{Operator}
use Rattle.am_match.specs.declared.matcher.Operator.TheVariants.{Equal, NotEqual, Match, NotMatch}
use Rattle.am_match.specs.Matchers.{MatcherText}
use Rattle.am_match.specs.Printing.{operator_text}
use Rattle.am_match.specs.Reading.{Text, skip, run, onto, is_in_name, operator, unescaped, quoted, is_bare, is_empty, trim_end, bare, value, one, after_comma, is_end, several, matchers_of, ◌>>◌}
use Rattle.am_match.specs.Forms.{spaces, Piece, itself, mark, slash, line, IsPiece, piece_text, character_of, Value, in_marks, unmarked, IsValue, value_text, characters_of, Form, IsForm, form_text, matcher_of, Says}
use Rattle.am_match.proofs.FormsRead.{first_of}

-- what one step gave, and the next from there
some_then : {A B : Type 0} (o : Option A) (f : A → Option B) (y : B) → option_and_then f o ≡ Some y →
    (x : A) × (o ≡ Some x) × (f x ≡ Some y)
some_then (Some x) f y e = (x, refl, e)
some_then {A} {B} None f y e = absurd (let never : (let n : Option B = None in n) ≡ Some y = e in cc)

-- what an image is of
some_image : {A B : Type 0} (o : Option A) (f : A → B) (y : B) → option_map f o ≡ Some y → (x : A) × (o ≡ Some x) × (f x ≡ y)
some_image (Some x) f y e = (x, refl, (let same : Some (f x) ≡ Some y = e in cc))
some_image {A} {B} None f y e = absurd (let never : (let n : Option B = None in n) ≡ Some y = e in cc)

-- where a test lets through, it holds
let_through : {A : Type 0} (test : Bool) (o : Option A) (y : A) → (test >> o) ≡ Some y → (test ≡ true) × (o ≡ Some y)
let_through true o y e = (refl, e)
let_through {A} false o y e = absurd (let never : (let n : Option A = None in n) ≡ Some y = e in cc)

-- the parts of a pair that was found
same_first : {A B : Type 0} (a c : A) (b d : B) → (let p : A × B = (a, b) in Some p) ≡ Some (c, d) → a ≡ c
same_first {A} {B} a c b d e =
    let p : A × B = (a, b) in let q : A × B = (c, d) in
    let pair : p ≡ q = cc in
    ap (λ (r : A × B). r.0) pair

same_second : {A B : Type 0} (a c : A) (b d : B) → (let p : A × B = (a, b) in Some p) ≡ Some (c, d) → b ≡ d
same_second {A} {B} a c b d e =
    let p : A × B = (a, b) in let q : A × B = (c, d) in
    let pair : p ≡ q = cc in
    ap (λ (r : A × B). r.1) pair

-- how many spaces stand at the front
abbrev front_spaces : Text → ℕ
front_spaces [] = 0
front_spaces (c ∷ t) = cond (c == 32) (suc (front_spaces t)) 0

-- they stand in front of what follows them
skip-split : (t : Text) → t ≡ spaces (front_spaces t) ++ skip t
skip-split [] = refl
skip-split (c ∷ t) =
    elim (eqb_tells c 32) [
      | inl space ↦ rw (space.0) (ap (λ (x : ℕ). x ∷ t) space.1 ∙ ap (λ (u : Text). 32 ∷ u) (skip-split t))
      | inr other ↦ rw other.0 refl
    ]

-- and there is no space then
skip-front : (t u : Text) → skip t ≢ 32 ∷ u
skip-front [] u e = omega (arith, first_of e)
skip-front (c ∷ t) u e =
    elim (eqb_tells c 32) [
      | inl space ↦ skip-front t u (rw space.0 at e)
      | inr other ↦ absurd (other.1 (first_of (let same : c ∷ t ≡ 32 ∷ u = rw other.0 at e in same)))
    ]

-- a run and the rest make the text
run-split : (test : ℕ → Bool) (t : Text) → t ≡ (run test t).0 ++ (run test t).1
run-split test [] = refl
run-split test (c ∷ t) =
    elim (cases_Bool (test c)) [
      | inl passes ↦ rw passes (ap (λ (u : Text). c ∷ u) (run-split test t))
      | inr fails ↦ rw fails refl
    ]

-- each character of a run passes
pub run-all : (test : ℕ → Bool) (t : Text) → list_all test (run test t).0 ≡ true
run-all test [] = refl
run-all test (c ∷ t) =
    elim (cases_Bool (test c)) [
      | inl passes ↦ rw passes (and_from (test c) _ passes (run-all test t))
      | inr fails ↦ rw fails refl
    ]

-- what is left without the spaces at the end, and how many they are
pub record Trimmed (t : Text) : Type 0 where
  count : ℕ
  front : t ≡ trim_end t ++ spaces count
  unspaced : (u : Text) → trim_end t ≢ u ++ 32 ∷ []

-- nothing has no space at its end
never_empty : (u : Text) → [] ≢ u ++ 32 ∷ []
never_empty [] e = omega (arith, ap length e)
never_empty (d ∷ u) e = omega (arith, ap length e)

-- of a text with a space at its end what is behind the first character has it too
unspaced_onto : (c x : ℕ) (r : Text) → ((u : Text) → x ∷ r ≢ u ++ 32 ∷ []) → (u : Text) → c ∷ x ∷ r ≢ u ++ 32 ∷ []
unspaced_onto c x r unspaced [] e = omega (arith, ap length e)
unspaced_onto c x r unspaced (d ∷ u) e = unspaced u (ap (λ (y : Text). drop 1 y) e)

-- one character that is no space
unspaced_one : (c : ℕ) → c ≢ 32 → (u : Text) → c ∷ [] ≢ u ++ 32 ∷ []
unspaced_one c other [] e = other (first_of e)
unspaced_one c other (d ∷ u) e = never_empty u (ap (λ (y : Text). drop 1 y) e)

-- a character more in front
trim_end-onto : (c : ℕ) (t r : Text) (n : ℕ) → t ≡ r ++ spaces n → ((u : Text) → r ≢ u ++ 32 ∷ []) →
    (k : ℕ) × (c ∷ t ≡ cond (c == 32 && is_empty r) [] (c ∷ r) ++ spaces k)
    × ((u : Text) → cond (c == 32 && is_empty r) [] (c ∷ r) ≢ u ++ 32 ∷ [])
trim_end-onto c t [] n e unspaced =
    elim (eqb_tells c 32) [
      | inl space ↦ rw space.0 (suc n, (ap (λ (x : ℕ). x ∷ t) space.1 ∙ ap (λ (u : Text). 32 ∷ u) e), never_empty)
      | inr other ↦ rw other.0 (n, ap (λ (u : Text). c ∷ u) e, unspaced_one c other.1)
    ]
trim_end-onto c t (x ∷ r) n e unspaced =
    elim (cases_Bool (c == 32)) [
      | inl space ↦ rw space (n, ap (λ (u : Text). c ∷ u) e, unspaced_onto c x r unspaced)
      | inr other ↦ rw other (n, ap (λ (u : Text). c ∷ u) e, unspaced_onto c x r unspaced)
    ]

-- the spaces at the end stand behind what is left
trim_end-split : (t : Text) → Trimmed t
trim_end-split [] = record { count = 0; front = refl; unspaced = never_empty }
trim_end-split (c ∷ t) =
    let rest = trim_end-split t in
    let step = trim_end-onto c t (trim_end t) rest.count rest.front rest.unspaced in
    record { count = step.0; front = step.1; unspaced = step.2 }

-- pieces that were read, and the closing quotation mark behind them
pub record PiecesFound (t cs rest : Text) : Type 0 where
  pieces : List Piece
  valid : All IsPiece pieces
  front : t ≡ flat_map piece_text pieces ++ 34 ∷ rest
  said : map character_of pieces ≡ cs

-- one piece more in front
pieces_onto : (p : Piece) (t cs rest : Text) → IsPiece p → PiecesFound t cs rest →
    PiecesFound (piece_text p ++ t) (character_of p ∷ cs) rest
pieces_onto p t cs rest valid found = record {
  pieces = p ∷ found.pieces;
  valid = All-cons IsPiece p found.pieces valid found.valid;
  front = ap (λ (u : Text). piece_text p ++ u) found.front
      ∙ sym (append_assoc (piece_text p) (flat_map piece_text found.pieces) (34 ∷ rest));
  said = ap (λ (u : Text). character_of p ∷ u) found.said;
}

-- the same of what was read
pieces_next : (p : Piece) (t cs rest : Text) → IsPiece p → (x : Text × Text) → PiecesFound t x.0 x.1 →
    (let y : Text × Text = (character_of p ∷ x.0, x.1) in y) ≡ (cs, rest) → PiecesFound (piece_text p ++ t) cs rest
pieces_next p t cs rest valid x found e =
    let P : Text × Text → Type 0 = λ y. PiecesFound (piece_text p ++ t) y.0 y.1 in
    subst P e (pieces_onto p t x.0 x.1 valid found)

-- the piece that an escape is
record Escape (d m : ℕ) : Type 0 where
  piece : Piece
  valid : IsPiece piece
  front : piece_text piece ≡ 92 ∷ d ∷ []
  said : character_of piece ≡ m

-- no character
abbrev no_number : Option ℕ
no_number = None

-- what an escape stands for
escape-found : (d m : ℕ) → unescaped d ≡ Some m → Escape d m
escape-found d m e =
    elim (eqb_tells d 34) [
      | inl is_mark ↦ record { piece = mark; valid = tt; front = ap (λ (x : ℕ). 92 ∷ x ∷ []) (sym is_mark.1); said = (let f : Some 34 ≡ Some m = rw is_mark.0 at e in cc) }
      | inr no_mark ↦ elim (eqb_tells d 92) [
        | inl is_slash ↦ record { piece = slash; valid = tt; front = ap (λ (x : ℕ). 92 ∷ x ∷ []) (sym is_slash.1); said = (let f : Some 92 ≡ Some m = rw (no_mark.0, is_slash.0) at e in cc) }
        | inr no_slash ↦ elim (eqb_tells d 110) [
          | inl is_line ↦ record { piece = line; valid = tt; front = ap (λ (x : ℕ). 92 ∷ x ∷ []) (sym is_line.1); said = (let f : Some 10 ≡ Some m = rw (no_mark.0, no_slash.0, is_line.0) at e in cc) }
          | inr no_line ↦ absurd (let never : no_number ≡ Some m = rw (no_mark.0, no_slash.0, no_line.0) at e in cc)
        ]
      ]
    ]

-- an escape in front
pieces_escaped : (c d m : ℕ) (t cs rest : Text) → c ≡ 92 → Escape d m → (x : Text × Text) → PiecesFound t x.0 x.1 →
    onto m x ≡ (cs, rest) → PiecesFound (c ∷ d ∷ t) cs rest
pieces_escaped c d m t cs rest is_slash escape x found e =
    let P : Text → Type 0 = λ u. PiecesFound u cs rest in
    let whole : piece_text escape.piece ++ t ≡ c ∷ d ∷ t =
    ap (λ (u : Text). u ++ t) escape.front ∙ ap (λ (y : ℕ). y ∷ d ∷ t) (sym is_slash) in
    let read : onto (character_of escape.piece) x ≡ (cs, rest) = ap (λ (y : ℕ). onto y x) escape.said ∙ e in
    subst P whole (pieces_next escape.piece t cs rest escape.valid x found read)

-- nothing was read
abbrev unread : Option (Text × Text)
unread = None

-- what was read with nothing in front
abbrev read_here : Text → Option (Text × Text)
read_here t = Some ([], t)

-- the closing quotation mark
pieces-end : (c : ℕ) (t cs rest : Text) → c ≡ 34 → read_here t ≡ Some (cs, rest) → PiecesFound (c ∷ t) cs rest
pieces-end c t cs rest is_mark e = record {
  pieces = [];
  valid = All-nil IsPiece;
  front = ap (λ (x : ℕ). x ∷ t) is_mark ∙ ap (λ (u : Text). 34 ∷ u) (same_second [] cs t rest e);
  said = same_first [] cs t rest e;
}

-- the pieces of what was read within quotation marks
pub pieces-found : (t cs rest : Text) → quoted false t ≡ Some (cs, rest) → PiecesFound t cs rest
pieces-found [] cs rest e = absurd (let never : unread ≡ Some (cs, rest) = e in cc)
pieces-found (c ∷ []) cs rest e =
    elim (eqb_tells c 34) [
      | inl is_mark ↦ pieces-end c [] cs rest is_mark.1 (rw is_mark.0 at e)
      | inr no_mark ↦ elim (eqb_tells c 92) [
        | inl is_slash ↦ absurd (let never : unread ≡ Some (cs, rest) = rw (no_mark.0, is_slash.0) at e in cc)
        | inr no_slash ↦ absurd (let never : unread ≡ Some (cs, rest) = rw (no_mark.0, no_slash.0) at e in cc)
      ]
    ]
pieces-found (c ∷ d ∷ t) cs rest e =
    elim (eqb_tells c 34) [
      | inl is_mark ↦ pieces-end c (d ∷ t) cs rest is_mark.1 (rw is_mark.0 at e)
      | inr no_mark ↦ elim (eqb_tells c 92) [
        | inl is_slash ↦ (
            let f : ℕ → Option (Text × Text) = λ m. option_map (onto m) (quoted false t) in
            let a = some_then (unescaped d) f (cs, rest) (rw (no_mark.0, is_slash.0) at e) in
            let b = some_image (quoted false t) (onto a.0) (cs, rest) a.2 in
            pieces_escaped c d a.0 t cs rest is_slash.1 (escape-found d a.0 a.1) b.0 (pieces-found t b.0.0 b.0.1 b.1) b.2
            )
        | inr no_slash ↦ (
            let b = some_image (quoted false (d ∷ t)) (onto c) (cs, rest) (rw (no_mark.0, no_slash.0) at e) in
            pieces_next (itself c) (d ∷ t) cs rest (no_mark.1, no_slash.1) b.0 (pieces-found (d ∷ t) b.0.0 b.0.1 b.1) b.2
            )
      ]
    ]

-- an operator that was read
pub record OperatorFound (t : Text) (o : Operator) (rest : Text) : Type 0 where
  front : t ≡ operator_text o ++ rest
  longest : o ≡ Equal → (u : Text) → rest ≢ 126 ∷ u

-- no operator was read
abbrev no_operator : Option (Operator × Text)
no_operator = None

-- one was
abbrev operator_here : Operator → Text → Option (Operator × Text)
operator_here o t = Some (o, t)

-- an operator other than `=`
operator_long : (c d : ℕ) (t : Text) (found o : Operator) (rest : Text) → c ∷ d ∷ t ≡ operator_text found ++ t → found ≢ Equal →
    operator_here found t ≡ Some (o, rest) → OperatorFound (c ∷ d ∷ t) o rest
operator_long c d t found o rest written other e =
    let same : found ≡ o = same_first found o t rest e in
    let behind : t ≡ rest = same_second found o t rest e in
    record {
      front = written ∙ ap (λ (x : Operator). operator_text x ++ t) same ∙ ap (λ (u : Text). operator_text o ++ u) behind;
      longest = λ equal. absurd (other (same ∙ equal));
    }

-- the operator `=`
operator_short : (c : ℕ) (t : Text) (o : Operator) (rest : Text) → c ≡ 61 → ((u : Text) → t ≢ 126 ∷ u) →
    operator_here Equal t ≡ Some (o, rest) → OperatorFound (c ∷ t) o rest
operator_short c t o rest is_equal other e =
    let same : Equal ≡ o = same_first Equal o t rest e in
    let behind : t ≡ rest = same_second Equal o t rest e in
    record {
      front = ap (λ (x : ℕ). x ∷ t) is_equal ∙ ap (λ (x : Operator). operator_text x ++ t) same ∙ ap (λ (u : Text). operator_text o ++ u) behind;
      longest = λ _ u e'. other u (behind ∙ e');
    }

-- where an operator was read, it stands there, and isn't the beginning of a longer one
pub operator-found : (t : Text) (o : Operator) (rest : Text) → operator t ≡ Some (o, rest) → OperatorFound t o rest
operator-found [] o rest e = absurd (let never : no_operator ≡ Some (o, rest) = e in cc)
operator-found (c ∷ []) o rest e =
    elim (eqb_tells 61 c) [
      | inl equal ↦ operator_short c [] o rest (sym equal.1) (λ u e'. omega (arith, first_of e')) (rw (← equal.1) at e)
      | inr other ↦ elim (eqb_tells 33 c) [
        | inl negated ↦ absurd (let never : no_operator ≡ Some (o, rest) = rw (other.0, negated.0) at e in cc)
        | inr none ↦ absurd (let never : no_operator ≡ Some (o, rest) = rw (other.0, none.0) at e in cc)
      ]
    ]
operator-found (c ∷ d ∷ t) o rest e =
    elim (eqb_tells 61 c) [
      | inl equal ↦ elim (eqb_tells 126 d) [
        | inl tilde ↦ operator_long c d t Match o rest (two c d 61 126 equal.1 tilde.1) (λ m. cc) (rw (equal.0, tilde.0) at e)
        | inr other ↦ operator_short c (d ∷ t) o rest (sym equal.1) (λ u e'. other.1 (sym (first_of e'))) (rw (← equal.1, other.0) at e)
      ]
      | inr other ↦ elim (eqb_tells 33 c) [
        | inl negated ↦ elim (eqb_tells 126 d) [
          | inl tilde ↦ operator_long c d t NotMatch o rest (two c d 33 126 negated.1 tilde.1) (λ m. cc) (rw (other.0, negated.0, tilde.0) at e)
          | inr no_tilde ↦ elim (eqb_tells 61 d) [
            | inl equal ↦ operator_long c d t NotEqual o rest (two c d 33 61 negated.1 equal.1) (λ m. cc) (rw (other.0, negated.0, no_tilde.0, equal.0) at e)
            | inr none ↦ absurd (let never : no_operator ≡ Some (o, rest) = rw (other.0, negated.0, no_tilde.0, none.0) at e in cc)
          ]
        ]
        | inr none ↦ absurd (let never : no_operator ≡ Some (o, rest) = rw (other.0, none.0) at e in cc)
      ]
    ]
  where
    two : (c d a b : ℕ) → a ≡ c → b ≡ d → c ∷ d ∷ t ≡ a ∷ b ∷ t
    two c d a b first second = ap (λ (x : ℕ). x ∷ d ∷ t) (sym first) ∙ ap (λ (x : ℕ). a ∷ x ∷ t) (sym second)

-- a value that was read, with the spaces behind it
record ValueFound (t cs rest : Text) : Type 0 where
  written : Value
  after : ℕ
  valid : IsValue written
  front : t ≡ value_text written ++ (spaces after ++ rest)
  said : characters_of written ≡ cs

-- where a whole passes, its front does
all-front : (test : ℕ → Bool) (xs ys : Text) → list_all test (xs ++ ys) ≡ true → list_all test xs ≡ true
all-front test [] ys e = refl
all-front test (x ∷ xs) ys e =
    let parts = and_parts (test x) (list_all test (xs ++ ys)) e in
    and_from (test x) (list_all test xs) parts.0 (all-front test xs ys parts.1)

-- a value without quotation marks that was read
abbrev bare_here : Text → Option (Text × Text)
bare_here t = Some (bare t)

-- stands there
bare-found : (t cs rest : Text) → ((u : Text) → t ≢ 32 ∷ u) → bare_here t ≡ Some (cs, rest) → ValueFound t cs rest
bare-found t cs rest unspaced e =
    let r : Text × Text = run is_bare t in
    let v : Text = trim_end r.0 in
    let trimmed = trim_end-split r.0 in
    let split : t ≡ v ++ (spaces trimmed.count ++ r.1) =
    run-split is_bare t ∙ ap (λ (u : Text). u ++ r.1) trimmed.front ∙ append_assoc v (spaces trimmed.count) r.1 in
    let said : v ≡ cs = same_first v cs r.1 rest e in
    let behind : r.1 ≡ rest = same_second v cs r.1 rest e in
    let all : list_all is_bare (v ++ spaces trimmed.count) ≡ true =
    ap (list_all is_bare) (sym trimmed.front) ∙ run-all is_bare t in
    record {
      written = unmarked v;
      after = trimmed.count;
      valid = (
        all-front is_bare v (spaces trimmed.count) all,
        (λ u e'. unspaced (u ++ (spaces trimmed.count ++ r.1)) (split ∙ ap (λ (x : Text). x ++ (spaces trimmed.count ++ r.1)) e')),
        trimmed.unspaced,
      );
      front = split ∙ ap (λ (u : Text). v ++ (spaces trimmed.count ++ u)) behind;
      said = said;
    }

-- where a value was read, it stands there
value-found : (t cs rest : Text) → ((u : Text) → t ≢ 32 ∷ u) → value t ≡ Some (cs, rest) → ValueFound t cs rest
value-found [] cs rest unspaced e = bare-found [] cs rest unspaced e
value-found (c ∷ t) cs rest unspaced e =
    elim (eqb_tells 34 c) [
      | inl is_mark ↦ marked is_mark.1 (pieces-found t cs rest (rw is_mark.0 at e))
      | inr other ↦ bare-found (c ∷ t) cs rest unspaced (rw other.0 at e)
    ]
  where
    marked : 34 ≡ c → PiecesFound t cs rest → ValueFound (c ∷ t) cs rest
    marked is_mark found = record {
      written = in_marks found.pieces;
      after = 0;
      valid = found.valid;
      front = ap (λ (x : ℕ). x ∷ t) (sym is_mark) ∙ ap (λ (u : Text). 34 ∷ u)
          (found.front ∙ sym (append_assoc (flat_map piece_text found.pieces) (34 ∷ []) rest));
      said = found.said;
    }

-- a matcher that was read, as a form of it
pub record FormFound (t : Text) (m : MatcherText) (rest : Text) : Type 0 where
  form : Form
  valid : IsForm form
  front : t ≡ form_text form ++ rest
  said : matcher_of form ≡ m

-- the parts of a matcher make its form
form_made : (t rest last : Text) (m : MatcherText) (o : Operator) (name after behind meant : Text) →
    skip t ≡ name ++ after → is_label_name name ≡ true → OperatorFound (skip after) o behind → ValueFound (skip behind) meant last →
    (let p : MatcherText × Text = (record { operator = o; name = name; value = encode_utf8_all meant }, skip last) in p) ≡ (m, rest) →
    FormFound t m rest
form_made t rest last m o name after behind meant name' named operator' found e =
    let between : ℕ = front_spaces after in
    let k : ℕ = front_spaces behind in
    let n : ℕ = found.after + front_spaces last in
    let form : Form = record {
      before = front_spaces t;
      name = name;
      between = between;
      operator = o;
      behind = k;
      value = found.written;
      after = n;
    } in
    let ends : spaces found.after ++ last ≡ spaces n ++ skip last =
    ap (λ (u : Text). spaces found.after ++ u) (skip-split last)
    ∙ sym (append_assoc (spaces found.after) (spaces (front_spaces last)) (skip last))
    ∙ ap (λ (u : Text). u ++ skip last) (replicate-append-replicate found.after (front_spaces last) 32) in
    let valued : behind ≡ spaces k ++ (value_text found.written ++ (spaces n ++ skip last)) =
    skip-split behind ∙ ap (λ (u : Text). spaces k ++ u) (found.front ∙ ap (λ (u : Text). value_text found.written ++ u) ends) in
    let operated : after ≡ spaces between ++ (operator_text o ++ (spaces k ++ (value_text found.written ++ (spaces n ++ skip last)))) =
    skip-split after ∙ ap (λ (u : Text). spaces between ++ u) (operator'.front ∙ ap (λ (u : Text). operator_text o ++ u) valued) in
    let apart : form_text form ++ skip last
    ≡ spaces form.before ++ (name ++ (spaces between ++ (operator_text o ++ (spaces k ++ (value_text found.written ++ (spaces n ++ skip last)))))) =
    simp append_assoc in
    let whole : t ≡ form_text form ++ skip last =
    skip-split t ∙ ap (λ (u : Text). spaces form.before ++ u) (name' ∙ ap (λ (u : Text). name ++ u) operated) ∙ sym apart in
    let longer : (u : Text) → spaces k ++ value_text found.written ≡ 126 ∷ u → behind ≡ 126 ∷ (u ++ (spaces n ++ skip last)) =
    λ u e'. valued ∙ sym (append_assoc (spaces k) (value_text found.written) (spaces n ++ skip last))
    ∙ ap (λ (x : Text). x ++ (spaces n ++ skip last)) e' in
    let P : MatcherText × Text → Type 0 = λ p. FormFound t p.0 p.1 in
    subst P e (record {
      form = form;
      valid = record {
        named = named;
        valued = found.valid;
        longest = λ equal u e'. operator'.longest equal (u ++ (spaces n ++ skip last)) (longer u e');
      };
      front = whole;
      said = ap (λ (cs : Text). (let x : MatcherText = record { operator = o; name = name; value = encode_utf8_all cs } in x)) found.said;
    })

-- where a matcher was read, a form of it stands there
one-found : (t rest : Text) (m : MatcherText) → one t ≡ Some (m, rest) → FormFound t m rest
one-found t rest m e =
    let r : Text × Text = run is_in_name (skip t) in
    let made : Operator → Text × Text → MatcherText × Text =
    λ o q. (record { operator = o; name = r.0; value = encode_utf8_all q.0 }, skip q.1) in
    let h : Operator → Text × Text → Option (MatcherText × Text) = λ o q. is_label_name r.0 >> Some (made o q) in
    let g : Operator × Text → Option (MatcherText × Text) = λ p. option_and_then (h p.0) (value (skip p.1)) in
    let a = some_then (operator (skip r.1)) g (m, rest) e in
    let b = some_then (value (skip a.0.1)) (h a.0.0) (m, rest) a.2 in
    let c = let_through (is_label_name r.0) (Some (made a.0.0 b.0)) (m, rest) b.2 in
    let last : MatcherText × Text = made a.0.0 b.0 in
    let found : MatcherText × Text = (m, rest) in
    let same : last ≡ found = (let both : Some last ≡ Some found = c.1 in cc) in
    form_made t rest b.0.1 m a.0.0 r.0 r.1 a.0.1 b.0.0 (run-split is_in_name (skip t)) c.0
    (operator-found (skip r.1) a.0.0 a.0.1 a.1) (value-found (skip a.0.1) b.0.0 b.0.1 (skip-front a.0.1) b.1) same

-- the closing brace, where one was opened
abbrev closing : Bool → Text
closing true = 125 ∷ []
closing false = []

-- the end of the text
is_end-is : (braced : Bool) (t : Text) → is_end braced t ≡ true → t ≡ closing braced
is_end-is true [] e = absurd (true≢false (sym e))
is_end-is true (c ∷ []) e =
    elim (eqb_tells c 125) [
      | inl brace ↦ ap (λ (x : ℕ). x ∷ []) brace.1
      | inr other ↦ absurd (true≢false (sym (rw other.0 at e)))
    ]
is_end-is true (c ∷ d ∷ t) e = absurd (true≢false (sym (shut (c == 125) e)))
  where
    shut : (b : Bool) → (b && false) ≡ true → false ≡ true
    shut true e = e
    shut false e = e
is_end-is false [] e = refl
is_end-is false (c ∷ t) e = absurd (true≢false (sym e))

-- no text was left
abbrev no_text : Option Text
no_text = None

-- a comma that was read
after_comma-is : (t more : Text) → after_comma t ≡ Some more → t ≡ 44 ∷ more
after_comma-is [] more e = absurd (let never : no_text ≡ Some more = e in cc)
after_comma-is (c ∷ t) more e =
    elim (eqb_tells 44 c) [
      | inl comma ↦ ap (λ (x : ℕ). x ∷ t) (sym comma.1)
          ∙ ap (λ (u : Text). 44 ∷ u) (let same : Some t ≡ Some more = rw comma.0 at e in cc)
      | inr other ↦ absurd (let never : no_text ≡ Some more = rw other.0 at e in cc)
    ]

-- matchers that were read, as forms of them up to the end
record FormsFound (braced : Bool) (t : Text) (ms : List MatcherText) : Type 0 where
  first : Form
  others : List Form
  valid : All IsForm (first ∷ others)
  front : t ≡ join_by form_text (codes ",") (first ∷ others) ++ closing braced
  said : map matcher_of (first ∷ others) ≡ ms

-- no matchers were read
abbrev no_matchers : Option (List MatcherText)
no_matchers = None

-- the last matcher
last_found : (braced : Bool) (t rest : Text) (m : MatcherText) (ms : List MatcherText) → FormFound t m rest → rest ≡ closing braced →
    (let x : List MatcherText = m ∷ [] in Some x) ≡ Some ms → FormsFound braced t ms
last_found braced t rest m ms found end e = record {
  first = found.form;
  others = [];
  valid = All-cons IsForm found.form [] found.valid (All-nil IsForm);
  front = found.front ∙ ap (λ (u : Text). form_text found.form ++ u) end
      ∙ ap (λ (u : Text). u ++ closing braced) (sym (append-nil (form_text found.form)));
  said = ap (λ (x : MatcherText). (let y : List MatcherText = x ∷ [] in y)) found.said
      ∙ (let x : List MatcherText = m ∷ [] in let both : Some x ≡ Some ms = e in cc);
}

-- a matcher with others behind it
further_found : (braced : Bool) (t rest more : Text) (m : MatcherText) (others ms : List MatcherText) → FormFound t m rest → rest ≡ 44 ∷ more →
    FormsFound braced more others → m ∷ others ≡ ms → FormsFound braced t ms
further_found braced t rest more m others ms found comma found' e =
    let behind : Text = join_by form_text (codes ",") (found'.first ∷ found'.others) in
    let apart : join_by form_text (codes ",") (found.form ∷ found'.first ∷ found'.others) ++ closing braced
    ≡ form_text found.form ++ 44 ∷ (behind ++ closing braced) =
    simp append_assoc in
    record {
      first = found.form;
      others = found'.first ∷ found'.others;
      valid = All-cons IsForm found.form (found'.first ∷ found'.others) found.valid found'.valid;
      front = found.front
          ∙ ap (λ (u : Text). form_text found.form ++ u) (comma ∙ ap (λ (u : Text). 44 ∷ u) found'.front)
          ∙ sym apart;
      said = ap (λ (x : MatcherText). x ∷ map matcher_of (found'.first ∷ found'.others)) found.said
          ∙ ap (λ (x : List MatcherText). m ∷ x) found'.said ∙ e;
    }

-- where matchers were read, forms of them stand there
several-found : (braced : Bool) (n : ℕ) (t : Text) (ms : List MatcherText) → several braced n t ≡ Some ms → FormsFound braced t ms
unfolding several
several-found braced zero t ms e = absurd (let never : no_matchers ≡ Some ms = e in cc)
several-found braced (suc n) t ms e =
    let g : MatcherText → Text → Option (List MatcherText) = λ m more. option_map (λ others. m ∷ others) (several braced n more) in
    let f : MatcherText × Text → Option (List MatcherText) =
    λ p. cond (is_end braced p.1) (Some (p.0 ∷ [])) (option_and_then (g p.0) (after_comma p.1)) in
    let a = some_then (one t) f ms e in
    let found = one-found t a.0.1 a.0.0 a.1 in
    elim (cases_Bool (is_end braced a.0.1)) [
      | inl end ↦ last_found braced t a.0.1 a.0.0 ms found (is_end-is braced a.0.1 end) (rw end at a.2)
      | inr on ↦ (
          let b = some_then (after_comma a.0.1) (g a.0.0) ms (rw on at a.2) in
          let c = some_image (several braced n b.0) (λ others. a.0.0 ∷ others) ms b.2 in
          further_found braced t a.0.1 b.0 a.0.0 c.0 ms found (after_comma-is a.0.1 b.0 b.1)
          (several-found braced n b.0 c.0 c.1) c.2
          )
    ]

-- there is a form
some_form : (f : Form) (fs : List Form) → f ∷ fs ≢ []
some_form f fs e = omega (arith, ap length e)

-- without braces
says_bare : (t : Text) (ms : List MatcherText) → FormsFound false t ms → Says t ms
says_bare t ms found = record {
  braced = false;
  forms = found.first ∷ found.others;
  written = found.front ∙ append-nil (join_by form_text (codes ",") (found.first ∷ found.others));
  some = some_form found.first found.others;
  valid = found.valid;
  said = found.said;
}

-- within braces
says_braced : (c : ℕ) (t : Text) (ms : List MatcherText) → 123 ≡ c → FormsFound true t ms → Says (c ∷ t) ms
says_braced c t ms opened found = record {
  braced = true;
  forms = found.first ∷ found.others;
  written = ap (λ (x : ℕ). x ∷ t) (sym opened) ∙ ap (λ (u : Text). 123 ∷ u) found.front;
  some = some_form found.first found.others;
  valid = found.valid;
  said = found.said;
}

-- what is read of a text is what it says
pub read_says : (text : List ℕ) (ms : List MatcherText) → matchers_of text ≡ Some ms → Says text ms
read_says [] ms e = says_bare [] ms (several-found false 0 [] ms e)
read_says (c ∷ t) ms e =
    elim (eqb_tells 123 c) [
      | inl opened ↦ says_braced c t ms opened.1 (several-found true (length (c ∷ t)) t ms (rw opened.0 at e))
      | inr other ↦ says_bare (c ∷ t) ms (several-found false (length (c ∷ t)) (c ∷ t) ms (rw other.0 at e))
    ]
