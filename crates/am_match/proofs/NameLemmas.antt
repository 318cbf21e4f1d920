-- What a label name's characters are.
use Rattle.std.proofs.Common.{◌≡◌, ℕ, zero, suc, ◌<◌, [], ◌∷◌, ◌++◌, Bool, true, false, ◌||◌, ◌==◌, refl, sym, ap, ◌∙◌, inl, inr, arith, true≢false}
use Rattle.std.specs.Char.{is_ascii_alphabetic}
use Rattle.std.specs.Int.{is_in_range}
use Rattle.std.specs.List.{list_all}
use Rattle.std.specs.Str.{IsAscii}
use Rattle.std.proofs.lemmas.Bool.{and_parts, and_from}
use Rattle.std.proofs.lemmas.Bool.Decides.{eqb_tells, nat_tests}
use Rattle.am_labels.specs.Labels.{is_label_name}
use Rattle.am_match.specs.Reading.{Text, run, skip, begins, is_in_name}

-- a letter or _ is a letter, a digit or _
widened : (digit upper lower line : Bool) → ((upper || lower) || line) ≡ true → (((digit || upper) || lower) || line) ≡ true
widened true upper lower line e = refl
widened false upper lower line e = e

-- each character of a label name may stand in one
pub all_in_name : (n : Text) → is_label_name n ≡ true → list_all is_in_name n ≡ true
unfolding is_label_name
all_in_name [] e = absurd (true≢false (sym e))
all_in_name (c ∷ t) e =
    let parts = and_parts (is_ascii_alphabetic c || c == 95) (list_all is_in_name t) e in
    and_from (is_in_name c) (list_all is_in_name t)
    (widened (is_in_range 48 57 c) (is_in_range 65 90 c) (is_in_range 97 122 c) (c == 95) parts.0) parts.1

-- and is ASCII
in_name_ascii : (c : ℕ) → is_in_name c ≡ true → c < 128
in_name_ascii c e = grind (arith, nat_tests)

-- so a label name is ASCII
pub IsAscii-all_in_name : (n : Text) → list_all is_in_name n ≡ true → IsAscii n
IsAscii-all_in_name [] e i = omega arith
IsAscii-all_in_name (c ∷ t) e zero = in_name_ascii c (and_parts (is_in_name c) (list_all is_in_name t) e).0
IsAscii-all_in_name (c ∷ t) e (suc i) = IsAscii-all_in_name t (and_parts (is_in_name c) (list_all is_in_name t) e).1 i

-- and is none that may not stand there
apart : (c d : ℕ) → is_in_name c ≡ true → is_in_name d ≡ false → (c == d) ≡ false
apart c d named foreign =
    elim (eqb_tells c d) [
      | inl same ↦ absurd (true≢false (sym named ∙ ap is_in_name same.1 ∙ foreign))
      | inr other ↦ other.0
    ]

-- the same the other way round
apart_from : (d c : ℕ) → is_in_name c ≡ true → is_in_name d ≡ false → (d == c) ≡ false
apart_from d c named foreign =
    elim (eqb_tells d c) [
      | inl same ↦ absurd (true≢false (sym named ∙ ap is_in_name (sym same.1) ∙ foreign))
      | inr other ↦ other.0
    ]

-- a label name has a character
never_empty : is_label_name [] ≡ true → ⊥
unfolding is_label_name
never_empty e = true≢false (sym e)

-- no space stands in front of a label name
pub skip-name : (n t : Text) → is_label_name n ≡ true → skip (n ++ t) ≡ n ++ t
skip-name [] t e = absurd (never_empty e)
skip-name (c ∷ n) t e =
    let first = (and_parts (is_in_name c) (list_all is_in_name n) (all_in_name (c ∷ n) e)).0 in
    rw (apart c 32 first refl)

-- nor a brace
pub begins-name : (n t : Text) → is_label_name n ≡ true → begins "{" (n ++ t) ≡ false
begins-name [] t e = absurd (never_empty e)
begins-name (c ∷ n) t e =
    let first = (and_parts (is_in_name c) (list_all is_in_name n) (all_in_name (c ∷ n) e)).0 in
    rw (apart_from 123 c first refl)

-- the run of a name ends where no more of it follows
pub run-name : (n t : Text) → list_all is_in_name n ≡ true → run is_in_name t ≡ ([], t) → run is_in_name (n ++ t) ≡ (n, t)
run-name [] t e stops = stops
run-name (c ∷ n) t e stops =
    let parts = and_parts (is_in_name c) (list_all is_in_name n) e in
    rw (parts.0, run-name n t parts.1 stops)
