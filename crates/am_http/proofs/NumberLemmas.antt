-- Decimal digits without zeros in front tell the number that they write.
use Rattle.std.proofs.Common.{◌≡◌, ◌≢◌, ℕ, ◌+◌, ◌*◌, ◌-◌, ◌<◌, ◌≤◌, ◌⊎◌, inl, inr, Bool, true, false, ◌&&◌, zero, suc, List, [], ◌∷◌, length, get_or, take, min, refl, sym, ap, ◌∙◌, arith, ◌==◌}
use Rattle.std.specs.Bool.{Decides}
use Rattle.std.specs.Char.{is_ascii_digit, digit_value}
use Rattle.std.specs.List.{list_all}
use Rattle.std.specs.Str.{bytes_eq}
use Rattle.std.specs.Str.Parse.{AllDigits, digits_value, digits_value_after}
use Rattle.std.proofs.lemmas.Str.{digit_value_digit}
use Rattle.std.proofs.lemmas.Str.Parse.{digit_from_value}
use Rattle.std.proofs.lemmas.Int.Digits.{digits_value_more}
use Rattle.std.proofs.lemmas.Bool.Decides.{nat_tests, same_from_decides, Decides-eqb}
use Rattle.std.proofs.lemmas.Slice.Eq.{bytes_eq-Decides}
use Rattle.am_http.specs.Values.{without_zeros}

digit_below : (c : ℕ) → is_ascii_digit c ≡ true → digit_value c < 10
digit_below c h = grind (arith, nat_tests)

digit_is : (c : ℕ) → is_ascii_digit c ≡ true → digit_value c ≡ c - 48
digit_is c h = grind (arith, nat_tests)

both : (a b : Bool) → (a && b) ≡ true → (a ≡ true) × (b ≡ true)
both a b h = grind arith

pub digits : (ds : List ℕ) → list_all is_ascii_digit ds ≡ true → AllDigits 10 ds
digits [] h = tt
digits (c ∷ cs) h = let p = both (is_ascii_digit c) (list_all is_ascii_digit cs) h in (digit_below c p.0, digits cs p.1)

digit_at : (ds : List ℕ) (i : ℕ) → list_all is_ascii_digit ds ≡ true → i < length ds → is_ascii_digit (get_or ds i 0) ≡ true
digit_at [] i h l = absurd (omega arith)
digit_at (c ∷ cs) zero h l = (both (is_ascii_digit c) (list_all is_ascii_digit cs) h).0
digit_at (c ∷ cs) (suc i) h l = digit_at cs i (both (is_ascii_digit c) (list_all is_ascii_digit cs) h).1 (omega arith)

-- one digit more, under a bound
pub number-more : (ds : List ℕ) (i most : ℕ) → list_all is_ascii_digit ds ≡ true → i < length ds
    → min (min (digits_value 10 (take i ds)) most * 10 + (get_or ds i 0 - 48)) most ≡ min (digits_value 10 (take (i + 1) ds)) most
number-more ds i most h l =
    let more = digits_value_more 10 ds i l in
    let digit = digit_is (get_or ds i 0) (digit_at ds i h l) in
    rw (more, digit) (omega arith)

-- ---- numbers of the same length

same_digit : (c d : ℕ) → digit_value c < 10 → digit_value d < 10 → digit_value c ≡ digit_value d → c ≡ d
same_digit c d x y e =
    let p = digit_value_digit c (digit_from_value c x) in
    let q = digit_value_digit d (digit_from_value d y) in
    omega arith

same_length : (m n : ℕ) (a b : List ℕ) → AllDigits 10 a → AllDigits 10 b → length a ≡ length b
    → digits_value_after 10 m a ≡ digits_value_after 10 n b → (m ≡ n) × (a ≡ b)
same_length m n [] [] x y l e = (e, refl)
same_length m n [] (d ∷ b) x y l e = absurd (omega arith)
same_length m n (c ∷ a) [] x y l e = absurd (omega arith)
same_length m n (c ∷ a) (d ∷ b) x y l e =
    let rest = same_length (m * 10 + digit_value c) (n * 10 + digit_value d) a b x.1 y.1 (omega arith) e in
    let front = rest.0 in
    let low = x.0 in
    let high = y.0 in
    let digit : digit_value c ≡ digit_value d = omega arith in
    let byte = same_digit c d x.0 y.0 digit in
    let tail = rest.1 in
    (omega arith, cc)

-- ---- numbers of different lengths

less : (m n : ℕ) (a b : List ℕ) → AllDigits 10 a → m < n → length a ≡ length b
    → digits_value_after 10 m a < digits_value_after 10 n b
less m n [] [] x h l = h
less m n [] (d ∷ b) x h l = absurd (omega arith)
less m n (c ∷ a) [] x h l = absurd (omega arith)
less m n (c ∷ a) (d ∷ b) x h l =
    let digit = x.0 in
    less (m * 10 + digit_value c) (n * 10 + digit_value d) a b x.1 (omega arith) (omega arith)

split_le : (a b : ℕ) → a ≤ suc b → (a ≡ suc b) ⊎ (a ≤ b)
split_le a b h = grind arith

longer : (n : ℕ) (a b : List ℕ) → AllDigits 10 a → 0 < n → length a ≤ length b
    → digits_value_after 10 0 a < digits_value_after 10 n b
longer n [] [] x h l = h
longer n (c ∷ a) [] x h l = absurd (omega arith)
longer n a (d ∷ b) x h l =
    elim (split_le (length a) (length b) l) [
      | inl same ↦ less 0 n a (d ∷ b) x h same
      | inr short ↦ longer (n * 10 + digit_value d) a b x (omega arith) short
    ]

-- no zero stands in front
abbrev Leads : List ℕ → Type 0
Leads [] = Unit {0}
Leads (d ∷ ds) = d ≢ 48

zero_digit : (d : ℕ) → (d ≡ 48) ⊎ (((d == 48) ≡ false) × (d ≢ 48))
zero_digit d = grind (arith, nat_tests)

leads : (ds : List ℕ) → Leads (without_zeros ds)
leads [] = tt
leads (d ∷ ds) = elim (zero_digit d) [ inl e ↦ rw e (leads ds) | inr p ↦ rw p.0 p.1 ]

value_kept : (ds : List ℕ) → digits_value 10 (without_zeros ds) ≡ digits_value 10 ds
value_kept [] = refl
value_kept (d ∷ ds) = elim (zero_digit d) [ inl e ↦ rw e (value_kept ds) | inr p ↦ rw p.0 refl ]

digits_kept : (ds : List ℕ) → AllDigits 10 ds → AllDigits 10 (without_zeros ds)
digits_kept [] h = tt
digits_kept (d ∷ ds) h = elim (zero_digit d) [ inl e ↦ rw e (digits_kept ds h.1) | inr p ↦ rw p.0 h ]

shorter : (a b : List ℕ) → AllDigits 10 a → AllDigits 10 b → Leads b → length a < length b → digits_value 10 a < digits_value 10 b
shorter a [] x y f l = absurd (omega arith)
shorter a (d ∷ b) x y f l =
    let range = digit_value_digit d (digit_from_value d y.0) in
    longer (0 * 10 + digit_value d) a b x (omega arith) (omega arith)

three : (m n : ℕ) → (m < n) ⊎ ((m ≡ n) ⊎ (n < m))
three m n = grind arith

same_value : (a b : List ℕ) → AllDigits 10 a → AllDigits 10 b → Leads a → Leads b → digits_value 10 a ≡ digits_value 10 b → a ≡ b
same_value a b x y f g e =
    elim (three (length a) (length b)) [
      | inl l ↦ let less = shorter a b x y g l in absurd (omega arith)
      | inr p ↦ elim p [
        | inl l ↦ (same_length 0 0 a b x y l e).1
        | inr l ↦ let more = shorter b a y x f l in absurd (omega arith)
      ]
    ]

-- two numbers are the same where their digits are, without the zeros in front
pub same_numbers : (a b : List ℕ) → list_all is_ascii_digit a ≡ true → list_all is_ascii_digit b ≡ true
    → bytes_eq (without_zeros a) (without_zeros b) ≡ (digits_value 10 a == digits_value 10 b)
same_numbers a b x y =
    let p = without_zeros a in
    let q = without_zeros b in
    let test : Decides (digits_value 10 a == digits_value 10 b) (p ≡ q) = (
      λ t. same_value p q (digits_kept a (digits a x)) (digits_kept b (digits b y)) (leads a) (leads b)
          (value_kept a ∙ (Decides-eqb (digits_value 10 a) (digits_value 10 b)).0 t ∙ sym (value_kept b)),
      λ e. (Decides-eqb (digits_value 10 a) (digits_value 10 b)).1 (sym (value_kept a) ∙ ap (digits_value 10) e ∙ value_kept b),
    ) in
    same_from_decides (bytes_eq p q) (digits_value 10 a == digits_value 10 b) (bytes_eq-Decides p q) test
