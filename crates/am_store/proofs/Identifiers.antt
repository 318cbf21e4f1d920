-- Identifiers are in the order of their texts.
use Rattle.std.proofs.Common.{◌≡◌, ℕ, ◌+◌, ◌*◌, ◌<◌, Bool, true, false, List, Some, None, if◌then◌else◌, arith, refl, sym, ap, ap₂, ◌∙◌}
use Rattle.std.specs.Cmp.{nat_cmp_is}
use Rattle.std.specs.Cmp.Lexicographic.{slice_cmp}
use Rattle.std.specs.Ordering.{nat_cmp, ordering_then}
use Rattle.std.specs.declared.cmp.Ordering.{Ordering}
use Rattle.std.specs.declared.cmp.Ordering.TheVariants.{Less, Equal, Greater}
use Rattle.std.specs.List.{list_all}
use Rattle.std.proofs.lemmas.Bool.Decides.{nat_tests}
use Rattle.std.proofs.lemmas.Cmp.{by_ranked, ranked}
use Rattle.uuid.specs.Text.{by_index, byte_of_digits, digit_place, digits_of, hex_digit, hyphen, is_hex_digit, is_hyphen_place, lower, nibble, parsed, value_of}
use Rattle.uuid.proofs.TextLemmas.{nibble_small}
use Rattle.am_store.specs.Rows.{id_text}

abbrev digit : ℕ → ℕ
digit n = hex_digit lower n

digit_up : (m n : ℕ) → m < n → n < 16 → digit m < digit n
digit_up m n below small = grind (arith, nat_tests)

digit_back : (n : ℕ) → n < 16 → value_of (digit n) ≡ n
digit_back n small = grind (arith, nat_tests)

digit_cmp : (m n : ℕ) → m < 16 → n < 16 → nat_cmp (digit m) (digit n) ≡ nat_cmp m n
digit_cmp m n one two =
    by_ranked (m < n) (m ≡ n) (n < m) (nat_cmp m n) (ranked m n (nat_cmp m n) refl)
    (λ less below. sym (nat_cmp_is (digit m) (digit n) Less (digit_up m n below two)) ∙ sym less)
    (λ tied same. sym (nat_cmp_is (digit m) (digit n) Equal (ap digit same)) ∙ sym tied)
    (λ more above. sym (nat_cmp_is (digit m) (digit n) Greater (digit_up n m above one)) ∙ sym more)

-- by the higher digit, then by the lower one
byte_cmp : (h k l m : ℕ) → l < 16 → m < 16 → ordering_then (nat_cmp h k) (nat_cmp l m) ≡ nat_cmp (h * 16 + l) (k * 16 + m)
byte_cmp h k l m one two =
    by_ranked (h < k) (h ≡ k) (k < h) (nat_cmp h k) (ranked h k (nat_cmp h k) refl)
    (λ less below. ap (λ o. ordering_then o (nat_cmp l m)) less ∙ nat_cmp_is (h * 16 + l) (k * 16 + m) Less (omega (arith, below, one)))
    (λ tied same. ap (λ o. ordering_then o (nat_cmp l m)) tied ∙ lower_cmp same)
    (λ more above. ap (λ o. ordering_then o (nat_cmp l m)) more ∙ nat_cmp_is (h * 16 + l) (k * 16 + m) Greater (omega (arith, above, two)))
  where
    lower_cmp : h ≡ k → nat_cmp l m ≡ nat_cmp (h * 16 + l) (k * 16 + m)
    lower_cmp same =
        by_ranked (l < m) (l ≡ m) (m < l) (nat_cmp l m) (ranked l m (nat_cmp l m) refl)
        (λ less below. less ∙ nat_cmp_is (h * 16 + l) (k * 16 + m) Less (omega (arith, same, below)))
        (λ tied eq. tied ∙ nat_cmp_is (h * 16 + l) (k * 16 + m) Equal (omega (arith, same, eq)))
        (λ more above. more ∙ nat_cmp_is (h * 16 + l) (k * 16 + m) Greater (omega (arith, same, above)))

then_both : (a b c : Ordering) → ordering_then a (ordering_then b c) ≡ ordering_then (ordering_then a b) c
then_both Less b c = refl
then_both Equal b c = refl
then_both Greater b c = refl

-- two digits stand for a byte
step : (h k l m : ℕ) → h < 16 → k < 16 → l < 16 → m < 16 → (rest other : Ordering) → rest ≡ other
    → ordering_then (nat_cmp (digit h) (digit k)) (ordering_then (nat_cmp (digit l) (digit m)) rest)
    ≡ ordering_then (nat_cmp (value_of (digit h) * 16 + value_of (digit l)) (value_of (digit k) * 16 + value_of (digit m))) other
step h k l m one two three four rest other same =
    ap₂ (λ a b. ordering_then a (ordering_then b rest)) (digit_cmp h k one two) (digit_cmp l m three four)
    ∙ then_both (nat_cmp h k) (nat_cmp l m) rest
    ∙ ap₂ ordering_then (byte_cmp h k l m three four) same
    ∙ ap₂ (λ a b. ordering_then (nat_cmp a b) other) (sym (ap₂ (λ a b. a * 16 + b) (digit_back h one) (digit_back l three))) (sym (ap₂ (λ a b. a * 16 + b) (digit_back k two) (digit_back m four)))

abbrev text : (ℕ → ℕ) → List ℕ
text d = by_index 36 (λ k. if is_hyphen_place k then hyphen else digit (d (digit_place k)))

abbrev bytes_of : (ℕ → ℕ) → List ℕ
bytes_of d = by_index 16 (λ j. value_of (digit (d (2 * j))) * 16 + value_of (digit (d (2 * j + 1))))

module _ (d e : ℕ → ℕ) (one : (k : ℕ) → d k < 16) (two : (k : ℕ) → e k < 16) where
  pair : (i j : ℕ) (rest other : Ordering) → rest ≡ other
      → ordering_then (nat_cmp (digit (d i)) (digit (e i))) (ordering_then (nat_cmp (digit (d j)) (digit (e j))) rest)
      ≡ ordering_then (nat_cmp (value_of (digit (d i)) * 16 + value_of (digit (d j))) (value_of (digit (e i)) * 16 + value_of (digit (e j)))) other
  pair i j = step (d i) (e i) (d j) (e j) (one i) (two i) (one j) (two j)

  texts_cmp : slice_cmp nat_cmp (text d) (text e) ≡ slice_cmp nat_cmp (bytes_of d) (bytes_of e)
  unfolding by_index
  texts_cmp =
      pair 0 1 _ _ (pair 2 3 _ _ (pair 4 5 _ _ (pair 6 7 _ _ (pair 8 9 _ _ (pair 10 11 _ _ (pair 12 13 _ _ (pair 14 15 _ _
      (pair 16 17 _ _ (pair 18 19 _ _ (pair 20 21 _ _ (pair 22 23 _ _ (pair 24 25 _ _ (pair 26 27 _ _ (pair 28 29 _ _ (pair 30 31 _ _ refl)))))))))))))))

some_back : {X : Type 0} (b : Bool) (x a : X) → (if b then Some x else None) ≡ Some a → a ≡ x
some_back true x a e = cc
some_back false x a e = absurd (let clash = e in cc)

-- an identifier that is read back from its text has the bytes that its digits stand for
back_is : (a : List ℕ) → parsed (id_text a) ≡ Some a → a ≡ bytes_of (nibble a)
unfolding by_index
back_is a back = some_back (list_all is_hex_digit (digits_of (id_text a))) (by_index 16 (byte_of_digits (digits_of (id_text a)))) a back

pub ids_cmp : (a b : List ℕ) → parsed (id_text a) ≡ Some a → parsed (id_text b) ≡ Some b → slice_cmp nat_cmp (id_text a) (id_text b) ≡ slice_cmp nat_cmp a b
ids_cmp a b one two =
    texts_cmp (nibble a) (nibble b) (nibble_small a) (nibble_small b) ∙ ap₂ (slice_cmp nat_cmp) (sym (back_is a one)) (sym (back_is b two))
