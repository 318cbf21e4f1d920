-- What is spelled is read again, whatever follows: numbers, texts, and things one after another.
use Rattle.std.proofs.Common.{◌≡◌, ℕ, suc, ◌+◌, ◌<◌, ◌≤◌, ◌^◌, Bool, true, false, List, [], ◌∷◌, ◌++◌, length, Option, Some, Ok, refl, sym, ap, ◌∙◌, append_assoc, append-nil, length-append, arith, nat_le, IsTrue, IsUtf8}
use Rattle.std.specs.List.{flat_map}
use Rattle.std.proofs.lemmas.Bool.{le-leb}
use Rattle.std.proofs.lemmas.List.{drop_at, take_at}
use Rattle.std.proofs.lemmas.Str.{is_utf8-from_IsUtf8}
use Rattle.byteorder.specs.Endian.{big_number}
use Rattle.byteorder.specs.Numbers.{big_number-reads_back}
use Rattle.am_text.specs.Moment.{greatest_moment}
use Rattle.am_ring.specs.Instances.{is_instance}
use Rattle.am_wire.specs.Fields.{Chain, Reading, bytes_at, flag_at, flag_bytes, instance_at, moment_at, number_at, number_bytes, several, text_at, text_bytes}
use Rattle.am_wire.proofs.Framed.{length-framed, length-number_bytes}

pub bytes_again : (n : ℕ) (field rest : List ℕ) → length field ≡ n → bytes_at n (field ++ rest) ≡ Ok (field, rest)
unfolding bytes_at
bytes_again n field rest long =
    let within : nat_le n (length (field ++ rest)) ≡ true = le-leb n (length (field ++ rest)) (omega (arith, long, length-append field rest)) in
    rw (within, take_at field rest n long, drop_at field rest n long) refl

number_back : (n x : ℕ) → x < 256 ^ n → big_number n (number_bytes n x) ≡ x
unfolding number_bytes
number_back n x lt = sym (ap (big_number n) (append-nil (number_bytes n x))) ∙ big_number-reads_back n x [] lt

pub number_again : (n x : ℕ) (rest : List ℕ) → x < 256 ^ n → number_at n (number_bytes n x ++ rest) ≡ Ok (x, rest)
unfolding number_at
number_again n x rest lt =
    rw (bytes_again n (number_bytes n x) rest (length-number_bytes n x), number_back n x lt) refl

pub flag_again : (flag : Bool) (rest : List ℕ) → flag_at (flag_bytes flag ++ rest) ≡ Ok (flag, rest)
unfolding flag_at
flag_again true rest = refl
flag_again false rest = refl

pub instance_again : (instance : ℕ) (rest : List ℕ) → IsTrue (is_instance instance) → instance_at (instance ∷ rest) ≡ Ok (instance, rest)
unfolding instance_at
instance_again instance rest is = rw is refl

pub moment_again : (moment : ℕ) (rest : List ℕ) → moment ≤ greatest_moment → moment_at (number_bytes 8 moment ++ rest) ≡ Ok (moment, rest)
unfolding moment_at
moment_again moment rest le =
    let within : nat_le moment greatest_moment ≡ true = le-leb moment greatest_moment le in
    rw (number_again 8 moment rest (omega arith), within) refl

-- a text behind its length is 4 bytes longer
pub length-text_bytes : (text : List ℕ) → length (text_bytes text) ≡ 4 + length text
unfolding text_bytes
length-text_bytes text = length-framed (length text) text

pub text_again : (text rest : List ℕ) → IsUtf8 text → length (text_bytes text) < 2 ^ 32 → text_at (text_bytes text ++ rest) ≡ Ok (text, rest)
unfolding text_at text_bytes
text_again text rest utf8 short =
    let lt : length text < 2 ^ 32 = omega (arith, short, length-framed (length text) text) in
    ap text_at (append_assoc (number_bytes 4 (length text)) text rest)
    ∙ rw (number_again 4 (length text) (text ++ rest) lt, bytes_again (length text) text rest refl, is_utf8-from_IsUtf8 text utf8) refl

module _ {A : Type 0} (one : Option A → List ℕ → Reading A) (bytes_of : A → List ℕ) (P : Option A → A → Type 0)
    (again : (before : Option A) (x : A) (rest : List ℕ) → P before x → length (bytes_of x) < 2 ^ 32 → one before (bytes_of x ++ rest) ≡ Ok (x, rest)) where
  several_step : (n : ℕ) (before : Option A) (bytes behind rest : List ℕ) (x : A) (xs : List A) → one before bytes ≡ Ok (x, behind) →
      several one n (Some x) behind ≡ Ok (xs, rest) → several one (suc n) before bytes ≡ Ok (x ∷ xs, rest)
  unfolding several
  several_step n before bytes behind rest x xs first others = rw (first, others) refl

  pub several_again : (before : Option A) (xs : List A) (rest : List ℕ) → Chain P before xs → length (flat_map bytes_of xs) < 2 ^ 32 →
      several one (length xs) before (flat_map bytes_of xs ++ rest) ≡ Ok (xs, rest)
  unfolding several
  several_again before [] rest chain short = refl
  several_again before (x ∷ xs) rest chain short =
      let sum = length-append (bytes_of x) (flat_map bytes_of xs) in
      several_step (length xs) before (flat_map bytes_of (x ∷ xs) ++ rest) (flat_map bytes_of xs ++ rest) rest x xs
      (ap (one before) (append_assoc (bytes_of x) (flat_map bytes_of xs) rest)
      ∙ again before x (flat_map bytes_of xs ++ rest) chain.0 (omega (arith, short, sum)))
      (several_again (Some x) xs rest chain.1 (omega (arith, short, sum)))

-- where each takes a byte, there are no more things than bytes
pub length-several : {A : Type 0} (bytes_of : A → List ℕ) → ((x : A) → 1 ≤ length (bytes_of x)) → (xs : List A) → length xs ≤ length (flat_map bytes_of xs)
length-several bytes_of some [] = omega arith
length-several bytes_of some (x ∷ xs) =
    omega (arith, some x, length-several bytes_of some xs, length-append (bytes_of x) (flat_map bytes_of xs))

-- a part of what is short is short
pub short_front : (xs ys : List ℕ) → length (xs ++ ys) < 2 ^ 32 → length xs < 2 ^ 32
short_front xs ys short = omega (arith, short, length-append xs ys)

pub short_back : (xs ys : List ℕ) → length (xs ++ ys) < 2 ^ 32 → length ys < 2 ^ 32
short_back xs ys short = omega (arith, short, length-append xs ys)
