-- That taking inverts writing.
use Rattle.std.proofs.Common.{◌≡◌, ℕ, zero, suc, ◌+◌, ◌-◌, ◌^◌, ◌<◌, ◌≤◌, List, [], ◌∷◌, ◌++◌, All, Bool, true, false, cond, nat_le, Ok, Err, length, take, drop, get_or, refl, sym, ap, ◌∙◌, subst, inl, inr, ⊎_elim, arith, append_assoc, length-append, IsUtf8}
use Rattle.std.specs.Int.{bytes_high_first, from_be_bytes, w16, w32}
use Rattle.std.specs.List.{flat_map}
use Rattle.std.specs.Str.{is_utf8}
use Rattle.std.proofs.lemmas.Bool.{cases_lt}
use Rattle.std.proofs.lemmas.Bool.Decides.{leb_tells, eqb_tells}
use Rattle.std.proofs.lemmas.List.{take-append-drop, get_or-drop, get_or-take, get_or_past, length-take, length-take-le}
use Rattle.std.proofs.lemmas.List.Elements.{All-head, All-tail, All-cons, All-nil}
use Rattle.std.proofs.lemmas.Nat.{be_bytes_2, be_bytes_4}
use Rattle.std.proofs.lemmas.Str.{is_utf8-from_IsUtf8, IsUtf8-from_is_utf8, IsUtf8-from_ascii}
use Rattle.std.proofs.Math.Seq.{take-append_seam}
use Rattle.byteorder.specs.Endian.{big_from}
use Rattle.byteorder.specs.Numbers.{big_from-take, big_from-lt, big_number-reads_back, length-bytes_high_first}
use Rattle.am_labels.specs.Labels.{is_label_name}
use Rattle.am_text.specs.Outcome.{◌>>=◌, Fails}
use Rattle.am_text.specs.declared.failure.Failure.{Failure}
use Rattle.am_text.specs.declared.failure.Failure.TheVariants.{Refused, OutOfMemory}
use Rattle.am_match.specs.declared.matcher.Operator.{Operator}
use Rattle.am_match.specs.declared.matcher.Operator.TheVariants.{Equal, NotEqual, Match, NotMatch}
use Rattle.am_match.specs.declared.refusal.TakeRefusal.{TakeRefusal}
use Rattle.am_match.specs.declared.refusal.TakeRefusal.TheVariants.{Short, Bad}
use Rattle.am_match.specs.Matchers.{MatcherText, IsMatcher}
use Rattle.am_match.specs.Spelling.{operator_number, text_bytes, matcher_bytes, spelling, IsShort, Spells}
use Rattle.am_match.specs.Taking.{Taken, take_bytes, take_number, take_operator, take_text, take_name, take_matcher, take_several, taken}
use Rattle.am_match.proofs.NameLemmas.{all_in_name, IsAscii-all_in_name}

-- ---- what was written is taken again

-- what follows a front
drop-front : (xs ys : List ℕ) → drop (length xs) (xs ++ ys) ≡ ys
drop-front [] ys = refl
drop-front (x ∷ xs) ys = drop-front xs ys

-- a front is not longer than the whole
fits : (n : ℕ) (xs ys : List ℕ) → length xs ≡ n → nat_le n (length (xs ++ ys)) ≡ true
fits n xs ys e =
    ⊎_elim (λ h. h.0) (λ h. absurd (omega (arith, h.1, e, length-append xs ys))) (leb_tells n (length (xs ++ ys)))

-- a number
number_back : (n x : ℕ) (rest : List ℕ) → x < 256 ^ n → take_number n (bytes_high_first n x ++ rest) ≡ Ok (x, rest)
number_back n x rest small =
    let long = length-bytes_high_first n x in
    let behind : drop n (bytes_high_first n x ++ rest) ≡ rest =
    ap (λ k. drop k (bytes_high_first n x ++ rest)) (sym long) ∙ drop-front (bytes_high_first n x) rest in
    rw (fits n (bytes_high_first n x) rest long, big_number-reads_back n x rest small, behind)

-- bytes
bytes_back : (text rest : List ℕ) → take_bytes (length text) (text ++ rest) ≡ Ok (text, rest)
bytes_back text rest = rw (fits (length text) text rest refl, take-append_seam text rest, drop-front text rest)

-- a text from its length and its bytes
text_step : (bytes behind rest text : List ℕ) (n : ℕ) → take_number 4 bytes ≡ Ok (n, behind) → take_bytes n behind ≡ Ok (text, rest) →
    is_utf8 text ≡ true → take_text bytes ≡ Ok (text, rest)
text_step bytes behind rest text n number body utf8 = rw (number, body, utf8)

-- a text
text_back : (text rest : List ℕ) → IsUtf8 text → length text < 2 ^ 32 → take_text (text_bytes text ++ rest) ≡ Ok (text, rest)
text_back text rest utf8 short =
    text_step (text_bytes text ++ rest) (text ++ rest) rest text (length text) (number_back 4 (length text) (text ++ rest) short)
    (bytes_back text rest) (is_utf8-from_IsUtf8 text utf8)

-- a name
name_back : (name rest : List ℕ) → is_label_name name ≡ true → length name < 2 ^ 32 → take_name (text_bytes name ++ rest) ≡ Ok (name, rest)
name_back name rest named short =
    named_step (text_bytes name ++ rest)
    (text_back name rest (IsUtf8-from_ascii name (IsAscii-all_in_name name (all_in_name name named))) short)
  where
    named_step : (bytes : List ℕ) → take_text bytes ≡ Ok (name, rest) → take_name bytes ≡ Ok (name, rest)
    named_step bytes text = rw (text, named)

-- an operator
operator_back : (o : Operator) (rest : List ℕ) → take_operator (operator_number o ∷ rest) ≡ Ok (o, rest)
operator_back Equal rest = refl
operator_back NotEqual rest = refl
operator_back Match rest = refl
operator_back NotMatch rest = refl

-- a matcher from its parts
matcher_step : (bytes after behind rest : List ℕ) (m : MatcherText) → take_operator bytes ≡ Ok (m.operator, after) →
    take_name after ≡ Ok (m.name, behind) → take_text behind ≡ Ok (m.value, rest) → take_matcher bytes ≡ Ok (m, rest)
matcher_step bytes after behind rest m operator name value = rw (operator, name, value)

-- a matcher
matcher_back : (m : MatcherText) (rest : List ℕ) → IsMatcher m → IsShort m → take_matcher (matcher_bytes m ++ rest) ≡ Ok (m, rest)
matcher_back m rest valid short =
    let apart : (text_bytes m.name ++ text_bytes m.value) ++ rest ≡ text_bytes m.name ++ (text_bytes m.value ++ rest) =
    append_assoc (text_bytes m.name) (text_bytes m.value) rest in
    matcher_step (matcher_bytes m ++ rest) ((text_bytes m.name ++ text_bytes m.value) ++ rest) (text_bytes m.value ++ rest) rest m
    (operator_back m.operator ((text_bytes m.name ++ text_bytes m.value) ++ rest))
    (ap take_name apart ∙ name_back m.name (text_bytes m.value ++ rest) valid.named short.name)
    (text_back m.value rest valid.text short.value)

-- matchers from the first and the others
several_step : (n : ℕ) (bytes behind rest : List ℕ) (m : MatcherText) (ms : List MatcherText) → take_matcher bytes ≡ Ok (m, behind) →
    take_several n behind ≡ Ok (ms, rest) → take_several (suc n) bytes ≡ Ok (m ∷ ms, rest)
unfolding take_several
several_step n bytes behind rest m ms one others = rw (one, others)

-- matchers
several_back : (ms : List MatcherText) (rest : List ℕ) → All IsMatcher ms → All IsShort ms →
    take_several (length ms) (flat_map matcher_bytes ms ++ rest) ≡ Ok (ms, rest)
unfolding take_several
several_back [] rest valid short = refl
several_back (m ∷ ms) rest valid short =
    let others : List ℕ = flat_map matcher_bytes ms ++ rest in
    several_step (length ms) (flat_map matcher_bytes (m ∷ ms) ++ rest) others rest m ms
    (ap take_matcher (append_assoc (matcher_bytes m) (flat_map matcher_bytes ms) rest)
    ∙ matcher_back m others (All-head IsMatcher m ms valid) (All-head IsShort m ms short))
    (several_back ms rest (All-tail IsMatcher m ms valid) (All-tail IsShort m ms short))

-- matchers from their number
taken_step : (bytes behind rest : List ℕ) (n : ℕ) (ms : List MatcherText) → take_number 2 bytes ≡ Ok (n, behind) →
    take_several n behind ≡ Ok (ms, rest) → taken bytes ≡ Ok (ms, rest)
taken_step bytes behind rest n ms number others = rw (number, others)

-- matchers behind their number
pub taken_back : (ms : List MatcherText) (written rest : List ℕ) → Spells written ms → taken (written ++ rest) ≡ Ok (ms, rest)
taken_back ms written rest spells =
    let others : List ℕ = flat_map matcher_bytes ms ++ rest in
    ap (λ w. taken (w ++ rest)) spells.bytes_are
    ∙ taken_step (spelling ms ++ rest) others rest (length ms) ms (number_back 2 (length ms) others spells.spellable.few)
    (several_back ms rest spells.valid spells.spellable.short)

-- ---- what was taken is what stood there

-- each number is a byte
abbrev AreBytes : List ℕ → Type 0
AreBytes bytes = (k : ℕ) → get_or bytes k 0 < 256

-- so is each of a part
AreBytes-drop : (n : ℕ) (bytes : List ℕ) → AreBytes bytes → AreBytes (drop n bytes)
AreBytes-drop n bytes are k = rw get_or-drop (are (n + k))

-- and of the front
AreBytes-take : (n : ℕ) (bytes : List ℕ) → AreBytes bytes → AreBytes (take n bytes)
AreBytes-take n bytes are k =
    elim (cases_lt k n) [
      | inl inside ↦ rw (get_or-take n bytes k 0 inside) (are k)
      | inr past ↦ rw (get_or_past (take n bytes) k 0 (omega (arith, past, length-take n bytes))) (omega arith)
    ]

-- the bytes of the number that they spell
number_2 : (bytes : List ℕ) → AreBytes bytes → 2 ≤ length bytes → bytes_high_first 2 (big_from 0 2 bytes) ≡ take 2 bytes
number_2 bytes are long =
    be_bytes_2 (take 2 bytes) (big_from 0 2 bytes) (length-take-le 2 bytes long) (AreBytes-take 2 bytes are)
    (sym (big_from-take 0 2 2 bytes (omega arith)) ∙ same (take 2 bytes))
  where
    same : (xs : List ℕ) → big_from 0 2 xs ≡ from_be_bytes w16 xs
    same xs = omega arith

-- the same of 4 bytes
number_4 : (bytes : List ℕ) → AreBytes bytes → 4 ≤ length bytes → bytes_high_first 4 (big_from 0 4 bytes) ≡ take 4 bytes
number_4 bytes are long =
    be_bytes_4 (take 4 bytes) (big_from 0 4 bytes) (length-take-le 4 bytes long) (AreBytes-take 4 bytes are)
    (sym (big_from-take 0 4 4 bytes (omega arith)) ∙ same (take 4 bytes))
  where
    same : (xs : List ℕ) → big_from 0 4 xs ≡ from_be_bytes w32 xs
    same xs = omega arith

-- a field that was taken
abbrev took : {A : Type 0} → A × List ℕ → Taken A
took p = Ok p

-- a field that was not
abbrev failed : {A : Type 0} → TakeRefusal → Taken A
failed refusal = Err refusal

-- what was taken is one thing
took_first : {A : Type 0} (x y : A) (xs ys : List ℕ) → took (x, xs) ≡ took (y, ys) → x ≡ y
took_first {A} x y xs ys e =
    let p : A × List ℕ = (x, xs) in
    let q : A × List ℕ = (y, ys) in
    let pair : p ≡ q = cc in
    ap (λ (r : A × List ℕ). r.0) pair

-- and so is the rest
took_rest : {A : Type 0} (x y : A) (xs ys : List ℕ) → took (x, xs) ≡ took (y, ys) → xs ≡ ys
took_rest {A} x y xs ys e =
    let p : A × List ℕ = (x, xs) in
    let q : A × List ℕ = (y, ys) in
    let pair : p ≡ q = cc in
    ap (λ (r : A × List ℕ). r.1) pair

-- a field that was taken, so written, stood in front of the rest
record Stood (bytes field rest : List ℕ) : Type 0 where
  front : bytes ≡ field ++ rest
  are : AreBytes rest

-- a number stood there
number_stood : (n : ℕ) (bytes rest : List ℕ) (x : ℕ) → AreBytes bytes →
    (n ≤ length bytes → bytes_high_first n (big_from 0 n bytes) ≡ take n bytes) → take_number n bytes ≡ Ok (x, rest) →
    Stood bytes (bytes_high_first n x) rest × (x < 256 ^ n)
number_stood n bytes rest x are spelled e =
    elim (leb_tells n (length bytes)) [
      | inl long ↦ (
          let found : took (big_from 0 n bytes, drop n bytes) ≡ took (x, rest) = rw long.0 at e in
          let number : big_from 0 n bytes ≡ x = took_first _ _ _ _ found in
          let behind : drop n bytes ≡ rest = took_rest _ _ _ _ found in
          let field : take n bytes ≡ bytes_high_first n x = sym (spelled long.1) ∙ ap (bytes_high_first n) number in (
            record {
              front = sym (take-append-drop n bytes) ∙ ap (λ f. f ++ drop n bytes) field ∙ ap (λ r. bytes_high_first n x ++ r) behind;
              are = rw (← behind) (AreBytes-drop n bytes are);
            },
            rw (← number) (big_from-lt 0 n bytes are),
          )
          )
      | inr short ↦ absurd (let never : failed Short ≡ took (x, rest) = rw short.0 at e in cc)
    ]

-- bytes stood there
bytes_stood : (n : ℕ) (bytes text rest : List ℕ) → AreBytes bytes → take_bytes n bytes ≡ Ok (text, rest) →
    Stood bytes text rest × (length text ≡ n)
bytes_stood n bytes text rest are e =
    elim (leb_tells n (length bytes)) [
      | inl long ↦ (
          let found : took (take n bytes, drop n bytes) ≡ took (text, rest) = rw long.0 at e in
          let field : take n bytes ≡ text = took_first _ _ _ _ found in
          let behind : drop n bytes ≡ rest = took_rest _ _ _ _ found in (
            record {
              front = sym (take-append-drop n bytes) ∙ ap (λ f. f ++ drop n bytes) field ∙ ap (λ r. text ++ r) behind;
              are = rw (← behind) (AreBytes-drop n bytes are);
            },
            rw (← field) (length-take-le n bytes long.1),
          )
          )
      | inr short ↦ absurd (let never : failed Short ≡ took (text, rest) = rw short.0 at e in cc)
    ]

-- where two steps end well, the first did, and the second from there
then_ok : {A B : Type 0} (r : Taken A) (f : A × List ℕ → Taken B) (y : B × List ℕ) → (r >>= f) ≡ Ok y →
    (x : A × List ℕ) × (r ≡ Ok x) × (f x ≡ Ok y)
then_ok (Ok x) f y e = (x, refl, e)
then_ok (Err refusal) f y e = absurd (let never : failed refusal ≡ took y = e in cc)

-- where a test lets through, it holds
kept_if : {A : Type 0} (test : Bool) (p q : A × List ℕ) → cond test (took p) (failed Bad) ≡ Ok q → (test ≡ true) × (p ≡ q)
kept_if true p q e = (refl, (let same : took p ≡ took q = e in cc))
kept_if false p q e = absurd (let never : failed Bad ≡ took q = e in cc)

-- a text stood there
record TextStood (bytes text rest : List ℕ) : Type 0 where
  field : Stood bytes (text_bytes text) rest
  utf8 : IsUtf8 text
  short : length text < 2 ^ 32

-- where a text was taken, one stood there
text_stood : (bytes text rest : List ℕ) → AreBytes bytes → take_text bytes ≡ Ok (text, rest) → TextStood bytes text rest
text_stood bytes text rest are e =
    let f : List ℕ × List ℕ → Taken (List ℕ) = λ q. cond (is_utf8 q.0) (Ok (q.0, q.1)) (Err Bad) in
    let a = then_ok (take_number 4 bytes) (λ p. take_bytes p.0 p.1 >>= f) (text, rest) e in
    let number = number_stood 4 bytes a.0.1 a.0.0 are (number_4 bytes are) a.1 in
    let b = then_ok (take_bytes a.0.0 a.0.1) f (text, rest) a.2 in
    let body = bytes_stood a.0.0 a.0.1 b.0.0 b.0.1 number.0.are b.1 in
    let kept = kept_if (is_utf8 b.0.0) b.0 (text, rest) b.2 in
    let P : List ℕ × List ℕ → Type 0 = λ p. TextStood bytes p.0 p.1 in
    subst P kept.1 (record {
      field = record {
        front = joined bytes a.0.1 b.0.0 b.0.1 a.0.0 number.0.front body.0.front body.1;
        are = body.0.are;
      };
      utf8 = IsUtf8-from_is_utf8 b.0.0 kept.0;
      short = rw body.1 number.1;
    })
  where
    joined : (whole behind field after : List ℕ) (n : ℕ) → whole ≡ bytes_high_first 4 n ++ behind → behind ≡ field ++ after →
        length field ≡ n → whole ≡ text_bytes field ++ after
    joined whole behind field after n number' body' length' =
        number' ∙ ap (λ r. bytes_high_first 4 n ++ r) body' ∙ ap (λ k. bytes_high_first 4 k ++ (field ++ after)) (sym length')

-- where a name was taken, one stood there
name_stood : (bytes name rest : List ℕ) → AreBytes bytes → take_name bytes ≡ Ok (name, rest) →
    TextStood bytes name rest × (is_label_name name ≡ true)
name_stood bytes name rest are e =
    let f : List ℕ × List ℕ → Taken (List ℕ) = λ q. cond (is_label_name q.0) (Ok (q.0, q.1)) (Err Bad) in
    let a = then_ok (take_text bytes) f (name, rest) e in
    let kept = kept_if (is_label_name a.0.0) a.0 (name, rest) a.2 in
    let P : List ℕ × List ℕ → Type 0 = λ p. TextStood bytes p.0 p.1 × (is_label_name p.0 ≡ true) in
    subst P kept.1 (text_stood bytes a.0.0 a.0.1 are a.1, kept.0)

-- an operator by its number
operator_made : (b : ℕ) (bytes rest : List ℕ) (o found : Operator) → AreBytes (b ∷ bytes) → b ≡ operator_number found →
    took (found, bytes) ≡ took (o, rest) → Stood (b ∷ bytes) (operator_number o ∷ []) rest
operator_made b bytes rest o found are is e =
    let same : found ≡ o = took_first _ _ _ _ e in
    let behind : bytes ≡ rest = took_rest _ _ _ _ e in
    record { front = rw (is, same, behind); are = rw (← behind) (AreBytes-drop 1 (b ∷ bytes) are) }

-- where an operator was taken, one stood there
operator_stood : (bytes rest : List ℕ) (o : Operator) → AreBytes bytes → take_operator bytes ≡ Ok (o, rest) →
    Stood bytes (operator_number o ∷ []) rest
operator_stood [] rest o are e = absurd (let never : failed Short ≡ took (o, rest) = e in cc)
operator_stood (b ∷ bytes) rest o are e =
    elim (eqb_tells b 0) [
      | inl zero' ↦ operator_made b bytes rest o Equal are zero'.1 (rw zero'.0 at e)
      | inr no_zero ↦ elim (eqb_tells b 1) [
        | inl one' ↦ operator_made b bytes rest o NotEqual are one'.1 (rw (no_zero.0, one'.0) at e)
        | inr no_one ↦ elim (eqb_tells b 2) [
          | inl two' ↦ operator_made b bytes rest o Match are two'.1 (rw (no_zero.0, no_one.0, two'.0) at e)
          | inr no_two ↦ elim (eqb_tells b 3) [
            | inl three' ↦ operator_made b bytes rest o NotMatch are three'.1 (rw (no_zero.0, no_one.0, no_two.0, three'.0) at e)
            | inr no_three ↦ absurd (let never : failed Bad ≡ took (o, rest) = rw (no_zero.0, no_one.0, no_two.0, no_three.0) at e in cc)
          ]
        ]
      ]
    ]

-- a matcher stood there
record MatcherStood (bytes rest : List ℕ) (m : MatcherText) : Type 0 where
  field : Stood bytes (matcher_bytes m) rest
  valid : IsMatcher m
  short : IsShort m

-- where a matcher was taken, one stood there
matcher_stood : (bytes rest : List ℕ) (m : MatcherText) → AreBytes bytes → take_matcher bytes ≡ Ok (m, rest) → MatcherStood bytes rest m
matcher_stood bytes rest m are e =
    let h : Operator → List ℕ → List ℕ × List ℕ → Taken MatcherText = λ o n r. Ok (record { operator = o; name = n; value = r.0 }, r.1) in
    let g : Operator → List ℕ × List ℕ → Taken MatcherText = λ o q. take_text q.1 >>= h o q.0 in
    let a = then_ok (take_operator bytes) (λ p. take_name p.1 >>= g p.0) (m, rest) e in
    let b = then_ok (take_name a.0.1) (g a.0.0) (m, rest) a.2 in
    let c = then_ok (take_text b.0.1) (h a.0.0 b.0.0) (m, rest) b.2 in
    let found : MatcherText = record { operator = a.0.0; name = b.0.0; value = c.0.0 } in
    let made : took (found, c.0.1) ≡ took (m, rest) = c.2 in
    let here : MatcherText × List ℕ = (found, c.0.1) in
    let there : MatcherText × List ℕ = (m, rest) in
    let same : here ≡ there = cc in
    let operator = operator_stood bytes a.0.1 a.0.0 are a.1 in
    let name = name_stood a.0.1 b.0.0 b.0.1 operator.are b.1 in
    let text = text_stood b.0.1 c.0.0 c.0.1 name.0.field.are c.1 in
    let P : MatcherText × List ℕ → Type 0 = λ p. MatcherStood bytes p.1 p.0 in
    subst P same (record {
      field = record {
        front = joined bytes a.0.1 b.0.1 c.0.1 (operator_number a.0.0) b.0.0 c.0.0 operator.front name.0.field.front text.field.front;
        are = text.field.are;
      };
      valid = record { named = name.1; text = text.utf8 };
      short = record { name = name.0.short; value = text.short };
    })
  where
    joined : (whole after behind last : List ℕ) (number : ℕ) (name value : List ℕ) → whole ≡ (number ∷ []) ++ after →
        after ≡ text_bytes name ++ behind → behind ≡ text_bytes value ++ last →
        whole ≡ (number ∷ (text_bytes name ++ text_bytes value)) ++ last
    joined whole after behind last number name value first second third =
        first
        ∙ ap (λ r. number ∷ r)
        (second ∙ ap (λ r. text_bytes name ++ r) third ∙ sym (append_assoc (text_bytes name) (text_bytes value) last))

-- matchers stood there
record MatchersStood (n : ℕ) (bytes rest : List ℕ) (ms : List MatcherText) : Type 0 where
  field : Stood bytes (flat_map matcher_bytes ms) rest
  count : length ms ≡ n
  valid : All IsMatcher ms
  short : All IsShort ms

-- where matchers were taken, they stood there
several_stood : (n : ℕ) (bytes rest : List ℕ) (ms : List MatcherText) → AreBytes bytes → take_several n bytes ≡ Ok (ms, rest) →
    MatchersStood n bytes rest ms
unfolding take_several
several_stood zero bytes rest ms are e =
    let found : took ([], bytes) ≡ took (ms, rest) = e in
    let same : ([], bytes) ≡ (ms, rest) = cc in
    let P : List MatcherText × List ℕ → Type 0 = λ p. MatchersStood 0 bytes p.1 p.0 in
    subst P same (record {
      field = record { front = refl; are = are };
      count = refl;
      valid = All-nil IsMatcher;
      short = All-nil IsShort;
    })
several_stood (suc n) bytes rest ms are e =
    let h : MatcherText → List MatcherText × List ℕ → Taken (List MatcherText) = λ m p. Ok (m ∷ p.0, p.1) in
    let a = then_ok (take_matcher bytes) (λ p. take_several n p.1 >>= h p.0) (ms, rest) e in
    let b = then_ok (take_several n a.0.1) (h a.0.0) (ms, rest) a.2 in
    let found : took (a.0.0 ∷ b.0.0, b.0.1) ≡ took (ms, rest) = b.2 in
    let same : (a.0.0 ∷ b.0.0, b.0.1) ≡ (ms, rest) = cc in
    let one = matcher_stood bytes a.0.1 a.0.0 are a.1 in
    let others = several_stood n a.0.1 b.0.1 b.0.0 one.field.are b.1 in
    let P : List MatcherText × List ℕ → Type 0 = λ p. MatchersStood (suc n) bytes p.1 p.0 in
    subst P same (record {
      field = record {
        front =
            one.field.front ∙ ap (λ r. matcher_bytes a.0.0 ++ r) others.field.front
            ∙ sym (append_assoc (matcher_bytes a.0.0) (flat_map matcher_bytes b.0.0) b.0.1);
        are = others.field.are;
      };
      count = omega (arith, others.count);
      valid = All-cons IsMatcher a.0.0 b.0.0 one.valid others.valid;
      short = All-cons IsShort a.0.0 b.0.0 one.short others.short;
    })

-- the matchers that were taken are spelled in front of the rest
pub taken_spells : (bytes rest : List ℕ) (ms : List MatcherText) → ((k : ℕ) → get_or bytes k 0 < 256) → taken bytes ≡ Ok (ms, rest) →
    (bytes ≡ spelling ms ++ rest) × Spells (spelling ms) ms
taken_spells bytes rest ms are e =
    let a = then_ok (take_number 2 bytes) (λ p. take_several p.0 p.1) (ms, rest) e in
    let number = number_stood 2 bytes a.0.1 a.0.0 are (number_2 bytes are) a.1 in
    let others = several_stood a.0.0 a.0.1 rest ms number.0.are a.2 in (
      number.0.front ∙ ap (λ r. bytes_high_first 2 a.0.0 ++ r) others.field.front
          ∙ ap (λ k. bytes_high_first 2 k ++ (flat_map matcher_bytes ms ++ rest)) (sym others.count),
      record {
        bytes_are = refl;
        spellable = record { few = rw others.count number.1; short = others.short };
        valid = others.valid;
      },
    )

-- where a front was cut off
pub front_cut : (bytes front rest : List ℕ) → bytes ≡ front ++ rest →
    (length bytes - length rest ≡ length front) × (take (length bytes - length rest) bytes ≡ front)
    × (drop (length bytes - length rest) bytes ≡ rest)
front_cut bytes front rest e =
    let at : length bytes - length rest ≡ length front = omega (arith, length-append front rest, ap length e) in (
      at,
      ap (λ k. take k bytes) at ∙ ap (λ b. take (length front) b) e ∙ take-append_seam front rest,
      ap (λ k. drop k bytes) at ∙ ap (λ b. drop (length front) b) e ∙ drop-front front rest,
    )

-- what was written is what was taken
pub same_of_taken : (bytes behind : List ℕ) (found ms : List MatcherText) (written rest : List ℕ) → taken bytes ≡ Ok (found, behind) →
    Spells written ms → bytes ≡ written ++ rest → (found ≡ ms) × (length bytes - length behind ≡ length written)
same_of_taken bytes behind found ms written rest e spells whole =
    let back : taken bytes ≡ Ok (ms, rest) = ap taken whole ∙ taken_back ms written rest spells in
    let both : took (found, behind) ≡ took (ms, rest) = sym e ∙ back in
    let same : found ≡ ms = took_first _ _ _ _ both in
    let last : behind ≡ rest = took_rest _ _ _ _ both in
    (same, omega (arith, length-append written rest, ap length whole, ap length last))

-- and it was taken
never_taken : (bytes : List ℕ) (refusal : TakeRefusal) (ms : List MatcherText) (written rest : List ℕ) → taken bytes ≡ Err refusal →
    Spells written ms → bytes ≡ written ++ rest → ⊥
never_taken bytes refusal ms written rest e spells whole =
    let back : taken bytes ≡ Ok (ms, rest) = ap taken whole ∙ taken_back ms written rest spells in
    let both : failed refusal ≡ took (ms, rest) = sym e ∙ back in
    cc

-- so nothing but memory fails there
pub never_fails : (bytes : List ℕ) (failure : Failure TakeRefusal) (ms : List MatcherText) (written rest : List ℕ) →
    Fails failure (taken bytes) → Spells written ms → bytes ≡ written ++ rest → failure ≡ OutOfMemory
never_fails bytes OutOfMemory ms written rest fails spells whole = refl
never_fails bytes (Refused refusal) ms written rest fails spells whole =
    absurd (never_taken bytes refusal ms written rest fails spells whole)
