-- First parts of what is written, put together.
use Rattle.std.proofs.Common.{◌≡◌, ◌==◌, ℕ, true, ◌-◌, List, [], ◌∷◌, ◌++◌, length, length-drop, take, drop, arith, Option, None, Some, OnErr, Result, Ok, Err, sym, ap, ◌∙◌, subst, append-nil, append_assoc, take-append-drop}
use Rattle.std.specs.Io.KnownBytes.{Appends, Keeps}
use Rattle.std.proofs.KnownBytes.{Appends-kept, Appends-trans}
use Rattle.std.proofs.lemmas.Bool.Decides.{nat_tests}
use Rattle.std.proofs.lemmas.List.{take_all}
use Rattle.am_stream.specs.Writing.{AppendsPart}

-- a first part was written, behind which more was to come
pub part_of_more : (old new : Option (List ℕ)) (bytes more : List ℕ) → AppendsPart old new bytes →
    AppendsPart old new (bytes ++ more)
part_of_more old new bytes more h =
    record {
      first = h.first;
      left = h.left ++ more;
      cut = sym (append_assoc h.first h.left more)
          ∙ ap (λ l. l ++ more) h.cut;
      appends = h.appends;
    }

-- something was written, and then a first part of the rest
pub part_later : (a b c : Option (List ℕ)) (bytes more : List ℕ) → Appends a b bytes → AppendsPart b c more →
    AppendsPart a c (bytes ++ more)
part_later a b c bytes more h k =
    record {
      first = bytes ++ k.first;
      left = k.left;
      cut = append_assoc bytes k.first k.left
          ∙ ap (λ l. bytes ++ l) k.cut;
      appends = Appends-trans a b c bytes k.first h k.appends;
    }

-- nothing was written
pub none_written : (old new : Option (List ℕ)) → Keeps old new → Appends old new []
none_written None new h = tt
none_written (Some x) None h = absurd h
none_written (Some x) (Some y) h = h ∙ sym (append-nil x)

-- a first part was written, and nothing more before the writer failed
pub stops : (a b c : Option (List ℕ)) (first left bytes : List ℕ) → first ++ left ≡ bytes → Appends a b first →
    Keeps b c → AppendsPart a c bytes
stops a b c first left bytes cut appends kept = record {
  first = first;
  left = left;
  cut = cut;
  appends =
      Appends-kept a b c first appends kept;
}

-- all was written
pub whole : (old new : Option (List ℕ)) (bytes : List ℕ) → Appends old new bytes → AppendsPart old new bytes
whole old new bytes h = record { first = bytes; left = []; cut = append-nil bytes; appends = h }

-- a first part was written, and then so many bytes of what is left
pub goes_on : (a b c : Option (List ℕ)) (first left bytes : List ℕ) (n : ℕ) → first ++ left ≡ bytes →
    Appends a b first → Appends b c (take n left)
    → (all : List ℕ) × (all ++ take (length left - n) (drop n left) ≡ bytes) × Appends a c all
goes_on a b c first left bytes n cut appends more = (
  first ++ take n left,
  ap (λ l. (first ++ take n left) ++ l) rest ∙ append_assoc first (take n left) (drop n left)
      ∙ ap (λ l. first ++ l) (take-append-drop n left) ∙ cut,
  Appends-trans a b c first (take n left) appends more,
)
  where
    rest : take (length left - n) (drop n left) ≡ drop n left
    rest = take_all (length left - n) (drop n left) (omega (arith, length-drop n left))

-- where nothing is left all was written
pub none_left : (a b : Option (List ℕ)) (first left bytes : List ℕ) → first ++ left ≡ bytes →
    (length left == 0) ≡ true → Appends a b first → Appends a b bytes
none_left a b first [] bytes cut none appends = subst (Appends a b) (sym (append-nil first) ∙ cut) appends
none_left a b first (x ∷ xs) bytes cut none appends =
    let empty : length (x ∷ xs) ≡ 0 = grind (arith, nat_tests) in
    absurd (omega (arith, empty))

-- what holds anyway holds after an error
pub on_err : {X E : Type 0} {P : Type 0} (r : Result X E) → P → OnErr r P
on_err (Ok value) h = tt
on_err (Err error) h = h

-- of three pieces the first was being written
pub in_first : (a b : Option (List ℕ)) (first second third text : List ℕ) → text ≡ first ++ (second ++ third) →
    AppendsPart a b first → AppendsPart a b text
in_first a b first second third text is h =
    subst (AppendsPart a b) (sym is)
    (part_of_more a b first (second ++ third) h)

-- .. the second
pub in_second : (a b c : Option (List ℕ)) (first second third text : List ℕ) → text ≡ first ++ (second ++ third) →
    Appends a b first → AppendsPart b c second → AppendsPart a c text
in_second a b c first second third text is h k =
    subst (AppendsPart a c) (sym is)
    (part_later a b c first (second ++ third) h (part_of_more b c second third k))

-- .. the third
pub in_third : (a b c d : Option (List ℕ)) (first second third text : List ℕ) → text ≡ first ++ (second ++ third) →
    Appends a b first → Appends b c second → AppendsPart c d third → AppendsPart a d text
in_third a b c d first second third text is h k l =
    subst (AppendsPart a d) (sym is)
    (part_later a b d first (second ++ third) h (part_later b c d second third k l))

-- all three were written
pub after_third : (a b c d : Option (List ℕ)) (first second third text : List ℕ) →
    text ≡ first ++ (second ++ third) → Appends a b first → Appends b c second → Appends c d third → Appends a d text
after_third a b c d first second third text is h k l =
    subst (Appends a d) (sym is)
    (Appends-trans a b d first (second ++ third) h (Appends-trans b c d second third k l))
