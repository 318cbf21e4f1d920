-- What a duration is by its parts, and what is read of it.
use Rattle.std.proofs.Common.{◌≡◌, ◌∙◌, ◌⊎◌, inl, inr, ℕ, suc, ◌*◌, ◌<◌, ◌≤◌, ◌&&◌, nat_lt, not, true, false, List, [], ◌∷◌, ◌++◌, length, take_at, drop_at, length-append, append_assoc, append-nil, zero, zero-add, ◌==◌, Bool, refl, sym, ap, arith}
use Rattle.std.proofs.lemmas.Bool.{and_parts, and_from, cases_Bool, eqb-true}
use Rattle.std.proofs.lemmas.Bool.Decides.{nat_tests}
use Rattle.std.proofs.lemmas.List.{take-append-drop, nil_from_length}
use Rattle.std.proofs.lemmas.Slice.Eq.{bytes_eq-Decides}
use Rattle.std.specs.Prelude.{All, codes, Err}
use Rattle.std.specs.Char.{is_ascii_digit, digit_value}
use Rattle.std.specs.List.{list_all, prefix_len}
use Rattle.std.specs.Str.{bytes_eq}
use Rattle.std.specs.Str.Parse.{AllDigits, IsNumeral, digits_value}
use Rattle.am_text.specs.declared.duration.TimeUnit.{TimeUnit}
use Rattle.am_text.specs.declared.duration.TimeUnit.TheVariants.{Year, Week, Day, Hour, Minute, Second, Millisecond}
use Rattle.am_text.specs.declared.refusal.TextRefusal.TheVariants.{NotADuration}
use Rattle.am_text.specs.Duration.{AreInOrder, IsPart, Part, SpellsParts, digits_at, duration, has_part, letter_count, letters_at, letters_of, milliseconds_in, milliseconds_of, part_at, part_text, parts_at, parts_text, units, within_range}
use Rattle.am_text.proofs.AgainLemmas.{digits_counted}
use Rattle.am_text.proofs.TakenLemmas.{all_taken}

-- a digit by either test
digit_by_value : (c : ℕ) → is_ascii_digit c ≡ true → digit_value c < 10
digit_by_value c h = grind (arith, nat_tests)

digit_by_code : (c : ℕ) → digit_value c < 10 → is_ascii_digit c ≡ true
digit_by_code c h = grind (arith, nat_tests)

all_by_value : (ds : List ℕ) → list_all is_ascii_digit ds ≡ true → AllDigits 10 ds
all_by_value [] h = tt
all_by_value (d ∷ ds) h =
    let parts = and_parts (is_ascii_digit d) (list_all is_ascii_digit ds) h in
    (digit_by_value d parts.0, all_by_value ds parts.1)

all_by_code : (ds : List ℕ) → AllDigits 10 ds → list_all is_ascii_digit ds ≡ true
all_by_code [] h = refl
all_by_code (d ∷ ds) h = and_from (is_ascii_digit d) (list_all is_ascii_digit ds) (digit_by_code d h.0) (all_by_code ds h.1)

-- letters are no digits
no_digit_first : (unit : TimeUnit) (rest : List ℕ) → prefix_len is_ascii_digit (letters_of unit ++ rest) ≡ 0
no_digit_first Year rest = refl
no_digit_first Week rest = refl
no_digit_first Day rest = refl
no_digit_first Hour rest = refl
no_digit_first Minute rest = refl
no_digit_first Second rest = refl
no_digit_first Millisecond rest = refl

-- what follows the letters begins with a digit, or is nothing
letters_counted : (unit : TimeUnit) (rest : List ℕ) → letter_count rest ≡ 0 → letter_count (letters_of unit ++ rest) ≡ length (letters_of unit)
letters_counted Year rest h = rw h refl
letters_counted Week rest h = rw h refl
letters_counted Day rest h = rw h refl
letters_counted Hour rest h = rw h refl
letters_counted Minute rest h = rw h refl
letters_counted Second rest h = rw h refl
letters_counted Millisecond rest h = rw h refl

numeral_begins : (digits rest : List ℕ) → IsNumeral 10 digits → letter_count (digits ++ rest) ≡ 0
numeral_begins [] rest h = absurd (omega (arith, h.0))
numeral_begins (d ∷ ds) rest h = rw (digit_by_code d h.1.0) refl

parts_begin : (parts : List Part) → All IsPart parts → letter_count (parts_text parts) ≡ 0
parts_begin [] all = refl
parts_begin (part ∷ later) all =
    rw (append_assoc part.digits (letters_of part.unit) (parts_text later)) (numeral_begins part.digits (letters_of part.unit ++ parts_text later) (all 0 part (omega arith)))

-- a text that begins with a part
module _ (part : Part) (rest : List ℕ) (is : IsPart part) (begins : letter_count rest ≡ 0) where
  abbrev front : List ℕ
  front = part_text part ++ rest

  digits_front : ((digits_at front).0 ≡ part.digits) × ((digits_at front).1 ≡ letters_of part.unit ++ rest)
  digits_front =
      let behind = letters_of part.unit ++ rest in
      let count = digits_counted part.digits behind (all_by_code part.digits is.1) (no_digit_first part.unit rest) in
      rw (append_assoc part.digits (letters_of part.unit) rest, count)
      (take_at part.digits behind (length part.digits) refl, drop_at part.digits behind (length part.digits) refl)

  letters_front : ((letters_at (letters_of part.unit ++ rest)).0 ≡ letters_of part.unit) × ((letters_at (letters_of part.unit ++ rest)).1 ≡ rest)
  letters_front =
      rw (letters_counted part.unit rest begins)
      (take_at (letters_of part.unit) rest (length (letters_of part.unit)) refl, drop_at (letters_of part.unit) rest (length (letters_of part.unit)) refl)

  -- it is one of its own unit
  part_same : part_at part.unit front ≡ (digits_value 10 part.digits * milliseconds_of part.unit, rest)
  unfolding part_at
  part_same =
      let some : nat_lt 0 (length part.digits) ≡ true = let h = is.0 in grind (arith, nat_tests) in
      let letters = (bytes_eq-Decides (letters_of part.unit) (letters_of part.unit)).1 refl in
      rw (digits_front.0, digits_front.1, letters_front.0, letters_front.1, some, letters) refl

  -- and none of another
  part_other : (unit : TimeUnit) → bytes_eq (letters_of part.unit) (letters_of unit) ≡ false → part_at unit front ≡ (0, front)
  unfolding part_at
  part_other unit other =
      let some : nat_lt 0 (length part.digits) ≡ true = let h = is.0 in grind (arith, nat_tests) in
      rw (digits_front.0, digits_front.1, letters_front.0, some, other) refl

-- no unit is written as another one is
abbrev is_apart : TimeUnit → List TimeUnit → Bool
is_apart unit others = list_all (λ other. not (bytes_eq (letters_of other) (letters_of unit))) others

abbrev are_apart : List TimeUnit → Bool
are_apart [] = true
are_apart (unit ∷ others) = is_apart unit others && are_apart others

units_apart : are_apart units ≡ true
units_apart = refl

false_from_not : (b : Bool) → not b ≡ true → b ≡ false
false_from_not true h = absurd cc
false_from_not false h = refl

first_is_other : (unit : TimeUnit) (others : List TimeUnit) (part : Part) (later : List Part) → is_apart unit others ≡ true → AreInOrder others (part ∷ later) → bytes_eq (letters_of part.unit) (letters_of unit) ≡ false
first_is_other unit [] part later apart order = absurd order
first_is_other unit (other ∷ others) part later apart (inl same) =
    let both = and_parts (not (bytes_eq (letters_of other) (letters_of unit))) (is_apart unit others) apart in
    rw same.0 (false_from_not (bytes_eq (letters_of other) (letters_of unit)) both.0)
first_is_other unit (other ∷ others) part later apart (inr order) =
    first_is_other unit others part later (and_parts (not (bytes_eq (letters_of other) (letters_of unit))) (is_apart unit others) apart).1 order

-- parts in order are read
all_later : {part : Part} (later : List Part) → All IsPart (part ∷ later) → All IsPart later
all_later later all k d below = all (suc k) d (omega arith)

parts_read : (us : List TimeUnit) (parts : List Part) → are_apart us ≡ true → AreInOrder us parts → All IsPart parts → parts_at us (parts_text parts) ≡ (milliseconds_in parts, [])
unfolding parts_at part_at
parts_read [] [] apart order all = refl
parts_read [] (part ∷ later) apart order all = absurd order
parts_read (unit ∷ us) [] apart order all = rw (parts_read us [] (and_parts (is_apart unit us) (are_apart us) apart).1 tt all) refl
parts_read (unit ∷ us) (part ∷ later) apart (inl order) all =
    let rest = all_later {part = part} later all in
    let both = and_parts (is_apart unit us) (are_apart us) apart in
    rw (← order.0, part_same part (parts_text later) (all 0 part (omega arith)) (parts_begin later rest), parts_read us later both.1 order.1 rest) refl
parts_read (unit ∷ us) (part ∷ later) apart (inr order) all =
    let rest = all_later {part = part} later all in
    let both = and_parts (is_apart unit us) (are_apart us) apart in
    let other = first_is_other unit us part later both.0 order in
    rw (part_other part (parts_text later) (all 0 part (omega arith)) (parts_begin later rest) unit other, parts_read us (part ∷ later) both.1 order all, zero-add (milliseconds_in (part ∷ later))) refl

-- letters are there
letters_some : (unit : TimeUnit) → 0 < length (letters_of unit)
letters_some Year = omega arith
letters_some Week = omega arith
letters_some Day = omega arith
letters_some Hour = omega arith
letters_some Minute = omega arith
letters_some Second = omega arith
letters_some Millisecond = omega arith

parts_long : (parts : List Part) → 0 < length parts → All IsPart parts → 2 ≤ length (parts_text parts)
parts_long [] some all = absurd (omega arith)
parts_long (part ∷ later) some all =
    omega (arith, (all 0 part (omega arith)).0, letters_some part.unit, length-append part.digits (letters_of part.unit), length-append (part_text part) (parts_text later))

-- a text of parts is a duration
pub duration_spelled : (text : List ℕ) (parts : List Part) → SpellsParts text parts → duration text ≡ within_range (milliseconds_in parts)
duration_spelled text parts spells =
    let long : 2 ≤ length text = rw spells.spelled (parts_long parts spells.some spells.digits) in
    let other : bytes_eq text (codes "0") ≡ false = elim (cases_Bool (bytes_eq text (codes "0"))) [
      | inl same ↦ absurd (omega (arith, long, ap length ((bytes_eq-Decides text (codes "0")).0 same)))
      | inr apart ↦ apart
    ] in
    let some : (length text == 0) ≡ false = grind (arith, nat_tests) in
    rw (other, some, spells.spelled, parts_read units parts units_apart spells.order spells.digits) refl

-- the parts at the front of a text, and the rest
record Read (us : List TimeUnit) (text : List ℕ) : Type 0 where
  parts : List Part
  digits : All IsPart parts
  order : AreInOrder us parts
  same : text ≡ parts_text parts ++ (parts_at us text).1

order_later : (unit : TimeUnit) (us : List TimeUnit) (parts : List Part) → AreInOrder us parts → AreInOrder (unit ∷ us) parts
order_later unit us [] order = tt
order_later unit us (part ∷ later) order = inr order

all_more : (part : Part) (later : List Part) → IsPart part → All IsPart later → All IsPart (part ∷ later)
all_more part later is all zero d below = is
all_more part later is all (suc k) d below = all k d (omega arith)

same_more : (text digits behind letters rest written more end : List ℕ) → digits ++ behind ≡ text → letters ++ rest ≡ behind → letters ≡ written → rest ≡ more ++ end
    → text ≡ ((digits ++ written) ++ more) ++ end
same_more text digits behind letters rest written more end a b c d =
    sym a ∙ ap (λ (x : List ℕ). digits ++ x) (sym b ∙ ap (λ (x : List ℕ). x ++ rest) c ∙ ap (λ (x : List ℕ). written ++ x) d) ∙ simp append_assoc

read_parts : (us : List TimeUnit) (text : List ℕ) → Read us text
unfolding parts_at part_at
read_parts [] text = record { parts = []; digits = λ k d below. absurd (omega arith); order = tt; same = refl }
read_parts (unit ∷ us) text =
    elim (cases_Bool (has_part unit text)) [
      | inl has ↦
          let both = and_parts (nat_lt 0 (length (digits_at text).0)) (bytes_eq (letters_at (digits_at text).1).0 (letters_of unit)) has in
          let letters = (bytes_eq-Decides (letters_at (digits_at text).1).0 (letters_of unit)).0 both.1 in
          let part : Part = record { digits = (digits_at text).0; unit = unit } in
          let rest = (letters_at (digits_at text).1).1 in
          let later = read_parts us rest in
          let some : 0 < length (digits_at text).0 = grind (arith, nat_tests) in
          record {
            parts = part ∷ later.parts;
            digits = all_more part later.parts (some, all_by_value (digits_at text).0 (all_taken text)) later.digits;
            order = inl (refl, later.order);
            same = rw has
                (same_more text (digits_at text).0 (digits_at text).1 (letters_at (digits_at text).1).0 rest (letters_of unit) (parts_text later.parts) (parts_at us rest).1
                (take-append-drop (prefix_len is_ascii_digit text) text) (take-append-drop (letter_count (digits_at text).1) (digits_at text).1) letters later.same);
          }
      | inr lacks ↦
          let later = read_parts us text in
          record { parts = later.parts; digits = later.digits; order = order_later unit us later.parts later.order; same = rw lacks later.same }
    ]

-- a text that parts are read from to its end
some_parts : (parts : List Part) → 0 < length (parts_text parts) → 0 < length parts
some_parts [] h = absurd (omega arith)
some_parts (part ∷ later) h = omega arith

read_whole : (text : List ℕ) → 0 < length text → (read : Read units text) → (parts_at units text).1 ≡ [] → SpellsParts text read.parts
read_whole text some read end =
    let same : text ≡ parts_text read.parts = read.same ∙ rw end (append-nil (parts_text read.parts)) in
    record { some = some_parts read.parts (rw same at some); digits = read.digits; order = read.order; spelled = same }

-- what is no duration is neither `0` nor a text of parts
pub duration_only : (text : List ℕ) → (duration text ≡ Err NotADuration) ⊎ ((text ≡ codes "0") ⊎ ((parts : List Part) × SpellsParts text parts))
duration_only text =
    elim (cases_Bool (bytes_eq text (codes "0"))) [
      | inl same ↦ inr (inl ((bytes_eq-Decides text (codes "0")).0 same))
      | inr apart ↦
          elim (cases_Bool (length text == 0)) [
            | inl empty ↦ inl (rw (apart, empty) refl)
            | inr filled ↦
                elim (cases_Bool (length (parts_at units text).1 == 0)) [
                  | inl ended ↦
                      let read = read_parts units text in
                      let some : 0 < length text = grind (arith, nat_tests) in
                      inr (inr (read.parts, read_whole text some read (nil_from_length _ (eqb-true _ 0 ended))))
                  | inr left ↦ inl (rw (apart, filled, left) refl)
                ]
          ]
    ]
