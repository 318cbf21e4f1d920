-- What the rules make of flags, and what their matchers ask.
use Rattle.std.proofs.Common.{◌≡◌, ◌∙◌, ℕ, zero, suc, ◌+◌, ◌<◌, ◌≤◌, ◌&&◌, ◌||◌, not, Bool, Bor, Global, Vec, true, false, cond, List, All, [], ◌∷◌, ◌++◌, ap, append_assoc, get_or, length, map, refl, sym, take, arith}
use Rattle.std.specs.List.{Contains}
use Rattle.std.proofs.lemmas.Bool.{cases_Bool, true≢false}
use Rattle.std.proofs.lemmas.List.{get_or-map, length-map}
use Rattle.std.proofs.lemmas.Simd.{map-map}
use Rattle.std.proofs.lemmas.List.Elements.{All-append, All-cons, All-get_or, All-head, All-nil, All-tail, Contains-append_left, Contains-append_right}
use Rattle.std.proofs.lemmas.List.Folds.{list_any_more}
use Rattle.am_text.specs.declared.failure.Failure.{Failure}
use Rattle.am_text.specs.declared.failure.Failure.TheVariants.{Refused, OutOfMemory}
use Rattle.am_labels.specs.declared.Label.{Label}
use Rattle.am_pattern.specs.Asking.{Stays}
use Rattle.am_pattern.specs.Cache.{Cache}
use Rattle.am_pattern.specs.Taking.{IsPattern}
use Rattle.am_pattern.specs.declared.refusal.PatternRefusal.{PatternRefusal}
use Rattle.am_pattern.proofs.AskingLemmas.{stays-trans}
use Rattle.am_match.specs.Asking.{IsFailureAmong}
use Rattle.am_match.specs.Matchers.{MatcherText, is_on_pattern, patterns_of}
use Rattle.am_match.specs.Meaning.{all_take}
use Rattle.am_table.specs.Tables.{all_matchers}
use Rattle.am_config.specs.Configured.{HasPattern}
use Rattle.am_config.specs.declared.parts.Rule.{Rule}
use Rattle.am_inhibit.specs.Alike.{are_alike}
use Rattle.am_inhibit.specs.Inhibits.{AreInhibitors, inhibits, inhibits_by, rule_matchers}
use Rattle.am_inhibit.specs.Links.{AreAllPlaces, AreLinked, ArePlaces, is_among}
use Rattle.am_inhibit.specs.Sides.{sides_in}

-- ---- flags

-- of an old flag; whether the target takes the target and the source side, whether the source takes them, whether it fires,
-- and whether both are alike: what comes by a rule, in the order of the code and of the definition
pub one_rule : (old tk sk sp tp fp alike : Bool) →
    (old || (tk && ((sp && fp) && (alike && not (sk && tp))))) ≡ (old || (fp && (sp && tk && alike && not ((sp && tp) && (sk && tk)))))
one_rule true tk sk sp tp fp alike = refl
one_rule false false sk true tp true alike = refl
one_rule false false sk true tp false alike = refl
one_rule false false sk false tp true alike = refl
one_rule false false sk false tp false alike = refl
one_rule false true sk false tp true alike = refl
one_rule false true sk false tp false alike = refl
one_rule false true sk true tp false alike = refl
one_rule false true sk true tp true false = refl
one_rule false true true true true true true = refl
one_rule false true true true false true true = refl
one_rule false true false true true true true = refl
one_rule false true false true false true true = refl

-- one more rule
pub one_more : (a b c : Bool) → ((a && b) || (a && c)) ≡ (a && (b || c))
one_more true b c = refl
one_more false b c = refl

-- a flag that is set is one of the flags
pub set_within : (flags : List Bool) (k : ℕ) → get_or flags k false ≡ true → k < length flags
set_within [] k on = absurd (true≢false (sym on))
set_within (flag ∷ flags) zero on = omega arith
set_within (flag ∷ flags) (suc k) on = let below = set_within flags k on in omega (arith, below)

-- every flagged place is below a count
abbrev pub AreBelow : ℕ → List Bool → Type 0
AreBelow count flags = (place : ℕ) → get_or flags place false ≡ true → place < count

both_set : (a b : Bool) → (a && b) ≡ true → (a ≡ true) × (b ≡ true)
both_set true b on = (refl, on)
both_set false b on = absurd (true≢false (sym on))

-- so are the places that are flagged only where those are
pub below_first : (flags one : List Bool) (other : ℕ → Bool) (count : ℕ) → length flags ≡ length one →
    ((k : ℕ) → k < length one → get_or flags k false ≡ (get_or one k false && other k)) → AreBelow count one → AreBelow count flags
below_first flags one other count long is below place on =
    let within = set_within flags place on in
    below place (both_set (get_or one place false) (other place) (sym (is place (omega (arith, within, long))) ∙ on)).0

pub below_second : (flags one other : List Bool) (count : ℕ) → length flags ≡ length one →
    ((k : ℕ) → k < length one → get_or flags k false ≡ (get_or one k false && get_or other k false)) → AreBelow count other → AreBelow count flags
below_second flags one other count long is below place on =
    let within = set_within flags place on in
    below place (both_set (get_or one place false) (get_or other place false) (sym (is place (omega (arith, within, long))) ∙ on)).1

-- of an old flag; whether the target takes the target and the source side, whether the source takes the target side,
-- whether it takes its own and fires, and whether both are alike: what comes in the two steps of the code
pub two_steps : (old t s tp f alike : Bool) →
    ((old || ((t && not s) && (f && alike))) || ((t && s) && ((f && not tp) && alike))) ≡ (old || (t && (f && (alike && not (s && tp)))))
two_steps true t s tp f alike = refl
two_steps false false s tp f alike = refl
two_steps false true true tp false alike = refl
two_steps false true true true true true = refl
two_steps false true true true true false = refl
two_steps false true true false true true = refl
two_steps false true true false true false = refl
two_steps false true false tp false alike = refl
two_steps false true false tp true true = refl
two_steps false true false tp true false = refl

-- ---- rules

module _ {A : Type 0} (view : A → List Label) (sets : List A) (fires : List Bool) where
  pub flag_is : (ms : List MatcherText) (k : ℕ) → k < length sets → get_or (map (λ x. all_take ms (view x)) sets) k false ≡ all_take ms (get_or (map view sets) k [])
  flag_is ms k below = read sets k below
    where
      read : (xs : List A) (i : ℕ) → i < length xs → get_or (map (λ x. all_take ms (view x)) xs) i false ≡ all_take ms (get_or (map view xs) i [])
      read [] i within = absurd (omega (arith, within))
      read (x ∷ xs) zero within = refl
      read (x ∷ xs) (suc i) within = read xs i (omega (arith, within))

  -- before any rule
  pub rule_none : (each : List (List (List ℕ))) → length each ≡ length sets → All (λ (lists : List (List ℕ)). lists ≡ []) each → AreInhibitors [] (map view sets) fires each
  rule_none each long none k place below within =
      ap (λ (lists : List (List ℕ)). is_among lists place)
      (All-get_or (λ (lists : List (List ℕ)). lists ≡ []) each k [] (omega (arith, below, long, length-map sets view)) none)
      ∙ sym (and_false (get_or fires place false))
    where
      and_false : (b : Bool) → (b && false) ≡ false
      and_false true = refl
      and_false false = refl

-- nothing is a list of places
pub none_places : (count : ℕ) (each : List (List (List ℕ))) → All (λ (lists : List (List ℕ)). lists ≡ []) each → AreAllPlaces count each
none_places count [] none = All-nil (λ (lists : List (List ℕ)). All (ArePlaces count) lists)
none_places count (lists ∷ each) none =
    All-cons (λ (held : List (List ℕ)). All (ArePlaces count) held) lists each
    (rw (All-head (λ (held : List (List ℕ)). held ≡ []) lists each none) (All-nil (ArePlaces count)))
    (none_places count each (All-tail (λ (held : List (List ℕ)). held ≡ []) lists each none))

-- ---- both sides of the rules

pub sides_matchers : (rules : List Rule) → all_matchers (sides_in rules) ≡ rule_matchers rules
sides_matchers [] = refl
sides_matchers (rule ∷ rules) =
    ap (λ rest. rule.source ++ (rule.target ++ rest)) (sides_matchers rules) ∙ sym (append_assoc rule.source rule.target (rule_matchers rules))

-- the sides of one rule more
pub sides_more : (rules : List Rule) (i : ℕ) (rule : Rule) → i < length rules → rule ≡ get_or rules i rule →
    sides_in (take (i + 1) rules) ≡ sides_in (take i rules) ++ rule.source ∷ rule.target ∷ []
sides_more [] i rule fits at = absurd (omega (arith, fits))
sides_more (first ∷ rules) zero rule fits at = rw (← at) refl
sides_more (first ∷ rules) (suc i) rule fits at =
    let next : suc i + 1 ≡ suc (i + 1) = omega arith in
    ap (λ n. sides_in (take n (first ∷ rules))) next
    ∙ ap (λ rest. first.source ∷ first.target ∷ rest) (sides_more rules i rule (omega (arith, fits)) at)

-- there are two of each rule
pub sides_long : (rules : List Rule) → length (sides_in rules) ≡ length rules + length rules
sides_long [] = omega arith
sides_long (rule ∷ rules) = let rest = sides_long rules in omega (arith, rest)

-- where they stand
pub source_at : (rules : List Rule) (i : ℕ) (rule : Rule) → i < length rules → rule ≡ get_or rules i rule → get_or (sides_in rules) (i + i) [] ≡ rule.source
source_at [] i rule fits at = absurd (omega (arith, fits))
source_at (first ∷ rules) zero rule fits at = ap (λ (r : Rule). r.source) (sym at)
source_at (first ∷ rules) (suc i) rule fits at =
    let there : suc i + suc i ≡ suc (suc (i + i)) = omega arith in
    ap (λ n. get_or (sides_in (first ∷ rules)) n []) there ∙ source_at rules i rule (omega (arith, fits)) at

pub target_at : (rules : List Rule) (i : ℕ) (rule : Rule) → i < length rules → rule ≡ get_or rules i rule → get_or (sides_in rules) (i + i + 1) [] ≡ rule.target
target_at [] i rule fits at = absurd (omega (arith, fits))
target_at (first ∷ rules) zero rule fits at = ap (λ (r : Rule). r.target) (sym at)
target_at (first ∷ rules) (suc i) rule fits at =
    let there : suc i + suc i + 1 ≡ suc (suc (i + i + 1)) = omega arith in
    ap (λ n. get_or (sides_in (first ∷ rules)) n []) there ∙ target_at rules i rule (omega (arith, fits)) at

-- the rows of lists of matchers
pub rows_of_sides : (sets : List (Bor (List Label))) (sides : List (List MatcherText)) (lists : List (Bor (List MatcherText))) → map (λ list. list.now) lists ≡ sides →
    map (λ list. map (λ set'. all_take list.now set'.now) sets) lists ≡ map (λ ms. map (λ set'. all_take ms set'.now) sets) sides
rows_of_sides sets sides lists are =
    let row : List MatcherText → List Bool = λ ms. map (λ set'. all_take ms set'.now) sets in
    sym (map-map row (λ (list : Bor (List MatcherText)). list.now) lists) ∙ ap (map row) are

-- the row at a place
pub row_at : (sets : List (Bor (List Label))) (sides : List (List MatcherText)) (table : List (Vec Bool Global)) (k : ℕ) (row : Vec Bool Global) → k < length sides →
    row ≡ get_or table k row → map (λ (r : Vec Bool Global). r.items) table ≡ map (λ ms. map (λ set'. all_take ms set'.now) sets) sides →
    row.items ≡ map (λ set'. all_take (get_or sides k []) set'.now) sets
row_at sets sides table k row fits at are =
    let items : Vec Bool Global → List Bool = λ r. r.items in
    let taken : List MatcherText → List Bool = λ ms. map (λ set'. all_take ms set'.now) sets in
    let inside : k < length table = omega (arith, fits, length-map table items, ap length are, length-map sides taken) in
    ap items at ∙ sym (get_or-map items table k row [] inside)
    ∙ ap (λ (rows : List (List Bool)). get_or rows k []) are
    ∙ get_or-map taken sides k [] [] fits

-- those of a rule's two sides
module _ (sets : List (Bor (List Label))) (rules : List Rule) (table : List (Vec Bool Global)) (i : ℕ) (rule : Rule) (k : ℕ) (row : Vec Bool Global) (fits : i < length rules)
    (at : rule ≡ get_or rules i rule) (is : row ≡ get_or table k row)
    (are : map (λ (r : Vec Bool Global). r.items) table ≡ map (λ ms. map (λ set'. all_take ms set'.now) sets) (sides_in rules)) where
  pub source_row : k ≡ i + i → row.items ≡ map (λ set'. all_take rule.source set'.now) sets
  source_row here =
      row_at sets (sides_in rules) table k row (omega (arith, fits, here, sides_long rules)) is are
      ∙ ap (λ ms. map (λ set'. all_take ms set'.now) sets) (ap (λ n. get_or (sides_in rules) n []) here ∙ source_at rules i rule fits at)

  pub target_row : k ≡ i + i + 1 → row.items ≡ map (λ set'. all_take rule.target set'.now) sets
  target_row here =
      row_at sets (sides_in rules) table k row (omega (arith, fits, here, sides_long rules)) is are
      ∙ ap (λ ms. map (λ set'. all_take ms set'.now) sets) (ap (λ n. get_or (sides_in rules) n []) here ∙ target_at rules i rule fits at)

-- there are two rows of each rule
pub rows_long : (sets : List (Bor (List Label))) (rules : List Rule) (table : List (Vec Bool Global)) →
    map (λ (r : Vec Bool Global). r.items) table ≡ map (λ ms. map (λ set'. all_take ms set'.now) sets) (sides_in rules) → length table ≡ length rules + length rules
rows_long sets rules table are =
    sym (length-map table (λ (r : Vec Bool Global). r.items)) ∙ ap length are ∙ length-map (sides_in rules) (λ ms. map (λ set'. all_take ms set'.now) sets) ∙ sides_long rules

-- ---- patterns

-- those of each rule have patterns
patterns_had : (ms : List MatcherText) → All HasPattern ms → All IsPattern (patterns_of ms)
patterns_had [] fine = All-nil IsPattern
patterns_had (m ∷ ms) fine =
    let rest = patterns_had ms (All-tail HasPattern m ms fine) in
    (elim (is_on_pattern m.operator) as (λ (b : Bool). is_on_pattern m.operator ≡ b → All IsPattern (cond b (m.value ∷ patterns_of ms) (patterns_of ms))) [
      | true ↦ λ on. All-cons IsPattern m.value (patterns_of ms) (All-head HasPattern m ms fine on) rest
      | false ↦ λ on. rest
    ]) refl

matchers_had : (rules : List Rule) → All (λ (rule : Rule). All HasPattern rule.source × All HasPattern rule.target) rules → All HasPattern (rule_matchers rules)
matchers_had [] fine = All-nil HasPattern
matchers_had (rule ∷ rules) fine =
    let both = All-head (λ (r : Rule). All HasPattern r.source × All HasPattern r.target) rule rules fine in
    All-append HasPattern (rule.source ++ rule.target) (rule_matchers rules) (All-append HasPattern rule.source rule.target both.0 both.1)
    (matchers_had rules (All-tail (λ (r : Rule). All HasPattern r.source × All HasPattern r.target) rule rules fine))

pub rules_had : (rules : List Rule) → All (λ (rule : Rule). All HasPattern rule.source × All HasPattern rule.target) rules → All IsPattern (patterns_of (rule_matchers rules))
rules_had rules fine = patterns_had (rule_matchers rules) (matchers_had rules fine)
