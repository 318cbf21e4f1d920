-- What Content-Length states, one field after another, is what its values state together.
use Rattle.std.proofs.Common.{◌≡◌, ℕ, ◌⊎◌, inl, inr, Bool, true, false, List, [], ◌∷◌, map, refl, sym, ap, subst, ◌∙◌, arith, cond, ◌==◌, Option, Some, None, Result, Ok, Err, codes}
use Rattle.std.specs.Str.{str_eq_ignore_ascii_case}
use Rattle.std.proofs.lemmas.Bool.Decides.{nat_tests}
use Rattle.am_http.specs.declared.refusal.FrontRefusal.{FrontRefusal}
use Rattle.am_http.specs.declared.refusal.FrontRefusal.TheVariants.{BadLength}
use Rattle.am_http.specs.Fields.{Fields, values_of, number, agreed, content_length}
use Rattle.am_http.specs.Stating.{and_stated, stated_after}

-- the numbers that the fields state
abbrev numbers : Fields → List (Option ℕ)
numbers fields = map number (values_of (codes "Content-Length") fields)

-- whether a field is Content-Length
abbrev is_length : List ℕ × List ℕ → Bool
is_length f = str_eq_ignore_ascii_case f.0 (codes "Content-Length")

same_branches : {A : Type 0} (b : Bool) (x : A) → cond b x x ≡ x
same_branches true x = refl
same_branches false x = refl

stated_bad : (fields : Fields) → stated_after (Err BadLength) fields ≡ Err BadLength
stated_bad [] = refl
stated_bad (f ∷ fields) =
    ap (λ (s : Result (Option ℕ) FrontRefusal). stated_after s fields) (same_branches (is_length f) (Err BadLength)) ∙ stated_bad fields

same_or_not : (m n : ℕ) → (m ≡ n) ⊎ (((m == n) ≡ false) × ((n == m) ≡ false))
same_or_not m n = grind (arith, nat_tests)

itself : (m : ℕ) → (m == m) ≡ true
itself m = grind (arith, nat_tests)

-- a value after the number m
one_more : (m : ℕ) (o : Option ℕ) (fields : Fields)
    → ((n : ℕ) → stated_after (Ok (Some n)) fields ≡ agreed (Some n ∷ numbers fields))
    → stated_after (and_stated (Ok (Some m)) o) fields ≡ agreed (Some m ∷ (o ∷ numbers fields))
one_more m None fields rest = stated_bad fields
one_more m (Some n) fields rest =
    elim (same_or_not m n) [
      | inl e ↦ subst (λ (k : ℕ). stated_after (and_stated (Ok (Some k)) (Some n)) fields ≡ agreed (Some k ∷ (Some n ∷ numbers fields)))
          (sym e) (rw (itself n) (rest n))
      | inr p ↦ rw (p.0, p.1) (stated_bad fields)
    ]

-- a field after the number m, whether it is Content-Length or not
by_name : (b : Bool) (m : ℕ) (v : List ℕ) (fields : Fields)
    → ((n : ℕ) → stated_after (Ok (Some n)) fields ≡ agreed (Some n ∷ numbers fields))
    → stated_after (cond b (and_stated (Ok (Some m)) (number v)) (Ok (Some m))) fields
    ≡ agreed (Some m ∷ map number (cond b (v ∷ values_of (codes "Content-Length") fields) (values_of (codes "Content-Length") fields)))
by_name true m v fields rest = one_more m (number v) fields rest
by_name false m v fields rest = rest m

stated_number : (m : ℕ) (fields : Fields) → stated_after (Ok (Some m)) fields ≡ agreed (Some m ∷ numbers fields)
stated_number m [] = refl
stated_number m (f ∷ fields) = by_name (is_length f) m f.1 fields (λ n. stated_number n fields)

first_one : (o : Option ℕ) (fields : Fields) → stated_after (and_stated (Ok None) o) fields ≡ agreed (o ∷ numbers fields)
first_one None fields = stated_bad fields
first_one (Some n) fields = stated_number n fields

first_name : (b : Bool) (v : List ℕ) (fields : Fields) → stated_after (Ok None) fields ≡ agreed (numbers fields)
    → stated_after (cond b (and_stated (Ok None) (number v)) (Ok None)) fields
    ≡ agreed (map number (cond b (v ∷ values_of (codes "Content-Length") fields) (values_of (codes "Content-Length") fields)))
first_name true v fields rest = first_one (number v) fields
first_name false v fields rest = rest

-- the fields one after another state what they state together
pub stated_nothing : (fields : Fields) → stated_after (Ok None) fields ≡ content_length fields
stated_nothing [] = refl
stated_nothing (f ∷ fields) = first_name (is_length f) f.1 fields (stated_nothing fields)
