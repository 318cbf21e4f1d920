-- The steps by which a text of matchers is read.
use Rattle.std.proofs.Common.{◌≡◌, ◌≢◌, ℕ, ◌<◌, ◌≤◌, suc, zero, ◌-◌, List, [], ◌∷◌, ◌++◌, Bool, true, false, ◌&&◌, ◌==◌, cond, Option, None, Some, length, option_map, refl, ap, ◌∙◌, arith, append_assoc, append-nil, length-append, ne_eqb, option_to_list}
use Rattle.std.specs.List.{slice_get}
use Rattle.std.proofs.lemmas.Option.{slice_get-get_or}
use Rattle.std.proofs.Math.Seq.{get_or-append_seam}
use Rattle.am_match.specs.Matchers.{MatcherText}
use Rattle.am_match.specs.Reading.{Text, trim_end, one, is_end, after_comma, several}

-- a space at the end goes
pub trim_end-space : (t : Text) → trim_end (t ++ 32 ∷ []) ≡ trim_end t
trim_end-space [] = refl
trim_end-space (c ∷ t) = rw (trim_end-space t)

-- the last character of a text
last_of : (ys : Text) (d : ℕ) → slice_get (ys ++ d ∷ []) (length (ys ++ d ∷ []) - 1) ≡ Some d
last_of ys d =
    let at : length (ys ++ d ∷ []) - 1 ≡ length ys = omega (arith, length-append ys (d ∷ [])) in
    rw at (slice_get-get_or (ys ++ d ∷ []) (length ys) 0 (omega (arith, length-append ys (d ∷ [])))
    ∙ ap Some (get_or-append_seam ys d [] 0))

-- what is left behind after a space was taken off the end
pub trim_end-pop : (xs ys : Text) (o : Option ℕ) (c : ℕ) → xs ≡ ys ++ option_to_list o →
    Some c ≡ slice_get xs (length xs - 1) → c ≡ 32 → trim_end xs ≡ trim_end ys
trim_end-pop xs ys None c e last space = ap trim_end (e ∙ append-nil ys)
trim_end-pop xs ys (Some d) c e last space =
    let shown : slice_get xs (length xs - 1) ≡ Some d = rw e (last_of ys d) in
    let same : Some c ≡ Some d = last ∙ shown in
    let is_space : d ≡ 32 = cc in
    rw (e, is_space) (trim_end-space ys)

-- where another character stands at the end, nothing is taken off
pub trim_end-kept : (xs : Text) (c : ℕ) → Some c ≡ slice_get xs (length xs - 1) → c ≢ 32 → trim_end xs ≡ xs
trim_end-kept [] c last other = refl
trim_end-kept (x ∷ []) c last other =
    let same : x ≡ c = cc in
    rw (same, ne_eqb c 32 other)
trim_end-kept (x ∷ y ∷ t) c last other =
    let at : length (x ∷ y ∷ t) - 1 ≡ suc (length (y ∷ t) - 1) = omega arith in
    let kept : trim_end (y ∷ t) ≡ y ∷ t = trim_end-kept (y ∷ t) c (rw at at last) other in
    rw kept (and_no (x == 32))
  where
    and_no : (b : Bool) → cond (b && false) [] (x ∷ y ∷ t) ≡ x ∷ y ∷ t
    and_no true = refl
    and_no false = refl

-- the matchers found so far, in front of those to come
abbrev pub before : List MatcherText → Option (List MatcherText) → Option (List MatcherText)
before found o = option_map (λ others. found ++ others) o

-- no matcher stands at the front
pub several-none : (braced : Bool) (n : ℕ) (t : Text) → 0 < n → one t ≡ None → several braced n t ≡ None
unfolding several
several-none braced zero t positive none = refl
several-none braced (suc n) t positive none = rw none

-- one matcher stands there, and then the end
pub several-last : (braced : Bool) (n : ℕ) (t : Text) (m : MatcherText) (rest : Text) → 0 < n → one t ≡ Some (m, rest) →
    is_end braced rest ≡ true → several braced n t ≡ Some (m ∷ [])
unfolding several
several-last braced zero t m rest positive found end = absurd (omega arith)
several-last braced (suc n) t m rest positive found end = rw (found, end)

-- one matcher stands there, and then neither the end nor a comma
pub several-stuck : (braced : Bool) (n : ℕ) (t : Text) (m : MatcherText) (rest : Text) → 0 < n → one t ≡ Some (m, rest) →
    is_end braced rest ≡ false → after_comma rest ≡ None → several braced n t ≡ None
unfolding several
several-stuck braced zero t m rest positive found unended none = absurd (omega arith)
several-stuck braced (suc n) t m rest positive found unended none = rw (found, unended, none)

-- one matcher stands there, and behind a comma there are more
pub several-more : (braced : Bool) (n : ℕ) (t : Text) (m : MatcherText) (rest more : Text) → 0 < n → one t ≡ Some (m, rest) →
    is_end braced rest ≡ false → after_comma rest ≡ Some more →
    several braced n t ≡ option_map (λ others. m ∷ others) (several braced (n - 1) more)
unfolding several
several-more braced zero t m rest more positive found unended comma = absurd (omega arith)
several-more braced (suc n) t m rest more positive found unended comma =
    let less : suc n - 1 ≡ n = omega arith in
    rw (found, unended, comma, less)

-- and what was found before stays in front
pub before-more : (found : List MatcherText) (m : MatcherText) (o : Option (List MatcherText)) →
    before found (option_map (λ others. m ∷ others) o) ≡ before (found ++ m ∷ []) o
before-more found m None = refl
before-more found m (Some others) = rw append_assoc

-- no matcher is allowed any more
pub several-zero : (braced : Bool) (n : ℕ) (t : Text) → n ≤ 0 → several braced n t ≡ None
unfolding several
several-zero braced zero t none = refl
several-zero braced (suc n) t none = absurd (omega arith)
