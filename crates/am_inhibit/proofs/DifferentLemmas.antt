-- The different ones of rules: they inhibit alike, and ask for no more.
use Rattle.std.proofs.Common.{◌≡◌, ◌∙◌, ℕ, zero, suc, ◌+◌, ◌<◌, ◌≤◌, ◌||◌, Bool, Bor, Some, true, false, List, All, [], ◌∷◌, ◌++◌, ap, append_assoc, get_or, length, length-append, map, refl, sym, subst, inl, inr, arith}
use Rattle.std.specs.Prelude.{slice_get}
use Rattle.std.specs.List.{Contains, list_any, sum_by}
use Rattle.std.specs.List.Sorted.{IsPermutation}
use Rattle.std.proofs.lemmas.Bool.{cases_Bool, true≢false}
use Rattle.std.proofs.lemmas.List.{get_or_append_left}
use Rattle.std.proofs.lemmas.List.Elements.{All-append, All-cons, All-head, All-nil, All-tail, All-weaker, Contains-append_cases, Contains-append_left, Contains-append_right}
use Rattle.std.proofs.lemmas.List.Folds.{list_any-append}
use Rattle.std.proofs.lemmas.List.Sorted.{All-permutation, IsPermutation-append_comm, IsPermutation-append_left, IsPermutation-append_right, IsPermutation-refl, IsPermutation-trans, list_any-IsPermutation, sum_by-IsPermutation}
use Rattle.std.proofs.lemmas.List.Sums.{sum_by-append, sum_by-cons}
use Rattle.am_labels.specs.declared.Label.{Label}
use Rattle.am_match.specs.Matchers.{MatcherText, is_on_pattern, patterns_of}
use Rattle.am_match.proofs.FailureLemmas.{AreAmong, in_back, in_front}
use Rattle.am_config.specs.declared.parts.Rule.{Rule}
use Rattle.am_inhibit.specs.Inhibits.{AreWithoutRepeats, inhibits, inhibits_by, rule_matchers}

-- ---- rule after rule

pub different_none : AreWithoutRepeats [] []
different_none = record { repeated = []; all = IsPermutation-refl []; again = All-nil (Contains []) }

-- one that is among them
pub different_again : (rules different : List Rule) (rule : Rule) → Contains different rule → AreWithoutRepeats rules different → AreWithoutRepeats (rules ++ rule ∷ []) different
different_again rules different rule there so_far = record {
  repeated = so_far.repeated ++ rule ∷ [];
  all =
      subst (IsPermutation (rules ++ rule ∷ [])) (append_assoc different so_far.repeated (rule ∷ []))
      (IsPermutation-append_left (rule ∷ []) rules (different ++ so_far.repeated) so_far.all);
  again =
      All-append (Contains different) so_far.repeated (rule ∷ []) so_far.again
      (All-cons (Contains different) rule [] there (All-nil (Contains different)));
}

-- one that comes to them
pub different_more : (rules different : List Rule) (rule : Rule) → AreWithoutRepeats rules different → AreWithoutRepeats (rules ++ rule ∷ []) (different ++ rule ∷ [])
different_more rules different rule so_far = record {
  repeated = so_far.repeated;
  all =
      IsPermutation-trans (rules ++ rule ∷ []) (different ++ (so_far.repeated ++ rule ∷ [])) ((different ++ rule ∷ []) ++ so_far.repeated)
      (subst (IsPermutation (rules ++ rule ∷ [])) (append_assoc different so_far.repeated (rule ∷ []))
      (IsPermutation-append_left (rule ∷ []) rules (different ++ so_far.repeated) so_far.all))
      (subst (IsPermutation (different ++ (so_far.repeated ++ rule ∷ []))) (sym (append_assoc different (rule ∷ []) so_far.repeated))
      (IsPermutation-append_right different (so_far.repeated ++ rule ∷ []) (rule ∷ so_far.repeated) (IsPermutation-append_comm so_far.repeated (rule ∷ []))));
  again =
      All-weaker (Contains different) (Contains (different ++ rule ∷ [])) (λ other there. Contains-append_left different (rule ∷ []) other there)
      so_far.repeated so_far.again;
}

-- of the rules in another order
pub different_order : (rules sorted different : List Rule) → IsPermutation rules sorted → AreWithoutRepeats sorted different → AreWithoutRepeats rules different
different_order rules sorted different same are = record {
  repeated = are.repeated;
  all = IsPermutation-trans rules sorted (different ++ are.repeated) same are.all;
  again = are.again;
}

-- ---- what they inhibit

-- one that passes is found
any_at : {A : Type 0} (test : A → Bool) (xs : List A) (x : A) (k : ℕ) → k < length xs → get_or xs k x ≡ x → test x ≡ true → list_any test xs ≡ true
any_at test [] x k below at passes = absurd (omega (arith, below))
any_at test (first ∷ xs) x zero below at passes = rw (at, passes) refl
any_at test (first ∷ xs) x (suc k) below at passes =
    let later = any_at test xs x k (omega (arith, below)) at passes in
    elim (cases_Bool (test first)) [ inl on ↦ rw on refl | inr off ↦ rw off later ]

any_again : {A : Type 0} (test : A → Bool) (xs ys : List A) → All (Contains xs) ys → (list_any test xs || list_any test ys) ≡ list_any test xs
any_again test xs [] again = or_false (list_any test xs)
  where
    or_false : (b : Bool) → (b || false) ≡ b
    or_false true = refl
    or_false false = refl
any_again test xs (y ∷ ys) again =
    let rest = any_again test xs ys (All-tail (Contains xs) y ys again) in
    let (k, below, at) = All-head (Contains xs) y ys again in
    elim (cases_Bool (test y)) [
      | inl on ↦ let found = any_at test xs y k below at on in rw found refl
      | inr off ↦ rw off rest
    ]

pub different_inhibit : (rules different : List Rule) → AreWithoutRepeats rules different → (source target : List Label) →
    inhibits_by different source target ≡ inhibits_by rules source target
different_inhibit rules different are source target =
    let test : Rule → Bool = λ (rule : Rule). inhibits rule source target in
    sym
    (list_any-IsPermutation test rules (different ++ are.repeated) are.all
    ∙ list_any-append test different are.repeated
    ∙ any_again test different are.repeated are.again)

-- ---- what they ask for

patterns_append : (ms ns : List MatcherText) → length (patterns_of (ms ++ ns)) ≡ length (patterns_of ms) + length (patterns_of ns)
patterns_append [] ns = omega arith
patterns_append (m ∷ ms) ns =
    let rest = patterns_append ms ns in
    elim (cases_Bool (is_on_pattern m.operator)) [ inl on ↦ rw on (omega (arith, rest)) | inr off ↦ rw off rest ]

asked_by : Rule → ℕ
asked_by rule = length (patterns_of (rule.source ++ rule.target))

asked_together : (rules : List Rule) → length (patterns_of (rule_matchers rules)) ≡ sum_by asked_by rules
unfolding asked_by
asked_together [] = refl
asked_together (rule ∷ rules) =
    omega (arith, patterns_append (rule.source ++ rule.target) (rule_matchers rules), asked_together rules, sum_by-cons asked_by rule rules)

pub different_patterns : (rules different : List Rule) → AreWithoutRepeats rules different →
    length (patterns_of (rule_matchers different)) ≤ length (patterns_of (rule_matchers rules))
different_patterns rules different are =
    omega (
      arith,
      asked_together different,
      asked_together rules,
      sum_by-IsPermutation asked_by rules (different ++ are.repeated) are.all,
      sum_by-append asked_by different are.repeated,
    )

-- the matchers of each are among those of all
each_among : (rules : List Rule) → All (λ (rule : Rule). AreAmong (rule.source ++ rule.target) (rule_matchers rules)) rules
each_among [] = All-nil (λ (rule : Rule). AreAmong (rule.source ++ rule.target) [])
each_among (first ∷ rules) =
    All-cons (λ (rule : Rule). AreAmong (rule.source ++ rule.target) (rule_matchers (first ∷ rules))) first rules
    (λ m at. in_front (first.source ++ first.target) (rule_matchers rules) m at)
    (All-weaker (λ (rule : Rule). AreAmong (rule.source ++ rule.target) (rule_matchers rules))
    (λ (rule : Rule). AreAmong (rule.source ++ rule.target) (rule_matchers (first ∷ rules)))
    (λ rule among m at. in_back (first.source ++ first.target) (rule_matchers rules) m (among m at)) rules (each_among rules))

all_among : (whole : List MatcherText) (rules : List Rule) → All (λ (rule : Rule). AreAmong (rule.source ++ rule.target) whole) rules →
    AreAmong (rule_matchers rules) whole
all_among whole [] among m (k, below, at) = absurd (omega (arith, below))
all_among whole (first ∷ rules) among m at =
    elim (Contains-append_cases (first.source ++ first.target) (rule_matchers rules) m at) [
      | inl here ↦ All-head (λ (rule : Rule). AreAmong (rule.source ++ rule.target) whole) first rules among m here
      | inr later ↦ all_among whole rules (All-tail (λ (rule : Rule). AreAmong (rule.source ++ rule.target) whole) first rules among) m later
    ]

pub different_among : (rules different : List Rule) → AreWithoutRepeats rules different → AreAmong (rule_matchers different) (rule_matchers rules)
different_among rules different are =
    let P : Rule → Type 0 = λ (rule : Rule). AreAmong (rule.source ++ rule.target) (rule_matchers rules) in
    let each = All-permutation P rules (different ++ are.repeated) are.all (each_among rules) in
    all_among (rule_matchers rules) different
    (λ k rule below. subst P (get_or_append_left different are.repeated rule k below) (each k rule (omega (arith, below, length-append different are.repeated))))

-- ---- equal rules

pub rule_of : List MatcherText → List MatcherText → List (List ℕ) → Rule
rule_of source target equal = record { source = source; target = target; equal = equal }

pub equal_rules : (one other : Rule) → one.source ≡ other.source → one.target ≡ other.target → one.equal ≡ other.equal → one ≡ other
unfolding rule_of
equal_rules one other source target equal =
    ap (λ x. rule_of x one.target one.equal) source ∙ ap (λ x. rule_of other.source x one.equal) target ∙ ap (λ x. rule_of other.source other.target x) equal

-- one that is found at a place is among them
pub found_there : (rules : List (Bor Rule)) (k : ℕ) (rule : Bor Rule) → slice_get rules k ≡ Some rule → Contains (map (λ (r : Bor Rule). r.now) rules) rule.now
found_there [] k rule is = absurd (cc)
found_there (first ∷ rules) zero rule is = let same : first ≡ rule = cc in (0, omega arith, ap (λ (r : Bor Rule). r.now) same)
found_there (first ∷ rules) (suc k) rule is = let (j, below, at) = found_there rules k rule is in (suc j, omega arith, at)
