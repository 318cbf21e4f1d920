-- How the label sets that are taken become fewer, matcher by matcher.
use Rattle.std.proofs.Common.{◌≡◌, ℕ, zero, suc, ◌+◌, ◌<◌, ◌≤◌, List, [], ◌∷◌, All, Bool, true, false, ◌&&◌, filter, map, take, zip, length, get_or, slice_index_or, replicate, refl, sym, ap, ◌∙◌, inl, inr, arith}
use Rattle.std.specs.List.{Contains}
use Rattle.std.proofs.lemmas.Bool.{cases_Bool}
use Rattle.std.proofs.lemmas.List.Elements.{All-head, All-tail}
use Rattle.std.proofs.lemmas.List.Folds.{list_all_more}
use Rattle.am_labels.specs.declared.Label.{Label}
use Rattle.am_labels.specs.Sets.{value_of}
use Rattle.am_text.specs.declared.failure.Failure.{Failure}
use Rattle.am_text.specs.declared.failure.Failure.TheVariants.{Refused, OutOfMemory}
use Rattle.am_pattern.specs.Asking.{Stays}
use Rattle.am_pattern.specs.Cache.{Cache}
use Rattle.am_pattern.specs.Refused.{noted, IsRefusedRightly}
use Rattle.am_pattern.specs.Taking.{IsPattern}
use Rattle.am_pattern.specs.declared.refusal.PatternRefusal.{PatternRefusal}
use Rattle.am_pattern.proofs.AskingLemmas.{refused-rightly, stays-trans}
use Rattle.am_match.specs.Asking.{IsFailureOf, IsFailureAmong}
use Rattle.am_match.specs.Checking.{AreRefusedRightly}
use Rattle.am_match.specs.Matchers.{MatcherText, patterns_of, is_on_pattern}
use Rattle.am_match.specs.Meaning.{all_take, passes, takes_labels}
use Rattle.am_table.specs.Narrowing.{answered, narrowed, narrowed_by}

-- ---- one matcher

-- flags that get their answers are those of the values that pass
pub answered-narrowed : {A : Type 0} (m : MatcherText) (view : A → List ℕ) (xs : List A) (flags : List Bool) → length flags ≡ length xs →
    answered flags (map (λ x. passes m.operator m.value (view x)) (map (λ (pair : A × Bool). pair.0) (filter (λ (pair : A × Bool). pair.1) (zip xs flags))))
    ≡ narrowed_by m (map view xs) flags
answered-narrowed m view [] [] each = refl
answered-narrowed m view [] (flag ∷ flags) each = absurd (omega (arith, each))
answered-narrowed m view (x ∷ xs) [] each = absurd (omega (arith, each))
answered-narrowed m view (x ∷ xs) (true ∷ flags) each =
    ap (λ rest. passes m.operator m.value (view x) ∷ rest) (answered-narrowed m view xs flags (omega (arith, each)))
answered-narrowed m view (x ∷ xs) (false ∷ flags) each =
    ap (λ rest. false ∷ rest) (answered-narrowed m view xs flags (omega (arith, each)))

-- of the values of the matcher's label it is the label sets that are narrowed
pub narrowed-values : {A : Type 0} (m : MatcherText) (view : A → List Label) (xs : List A) (flags : List Bool) →
    narrowed_by m (map (λ x. value_of m.name (view x)) xs) flags ≡ narrowed m (map view xs) flags
narrowed-values m view [] flags = refl
narrowed-values m view (x ∷ xs) [] = refl
narrowed-values m view (x ∷ xs) (flag ∷ flags) =
    ap (λ rest. (flag && takes_labels m (view x)) ∷ rest) (narrowed-values m view xs flags)

-- no flag goes
pub length-narrowed : (m : MatcherText) (values : List (List ℕ)) (flags : List Bool) → length flags ≡ length values →
    length (narrowed_by m values flags) ≡ length flags
length-narrowed m [] [] each = refl
length-narrowed m [] (flag ∷ flags) each = absurd (omega (arith, each))
length-narrowed m (value ∷ values) [] each = absurd (omega (arith, each))
length-narrowed m (value ∷ values) (flag ∷ flags) each = ap suc (length-narrowed m values flags (omega (arith, each)))

-- ---- how many patterns are asked for

-- of one matcher more
pub patterns-more : (ms : List MatcherText) (i : ℕ) (m : MatcherText) → i < length ms → m ≡ get_or ms i m →
    length (patterns_of (take (i + 1) ms)) ≡ length (patterns_of (take i ms)) + length (patterns_of (m ∷ []))
patterns-more [] i m within is = absurd (omega (arith, within))
patterns-more (n ∷ ms) zero m within is = rw (← is) (omega arith)
patterns-more (n ∷ ms) (suc i) m within is =
    let more = patterns-more ms i m (omega (arith, within)) is in
    let next : suc i + 1 ≡ suc (i + 1) = omega arith in
    ap (λ k. length (patterns_of (take k (n ∷ ms)))) next
    ∙ elim (cases_Bool (is_on_pattern n.operator)) [ inl on ↦ rw on (omega (arith, more)) | inr off ↦ rw off more ]

-- of some of them, no more than of all
pub patterns-some : (ms : List MatcherText) (i : ℕ) → length (patterns_of (take i ms)) ≤ length (patterns_of ms)
patterns-some ms zero = omega arith
patterns-some [] (suc i) = omega arith
patterns-some (n ∷ ms) (suc i) =
    let some = patterns-some ms i in
    elim (cases_Bool (is_on_pattern n.operator)) [ inl on ↦ rw on (omega (arith, some)) | inr off ↦ rw off some ]

-- ---- one matcher after another

-- none was asked
pub none_asked : {A : Type 0} (view : A → List Label) (xs : List A) →
    replicate (length xs) true ≡ map (λ x. all_take [] (view x)) xs
none_asked view [] = refl
none_asked view (x ∷ xs) = ap (λ rest. true ∷ rest) (none_asked view xs)

-- one more was asked
pub one_more_asked : {A : Type 0} (view : A → List Label) (ms : List MatcherText) (i : ℕ) (m : MatcherText) → i < length ms →
    m ≡ get_or ms i m → (xs : List A) →
    narrowed m (map view xs) (map (λ x. all_take (take i ms) (view x)) xs) ≡ map (λ x. all_take (take (i + 1) ms) (view x)) xs
one_more_asked view ms i m within is [] = refl
one_more_asked view ms i m within is (x ∷ xs) =
    let here : all_take (take (i + 1) ms) (view x) ≡ (all_take (take i ms) (view x) && takes_labels m (view x)) =
    list_all_more (λ n. takes_labels n (view x)) ms i m within
    ∙ ap (λ n. all_take (take i ms) (view x) && takes_labels n (view x)) (sym is) in
    rw (here, one_more_asked view ms i m within is xs)

-- a failure of one is a failure among them, where nothing was refused before
pub failure_of_one : (ms : List MatcherText) (m : MatcherText) (start old new : Cache) (failure : Failure PatternRefusal) →
    Contains ms m → Stays start old → IsFailureOf m old new failure → IsFailureAmong ms start new failure
failure_of_one ms m start old new OutOfMemory there stays found = stays-trans start old new stays found
failure_of_one ms m start old new (Refused refusal) there stays found = (
  m,
  there,
  record {
    on_pattern = found.on_pattern;
    is_refused = found.is_refused;
    kept = found.kept ∙ ap (λ texts. noted texts m.value) stays.refused;
  },
)

-- ---- what cannot fail

-- a matcher's pattern isn't refused, where all are patterns of which none was refused wrongly
never_refused : (ms : List MatcherText) (m : MatcherText) (new : Cache) (k : ℕ) → k < length ms → slice_index_or ms k m ≡ m →
    is_on_pattern m.operator ≡ true → All IsPattern (patterns_of ms) → AreRefusedRightly new.refused (patterns_of ms) →
    IsPattern m.value × IsRefusedRightly new.refused m.value
never_refused [] m new k within at on patterns rightly = absurd (omega arith)
never_refused (n ∷ ms) m new zero within at on patterns rightly =
    let whole : patterns_of (n ∷ ms) ≡ m.value ∷ patterns_of ms = rw (at, on) in (
      All-head IsPattern m.value (patterns_of ms) (rw whole at patterns),
      All-head (λ p. IsRefusedRightly new.refused p) m.value (patterns_of ms) (rw whole at rightly),
    )
never_refused (n ∷ ms) m new (suc k) within at on patterns rightly =
    elim (cases_Bool (is_on_pattern n.operator)) [
      | inl first ↦ never_refused ms m new k (omega arith) at on
          (All-tail IsPattern n.value (patterns_of ms) (rw first at patterns))
          (All-tail (λ p. IsRefusedRightly new.refused p) n.value (patterns_of ms) (rw first at rightly))
      | inr none ↦ never_refused ms m new k (omega arith) at on (rw none at patterns) (rw none at rightly)
    ]

-- so nothing but memory fails
pub memory_alone : (ms : List MatcherText) (old new : Cache) (failure : Failure PatternRefusal) → IsFailureAmong ms old new failure →
    All IsPattern (patterns_of ms) → AreRefusedRightly new.refused (patterns_of ms) → failure ≡ OutOfMemory
memory_alone ms old new OutOfMemory found patterns rightly = refl
memory_alone ms old new (Refused refusal) (m, there, refused) patterns rightly =
    let both = never_refused ms m new there.0 there.1 there.2 refused.on_pattern patterns rightly in
    absurd ((refused-rightly new m.value refusal refused.is_refused both.1).1 both.0)
