-- How the patterns of matchers are checked one after another.
use Rattle.std.proofs.Common.{◌≡◌, ◌⊎◌, ℕ, suc, ◌≤◌, ◌<◌, ◌+◌, List, [], ◌∷◌, ◌++◌, All, Bool, true, false, ◌&&◌, ◌||◌, not, None, Some, length, take, drop, get_or, refl, sym, ap, ◌∙◌, subst, inl, inr, ⊎_elim, arith, append_assoc, true≢false}
use Rattle.std.specs.List.{list_any}
use Rattle.std.proofs.lemmas.Bool.{cases_Bool, and_left, and_right, and_from}
use Rattle.std.proofs.lemmas.Bool.Decides.{leb_tells}
use Rattle.std.proofs.lemmas.List.{take_more, take-append-drop}
use Rattle.std.proofs.lemmas.List.Elements.{All-append, All-cons, All-nil, All-head, All-tail, All-weaker}
use Rattle.std.proofs.lemmas.List.Folds.{list_any-append, list_any_none}
use Rattle.std.proofs.Math.Seq.{drop-cons}
use Rattle.am_text.specs.declared.failure.Failure.{Failure}
use Rattle.am_text.specs.declared.failure.Failure.TheVariants.{Refused, OutOfMemory}
use Rattle.am_text.specs.Outcome.{Fails}
use Rattle.am_pattern.specs.Asking.{IsRefused, Stays}
use Rattle.am_pattern.specs.Cache.{Cache}
use Rattle.am_pattern.specs.Refused.{noted, IsRefusedRightly}
use Rattle.am_pattern.specs.Taking.{IsPattern, is_pattern, is_shallow}
use Rattle.am_pattern.specs.declared.refusal.PatternRefusal.{PatternRefusal}
use Rattle.am_pattern.specs.declared.refusal.PatternRefusal.TheVariants as pattern
use Rattle.am_pattern.proofs.AskingLemmas.{refused-rightly, stays-trans}
use Rattle.am_pattern.proofs.ReadLemmas.{pattern-shallow}
use Rattle.am_pattern.proofs.Decided.{IsPattern-from_test, test-from_IsPattern}
use Rattle.am_match.specs.declared.refusal.MatcherRefusal.{MatcherRefusal}
use Rattle.am_match.specs.declared.refusal.MatcherRefusal.TheVariants.{NoMatchers, BadPattern, LongPattern, BuildRefused}
use Rattle.am_match.specs.Matchers.{MatcherText, patterns_of, is_on_pattern}
use Rattle.am_match.specs.Checking.{WhereShort, IsFine, is_short, StopsAt, IsPatternRefusal, IsPatternFailure, FailsUnlessBuild, pattern_refusal, unless_refused, AreRefusedRightly}
use Rattle.am_match.specs.Refusals.{refusal_of}

-- ---- the patterns of matchers

-- of two lists, one behind the other
patterns_of-append : (ms ns : List MatcherText) → patterns_of (ms ++ ns) ≡ patterns_of ms ++ patterns_of ns
patterns_of-append [] ns = refl
patterns_of-append (m ∷ ms) ns =
    elim (cases_Bool (is_on_pattern m.operator)) [
      | inl on ↦ rw (on, patterns_of-append ms ns)
      | inr off ↦ rw (off, patterns_of-append ms ns)
    ]

-- the matchers up to the one at i, that one, and those behind it
parted : (ms : List MatcherText) (i : ℕ) (m : MatcherText) → i < length ms → m ≡ get_or ms i m → ms ≡ take i ms ++ (m ∷ drop (i + 1) ms)
parted ms i m within is =
    let next : suc i ≡ i + 1 = omega arith in
    sym (take-append-drop i ms) ∙ ap (λ rest. take i ms ++ rest) (drop-cons ms i m within ∙ rw (← is, next))

-- what holds of the patterns before a matcher, and of its own, holds of those up to the next
pub all_more : (Is : List ℕ → Type 0) (ms : List MatcherText) (i : ℕ) (m : MatcherText) → i < length ms → m ≡ get_or ms i m →
    All Is (patterns_of (take i ms)) → All Is (patterns_of (m ∷ [])) → All Is (patterns_of (take (i + 1) ms))
all_more Is ms i m within is before here =
    let more : take (i + 1) ms ≡ take i ms ++ m ∷ [] = take_more ms i m within ∙ rw (← is) in
    rw (more, patterns_of-append (take i ms) (m ∷ [])) (All-append Is _ _ before here)

-- ---- where the checking stops

-- at a text that was refused
stop_at : (p : List ℕ) (refusal : PatternRefusal) (old new : Cache) → length p ≤ 256 → IsRefused new p refusal →
    new.refused ≡ noted old.refused p → StopsAt (p ∷ []) refusal old new
stop_at p refusal old new short refused kept = record {
  front = [];
  refused = p;
  back = [];
  order = refl;
  fine = All-nil IsFine;
  short = short;
  is_refused = refused;
  kept = kept;
}

-- the same by what was refused
pub refused_at : (p : List ℕ) (refusal : PatternRefusal) (old new : Cache) → length p ≤ 256 → IsRefused new p refusal →
    new.refused ≡ noted old.refused p → IsPatternRefusal (p ∷ []) old new (refusal_of refusal)
refused_at p pattern.BadPattern old new short refused kept = stop_at p pattern.BadPattern old new short refused kept
refused_at p pattern.BuildRefused old new short refused kept = stop_at p pattern.BuildRefused old new short refused kept

-- A stop stays the first one among patterns that are fine and others behind, where nothing was refused before.
widened : (front middle back : List (List ℕ)) (refusal : PatternRefusal) (start old new : Cache) → Stays start old →
    All IsFine front → StopsAt middle refusal old new → StopsAt (front ++ (middle ++ back)) refusal start new
widened front middle back refusal start old new stays fine stop = record {
  front = front ++ stop.front;
  refused = stop.refused;
  back = stop.back ++ back;
  order = rw stop.order (simp append_assoc);
  fine = All-append IsFine _ _ fine stop.fine;
  short = stop.short;
  is_refused = stop.is_refused;
  kept = stop.kept ∙ ap (λ texts. noted texts stop.refused) stays.refused;
}

-- ---- patterns that are too long

-- a pattern of the matchers is too long where one of their patterns is
pub has_long-patterns_of : (ms : List MatcherText) →
    list_any (λ m. is_on_pattern m.operator && not (is_short m.value)) ms ≡ list_any (λ p. not (is_short p)) (patterns_of ms)
has_long-patterns_of [] = refl
has_long-patterns_of (m ∷ ms) =
    elim (cases_Bool (is_on_pattern m.operator)) [
      | inl on ↦ rw (on, has_long-patterns_of ms)
      | inr off ↦ rw (off, has_long-patterns_of ms)
    ]

-- ---- what fine patterns come to

-- a fine text is none that is short and refused
fine_is_not_bad : (p : List ℕ) → IsFine p → (is_short p && not (is_shallow p)) ≡ false
fine_is_not_bad p fine =
    elim (leb_tells (length p) 256) [
      | inl short ↦ and_right (is_short p) (not (is_shallow p)) (ap not (fine short.1))
      | inr long ↦ and_left (is_short p) (not (is_shallow p)) long.0
    ]

-- nor is one of a fine list
none_bad : (ps : List (List ℕ)) → All IsFine ps → list_any (λ p. is_short p && not (is_shallow p)) ps ≡ false
none_bad ps fine = list_any_none _ ps (All-weaker IsFine _ (λ p h. fine_is_not_bad p h) ps fine)

-- nor is one of them a short one that is no pattern
none_no_pattern : (ps : List (List ℕ)) → All IsFine ps → list_any (λ p. is_short p && not (is_pattern p)) ps ≡ false
none_no_pattern ps fine = list_any_none _ ps (All-weaker IsFine _ (λ p h. is_not_bad p h) ps fine)
  where
    is_not_bad : (p : List ℕ) → IsFine p → (is_short p && not (is_pattern p)) ≡ false
    is_not_bad p fine' =
        elim (leb_tells (length p) 256) [
          | inl short ↦ and_right (is_short p) (not (is_pattern p))
              (ap not (test-from_IsPattern p (pattern-shallow p (fine' short.1))))
          | inr long ↦ and_left (is_short p) (not (is_pattern p)) long.0
        ]

-- what holds of the short ones holds of all, where none is too long
pub all_short : (Is : List ℕ → Type 0) (ps : List (List ℕ)) → All (WhereShort Is) ps → list_any (λ p. not (is_short p)) ps ≡ false → All Is ps
all_short Is [] each none = All-nil Is
all_short Is (p ∷ ps) each none =
    elim (leb_tells (length p) 256) [
      | inl short ↦ All-cons Is p ps (All-head (WhereShort Is) p ps each short.1)
          (all_short Is ps (All-tail (WhereShort Is) p ps each) (rw short.0 at none))
      | inr long ↦ absurd (true≢false (rw long.0 at none))
    ]

-- fine patterns of which none is too long are patterns
pub patterns_of_fine : (ps : List (List ℕ)) → All IsFine ps → list_any (λ p. not (is_short p)) ps ≡ false → All IsPattern ps
patterns_of_fine ps fine none =
    All-weaker (λ p. is_shallow p ≡ true) IsPattern (λ p shallow. pattern-shallow p shallow) ps
    (all_short (λ p. is_shallow p ≡ true) ps fine none)

-- and nothing is refused of them
pub fine_passes : (ps : List (List ℕ)) → All IsFine ps → list_any (λ p. not (is_short p)) ps ≡ false →
    pattern_refusal is_shallow ps ≡ None
fine_passes ps fine none = rw (none_bad ps fine, none)

-- a long one is
pub long_refused : (ps : List (List ℕ)) → All IsFine ps → list_any (λ p. not (is_short p)) ps ≡ true →
    pattern_refusal is_shallow ps ≡ Some LongPattern
long_refused ps fine long = rw (none_bad ps fine, long)

-- a pattern is not too long
pattern_is_short : (p : List ℕ) → IsPattern p → not (is_short p) ≡ false
pattern_is_short p is = elim (leb_tells (length p) 256) [ inl short ↦ rw short.0 | inr long ↦ absurd (omega (arith, long.1, is.0)) ]

-- patterns aren't refused, whatever is built
pub patterns_pass : (ps : List (List ℕ)) → All IsPattern ps → pattern_refusal is_pattern ps ≡ None
patterns_pass ps patterns =
    rw (
      list_any_none (λ p. is_short p && not (is_pattern p)) ps (All-weaker IsPattern _ (λ p h. is_not_bad p h) ps patterns),
      list_any_none (λ p. not (is_short p)) ps (All-weaker IsPattern _ (λ p h. pattern_is_short p h) ps patterns),
    )
  where
    is_not_bad : (p : List ℕ) → IsPattern p → (is_short p && not (is_pattern p)) ≡ false
    is_not_bad p is = and_right (is_short p) (not (is_pattern p)) (ap not (test-from_IsPattern p is))

-- ---- what a stop says of the patterns

-- a list with a short one that fails the test
pub bad_among : (test : List ℕ → Bool) (front : List (List ℕ)) (p : List ℕ) (back : List (List ℕ)) → length p ≤ 256 → test p ≡ false →
    list_any (λ q. is_short q && not (test q)) (front ++ p ∷ back) ≡ true
bad_among test front p back short fails =
    let is_short' : is_short p ≡ true = ⊎_elim (λ h. h.0) (λ h. absurd (omega (arith, h.1, short))) (leb_tells (length p) 256) in
    let here : (is_short p && not (test p)) ≡ true = and_from (is_short p) (not (test p)) is_short' (ap not fails) in
    rw (list_any-append, here) (or_true (list_any (λ q. is_short q && not (test q)) front))
  where
    or_true : (b : Bool) → (b || true) ≡ true
    or_true true = refl
    or_true false = refl

-- the pattern at which it stops is refused rightly, so it is none
not_pattern : (ps : List (List ℕ)) (refusal : PatternRefusal) (old new : Cache) (stop : StopsAt ps refusal old new) →
    AreRefusedRightly new.refused ps → (refusal ≡ pattern.BadPattern) × ¬ (IsPattern stop.refused)
not_pattern ps refusal old new stop rightly =
    let parts : AreRefusedRightly new.refused (stop.front ++ (stop.refused ∷ stop.back)) =
    subst (AreRefusedRightly new.refused) stop.order rightly in
    refused-rightly new stop.refused refusal stop.is_refused (among stop.front parts)
  where
    among : (front : List (List ℕ)) → AreRefusedRightly new.refused (front ++ (stop.refused ∷ stop.back)) →
        IsRefusedRightly new.refused stop.refused
    among [] rightly' = All-head (λ p. IsRefusedRightly new.refused p) stop.refused stop.back rightly'
    among (q ∷ qs) rightly' =
        among qs (All-tail (λ p. IsRefusedRightly new.refused p) q (qs ++ (stop.refused ∷ stop.back)) rightly')

-- the refusal of patterns is the one that they are read with, unless it is of a build
refusal_read : (ps : List (List ℕ)) (old new : Cache) (refusal : MatcherRefusal) → IsPatternRefusal ps old new refusal →
    (refusal ≡ BuildRefused) ⊎ (pattern_refusal is_shallow ps ≡ Some refusal)
refusal_read ps old new NoMatchers found = absurd found
refusal_read ps old new BadPattern found =
    inr (rw found.order (rw (bad_among is_shallow found.front found.refused found.back found.short found.is_refused.0)))
refusal_read ps old new BuildRefused found = inl refl
refusal_read ps old new LongPattern found = inr (long_refused ps found.0 found.1)

-- and the one that they have whatever is built, where none was refused wrongly
refusal_meant : (ps : List (List ℕ)) (old new : Cache) (refusal : MatcherRefusal) → IsPatternRefusal ps old new refusal →
    AreRefusedRightly new.refused ps → pattern_refusal is_pattern ps ≡ Some refusal
refusal_meant ps old new NoMatchers found rightly = absurd found
refusal_meant ps old new BadPattern found rightly =
    let none = (not_pattern ps pattern.BadPattern old new found rightly).1 in
    let no : is_pattern found.refused ≡ false =
    ⊎_elim (λ yes'. absurd (none (IsPattern-from_test found.refused yes'))) (λ no'. no') (cases_Bool (is_pattern found.refused)) in
    rw found.order (rw (bad_among is_pattern found.front found.refused found.back found.short no))
refusal_meant ps old new BuildRefused found rightly =
    let other = (not_pattern ps pattern.BuildRefused old new found rightly).0 in cc
refusal_meant ps old new LongPattern found rightly = rw (none_no_pattern ps found.0, found.1)

-- ---- failures

-- the test of a length tells it
short_below : (p : List ℕ) → is_short p ≡ true → length p ≤ 256
short_below p short = ⊎_elim (λ below. below.1) (λ long. absurd (true≢false (sym short ∙ long.0))) (leb_tells (length p) 256)

-- a bad pattern is no refused build
bad_is_no_build : ¬ (BadPattern ≡ BuildRefused)
bad_is_no_build same = cc

-- all patterns, by the one of a matcher
whole_of : (ms : List MatcherText) (i : ℕ) (m : MatcherText) (p : List ℕ) → i < length ms → m ≡ get_or ms i m →
    patterns_of (m ∷ []) ≡ p ∷ [] → patterns_of ms ≡ patterns_of (take i ms) ++ ((p ∷ []) ++ patterns_of (drop (i + 1) ms))
whole_of ms i m p within is one =
    ap patterns_of (parted ms i m within is) ∙ patterns_of-append (take i ms) (m ∷ drop (i + 1) ms)
    ∙ ap (λ rest. patterns_of (take i ms) ++ rest)
    (patterns_of-append (m ∷ []) (drop (i + 1) ms) ∙ ap (λ here. here ++ patterns_of (drop (i + 1) ms)) one)

-- what holds of a matcher's short pattern holds of all that it has
pub short_here : (Is : List ℕ → Type 0) (m : MatcherText) (p : List ℕ) → patterns_of (m ∷ []) ≡ p ∷ [] → Is p →
    All (WhereShort Is) (patterns_of (m ∷ []))
short_here Is m p one is = rw one (All-cons (WhereShort Is) p [] (λ _. is) (All-nil (WhereShort Is)))

-- where there is no short one, anything does
pub short_without : (Is : List ℕ → Type 0) (ps : List (List ℕ)) → list_any is_short ps ≡ false → All (WhereShort Is) ps
short_without Is [] none = All-nil (WhereShort Is)
short_without Is (p ∷ ps) none =
    elim (leb_tells (length p) 256) [
      | inl short ↦ absurd (true≢false (rw short.0 at none))
      | inr long ↦ All-cons (WhereShort Is) p ps (λ short. absurd (omega (arith, long.1, short))) (short_without Is ps (rw long.0 at none))
    ]

-- what a failure says of what patterns are read with
pub failure_read : {Y : Type 0} (ps : List (List ℕ)) (old new : Cache) (failure : Failure MatcherRefusal) (y : Y) →
    IsPatternFailure ps old new failure → FailsUnlessBuild failure (unless_refused (pattern_refusal is_shallow ps) y)
failure_read ps old new OutOfMemory y found = tt
failure_read ps old new (Refused NoMatchers) y found = absurd found
failure_read ps old new (Refused BuildRefused) y found = tt
failure_read ps old new (Refused BadPattern) y found =
    rw (⊎_elim (λ other. absurd (bad_is_no_build other)) (λ is. is) (refusal_read ps old new BadPattern found))
failure_read ps old new (Refused LongPattern) y found = rw (long_refused ps found.0 found.1)

-- and of what they mean, where none was refused wrongly
pub failure_meant : {Y : Type 0} (ps : List (List ℕ)) (old new : Cache) (failure : Failure MatcherRefusal) (y : Y) →
    IsPatternFailure ps old new failure → AreRefusedRightly new.refused ps →
    Fails failure (unless_refused (pattern_refusal is_pattern ps) y)
failure_meant ps old new OutOfMemory y found rightly = tt
failure_meant ps old new (Refused refusal) y found rightly = rw (refusal_meant ps old new refusal found rightly)

-- A failure at a matcher's short pattern is one of all patterns, where those before it are fine.
pub failure_among : (ms : List MatcherText) (i : ℕ) (m : MatcherText) (p : List ℕ) (start old new : Cache)
    (failure : Failure MatcherRefusal) → i < length ms → m ≡ get_or ms i m → All IsFine (patterns_of (take i ms)) →
    patterns_of (m ∷ []) ≡ p ∷ [] → is_short p ≡ true → Stays start old → IsPatternFailure (p ∷ []) old new failure →
    IsPatternFailure (patterns_of ms) start new failure
failure_among ms i m p start old new OutOfMemory within is fine one short stays found = stays-trans start old new stays found
failure_among ms i m p start old new (Refused NoMatchers) within is fine one short stays found = absurd found
failure_among ms i m p start old new (Refused LongPattern) within is fine one short stays found =
    absurd (true≢false (sym found.1 ∙ rw short))
failure_among ms i m p start old new (Refused BadPattern) within is fine one short stays found =
    rw (whole_of ms i m p within is one) (widened _ _ _ pattern.BadPattern start old new stays fine found)
failure_among ms i m p start old new (Refused BuildRefused) within is fine one short stays found =
    rw (whole_of ms i m p within is one) (widened _ _ _ pattern.BuildRefused start old new stays fine found)

-- a short pattern that the grammar refuses is bad among all
pub bad_at : (ms : List MatcherText) (i : ℕ) (m : MatcherText) (p : List ℕ) → i < length ms → m ≡ get_or ms i m →
    patterns_of (m ∷ []) ≡ p ∷ [] → is_short p ≡ true → is_shallow p ≡ false →
    pattern_refusal is_shallow (patterns_of ms) ≡ Some BadPattern
bad_at ms i m p within is one short fails =
    rw (whole_of ms i m p within is one)
    (rw (bad_among is_shallow (patterns_of (take i ms)) p (patterns_of (drop (i + 1) ms)) (short_below p short) fails))

-- a long one is refused too, whatever is built
pub long_meant : (ps : List (List ℕ)) → All IsFine ps → list_any (λ p. not (is_short p)) ps ≡ true →
    pattern_refusal is_pattern ps ≡ Some LongPattern
long_meant ps fine long = rw (none_no_pattern ps fine, long)
