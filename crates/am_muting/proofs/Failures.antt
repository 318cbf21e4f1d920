-- Patterns that give no answer.
use Rattle.std.proofs.Common.{◌≡◌, ℕ, zero, suc, ◌<◌, List, [], ◌∷◌, ◌++◌, true, length, slice_index_or, refl, sym, ap, ◌∙◌, inl, inr, append-nil, append_assoc, arith}
use Rattle.std.specs.List.{Contains}
use Rattle.std.proofs.lemmas.Bool.{cases_Bool}
use Rattle.am_text.specs.Outcome.{ForRefused}
use Rattle.am_text.specs.declared.failure.Failure.{Failure}
use Rattle.am_text.specs.declared.failure.Failure.TheVariants.{Refused, OutOfMemory}
use Rattle.std.proofs.lemmas.List.Elements.{All-append, All-cons, All-nil, All-weaker}
use Rattle.am_pattern.specs.Asking.{IsRefused, Stays}
use Rattle.am_pattern.specs.Cache.{Cache}
use Rattle.am_pattern.specs.Refused.{has_text, noted}
use Rattle.am_pattern.specs.Taking.{IsPattern, is_pattern}
use Rattle.am_pattern.specs.declared.refusal.PatternRefusal.{PatternRefusal}
use Rattle.am_pattern.specs.declared.refusal.PatternRefusal.TheVariants.{BadPattern, BuildRefused}
use Rattle.am_match.specs.Asking.{IsFailureAmong}
use Rattle.am_match.specs.Matchers.{MatcherText, is_on_pattern, patterns_of}
use Rattle.am_muting.specs.Failing.{AddsAmong, AddsOnly, HasUnanswered}

pub unanswered_later : (refused xs ys : List (List ℕ)) → ((text : List ℕ) → Contains xs text → Contains ys text) → HasUnanswered refused xs → HasUnanswered refused ys
unanswered_later refused xs ys among found = (found.0, (among found.0 found.1.0, found.1.1))

-- ---- matchers that give no answer

unless_pattern : (cache : Cache) (p : List ℕ) (refusal : PatternRefusal) → IsRefused cache p refusal → IsPattern p → has_text cache.refused p ≡ true
unless_pattern cache p BadPattern (deep, there) pattern = there pattern
unless_pattern cache p BuildRefused (shallow, is, there) pattern = there

later : {X : Type 0} (y : X) (xs : List X) (x : X) → Contains xs x → Contains (y ∷ xs) x
later y xs x (k, within, is) = (suc k, omega (arith, within), is)

-- the pattern of a matcher is among those of all
pattern_of : (ms : List MatcherText) (m : MatcherText) (k : ℕ) → k < length ms → slice_index_or ms k m ≡ m → is_on_pattern m.operator ≡ true →
    Contains (patterns_of ms) m.value
pattern_of [] m k within at on = absurd (omega (arith, within))
pattern_of (n ∷ ms) m zero within at on =
    let whole : patterns_of (n ∷ ms) ≡ m.value ∷ patterns_of ms = rw (at, on) in
    let here : Contains (m.value ∷ patterns_of ms) m.value = (0, omega arith, refl) in
    rw whole here
pattern_of (n ∷ ms) m (suc k) within at on =
    let there = pattern_of ms m k (omega (arith, within)) at on in
    elim (cases_Bool (is_on_pattern n.operator)) [
      | inl first ↦ rw first (later n.value (patterns_of ms) m.value there)
      | inr none ↦ rw none there
    ]

-- the pattern of a matcher that fails gives no answer
pub unanswered_matcher : (ms : List MatcherText) (old new : Cache) (refusal : PatternRefusal) → IsFailureAmong ms old new (Refused refusal) →
    HasUnanswered new.refused (patterns_of ms)
unanswered_matcher ms old new refusal (m, there, refused) =
    (m.value, (pattern_of ms m there.0 there.1 there.2 refused.on_pattern, unless_pattern new m.value refusal refused.is_refused))

-- the same of a failure, among more texts
pub unanswered_by : (ms : List MatcherText) (old new : Cache) (texts : List (List ℕ)) (failure : Failure PatternRefusal) →
    ((text : List ℕ) → Contains (patterns_of ms) text → Contains texts text) → IsFailureAmong ms old new failure →
    ForRefused failure (λ refusal. HasUnanswered new.refused texts)
unanswered_by ms old new texts OutOfMemory among failed = tt
unanswered_by ms old new texts (Refused refusal) among failed =
    unanswered_later new.refused (patterns_of ms) texts among (unanswered_matcher ms old new refusal failed)

-- ---- the texts that are refused more

pub adds_nothing : (IsSuch : List ℕ → Type 0) (old new : List (List ℕ)) → new ≡ old → AddsOnly IsSuch old new
adds_nothing IsSuch old new same = record { more = []; refused = same ∙ sym (append-nil old); each = All-nil IsSuch }

pub adds_weaker : (IsSuch Other : List ℕ → Type 0) (old new : List (List ℕ)) → ((text : List ℕ) → IsSuch text → Other text) →
    AddsOnly IsSuch old new → AddsOnly Other old new
adds_weaker IsSuch Other old new weaker adds =
    record { more = adds.more; refused = adds.refused; each = All-weaker IsSuch Other weaker adds.more adds.each }

pub adds_both : (IsSuch : List ℕ → Type 0) (old mid new : List (List ℕ)) → AddsOnly IsSuch old mid → AddsOnly IsSuch mid new → AddsOnly IsSuch old new
adds_both IsSuch old mid new first next = record {
  more = first.more ++ next.more;
  refused = next.refused ∙ ap (λ texts. texts ++ next.more) first.refused ∙ simp append_assoc;
  each = All-append IsSuch first.more next.more first.each next.each;
}

-- of more texts
pub adds_among : (xs ys old new : List (List ℕ)) → ((text : List ℕ) → Contains xs text → Contains ys text) → AddsAmong xs old new →
    AddsAmong ys old new
adds_among xs ys old new among adds = adds_weaker (λ text. Contains xs text) (λ text. Contains ys text) old new among adds

-- behind a call that refused nothing
pub adds_behind : (IsSuch : List ℕ → Type 0) (start old : Cache) (new : List (List ℕ)) → Stays start old → AddsOnly IsSuch old.refused new →
    AddsOnly IsSuch start.refused new
adds_behind IsSuch start old new stays adds =
    record { more = adds.more; refused = adds.refused ∙ ap (λ texts. texts ++ adds.more) stays.refused; each = adds.each }

-- one that is noted
pub adds_noted : (IsSuch : List ℕ → Type 0) (old new : List (List ℕ)) (p : List ℕ) → IsSuch p → new ≡ noted old p → AddsOnly IsSuch old new
adds_noted IsSuch old new p such is =
    elim (cases_Bool (is_pattern p)) [
      | inr isnt ↦ adds_nothing IsSuch old new (rw isnt at is)
      | inl pattern ↦ elim (cases_Bool (has_text old p)) [
        | inl there ↦ adds_nothing IsSuch old new (rw (pattern, there) at is)
        | inr new' ↦ record { more = p ∷ []; refused = rw (pattern, new') at is; each = All-cons IsSuch p [] such (All-nil IsSuch) }
      ]
    ]

-- a failure of matchers adds one of their patterns at most
pub adds_by : (ms : List MatcherText) (start old new : Cache) (texts : List (List ℕ)) (failure : Failure PatternRefusal) → Stays start old →
    ((text : List ℕ) → Contains (patterns_of ms) text → Contains texts text) → IsFailureAmong ms old new failure →
    AddsAmong texts start.refused new.refused
adds_by ms start old new texts OutOfMemory stays among failed =
    adds_nothing (λ text. Contains texts text) start.refused new.refused (failed.refused ∙ stays.refused)
adds_by ms start old new texts (Refused refusal) stays among (m, there, refused) =
    adds_noted (λ text. Contains texts text) start.refused new.refused m.value
    (among m.value (pattern_of ms m there.0 there.1 there.2 refused.on_pattern)) (refused.kept ∙ ap (λ known. noted known m.value) stays.refused)
