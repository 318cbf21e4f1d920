-- Which pattern decides where one is refused.
use Rattle.std.proofs.Common.{◌≡◌, ℕ, zero, suc, ◌<◌, List, [], ◌∷◌, ◌++◌, All, Bool, true, false, ◌&&◌, ◌||◌, not, Ok, Err, length, slice_index_or, sym, ap, ◌∙◌, inl, inr, arith, true≢false}
use Rattle.std.specs.List.{list_any}
use Rattle.std.proofs.lemmas.Bool.{cases_Bool}
use Rattle.std.proofs.lemmas.Bool.Decides.{leb_tells}
use Rattle.std.proofs.lemmas.List.Elements.{All-nil, All-cons, All-head, All-tail}
use Rattle.am_text.specs.Outcome.{ForRefused}
use Rattle.am_text.specs.declared.failure.Failure.{Failure}
use Rattle.am_text.specs.declared.failure.Failure.TheVariants as failures
use Rattle.am_pattern.specs.Asking.{Stays}
use Rattle.am_pattern.specs.Cache.{Cache}
use Rattle.am_pattern.proofs.AskingLemmas.{stays-trans}
use Rattle.am_pattern.specs.Refused.{noted}
use Rattle.am_pattern.specs.Taking.{IsPattern, is_shallow}
use Rattle.am_pattern.specs.declared.refusal.PatternRefusal.{PatternRefusal}
use Rattle.am_pattern.specs.declared.refusal.PatternRefusal.TheVariants as pattern
use Rattle.am_match.specs.Asking.{IsFailureAmong, IsRefusalOf}
use Rattle.am_match.specs.Checking.{IsFine, IsPatternRefusal, StopsAt, is_short, pattern_refusal, unless_refused}
use Rattle.am_match.specs.Matchers.{MatcherText, is_on_pattern, patterns_of}
use Rattle.am_match.specs.declared.refusal.MatcherRefusal.{MatcherRefusal}
use Rattle.am_match.specs.declared.refusal.MatcherRefusal.TheVariants.{NoMatchers, BadPattern, LongPattern, BuildRefused}
use Rattle.am_silence.specs.Deciding.{FailsFirst, FirstDecides, IsOfNoPattern}
use Rattle.am_silence.specs.Posted.{patterns_named, some_named}
use Rattle.am_silence.specs.declared.written.WrittenMatcher.{WrittenMatcher}
use Rattle.am_silence.specs.declared.refusal.SilenceRefusal.{SilenceRefusal}
use Rattle.am_silence.specs.declared.refusal.SilenceRefusal.TheVariants.{WithoutMatchers, TakesEmpty, EndsByStart, Unknown, Ended, BadForm, BadMatcher}

-- patterns that are refused
pub patterns_decide : (ps : List (List ℕ)) (old new : Cache) (refusal : MatcherRefusal) → IsPatternRefusal ps old new refusal →
    FirstDecides ps old new (BadMatcher refusal)
patterns_decide ps old new NoMatchers found = absurd found
patterns_decide ps old new BadPattern found = found
patterns_decide ps old new LongPattern found = found
patterns_decide ps old new BuildRefused found = found

-- no pattern is refused
of_none : (ps : List (List ℕ)) (old new : Cache) (refusal : SilenceRefusal) → Stays old new → IsOfNoPattern refusal → FirstDecides ps old new refusal
of_none ps old new (BadMatcher NoMatchers) stays none = stays
of_none ps old new (BadMatcher BadPattern) stays none = absurd none
of_none ps old new (BadMatcher LongPattern) stays none = absurd none
of_none ps old new (BadMatcher BuildRefused) stays none = absurd none
of_none ps old new WithoutMatchers stays none = stays
of_none ps old new TakesEmpty stays none = stays
of_none ps old new EndsByStart stays none = stays
of_none ps old new Unknown stays none = stays
of_none ps old new Ended stays none = stays
of_none ps old new BadForm stays none = stays

pub none_decides : (ps : List (List ℕ)) (old new : Cache) (failure : Failure SilenceRefusal) → Stays old new → ForRefused failure IsOfNoPattern →
    FailsFirst ps old new failure
none_decides ps old new failures.OutOfMemory stays none = stays
none_decides ps old new (failures.Refused refusal) stays none = of_none ps old new refusal stays none

-- ---- patterns that were checked

or_right : (a b : Bool) → (a || b) ≡ false → b ≡ false
or_right true b e = absurd (true≢false e)
or_right false b e = e

not_bad : (short shallow rest : Bool) → short ≡ true → shallow ≡ false → ((short && not shallow) || rest) ≡ false → ⊥
not_bad true true rest is deep none = true≢false deep
not_bad true false rest is deep none = true≢false none
not_bad false shallow rest is deep none = true≢false (sym is)

-- none of the short ones is refused
fine_from_none : (ps : List (List ℕ)) → list_any (λ p. is_short p && not (is_shallow p)) ps ≡ false → All IsFine ps
fine_from_none [] none = All-nil IsFine
fine_from_none (p ∷ ps) none =
    let later = fine_from_none ps (or_right (is_short p && not (is_shallow p)) (list_any (λ q. is_short q && not (is_shallow q)) ps) none) in
    elim (cases_Bool (is_shallow p)) [
      | inl shallow ↦ All-cons IsFine p ps (λ _. shallow) later
      | inr deep ↦ elim (leb_tells (length p) 256) [
        | inl short ↦ absurd (not_bad (is_short p) (is_shallow p) (list_any (λ q. is_short q && not (is_shallow q)) ps) short.0 deep none)
        | inr long ↦ All-cons IsFine p ps (λ short. absurd (omega (arith, long.1, short))) later
      ]
    ]

-- patterns that pass are fine
pub fine_passed : (ps : List (List ℕ)) → unless_refused (pattern_refusal is_shallow ps) (tt {0}) ≡ Ok tt → All IsFine ps
fine_passed ps passed =
    elim (cases_Bool (list_any (λ p. is_short p && not (is_shallow p)) ps)) [
      | inl bad ↦ absurd (let clash : Err BadPattern ≡ Ok tt = rw bad at passed in cc)
      | inr none ↦ fine_from_none ps none
    ]

-- ---- patterns that are asked for again

-- where a pattern stands among those that passed
record Placed (ps : List (List ℕ)) (p : List ℕ) : Type 0 where
  pub front : List (List ℕ)
  pub back : List (List ℕ)
  pub order : ps ≡ front ++ p ∷ back
  pub fine : All IsFine front
  pub here : IsFine p
  pub is_pattern : IsPattern p

placed : (ms : List MatcherText) (m : MatcherText) (k : ℕ) → k < length ms → slice_index_or ms k m ≡ m → is_on_pattern m.operator ≡ true →
    All IsFine (patterns_of ms) → All IsPattern (patterns_of ms) → Placed (patterns_of ms) m.value
placed [] m k within at on fine patterns = absurd (omega arith)
placed (n ∷ ms) m zero within at on fine patterns =
    let whole : patterns_of (n ∷ ms) ≡ m.value ∷ patterns_of ms = rw (at, on) in
    record {
      front = [];
      back = patterns_of ms;
      order = whole;
      fine = All-nil IsFine;
      here = All-head IsFine m.value (patterns_of ms) (rw whole at fine);
      is_pattern = All-head IsPattern m.value (patterns_of ms) (rw whole at patterns);
    }
placed (n ∷ ms) m (suc k) within at on fine patterns =
    elim (cases_Bool (is_on_pattern n.operator)) [
      | inl first ↦ (
          let whole : patterns_of (n ∷ ms) ≡ n.value ∷ patterns_of ms = rw first in
          let fine' : All IsFine (n.value ∷ patterns_of ms) = rw whole at fine in
          let patterns' : All IsPattern (n.value ∷ patterns_of ms) = rw whole at patterns in
          let rest = placed ms m k (omega arith) at on (All-tail IsFine n.value (patterns_of ms) fine') (All-tail IsPattern n.value (patterns_of ms) patterns') in
          record {
            front = n.value ∷ rest.front;
            back = rest.back;
            order = rw whole (ap (λ ps. n.value ∷ ps) rest.order);
            fine = All-cons IsFine n.value rest.front (All-head IsFine n.value (patterns_of ms) fine') rest.fine;
            here = rest.here;
            is_pattern = rest.is_pattern;
          })
      | inr other ↦ (
          let whole : patterns_of (n ∷ ms) ≡ patterns_of ms = rw other in
          let rest = placed ms m k (omega arith) at on (rw whole at fine) (rw whole at patterns) in
          record {
            front = rest.front;
            back = rest.back;
            order = rw whole rest.order;
            fine = rest.fine;
            here = rest.here;
            is_pattern = rest.is_pattern;
          })
    ]

-- one that is refused then was refused a build
refused_again : (ps : List (List ℕ)) (m : MatcherText) (old new : Cache) (refusal : PatternRefusal) → Placed ps m.value →
    IsRefusalOf m old new refusal → StopsAt ps pattern.BuildRefused old new
refused_again ps m old new pattern.BadPattern place found =
    absurd (true≢false (sym (place.here place.is_pattern.0) ∙ found.is_refused.0))
refused_again ps m old new pattern.BuildRefused place found = record {
  front = place.front;
  refused = m.value;
  back = place.back;
  order = place.order;
  fine = place.fine;
  short = place.is_pattern.0;
  is_refused = found.is_refused;
  kept = found.kept;
}

pub asked_again : (ms : List MatcherText) (old new : Cache) (refusal : PatternRefusal) → All IsFine (patterns_of ms) → All IsPattern (patterns_of ms) →
    IsFailureAmong ms old new (failures.Refused refusal) → FirstDecides (patterns_of ms) old new (BadMatcher BuildRefused)
asked_again ms old new refusal fine patterns (m, (k, within, at), found) =
    refused_again (patterns_of ms) m old new refusal (placed ms m k within at found.on_pattern fine patterns) found

-- ---- from one call to the next

-- matchers that are named have the patterns that decide
pub named_decide : (ws : List WrittenMatcher) (ms : List MatcherText) (old new : Cache) (failure : Failure SilenceRefusal) → some_named ws ≡ Ok ms →
    FailsFirst (patterns_of ms) old new failure → FailsFirst (patterns_named (some_named ws)) old new failure
named_decide ws ms old new failure named' decides = rw named' decides

-- a stop behind a call that refused nothing
stops_behind : (ps : List (List ℕ)) (refusal : PatternRefusal) (start old new : Cache) → Stays start old → StopsAt ps refusal old new → StopsAt ps refusal start new
stops_behind ps refusal start old new stays stop = record {
  front = stop.front;
  refused = stop.refused;
  back = stop.back;
  order = stop.order;
  fine = stop.fine;
  short = stop.short;
  is_refused = stop.is_refused;
  kept = stop.kept ∙ ap (λ texts. noted texts stop.refused) stays.refused;
}

behind_one : (ps : List (List ℕ)) (start old new : Cache) (refusal : SilenceRefusal) → Stays start old → FirstDecides ps old new refusal →
    FirstDecides ps start new refusal
behind_one ps start old new (BadMatcher NoMatchers) stays first = stays-trans start old new stays first
behind_one ps start old new (BadMatcher BadPattern) stays first = stops_behind ps pattern.BadPattern start old new stays first
behind_one ps start old new (BadMatcher BuildRefused) stays first = stops_behind ps pattern.BuildRefused start old new stays first
behind_one ps start old new (BadMatcher LongPattern) stays first = (first.0, first.1, stays-trans start old new stays first.2)
behind_one ps start old new WithoutMatchers stays first = stays-trans start old new stays first
behind_one ps start old new TakesEmpty stays first = stays-trans start old new stays first
behind_one ps start old new EndsByStart stays first = stays-trans start old new stays first
behind_one ps start old new Unknown stays first = stays-trans start old new stays first
behind_one ps start old new Ended stays first = stays-trans start old new stays first
behind_one ps start old new BadForm stays first = stays-trans start old new stays first

pub behind : (ps : List (List ℕ)) (start old new : Cache) (failure : Failure SilenceRefusal) → Stays start old → FailsFirst ps old new failure →
    FailsFirst ps start new failure
behind ps start old new failures.OutOfMemory stays first = stays-trans start old new stays first
behind ps start old new (failures.Refused refusal) stays first = behind_one ps start old new refusal stays first
