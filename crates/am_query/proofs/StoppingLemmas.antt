-- How the parameters of a query are judged one after another, up to the first that is refused.
use Rattle.std.proofs.Common.{◌≡◌, ℕ, suc, ◌<◌, ◌≤◌, ◌+◌, Bool, List, [], ◌∷◌, ◌++◌, true, false, Option, Some, None, Result, Ok, Err, IfErr, length, take, drop, get_or, chars, refl, sym, ap, ◌∙◌, arith, append-nil}
use Rattle.std.specs.Prelude.{OnOk, if◌then◌else◌, is_ok}
use Rattle.std.specs.List.{list_all}
use Rattle.std.proofs.lemmas.Bool.{and_from}
use Rattle.std.proofs.lemmas.List.{drop_all, take_more, take-append-drop}
use Rattle.std.proofs.lemmas.List.Folds.{list_all-append}
use Rattle.std.proofs.Math.Seq.{drop-cons}
use Rattle.am_text.specs.Outcome.{Gives}
use Rattle.am_text.specs.declared.failure.Failure.{Failure}
use Rattle.am_text.specs.declared.failure.Failure.TheVariants.{Refused, OutOfMemory}
use Rattle.am_pattern.specs.Asking.{Stays}
use Rattle.am_pattern.specs.Cache.{Cache}
use Rattle.am_pattern.specs.Refused.{noted}
use Rattle.am_pattern.specs.declared.refusal.PatternRefusal.{PatternRefusal}
use Rattle.am_pattern.specs.declared.refusal.PatternRefusal.TheVariants as pattern
use Rattle.am_pattern.proofs.AskingLemmas.{stays-refl, stays-trans}
use Rattle.am_match.specs.Checking.{IsPatternRefusal, IsTextRefusal, StopsAt as StopsAtPattern}
use Rattle.am_match.specs.Matchers.{MatcherText, patterns_of}
use Rattle.am_match.specs.Reading.{matchers_of}
use Rattle.am_match.specs.declared.refusal.MatcherRefusal.{MatcherRefusal}
use Rattle.am_match.specs.declared.refusal.MatcherRefusal.TheVariants as matcher
use Rattle.am_query.specs.declared.query.Kind.{Kind}
use Rattle.am_query.specs.declared.query.Kind.TheVariants.{Filter, Receiver, Flag, Unknown}
use Rattle.am_query.specs.declared.query.Parameter.{Parameter}
use Rattle.am_query.specs.declared.refusal.QueryRefusal.{QueryRefusal}
use Rattle.am_query.specs.declared.refusal.QueryRefusal.TheVariants.{BadFlag, BadMatcher}
use Rattle.am_query.specs.Queries.{flag_judged, kind_of}
use Rattle.am_query.specs.Stopping.{IsParameterFailure, IsParameterRefusal, IsStopOf, is_fine, passes}

-- ---- a flag

flag_by : (b : Bool) (refusal : QueryRefusal) →
    (let outcome : Result (List MatcherText) QueryRefusal = if b then Ok [] else Err BadFlag in outcome) ≡ Err refusal → refusal ≡ BadFlag
flag_by true refusal e = absurd (cc)
flag_by false refusal e = cc

flag_refused : (value : List ℕ) (c : Cache) (refusal : QueryRefusal) → flag_judged value ≡ Err refusal → IsParameterRefusal Flag value c c refusal
flag_refused value c BadFlag e = (e, stays-refl c)
flag_refused value c (BadMatcher refusal) e = let other = flag_by _ (BadMatcher refusal) e in absurd (cc)

pub flag_failed : {X : Type 0} (view : X → List MatcherText) (value : List ℕ) (c : Cache) (result : Result X (Failure QueryRefusal)) →
    Gives view result (flag_judged value) → IfErr result (IsParameterFailure Flag value c c)
flag_failed view value c (Ok x) gives = tt
flag_failed view value c (Err OutOfMemory) gives = stays-refl c
flag_failed view value c (Err (Refused refusal)) gives = flag_refused value c refusal gives

pub flag_passes : {X : Type 0} (view : X → List MatcherText) (value : List ℕ) (result : Result X (Failure QueryRefusal)) →
    Gives view result (flag_judged value) → OnOk result (passes Flag value ≡ true)
flag_passes view value (Ok x) gives = ap is_ok gives
flag_passes view value (Err failure) gives = tt

-- ---- a refusal, where nothing was refused before

stop_since : (ps : List (List ℕ)) (refusal : PatternRefusal) (start old new : Cache) → Stays start old → StopsAtPattern ps refusal old new →
    StopsAtPattern ps refusal start new
stop_since ps refusal start old new stays stop = record {
  front = stop.front;
  refused = stop.refused;
  back = stop.back;
  order = stop.order;
  fine = stop.fine;
  short = stop.short;
  is_refused = stop.is_refused;
  kept = stop.kept ∙ ap (λ texts. noted texts stop.refused) stays.refused;
}

patterns_since : (ps : List (List ℕ)) (start old new : Cache) (refusal : MatcherRefusal) → Stays start old → IsPatternRefusal ps old new refusal →
    IsPatternRefusal ps start new refusal
patterns_since ps start old new matcher.NoMatchers stays found = absurd found
patterns_since ps start old new matcher.BadPattern stays found = stop_since ps pattern.BadPattern start old new stays found
patterns_since ps start old new matcher.LongPattern stays found = (found.0, found.1, stays-trans start old new stays found.2)
patterns_since ps start old new matcher.BuildRefused stays found = stop_since ps pattern.BuildRefused start old new stays found

text_since : (spelled : Option (List MatcherText)) (start old new : Cache) (refusal : MatcherRefusal) → Stays start old →
    IsTextRefusal spelled old new refusal → IsTextRefusal spelled start new refusal
text_since None start old new matcher.NoMatchers stays found = stays-trans start old new stays found
text_since None start old new matcher.BadPattern stays found = absurd found
text_since None start old new matcher.LongPattern stays found = absurd found
text_since None start old new matcher.BuildRefused stays found = absurd found
text_since (Some ms) start old new refusal stays found = patterns_since (patterns_of ms) start old new refusal stays found

parameter_since : (kind : Kind) (value : List ℕ) (start old new : Cache) (refusal : QueryRefusal) → Stays start old →
    IsParameterRefusal kind value old new refusal → IsParameterRefusal kind value start new refusal
parameter_since Filter value start old new BadFlag stays found = absurd found
parameter_since Filter value start old new (BadMatcher refusal) stays found = text_since (matchers_of (chars value)) start old new refusal stays found
parameter_since Receiver value start old new BadFlag stays found = absurd found
parameter_since Receiver value start old new (BadMatcher refusal) stays found = patterns_since (value ∷ []) start old new refusal stays found
parameter_since Flag value start old new BadFlag stays found = (found.0, stays-trans start old new stays found.1)
parameter_since Flag value start old new (BadMatcher refusal) stays found = absurd found
parameter_since Unknown value start old new refusal stays found = absurd found

-- ---- in the loop over the parameters

module _ (ps : List Parameter) (i : ℕ) (p : Parameter) (within : i < length ps) (is : p ≡ get_or ps i p) where
  -- the parameters up to the one at i, that one, and those behind it
  parted : ps ≡ take i ps ++ (p ∷ drop (i + 1) ps)
  parted =
      let next : suc i ≡ i + 1 = omega arith in
      sym (take-append-drop i ps) ∙ ap (λ rest. take i ps ++ rest) (drop-cons ps i p within ∙ rw (← is, next))

  -- those up to the next one are fine
  pub fine_more : list_all is_fine (take i ps) ≡ true → is_fine p ≡ true → list_all is_fine (take (i + 1) ps) ≡ true
  fine_more before here =
      rw (take_more ps i p within, ← is) (list_all-append is_fine (take i ps) (p ∷ []) ∙ and_from _ _ before (and_from _ _ here refl))

  -- where one is refused, the judging stops
  pub stop_among : (start old new : Cache) (failure : Failure QueryRefusal) → list_all is_fine (take i ps) ≡ true → Stays start old →
      IsParameterFailure (kind_of p.name) p.value old new failure → IsStopOf ps start new failure
  stop_among start old new OutOfMemory before stays fails = stays-trans start old new stays fails
  stop_among start old new (Refused refusal) before stays fails = record {
    front = take i ps;
    parameter = p;
    back = drop (i + 1) ps;
    order = parted;
    before = before;
    is_refusal = parameter_since (kind_of p.name) p.value start old new refusal stays fails;
  }

-- once all were judged
pub all_fine : (ps : List Parameter) (i : ℕ) → length ps ≤ i → list_all is_fine (take i ps) ≡ true → list_all is_fine ps ≡ true
all_fine ps i past fine =
    let whole : take i ps ≡ ps = sym (append-nil (take i ps)) ∙ ap (λ rest. take i ps ++ rest) (sym (drop_all i ps past)) ∙ take-append-drop i ps in
    rw whole at fine
