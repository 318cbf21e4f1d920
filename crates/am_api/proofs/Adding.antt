-- The texts that are refused more once a request was decided: patterns of its own, or stored ones that it asked.
use Rattle.std.proofs.Common.{◌≡◌, ℕ, List, [], ◌∷◌, ◌++◌, ◌⊎◌, Option, Some, None, Result, Ok, Err, OnErr, chars, refl, sym, subst, inl, inr, arith}
use Rattle.std.specs.List.{Contains, flat_map}
use Rattle.std.proofs.lemmas.Grind.{flat_map-append}
use Rattle.std.proofs.lemmas.List.Elements.{Contains-append_left, Contains-append_right, Contains-append_cases}
use Rattle.am_text.specs.declared.failure.Failure.{Failure}
use Rattle.am_text.specs.declared.failure.Failure.TheVariants as failures
use Rattle.am_pattern.specs.Asking.{Asked, Stays}
use Rattle.am_pattern.specs.Cache.{Cache}
use Rattle.am_pattern.specs.declared.refusal.PatternRefusal.{PatternRefusal}
use Rattle.am_match.specs.Checking.{IsPatternRefusal, IsTextRefusal, StopsAt as StopsAtPattern, patterns_in}
use Rattle.am_match.specs.Matchers.{MatcherText, patterns_of}
use Rattle.am_match.specs.Reading.{matchers_of}
use Rattle.am_match.specs.declared.refusal.MatcherRefusal.{MatcherRefusal}
use Rattle.am_match.specs.declared.refusal.MatcherRefusal.TheVariants as matcher
use Rattle.am_draft.specs.declared.draft.Draft.{Draft}
use Rattle.am_draft.specs.declared.refusal.DraftRefusal.{DraftRefusal}
use Rattle.am_config.specs.declared.refusal.ConfigRefusal.{ConfigRefusal}
use Rattle.am_config.specs.declared.refusal.ConfigRefusal.TheVariants as config
use Rattle.am_config.specs.Judging.{IsFailureOf, IsRefusalOf}
use Rattle.am_config.specs.Matching.{matcher_texts, patterns_of_draft, patterns_of_texts}
use Rattle.am_config.specs.Stopping.{StopsAt as StopsAtText}
use Rattle.am_query.specs.declared.query.Kind.{Kind}
use Rattle.am_query.specs.declared.query.Kind.TheVariants.{Filter, Receiver, Flag, Unknown}
use Rattle.am_query.specs.declared.query.Parameter.{Parameter}
use Rattle.am_query.specs.declared.refusal.QueryRefusal.{QueryRefusal}
use Rattle.am_query.specs.declared.refusal.QueryRefusal.TheVariants.{BadFlag, BadMatcher}
use Rattle.am_query.specs.Patterns.{patterns_as, patterns_of_parameters}
use Rattle.am_query.specs.Queries.{kind_of}
use Rattle.am_query.specs.Stopping.{IsParameterRefusal, IsStopOf}
use Rattle.am_silence.specs.Deciding.{FailsFirst, FirstDecides}
use Rattle.am_silence.specs.declared.refusal.SilenceRefusal.{SilenceRefusal}
use Rattle.am_silence.specs.declared.refusal.SilenceRefusal.TheVariants as silence
use Rattle.am_muting.specs.Failing.{AddsAmong}
use Rattle.am_muting.proofs.Failures.{adds_among, adds_noted, adds_nothing}

-- nothing more is refused
pub stays_adds : (texts : List (List ℕ)) (old new : Cache) → Stays old new → AddsAmong texts old.refused new.refused
stays_adds texts old new stays = adds_nothing (λ text. Contains texts text) old.refused new.refused stays.refused

-- where no pattern was asked
pub unasked_adds : (texts refused : List (List ℕ)) → AddsAmong texts refused refused
unasked_adds texts refused = adds_nothing (λ text. Contains texts text) refused refused refl

-- a call that asks
pub asked_adds : {X E : Type 0} (result : Result X E) (texts : List (List ℕ)) (old new : Cache) → Asked result old new →
    OnErr result (AddsAmong texts old.refused new.refused) → AddsAmong texts old.refused new.refused
asked_adds (Ok x) texts old new stays adds = stays_adds texts old new stays
asked_adds (Err e) texts old new grows adds = adds

-- by the request's own patterns, or by the stored ones
pub own_adds : (own stored old new : List (List ℕ)) → AddsAmong own old new → AddsAmong (own ++ stored) old new
own_adds own stored old new adds = adds_among own (own ++ stored) old new (λ text there. Contains-append_left own stored text there) adds

pub both_add : (xs own stored old new : List (List ℕ)) → ((text : List ℕ) → Contains xs text → Contains own text) →
    AddsAmong (xs ++ stored) old new → AddsAmong (own ++ stored) old new
both_add xs own stored old new among adds = adds_among (xs ++ stored) (own ++ stored) old new (λ text there. more text (Contains-append_cases xs stored text there)) adds
  where
    more : (text : List ℕ) → Contains xs text ⊎ Contains stored text → Contains (own ++ stored) text
    more text (inl mine) = Contains-append_left own stored text (among text mine)
    more text (inr theirs) = Contains-append_right own stored text theirs

-- ---- patterns that are checked

pattern_at : (ps : List (List ℕ)) (refusal : PatternRefusal) (old new : Cache) → StopsAtPattern ps refusal old new → AddsAmong ps old.refused new.refused
pattern_at ps refusal old new stop =
    adds_noted (λ text. Contains ps text) old.refused new.refused stop.refused
    (subst (λ all. Contains all stop.refused) (sym stop.order) (Contains-append_right stop.front (stop.refused ∷ stop.back) stop.refused (0, omega arith, refl)))
    stop.kept

patterns_add : (ps : List (List ℕ)) (old new : Cache) (refusal : MatcherRefusal) → IsPatternRefusal ps old new refusal → AddsAmong ps old.refused new.refused
patterns_add ps old new matcher.NoMatchers found = absurd found
patterns_add ps old new matcher.BadPattern found = pattern_at ps _ old new found
patterns_add ps old new matcher.LongPattern found = stays_adds ps old new found.2
patterns_add ps old new matcher.BuildRefused found = pattern_at ps _ old new found

text_adds : (spelled : Option (List MatcherText)) (old new : Cache) (refusal : MatcherRefusal) → IsTextRefusal spelled old new refusal →
    AddsAmong (patterns_in spelled) old.refused new.refused
text_adds None old new matcher.NoMatchers found = stays_adds [] old new found
text_adds None old new matcher.BadPattern found = absurd found
text_adds None old new matcher.LongPattern found = absurd found
text_adds None old new matcher.BuildRefused found = absurd found
text_adds (Some ms) old new refusal found = patterns_add (patterns_of ms) old new refusal found

-- among the texts of an element of a list
pub among_all : {A : Type 0} (texts : A → List (List ℕ)) (front : List A) (x : A) (back xs : List A) → xs ≡ front ++ x ∷ back →
    (text : List ℕ) → Contains (texts x) text → Contains (flat_map texts xs) text
among_all texts front x back xs order text there =
    rw (order, flat_map-append texts front (x ∷ back))
    (Contains-append_right (flat_map texts front) (texts x ++ flat_map texts back) text (Contains-append_left (texts x) (flat_map texts back) text there))

-- ---- a query

parameter_adds : (kind : Kind) (value : List ℕ) (old new : Cache) (refusal : QueryRefusal) → IsParameterRefusal kind value old new refusal →
    AddsAmong (patterns_as kind value) old.refused new.refused
parameter_adds Filter value old new BadFlag found = absurd found
parameter_adds Filter value old new (BadMatcher refusal) found = text_adds (matchers_of (chars value)) old new refusal found
parameter_adds Receiver value old new BadFlag found = absurd found
parameter_adds Receiver value old new (BadMatcher refusal) found = patterns_add (value ∷ []) old new refusal found
parameter_adds Flag value old new BadFlag found = stays_adds [] old new found.1
parameter_adds Flag value old new (BadMatcher refusal) found = absurd found
parameter_adds Unknown value old new refusal found = absurd found

pub query_adds : (ps : List Parameter) (old new : Cache) (failure : Failure QueryRefusal) → IsStopOf ps old new failure →
    AddsAmong (patterns_of_parameters ps) old.refused new.refused
query_adds ps old new failures.OutOfMemory stop = stays_adds (patterns_of_parameters ps) old new stop
query_adds ps old new (failures.Refused refusal) stop =
    let texts : Parameter → List (List ℕ) = λ p. patterns_as (kind_of p.name) p.value in
    adds_among (texts stop.parameter) (patterns_of_parameters ps) old.refused new.refused
    (among_all texts stop.front stop.parameter stop.back ps stop.order)
    (parameter_adds (kind_of stop.parameter.name) stop.parameter.value old new refusal stop.is_refusal)

-- ---- a posted silence

first_adds : (ps : List (List ℕ)) (old new : Cache) (refusal : SilenceRefusal) → FirstDecides ps old new refusal → AddsAmong ps old.refused new.refused
first_adds ps old new (silence.BadMatcher matcher.NoMatchers) found = stays_adds ps old new found
first_adds ps old new (silence.BadMatcher matcher.BadPattern) found = patterns_add ps old new matcher.BadPattern found
first_adds ps old new (silence.BadMatcher matcher.LongPattern) found = patterns_add ps old new matcher.LongPattern found
first_adds ps old new (silence.BadMatcher matcher.BuildRefused) found = patterns_add ps old new matcher.BuildRefused found
first_adds ps old new silence.WithoutMatchers found = stays_adds ps old new found
first_adds ps old new silence.TakesEmpty found = stays_adds ps old new found
first_adds ps old new silence.EndsByStart found = stays_adds ps old new found
first_adds ps old new silence.Unknown found = stays_adds ps old new found
first_adds ps old new silence.Ended found = stays_adds ps old new found
first_adds ps old new silence.BadForm found = stays_adds ps old new found

pub silence_adds : (ps : List (List ℕ)) (old new : Cache) (failure : Failure SilenceRefusal) → FailsFirst ps old new failure → AddsAmong ps old.refused new.refused
silence_adds ps old new failures.OutOfMemory found = stays_adds ps old new found
silence_adds ps old new (failures.Refused refusal) found = first_adds ps old new refusal found

-- ---- a posted configuration

text_at : (texts : List (List ℕ)) (refusal : ConfigRefusal) (old new : Cache) → StopsAtText texts refusal old new →
    AddsAmong (patterns_of_texts texts) old.refused new.refused
text_at texts refusal old new stop =
    let patterns : List ℕ → List (List ℕ) = λ text. patterns_in (matchers_of (chars text)) in
    adds_among (patterns stop.text) (patterns_of_texts texts) old.refused new.refused
    (among_all patterns stop.front stop.text stop.back texts stop.order)
    (text_adds (matchers_of (chars stop.text)) old new stop.cause stop.is_refusal)

refusal_adds : (drafted : Result Draft DraftRefusal) (old new : Cache) (refusal : ConfigRefusal) → IsRefusalOf drafted old new refusal →
    AddsAmong (patterns_of_draft drafted) old.refused new.refused
refusal_adds (Ok draft) old new config.BadMatcher found = text_at (matcher_texts draft) config.BadMatcher old new found.1
refusal_adds (Ok draft) old new config.BuildRefused found = text_at (matcher_texts draft) config.BuildRefused old new found.1
refusal_adds (Err other) old new config.BadMatcher found = absurd found
refusal_adds (Err other) old new config.BuildRefused found = absurd found
refusal_adds drafted old new config.NotJson found = stays_adds (patterns_of_draft drafted) old new found.1
refusal_adds drafted old new config.BadForm found = stays_adds (patterns_of_draft drafted) old new found.1
refusal_adds drafted old new config.BadReceiver found = stays_adds (patterns_of_draft drafted) old new found.1
refusal_adds drafted old new config.RootMatchers found = stays_adds (patterns_of_draft drafted) old new found.1
refusal_adds drafted old new config.BadDuration found = stays_adds (patterns_of_draft drafted) old new found.1
refusal_adds drafted old new config.LeftOut found = stays_adds (patterns_of_draft drafted) old new found.1
refusal_adds drafted old new config.TooMany found = stays_adds (patterns_of_draft drafted) old new found.1
refusal_adds drafted old new config.BadUrl found = stays_adds (patterns_of_draft drafted) old new found.1

pub configuration_adds : (drafted : Result Draft DraftRefusal) (old new : Cache) (failure : Failure ConfigRefusal) → IsFailureOf drafted old new failure →
    AddsAmong (patterns_of_draft drafted) old.refused new.refused
configuration_adds drafted old new failures.OutOfMemory found = stays_adds (patterns_of_draft drafted) old new found
configuration_adds drafted old new (failures.Refused refusal) found = refusal_adds drafted old new refusal found
