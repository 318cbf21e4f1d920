-- Where a request is refused, the refused texts stay, or a pattern of its own is among them, for which it is refused.
use Rattle.std.proofs.Common.{◌≡◌, ◌⊎◌, ◌∙◌, ℕ, List, [], ◌∷◌, true, false, Option, Some, None, Result, Ok, Err, chars, refl, sym, ap, subst, inl, inr, arith}
use Rattle.std.specs.List.{Contains}
use Rattle.std.proofs.lemmas.Bool.{cases_Bool}
use Rattle.std.proofs.lemmas.List.Elements.{Contains-append_right}
use Rattle.am_pattern.specs.Cache.{Cache}
use Rattle.am_pattern.specs.Asking.{IsRefused}
use Rattle.am_pattern.specs.Refused.{has_text}
use Rattle.am_pattern.specs.Taking.{IsPattern, is_pattern}
use Rattle.am_pattern.specs.declared.refusal.PatternRefusal.{PatternRefusal}
use Rattle.am_pattern.specs.declared.refusal.PatternRefusal.TheVariants as pattern
use Rattle.am_pattern.proofs.Decided.{IsPattern-from_test}
use Rattle.am_match.specs.Checking.{IsPatternRefusal, IsTextRefusal, StopsAt as StopsAtPattern, patterns_in}
use Rattle.am_match.specs.Matchers.{MatcherText, patterns_of}
use Rattle.am_match.specs.Reading.{matchers_of}
use Rattle.am_match.specs.declared.refusal.MatcherRefusal.{MatcherRefusal}
use Rattle.am_match.specs.declared.refusal.MatcherRefusal.TheVariants as matcher
use Rattle.am_draft.specs.declared.draft.Draft.{Draft}
use Rattle.am_draft.specs.declared.refusal.DraftRefusal.{DraftRefusal}
use Rattle.am_config.specs.declared.refusal.ConfigRefusal.{ConfigRefusal}
use Rattle.am_config.specs.declared.refusal.ConfigRefusal.TheVariants as config
use Rattle.am_config.specs.Judging.{IsRefusalOf}
use Rattle.am_config.specs.Matching.{matcher_texts, patterns_of_draft, patterns_of_texts}
use Rattle.am_config.specs.Stopping.{StopsAt as StopsAtText}
use Rattle.am_query.specs.declared.query.Kind.{Kind}
use Rattle.am_query.specs.declared.query.Kind.TheVariants.{Filter, Receiver, Flag, Unknown}
use Rattle.am_query.specs.declared.query.Parameter.{Parameter}
use Rattle.am_query.specs.declared.refusal.QueryRefusal.{QueryRefusal}
use Rattle.am_query.specs.declared.refusal.QueryRefusal.TheVariants.{BadFlag, BadMatcher}
use Rattle.am_query.specs.Patterns.{HasRefused, patterns_as, patterns_of_parameters}
use Rattle.am_query.specs.Queries.{kind_of}
use Rattle.am_query.specs.Stopping.{IsParameterRefusal, StopsAt}
use Rattle.am_query.specs.Unbuilt.{IsUnbuiltRefusal}
use Rattle.am_query.proofs.Builds.{refused_among}
use Rattle.am_silence.specs.Deciding.{FirstDecides}
use Rattle.am_silence.specs.Unbuilt.{IsUnbuilt}
use Rattle.am_silence.specs.declared.refusal.SilenceRefusal.{SilenceRefusal}
use Rattle.am_silence.specs.declared.refusal.SilenceRefusal.TheVariants as silence
use Rattle.am_api.proofs.Adding.{among_all}

-- a refusal of a matcher for its pattern
abbrev pub IsOfPattern : MatcherRefusal → Type 0
IsOfPattern refusal = (refusal ≡ matcher.BuildRefused) ⊎ (refusal ≡ matcher.BadPattern)

-- the refused texts stay, or one of these is among them, for which the refusal is
abbrev Keeps : (old new : Cache) → List (List ℕ) → MatcherRefusal → Type 0
Keeps old new own refusal = (new.refused ≡ old.refused) ⊎ (IsOfPattern refusal × HasRefused new.refused own)

-- ---- patterns

has_refused : (refusal : PatternRefusal) (new : Cache) (p : List ℕ) → IsRefused new p refusal → IsPattern p → has_text new.refused p ≡ true
has_refused pattern.BadPattern new p refused is = refused.1 is
has_refused pattern.BuildRefused new p refused is = refused.2

by_test : (ps : List (List ℕ)) (refusal : PatternRefusal) (old new : Cache) (stop : StopsAtPattern ps refusal old new) →
    (is_pattern stop.refused ≡ true) ⊎ (is_pattern stop.refused ≡ false) → (new.refused ≡ old.refused) ⊎ HasRefused new.refused ps
by_test ps refusal old new stop (inr none) = inl (stop.kept ∙ rw none refl)
by_test ps refusal old new stop (inl some) =
    let is : IsPattern stop.refused = IsPattern-from_test stop.refused some in
    inr (
      stop.refused,
      (
        subst (λ all. Contains all stop.refused) (sym stop.order) (Contains-append_right stop.front (stop.refused ∷ stop.back) stop.refused (0, omega arith, refl)),
        (is, has_refused refusal new stop.refused stop.is_refused is),
      ),
    )

pattern_kept : (ps : List (List ℕ)) (cause : PatternRefusal) (old new : Cache) (refusal : MatcherRefusal) → IsOfPattern refusal → StopsAtPattern ps cause old new →
    Keeps old new ps refusal
pattern_kept ps cause old new refusal is stop = elim (by_test ps cause old new stop (cases_Bool (is_pattern stop.refused))) [
  | inl same ↦ inl same
  | inr found ↦ inr (is, found)
]

patterns_kept : (ps : List (List ℕ)) (old new : Cache) (refusal : MatcherRefusal) → IsPatternRefusal ps old new refusal → Keeps old new ps refusal
patterns_kept ps old new matcher.NoMatchers found = absurd found
patterns_kept ps old new matcher.BadPattern found = pattern_kept ps pattern.BadPattern old new matcher.BadPattern (inr refl) found
patterns_kept ps old new matcher.LongPattern found = inl found.2.refused
patterns_kept ps old new matcher.BuildRefused found = pattern_kept ps pattern.BuildRefused old new matcher.BuildRefused (inl refl) found

text_kept : (spelled : Option (List MatcherText)) (old new : Cache) (refusal : MatcherRefusal) → IsTextRefusal spelled old new refusal →
    Keeps old new (patterns_in spelled) refusal
text_kept None old new matcher.NoMatchers found = inl found.refused
text_kept None old new matcher.BadPattern found = absurd found
text_kept None old new matcher.LongPattern found = absurd found
text_kept None old new matcher.BuildRefused found = absurd found
text_kept (Some ms) old new refusal found = patterns_kept (patterns_of ms) old new refusal found

-- ---- a query

-- the refused texts stay, or the refusal is that of a pattern which is not built
abbrev KeepsQuery : (old new : Cache) → List (List ℕ) → QueryRefusal → Type 0
KeepsQuery old new own reason = (new.refused ≡ old.refused) ⊎ IsUnbuiltRefusal new.refused own reason

of_query : (old new : Cache) (own : List (List ℕ)) (refusal : MatcherRefusal) → Keeps old new own refusal → KeepsQuery old new own (BadMatcher refusal)
of_query old new own refusal (inl same) = inl same
of_query old new own refusal (inr (inl build, found)) = inr (inl (ap BadMatcher build), found)
of_query old new own refusal (inr (inr bad, found)) = inr (inr (ap BadMatcher bad), found)

parameter_kept : (kind : Kind) (value : List ℕ) (old new : Cache) (reason : QueryRefusal) → IsParameterRefusal kind value old new reason →
    KeepsQuery old new (patterns_as kind value) reason
parameter_kept Filter value old new BadFlag found = absurd found
parameter_kept Filter value old new (BadMatcher refusal) found =
    of_query old new (patterns_in (matchers_of (chars value))) refusal (text_kept (matchers_of (chars value)) old new refusal found)
parameter_kept Receiver value old new BadFlag found = absurd found
parameter_kept Receiver value old new (BadMatcher refusal) found =
    of_query old new (value ∷ []) refusal (patterns_kept (value ∷ []) old new refusal found)
parameter_kept Flag value old new BadFlag found = inl found.1.refused
parameter_kept Flag value old new (BadMatcher refusal) found = absurd found
parameter_kept Unknown value old new reason found = absurd found

pub query_kept : (ps : List Parameter) (old new : Cache) (own : List (List ℕ)) (reason : QueryRefusal) → patterns_of_parameters ps ≡ own →
    StopsAt ps reason old new → KeepsQuery old new own reason
query_kept ps old new own reason all stop =
    let texts : Parameter → List (List ℕ) = λ p. patterns_as (kind_of p.name) p.value in
    elim (parameter_kept (kind_of stop.parameter.name) stop.parameter.value old new reason stop.is_refusal) [
      | inl same ↦ inl same
      | inr (is, found) ↦
          inr (
            is,
            subst (λ (own' : List (List ℕ)). HasRefused new.refused own') all
                (refused_among new.refused (texts stop.parameter) (patterns_of_parameters ps) (among_all texts stop.front stop.parameter stop.back ps stop.order) found),
          )
    ]

-- ---- a posted silence

of_silence : (old new : Cache) (own : List (List ℕ)) (refusal : MatcherRefusal) → Keeps old new own refusal →
    (new.refused ≡ old.refused) ⊎ IsUnbuilt new.refused own (silence.BadMatcher refusal)
of_silence old new own refusal (inl same) = inl same
of_silence old new own refusal (inr (inl build, found)) = inr (inl (ap silence.BadMatcher build), found)
of_silence old new own refusal (inr (inr bad, found)) = inr (inr (ap silence.BadMatcher bad), found)

pub silence_kept : (ps : List (List ℕ)) (old new : Cache) (reason : SilenceRefusal) → FirstDecides ps old new reason →
    (new.refused ≡ old.refused) ⊎ IsUnbuilt new.refused ps reason
silence_kept ps old new (silence.BadMatcher matcher.NoMatchers) found = inl found.refused
silence_kept ps old new (silence.BadMatcher matcher.BadPattern) found = of_silence old new ps matcher.BadPattern (patterns_kept ps old new matcher.BadPattern found)
silence_kept ps old new (silence.BadMatcher matcher.LongPattern) found = of_silence old new ps matcher.LongPattern (patterns_kept ps old new matcher.LongPattern found)
silence_kept ps old new (silence.BadMatcher matcher.BuildRefused) found = of_silence old new ps matcher.BuildRefused (patterns_kept ps old new matcher.BuildRefused found)
silence_kept ps old new silence.WithoutMatchers found = inl found.refused
silence_kept ps old new silence.TakesEmpty found = inl found.refused
silence_kept ps old new silence.EndsByStart found = inl found.refused
silence_kept ps old new silence.Unknown found = inl found.refused
silence_kept ps old new silence.Ended found = inl found.refused
silence_kept ps old new silence.BadForm found = inl found.refused

-- ---- a posted configuration

-- a refusal of a matcher
abbrev pub IsOfMatcher : ConfigRefusal → Type 0
IsOfMatcher refusal = (refusal ≡ config.BuildRefused) ⊎ (refusal ≡ config.BadMatcher)

abbrev KeepsDraft : Result Draft DraftRefusal → (old new : Cache) → ConfigRefusal → Type 0
KeepsDraft drafted old new refusal = (new.refused ≡ old.refused) ⊎ (IsOfMatcher refusal × HasRefused new.refused (patterns_of_draft drafted))

text_at : (texts : List (List ℕ)) (refusal : ConfigRefusal) (old new : Cache) → IsOfMatcher refusal → StopsAtText texts refusal old new →
    (new.refused ≡ old.refused) ⊎ (IsOfMatcher refusal × HasRefused new.refused (patterns_of_texts texts))
text_at texts refusal old new is stop =
    let patterns : List ℕ → List (List ℕ) = λ text. patterns_in (matchers_of (chars text)) in
    elim (text_kept (matchers_of (chars stop.text)) old new stop.cause stop.is_refusal) [
      | inl same ↦ inl same
      | inr (cause, found) ↦
          inr (is, refused_among new.refused (patterns stop.text) (patterns_of_texts texts) (among_all patterns stop.front stop.text stop.back texts stop.order) found)
    ]

pub configuration_kept : (drafted : Result Draft DraftRefusal) (old new : Cache) (refusal : ConfigRefusal) → IsRefusalOf drafted old new refusal →
    KeepsDraft drafted old new refusal
configuration_kept (Ok draft) old new config.BadMatcher found = text_at (matcher_texts draft) config.BadMatcher old new (inr refl) found.1
configuration_kept (Ok draft) old new config.BuildRefused found = text_at (matcher_texts draft) config.BuildRefused old new (inl refl) found.1
configuration_kept (Err other) old new config.BadMatcher found = absurd found
configuration_kept (Err other) old new config.BuildRefused found = absurd found
configuration_kept drafted old new config.NotJson found = inl found.1.refused
configuration_kept drafted old new config.BadForm found = inl found.1.refused
configuration_kept drafted old new config.BadReceiver found = inl found.1.refused
configuration_kept drafted old new config.RootMatchers found = inl found.1.refused
configuration_kept drafted old new config.BadDuration found = inl found.1.refused
configuration_kept drafted old new config.LeftOut found = inl found.1.refused
configuration_kept drafted old new config.TooMany found = inl found.1.refused
configuration_kept drafted old new config.BadUrl found = inl found.1.refused
