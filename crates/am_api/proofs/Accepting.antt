-- No request is accepted before its patterns are built.
use Rattle.std.proofs.Common.{◌≡◌, ℕ, ◌≤◌, List, [], Result, Ok, Err, IfOk, length, inl, inr, arith, ap, subst, sym}
use Rattle.std.proofs.lemmas.List.Elements.{All-nil}
use Rattle.std.specs.Prelude.{All}
use Rattle.am_pattern.specs.Kept.{HasRegex}
use Rattle.am_match.specs.declared.refusal.MatcherRefusal.{MatcherRefusal}
use Rattle.am_match.specs.declared.refusal.MatcherRefusal.TheVariants as matcher
use Rattle.am_config.specs.declared.refusal.ConfigRefusal.{ConfigRefusal}
use Rattle.am_config.specs.declared.refusal.ConfigRefusal.TheVariants as config
use Rattle.am_query.specs.declared.refusal.QueryRefusal.{QueryRefusal}
use Rattle.am_query.specs.declared.refusal.QueryRefusal.TheVariants.{BadFlag, BadMatcher}
use Rattle.am_query.specs.Queries as queries
use Rattle.am_silence.specs.declared.refusal.SilenceRefusal.{SilenceRefusal}
use Rattle.am_silence.specs.declared.refusal.SilenceRefusal.TheVariants as silence
use Rattle.am_item.specs.declared.fault.Fault.{Fault}
use Rattle.am_api.specs.declared.decision.Decided.{Decided}
use Rattle.am_api.specs.Deciding.{AcceptsBuilt, Decides}
use Rattle.am_api.specs.Decision.{status_of as configuration_status}
use Rattle.am_api.specs.Replied.{Decision, refused}
use Rattle.am_api.specs.Silences.{status_of as silence_status}

-- whatever is returned once they are built
pub built_accepts : (patterns : List (List ℕ)) (result : Result Decided Fault) → All HasRegex patterns → IfOk result (AcceptsBuilt patterns)
built_accepts patterns (Ok d) built = λ accepted. built
built_accepts patterns (Err fault) built = tt

-- for a request without patterns
pub nothing_built : (result : Result Decided Fault) → IfOk result (AcceptsBuilt [])
nothing_built result = built_accepts [] result (All-nil HasRegex)

-- a refusal accepts nothing
pub refusal_accepts : (patterns : List (List ℕ)) (status : ℕ) (code : List ℕ) (result : Result Decided Fault) → 400 ≤ status →
    Decides result (refused status code) → IfOk result (AcceptsBuilt patterns)
refusal_accepts patterns status code (Err fault) high is = tt
refusal_accepts patterns status code (Ok d) high is =
    let none : length d.items.items ≡ 0 = ap (λ (decision : Decision). length decision.items) is.0 in
    let same : d.status ≡ status = ap (λ (decision : Decision). decision.status) is.0 in
    λ accepted. elim accepted [
      | inl some ↦ absurd (omega (arith, none, some))
      | inr low ↦ absurd (omega (arith, same, low, high))
    ]

-- the statuses of refusals

matcher_high : (reason : MatcherRefusal) → 400 ≤ queries.matcher_status reason
matcher_high matcher.NoMatchers = omega arith
matcher_high matcher.BadPattern = omega arith
matcher_high matcher.LongPattern = omega arith
matcher_high matcher.BuildRefused = omega arith

pub query_high : (reason : QueryRefusal) → 400 ≤ queries.status_of reason
query_high BadFlag = omega arith
query_high (BadMatcher reason) = matcher_high reason

pub silence_high : (reason : SilenceRefusal) → 400 ≤ silence_status reason
silence_high silence.WithoutMatchers = omega arith
silence_high silence.TakesEmpty = omega arith
silence_high silence.EndsByStart = omega arith
silence_high silence.Unknown = omega arith
silence_high silence.Ended = omega arith
silence_high silence.BadForm = omega arith
silence_high (silence.BadMatcher reason) = matcher_high reason

pub configuration_high : (reason : ConfigRefusal) → 400 ≤ configuration_status reason
configuration_high config.NotJson = omega arith
configuration_high config.BadForm = omega arith
configuration_high config.BadReceiver = omega arith
configuration_high config.RootMatchers = omega arith
configuration_high config.BadDuration = omega arith
configuration_high config.LeftOut = omega arith
configuration_high config.BadMatcher = omega arith
configuration_high config.TooMany = omega arith
configuration_high config.BadUrl = omega arith
configuration_high config.BuildRefused = omega arith

-- by the method, or what else a request has, that its patterns are read by
pub accepts_at : {X : Type 0} (patterns : X → List (List ℕ)) (own other : X) (result : Result Decided Fault) → own ≡ other →
    IfOk result (AcceptsBuilt (patterns other)) → IfOk result (AcceptsBuilt (patterns own))
accepts_at patterns own other result is built = subst (λ x. IfOk result (AcceptsBuilt (patterns x))) (sym is) built
