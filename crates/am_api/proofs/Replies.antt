-- The replies to requests whose patterns are refused.
use Rattle.std.proofs.Common.{◌≡◌, ◌⊎◌, ℕ, ◌≤◌, true, List, Result, Ok, Err, length, refl, sym, ap, subst, inl, inr}
use Rattle.std.specs.Prelude.{codes}
use Rattle.std.specs.List.{list_all}
use Rattle.am_item.specs.declared.fault.Fault.{Fault}
use Rattle.am_item.specs.declared.fault.Fault.TheVariants.{CountsExhausted, OutOfMemory, PatternNotBuilt, StoreRefused}
use Rattle.am_item.specs.declared.item.Item.{Item}
use Rattle.am_pattern.specs.Asking.{Asked, Grows}
use Rattle.am_pattern.specs.Cache.{Cache}
use Rattle.am_pattern.proofs.AskingLemmas.{grows-stays}
use Rattle.am_api.specs.declared.decision.Decided.{Decided}
use Rattle.am_match.specs.Matchers.{MatcherText}
use Rattle.am_query.specs.declared.query.Query.{Query}
use Rattle.am_match.specs.declared.refusal.MatcherRefusal.TheVariants.{BadPattern, BuildRefused}
use Rattle.am_query.specs.declared.refusal.QueryRefusal.{QueryRefusal}
use Rattle.am_query.specs.declared.refusal.QueryRefusal.TheVariants.{BadMatcher}
use Rattle.am_query.specs.Patterns.{HasRefused, patterns_of_parameters}
use Rattle.am_query.specs.declared.query.Parameter.{Parameter}
use Rattle.am_query.specs.Queries.{code_of, status_of}
use Rattle.am_query.specs.Stopping.{StopsAt, is_fine}
use Rattle.am_query.specs.Unbuilt.{IsUnbuiltRefusal}
use Rattle.am_silence.specs.Deciding.{FirstDecides}
use Rattle.am_silence.specs.Posted.{Posted, patterns_in_body}
use Rattle.am_silence.specs.Refusals.{code_of as silence_code}
use Rattle.am_silence.specs.Unbuilt.{IsUnbuilt}
use Rattle.am_silence.specs.declared.refusal.SilenceRefusal.{SilenceRefusal}
use Rattle.am_silence.specs.declared.refusal.SilenceRefusal.TheVariants as silence
use Rattle.am_limit.specs.declared.limits.Limits.{Limits}
use Rattle.am_alert.specs.declared.maker.Maker.{Maker}
use Rattle.rand_chacha.specs.ChaCha.{ChaCha}
use Rattle.am_api.specs.Deciding.{Decides, DecidesBy, IsUnbuilt as IsUnbuiltReply}
use Rattle.am_api.specs.Decision.{listed_or_refused}
use Rattle.am_api.specs.Replied.{Decision, refused as refused_with}
use Rattle.am_api.specs.Refusing.{IsNotAnswered, ListRefuses, QueryRefuses, SilenceRefuses, refused_query}
use Rattle.am_api.specs.Silences.{posted_or_refused, refused_for, silences_or_refused, status_of as silence_status}
use Rattle.am_api.proofs.Builds.{decides_unless}
use Rattle.am_api.proofs.Keeping.{query_kept, silence_kept}

-- a refusal of a pattern that is not built
pub refuses_decides : (Refuses : Decision → Type 0) (had refused own stored : List (List ℕ)) (status : ℕ) (code : List ℕ) (decision : Decision)
    (result : Result Decided Fault) → Refuses (refused_with status code) → IsUnbuiltReply (refused_with status code) → HasRefused refused own →
    Decides result (refused_with status code) →
    DecidesBy Refuses had refused own stored result decision
refuses_decides Refuses had refused own stored status code decision (Ok d) refuses unbuilt found decides =
    inr (subst Refuses (sym decides.0) refuses, (subst IsUnbuiltReply (sym decides.0) unbuilt, found))
refuses_decides Refuses had refused own stored status code decision (Err CountsExhausted) refuses unbuilt found decides = absurd (cc)
refuses_decides Refuses had refused own stored status code decision (Err OutOfMemory) refuses unbuilt found decides = tt
refuses_decides Refuses had refused own stored status code decision (Err PatternNotBuilt) refuses unbuilt found decides = absurd decides
refuses_decides Refuses had refused own stored status code decision (Err StoreRefused) refuses unbuilt found decides = absurd decides

-- one that is not built when it is asked
pub unbuilt_decides : (ps : List Parameter) (had refused own stored : List (List ℕ)) (decision : Decision) (result : Result Decided Fault) →
    list_all is_fine ps ≡ true → HasRefused refused own → Decides result (refused_with 503 (codes "B2")) →
    DecidesBy (IsNotAnswered ps) had refused own stored result decision
unbuilt_decides ps had refused own stored decision result fine found decides =
    refuses_decides (IsNotAnswered ps) had refused own stored 503 (codes "B2") decision result (refl, fine) (inl refl) found decides

query_unbuilt : (reason : QueryRefusal) → (reason ≡ BadMatcher BuildRefused) ⊎ (reason ≡ BadMatcher BadPattern) → IsUnbuiltReply (refused_query reason)
query_unbuilt reason (inl build) = inl (ap refused_query build)
query_unbuilt reason (inr deep) = inr (inl (ap refused_query deep))

silence_unbuilt : (reason : SilenceRefusal) → (reason ≡ silence.BadMatcher BuildRefused) ⊎ (reason ≡ silence.BadMatcher BadPattern) →
    IsUnbuiltReply (refused_for reason)
silence_unbuilt reason (inl build) = inl (ap refused_for build)
silence_unbuilt reason (inr deep) = inr (inl (ap refused_for deep))

-- a query that is refused
pub query_refused : (ps : List Parameter) (old new : Cache) (own stored : List (List ℕ)) (reason : QueryRefusal) (text : Query → List ℕ)
    (outcome : Result Query QueryRefusal) (result : Result Decided Fault) → patterns_of_parameters ps ≡ own →
    (outcome ≡ Err reason) ⊎ IsUnbuiltRefusal new.refused own reason →
    StopsAt ps reason old new → Decides result (refused_query reason) →
    DecidesBy (ListRefuses ps old new) old.refused new.refused own stored result (listed_or_refused text outcome)
query_refused ps old new own stored reason text outcome result all found stops decides =
    settled (query_kept ps old new own reason all stops) found
  where
    unbuilt : IsUnbuiltRefusal new.refused own reason → DecidesBy (ListRefuses ps old new) old.refused new.refused own stored result (listed_or_refused text outcome)
    unbuilt of =
        refuses_decides (ListRefuses ps old new) old.refused new.refused own stored (status_of reason) (code_of reason) (listed_or_refused text outcome) result
        (inl (reason, refl, stops)) (query_unbuilt reason of.0) of.1 decides

    settled : (new.refused ≡ old.refused) ⊎ IsUnbuiltRefusal new.refused own reason → (outcome ≡ Err reason) ⊎ IsUnbuiltRefusal new.refused own reason →
        DecidesBy (ListRefuses ps old new) old.refused new.refused own stored result (listed_or_refused text outcome)
    settled (inl same) (inl is) = rw is (decides_unless (ListRefuses ps old new) old.refused new.refused own stored result (refused_query reason) same decides)
    settled (inr of) found' = unbuilt of
    settled (inl same) (inr of) = unbuilt of

-- filters that are refused
pub filters_refused : (ps : List Parameter) (old new : Cache) (own stored : List (List ℕ)) (reason : QueryRefusal) (held : List Item) (moment : ℕ)
    (outcome : Result (List MatcherText) QueryRefusal) (result : Result Decided Fault) → patterns_of_parameters ps ≡ own →
    (outcome ≡ Err reason) ⊎ IsUnbuiltRefusal new.refused own reason → StopsAt ps reason old new → Decides result (refused_query reason) →
    DecidesBy (QueryRefuses ps old new) old.refused new.refused own stored result (silences_or_refused held moment outcome)
filters_refused ps old new own stored reason held moment outcome result all found stops decides =
    settled (query_kept ps old new own reason all stops) found
  where
    unbuilt : IsUnbuiltRefusal new.refused own reason → DecidesBy (QueryRefuses ps old new) old.refused new.refused own stored result (silences_or_refused held moment outcome)
    unbuilt of =
        refuses_decides (QueryRefuses ps old new) old.refused new.refused own stored (status_of reason) (code_of reason) (silences_or_refused held moment outcome) result
        (reason, refl, stops) (query_unbuilt reason of.0) of.1 decides

    settled : (new.refused ≡ old.refused) ⊎ IsUnbuiltRefusal new.refused own reason → (outcome ≡ Err reason) ⊎ IsUnbuiltRefusal new.refused own reason →
        DecidesBy (QueryRefuses ps old new) old.refused new.refused own stored result (silences_or_refused held moment outcome)
    settled (inl same) (inl is) = rw is (decides_unless (QueryRefuses ps old new) old.refused new.refused own stored result (refused_query reason) same decides)
    settled (inr of) found' = unbuilt of
    settled (inl same) (inr of) = unbuilt of

-- a posted silence that is refused
pub silence_refused : (body : List ℕ) (limits : Limits) (old new : Cache) (stored : List (List ℕ)) (reason : SilenceRefusal) (limit : ℕ) (held : List Item)
    (moment : ℕ) (maker : Maker) (words : ChaCha) (outcome : Result Posted SilenceRefusal) (result : Result Decided Fault) →
    length body ≤ limits.silence → (outcome ≡ Err reason) ⊎ IsUnbuilt new.refused (patterns_in_body body) reason →
    FirstDecides (patterns_in_body body) old new reason → Decides result (refused_for reason) →
    DecidesBy (SilenceRefuses body limits old new) old.refused new.refused (patterns_in_body body) stored result
    (posted_or_refused limit held moment maker words outcome)
silence_refused body limits old new stored reason limit held moment maker words outcome result within found first decides =
    settled (silence_kept (patterns_in_body body) old new reason first) found
  where
    unbuilt : IsUnbuilt new.refused (patterns_in_body body) reason →
        DecidesBy (SilenceRefuses body limits old new) old.refused new.refused (patterns_in_body body) stored result (posted_or_refused limit held moment maker words outcome)
    unbuilt of =
        refuses_decides (SilenceRefuses body limits old new) old.refused new.refused (patterns_in_body body) stored (silence_status reason) (silence_code reason)
        (posted_or_refused limit held moment maker words outcome) result (within, reason, refl, of, first) (silence_unbuilt reason of.0) of.1 decides

    settled : (new.refused ≡ old.refused) ⊎ IsUnbuilt new.refused (patterns_in_body body) reason →
        (outcome ≡ Err reason) ⊎ IsUnbuilt new.refused (patterns_in_body body) reason →
        DecidesBy (SilenceRefuses body limits old new) old.refused new.refused (patterns_in_body body) stored result (posted_or_refused limit held moment maker words outcome)
    settled (inl same) (inl is) =
        rw is (decides_unless (SilenceRefuses body limits old new) old.refused new.refused (patterns_in_body body) stored result (refused_for reason) same decides)
    settled (inr of) found' = unbuilt of
    settled (inl same) (inr of) = unbuilt of

-- a call that asks leaves a cache in which no refused build is forgotten
pub asked_grows : {X E : Type 0} (result : Result X E) (old new : Cache) → Asked result old new → Grows old new
asked_grows (Ok x) old new stays = grows-stays old new stays
asked_grows (Err e) old new grows = grows
