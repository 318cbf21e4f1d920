-- Patterns whose build was refused, and what that lets a call return.
use Rattle.std.proofs.Common.{◌≡◌, ◌∙◌, ℕ, List, All, Result, Ok, Err, sym, subst, inl, inr, arith}
use Rattle.rand_chacha.specs.ChaCha.{ChaCha}
use Rattle.std.proofs.lemmas.List.Elements.{All-nil}
use Rattle.am_pattern.specs.Cache.{Cache}
use Rattle.am_pattern.specs.Taking.{IsPattern}
use Rattle.am_match.specs.Checking.{AreRefusedRightly}
use Rattle.am_item.specs.declared.fault.Fault.{Fault}
use Rattle.am_item.specs.declared.fault.Fault.TheVariants.{CountsExhausted, OutOfMemory, PatternNotBuilt, StoreRefused}
use Rattle.am_http.specs.declared.request.Endpoint.{Endpoint}
use Rattle.am_http.specs.declared.request.Endpoint.TheVariants as endpoint
use Rattle.am_http.specs.declared.request.Method.{Method}
use Rattle.am_http.specs.declared.request.Method.TheVariants as method
use Rattle.am_http.specs.declared.request.Request.{Request}
use Rattle.am_limit.specs.declared.limits.Limits.{Limits}
use Rattle.am_config.specs.Configuration.{Configuration}
use Rattle.am_item.specs.declared.item.Item.{Item}
use Rattle.am_alert.specs.declared.maker.Maker.{Maker}
use Rattle.am_current.specs.Current.{configuration_in}
use Rattle.am_query.specs.Patterns.{Among}
use Rattle.am_query.proofs.Builds.{never_both}
use Rattle.am_muting.proofs.Failures.{unanswered_later}
use Rattle.am_listing.proofs.Failures.{refused_pattern}
use Rattle.am_api.specs.declared.decision.Decided.{Decided}
use Rattle.am_api.specs.Deciding.{Decides, DecidesBy, DecidesUnless}
use Rattle.am_api.specs.Decision.{decided, decided_by}
use Rattle.am_api.specs.Patterns.{patterns_by, patterns_of_request}
use Rattle.am_api.specs.Refusing.{Refuses, RefusesBy, asked_by, asked_by_method, stored_asked}
use Rattle.am_api.specs.Replied.{Decision}

-- a decision where no pattern is asked
pub decides_unless : (Refuses : Decision → Type 0) (had refused own stored : List (List ℕ)) (result : Result Decided Fault) (decision : Decision) →
    refused ≡ had → Decides result decision → DecidesBy Refuses had refused own stored result decision
decides_unless Refuses had refused own stored (Ok d) decision same is = inl (is, same)
decides_unless Refuses had refused own stored (Err CountsExhausted) decision same is = is
decides_unless Refuses had refused own stored (Err OutOfMemory) decision same is = tt
decides_unless Refuses had refused own stored (Err PatternNotBuilt) decision same is = absurd is
decides_unless Refuses had refused own stored (Err StoreRefused) decision same is = is

-- where a pattern may be refused in more ways, and no text was refused before
pub decides_weaker : (Refuses Others : Decision → Type 0) (had since refused own stored : List (List ℕ)) (result : Result Decided Fault) (decision : Decision) →
    since ≡ had → ((d : Decision) → Refuses d → Others d) → DecidesBy Refuses since refused own stored result decision →
    DecidesBy Others had refused own stored result decision
decides_weaker Refuses Others had since refused own stored (Ok d) decision same more (inl is) = inl (is.0, is.1 ∙ same)
decides_weaker Refuses Others had since refused own stored (Ok d) decision same more (inr found) = inr (more _ found.0, found.1)
decides_weaker Refuses Others had since refused own stored (Err CountsExhausted) decision same more is = is
decides_weaker Refuses Others had since refused own stored (Err OutOfMemory) decision same more is = tt
decides_weaker Refuses Others had since refused own stored (Err PatternNotBuilt) decision same more found = found
decides_weaker Refuses Others had since refused own stored (Err StoreRefused) decision same more is = is

-- where nothing was refused wrongly it is the decision
pub decides_rightly : (Refuses : Decision → Type 0) (had refused own stored : List (List ℕ)) (result : Result Decided Fault) (decision : Decision) →
    DecidesBy Refuses had refused own stored result decision → AreRefusedRightly refused own → AreRefusedRightly refused stored →
    All IsPattern stored → Decides result decision
decides_rightly Refuses had refused own stored (Ok d) decision (inl is) rightly held patterns = is.0
decides_rightly Refuses had refused own stored (Ok d) decision (inr found) rightly held patterns = absurd (never_both refused own rightly found.1.1)
decides_rightly Refuses had refused own stored (Err CountsExhausted) decision is rightly held patterns = is
decides_rightly Refuses had refused own stored (Err OutOfMemory) decision is rightly held patterns = tt
decides_rightly Refuses had refused own stored (Err PatternNotBuilt) decision found rightly held patterns =
    never_both refused stored held (refused_pattern refused stored patterns found)
decides_rightly Refuses had refused own stored (Err StoreRefused) decision is rightly held patterns = is

-- ---- the stored patterns that are asked are in use

by_method : (P : List ℕ → Type 0) (m : Method) (in_use : List (List ℕ)) → All P in_use → All P (asked_by_method m in_use)
by_method P method.Get in_use all = all
by_method P method.Post in_use all = All-nil P
by_method P method.Delete in_use all = All-nil P

by_endpoint : (P : List ℕ → Type 0) (e : Endpoint) (m : Method) (in_use : List (List ℕ)) → All P in_use → All P (asked_by e m in_use)
by_endpoint P endpoint.Alerts m in_use all = by_method P m in_use all
by_endpoint P endpoint.AlertGroups m in_use all = by_method P m in_use all
by_endpoint P endpoint.Silences m in_use all = All-nil P
by_endpoint P (endpoint.Silence text) m in_use all = All-nil P
by_endpoint P endpoint.Receivers m in_use all = All-nil P
by_endpoint P endpoint.Configuration m in_use all = All-nil P

pub all_asked : (P : List ℕ → Type 0) (request : Request) (in_use : List (List ℕ)) → All P in_use → All P (stored_asked request in_use)
unfolding stored_asked
all_asked P request in_use all = by_endpoint P request.endpoint request.method in_use all

among_by_method : (m : Method) (in_use : List (List ℕ)) → Among (asked_by_method m in_use) in_use
among_by_method method.Get in_use text there = there
among_by_method method.Post in_use text there = absurd (omega (arith, there.1))
among_by_method method.Delete in_use text there = absurd (omega (arith, there.1))

among_by : (e : Endpoint) (m : Method) (in_use : List (List ℕ)) → Among (asked_by e m in_use) in_use
among_by endpoint.Alerts m in_use text there = among_by_method m in_use text there
among_by endpoint.AlertGroups m in_use text there = among_by_method m in_use text there
among_by endpoint.Silences m in_use text there = absurd (omega (arith, there.1))
among_by (endpoint.Silence text') m in_use text there = absurd (omega (arith, there.1))
among_by endpoint.Receivers m in_use text there = absurd (omega (arith, there.1))
among_by endpoint.Configuration m in_use text there = absurd (omega (arith, there.1))

among_in_use : (request : Request) (in_use : List (List ℕ)) → Among (stored_asked request in_use) in_use
unfolding stored_asked
among_in_use request in_use text there = among_by request.endpoint request.method in_use text there

-- so much the more among those in use
pub decides_in_use : (Refuses : Decision → Type 0) (had refused own in_use : List (List ℕ)) (request : Request) (result : Result Decided Fault) (decision : Decision) →
    DecidesBy Refuses had refused own (stored_asked request in_use) result decision → DecidesUnless refused own in_use result decision
decides_in_use Refuses had refused own in_use request (Ok d) decision (inl is) = inl is.0
decides_in_use Refuses had refused own in_use request (Ok d) decision (inr found) = inr found.1
decides_in_use Refuses had refused own in_use request (Err CountsExhausted) decision is = is
decides_in_use Refuses had refused own in_use request (Err OutOfMemory) decision is = tt
decides_in_use Refuses had refused own in_use request (Err PatternNotBuilt) decision found =
    unanswered_later refused (stored_asked request in_use) in_use (among_in_use request in_use) found
decides_in_use Refuses had refused own in_use request (Err StoreRefused) decision is = is

-- ---- by what the request speaks of

-- by the configuration in use
pub in_use_decides : (old new : Cache) (in_use : List (List ℕ)) (result : Result Decided Fault) (request : Request) (held : List Item) (limits : Limits) (moment : ℕ)
    (maker : Maker) (words : ChaCha) (c : Configuration) → c ≡ configuration_in held →
    DecidesBy (RefusesBy request.endpoint request limits old new) old.refused new.refused (patterns_by request.endpoint request)
    (asked_by request.endpoint request.method in_use) result (decided_by c request request.endpoint held limits moment maker words) →
    DecidesBy (Refuses request limits old new) old.refused new.refused (patterns_of_request request) (stored_asked request in_use) result
    (decided request held limits moment maker words)
unfolding decided patterns_of_request Refuses stored_asked
in_use_decides old new in_use result request held limits moment maker words c is decides =
    subst (λ (d : Configuration). DecidesBy (RefusesBy request.endpoint request limits old new) old.refused new.refused (patterns_by request.endpoint request)
    (asked_by request.endpoint request.method in_use) result (decided_by d request request.endpoint held limits moment maker words)) is decides

-- by the endpoint that the request has
pub at_endpoint : (old new : Cache) (in_use : List (List ℕ)) (result : Result Decided Fault) (request : Request) (c : Configuration) (held : List Item) (limits : Limits)
    (moment : ℕ) (maker : Maker) (words : ChaCha) (endpoint' : Endpoint) → request.endpoint ≡ endpoint' →
    DecidesBy (RefusesBy endpoint' request limits old new) old.refused new.refused (patterns_by endpoint' request) (asked_by endpoint' request.method in_use) result
    (decided_by c request endpoint' held limits moment maker words) →
    DecidesBy (RefusesBy request.endpoint request limits old new) old.refused new.refused (patterns_by request.endpoint request)
    (asked_by request.endpoint request.method in_use) result (decided_by c request request.endpoint held limits moment maker words)
at_endpoint old new in_use result request c held limits moment maker words endpoint' is decides =
    subst (λ (e : Endpoint). DecidesBy (RefusesBy e request limits old new) old.refused new.refused (patterns_by e request)
    (asked_by e request.method in_use) result (decided_by c request e held limits moment maker words)) (sym is) decides

-- by the method that the request has
pub with_method : (had refused : List (List ℕ)) (result : Result Decided Fault) (Refuse : Method → Decision → Type 0) (patterns stored : Method → List (List ℕ))
    (decision : Method → Decision) (own method' : Method) → own ≡ method' →
    DecidesBy (Refuse method') had refused (patterns method') (stored method') result (decision method') →
    DecidesBy (Refuse own) had refused (patterns own) (stored own) result (decision own)
with_method had refused result Refuse patterns stored decision own method' is decides =
    subst (λ (m : Method). DecidesBy (Refuse m) had refused (patterns m) (stored m) result (decision m)) (sym is) decides
