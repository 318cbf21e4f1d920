-- What the parameters of a query say together, one after another.
use Rattle.std.proofs.Common.{◌≡◌, ◌⊎◌, ℕ, List, [], ◌∷◌, ◌++◌, All, Bool, true, false, not, ◌&&◌, Option, None, Some, Result, Ok, Err, IfOk, chars, reverse, length, refl, sym, ap, ◌∙◌, subst, inl, inr, true≢false, append_assoc, append-nil, arith, zero, suc, ◌+◌, ◌<◌, ◌≤◌, drop, get_or}
use Rattle.std.specs.Prelude.{codes, find, option_map, if◌then◌else◌}
use Rattle.std.specs.List.{Contains, list_any}
use Rattle.std.specs.Option.{ForSome, option_to_list}
use Rattle.std.specs.Str.{bytes_eq}
use Rattle.std.proofs.lemmas.Bool.{cases_Bool, or_parts}
use Rattle.std.proofs.lemmas.List.Elements.{All-nil, All-cons, All-head, All-tail, All-append, All-contains, Contains-append_left, Contains-append_right, Contains-append_cases}
use Rattle.std.proofs.lemmas.List.{drop_all, reverse-append}
use Rattle.std.proofs.Math.Seq.{drop-cons}
use Rattle.std.proofs.lemmas.Slice.Eq.{bytes_eq-Decides}
use Rattle.am_text.specs.Outcome.{◌>>=◌, outcome_map}
use Rattle.am_text.specs.declared.failure.Failure.{Failure}
use Rattle.am_text.specs.declared.failure.Failure.TheVariants as failures
use Rattle.am_text.proofs.OutcomeLemmas.{both_done, with_front}
use Rattle.am_pattern.specs.Cache.{Cache}
use Rattle.am_pattern.specs.Taking.{IsPattern, is_pattern}
use Rattle.am_pattern.proofs.Decided.{IsPattern-from_test}
use Rattle.am_match.specs.Checking.{AreRefusedRightly, IsPatternRefusal, IsTextRefusal, is_short, meaning_of, pattern_refusal, patterns_in, unless_refused}
use Rattle.am_match.specs.Matchers.{MatcherText, patterns_of, is_on_pattern}
use Rattle.am_match.specs.Reading.{matchers_of}
use Rattle.am_match.specs.declared.refusal.MatcherRefusal.{MatcherRefusal}
use Rattle.am_match.specs.declared.refusal.MatcherRefusal.TheVariants as matcher
use Rattle.am_match.proofs.CheckingLemmas.{long_meant}
use Rattle.am_query.specs.declared.query.Kind.{Kind}
use Rattle.am_query.specs.declared.query.Kind.TheVariants.{Filter, Receiver, Flag, Unknown}
use Rattle.am_query.specs.declared.query.Parameter.{Parameter}
use Rattle.am_query.specs.declared.query.Query.{Query}
use Rattle.am_query.specs.declared.refusal.QueryRefusal.{QueryRefusal}
use Rattle.am_query.specs.declared.refusal.QueryRefusal.TheVariants.{BadFlag, BadMatcher}
use Rattle.am_query.specs.Unbuilt.{FailsUnless, GivesUnless, IsUnbuiltRefusal}
use Rattle.am_query.specs.Patterns.{Among, IsAsked, patterns_as, patterns_of_parameters}
use Rattle.am_query.specs.Queries.{asks_for, judged, kind_of, last_value, matchers_in, query_of}
use Rattle.am_query.proofs.Builds.{contains_here, refused_among, rightly_or_refused}

-- ---- a filter or a receiver that is refused

-- by the refusal of its patterns: it is the one that they have, or one for a pattern that isn't built
patterns_refused : (ps : List (List ℕ)) (old new : Cache) (refusal : MatcherRefusal) → IsPatternRefusal ps old new refusal →
    (AreRefusedRightly new.refused ps → pattern_refusal is_pattern ps ≡ Some refusal) →
    (pattern_refusal is_pattern ps ≡ Some refusal) ⊎ IsUnbuiltRefusal new.refused ps (BadMatcher refusal)
patterns_refused ps old new matcher.NoMatchers found means = absurd found
patterns_refused ps old new matcher.LongPattern found means = inl (long_meant ps found.0 found.1)
patterns_refused ps old new matcher.BadPattern found means =
    elim (rightly_or_refused new.refused ps) [ inl rightly ↦ inl (means rightly) | inr known ↦ inr (inr refl, known) ]
patterns_refused ps old new matcher.BuildRefused found means =
    elim (rightly_or_refused new.refused ps) [ inl rightly ↦ inl (means rightly) | inr known ↦ inr (inl refl, known) ]

-- the refusal that is told of patterns
refusal_told : {Y : Type 0} (found : Option MatcherRefusal) (refusal : MatcherRefusal) (y : Y) → unless_refused found y ≡ Err refusal → found ≡ Some refusal
refusal_told None refusal y e = absurd (cc)
refusal_told (Some other) refusal y e = cc

pub receiver_refused : {Y : Type 0} (y : Y) (value : List ℕ) (old new : Cache) (refusal : MatcherRefusal) → IsPatternRefusal (value ∷ []) old new refusal →
    (AreRefusedRightly new.refused (value ∷ []) → unless_refused (pattern_refusal is_pattern (value ∷ [])) y ≡ Err refusal) →
    (judged Receiver value ≡ Err (BadMatcher refusal)) ⊎ IsUnbuiltRefusal new.refused (patterns_as Receiver value) (BadMatcher refusal)
unfolding judged
receiver_refused y value old new refusal found means =
    elim (patterns_refused (value ∷ []) old new refusal found (λ rightly. refusal_told _ refusal y (means rightly))) [
      | inl is ↦ inl (rw is refl)
      | inr unbuilt ↦ inr unbuilt
    ]

text_refused : (spelled : Option (List MatcherText)) (old new : Cache) (refusal : MatcherRefusal) → IsTextRefusal spelled old new refusal →
    (AreRefusedRightly new.refused (patterns_in spelled) → meaning_of spelled ≡ Err refusal) →
    (meaning_of spelled ≡ Err refusal) ⊎ IsUnbuiltRefusal new.refused (patterns_in spelled) (BadMatcher refusal)
text_refused None old new matcher.NoMatchers found means = inl refl
text_refused None old new matcher.BadPattern found means = absurd found
text_refused None old new matcher.LongPattern found means = absurd found
text_refused None old new matcher.BuildRefused found means = absurd found
text_refused (Some ms) old new refusal found means =
    elim (patterns_refused (patterns_of ms) old new refusal found (λ rightly. refusal_told _ refusal ms (means rightly))) [
      | inl is ↦ inl (ap (λ r. unless_refused r ms) is)
      | inr unbuilt ↦ inr unbuilt
    ]

pub filter_refused : (value : List ℕ) (old new : Cache) (refusal : MatcherRefusal) → IsTextRefusal (matchers_of (chars value)) old new refusal →
    (AreRefusedRightly new.refused (patterns_in (matchers_of (chars value))) → meaning_of (matchers_of (chars value)) ≡ Err refusal) →
    (judged Filter value ≡ Err (BadMatcher refusal)) ⊎ IsUnbuiltRefusal new.refused (patterns_as Filter value) (BadMatcher refusal)
unfolding judged
filter_refused value old new refusal found means =
    elim (text_refused (matchers_of (chars value)) old new refusal found means) [
      | inl is ↦ inl (ap (outcome_map BadMatcher) is)
      | inr unbuilt ↦ inr unbuilt
    ]

-- ---- one parameter after another

joined : (done own : List MatcherText) (later : Result (List MatcherText) QueryRefusal) →
    with_front done (later >>= λ others. Ok (own ++ others)) ≡ with_front (done ++ own) later
joined done own (Ok others) = ap (λ ms. Ok ms) (simp append_assoc)
joined done own (Err refusal) = refl

-- the next one brings its own
pub next_own : (done own : List MatcherText) (p : Parameter) (rest : List Parameter) → judged (kind_of p.name) p.value ≡ Ok own →
    with_front done (matchers_in (p ∷ rest)) ≡ with_front (done ++ own) (matchers_in rest)
unfolding matchers_in
next_own done own p rest is = rw is (joined done own (matchers_in rest))

-- or refuses the query
pub next_refused : (done : List MatcherText) (refusal : QueryRefusal) (p : Parameter) (rest : List Parameter) →
    judged (kind_of p.name) p.value ≡ Err refusal → with_front done (matchers_in (p ∷ rest)) ≡ Err refusal
unfolding matchers_in
next_refused done refusal p rest is = rw is refl

-- ---- the patterns of a query that was read

patterns_of-append : (ms ns : List MatcherText) → patterns_of (ms ++ ns) ≡ patterns_of ms ++ patterns_of ns
patterns_of-append [] ns = refl
patterns_of-append (m ∷ ms) ns =
    elim (cases_Bool (is_on_pattern m.operator)) [
      | inl on ↦ rw (on, patterns_of-append ms ns)
      | inr off ↦ rw (off, patterns_of-append ms ns)
    ]

by_flags : (short is : Bool) → (short && not is) ≡ false → not short ≡ false → is ≡ true
by_flags true true bad long = refl
by_flags true false bad long = absurd (true≢false bad)
by_flags false is bad long = absurd (true≢false long)

are_patterns : (ps : List (List ℕ)) → list_any (λ p. is_short p && not (is_pattern p)) ps ≡ false → list_any (λ p. not (is_short p)) ps ≡ false →
    All IsPattern ps
are_patterns [] bad long = All-nil IsPattern
are_patterns (p ∷ ps) bad long =
    let bads = or_parts (is_short p && not (is_pattern p)) (list_any (λ q. is_short q && not (is_pattern q)) ps) bad in
    let longs = or_parts (not (is_short p)) (list_any (λ q. not (is_short q)) ps) long in
    All-cons IsPattern p ps (IsPattern-from_test p (by_flags (is_short p) (is_pattern p) bads.0 longs.0)) (are_patterns ps bads.1 longs.1)

passed_by : (ps : List (List ℕ)) (bad long : Bool) → list_any (λ p. is_short p && not (is_pattern p)) ps ≡ bad →
    list_any (λ p. not (is_short p)) ps ≡ long →
    (if bad then Some matcher.BadPattern else if long then Some matcher.LongPattern else None) ≡ None → All IsPattern ps
passed_by ps true long b l e = absurd (cc)
passed_by ps false true b l e = absurd (cc)
passed_by ps false false b l e = are_patterns ps b l

-- texts of which none is refused are patterns
passed : (ps : List (List ℕ)) → pattern_refusal is_pattern ps ≡ None → All IsPattern ps
passed ps e = passed_by ps (list_any (λ p. is_short p && not (is_pattern p)) ps) (list_any (λ p. not (is_short p)) ps) refl refl e

told : {Y : Type 0} (found : Option MatcherRefusal) (y own : Y) → outcome_map BadMatcher (unless_refused found y) ≡ Ok own → (found ≡ None) × (y ≡ own)
told None y own e = (refl, cc)
told (Some refusal) y own e = absurd (cc)

-- what holds of the patterns of matchers that one of these parameters brought
record Brought (own : List MatcherText) (texts : List (List ℕ)) : Type 0 where
  patterns : All IsPattern (patterns_of own)
  among : Among (patterns_of own) texts

nothing : (own : List MatcherText) (texts : List (List ℕ)) → [] ≡ own → Brought own texts
nothing own texts e = rw (← e) (record { patterns = All-nil IsPattern; among = λ text there. absurd (omega (arith, there.1)) })

brought_text : (spelled : Option (List MatcherText)) (own : List MatcherText) → outcome_map BadMatcher (meaning_of spelled) ≡ Ok own → Brought own (patterns_in spelled)
brought_text None own e = absurd (cc)
brought_text (Some ms) own e =
    let parts = told (pattern_refusal is_pattern (patterns_of ms)) ms own e in
    rw (← parts.1) (record { patterns = passed (patterns_of ms) parts.0; among = λ text there. there })

brought_flag : (value : List ℕ) (b : Bool) (own : List MatcherText) (texts : List (List ℕ)) →
    (let outcome : Result (List MatcherText) QueryRefusal = if b then Ok [] else Err BadFlag in outcome) ≡ Ok own → Brought own texts
brought_flag value true own texts e = nothing own texts cc
brought_flag value false own texts e = absurd (cc)

brought : (kind : Kind) (value : List ℕ) (own : List MatcherText) → judged kind value ≡ Ok own → Brought own (patterns_as kind value)
unfolding judged
brought Filter value own e = brought_text (matchers_of (chars value)) own e
brought Receiver value own e =
    nothing own (value ∷ []) (told (pattern_refusal is_pattern (value ∷ [])) [] own e).1
brought Flag value own e = brought_flag value _ own [] e
brought Unknown value own e = nothing own [] cc

brought_both : (own others : List MatcherText) (xs ys : List (List ℕ)) → Brought own xs → Brought others ys → Brought (own ++ others) (xs ++ ys)
brought_both own others xs ys mine theirs = record {
  patterns = rw (patterns_of-append own others) (All-append IsPattern (patterns_of own) (patterns_of others) mine.patterns theirs.patterns);
  among = λ text there. elim (Contains-append_cases (patterns_of own) (patterns_of others) text (rw (patterns_of-append own others) at there)) [
    | inl first ↦ Contains-append_left xs ys text (mine.among text first)
    | inr later ↦ Contains-append_right xs ys text (theirs.among text later)
  ];
}

-- so it is of all that they bring together
brought_by : (ps : List Parameter) (ms : List MatcherText) → matchers_in ps ≡ Ok ms → Brought ms (patterns_of_parameters ps)
unfolding matchers_in
brought_by [] ms e = nothing ms [] cc
brought_by (p ∷ ps) ms e =
    let first = both_done (judged (kind_of p.name) p.value) _ ms e in
    let later = both_done (matchers_in ps) _ ms first.1.1 in
    let whole : first.0 ++ later.0 ≡ ms = cc in
    subst (λ all. Brought all (patterns_of_parameters (p ∷ ps))) whole
    (brought_both first.0 later.0 (patterns_as (kind_of p.name) p.value) (patterns_of_parameters ps)
    (brought (kind_of p.name) p.value first.0 first.1.0) (brought_by ps later.0 later.1.0))

-- ---- the receiver that is asked for

-- a receiver that was judged is a pattern, which is among those of the parameters
IsJudged : List (List ℕ) → Parameter → Type 0
IsJudged texts p = kind_of p.name ≡ Receiver → IsPattern p.value × Contains texts p.value

judged_receiver : (kind : Kind) (value : List ℕ) (own : List MatcherText) → judged kind value ≡ Ok own → kind ≡ Receiver →
    IsPattern value × Contains (patterns_as kind value) value
unfolding judged
judged_receiver Receiver value own e is =
    let none = (told (pattern_refusal is_pattern (value ∷ [])) [] own e).0 in
    (All-contains IsPattern (value ∷ []) value (passed (value ∷ []) none) (contains_here value []), contains_here value [])
judged_receiver Filter value own e is = absurd (cc)
judged_receiver Flag value own e is = absurd (cc)
judged_receiver Unknown value own e is = absurd (cc)

each_judged : (before : List (List ℕ)) (ps : List Parameter) (ms : List MatcherText) → matchers_in ps ≡ Ok ms →
    All (IsJudged (before ++ patterns_of_parameters ps)) ps
unfolding matchers_in IsJudged
each_judged before [] ms e = All-nil (IsJudged (before ++ []))
each_judged before (p ∷ ps) ms e =
    let first = both_done (judged (kind_of p.name) p.value) _ ms e in
    let later = both_done (matchers_in ps) _ ms first.1.1 in
    let mine = patterns_as (kind_of p.name) p.value in
    let apart : (before ++ mine) ++ patterns_of_parameters ps ≡ before ++ (mine ++ patterns_of_parameters ps) = append_assoc before mine (patterns_of_parameters ps) in
    All-cons (IsJudged (before ++ (mine ++ patterns_of_parameters ps))) p ps
    (λ is.
    let known = judged_receiver (kind_of p.name) p.value first.0 first.1.0 is in
    (known.0, Contains-append_right before _ p.value (Contains-append_left mine _ p.value known.1)))
    (subst (λ texts. All (IsJudged texts) ps) apart (each_judged (before ++ mine) ps later.0 later.1.0))

All-reverse : {X : Type 0} (P : X → Type 0) (xs : List X) → All P xs → All P (reverse xs)
All-reverse P [] all = All-nil P
All-reverse P (x ∷ xs) all =
    subst (All P) (sym (reverse-append (x ∷ []) xs))
    (All-append P (reverse xs) (x ∷ []) (All-reverse P xs (All-tail P x xs all)) (All-cons P x [] (All-head P x xs all) (All-nil P)))

found_one : {X : Type 0} (P : X → Type 0) (test : X → Bool) (xs : List X) (x : X) → All P xs → find test xs ≡ Some x → P x × (test x ≡ true)
found_one P test [] x all e = absurd (cc)
found_one P test (y ∷ xs) x all e =
    elim (cases_Bool (test y)) [
      | inl yes' ↦ (let same : y ≡ x = (let at : Some y ≡ Some x = rw yes' at e in cc) in rw (← same) (All-head P y xs all, yes'))
      | inr no' ↦ found_one P test xs x (All-tail P y xs all) (rw no' at e)
    ]

named_receiver : (name : List ℕ) → bytes_eq name (codes "receiver") ≡ true → kind_of name ≡ Receiver
unfolding kind_of
named_receiver name is =
    let same : name ≡ codes "receiver" = (bytes_eq-Decides name (codes "receiver")).0 is in rw same refl

receiver_by : (texts : List (List ℕ)) (found : Option Parameter) (ps : List Parameter) → All (IsJudged texts) ps →
    find (λ (p : Parameter). bytes_eq p.name (codes "receiver")) (reverse ps) ≡ found →
    All IsPattern (option_to_list (option_map (λ (p : Parameter). p.value) found))
    × Among (option_to_list (option_map (λ (p : Parameter). p.value) found)) texts
unfolding IsJudged
receiver_by texts None ps all e = (All-nil IsPattern, λ text there. absurd (omega (arith, there.1)))
receiver_by texts (Some p) ps all e =
    let known = found_one (IsJudged texts) _ (reverse ps) p (All-reverse (IsJudged texts) ps all) e in
    let both = known.0 (named_receiver p.name known.1) in
    (All-cons IsPattern p.value [] both.0 (All-nil IsPattern), λ text there. only text there both.1)
  where
    only : (text : List ℕ) → Contains (p.value ∷ []) text → Contains texts p.value → Contains texts text
    only text there known' =
        All-contains (λ other. Contains texts other) (p.value ∷ []) text (All-cons (λ other. Contains texts other) p.value [] known' (All-nil (λ other. Contains texts other))) there

-- ---- a query that was read

read_by : (ps : List Parameter) (q : Query) → query_of ps ≡ Ok q → IsAsked q (patterns_of_parameters ps)
read_by ps q e =
    let parts = both_done (matchers_in ps) _ q e in
    let whole = brought_by ps parts.0 parts.1.0 in
    let found = find (λ (p : Parameter). bytes_eq p.name (codes "receiver")) (reverse ps) in
    let one = receiver_by (patterns_of_parameters ps) found ps (each_judged [] ps parts.0 parts.1.0) refl in
    let made : record { matchers = parts.0; receiver = last_value (codes "receiver") ps; active = asks_for (codes "active") ps; silenced = asks_for (codes "silenced") ps; inhibited = asks_for (codes "inhibited") ps } ≡ q = cc in
    subst (λ read. IsAsked read (patterns_of_parameters ps)) made (record {
      matchers = whole.patterns;
      receiver = one_pattern (option_map (λ (p : Parameter). p.value) found) one.0;
      among = λ text there. elim (Contains-append_cases (patterns_of parts.0) _ text there) [
        | inl mine ↦ whole.among text mine
        | inr theirs ↦ one.1 text theirs
      ];
    })
  where
    one_pattern : (value : Option (List ℕ)) → All IsPattern (option_to_list value) → ForSome value IsPattern
    one_pattern None all = λ text e. absurd (cc)
    one_pattern (Some first) all = λ text e. let same : first ≡ text = cc in rw (← same) (All-head IsPattern first [] all)

-- of what was returned for its parameters
pub asked_of : (refused : List (List ℕ)) (ps : List Parameter) (result : Result Query (Failure QueryRefusal)) →
    GivesUnless (IsUnbuiltRefusal refused (patterns_of_parameters ps)) (λ (q : Query). q) result (query_of ps) →
    IfOk result (λ q. IsAsked q (patterns_of_parameters ps))
asked_of refused ps (Ok q) is = read_by ps q is
asked_of refused ps (Err failure) is = tt

-- ---- in the loop over the parameters

next_at : (ps : List Parameter) (i : ℕ) (p : Parameter) → i < length ps → p ≡ get_or ps i p → drop i ps ≡ p ∷ drop (i + 1) ps
next_at ps i p within is = let next : suc i ≡ i + 1 = omega arith in drop-cons ps i p within ∙ rw (← is, next)

among_at : (ps : List Parameter) (i : ℕ) (p : Parameter) → i < length ps → p ≡ get_or ps i p → Among (patterns_as (kind_of p.name) p.value) (patterns_of_parameters ps)
among_at [] i p within is text there = absurd (omega arith)
among_at (q ∷ ps) zero p within is text there =
    Contains-append_left (patterns_as (kind_of q.name) q.value) (patterns_of_parameters ps) text (rw is at there)
among_at (q ∷ ps) (suc i) p within is text there =
    Contains-append_right (patterns_as (kind_of q.name) q.value) (patterns_of_parameters ps) text (among_at ps i p (omega arith) is text there)

-- one parameter more
pub own_more : (ps : List Parameter) (i : ℕ) (p : Parameter) (done own now : List MatcherText) → i < length ps → p ≡ get_or ps i p →
    with_front done (matchers_in (drop i ps)) ≡ matchers_in ps → judged (kind_of p.name) p.value ≡ Ok own → now ≡ done ++ own →
    with_front now (matchers_in (drop (i + 1) ps)) ≡ matchers_in ps
own_more ps i p done own now within is so_far brings added =
    ap (λ ms. with_front ms (matchers_in (drop (i + 1) ps))) added ∙ sym (next_own done own p (drop (i + 1) ps) brings)
    ∙ ap (λ rest. with_front done (matchers_in rest)) (sym (next_at ps i p within is)) ∙ so_far

-- one that is refused
pub own_failed : (refused : List (List ℕ)) (ps : List Parameter) (i : ℕ) (p : Parameter) (done : List MatcherText) (failure : Failure QueryRefusal) → i < length ps → p ≡ get_or ps i p →
    with_front done (matchers_in (drop i ps)) ≡ matchers_in ps →
    FailsUnless (IsUnbuiltRefusal refused (patterns_as (kind_of p.name) p.value)) failure (judged (kind_of p.name) p.value) →
    FailsUnless (IsUnbuiltRefusal refused (patterns_of_parameters ps)) failure (matchers_in ps)
own_failed refused ps i p done failures.OutOfMemory within is so_far fails = tt
own_failed refused ps i p done (failures.Refused refusal) within is so_far (inl fails) =
    inl (sym so_far ∙ ap (λ rest. with_front done (matchers_in rest)) (next_at ps i p within is) ∙ next_refused done refusal p (drop (i + 1) ps) fails)
own_failed refused ps i p done (failures.Refused refusal) within is so_far (inr unbuilt) =
    inr (unbuilt.0, refused_among refused (patterns_as (kind_of p.name) p.value) (patterns_of_parameters ps) (among_at ps i p within is) unbuilt.1)

-- once all were judged
pub all_done : (ps : List Parameter) (i : ℕ) (done : List MatcherText) → length ps ≤ i → with_front done (matchers_in (drop i ps)) ≡ matchers_in ps → matchers_in ps ≡ Ok done
unfolding matchers_in
all_done ps i done past so_far = sym so_far ∙ ap (λ rest. with_front done (matchers_in rest)) (drop_all i ps past) ∙ ap (λ ms. Ok ms) (append-nil done)
