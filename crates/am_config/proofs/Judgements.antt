-- What a draft comes to.
use Rattle.std.proofs.Common.{◌≡◌, ◌⊎◌, ℕ, ◌≤◌, List, [], ◌∷◌, ◌++◌, All, Bool, true, false, not, ◌&&◌, Option, None, Some, Result, Ok, Err, length, chars, refl, ap, ◌∙◌, inl, inr, sym, subst}
use Rattle.std.specs.Prelude.{if◌then◌else◌, IfErr, IfOk, is_ok}
use Rattle.std.specs.List.{list_all, list_any}
use Rattle.std.proofs.lemmas.Bool.Decides.{leb_tells}
use Rattle.std.proofs.lemmas.List.Elements.{All-take, All-tail}
use Rattle.std.proofs.lemmas.List.Folds.{list_all-append}
use Rattle.std.proofs.Math.Seq.{take-append_seam}
use Rattle.am_text.specs.Outcome.{◌>>=◌, Fails, ForRefused, Gives, outcome_as}
use Rattle.am_text.specs.declared.failure.Failure.{Failure}
use Rattle.am_text.specs.declared.failure.Failure.TheVariants.{Refused, OutOfMemory}
use Rattle.am_text.specs.declared.refusal.TextRefusal.{TextRefusal}
use Rattle.am_text.proofs.OutcomeLemmas.{both_done}
use Rattle.am_pattern.specs.Asking.{Stays}
use Rattle.am_pattern.specs.Cache.{Cache}
use Rattle.am_pattern.specs.Refused.{IsRefusedRightly}
use Rattle.am_pattern.specs.Taking.{is_pattern}
use Rattle.am_match.specs.declared.refusal.MatcherRefusal.{MatcherRefusal}
use Rattle.am_match.specs.declared.refusal.MatcherRefusal.TheVariants as matcher
use Rattle.am_match.specs.Checking.{AreRefusedRightly, IsTextRefusal, is_short, meaning_of, patterns_in, unless_refused}
use Rattle.am_match.specs.Matchers.{MatcherText, patterns_of}
use Rattle.am_match.specs.Reading.{matchers_of}
use Rattle.am_match.proofs.CheckingLemmas.{failure_meant}
use Rattle.am_draft.specs.declared.draft.Draft.{Draft}
use Rattle.am_draft.specs.declared.refusal.DraftRefusal.{DraftRefusal}
use Rattle.am_draft.specs.declared.refusal.DraftRefusal.TheVariants as draft
use Rattle.am_draft.specs.Drafts.{draft_in, has_left_out}
use Rattle.am_draft.proofs.Rooted.{text_kept}
use Rattle.am_config.specs.declared.parts.Receiver.{Receiver}
use Rattle.am_config.specs.declared.refusal.ConfigRefusal.{ConfigRefusal}
use Rattle.am_config.specs.declared.refusal.ConfigRefusal.TheVariants.{NotJson, BadForm, BadReceiver, RootMatchers, BadDuration, LeftOut, BadMatcher, TooMany, BadUrl, BuildRefused}
use Rattle.am_config.specs.declared.terms.Terms.{Terms}
use Rattle.am_config.specs.Checks.{counts_fit, is_repeated, is_root_bare, receivers_fit}
use Rattle.am_config.specs.Completing.{completed, receivers_of}
use Rattle.am_config.specs.Configuration.{Configuration}
use Rattle.am_config.specs.Judging.{IsFailureOf, IsLate, IsMeant, IsRead, IsRefusalOf, after_matchers, before_matchers, configuration, judged_by, reading}
use Rattle.am_config.specs.Matching.{gives_matchers, matcher_texts, patterns_of_draft, patterns_of_texts, reads_matchers}
use Rattle.am_config.specs.Refusals.{of_draft, of_matcher}
use Rattle.am_config.specs.Stopping.{IsStopOf, StopsAt}
use Rattle.am_config.specs.Terms.{terms_in}
use Rattle.am_config.proofs.Readings.{all_give}

-- counts that fit are those of few routes
pub few_routes : (draft : Draft) → counts_fit draft ≡ true → length draft.routes ≤ 1000
unfolding counts_fit
few_routes draft fit =
    elim (leb_tells (length draft.routes) 1000) [
      | inl few ↦ few.1
      | inr many ↦ absurd (let no : false ≡ true = rw many.0 at fit in cc)
    ]

-- ---- what was judged, check by check

-- what passed before the matchers
pub record Passed (draft : Draft) (terms : Terms) : Type 0 where
  pub receivers : receivers_fit draft ≡ true
  pub root : is_root_bare draft.routes ≡ true
  pub known : terms_in draft ≡ Ok terms
  pub left : has_left_out draft ≡ false

passed_at : (draft : Draft) (terms : Terms) (receivers root left : Bool) (known : Result Terms TextRefusal) →
    receivers_fit draft ≡ receivers → is_root_bare draft.routes ≡ root → terms_in draft ≡ known → has_left_out draft ≡ left →
    (if not receivers then Err BadReceiver else if not root then Err RootMatchers
    else (outcome_as BadDuration known >>= λ found. if left then Err LeftOut else Ok found)) ≡ Ok terms → Passed draft terms
passed_at draft terms false root left known r b k l e = absurd (cc)
passed_at draft terms true false left known r b k l e = absurd (cc)
passed_at draft terms true true left (Err refusal) r b k l e = absurd (cc)
passed_at draft terms true true true (Ok found) r b k l e = absurd (cc)
passed_at draft terms true true false (Ok found) r b k l e =
    let same : found ≡ terms = cc in
    record { receivers = r; root = b; known = k ∙ ap (λ t. Ok t) same; left = l }

pub passed : (draft : Draft) (terms : Terms) → before_matchers draft ≡ Ok terms → Passed draft terms
unfolding before_matchers
passed draft terms e =
    passed_at draft terms (receivers_fit draft) (is_root_bare draft.routes) (has_left_out draft) (terms_in draft) refl refl refl refl e

-- and all that passed, where a configuration is made
pub record Finished (test : List ℕ → Bool) (draft : Draft) (c : Configuration) : Type 0 where
  pub terms : Terms
  pub before : before_matchers draft ≡ Ok terms
  pub matchers : list_all test (matcher_texts draft) ≡ true
  pub counts : counts_fit draft ≡ true
  pub found : List Receiver
  pub receivers : receivers_of draft.receivers ≡ Ok found
  pub made : completed draft terms found ≡ c

finished_at : (test : List ℕ → Bool) (draft : Draft) (c : Configuration) (terms : Terms) (fit counts : Bool) (receivers : Result (List Receiver) ConfigRefusal) →
    before_matchers draft ≡ Ok terms → list_all test (matcher_texts draft) ≡ fit → counts_fit draft ≡ counts → receivers_of draft.receivers ≡ receivers →
    (if not fit then Err BadMatcher else (if not counts then Err TooMany else (receivers >>= λ found. Ok (completed draft terms found)))) ≡ Ok c →
    Finished test draft c
finished_at test draft c terms false counts receivers b f k r e = absurd (cc)
finished_at test draft c terms true false receivers b f k r e = absurd (cc)
finished_at test draft c terms true true (Err refusal) b f k r e = absurd (cc)
finished_at test draft c terms true true (Ok found) b f k r e =
    let same : completed draft terms found ≡ c = cc in
    record { terms = terms; before = b; matchers = f; counts = k; found = found; receivers = r; made = same }

pub finished : (test : List ℕ → Bool) (draft : Draft) (c : Configuration) → judged_by test draft ≡ Ok c → Finished test draft c
finished test draft c e =
    let parts = both_done (before_matchers draft) _ c e in
    finished_at test draft c parts.0 (list_all test (matcher_texts draft)) (counts_fit draft) (receivers_of draft.receivers) parts.1.0 refl refl refl
    parts.1.1

-- what all that passed makes
pub judged_is : (test : List ℕ → Bool) (draft : Draft) (c : Configuration) → Finished test draft c → judged_by test draft ≡ Ok c
judged_is test draft c all = rw (all.before, all.matchers, all.counts, all.receivers) (ap (λ made. Ok made) all.made)

-- what is read is what is meant
pub judged_meant : (draft : Draft) (c : Configuration) → judged_by reads_matchers draft ≡ Ok c → judged_by gives_matchers draft ≡ Ok c
judged_meant draft c e =
    let all = finished reads_matchers draft c e in
    judged_is gives_matchers draft c
    (record {
      terms = all.terms;
      before = all.before;
      matchers = all_give (matcher_texts draft) all.matchers;
      counts = all.counts;
      found = all.found;
      receivers = all.receivers;
      made = all.made;
    })

pub reading_meant : (drafted : Result Draft DraftRefusal) (c : Configuration) → reading drafted ≡ Ok c → configuration drafted ≡ Ok c
reading_meant (Ok draft) c e = judged_meant draft c e
reading_meant (Err refusal) c e = absurd (cc)

pub result_meant : (drafted : Result Draft DraftRefusal) (result : Result Configuration (Failure ConfigRefusal)) →
    IfOk result (λ c. reading drafted ≡ Ok c) → IfOk result (λ c. configuration drafted ≡ Ok c)
result_meant drafted (Ok c) e = reading_meant drafted c e
result_meant drafted (Err failure) e = tt

pub texts_meant : (result : Result Configuration (Failure ConfigRefusal)) → IfOk result IsRead → IfOk result IsMeant
texts_meant (Ok c) e = reading_meant (draft_in c.text) c e
texts_meant (Err failure) e = tt

-- ---- failures

-- a refusal that can come before the matchers
abbrev IsEarly : ConfigRefusal → Type 0
IsEarly BadReceiver = Unit {0}
IsEarly RootMatchers = Unit {0}
IsEarly BadDuration = Unit {0}
IsEarly LeftOut = Unit {0}
IsEarly refusal = ⊥

early_at : (receivers root left : Bool) (known : Result Terms TextRefusal) (refusal : ConfigRefusal) →
    (if not receivers then Err BadReceiver else if not root then Err RootMatchers
    else (outcome_as BadDuration known >>= λ found. if left then Err LeftOut else Ok found)) ≡ Err refusal → IsEarly refusal
early_at false root left known refusal e = let same : BadReceiver ≡ refusal = cc in subst IsEarly same tt
early_at true false left known refusal e = let same : RootMatchers ≡ refusal = cc in subst IsEarly same tt
early_at true true left (Err other) refusal e = let same : BadDuration ≡ refusal = cc in subst IsEarly same tt
early_at true true true (Ok found) refusal e = let same : LeftOut ≡ refusal = cc in subst IsEarly same tt
early_at true true false (Ok found) refusal e = absurd (cc)

early : (draft : Draft) (refusal : ConfigRefusal) → before_matchers draft ≡ Err refusal → IsEarly refusal
unfolding before_matchers
early draft refusal e = early_at (receivers_fit draft) (is_root_bare draft.routes) (has_left_out draft) (terms_in draft) refusal e

early_refusal : (draft : Draft) (old new : Cache) (refusal : ConfigRefusal) → IsEarly refusal → configuration (Ok draft) ≡ Err refusal →
    Stays old new → IsRefusalOf (Ok draft) old new refusal
early_refusal draft old new NotJson is e stays = absurd is
early_refusal draft old new BadForm is e stays = absurd is
early_refusal draft old new BadReceiver is e stays = (e, stays)
early_refusal draft old new RootMatchers is e stays = (e, stays)
early_refusal draft old new BadDuration is e stays = (e, stays)
early_refusal draft old new LeftOut is e stays = (e, stays)
early_refusal draft old new BadMatcher is e stays = absurd is
early_refusal draft old new TooMany is e stays = absurd is
early_refusal draft old new BadUrl is e stays = absurd is
early_refusal draft old new BuildRefused is e stays = absurd is

judged_early : (draft : Draft) (refusal : ConfigRefusal) → before_matchers draft ≡ Err refusal → configuration (Ok draft) ≡ Err refusal
judged_early draft refusal e = rw e refl

-- before the matchers
pub early_failure : (draft : Draft) (old new : Cache) (failure : Failure ConfigRefusal) → Fails failure (before_matchers draft) →
    Stays old new → IsFailureOf (Ok draft) old new failure
early_failure draft old new OutOfMemory fails stays = stays
early_failure draft old new (Refused refusal) fails stays =
    early_refusal draft old new refusal (early draft refusal fails) (judged_early draft refusal fails) stays

-- the reading of matchers stops for one of two
two_stops : (cause : MatcherRefusal) → (of_matcher cause ≡ BadMatcher) ⊎ (of_matcher cause ≡ BuildRefused)
two_stops matcher.NoMatchers = inl refl
two_stops matcher.BadPattern = inl refl
two_stops matcher.LongPattern = inl refl
two_stops matcher.BuildRefused = inr refl

module _ (draft : Draft) (terms : Terms) (known : before_matchers draft ≡ Ok terms) where
  -- where all texts are read, what is left decides
  pub after_is : list_all reads_matchers (matcher_texts draft) ≡ true → judged_by reads_matchers draft ≡ after_matchers draft terms
  after_is fit = rw (known, fit) refl

  -- where one isn't, it is refused
  pub unread_failure : (failure : Failure ConfigRefusal) →
      ForRefused failure (λ refusal. (refusal ≡ BadMatcher) × (list_all reads_matchers (matcher_texts draft) ≡ false)) →
      Fails failure (judged_by reads_matchers draft)
  unread_failure (Refused refusal) found = rw (known, found.1, found.0) refl
  unread_failure OutOfMemory found = tt

-- the value that is given
pub given_ok : (result : Result Configuration (Failure ConfigRefusal)) (outcome : Result Configuration ConfigRefusal) →
    Gives (λ c. c) result outcome → IfOk result (λ c. outcome ≡ Ok c)
given_ok (Ok c) outcome gives = gives
given_ok (Err failure) outcome gives = tt

module _ (draft : Draft) (terms : Terms) (old new : Cache) (known : before_matchers draft ≡ Ok terms) where
  stop_refusal : (refusal : ConfigRefusal) (stop : StopsAt (matcher_texts draft) refusal old new) → IsRefusalOf (Ok draft) old new refusal
  stop_refusal refusal stop =
      elim (two_stops stop.cause) [
        | inl bad ↦
            let is : refusal ≡ BadMatcher = sym stop.refuses ∙ bad in
            rw is (ap is_ok known, subst (λ r. StopsAt (matcher_texts draft) r old new) is stop)
        | inr built ↦
            let is : refusal ≡ BuildRefused = sym stop.refuses ∙ built in
            rw is (ap is_ok known, subst (λ r. StopsAt (matcher_texts draft) r old new) is stop)
      ]

  -- at the matchers
  pub stop_failure : (failure : Failure ConfigRefusal) → IsStopOf (matcher_texts draft) old new failure → IsFailureOf (Ok draft) old new failure
  stop_failure OutOfMemory stop = stop
  stop_failure (Refused refusal) stop = stop_refusal refusal stop

  -- where all are read, what is left decides
  module _ (fit : list_all reads_matchers (matcher_texts draft) ≡ true) where
    after_meant : configuration (Ok draft) ≡ after_matchers draft terms
    after_meant = rw (known, all_give (matcher_texts draft) fit) refl

    late_failure : (failure : Failure ConfigRefusal) → Stays old new → Fails failure (after_matchers draft terms) → ForRefused failure IsLate →
        IsFailureOf (Ok draft) old new failure
    late_failure OutOfMemory stays fails late = stays
    late_failure (Refused NotJson) stays fails late = absurd late
    late_failure (Refused BadForm) stays fails late = absurd late
    late_failure (Refused BadReceiver) stays fails late = absurd late
    late_failure (Refused RootMatchers) stays fails late = absurd late
    late_failure (Refused BadDuration) stays fails late = absurd late
    late_failure (Refused LeftOut) stays fails late = absurd late
    late_failure (Refused BadMatcher) stays fails late = absurd late
    late_failure (Refused TooMany) stays fails late = (after_meant ∙ fails, stays)
    late_failure (Refused BadUrl) stays fails late = (after_meant ∙ fails, stays)
    late_failure (Refused BuildRefused) stays fails late = absurd late

    -- after the matchers
    pub late_result : (result : Result Configuration (Failure ConfigRefusal)) → Stays old new → Gives (λ c. c) result (after_matchers draft terms) →
        IfErr result (λ failure. ForRefused failure IsLate) → IfErr result (IsFailureOf (Ok draft) old new)
    late_result (Ok c) stays gives late = tt
    late_result (Err failure) stays gives late = late_failure failure stays gives late

-- of a draft that is refused
pub draft_failure : (old new : Cache) (refusal : DraftRefusal) → Stays old new → IsRefusalOf (Err refusal) old new (of_draft refusal)
draft_failure old new draft.NotJson stays = (refl, stays)
draft_failure old new draft.BadForm stays = (refl, stays)

-- ---- what failures mean, where no build of the patterns was refused

-- patterns alone never meet a build that is refused
never_built : (bad long : Bool) (ms : List MatcherText) →
    unless_refused (if bad then Some matcher.BadPattern else if long then Some matcher.LongPattern else None) ms ≡ Err matcher.BuildRefused → ⊥
never_built true long ms e = cc
never_built false true ms e = cc
never_built false false ms e = cc

module _ (old new : Cache) where
  -- the refusal of a text is its meaning
  text_meant : (spelled : Option (List MatcherText)) (cause : MatcherRefusal) → IsTextRefusal spelled old new cause →
      AreRefusedRightly new.refused (patterns_in spelled) → meaning_of spelled ≡ Err cause
  text_meant None matcher.NoMatchers found rightly = refl
  text_meant None matcher.BadPattern found rightly = absurd found
  text_meant None matcher.LongPattern found rightly = absurd found
  text_meant None matcher.BuildRefused found rightly = absurd found
  text_meant (Some ms) cause found rightly = failure_meant (patterns_of ms) old new (Refused cause) ms found rightly

  no_build : (spelled : Option (List MatcherText)) → IsTextRefusal spelled old new matcher.BuildRefused →
      AreRefusedRightly new.refused (patterns_in spelled) → ⊥
  no_build None found rightly = found
  no_build (Some ms) found rightly =
      never_built (list_any (λ p. is_short p && not (is_pattern p)) (patterns_of ms)) (list_any (λ p. not (is_short p)) (patterns_of ms)) ms
      (text_meant (Some ms) matcher.BuildRefused found rightly)

  -- the patterns of one text among those of all
  rightly_at : (front : List (List ℕ)) (text : List ℕ) (back : List (List ℕ)) →
      AreRefusedRightly new.refused (patterns_of_texts (front ++ (text ∷ back))) → AreRefusedRightly new.refused (patterns_in (matchers_of (chars text)))
  rightly_at [] text back rightly =
      rw take-append_seam at (All-take (λ p. IsRefusedRightly new.refused p) (length (patterns_in (matchers_of (chars text))))
      (patterns_in (matchers_of (chars text)) ++ patterns_of_texts back) rightly)
  rightly_at (other ∷ front) text back rightly =
      rightly_at front text back (behind (patterns_in (matchers_of (chars other))) (patterns_of_texts (front ++ (text ∷ back))) rightly)
    where
      behind : (ps qs : List (List ℕ)) → All (λ p. IsRefusedRightly new.refused p) (ps ++ qs) → All (λ p. IsRefusedRightly new.refused p) qs
      behind [] qs h = h
      behind (p ∷ ps) qs h = behind ps qs (All-tail (λ q. IsRefusedRightly new.refused q) p (ps ++ qs) h)

  rightly_there : (texts : List (List ℕ)) (refusal : ConfigRefusal) (stop : StopsAt texts refusal old new) →
      AreRefusedRightly new.refused (patterns_of_texts texts) → AreRefusedRightly new.refused (patterns_in (matchers_of (chars stop.text)))
  rightly_there texts refusal stop rightly = rightly_at stop.front stop.text stop.back (rw stop.order at rightly)

  -- a matcher that stops the reading is bad
  unread : (texts : List (List ℕ)) (stop : StopsAt texts BadMatcher old new) →
      AreRefusedRightly new.refused (patterns_of_texts texts) → list_all gives_matchers texts ≡ false
  unfolding gives_matchers
  unread texts stop rightly =
      rw (stop.order, list_all-append, ap is_ok (text_meant _ stop.cause stop.is_refusal (rightly_there texts BadMatcher stop rightly)))
      (none (list_all gives_matchers stop.front))
    where
      none : (b : Bool) → (b && false) ≡ false
      none true = refl
      none false = refl

  -- and the build of none was refused
  unbuilt : (texts : List (List ℕ)) (stop : StopsAt texts BuildRefused old new) → AreRefusedRightly new.refused (patterns_of_texts texts) → ⊥
  unbuilt texts stop rightly = built stop.cause stop.refuses stop.is_refusal
    where
      built : (cause : MatcherRefusal) → of_matcher cause ≡ BuildRefused → IsTextRefusal (matchers_of (chars stop.text)) old new cause → ⊥
      built matcher.NoMatchers e found = cc
      built matcher.BadPattern e found = cc
      built matcher.LongPattern e found = cc
      built matcher.BuildRefused e found = no_build _ found (rightly_there texts BuildRefused stop rightly)

  bad_meant : (draft : Draft) (outcome : Result Terms ConfigRefusal) → before_matchers draft ≡ outcome → is_ok outcome ≡ true →
      list_all gives_matchers (matcher_texts draft) ≡ false → configuration (Ok draft) ≡ Err BadMatcher
  bad_meant draft (Ok terms) is e fails = rw (is, fails) refl
  bad_meant draft (Err refusal) is e fails = absurd (cc)

  meant_refusal : (drafted : Result Draft DraftRefusal) (refusal : ConfigRefusal) → IsRefusalOf drafted old new refusal →
      AreRefusedRightly new.refused (patterns_of_draft drafted) → configuration drafted ≡ Err refusal
  meant_refusal drafted NotJson found rightly = found.0
  meant_refusal drafted BadForm found rightly = found.0
  meant_refusal drafted BadReceiver found rightly = found.0
  meant_refusal drafted RootMatchers found rightly = found.0
  meant_refusal drafted BadDuration found rightly = found.0
  meant_refusal drafted LeftOut found rightly = found.0
  meant_refusal (Err refusal) BadMatcher found rightly = absurd found
  meant_refusal (Ok draft) BadMatcher found rightly =
      bad_meant draft (before_matchers draft) refl found.0 (unread (matcher_texts draft) found.1 rightly)
  meant_refusal drafted TooMany found rightly = found.0
  meant_refusal drafted BadUrl found rightly = found.0
  meant_refusal (Err refusal) BuildRefused found rightly = absurd found
  meant_refusal (Ok draft) BuildRefused found rightly = absurd (unbuilt (matcher_texts draft) found.1 rightly)

  -- what was returned is the meaning
  pub meant : (drafted : Result Draft DraftRefusal) (result : Result Configuration (Failure ConfigRefusal)) →
      IfOk result (λ c. configuration drafted ≡ Ok c) → IfErr result (IsFailureOf drafted old new) →
      AreRefusedRightly new.refused (patterns_of_draft drafted) → Gives (λ c. c) result (configuration drafted)
  meant drafted (Ok c) is found rightly = is
  meant drafted (Err (Refused refusal)) is found rightly = meant_refusal drafted refusal found rightly
  meant drafted (Err OutOfMemory) is found rightly = tt

-- ---- what was judged is what its text alone says

text_of_completed : (draft : Draft) (terms : Terms) (found : List Receiver) → (completed draft terms found).text ≡ draft.text
unfolding completed
text_of_completed draft terms found = refl

-- a configuration's text is its draft's, and no key is left out
judged_text : (draft : Draft) (c : Configuration) → judged_by reads_matchers draft ≡ Ok c → (c.text ≡ draft.text) × (has_left_out draft ≡ false)
judged_text draft c e =
    let all = finished reads_matchers draft c e in (
      ap (λ (made : Configuration). made.text) (sym all.made) ∙ text_of_completed draft all.terms all.found,
      (passed draft all.terms all.before).left,
    )

-- so the text is read as the same configuration
pub text_again : (draft : Draft) (c : Configuration) → judged_by reads_matchers draft ≡ Ok c →
    (has_left_out draft ≡ false → draft_in draft.text ≡ Ok draft) → IsRead c
text_again draft c e again =
    let parts = judged_text draft c e in
    ap (λ text. reading (draft_in text)) parts.0 ∙ ap reading (again parts.1) ∙ e

-- the configuration of a draft that passes every check
pub completed_read : (draft : Draft) (terms : Terms) (found : List Receiver) → before_matchers draft ≡ Ok terms →
    list_all reads_matchers (matcher_texts draft) ≡ true → counts_fit draft ≡ true → receivers_of draft.receivers ≡ Ok found →
    (has_left_out draft ≡ false → draft_in draft.text ≡ Ok draft) → IsRead (completed draft terms found)
completed_read draft terms found known fit counts receivers again =
    text_again draft (completed draft terms found)
    (judged_is reads_matchers draft (completed draft terms found)
    (record { terms = terms; before = known; matchers = fit; counts = counts; found = found; receivers = receivers; made = refl }))
    again

text_at : (text : List ℕ) (drafted : Result Draft DraftRefusal) (c : Configuration) → draft_in text ≡ drafted → reading drafted ≡ Ok c →
    c.text ≡ text
text_at text (Ok draft) c is e = (judged_text draft c e).0 ∙ text_kept text draft is
text_at text (Err refusal) c is e = absurd (cc)

-- and so is a configuration's
pub text_of : (text : List ℕ) (result : Result Configuration (Failure ConfigRefusal)) → IfOk result (λ c. reading (draft_in text) ≡ Ok c) →
    IfOk result (λ c. c.text ≡ text)
text_of text (Ok c) read = text_at text (draft_in text) c refl read
text_of text (Err failure) read = tt

-- a draft where two receivers have one name
pub repeated_refused : (draft : Draft) → false ≡ not (is_repeated draft.receivers) → before_matchers draft ≡ Err BadReceiver
unfolding receivers_fit before_matchers
repeated_refused draft e = rw (← e) refl
