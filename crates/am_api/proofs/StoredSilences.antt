-- The patterns of silences that are stored are those that their request has, or those of what is held.
use Rattle.std.proofs.Common.{◌≡◌, ℕ, ◌+◌, List, [], ◌∷◌, ◌++◌, Bool, true, false, if◌then◌else◌, Option, None, Some, Result, Ok, Err, length, nat_le, nat_lt, refl, sym, ap, ◌∙◌, inl, inr, append-nil, option_and_then, subst}
use Rattle.std.specs.Option.{option_to_list}
use Rattle.std.proofs.lemmas.Bool.{cases_Bool}
use Rattle.std.proofs.lemmas.List.Elements.{Contains-append_left, Contains-append_right, Contains-append_cases}
use Rattle.rand_chacha.specs.ChaCha.{ChaCha}
use Rattle.am_text.specs.Outcome.{◌>>=◌, outcome_map}
use Rattle.am_text.proofs.OutcomeLemmas.{both_done}
use Rattle.am_http.specs.declared.request.Method.{Method}
use Rattle.am_http.specs.declared.request.Method.TheVariants.{Get, Post, Delete}
use Rattle.am_http.specs.declared.request.Request.{Request}
use Rattle.am_limit.specs.declared.limits.Limits.{Limits}
use Rattle.am_match.specs.Matchers.{MatcherText, patterns_of}
use Rattle.am_match.specs.Checking.{pattern_refusal, unless_refused}
use Rattle.am_match.specs.Meaning.{all_take}
use Rattle.am_match.specs.declared.refusal.MatcherRefusal.{MatcherRefusal}
use Rattle.am_pattern.specs.Taking.{is_pattern}
use Rattle.am_item.specs.declared.item.Item.{Item}
use Rattle.am_item.specs.declared.item.Thing.{Thing}
use Rattle.am_item.specs.declared.item.Thing.TheVariants as thing
use Rattle.am_item.specs.declared.stamp.Stamp.{Stamp}
use Rattle.am_item.specs.Best.{item_at}
use Rattle.am_item.specs.Key.{Key, has_key}
use Rattle.am_item.specs.declared.key.ThingKey.TheVariants.{Silence as SilenceKey}
use Rattle.am_alert.specs.declared.maker.Maker.{Maker}
use Rattle.am_silence.specs.Changing.{Changed, Write, anew, change, change_of, changed, deleted, expiry_by, in_place, is_in_place, known, or_ended}
use Rattle.am_silence.specs.Held.{SilenceValue, silence_at, silence_in, stamped}
use Rattle.am_silence.specs.Posted as silences
use Rattle.am_silence.specs.Silences.{state_of}
use Rattle.am_silence.specs.declared.refusal.SilenceRefusal.{SilenceRefusal}
use Rattle.am_silence.specs.declared.refusal.SilenceRefusal.TheVariants.{TakesEmpty, EndsByStart, Ended, BadMatcher}
use Rattle.am_silence.specs.declared.state.SilenceState.{SilenceState}
use Rattle.am_silence.specs.declared.state.SilenceState.TheVariants.{Pending, Active, Expired}
use Rattle.am_silence.specs.declared.written.Written.{Written}
use Rattle.am_silence.specs.declared.written.WrittenMatcher.{WrittenMatcher}
use Rattle.am_words.specs.Draws.{new_id}
use Rattle.am_words.specs.Ids.{id_in}
use Rattle.am_words.specs.Words.{words_in}
use Rattle.am_query.specs.declared.refusal.QueryRefusal.{QueryRefusal}
use Rattle.am_query.specs.Patterns.{Among, patterns_of_filters}
use Rattle.am_query.specs.Queries.{filters_in}
use Rattle.am_api.specs.Patterns.{patterns_of_items, patterns_of_silences, patterns_of_thing}
use Rattle.am_api.specs.Silences as decisions
use Rattle.am_api.proofs.StoredLemmas.{among_if, none_in, nowhere}

-- ---- what is held

abbrev patterns_found : Option SilenceValue → List (List ℕ)
patterns_found None = []
patterns_found (Some silence) = patterns_of silence.details.matchers

-- the patterns of a silence are those of its thing
thing_found : (stamp : Stamp) (t : Thing) → Among (patterns_found (stamped stamp t)) (patterns_of_thing t)
thing_found stamp (thing.Silence silence) text there = there
thing_found stamp (thing.Configuration said) text there = nowhere _ text there
thing_found stamp (thing.Alert alert) text there = there
thing_found stamp (thing.SentEntry entry) text there = there

-- the patterns of a silence that is held are among those of what is held
found_among : (key : Key) (held : List Item) → Among (patterns_found (option_and_then silence_in (item_at key held))) (patterns_of_items held)
unfolding patterns_of_items
found_among key [] text there = there
found_among key (item ∷ held) text there =
    elim (cases_Bool (has_key key item)) [
      | inl here ↦ Contains-append_left (patterns_of_thing item.thing) (patterns_of_items held) text (thing_found item.stamp item.thing text (rw here at there))
      | inr other ↦ Contains-append_right (patterns_of_thing item.thing) (patterns_of_items held) text (found_among key held text (rw other at there))
    ]

held_among : (id : List ℕ) (held : List Item) → Among (patterns_found (silence_at id held)) (patterns_of_items held)
held_among id held = found_among (SilenceKey id) held

-- ---- what is written

-- the patterns of writes, in their order, are those of their items
abbrev patterns_of_writes : List Write → List (List ℕ)
patterns_of_writes [] = []
patterns_of_writes (w ∷ ws) = patterns_of w.details.matchers ++ patterns_of_writes ws

items_patterns : (maker : Maker) (ws : List Write) → patterns_of_items (decisions.silence_items maker ws) ≡ patterns_of_writes ws
unfolding patterns_of_items decisions.silence_items
items_patterns maker [] = refl
items_patterns maker (w ∷ ws) = ap (λ ps. patterns_of w.details.matchers ++ ps) (items_patterns (record maker { used = maker.used + 1 }) ws)

items_among : (maker : Maker) (ws : List Write) (ys : List (List ℕ)) → Among (patterns_of_writes ws) ys →
    Among (patterns_of_items (decisions.silence_items maker ws)) ys
items_among maker ws ys among text there = among text (rw items_patterns at there)

-- one write alone
write_among : (maker : Maker) (w : Write) (ys : List (List ℕ)) → Among (patterns_of w.details.matchers) ys →
    Among (patterns_of_items (decisions.silence_items maker (w ∷ []))) ys
write_among maker w ys among = items_among maker (w ∷ []) ys (λ text there. among text (rw append-nil at there))

abbrev patterns_expired : Option Write → List (List ℕ)
patterns_expired None = []
patterns_expired (Some w) = patterns_of w.details.matchers

-- an expiry that is of what is held, and a write of what is asked
writes_among : (maker : Maker) (expired : Option Write) (w : Write) (own held : List (List ℕ)) → Among (patterns_expired expired) held →
    Among (patterns_of w.details.matchers) own → Among (patterns_of_items (decisions.silence_items maker (option_to_list expired ++ w ∷ []))) (own ++ held)
writes_among maker None w own held old new = write_among maker w (own ++ held) (λ text there. Contains-append_left own held text (new text there))
writes_among maker (Some ending) w own held old new =
    items_among maker (ending ∷ w ∷ []) (own ++ held)
    (λ text there. elim (Contains-append_cases (patterns_of ending.details.matchers) (patterns_of w.details.matchers ++ []) text there) [
      | inl ended ↦ Contains-append_right own held text (old text ended)
      | inr posted ↦ Contains-append_left own held text (new text (rw append-nil at posted))
    ])

-- the expiry of a silence has its patterns
expiry_among : (state : SilenceState) (moment : ℕ) (old : SilenceValue) (ys : List (List ℕ)) → Among (patterns_of old.details.matchers) ys →
    Among (patterns_expired (expiry_by state moment old)) ys
expiry_among Pending moment old ys among = among
expiry_among Active moment old ys among = among
expiry_among Expired moment old ys among = nowhere ys

-- ---- what a post changes

-- a change lets a silence expire that is held, and has the patterns that are asked
abbrev Fits : (own held : List (List ℕ)) → Changed → Type 0
Fits own held c = Among (patterns_expired c.expired) held × Among (patterns_of c.details.matchers) own

abbrev FitsIfDone : (own held : List (List ℕ)) → Result Changed SilenceRefusal → Type 0
FitsIfDone own held (Ok c) = Fits own held c
FitsIfDone own held (Err reason) = Unit {0}

fits_if : (stays : Bool) (own held : List (List ℕ)) (a b : Changed) → Fits own held a → Fits own held b → Fits own held (if stays then a else b)
fits_if true own held a b first later = first
fits_if false own held a b first later = later

old_fits : (moment : ℕ) (old : SilenceValue) (posted : silences.Posted) (held : List (List ℕ)) → Among (patterns_of old.details.matchers) held →
    Fits (patterns_of posted.matchers) held (change_of moment old posted)
old_fits moment old posted held among =
    fits_if (is_in_place moment old.details posted) (patterns_of posted.matchers) held (in_place moment old posted)
    (anew moment (expiry_by (state_of moment old.details) moment old) posted)
    (nowhere held, λ text there. there)
    (expiry_among (state_of moment old.details) moment old held among, λ text there. there)

found_fits : (found : Option SilenceValue) (moment : ℕ) (posted : silences.Posted) (held : List (List ℕ)) → Among (patterns_found found) held →
    Fits (patterns_of posted.matchers) held (change moment found posted)
unfolding change
found_fits None moment posted held among = (nowhere held, λ text there. there)
found_fits (Some old) moment posted held among = old_fits moment old posted held among

known_fits : (found : Option SilenceValue) (moment : ℕ) (posted : silences.Posted) (held : List (List ℕ)) → Among (patterns_found found) held →
    FitsIfDone (patterns_of posted.matchers) held ((known found >>= λ old. Ok (Some old)) >>= λ old. Ok (change moment old posted))
known_fits None moment posted held among = tt
known_fits (Some old) moment posted held among = found_fits (Some old) moment posted held among

changed_fits : (held : List Item) (id : Option (List ℕ)) (moment : ℕ) (posted : silences.Posted) →
    FitsIfDone (patterns_of posted.matchers) (patterns_of_items held) (changed held id moment posted)
unfolding changed
changed_fits held None moment posted = found_fits None moment posted (patterns_of_items held) (nowhere (patterns_of_items held))
changed_fits held (Some id) moment posted = known_fits (silence_at id held) moment posted (patterns_of_items held) (held_among id held)

given_fits : (given : Result (Option (List ℕ)) SilenceRefusal) (held : List Item) (moment : ℕ) (posted : silences.Posted) →
    FitsIfDone (patterns_of posted.matchers) (patterns_of_items held) (given >>= λ id. changed held id moment posted)
given_fits (Ok id) held moment posted = changed_fits held id moment posted
given_fits (Err reason) held moment posted = tt

change_fits : (held : List Item) (moment : ℕ) (posted : silences.Posted) →
    FitsIfDone (patterns_of posted.matchers) (patterns_of_items held) (decisions.change_by held moment posted)
unfolding decisions.change_by
change_fits held moment posted = given_fits (decisions.id_given posted.id) held moment posted

-- ---- the items of a change

stored_among : (maker : Maker) (c : Changed) (id : List ℕ) (own held : List (List ℕ)) → Fits own held c →
    Among (patterns_of_items (decisions.change_stored maker c id).items) (own ++ held)
stored_among maker c id own held fits = writes_among maker c.expired _ own held fits.0 fits.1

new_among : (maker : Maker) (c : Changed) (id : Option (List ℕ)) (own held : List (List ℕ)) → Fits own held c →
    Among (patterns_of_items (decisions.new_stored maker c id).items) (own ++ held)
new_among maker c None own held fits = none_in (own ++ held)
new_among maker c (Some id) own held fits = stored_among maker c id own held fits

identified_among : (items : List Item) (maker : Maker) (words : ChaCha) (c : Changed) (id : Option (List ℕ)) (own held : List (List ℕ)) → Fits own held c →
    Among (patterns_of_items (decisions.identified items maker words c id).items) (own ++ held)
identified_among items maker words c None own held fits = new_among maker c (new_id (words_in words) words.word_pos items) own held fits
identified_among items maker words c (Some id) own held fits = stored_among maker c id own held fits

changed_among : (limit : ℕ) (items : List Item) (moment : ℕ) (maker : Maker) (words : ChaCha) (outcome : Result Changed SilenceRefusal) (own held : List (List ℕ)) →
    FitsIfDone own held outcome → Among (patterns_of_items (decisions.changed_or_refused limit items moment maker words outcome).items) (own ++ held)
changed_among limit items moment maker words (Ok c) own held fits =
    among_if (nat_lt limit (decisions.count_with moment items c)) _ (decisions.identified items maker words c c.id) (own ++ held) refl
    (identified_among items maker words c c.id own held fits)
changed_among limit items moment maker words (Err reason) own held fits = none_in (own ++ held)

-- ---- what is posted

-- what is judged has the patterns that were written
abbrev HasPatterns : List (List ℕ) → Result silences.Posted SilenceRefusal → Type 0
HasPatterns own (Ok posted) = patterns_of posted.matchers ≡ own
HasPatterns own (Err reason) = Unit {0}

-- a refusal, or this
patterns_if : (own : List (List ℕ)) (refused : Bool) (reason : SilenceRefusal) (outcome : Result silences.Posted SilenceRefusal) → HasPatterns own outcome →
    HasPatterns own (if refused then Err reason else outcome)
patterns_if own true reason outcome has = tt
patterns_if own false reason outcome has = has

times_patterns : (moment : ℕ) (p : silences.Posted) → HasPatterns (patterns_of p.matchers) (silences.times_judged moment p)
times_patterns moment p =
    patterns_if (patterns_of p.matchers) (nat_le p.ends_at p.starts_at) EndsByStart _
    (patterns_if (patterns_of p.matchers) (nat_le p.ends_at moment) Ended (Ok p) refl)

patterned_same : (found : Option MatcherRefusal) (ms patterned : List MatcherText) → outcome_map BadMatcher (unless_refused found ms) ≡ Ok patterned →
    ms ≡ patterned
patterned_same None ms patterned e = cc
patterned_same (Some refusal) ms patterned e = absurd (cc)

taking_same : (takes : Bool) (ms taking : List MatcherText) →
    (let outcome : Result (List MatcherText) SilenceRefusal = if takes then Err TakesEmpty else Ok ms in outcome) ≡ Ok taking →
    ms ≡ taking
taking_same true ms taking e = absurd (cc)
taking_same false ms taking e = cc

-- matchers that are judged are those that were named
judged_are : (ws : List WrittenMatcher) (ms : List MatcherText) → silences.matchers_judged ws ≡ Ok ms → silences.some_named ws ≡ Ok ms
unfolding silences.matchers_judged
judged_are ws ms e =
    let named = both_done (silences.some_named ws) _ ms e in
    let patterned = both_done (silences.with_patterns named.0) _ ms named.1.1 in
    let first : named.0 ≡ patterned.0 = patterned_same (pattern_refusal is_pattern (patterns_of named.0)) named.0 patterned.0 patterned.1.0 in
    let last : patterned.0 ≡ ms = taking_same (all_take patterned.0 []) patterned.0 ms patterned.1.1 in
    named.1.0 ∙ ap (λ (xs : List MatcherText). Ok xs) (first ∙ last)

with_matchers : (moment : ℕ) (w : Written) (outcome : Result (List MatcherText) SilenceRefusal) → silences.matchers_judged w.matchers ≡ outcome →
    HasPatterns (silences.patterns_named (silences.some_named w.matchers)) (outcome >>= λ matchers. silences.times_judged moment (silences.posted_with w matchers))
with_matchers moment w (Ok ms) is =
    subst (λ (named : Result (List MatcherText) SilenceRefusal). HasPatterns (silences.patterns_named named) (silences.times_judged moment (silences.posted_with w ms)))
    (sym (judged_are w.matchers ms is))
    (times_patterns moment (silences.posted_with w ms))
with_matchers moment w (Err reason) is = tt

written_patterns : (moment : ℕ) (written : Result Written SilenceRefusal) →
    HasPatterns (silences.patterns_written written) (written >>= λ w. silences.judged moment w)
unfolding silences.judged
written_patterns moment (Ok w) = with_matchers moment w (silences.matchers_judged w.matchers) refl
written_patterns moment (Err reason) = tt

-- what is posted has the patterns of its body
posted_has : (moment : ℕ) (body : List ℕ) → HasPatterns (silences.patterns_in_body body) (silences.posted moment body)
unfolding silences.posted silences.patterns_in_body
posted_has moment body = written_patterns moment (silences.written_in body)

-- ---- requests to silences

posted_among : (limit : ℕ) (held : List Item) (moment : ℕ) (maker : Maker) (words : ChaCha) (outcome : Result silences.Posted SilenceRefusal) (own : List (List ℕ)) →
    HasPatterns own outcome →
    Among (patterns_of_items (decisions.posted_or_refused limit held moment maker words outcome).items) (own ++ patterns_of_items held)
posted_among limit held moment maker words (Ok posted) own has =
    subst
    (λ (ps : List (List ℕ)). Among (patterns_of_items (decisions.posted_or_refused limit held moment maker words (Ok posted)).items) (ps ++ patterns_of_items held))
    has
    (changed_among limit held moment maker words (decisions.change_by held moment posted) (patterns_of posted.matchers) (patterns_of_items held)
    (change_fits held moment posted))
posted_among limit held moment maker words (Err reason) own has = none_in (own ++ patterns_of_items held)

listed_among : (held : List Item) (moment : ℕ) (outcome : Result (List MatcherText) QueryRefusal) (ys : List (List ℕ)) →
    Among (patterns_of_items (decisions.silences_or_refused held moment outcome).items) ys
listed_among held moment (Ok wanted) ys = none_in ys
listed_among held moment (Err reason) ys = none_in ys

-- the patterns of what a request to the silences stores are its own, or those of what is held
pub silences_among : (request : Request) (method : Method) (held : List Item) (limits : Limits) (moment : ℕ) (maker : Maker) (words : ChaCha) →
    Among (patterns_of_items (decisions.silences_decided request method held limits moment maker words).items)
    (patterns_of_silences method request ++ patterns_of_items held)
silences_among request Get held limits moment maker words =
    listed_among held moment (filters_in request.query) (patterns_of_filters request.query ++ patterns_of_items held)
silences_among request Post held limits moment maker words =
    among_if (nat_lt limits.silence (length request.body)) _
    (decisions.posted_or_refused limits.silences held moment maker words (silences.posted moment request.body))
    (silences.patterns_in_body request.body ++ patterns_of_items held) refl
    (posted_among limits.silences held moment maker words (silences.posted moment request.body) (silences.patterns_in_body request.body)
    (posted_has moment request.body))
silences_among request Delete held limits moment maker words = none_in (patterns_of_items held)

-- ---- a request to one silence

read_among : (moment : ℕ) (found : Option SilenceValue) (ys : List (List ℕ)) → Among (patterns_of_items (decisions.read_or_unknown moment found).items) ys
read_among moment None ys = none_in ys
read_among moment (Some silence) ys = none_in ys

ended_among : (maker : Maker) (expired : Option Write) (ys : List (List ℕ)) → Among (patterns_expired expired) ys →
    Among (patterns_of_items (decisions.expiry_or_refused maker (or_ended expired)).items) ys
ended_among maker None ys among = none_in ys
ended_among maker (Some w) ys among = write_among maker w ys among

expired_among : (moment : ℕ) (maker : Maker) (found : Option SilenceValue) (ys : List (List ℕ)) → Among (patterns_found found) ys →
    Among (patterns_of_items (decisions.expiry_or_refused maker (known found >>= λ old. or_ended (expiry_by (state_of moment old.details) moment old))).items) ys
expired_among moment maker None ys among = none_in ys
expired_among moment maker (Some old) ys among =
    ended_among maker (expiry_by (state_of moment old.details) moment old) ys (expiry_among (state_of moment old.details) moment old ys among)

deleted_among : (held : List Item) (moment : ℕ) (maker : Maker) (id : Option (List ℕ)) →
    Among (patterns_of_items (decisions.deleted_or_unknown held moment maker id).items) (patterns_of_items held)
unfolding deleted
deleted_among held moment maker None = none_in (patterns_of_items held)
deleted_among held moment maker (Some id) = expired_among moment maker (silence_at id held) (patterns_of_items held) (held_among id held)

-- the patterns of what a request to one silence stores are those of what is held
pub silence_among : (text : List ℕ) (method : Method) (held : List Item) (moment : ℕ) (maker : Maker) →
    Among (patterns_of_items (decisions.silence_decided text method held moment maker).items) (patterns_of_items held)
silence_among text Get held moment maker = read_among moment (decisions.silence_named text held) (patterns_of_items held)
silence_among text Post held moment maker = none_in (patterns_of_items held)
silence_among text Delete held moment maker = deleted_among held moment maker (id_in text)
