-- Which patterns are in use, and which a configuration has that is stored.
use Rattle.std.proofs.Common.{◌≡◌, ℕ, List, [], ◌∷◌, ◌++◌, Bool, true, false, if◌then◌else◌, Option, None, Some, Result, Ok, Err, chars, map, refl, sym, ap, ap₂, ◌∙◌, inl, inr, arith, subst, All}
use Rattle.std.specs.Prelude.{codes}
use Rattle.std.specs.List.{Contains}
use Rattle.std.proofs.lemmas.Bool.{cases_Bool}
use Rattle.std.proofs.lemmas.List.Elements.{All-contains, All-contains_itself, All-weaker, Contains-append_left, Contains-append_right, Contains-append_cases}
use Rattle.std.proofs.lemmas.Grind.{flat_map-append}
use Rattle.serde_json.specs.Find.{get}
use Rattle.am_text.specs.declared.tree.Node.{Node}
use Rattle.am_text.proofs.OutcomeLemmas.{both_done}
use Rattle.am_match.specs.Checking.{meaning_of, pattern_refusal, patterns_in, unless_refused}
use Rattle.am_match.specs.Matchers.{MatcherText, patterns_of, is_on_pattern}
use Rattle.am_match.specs.Reading.{matchers_of}
use Rattle.am_match.specs.declared.refusal.MatcherRefusal.{MatcherRefusal}
use Rattle.am_pattern.specs.Taking.{is_pattern}
use Rattle.am_json.specs.Reading.{json, required, text_in}
use Rattle.am_draft.specs.declared.draft.Draft.{Draft}
use Rattle.am_draft.specs.declared.refusal.DraftRefusal.{DraftRefusal}
use Rattle.am_draft.specs.declared.route.RouteDraft.{RouteDraft}
use Rattle.am_draft.specs.declared.rule.RuleDraft.{RuleDraft}
use Rattle.am_draft.specs.Drafts.{draft_in, posted, said_by_document, said_by_text, within_document}
use Rattle.am_draft.specs.Keys.{leaves_out}
use Rattle.am_draft.specs.Refusals.{refusal_of}
use Rattle.am_draft.proofs.Rooted.{text_kept, value_kept}
use Rattle.am_config.specs.declared.parts.Route.{Route}
use Rattle.am_config.specs.declared.parts.Settings.{Settings}
use Rattle.am_config.specs.declared.refusal.ConfigRefusal.{ConfigRefusal}
use Rattle.am_config.specs.Completing.{completed, routes_with}
use Rattle.am_config.specs.Configuration as config
use Rattle.am_config.specs.Inheriting.{settings_of}
use Rattle.am_config.specs.Judging.{configuration, judged_by, reading}
use Rattle.am_config.specs.Matching.{given, gives_matchers, matchers_in, matcher_texts, meaning, patterns_of_draft, patterns_of_texts, reads_matchers, route_texts, rule_texts}
use Rattle.am_config.proofs.Judgements.{finished}
use Rattle.am_route.specs.Asked.{route_matchers}
use Rattle.am_item.specs.declared.item.Item.{Item}
use Rattle.am_item.specs.declared.item.Thing.{Thing}
use Rattle.am_item.specs.declared.item.Thing.TheVariants as thing
use Rattle.am_item.specs.Best.{item_at}
use Rattle.am_item.specs.Key.{has_key}
use Rattle.am_item.specs.declared.key.ThingKey.TheVariants.{Configuration as ConfigurationKey}
use Rattle.am_current.specs.Current.{configuration_at, configuration_by, configuration_in, or_default}
use Rattle.am_config.specs.Completing.{rule_of}
use Rattle.am_config.specs.declared.parts.Rule.{Rule}
use Rattle.am_inhibit.specs.Inhibits.{rule_matchers}
use Rattle.am_silence.specs.Held as held_silences
use Rattle.am_silence.specs.Silences.{is_active}
use Rattle.am_listing.specs.Failing.{patterns_in_use}
use Rattle.am_query.specs.Patterns.{Among}
use Rattle.am_api.specs.Patterns.{patterns_of_items, patterns_of_thing}
use Rattle.am_api.specs.Replied.{Decision}

-- what holds of all of these texts, of all of those that are among them
pub all_among : (Is : List ℕ → Type 0) (xs ys : List (List ℕ)) → Among xs ys → All Is ys → All Is xs
all_among Is xs ys among all =
    All-weaker (Contains xs) Is (λ text there. All-contains Is ys text all (among text there)) xs (All-contains_itself xs)

pub nowhere : (ys : List (List ℕ)) → Among [] ys
nowhere ys text there = absurd (omega (arith, there.1))

pub none_in : (ys : List (List ℕ)) → Among (patterns_of_items []) ys
unfolding patterns_of_items
none_in ys = nowhere ys

-- a decision that stores nothing, or the other
pub among_if : (past : Bool) (refusal other : Decision) (ys : List (List ℕ)) → refusal.items ≡ [] → Among (patterns_of_items other.items) ys →
    Among (patterns_of_items (let chosen : Decision = if past then refusal else other in chosen.items)) ys
among_if true refusal other ys none among = rw none (none_in ys)
among_if false refusal other ys none among = among

-- texts of two lists that are both among those of a third
among_parts : (xs ys zs : List (List ℕ)) → Among xs zs → Among ys zs → Among (xs ++ ys) zs
among_parts xs ys zs first later text there =
    elim (Contains-append_cases xs ys text there) [ inl mine ↦ first text mine | inr theirs ↦ later text theirs ]

patterns_of-append : (ms ns : List MatcherText) → patterns_of (ms ++ ns) ≡ patterns_of ms ++ patterns_of ns
patterns_of-append [] ns = refl
patterns_of-append (m ∷ ms) ns =
    elim (cases_Bool (is_on_pattern m.operator)) [
      | inl on ↦ rw (on, patterns_of-append ms ns)
      | inr off ↦ rw (off, patterns_of-append ms ns)
    ]

-- two lists, each among one of two others
among_both : (ms ns : List MatcherText) (xs ys : List (List ℕ)) → Among (patterns_of ms) xs → Among (patterns_of ns) ys →
    Among (patterns_of (ms ++ ns)) (xs ++ ys)
among_both ms ns xs ys first later text there =
    elim (Contains-append_cases (patterns_of ms) (patterns_of ns) text (rw patterns_of-append at there)) [
      | inl mine ↦ Contains-append_left xs ys text (first text mine)
      | inr theirs ↦ Contains-append_right xs ys text (later text theirs)
    ]

-- ---- the patterns of a configuration that was read

given_by : (found : Option MatcherRefusal) (ms : List MatcherText) → Among (patterns_of (given (unless_refused found ms))) (patterns_of ms)
given_by None ms text there = there
given_by (Some refusal) ms text there = nowhere (patterns_of ms) text there

given_among : (spelled : Option (List MatcherText)) → Among (patterns_of (given (meaning_of spelled))) (patterns_in spelled)
given_among None text there = there
given_among (Some ms) text there = given_by (pattern_refusal is_pattern (patterns_of ms)) ms text there

texts_among : (texts : List (List ℕ)) → Among (patterns_of (matchers_in texts)) (patterns_of_texts texts)
unfolding matchers_in
texts_among [] text there = there
texts_among (first ∷ texts) text there =
    among_both (given (meaning first)) (matchers_in texts) (patterns_in (matchers_of (chars first))) (patterns_of_texts texts)
    (given_among (matchers_of (chars first))) (texts_among texts) text there

texts-append : (xs ys : List (List ℕ)) → patterns_of_texts (xs ++ ys) ≡ patterns_of_texts xs ++ patterns_of_texts ys
texts-append xs ys = flat_map-append (λ text. patterns_in (matchers_of (chars text))) xs ys

routes_among : (settings : List Settings) (nodes : List (Node RouteDraft)) →
    Among (patterns_of (route_matchers (routes_with settings nodes))) (patterns_of_texts (route_texts nodes))
unfolding routes_with
routes_among [] nodes text there = nowhere (patterns_of_texts (route_texts nodes)) text there
routes_among (own ∷ settings) [] text there = there
routes_among (own ∷ settings) (node ∷ nodes) text there =
    rw (texts-append node.item.matchers (route_texts nodes))
    (among_both (matchers_in node.item.matchers) (route_matchers (routes_with settings nodes))
    (patterns_of_texts node.item.matchers) (patterns_of_texts (route_texts nodes))
    (texts_among node.item.matchers) (routes_among settings nodes) text there)

rules_among : (rules : List RuleDraft) → Among (patterns_of (rule_matchers (map rule_of rules))) (patterns_of_texts (rule_texts rules))
rules_among [] text there = nowhere [] text there
rules_among (rule ∷ rules) text there =
    rw (texts-append (rule.source ++ rule.target) (rule_texts rules), texts-append rule.source rule.target)
    (among_both (matchers_in rule.source ++ matchers_in rule.target) (rule_matchers (map rule_of rules))
    (patterns_of_texts rule.source ++ patterns_of_texts rule.target) (patterns_of_texts (rule_texts rules))
    (among_both (matchers_in rule.source) (matchers_in rule.target) (patterns_of_texts rule.source) (patterns_of_texts rule.target)
    (texts_among rule.source) (texts_among rule.target))
    (rules_among rules) text there)

-- the patterns of a configuration's routes and rules
abbrev patterns_of_parts : config.Configuration → List (List ℕ)
patterns_of_parts c = patterns_of (route_matchers c.routes) ++ patterns_of (rule_matchers c.rules)

judged_among : (draft : Draft) (c : config.Configuration) → judged_by reads_matchers draft ≡ Ok c →
    Among (patterns_of_parts c) (patterns_of_texts (matcher_texts draft))
unfolding completed
judged_among draft c e text there =
    let all = finished reads_matchers draft c e in
    let routes : c.routes ≡ routes_with (settings_of all.terms.owns) draft.routes = ap (λ (made : config.Configuration). made.routes) (sym all.made) in
    let rules : c.rules ≡ map rule_of draft.rules = ap (λ (made : config.Configuration). made.rules) (sym all.made) in
    rw (texts-append (route_texts draft.routes) (rule_texts draft.rules))
    (elim (Contains-append_cases (patterns_of (route_matchers c.routes)) (patterns_of (rule_matchers c.rules)) text there) [
      | inl mine ↦ Contains-append_left (patterns_of_texts (route_texts draft.routes)) (patterns_of_texts (rule_texts draft.rules)) text
          (routes_among (settings_of all.terms.owns) draft.routes text (subst (λ (rs : List (Node Route)). Contains (patterns_of (route_matchers rs)) text) routes mine))
      | inr theirs ↦ Contains-append_right (patterns_of_texts (route_texts draft.routes)) (patterns_of_texts (rule_texts draft.rules)) text
          (rules_among draft.rules text (subst (λ (rs : List Rule). Contains (patterns_of (rule_matchers rs)) text) rules theirs))
    ])

read_among : (drafted : Result Draft DraftRefusal) (outcome : Result config.Configuration ConfigRefusal) → reading drafted ≡ outcome →
    Among (patterns_of_parts (or_default outcome)) (patterns_of_draft drafted)
read_among (Ok draft) (Ok c) is = judged_among draft c is
read_among (Err refusal) (Ok c) is = absurd (cc)
read_among drafted (Err refusal) is = nowhere (patterns_of_draft drafted)

thing_among : (t : Thing) → Among (patterns_of_parts (configuration_by t)) (patterns_of_thing t)
thing_among (thing.Configuration (Some text)) = read_among (draft_in text) (reading (draft_in text)) refl
thing_among (thing.Configuration None) = nowhere []
thing_among (thing.Silence silence) = nowhere (patterns_of silence.matchers)
thing_among (thing.Alert alert) = nowhere []
thing_among (thing.SentEntry entry) = nowhere []

-- of the item that is found
item_among : (held : List Item) (found : Option Item) → item_at ConfigurationKey held ≡ found →
    Among (patterns_of_parts (configuration_at found)) (patterns_of_items held)
unfolding patterns_of_items
item_among held None is text there = nowhere (patterns_of_items held) text there
item_among [] (Some item) is text there = absurd (cc)
item_among (first ∷ held) (Some item) is text there =
    elim (cases_Bool (has_key ConfigurationKey first)) [
      | inl here ↦ (
          let same : first ≡ item = (let at : Some first ≡ Some item = rw here at is in cc) in
          Contains-append_left (patterns_of_thing first.thing) (patterns_of_items held) text
          (thing_among first.thing text (subst (λ (i : Item). Contains (patterns_of_parts (configuration_by i.thing)) text) (sym same) there)))
      | inr other ↦ Contains-append_right (patterns_of_thing first.thing) (patterns_of_items held) text
          (item_among held (Some item) (rw other at is) text there)
    ]

-- the patterns of the configuration in use are among those of what is held
current_among : (held : List Item) → Among (patterns_of_parts (configuration_in held)) (patterns_of_items held)
unfolding configuration_in
current_among held = item_among held (item_at ConfigurationKey held) refl

-- ---- the patterns of active silences

-- those of a silence that is an item's
active_next : (t : Thing) (moment : ℕ) (item : Item) (held : List Item) → item.thing ≡ t →
    Among (patterns_of (held_silences.matchers_in (held_silences.active_among moment held))) (patterns_of_items held) →
    Among (patterns_of (held_silences.matchers_in (held_silences.active_among moment (item ∷ held)))) (patterns_of_items (item ∷ held))
unfolding patterns_of_items
active_next (thing.Silence silence) moment item held is among text there =
    elim (cases_Bool (is_active moment silence.starts_at silence.ends_at)) [
      | inl active ↦ (
          let parts : Contains (patterns_of (silence.matchers ++ held_silences.matchers_in (held_silences.active_among moment held))) text = rw (is, active) at there in
          rw is
          (elim (Contains-append_cases (patterns_of silence.matchers) (patterns_of (held_silences.matchers_in (held_silences.active_among moment held))) text
          (rw patterns_of-append at parts)) [
            | inl mine ↦ Contains-append_left (patterns_of silence.matchers) (patterns_of_items held) text mine
            | inr theirs ↦ Contains-append_right (patterns_of silence.matchers) (patterns_of_items held) text (among text theirs)
          ]))
      | inr other ↦ rw is (Contains-append_right (patterns_of silence.matchers) (patterns_of_items held) text (among text (rw (is, other) at there)))
    ]
active_next (thing.Configuration said) moment item held is among text there =
    Contains-append_right (patterns_of_thing item.thing) (patterns_of_items held) text (among text (rw is at there))
active_next (thing.Alert alert) moment item held is among text there =
    Contains-append_right (patterns_of_thing item.thing) (patterns_of_items held) text (among text (rw is at there))
active_next (thing.SentEntry entry) moment item held is among text there =
    Contains-append_right (patterns_of_thing item.thing) (patterns_of_items held) text (among text (rw is at there))

active_are_among : (moment : ℕ) (held : List Item) →
    Among (patterns_of (held_silences.matchers_in (held_silences.active_among moment held))) (patterns_of_items held)
active_are_among moment [] = nowhere (patterns_of_items [])
active_are_among moment (item ∷ held) = active_next item.thing moment item held refl (active_are_among moment held)

-- the patterns in use are among those of what is held
pub in_use_among : (moment : ℕ) (held : List Item) → Among (patterns_in_use (configuration_in held) moment held) (patterns_of_items held)
in_use_among moment held =
    let c : config.Configuration = configuration_in held in
    let routes : List (List ℕ) = patterns_of (route_matchers c.routes) in
    let rules : List (List ℕ) = patterns_of (rule_matchers c.rules) in
    let active : List (List ℕ) = patterns_of (held_silences.matchers_in (held_silences.active_among moment held)) in
    among_parts routes (rules ++ active) (patterns_of_items held)
    (λ text there. current_among held text (Contains-append_left routes rules text there))
    (among_parts rules active (patterns_of_items held)
    (λ text there. current_among held text (Contains-append_right routes rules text there))
    (active_are_among moment held))

-- ---- the patterns of a configuration that is stored

said_in : (text : List ℕ) (inner : Draft) → said_by_text text ≡ Ok inner → draft_in text ≡ Ok inner
unfolding draft_in
said_in text inner is = rw is refl

moved : (a b : List ℕ) (inner : Draft) → a ≡ b → said_by_text a ≡ Ok inner → said_by_text b ≡ Ok inner
moved a b inner e is = rw (← e) is

ok_same : {R : Type 0} (a b : Draft) → (let outcome : Result Draft R = Ok a in outcome) ≡ Ok b → a ≡ b
ok_same a b e = cc

said_same : (document : List ℕ) (draft : Draft) → said_by_document document ≡ Ok draft →
    (inner : Draft) × ((said_by_text draft.text ≡ Ok inner) × (matcher_texts inner ≡ matcher_texts draft))
unfolding said_by_document
said_same document draft e =
    let d = both_done (json document) _ draft e in
    let text = both_done (required text_in (get (codes "alertmanager_config") d.0)) _ draft d.1.1 in
    let read = both_done (said_by_text text.0) _ draft text.1.1 in
    let left = both_done (leaves_out _ d.0) _ draft read.1.1 in
    let made : within_document read.0 left.0 ≡ draft = ok_same (within_document read.0 left.0) draft left.1.1 in
    let kept : read.0.text ≡ text.0 = text_kept text.0 read.0 (said_in text.0 read.0 read.1.0) in
    let same : read.0.text ≡ draft.text = ap (λ (d : Draft). d.text) made in
    let routes : read.0.routes ≡ draft.routes = ap (λ (d : Draft). d.routes) made in
    let rules : read.0.rules ≡ draft.rules = ap (λ (d : Draft). d.rules) made in
    let texts : matcher_texts read.0 ≡ matcher_texts draft = ap₂ (λ (rs : List (Node RouteDraft)) (is : List RuleDraft). route_texts rs ++ rule_texts is) routes rules in
    (read.0, (moved text.0 draft.text read.0 (sym kept ∙ same) read.1.0, texts))

by_draft : (document : List ℕ) (c : config.Configuration) (draft : Draft) → posted document ≡ Ok draft → configuration (Ok draft) ≡ Ok c →
    patterns_of_draft (draft_in c.text) ≡ patterns_of_draft (Ok draft)
unfolding posted completed
by_draft document c draft is means =
    let said = said_same document draft (value_kept refusal_of (said_by_document document) draft is) in
    let all = finished gives_matchers draft c means in
    let text : c.text ≡ draft.text = ap (λ (made : config.Configuration). made.text) (sym all.made) in
    rw (text, said_in draft.text said.0 said.1.0) (ap patterns_of_texts said.1.1)

by_outcome : (document : List ℕ) (c : config.Configuration) (drafted : Result Draft DraftRefusal) → posted document ≡ drafted → configuration drafted ≡ Ok c →
    patterns_of_draft (draft_in c.text) ≡ patterns_of_draft drafted
by_outcome document c (Ok draft) is means = by_draft document c draft is means
by_outcome document c (Err refusal) is means = absurd (cc)

-- the text of a document has the document's patterns
pub posted_patterns : (document : List ℕ) (c : config.Configuration) → configuration (posted document) ≡ Ok c →
    patterns_of_draft (draft_in c.text) ≡ patterns_of_draft (posted document)
posted_patterns document c e = by_outcome document c (posted document) refl e
