-- What holds of every configuration that a draft makes.
use Rattle.std.proofs.Common.{◌≡◌, ℕ, zero, suc, ◌+◌, ◌<◌, ◌≤◌, List, [], ◌∷◌, All, true, false, not, Option, None, Some, Result, Ok, Err, length, get_or, map, nat_le, refl, sym, ap, ◌∙◌, subst, arith}
use Rattle.std.specs.Prelude.{is_some, slice_get, HoldsAt, IsSome}
use Rattle.std.specs.List.{list_all, flat_map}
use Rattle.std.specs.Option.{ForSome}
use Rattle.std.proofs.lemmas.Bool.{and_parts, eqb-true, leb-true, not-true}
use Rattle.std.proofs.lemmas.List.{nil_from_length}
use Rattle.std.proofs.lemmas.Option.{slice_get-get_or}
use Rattle.std.proofs.lemmas.List.Elements.{All-cons, All-head, All-map, All-nil, All-tail}
use Rattle.am_text.specs.Trees.{Forest, IsTree, flat, none, tree}
use Rattle.am_text.specs.declared.tree.Node.{Node}
use Rattle.am_draft.specs.declared.draft.Draft.{Draft}
use Rattle.am_draft.specs.declared.receiver.ReceiverDraft.{ReceiverDraft}
use Rattle.am_draft.specs.declared.refusal.DraftRefusal.{DraftRefusal}
use Rattle.am_draft.specs.declared.route.RouteDraft.{RouteDraft}
use Rattle.am_draft.specs.Drafts.{draft_in, root_has_receiver}
use Rattle.am_draft.specs.Forests.{forest_of}
use Rattle.am_draft.specs.LabelNames.{AreLabelNames, HasLabelNames, ListsLabelNames}
use Rattle.am_draft.proofs.ForestLemmas.{forest_of-flat}
use Rattle.am_draft.proofs.LabelNames.{text_named}
use Rattle.am_draft.proofs.Rooted.{text_rooted}
use Rattle.am_config.specs.declared.parts.Receiver.{Receiver}
use Rattle.am_config.specs.declared.parts.Route.{Route}
use Rattle.am_config.specs.declared.parts.Rule.{Rule}
use Rattle.am_config.specs.declared.parts.Settings.{Settings}
use Rattle.am_config.specs.declared.terms.Own.{Own}
use Rattle.am_config.specs.declared.terms.Terms.{Terms}
use Rattle.am_config.specs.Checks.{are_receivers_few, are_routes_few, counts_fit, has_few_webhooks, has_listed, have_listed, is_repeated, is_root_bare, receivers_fit}
use Rattle.am_config.specs.Completing.{completed, receivers_of, routes_with, rule_of}
use Rattle.am_config.specs.Configuration.{Configuration}
use Rattle.am_config.specs.Configured.{AreGrouped, HasBareRoot, HasSpans, IsConfiguration}
use Rattle.am_config.specs.Inheriting.{InheritsFrom, defaults, inherited, settings_of}
use Rattle.am_config.specs.Judging.{configuration, judged_by, IsMeant, IsRead}
use Rattle.am_config.specs.Matching.{given, gives_matchers, matcher_texts, matchers_in, meaning, route_texts, rule_texts}
use Rattle.am_config.specs.Terms.{owns_in}
use Rattle.am_config.proofs.Judgements.{Passed, few_routes, finished, passed, reading_meant}
use Rattle.am_config.proofs.Patterned.{of_both, routes_patterns, rules_patterns}
use Rattle.am_config.proofs.Received.{names_fit, names_kept, receivers_kept, webhooks_fit}
use Rattle.am_config.proofs.Settled.{EachFrom, IsSettled, each-at, grouped_at, owns_known, routes_settled, timeout_within}
use Rattle.am_config.proofs.Shapes.{length-owns, length-routes_with, length-settings, settings-routes_with, tree-owns, tree-routes_with, withins-routes_with}

-- ---- the checks that passed

apart_fit : (draft : Draft) → receivers_fit draft ≡ true →
    (is_repeated draft.receivers ≡ false) × (have_listed draft.receivers draft.routes ≡ true)
unfolding receivers_fit
apart_fit draft fit =
    let parts = and_parts (not (is_repeated draft.receivers)) (have_listed draft.receivers draft.routes) fit in
    (not-true (is_repeated draft.receivers) parts.0, parts.1)

few_fit : (draft : Draft) → counts_fit draft ≡ true →
    (length draft.receivers ≤ 1000) × (list_all has_few_webhooks draft.receivers ≡ true)
unfolding counts_fit
few_fit draft fit =
    let parts = and_parts (are_routes_few draft.routes) (are_receivers_few draft.receivers) fit in
    let few = and_parts (nat_le (length draft.receivers) 1000) (list_all has_few_webhooks draft.receivers) parts.1 in
    (leb-true (length draft.receivers) 1000 few.0, few.1)

-- ---- the routes, with settings at their places

-- what holds of each settings holds of each route
each_route : (P : ℕ → Settings → Type 0) (Q : Settings → Type 0) → ((number : ℕ) (settings : Settings) → P number settings → Q settings) →
    (number : ℕ) (settings : List Settings) (nodes : List (Node RouteDraft)) → EachFrom P number settings →
    All (λ (node : Node Route). Q node.item.settings) (routes_with settings nodes)
unfolding routes_with
each_route P Q gives number [] nodes each = All-nil (λ (node : Node Route). Q node.item.settings)
each_route P Q gives number (own ∷ settings) [] each = All-nil (λ (node : Node Route). Q node.item.settings)
each_route P Q gives number (own ∷ settings) (node ∷ nodes) each =
    All-cons (λ (route : Node Route). Q route.item.settings) _ (routes_with settings nodes) (gives number own each.0)
    (each_route P Q gives (number + 1) settings nodes each.1)

-- the settings of the route at a place
settings-at : (settings : List Settings) (nodes : List (Node RouteDraft)) (at : ℕ) (other : Node Route) (fallback : Settings) →
    at < length settings → length settings ≡ length nodes →
    (get_or (routes_with settings nodes) at other).item.settings ≡ get_or settings at fallback
unfolding routes_with
settings-at [] nodes at other fallback within size = absurd (omega arith)
settings-at (own ∷ settings) [] at other fallback within size = absurd (omega arith)
settings-at (own ∷ settings) (node ∷ nodes) zero other fallback within size = refl
settings-at (own ∷ settings) (node ∷ nodes) (suc at) other fallback within size =
    settings-at settings nodes at other fallback (omega arith) (omega arith)

-- a route has the grouping that its draft has
grouping-at : (settings : List Settings) (nodes : List (Node RouteDraft)) (at : ℕ) → at < length nodes → length settings ≡ length nodes →
    HoldsAt (λ (node : Node RouteDraft). IsSome node.item.grouping) nodes at →
    HoldsAt (λ (node : Node Route). IsSome node.item.grouping) (routes_with settings nodes) at
unfolding routes_with
grouping-at settings [] at within size holds = absurd (omega arith)
grouping-at [] (node ∷ nodes) at within size holds = absurd (omega arith)
grouping-at (own ∷ settings) (node ∷ nodes) zero within size holds = λ other. holds node
grouping-at (own ∷ settings) (node ∷ nodes) (suc at) within size holds =
    grouping-at settings nodes at (omega arith) (omega arith) (λ other. holds other)

-- the names to group by are those of the drafts
grouping_names : (settings : List Settings) (nodes : List (Node RouteDraft)) →
    All (λ (node : Node RouteDraft). ForSome node.item.grouping HasLabelNames) nodes →
    All (λ (node : Node Route). ForSome node.item.grouping HasLabelNames) (routes_with settings nodes)
unfolding routes_with
grouping_names [] nodes named = All-nil (λ (node : Node Route). ForSome node.item.grouping HasLabelNames)
grouping_names (own ∷ settings) [] named = All-nil (λ (node : Node Route). ForSome node.item.grouping HasLabelNames)
grouping_names (own ∷ settings) (node ∷ nodes) named =
    let mine = All-head (λ (n : Node RouteDraft). ForSome n.item.grouping HasLabelNames) node nodes named in
    let rest = All-tail (λ (n : Node RouteDraft). ForSome n.item.grouping HasLabelNames) node nodes named in
    All-cons (λ (n : Node Route). ForSome n.item.grouping HasLabelNames) _ (routes_with settings nodes) mine (grouping_names settings nodes rest)

-- ---- the root

none_given : (texts : List (List ℕ)) → length texts ≡ 0 → matchers_in texts ≡ []
unfolding matchers_in
none_given texts empty = ap (flat_map (λ text. given (meaning text))) (nil_from_length texts empty)

root_bare : (settings : List Settings) (nodes : List (Node RouteDraft)) → is_root_bare nodes ≡ true → HasBareRoot (routes_with settings nodes)
unfolding is_root_bare routes_with
root_bare [] nodes fit = tt
root_bare (own ∷ settings) [] fit = tt
root_bare (own ∷ settings) (root ∷ nodes) fit = none_given root.item.matchers (eqb-true (length root.item.matchers) 0 fit)

-- the receiver that the root names is one of them
some_named : (receivers : List ReceiverDraft) (name : Option (List ℕ)) → is_some name ≡ true → has_listed receivers name ≡ true →
    0 < length receivers
some_named receivers None named fit = absurd (cc)
some_named [] (Some name) named fit = absurd (cc)
some_named (receiver ∷ receivers) (Some name) named fit = omega arith

some_listed : (receivers : List ReceiverDraft) (routes : List (Node RouteDraft)) → root_has_receiver routes ≡ true →
    have_listed receivers routes ≡ true → 0 < length receivers
some_listed receivers [] named fit = absurd (cc)
some_listed receivers (root ∷ routes) named fit =
    some_named receivers root.item.receiver named
    (and_parts (has_listed receivers root.item.receiver) (have_listed receivers routes) fit).0

-- ---- the whole

-- what is known of a draft that makes a configuration
module _ (draft : Draft) (terms : Terms) (known : owns_in draft.receivers draft.routes ≡ Ok terms.owns) (whole : IsTree draft.routes) where
  -- as many settings as routes
  size : length (settings_of terms.owns) ≡ length draft.routes
  size = length-settings draft.receivers draft.routes terms.owns known whole

  abbrev forest : Forest Own
  forest = let found = tree-owns draft.receivers draft.routes terms.owns known whole in tree found.0 found.1.0 none

  forest_is : terms.owns ≡ flat forest
  forest_is = (tree-owns draft.receivers draft.routes terms.owns known whole).1.1

  settings_is : settings_of terms.owns ≡ inherited 0 defaults forest
  settings_is = ap (λ (owns : List (Node Own)). inherited 0 defaults (forest_of owns)) forest_is ∙ ap (inherited 0 defaults) (forest_of-flat forest)

  settled : 0 < length draft.receivers → EachFrom (IsSettled (length draft.receivers) terms.owns) 0 (settings_of terms.owns)
  settled some =
      subst (EachFrom (IsSettled (length draft.receivers) terms.owns) 0) (sym settings_is)
      (routes_settled draft.receivers draft.routes terms.owns forest known forest_is some)

  groupings_fit : 0 < length draft.receivers → AreGrouped (routes_with (settings_of terms.owns) draft.routes)
  groupings_fit some number other within n e =
      let inside : number < length (settings_of terms.owns) =
      omega (arith, within, length-routes_with (settings_of terms.owns) draft.routes size, size) in
      let holds = each-at (IsSettled (length draft.receivers) terms.owns) 0 (settings_of terms.owns) number other.item.settings (settled some) inside in
      let same = settings-at (settings_of terms.owns) draft.routes number other other.item.settings inside size in
      let found = holds.grouping n (sym (ap (λ (settings : Settings). settings.grouping) same) ∙ e) in
      let count = length-owns draft.receivers draft.routes terms.owns known whole in
      let below : n < length draft.routes = omega (arith, found.1.0, count) in (
        omega (arith, found.0),
        grouping-at (settings_of terms.owns) draft.routes n below size
            (grouped_at draft.receivers draft.routes terms.owns n known below found.1.1),
      )

-- the configuration of a draft that passes every check
configured : (draft : Draft) (terms : Terms) (found : List Receiver) → Passed draft terms → list_all gives_matchers (matcher_texts draft) ≡ true →
    counts_fit draft ≡ true → receivers_of draft.receivers ≡ Ok found → IsTree draft.routes → root_has_receiver draft.routes ≡ true →
    ListsLabelNames draft → IsConfiguration (completed draft terms found)
unfolding completed
configured draft terms found checks fit counts read whole named labels =
    let listed = apart_fit draft checks.receivers in
    let few = few_fit draft counts in
    let patterns = of_both (route_texts draft.routes) (rule_texts draft.rules) fit in
    let same : length draft.receivers ≡ length found = sym (receivers_kept draft.receivers found read) in
    let known = owns_known draft terms checks.known in
    let some = some_listed draft.receivers draft.routes named listed.1 in
    let each = settled draft terms known whole some in
    let settings = settings_of terms.owns in
    let count = size draft terms known whole in
    record {
      timeout = timeout_within draft terms checks.known;
      tree = tree-routes_with settings draft.routes count whole;
      few_routes = rw (length-routes_with settings draft.routes count) (few_routes draft counts);
      bare_root = root_bare settings draft.routes checks.root;
      places = each_route (IsSettled (length draft.receivers) terms.owns) (λ (own : Settings). own.receiver < length found)
          (λ number own holds. omega (arith, holds.place, same)) 0 settings draft.routes each;
      groupings = groupings_fit draft terms known whole some;
      grouping_names = grouping_names settings draft.routes labels.groupings;
      spans = each_route (IsSettled (length draft.receivers) terms.owns) HasSpans (λ number own holds. holds.spans) 0 settings draft.routes each;
      patterns = routes_patterns settings draft.routes patterns.0;
      few_receivers = omega (arith, same, few.0);
      names = names_fit draft.receivers found read listed.0;
      few_webhooks = webhooks_fit draft.receivers found read few.1;
      rule_patterns = rules_patterns draft.rules patterns.1;
      equal_names = All-map (λ (rule : Rule). AreLabelNames rule.equal) rule_of draft.rules labels.equal;
    }

-- the configuration that a draft comes to
judged_configured : (draft : Draft) (c : Configuration) → judged_by gives_matchers draft ≡ Ok c → IsTree draft.routes →
    root_has_receiver draft.routes ≡ true → ListsLabelNames draft → IsConfiguration c
judged_configured draft c e whole named labels =
    let all = finished gives_matchers draft c e in
    subst IsConfiguration all.made
    (configured draft all.terms all.found (passed draft all.terms all.before) all.matchers all.counts all.receivers whole named labels)

-- a configuration comes of a draft
record ComesOf (drafted : Result Draft DraftRefusal) (c : Configuration) : Type 0 where
  draft : Draft
  is : drafted ≡ Ok draft
  comes : judged_by gives_matchers draft ≡ Ok c

comes_of : (drafted : Result Draft DraftRefusal) (c : Configuration) → configuration drafted ≡ Ok c → ComesOf drafted c
comes_of (Ok draft) c e = record { draft = draft; is = refl; comes = e }
comes_of (Err refusal) c e = absurd (cc)

made_of : (draft : Draft) (terms : Terms) (found : List Receiver) →
    ((completed draft terms found).routes ≡ routes_with (settings_of terms.owns) draft.routes) × ((completed draft terms found).receivers ≡ found)
unfolding completed
made_of draft terms found = (refl, refl)

inherits_from : (draft : Draft) (c : Configuration) → judged_by gives_matchers draft ≡ Ok c → IsTree draft.routes → InheritsFrom c draft
inherits_from draft c e whole =
    let all = finished gives_matchers draft c e in
    let made = made_of draft all.terms all.found in
    let known = owns_known draft all.terms (passed draft all.terms all.before).known in
    let count = size draft all.terms known whole in
    let found = tree-owns draft.receivers draft.routes all.terms.owns known whole in
    let routes : c.routes ≡ routes_with (settings_of all.terms.owns) draft.routes =
    ap (λ (other : Configuration). other.routes) (sym all.made) ∙ made.0 in
    let receivers : c.receivers ≡ all.found = ap (λ (other : Configuration). other.receivers) (sym all.made) ∙ made.1 in
    record {
      root = found.0;
      within = found.1.0;
      owns = known ∙ ap (λ (owns : List (Node Own)). Ok owns) found.1.1;
      shape = ap (map (λ (node : Node Route). node.within)) routes ∙ (withins-routes_with (settings_of all.terms.owns) draft.routes count);
      names = ap (map (λ (receiver : Receiver). receiver.name)) receivers ∙ (names_kept draft.receivers all.found all.receivers);
      settings = ap (map (λ (node : Node Route). node.item.settings)) routes ∙ (settings-routes_with (settings_of all.terms.owns) draft.routes count ∙ settings_is draft all.terms known whole);
    }

-- where each draft that is read has one tree, whose root names a receiver
module _ (drafted : Result Draft DraftRefusal)
    (rooted : (draft : Draft) → drafted ≡ Ok draft → IsTree draft.routes × (root_has_receiver draft.routes ≡ true)) where
  -- and the labels that it names have label names
  pub configuration_holds : ((draft : Draft) → drafted ≡ Ok draft → ListsLabelNames draft) →
      (c : Configuration) → configuration drafted ≡ Ok c → IsConfiguration c
  configuration_holds named c e =
      let from = comes_of drafted c e in
      let holds = rooted from.draft from.is in
      judged_configured from.draft c from.comes holds.0 holds.1 (named from.draft from.is)

  pub configuration_inherits : (c : Configuration) → configuration drafted ≡ Ok c →
      (draft : Draft) × ((drafted ≡ Ok draft) × InheritsFrom c draft)
  configuration_inherits c e =
      let from = comes_of drafted c e in
      (from.draft, (from.is, inherits_from from.draft c from.comes (rooted from.draft from.is).0))

-- what is meant by its text
pub meant_configured : (c : Configuration) → IsMeant c → IsConfiguration c
meant_configured c e = configuration_holds (draft_in c.text) (text_rooted c.text) (text_named c.text) c e

-- and what its text is read as
pub read_configured : (c : Configuration) → IsRead c → IsConfiguration c
read_configured c e = meant_configured c (reading_meant (draft_in c.text) c e)

-- the node that stands at a place
node_at : {A : Type 0} (nodes : List (Node A)) (number : ℕ) (node : Node A) → number < length nodes → slice_get nodes number ≡ Some node →
    get_or nodes number node ≡ node
node_at nodes number node within is =
    let same : Some (get_or nodes number node) ≡ Some node = sym (slice_get-get_or nodes number node within) ∙ is in
    cc

-- its receiver is listed
pub receiver_listed : (c : Configuration) (number : ℕ) (node : Node Route) → IsRead c → number < length c.routes →
    slice_get c.routes number ≡ Some node → node.item.settings.receiver < length c.receivers
receiver_listed c number node e within is =
    subst (λ (other : Node Route). other.item.settings.receiver < length c.receivers) (node_at c.routes number node within is)
    ((read_configured c e).places number node within)

-- and the route that says its grouping stands in the list
pub grouping_listed : (c : Configuration) (number place : ℕ) (node : Node Route) → IsRead c → number < length c.routes →
    slice_get c.routes number ≡ Some node → node.item.settings.grouping ≡ Some place → place < length c.routes
grouping_listed c number place node e within is grouped =
    let same = ap (λ (other : Node Route). other.item.settings.grouping) (node_at c.routes number node within is) in
    omega (arith, within, ((read_configured c e).groupings number node within place (same ∙ grouped)).0)
