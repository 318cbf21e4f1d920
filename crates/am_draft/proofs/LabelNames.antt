-- What `group_by` and `equal` list in every draft are label names.
use Rattle.std.proofs.Common.{◌≡◌, ℕ, List, [], ◌∷◌, ◌++◌, All, Bool, true, false, Option, None, Some, Ok, Err, refl, subst, inl, inr}
use Rattle.std.specs.Prelude.{if◌then◌else◌, codes, IsTrue}
use Rattle.std.specs.List.{list_all}
use Rattle.std.specs.Option.{ForSome}
use Rattle.std.specs.Str.{bytes_eq}
use Rattle.std.proofs.lemmas.Bool.{and_parts, cases_Bool}
use Rattle.std.proofs.lemmas.List.Elements.{All-append, All-cons, All-nil}
use Rattle.serde_json.specs.Data.{Data, null, boolean, number, string, array, object, Items, no_items, item, Members, no_members, member}
use Rattle.serde_json.specs.Find.{get, as_array}
use Rattle.am_text.specs.declared.tree.Node.{Node}
use Rattle.am_text.specs.Outcome.{◌>>=◌}
use Rattle.am_text.proofs.OutcomeLemmas.{both_done}
use Rattle.am_text.specs.Trees.{Forest, none, tree, flat}
use Rattle.am_json.specs.declared.refusal.JsonRefusal.TheVariants.{BadForm}
use Rattle.am_json.specs.Reading.{flag_in, formed, json, optional, required, text_in, texts_in, some_text_in}
use Rattle.am_labels.specs.Labels.{is_label_name}
use Rattle.am_draft.specs.declared.draft.Draft.{Draft}
use Rattle.am_draft.specs.declared.keys.Place.TheVariants.{Document, Top, Route, Rule}
use Rattle.am_draft.specs.declared.route.Grouping.{Grouping}
use Rattle.am_draft.specs.declared.route.Grouping.TheVariants as grouping
use Rattle.am_draft.specs.declared.route.RouteDraft.{RouteDraft}
use Rattle.am_draft.specs.declared.rule.RuleDraft.{RuleDraft}
use Rattle.am_draft.specs.Drafts.{draft_in, draft_of, global_in, no_global, posted, root_in, rooted, said_by_document, said_by_text}
use Rattle.am_draft.specs.Refusals.{refusal_of}
use Rattle.am_draft.proofs.Rooted.{value_kept}
use Rattle.am_draft.specs.Keys.{leaves_out}
use Rattle.am_draft.specs.LabelNames.{AreLabelNames, HasLabelNames, ListsLabelNames}
use Rattle.am_draft.specs.Names.{named, names_in}
use Rattle.am_draft.specs.Receivers.{receivers_in}
use Rattle.am_draft.specs.Routes.{deeper, grouped, grouping_in, intervals_of, is_all, route_of, routes_below, routes_in, routes_of, tree_in}
use Rattle.am_draft.specs.Rules.{rule_of, rules_in, rules_of}

-- ---- lists of names

all_named : (names : List (List ℕ)) → list_all is_label_name names ≡ true → AreLabelNames names
all_named [] e = All-nil (λ (name : List ℕ). IsTrue (is_label_name name))
all_named (name ∷ names) e =
    let parts = and_parts (is_label_name name) (list_all is_label_name names) e in
    All-cons (λ (other : List ℕ). IsTrue (is_label_name other)) name names parts.0 (all_named names parts.1)

named_if : (names found : List (List ℕ)) (fits : Bool) → list_all is_label_name names ≡ fits →
    (if fits then Ok names else Err BadForm) ≡ Ok found → AreLabelNames found
named_if names found true is e = let same : names ≡ found = cc in subst AreLabelNames same (all_named names is)
named_if names found false is e = absurd (cc)

are_named : (names found : List (List ℕ)) → named names ≡ Ok found → AreLabelNames found
are_named names found e = named_if names found (list_all is_label_name names) refl e

-- ---- inhibit rules

equal_named : (found : Option Data) (names : List (List ℕ)) → optional [] names_in found ≡ Ok names → AreLabelNames names
equal_named None names e = let same : [] ≡ names = cc in subst AreLabelNames same (all_named [] refl)
equal_named (Some d) names e =
    let texts = both_done (texts_in d) named names e in
    are_named texts.0 names texts.1.1

abbrev HasNamedEqual : RuleDraft → Type 0
HasNamedEqual rule = AreLabelNames rule.equal

rule_named : (d : Data) (rule : RuleDraft) → rule_of d ≡ Ok rule → HasNamedEqual rule
unfolding rule_of
rule_named d rule e =
    let left = both_done (leaves_out Rule d) _ rule e in
    let source = both_done (optional [] texts_in (get (codes "source_matchers") d)) _ rule left.1.1 in
    let target = both_done (optional [] texts_in (get (codes "target_matchers") d)) _ rule source.1.1 in
    let equal = both_done (optional [] names_in (get (codes "equal") d)) _ rule target.1.1 in
    let same : equal.0 ≡ rule.equal = cc in
    subst AreLabelNames same (equal_named (get (codes "equal") d) equal.0 equal.1.0)

each_rule_named : (ds : Items) (rules : List RuleDraft) → rules_of ds ≡ Ok rules → All HasNamedEqual rules
unfolding rules_of
each_rule_named no_items rules e = let same : [] ≡ rules = cc in subst (All HasNamedEqual) same (All-nil HasNamedEqual)
each_rule_named (item d ds) rules e =
    let first = both_done (rule_of d) _ rules e in
    let rest = both_done (rules_of ds) _ rules first.1.1 in
    let same : first.0 ∷ rest.0 ≡ rules = cc in
    subst (All HasNamedEqual) same
    (All-cons HasNamedEqual first.0 rest.0 (rule_named d first.0 first.1.0) (each_rule_named ds rest.0 rest.1.0))

rules_named : (found : Option Data) (rules : List RuleDraft) → optional [] rules_in found ≡ Ok rules → All HasNamedEqual rules
rules_named None rules e = let same : [] ≡ rules = cc in subst (All HasNamedEqual) same (All-nil HasNamedEqual)
rules_named (Some d) rules e =
    let items = both_done (formed (as_array d)) rules_of rules e in
    each_rule_named items.0 rules items.1.1

-- ---- routes

grouped_if : (texts : List (List ℕ)) (found : Grouping) (whole : Bool) →
    (if whole then Ok grouping.All else (named texts >>= λ names. Ok (grouping.Names names))) ≡ Ok found → HasLabelNames found
grouped_if texts found true e = let same : grouping.All ≡ found = cc in subst HasLabelNames same tt
grouped_if texts found false e =
    let names = both_done (named texts) _ found e in
    let same : grouping.Names names.0 ≡ found = cc in
    subst HasLabelNames same (are_named texts names.0 names.1.0)

grouping_named : (found : Option Data) (made : Option Grouping) → optional None grouping_in found ≡ Ok made → ForSome made HasLabelNames
grouping_named None made e = λ g is. let no : None ≡ Some g = cc in absurd (cc)
grouping_named (Some d) made e =
    let read = both_done (texts_in d >>= grouped) _ made e in
    let texts = both_done (texts_in d) grouped read.0 read.1.0 in
    λ g is.
    let same : read.0 ≡ g = cc in
    subst HasLabelNames same (grouped_if texts.0 read.0 (is_all texts.0) texts.1.1)

abbrev IsNamed : Node RouteDraft → Type 0
IsNamed node = ForSome node.item.grouping HasLabelNames

route_named : (depth : ℕ) (d : Data) (route : RouteDraft) → route_of depth d ≡ Ok route → ForSome route.grouping HasLabelNames
unfolding route_of
route_named depth d route e =
    let left = both_done (leaves_out Route d) _ route e in
    let receiver = both_done (optional None some_text_in (get (codes "receiver") d)) _ route left.1.1 in
    let labels = both_done (optional None grouping_in (get (codes "group_by") d)) _ route receiver.1.1 in
    let intervals = both_done (intervals_of d) _ route labels.1.1 in
    let matchers = both_done (optional [] texts_in (get (codes "matchers") d)) _ route intervals.1.1 in
    let goes_on = both_done (optional false flag_in (get (codes "continue") d)) _ route matchers.1.1 in
    let same : labels.0 ≡ route.grouping = cc in
    subst (λ (made : Option Grouping). ForSome made HasLabelNames) same
    (grouping_named (get (codes "group_by") d) labels.0 labels.1.0)

-- a route, and each route within it
abbrev IsTreeNamed : RouteDraft × Forest RouteDraft → Type 0
IsTreeNamed t = ForSome t.0.grouping HasLabelNames × All IsNamed (flat t.1)

mutual
  tree_named : (d : Data) (depth : ℕ) (t : RouteDraft × Forest RouteDraft) → tree_in depth d ≡ Ok t → IsTreeNamed t
  tree_named null depth t e = absurd (cc)
  tree_named (boolean b) depth t e = absurd (cc)
  tree_named (number n) depth t e = absurd (cc)
  tree_named (string s) depth t e = absurd (cc)
  tree_named (array ds) depth t e = absurd (cc)
  tree_named (object ms) depth t e =
      let route = both_done (route_of depth (object ms)) _ t e in
      let within = both_done (routes_below (deeper depth) ms) _ t route.1.1 in
      let same : (route.0, within.0) ≡ t = cc in
      subst IsTreeNamed same (route_named depth (object ms) route.0 route.1.0, below_named ms (deeper depth) within.0 within.1.0)

  below_named : (ms : Members) (depth : ℕ) (forest : Forest RouteDraft) → routes_below depth ms ≡ Ok forest → All IsNamed (flat forest)
  below_named no_members depth forest e =
      let same : none ≡ forest = cc in
      subst (λ (made : Forest RouteDraft). All IsNamed (flat made)) same (All-nil IsNamed)
  below_named (member key d ms) depth forest e =
      elim (cases_Bool (bytes_eq key (codes "routes"))) [
        | inl there ↦ list_named d depth forest (rw there at e)
        | inr other ↦ below_named ms depth forest (rw other at e)
      ]

  list_named : (d : Data) (depth : ℕ) (forest : Forest RouteDraft) → routes_in depth d ≡ Ok forest → All IsNamed (flat forest)
  list_named null depth forest e = absurd (cc)
  list_named (boolean b) depth forest e = absurd (cc)
  list_named (number n) depth forest e = absurd (cc)
  list_named (string s) depth forest e = absurd (cc)
  list_named (array ds) depth forest e = items_named ds depth forest e
  list_named (object ms) depth forest e = absurd (cc)

  items_named : (ds : Items) (depth : ℕ) (forest : Forest RouteDraft) → routes_of depth ds ≡ Ok forest → All IsNamed (flat forest)
  items_named no_items depth forest e =
      let same : none ≡ forest = cc in
      subst (λ (made : Forest RouteDraft). All IsNamed (flat made)) same (All-nil IsNamed)
  items_named (item d ds) depth forest e =
      let first = both_done (tree_in depth d) _ forest e in
      let after = both_done (routes_of depth ds) _ forest first.1.1 in
      let same : tree first.0.0 first.0.1 after.0 ≡ forest = cc in
      let holds = tree_named d depth first.0 first.1.0 in
      subst (λ (made : Forest RouteDraft). All IsNamed (flat made)) same
      (All-cons IsNamed _ (flat first.0.1 ++ flat after.0) holds.0
      (All-append IsNamed (flat first.0.1) (flat after.0) holds.1 (items_named ds depth after.0 after.1.0)))

-- the first of the routes has a receiver, or there is none
rooted_same : (nodes routes : List (Node RouteDraft)) → rooted nodes ≡ Ok routes → nodes ≡ routes
rooted_same [] routes e = absurd (cc)
rooted_same (root ∷ nodes) routes e =
    let receiver = both_done (formed root.item.receiver) _ routes e in
    cc

routes_named : (found : Option Data) (routes : List (Node RouteDraft)) → required root_in found ≡ Ok routes → All IsNamed routes
routes_named None routes e = absurd (cc)
routes_named (Some d) routes e =
    let read = both_done (tree_in 1 d) (λ t. rooted (flat (tree t.0 t.1 none))) routes e in
    let holds = tree_named d 1 read.0 read.1.0 in
    subst (All IsNamed) (rooted_same (flat (tree read.0.0 read.0.1 none)) routes read.1.1)
    (All-cons IsNamed _ (flat read.0.1 ++ []) holds.0 (All-append IsNamed (flat read.0.1) [] holds.1 (All-nil IsNamed)))

-- ---- drafts

draft_named : (text : List ℕ) (d : Data) (draft : Draft) → draft_of text d ≡ Ok draft → ListsLabelNames draft
unfolding draft_of
draft_named text d draft e =
    let top = both_done (leaves_out Top d) _ draft e in
    let global = both_done (optional no_global global_in (get (codes "global") d)) _ draft top.1.1 in
    let routes = both_done (required root_in (get (codes "route") d)) _ draft global.1.1 in
    let receivers = both_done (required receivers_in (get (codes "receivers") d)) _ draft routes.1.1 in
    let rules = both_done (optional [] rules_in (get (codes "inhibit_rules") d)) _ draft receivers.1.1 in
    let same_routes : routes.0 ≡ draft.routes = cc in
    let same_rules : rules.0 ≡ draft.rules = cc in
    record {
      groupings = subst (All IsNamed) same_routes (routes_named (get (codes "route") d) routes.0 routes.1.0);
      equal = subst (All HasNamedEqual) same_rules (rules_named (get (codes "inhibit_rules") d) rules.0 rules.1.0);
    }

said_named : (text : List ℕ) (draft : Draft) → said_by_text text ≡ Ok draft → ListsLabelNames draft
unfolding said_by_text
said_named text draft e =
    let read = both_done (json text) (draft_of text) draft e in
    draft_named text read.0 draft read.1.1

pub text_named : (text : List ℕ) (draft : Draft) → draft_in text ≡ Ok draft → ListsLabelNames draft
unfolding draft_in
text_named text draft e = said_named text draft (value_kept refusal_of (said_by_text text) draft e)

pub document_named : (document : List ℕ) (draft : Draft) → posted document ≡ Ok draft → ListsLabelNames draft
unfolding posted said_by_document
document_named document draft e =
    let said = value_kept refusal_of (said_by_document document) draft e in
    let d = both_done (json document) _ draft said in
    let text = both_done (required text_in (get (codes "alertmanager_config") d.0)) _ draft d.1.1 in
    let read = both_done (said_by_text text.0) _ draft text.1.1 in
    let left = both_done (leaves_out Document d.0) _ draft read.1.1 in
    let holds = said_named text.0 read.0 read.1.0 in
    let same_routes : read.0.routes ≡ draft.routes = cc in
    let same_rules : read.0.rules ≡ draft.rules = cc in
    record {
      groupings = subst (All IsNamed) same_routes holds.groupings;
      equal = subst (All HasNamedEqual) same_rules holds.equal;
    }
