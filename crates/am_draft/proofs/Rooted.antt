-- The routes of every draft are one whole tree, whose root names a receiver.
use Rattle.std.proofs.Common.{◌≡◌, ℕ, true, List, [], Option, None, Some, Result, Ok, Err, refl, sym, ap, ◌∙◌}
use Rattle.std.specs.Prelude.{codes, is_some}
use Rattle.serde_json.specs.Data.{Data}
use Rattle.serde_json.specs.Find.{get}
use Rattle.am_text.specs.declared.tree.Node.{Node}
use Rattle.am_text.specs.Outcome.{◌>>=◌, outcome_map}
use Rattle.am_text.proofs.OutcomeLemmas.{both_done}
use Rattle.am_text.specs.Trees.{Forest, none, tree, flat, IsTree}
use Rattle.am_json.specs.Reading.{formed, json, optional, required, text_in}
use Rattle.am_draft.specs.declared.draft.Draft.{Draft}
use Rattle.am_draft.specs.declared.keys.Place.TheVariants.{Document, Top}
use Rattle.am_draft.specs.declared.route.RouteDraft.{RouteDraft}
use Rattle.am_draft.specs.Drafts.{draft_in, draft_of, global_in, no_global, posted, root_has_receiver, root_in, rooted, said_by_document, said_by_text}
use Rattle.am_draft.specs.Refusals.{refusal_of}
use Rattle.am_draft.specs.Keys.{leaves_out}
use Rattle.am_draft.specs.Receivers.{receivers_in}
use Rattle.am_draft.specs.Routes.{tree_in}
use Rattle.am_draft.specs.Rules.{rules_in}

-- what holds of the routes of every draft
abbrev AreRooted : List (Node RouteDraft) → Type 0
AreRooted routes = IsTree routes × (root_has_receiver routes ≡ true)

-- an outcome that is a value whatever its refusals are called
pub value_kept : {A R S : Type 0} (map : R → S) (outcome : Result A R) (a : A) → outcome_map map outcome ≡ Ok a → outcome ≡ Ok a
value_kept map (Ok b) a e = cc
value_kept map (Err refusal) a e = absurd (cc)

rooted_by : (item : RouteDraft) (within : Forest RouteDraft) (receiver : Option (List ℕ)) (routes : List (Node RouteDraft)) →
    item.receiver ≡ receiver →
    (formed receiver >>= λ name. Ok (flat (tree item within none))) ≡ Ok routes → AreRooted routes
rooted_by item within None routes is e = absurd (cc)
rooted_by item within (Some name) routes is e =
    let same : flat (tree item within none) ≡ routes = cc in
    ((item, (within, sym same)), ap root_has_receiver (sym same) ∙ ap is_some is)

root_rooted : (d : Data) (routes : List (Node RouteDraft)) → root_in d ≡ Ok routes → AreRooted routes
root_rooted d routes e =
    let read = both_done (tree_in 1 d) (λ t. rooted (flat (tree t.0 t.1 none))) routes e in
    rooted_by read.0.0 read.0.1 read.0.0.receiver routes refl read.1.1

required_rooted : (found : Option Data) (routes : List (Node RouteDraft)) → required root_in found ≡ Ok routes → AreRooted routes
required_rooted None routes e = absurd (cc)
required_rooted (Some d) routes e = root_rooted d routes e

draft_rooted : (text : List ℕ) (d : Data) (draft : Draft) → draft_of text d ≡ Ok draft → AreRooted draft.routes
unfolding draft_of
draft_rooted text d draft e =
    let top = both_done (leaves_out Top d) _ draft e in
    let global = both_done (optional no_global global_in (get (codes "global") d)) _ draft top.1.1 in
    let routes = both_done (required root_in (get (codes "route") d)) _ draft global.1.1 in
    let receivers = both_done (required receivers_in (get (codes "receivers") d)) _ draft routes.1.1 in
    let rules = both_done (optional [] rules_in (get (codes "inhibit_rules") d)) _ draft receivers.1.1 in
    let same : routes.0 ≡ draft.routes = cc in
    rw (← same) (required_rooted (get (codes "route") d) routes.0 routes.1.0)

said_rooted : (text : List ℕ) (draft : Draft) → said_by_text text ≡ Ok draft → AreRooted draft.routes
unfolding said_by_text
said_rooted text draft e =
    let read = both_done (json text) (draft_of text) draft e in
    draft_rooted text read.0 draft read.1.1

pub text_rooted : (text : List ℕ) (draft : Draft) → draft_in text ≡ Ok draft → AreRooted draft.routes
unfolding draft_in
text_rooted text draft e = said_rooted text draft (value_kept refusal_of (said_by_text text) draft e)

pub document_rooted : (document : List ℕ) (draft : Draft) → posted document ≡ Ok draft → AreRooted draft.routes
unfolding posted said_by_document
document_rooted document draft e =
    let said = value_kept refusal_of (said_by_document document) draft e in
    let d = both_done (json document) _ draft said in
    let text = both_done (required text_in (get (codes "alertmanager_config") d.0)) _ draft d.1.1 in
    let read = both_done (said_by_text text.0) _ draft text.1.1 in
    let left = both_done (leaves_out Document d.0) _ draft read.1.1 in
    let same : read.0.routes ≡ draft.routes = cc in
    rw (← same) (said_rooted text.0 read.0 read.1.0)

said_text : (text : List ℕ) (draft : Draft) → said_by_text text ≡ Ok draft → draft.text ≡ text
unfolding said_by_text draft_of
said_text text draft e =
    let read = both_done (json text) (draft_of text) draft e in
    let top = both_done (leaves_out Top read.0) _ draft read.1.1 in
    let global = both_done (optional no_global global_in (get (codes "global") read.0)) _ draft top.1.1 in
    let routes = both_done (required root_in (get (codes "route") read.0)) _ draft global.1.1 in
    let receivers = both_done (required receivers_in (get (codes "receivers") read.0)) _ draft routes.1.1 in
    let rules = both_done (optional [] rules_in (get (codes "inhibit_rules") read.0)) _ draft receivers.1.1 in
    cc

-- a draft's text is the one that it was read of
pub text_kept : (text : List ℕ) (draft : Draft) → draft_in text ≡ Ok draft → draft.text ≡ text
unfolding draft_in
text_kept text draft e = said_text text draft (value_kept refusal_of (said_by_text text) draft e)
