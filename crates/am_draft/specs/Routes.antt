-- Routes as they are written, and the tree of them.
use Rattle.std.specs.Prelude.{ℕ, ◌+◌, ◌-◌, ◌^◌, min, Bool, false, List, [], ◌∷◌, ◌++◌, codes, Option, Some, None, Result, Ok, Err, if◌then◌else◌}
use Rattle.std.specs.Str.{bytes_eq}
use Rattle.serde_json.specs.Data.{Data, null, boolean, number, string, array, object, Items, no_items, item, Members, no_members, member}
use Rattle.serde_json.specs.Find.{get}
use Rattle.am_text.specs.Outcome.{◌>>=◌}
use Rattle.am_text.specs.Trees.{Forest, none, tree, flat}
use Rattle.am_text.specs.declared.tree.Node.{Node}
use Rattle.am_json.specs.declared.refusal.JsonRefusal.{JsonRefusal}
use Rattle.am_json.specs.declared.refusal.JsonRefusal.TheVariants.{BadForm}
use Rattle.am_json.specs.Reading.{optional, some_text_in, flag_in, texts_in}
use Rattle.am_draft.specs.declared.keys.Place.TheVariants.{Route}
use Rattle.am_draft.specs.declared.route.Grouping.{Grouping}
use Rattle.am_draft.specs.declared.route.Grouping.TheVariants.{All, Names}
use Rattle.am_draft.specs.declared.route.Intervals.{Intervals}
use Rattle.am_draft.specs.declared.route.RouteDraft.{RouteDraft}
use Rattle.am_draft.specs.Names.{named}
use Rattle.am_draft.specs.Keys.{leaves_out}

-- the one text that stands for all labels
abbrev pub is_all : List (List ℕ) → Bool
is_all [] = false
is_all (text ∷ []) = bytes_eq text (codes "...")
is_all (text ∷ other ∷ texts) = false

abbrev pub grouped : List (List ℕ) → Result Grouping JsonRefusal
grouped texts = if is_all texts then Ok All else (named texts >>= λ names. Ok (Names names))

-- the labels to group by: all, or a list of label names
abbrev pub grouping_in : Data → Result (Option Grouping) JsonRefusal
grouping_in d = texts_in d >>= grouped >>= λ grouping. Ok (Some grouping)

unfoldable pub intervals_of : Data → Result Intervals JsonRefusal
intervals_of d = do
  group_wait ← optional None some_text_in (get (codes "group_wait") d)
  group_interval ← optional None some_text_in (get (codes "group_interval") d)
  repeat_interval ← optional None some_text_in (get (codes "repeat_interval") d)
  Ok (record { group_wait = group_wait; group_interval = group_interval; repeat_interval = repeat_interval })

-- what a route says, apart from the routes within it
unfoldable pub route_of : ℕ → Data → Result RouteDraft JsonRefusal
route_of depth d = do
  left_out ← leaves_out Route d
  receiver ← optional None some_text_in (get (codes "receiver") d)
  grouping ← optional None grouping_in (get (codes "group_by") d)
  intervals ← intervals_of d
  matchers ← optional [] texts_in (get (codes "matchers") d)
  goes_on ← optional false flag_in (get (codes "continue") d)
  Ok (record {
    depth = depth;
    receiver = receiver;
    grouping = grouping;
    intervals = intervals;
    matchers = matchers;
    goes_on = goes_on;
    left_out = left_out;
  })

-- the depth within a route of this depth; JSON nests at most 127 deep, so the greatest number of 64 bits is never met
abbrev pub deeper : ℕ → ℕ
deeper depth = min (depth + 1) (2 ^ 64 - 1)

abbrev mutual
  -- a route and the routes within it
  pub tree_in : ℕ → Data → Result (RouteDraft × Forest RouteDraft) JsonRefusal
  tree_in depth null = Err BadForm
  tree_in depth (boolean b) = Err BadForm
  tree_in depth (number n) = Err BadForm
  tree_in depth (string s) = Err BadForm
  tree_in depth (array ds) = Err BadForm
  tree_in depth (object ms) =
      route_of depth (object ms) >>= λ route. (routes_below (deeper depth) ms >>= λ within. Ok (route, within))

  -- the routes within an object with these members
  pub routes_below : ℕ → Members → Result (Forest RouteDraft) JsonRefusal
  routes_below depth no_members = Ok none
  routes_below depth (member key d ms) =
      if bytes_eq key (codes "routes") then routes_in depth d else routes_below depth ms

  -- a list of routes
  pub routes_in : ℕ → Data → Result (Forest RouteDraft) JsonRefusal
  routes_in depth null = Err BadForm
  routes_in depth (boolean b) = Err BadForm
  routes_in depth (number n) = Err BadForm
  routes_in depth (string s) = Err BadForm
  routes_in depth (array ds) = routes_of depth ds
  routes_in depth (object ms) = Err BadForm

  pub routes_of : ℕ → Items → Result (Forest RouteDraft) JsonRefusal
  routes_of depth no_items = Ok none
  routes_of depth (item d ds) =
      tree_in depth d >>= λ first. (routes_of depth ds >>= λ after. Ok (tree first.0 first.1 after))

-- the list, with the routes that were read added at its end
abbrev pub grown : List (Node RouteDraft) → Result (Forest RouteDraft) JsonRefusal →
    Result (List (Node RouteDraft)) JsonRefusal
grown done outcome = outcome >>= λ forest. Ok (done ++ flat forest)

-- the list, with the tree that was read added at its end
abbrev pub grown_by_tree : List (Node RouteDraft) → Result (RouteDraft × Forest RouteDraft) JsonRefusal →
    Result (List (Node RouteDraft)) JsonRefusal
grown_by_tree done outcome = outcome >>= λ t. Ok (done ++ flat (tree t.0 t.1 none))
