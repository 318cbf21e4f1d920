-- The matchers that are asked: those of the first sibling, and those after it.
use Rattle.std.proofs.Common.{◌≡◌, ℕ, zero, suc, ◌+◌, ◌<◌, Bool, true, false, List, All, [], ◌∷◌, ◌++◌, length, get_or, take, drop, refl, subst, append-nil, arith}
use Rattle.std.proofs.lemmas.List.{drop_more}
use Rattle.std.proofs.lemmas.List.Elements.{All-append, All-cons, All-head, All-nil, All-tail}
use Rattle.std.proofs.lemmas.Grind.{flat_map-append}
use Rattle.std.specs.List.{Contains, list_all}
use Rattle.std.specs.Prelude.{if◌then◌else◌}
use Rattle.am_labels.specs.declared.Label.{Label}
use Rattle.am_match.specs.Matchers.{MatcherText}
use Rattle.am_match.specs.Meaning.{takes_labels}
use Rattle.am_text.specs.declared.tree.Node.{Node}
use Rattle.am_text.specs.Trees.{Forest, IsTree, flat, none, tree}
use Rattle.am_config.specs.declared.parts.Route.{Route}
use Rattle.am_config.specs.Configured.{HasPattern}
use Rattle.am_route.specs.Asked.{asked_among, asked_at, asked_of, route_matchers}
use Rattle.am_route.specs.Routes.{route_takes}
use Rattle.am_draft.specs.Forests.{IsForest, forest_of}
use Rattle.am_match.proofs.FailureLemmas.{AreAmong, in_back, in_front}
use Rattle.am_draft.proofs.ForestLemmas.{forest_of-flat, head}

-- the matcher at a place, where those before it took the labels
module _ (labels : List Label) (ms : List MatcherText) (k : ℕ) (m : MatcherText) (within : k < length ms) (is : m ≡ get_or ms k m) where
  rest_by_first : asked_of labels (drop k ms) ≡ m ∷ (if takes_labels m labels then asked_of labels (drop (k + 1) ms) else [])
  unfolding asked_of
  rest_by_first = rw (drop_more ms k m within, ← is) refl

  -- whether all take the labels is then told by those behind it
  pub taken_behind : takes_labels m labels ≡ true → list_all (λ x. takes_labels x labels) (drop (k + 1) ms) ≡ list_all (λ x. takes_labels x labels) (drop k ms)
  taken_behind takes = rw (drop_more ms k m within, ← is, takes) refl

  -- it is asked
  pub asked_there : Contains (asked_of labels (drop k ms)) m
  asked_there = rw rest_by_first (0, omega arith, refl)

  -- and so are those behind it, where it takes them too
  pub asked_behind : takes_labels m labels ≡ true → AreAmong (asked_of labels (drop (k + 1) ms)) (asked_of labels (drop k ms))
  asked_behind takes matcher at = rw (rest_by_first, takes) (in_back (m ∷ []) (asked_of labels (drop (k + 1) ms)) matcher at)

module _ (labels : List Label) (nodes : List (Node Route)) (node : Node Route) (behind : List (Node Route)) (e : nodes ≡ node ∷ behind) (h : IsForest nodes) where
  -- those of the first sibling
  abbrev own : List MatcherText
  own = asked_of labels node.item.matchers

  -- those within it
  abbrev below : List MatcherText
  below = asked_among labels (forest_of (take node.within behind))

  -- those among the later siblings
  abbrev later : List MatcherText
  later = asked_among labels (forest_of (drop node.within behind))

  -- those among all the siblings
  abbrev all : List MatcherText
  all = asked_among labels (forest_of nodes)

  all_by_first : all ≡ own ++ (if route_takes node.item labels then below ++ (if node.item.goes_on then later else []) else later)
  unfolding asked_among
  all_by_first = rw (e, (head node behind (subst (λ (list : List (Node Route)). IsForest list) e h)).is) refl

  -- the first sibling is asked
  pub own_asked : AreAmong own all
  own_asked matcher at = rw all_by_first (in_front own _ matcher at)

  -- it takes the labels, so those within it are asked
  pub below_asked : route_takes node.item labels ≡ true → AreAmong below all
  below_asked takes matcher at = rw (all_by_first, takes) (in_back own _ matcher (in_front below _ matcher at))

  -- and goes on, so the later siblings are
  pub later_asked : route_takes node.item labels ≡ true → node.item.goes_on ≡ true → AreAmong later all
  later_asked takes on matcher at = rw (all_by_first, takes, on) (in_back own _ matcher (in_back below later matcher at))

  -- it does not take them, so the later siblings are
  pub passed_asked : route_takes node.item labels ≡ false → AreAmong later all
  passed_asked takes matcher at = rw (all_by_first, takes) (in_back own later matcher at)

-- in a whole tree those below its root are asked
pub asked_of_tree : (labels : List Label) (nodes : List (Node Route)) (root : Node Route) (behind : List (Node Route)) → nodes ≡ root ∷ behind → IsTree nodes
    → asked_among labels (forest_of behind) ≡ asked_at labels nodes
asked_of_tree labels nodes root behind e (item, (within, is)) =
    let rest : behind ≡ flat within = cc (append-nil (flat within)) in
    rw (is, rest, forest_of-flat within, forest_of-flat (tree item within none)) refl

-- of what holds of a whole list, those in its front and in its back
all_in_front : {A : Type 0} (P : A → Type 0) (xs ys : List A) → All P (xs ++ ys) → All P xs
all_in_front P [] ys fine = All-nil P
all_in_front P (x ∷ xs) ys fine = All-cons P x xs (All-head P x (xs ++ ys) fine) (all_in_front P xs ys (All-tail P x (xs ++ ys) fine))

all_in_back : {A : Type 0} (P : A → Type 0) (xs ys : List A) → All P (xs ++ ys) → All P ys
all_in_back P [] ys fine = fine
all_in_back P (x ∷ xs) ys fine = all_in_back P xs ys (All-tail P x (xs ++ ys) fine)

-- each matcher of a route has its pattern
abbrev pub HavePatterns : Node Route → Type 0
HavePatterns node = All HasPattern node.item.matchers

module _ (labels : List Label) where
  patterns_asked_of : (ms : List MatcherText) → All HasPattern ms → All HasPattern (asked_of labels ms)
  unfolding asked_of
  patterns_asked_of [] fine = All-nil HasPattern
  patterns_asked_of (m ∷ ms) fine =
      All-cons HasPattern m _ (All-head HasPattern m ms fine)
      (elim (takes_labels m labels) as (λ (b : Bool). All HasPattern (if b then asked_of labels ms else []))
      [ true ↦ patterns_asked_of ms (All-tail HasPattern m ms fine) | false ↦ All-nil HasPattern ])

  patterns_asked_among : (f : Forest Route) → All HavePatterns (flat f) → All HasPattern (asked_among labels f)
  unfolding asked_among
  patterns_asked_among none fine = All-nil HasPattern
  patterns_asked_among (tree route within after) fine =
      let behind = All-tail HavePatterns (record { item = route; within = length (flat within) }) (flat within ++ flat after) fine in
      let below = patterns_asked_among within (all_in_front HavePatterns (flat within) (flat after) behind) in
      let later = patterns_asked_among after (all_in_back HavePatterns (flat within) (flat after) behind) in
      All-append HasPattern (asked_of labels route.matchers) _
      (patterns_asked_of route.matchers (All-head HavePatterns (record { item = route; within = length (flat within) }) (flat within ++ flat after) fine))
      (elim (route_takes route labels) as
      (λ (b : Bool). All HasPattern (if b then asked_among labels within ++ (if route.goes_on then asked_among labels after else []) else asked_among labels after)) [
        | true ↦
            All-append HasPattern (asked_among labels within) _ below
            (elim route.goes_on as (λ (b : Bool). All HasPattern (if b then asked_among labels after else [])) [ true ↦ later | false ↦ All-nil HasPattern ])
        | false ↦ later
      ])

  -- each matcher that is asked has its pattern, where those of all routes have
  pub patterns_asked_at : (nodes : List (Node Route)) → IsTree nodes → All HavePatterns nodes → All HasPattern (asked_at labels nodes)
  patterns_asked_at nodes (root, (within, is)) fine =
      rw (is, forest_of-flat (tree root within none))
      (patterns_asked_among within
      (all_in_front HavePatterns (flat within) []
      (All-tail HavePatterns (record { item = root; within = length (flat within) }) (flat within ++ []) (rw is at fine))))

-- what is in a joined list is in one of the two
either : (P : Type 0) (xs ys : List MatcherText) (m : MatcherText) → (Contains xs m → P) → (Contains ys m → P) → Contains (xs ++ ys) m → P
either P [] ys m front back at = back at
either P (x ∷ xs) ys m front back (zero, below, is) = front (0, omega arith, is)
either P (x ∷ xs) ys m front back (suc k, below, is) =
    either P xs ys m (λ there. front (in_back (x ∷ []) xs m there)) back (k, omega (arith, below), is)

-- the matchers that are asked are matchers of the routes
module _ (labels : List Label) (m : MatcherText) where
  own_among : (ms : List MatcherText) → Contains (asked_of labels ms) m → Contains ms m
  unfolding asked_of
  own_among [] at = at
  own_among (first ∷ ms) at =
      (elim (takes_labels first labels) as (λ (b : Bool). Contains (first ∷ (if b then asked_of labels ms else [])) m → Contains (first ∷ ms) m) [
        | true ↦ λ there.
            either (Contains (first ∷ ms) m) (first ∷ []) (asked_of labels ms) m (in_front (first ∷ []) ms m) (λ behind. in_back (first ∷ []) ms m (own_among ms behind)) there
        | false ↦ λ there. in_front (first ∷ []) ms m there
      ]) at

  among_all : (f : Forest Route) → Contains (asked_among labels f) m → Contains (route_matchers (flat f)) m
  unfolding asked_among
  among_all none at = at
  among_all (tree route within after) at =
      let inner = route_matchers (flat within) in
      let later = route_matchers (flat after) in
      let behind : route_matchers (flat within ++ flat after) ≡ inner ++ later = flat_map-append (λ (node : Node Route). node.item.matchers) (flat within) (flat after) in
      let goal = Contains (route.matchers ++ (inner ++ later)) m in
      let from_within : Contains (asked_among labels within) m → goal =
      λ there. in_back route.matchers (inner ++ later) m (in_front inner later m (among_all within there)) in
      let from_after : Contains (asked_among labels after) m → goal =
      λ there. in_back route.matchers (inner ++ later) m (in_back inner later m (among_all after there)) in
      let from_rest : Contains
      (if route_takes route labels then asked_among labels within ++ (if route.goes_on then asked_among labels after else []) else asked_among labels after) m → goal =
      elim (route_takes route labels) as (λ (b : Bool). Contains
      (if b then asked_among labels within ++ (if route.goes_on then asked_among labels after else []) else asked_among labels after) m → goal) [
        | true ↦
            either goal (asked_among labels within) (if route.goes_on then asked_among labels after else []) m from_within
            (elim route.goes_on as (λ (b : Bool). Contains (if b then asked_among labels after else []) m → goal)
            [ true ↦ from_after | false ↦ λ (k, below, is). absurd (omega (arith, below)) ])
        | false ↦ from_after
      ] in
      rw behind (either goal (asked_of labels route.matchers) _ m (λ there. in_front route.matchers (inner ++ later) m (own_among route.matchers there)) from_rest at)

pub asked_in_routes : (labels : List Label) (nodes : List (Node Route)) → IsTree nodes → AreAmong (asked_at labels nodes) (route_matchers nodes)
asked_in_routes labels nodes (root, (within, is)) =
    rw (is, forest_of-flat (tree root within none), append-nil (flat within))
    (λ m at. in_back root.matchers (route_matchers (flat within)) m (among_all labels m within at))
