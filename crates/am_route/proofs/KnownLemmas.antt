-- What is known of routes by their numbers, route by route.
use Rattle.std.proofs.Common.{◌≡◌, ◌∙◌, ℕ, suc, ◌+◌, ◌<◌, Bool, List, ◌∷◌, Option, None, Some, length, map, take, drop, get_or, replicate, sym, ap, subst, arith}
use Rattle.std.specs.Option.{ForSome}
use Rattle.std.proofs.lemmas.List.{get_or-drop, get_or-map, get_or-replicate, get_or-take, length-drop, length-map, length-replicate, length-take}
use Rattle.am_labels.specs.declared.Label.{Label}
use Rattle.am_text.specs.declared.tree.Node.{Node}
use Rattle.am_config.specs.declared.parts.Route.{Route}
use Rattle.am_route.specs.Answers.{AreKnown}
use Rattle.am_route.specs.Routes.{route_takes}

-- what is known of one route is right
abbrev pub IsKnown : List Label → Node Route → Option Bool → Type 0
IsKnown labels node taken = ForSome taken (λ b. b ≡ route_takes node.item labels)

module _ (labels : List Label) (nodes : List (Node Route)) (first : ℕ) (known : List (Option Bool)) (node : Node Route) (behind : List (Node Route)) (e : nodes ≡ node ∷ behind) (h : AreKnown labels nodes first known) where
  sure : AreKnown labels (node ∷ behind) first known
  sure = subst (λ (list : List (Node Route)). AreKnown labels list first known) e h

  -- of the first of them
  pub first_within : first < length known
  first_within = omega (arith, (sure 0 node (omega arith)).0)

  pub first_known : IsKnown labels node (get_or known first None)
  first_known =
      let place : first + 0 ≡ first = omega arith in
      subst (λ n. IsKnown labels node (get_or known n None)) place (sure 0 node (omega arith)).1

  -- of those behind it
  pub rest_known : AreKnown labels behind (first + 1) known
  rest_known i other below =
      let here = sure (suc i) other (omega arith) in
      let place : first + suc i ≡ first + 1 + i = omega arith in (
        omega (arith, here.0),
        subst (λ n. IsKnown labels (get_or behind i other) (get_or known n None)) place here.1,
      )

module _ (labels : List Label) (nodes : List (Node Route)) (first : ℕ) (known : List (Option Bool)) (h : AreKnown labels nodes first known) (count : ℕ) where
  -- of the first so many
  pub front_known : AreKnown labels (take count nodes) first known
  front_known i other below =
      let long = length-take count nodes in
      let inside : i < count = omega (arith, long, below) in
      let here = h i other (omega (arith, long, below)) in (
        here.0,
        subst (λ node. IsKnown labels node (get_or known (first + i) None)) (sym (get_or-take count nodes i other inside)) here.1,
      )

  -- of those behind them
  pub back_known : AreKnown labels (drop count nodes) (first + count) known
  back_known i other below =
      let here = h (count + i) other (omega (arith, length-drop count nodes, below)) in
      let place : first + (count + i) ≡ first + count + i = omega arith in (
        omega (arith, here.0),
        subst (λ n. IsKnown labels (get_or (drop count nodes) i other) (get_or known n None)) place
            (subst (λ node. IsKnown labels node (get_or known (first + (count + i)) None)) (sym (get_or-drop count nodes i other)) here.1),
      )

-- where nothing is known
pub none_known : (labels : List Label) (nodes : List (Node Route)) (known : List (Option Bool)) → known ≡ replicate (length nodes) None →
    AreKnown labels nodes 0 known
none_known labels nodes known is i other below = let nothing : Option Bool = None in (
  omega (arith, ap length is, length-replicate (length nodes) nothing, below),
  λ taken found. absurd (
      let there : get_or known (0 + i) None ≡ None =
      ap (λ list. get_or list (0 + i) None) is ∙ get_or-replicate (length nodes) (0 + i) None None (omega (arith, below)) in
      let never : None ≡ Some taken = sym there ∙ found in cc),
)

-- where it is known of each
pub all_known : (labels : List Label) (nodes : List (Node Route)) (known : List (Option Bool)) →
    known ≡ map (λ (node : Node Route). Some (route_takes node.item labels)) nodes → AreKnown labels nodes 0 known
all_known labels nodes known is i other below =
    let told : Node Route → Option Bool = λ (node : Node Route). Some (route_takes node.item labels) in
    let place : 0 + i ≡ i = omega arith in (
      omega (arith, ap length is, length-map nodes told, below),
      λ taken found.
          let there : get_or known (0 + i) None ≡ told (get_or nodes i other) =
          ap (λ n. get_or known n None) place ∙ ap (λ list. get_or list i None) is ∙ get_or-map told nodes i other None below in
          let same : told (get_or nodes i other) ≡ Some taken = sym there ∙ found in cc,
    )
