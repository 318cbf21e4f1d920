-- Tables of answers: a row of flags for each route.
use Rattle.std.proofs.Common.{◌≡◌, ◌∙◌, ℕ, ◌<◌, Bool, false, Bor, List, All, [], ◌∷◌, ◌++◌, Option, Some, IsSome, Vec, Global, length, map, take, get_or, refl, sym, ap, subst, arith}
use Rattle.std.proofs.lemmas.List.{get_or-map, length-map}
use Rattle.std.proofs.lemmas.List.Elements.{All-cons, All-map, All-nil}
use Rattle.std.proofs.lemmas.Simd.{map-map}
use Rattle.am_labels.specs.declared.Label.{Label}
use Rattle.am_match.specs.Matchers.{MatcherText}
use Rattle.am_match.specs.Meaning.{all_take}
use Rattle.am_table.specs.Tables.{all_matchers}
use Rattle.am_text.specs.declared.tree.Node.{Node}
use Rattle.am_config.specs.declared.parts.Route.{Route}
use Rattle.am_route.specs.Answers.{AreKnown}
use Rattle.am_route.specs.Asked.{route_matchers}
use Rattle.am_route.specs.Routes.{route_takes}
use Rattle.am_route.proofs.KnownLemmas.{all_known}

-- ---- the lists of matchers that routes have

abbrev pub lists_in : List (Node Route) → List (List MatcherText)
lists_in nodes = map (λ (node : Node Route). node.item.matchers) nodes

pub all_of_routes : (nodes : List (Node Route)) → all_matchers (lists_in nodes) ≡ route_matchers nodes
all_of_routes [] = refl
all_of_routes (node ∷ nodes) = ap (λ rest. node.item.matchers ++ rest) (all_of_routes nodes)

pub rows_of_routes : (sets : List (Bor (List Label))) (nodes : List (Node Route)) (lists : List (Bor (List MatcherText))) → map (λ list. list.now) lists ≡ lists_in nodes →
    map (λ list. map (λ set'. all_take list.now set'.now) sets) lists ≡ map (λ (node : Node Route). map (λ set'. route_takes node.item set'.now) sets) nodes
rows_of_routes sets nodes lists are =
    let row : List MatcherText → List Bool = λ ms. map (λ set'. all_take ms set'.now) sets in
    sym (map-map row (λ (list : Bor (List MatcherText)). list.now) lists)
    ∙ ap (map row) are
    ∙ map-map row (λ (node : Node Route). node.item.matchers) nodes

-- ---- the rows

-- the flags of each row
abbrev pub flags_of : List (Vec Bool Global) → List (List Bool)
flags_of rows = map (λ (row : Vec Bool Global). row.items) rows

module _ {A : Type 0} (view : A → List Label) (sets : List A) where
  -- which of the label sets the route takes
  abbrev pub taken_by : Node Route → List Bool
  taken_by node = map (λ set. route_takes node.item (view set)) sets

  -- a label set's place is in each row
  pub rows_reach : (place : ℕ) → place < length sets → (nodes : List (Node Route)) (rows : List (Vec Bool Global)) → flags_of rows ≡ map taken_by nodes →
      All (λ (row : Vec Bool Global). place < length row.items) rows
  rows_reach place within nodes [] is = All-nil (λ (row : Vec Bool Global). place < length row.items)
  rows_reach place within [] (row ∷ rows) is = absurd (omega (arith, ap length is))
  rows_reach place within (node ∷ nodes) (row ∷ rows) is =
      let first : row.items ≡ taken_by node = cc in
      let rest : flags_of rows ≡ map taken_by nodes = cc in
      All-cons (λ (r : Vec Bool Global). place < length r.items) row rows
      (omega (arith, ap length first, length-map sets (λ set. route_takes node.item (view set)), within))
      (rows_reach place within nodes rows rest)

  -- what is there tells of each route whether it takes the label set
  column_is : (place : ℕ) (set : A) → place < length sets → set ≡ get_or sets place set → (nodes : List (Node Route)) (rows : List (Vec Bool Global)) →
      flags_of rows ≡ map taken_by nodes →
      map (λ (row : Vec Bool Global). Some (get_or row.items place false)) rows ≡ map (λ (node : Node Route). Some (route_takes node.item (view set))) nodes
  column_is place set within at [] [] is = refl
  column_is place set within at (node ∷ nodes) [] is = absurd (omega (arith, ap length is))
  column_is place set within at [] (row ∷ rows) is = absurd (omega (arith, ap length is))
  column_is place set within at (node ∷ nodes) (row ∷ rows) is =
      let first : row.items ≡ taken_by node = cc in
      let rest : flags_of rows ≡ map taken_by nodes = cc in
      let takes : A → Bool = λ other. route_takes node.item (view other) in
      let here : get_or row.items place false ≡ route_takes node.item (view set) =
      ap (λ (flags : List Bool). get_or flags place false) first ∙ get_or-map takes sets place set false within ∙ ap takes (sym at) in
      ap (λ b. Some b ∷ map (λ (r : Vec Bool Global). Some (get_or r.items place false)) rows) here
      ∙ ap (λ others. Some (route_takes node.item (view set)) ∷ others) (column_is place set within at nodes rows rest)

  pub column_known : (place : ℕ) (set : A) → place < length sets → set ≡ get_or sets place set → (nodes : List (Node Route)) (rows : List (Vec Bool Global)) →
      flags_of rows ≡ map taken_by nodes → (known : List (Option Bool)) → known ≡ map (λ (row : Vec Bool Global). Some (get_or row.items place false)) rows →
      AreKnown (view set) nodes 0 known
  column_known place set within at nodes rows is known told = all_known (view set) nodes known (told ∙ column_is place set within at nodes rows is)

-- what holds of whatever is found for labels, for each of the first so many label sets
pub all_of_each : {A : Type 0} (view : A → List Label) (P : List ℕ → Type 0) (find : List Label → List ℕ) (sets : List A) (count : ℕ) (found : List (List ℕ)) →
    found ≡ map (λ set. find (view set)) (take count sets) → ((labels : List Label) → P (find labels)) → All P found
all_of_each view P find sets count found is holds =
    subst (All P) (sym is) (All-map P (λ set. find (view set)) (take count sets) (λ i other below. holds (view (get_or (take count sets) i other))))

-- it is known of each route whether it takes a label set
pub all_told : {A : Type 0} (f : A → Bool) (xs : List A) → All IsSome (map (λ x. Some (f x)) xs)
all_told f [] = All-nil IsSome
all_told f (x ∷ xs) = All-cons IsSome (Some (f x)) (map (λ y. Some (f y)) xs) refl (all_told f xs)
