-- Places of alerts, and the alerts that stand there.
use Rattle.std.proofs.Common.{◌≡◌, ℕ, ◌+◌, ◌<◌, inl, inr, List, [], ◌∷◌, ◌++◌, Some, All, length, map, refl, sym, ap, ap₂, ◌∙◌, arith, append-nil, append_assoc, get_or, length-append, take}
use Rattle.std.specs.Prelude.{slice_get}
use Rattle.std.specs.List.{filter_map, flat_map}
use Rattle.std.proofs.lemmas.Bool.{cases_Bool}
use Rattle.std.proofs.lemmas.List.{length-map, length-take-le, map-append, map_more}
use Rattle.std.proofs.lemmas.List.Elements.{All-nil, All-cons, All-head, All-tail, filter_map-append}
use Rattle.std.proofs.lemmas.Simd.{map-map}
use Rattle.std.specs.Ordering.{is_eq}
use Rattle.am_labels.specs.declared.Label.{Label}
use Rattle.am_config.specs.Configuration.{Configuration}
use Rattle.am_group.specs.Grouping.{group_by}
use Rattle.am_members.specs.declared.group.Group.{Group}
use Rattle.am_group_list.specs.declared.group.ListedGroup.{ListedGroup}
use Rattle.am_group_list.specs.Groups.{listed_cmp, members_in}
use Rattle.am_group_list.specs.Places.{places_from}
use Rattle.am_group_list.proofs.Under.{members-append}

-- the pairs of a group and what each of some things is made to, where each has these groups
abbrev pub pairs_of : {X Y : Type 0} → (X → List ListedGroup) → (X → Y) → List X → List (ListedGroup × Y)
pairs_of groups make xs = flat_map (λ x. map (λ group. (group, make x)) (groups x)) xs

-- what is made of all that is paired with a group
pub members_made : {X Y : Type 0} (f : X → Y) (g : ListedGroup) (pairs : List (ListedGroup × X)) →
    map f (members_in g pairs) ≡ members_in g (map (λ (pair : ListedGroup × X). (pair.0, f pair.1)) pairs)
members_made f g [] = refl
members_made f g (p ∷ pairs) =
    elim (cases_Bool (is_eq (listed_cmp g p.0))) [
      | inl same ↦ rw same (ap (λ rest. f p.1 ∷ rest) (members_made f g pairs))
      | inr apart ↦ rw apart (members_made f g pairs)
    ]

pub pairs_made : {X Y : Type 0} (groups : X → List ListedGroup) (f : X → Y) (xs : List X) →
    map (λ (pair : ListedGroup × X). (pair.0, f pair.1)) (pairs_of groups (λ x. x) xs) ≡ pairs_of groups f xs
pairs_made groups f [] = refl
pairs_made {X} {Y} groups f (x ∷ xs) =
    let with_made : ListedGroup × X → ListedGroup × Y = λ pair. (pair.0, f pair.1) in
    map-append with_made (map (λ group. (group, x)) (groups x)) (pairs_of groups (λ y. y) xs)
    ∙ ap₂ (λ first rest. first ++ rest) (map-map with_made (λ group. (group, x)) (groups x)) (pairs_made groups f xs)

module _ {X Y : Type 0} (groups : X → List ListedGroup) (make : X → Y) where
  -- they have the same groups as the pairs with places
  pub same_groups : (n : ℕ) (xs : List X) → map (λ (pair : ListedGroup × ℕ). pair.0) (places_from n (map groups xs)) ≡ map (λ (pair : ListedGroup × Y). pair.0) (pairs_of groups make xs)
  same_groups n [] = refl
  same_groups n (x ∷ xs) =
      map-append (λ (pair : ListedGroup × ℕ). pair.0) (map (λ group. (group, n)) (groups x)) (places_from (n + 1) (map groups xs))
      ∙ ap₂ (λ first rest. first ++ rest)
      (map-map (λ (pair : ListedGroup × ℕ). pair.0) (λ group. (group, n)) (groups x) ∙ sym (map-map (λ (pair : ListedGroup × Y). pair.0) (λ group. (group, make x)) (groups x)))
      (same_groups (n + 1) xs)
      ∙ sym (map-append (λ (pair : ListedGroup × Y). pair.0) (map (λ group. (group, make x)) (groups x)) (pairs_of groups make xs))

  at_end : (before xs : List X) (x : X) → slice_get (before ++ x ∷ xs) (length before) ≡ Some x
  at_end [] xs x = refl
  at_end (b ∷ before) xs x = at_end before xs x

  -- what stands at the places of one group among those of one thing
  own : (all : List X) (n : ℕ) (x : X) (g : ListedGroup) → slice_get all n ≡ Some x → (gs : List ListedGroup) →
      map make (filter_map (slice_get all) (members_in g (map (λ group. (group, n)) gs))) ≡ members_in g (map (λ group. (group, make x)) gs)
  own all n x g there [] = refl
  own all n x g there (h ∷ gs) =
      elim (cases_Bool (is_eq (listed_cmp g h))) [
        | inl same ↦ rw (same, there) (ap (λ rest. make x ∷ rest) (own all n x g there gs))
        | inr apart ↦ rw apart (own all n x g there gs)
      ]

  -- what stands at the places of one group
  pub at_places : (before xs : List X) (n : ℕ) (g : ListedGroup) → n ≡ length before →
      map make (filter_map (slice_get (before ++ xs)) (members_in g (places_from n (map groups xs)))) ≡ members_in g (pairs_of groups make xs)
  at_places before [] n g is = refl
  at_places before (x ∷ xs) n g is =
      let all = before ++ x ∷ xs in
      let there : slice_get all n ≡ Some x = ap (slice_get all) is ∙ at_end before xs x in
      let mine = members_in g (map (λ group. (group, n)) (groups x)) in
      let later = members_in g (places_from (n + 1) (map groups xs)) in
      let whole : (before ++ x ∷ []) ++ xs ≡ all = append_assoc before (x ∷ []) xs in
      let long : n + 1 ≡ length (before ++ x ∷ []) = (let l = length-append before (x ∷ []) in omega (arith, is, l)) in
      ap (λ places. map make (filter_map (slice_get all) places)) (members-append g (map (λ group. (group, n)) (groups x)) (places_from (n + 1) (map groups xs)))
      ∙ ap (map make) (filter_map-append (slice_get all) mine later)
      ∙ map-append make (filter_map (slice_get all) mine) (filter_map (slice_get all) later)
      ∙ ap₂ (λ first rest. first ++ rest) (own all n x g there (groups x))
      (ap (λ xs'. map make (filter_map (slice_get xs') later)) (sym whole) ∙ at_places (before ++ x ∷ []) xs (n + 1) g long)
      ∙ sym (members-append g (map (λ group. (group, make x)) (groups x)) (pairs_of groups make xs))

-- ---- alert by alert

places-push : (n : ℕ) (each : List (List ListedGroup)) (groups : List ListedGroup) →
    places_from n (each ++ groups ∷ []) ≡ places_from n each ++ map (λ group. (group, n + length each)) groups
places-push n [] groups = append-nil (map (λ group. (group, n)) groups) ∙ ap (λ k. map (λ group. (group, k)) groups) (omega arith)
places-push n (first ∷ each) groups =
    let moved : n + 1 + length each ≡ n + length (first ∷ each) = omega arith in
    ap (λ rest. map (λ group. (group, n)) first ++ rest) (places-push (n + 1) each groups ∙ ap (λ k. places_from (n + 1) each ++ map (λ group. (group, k)) groups) moved)
    ∙ sym (append_assoc (map (λ group. (group, n)) first) (places_from (n + 1) each) (map (λ group. (group, n + length (first ∷ each))) groups))

-- the pairs of one alert more
pub places_more : {X : Type 0} (groups : X → List ListedGroup) (alerts : List X) (k : ℕ) (alert : X) → k < length alerts → alert ≡ get_or alerts k alert →
    places_from 0 (map groups (take (k + 1) alerts)) ≡ places_from 0 (map groups (take k alerts)) ++ map (λ group. (group, k)) (groups alert)
places_more groups alerts k alert within is =
    let long : 0 + length (map groups (take k alerts)) ≡ k = (let l = length-map (take k alerts) groups in let t = length-take-le k alerts (omega (arith, within)) in omega (arith, l, t)) in
    ap (places_from 0) (map_more groups alerts k alert within ∙ ap (λ own. map groups (take k alerts) ++ groups own ∷ []) (sym is))
    ∙ places-push 0 (map groups (take k alerts)) (groups alert)
    ∙ ap (λ n. places_from 0 (map groups (take k alerts)) ++ map (λ group. (group, n)) (groups alert)) long

-- the groups of routes below a count
pub groups_below : (c : Configuration) (labels : List Label) (count : ℕ) (routes : List ℕ) → All (λ id. id < count) routes →
    All (λ (g : Group). g.route < count) (map (group_by c labels) routes)
groups_below c labels count [] below = All-nil (λ (g : Group). g.route < count)
groups_below c labels count (route ∷ routes) below =
    All-cons (λ (g : Group). g.route < count) (group_by c labels route) (map (group_by c labels) routes) (All-head (λ id. id < count) route routes below)
    (groups_below c labels count routes (All-tail (λ id. id < count) route routes below))
