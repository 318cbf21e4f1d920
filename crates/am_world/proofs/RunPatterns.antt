-- The patterns of a tenant's open operations, over whole lists of happenings.
use Rattle.std.proofs.Common.{inl, inr, ℕ, List, [], ◌∷◌, ◌++◌, Contains}
use Rattle.std.proofs.lemmas.Grind.{flat_map-append}
use Rattle.std.proofs.lemmas.List.Elements.{All-contains, Contains-append_cases, Contains-append_left}
use Rattle.std.proofs.lemmas.List.Elements.{Contains-append_right}
use Rattle.am_cluster.specs.Patterns.{patterns_brought, patterns_of_operations, patterns_of_request, patterns_open}
use Rattle.am_cluster.proofs.Open.{from_flat, open_after}
use Rattle.am_cluster.proofs.Replied.{opened_over}
use Rattle.am_cluster.specs.Courses.{after, after_all}
use Rattle.am_cluster.specs.Happening.{Happening}
use Rattle.am_cluster.specs.Operating.{decision_on}
use Rattle.am_cluster.specs.Operations.{Operation}
use Rattle.am_setup.specs.Setup.{Origin}
use Rattle.am_cluster.specs.PrivateCluster.{PrivateCluster, opened}
use Rattle.am_http.specs.declared.request.Request.{Request}
use Rattle.am_item.specs.declared.item.Item.{Item}
use Rattle.am_ring.specs.Instances.{all_instances}
use Rattle.am_world.specs.Runs.{patterns_asked}

module _ {X : Type 0} (ws xs ys : List X) (x : X) where
  -- in one of three lists
  left_of : Contains ws x → Contains (ws ++ (xs ++ ys)) x
  left_of here = Contains-append_left ws (xs ++ ys) x here

  middle_of : Contains xs x → Contains (ws ++ (xs ++ ys)) x
  middle_of here = Contains-append_right ws (xs ++ ys) x (Contains-append_left xs ys x here)

  right_of : Contains ys x → Contains (ws ++ (xs ++ ys)) x
  right_of here = Contains-append_right ws (xs ++ ys) x (Contains-append_right xs ys x here)

-- those after all happenings were open before, or came with one
pub open_after_all : (p : PrivateCluster) (hs : List Happening) (text : List ℕ)
    → Contains (patterns_open (after_all p hs)) text → Contains (patterns_open p ++ patterns_asked hs) text
open_after_all p [] text here = Contains-append_left (patterns_open p) [] text here
open_after_all p (h ∷ hs) text here =
    elim (Contains-append_cases (patterns_open (after p h)) (patterns_asked hs) text
    (open_after_all (after p h) hs text here)) [
      | inl then ↦ elim (Contains-append_cases (patterns_open p) (patterns_brought h) text
          (open_after (decision_on p.service_key) p h text then)) [
            | inl before ↦ left_of (patterns_open p) (patterns_brought h) (patterns_asked hs) text before
            | inr came ↦ middle_of (patterns_open p) (patterns_brought h) (patterns_asked hs) text came
          ]
      | inr later ↦ right_of (patterns_open p) (patterns_brought h) (patterns_asked hs) text later
    ]

-- so what is open then, or comes later, was open before, or came in all
pub open_then : (p : PrivateCluster) (hs later : List Happening) (text : List ℕ)
    → Contains (patterns_open (after_all p hs) ++ patterns_asked later) text
    → Contains (patterns_open p ++ patterns_asked (hs ++ later)) text
open_then p hs later text here =
    rw (flat_map-append patterns_brought hs later)
    (elim (Contains-append_cases (patterns_open (after_all p hs)) (patterns_asked later) text here) [
      | inl then ↦ elim (Contains-append_cases (patterns_open p) (patterns_asked hs) text
          (open_after_all p hs text then)) [
            | inl before ↦ left_of (patterns_open p) (patterns_asked hs) (patterns_asked later) text before
            | inr came ↦ middle_of (patterns_open p) (patterns_asked hs) (patterns_asked later) text came
          ]
      | inr comes ↦ right_of (patterns_open p) (patterns_asked hs) (patterns_asked later) text comes
    ])

-- as all is opened no operation is open
pub none_open : (origin : Origin) (t : List ℕ) (rows : ℕ → List Item) (text : List ℕ)
    → Contains (patterns_open (opened origin t rows)) text → ⊥
none_open origin t rows text here =
    let p : PrivateCluster = opened origin t rows in
    let at = from_flat (λ i. patterns_of_operations (p.at i).operations) all_instances text here in
    let one = from_flat (λ (o : Operation). patterns_of_request o.request) (p.at at.0).operations text at.2 in
    All-contains (λ (o : Operation). ⊥) (p.at at.0).operations one.0
    (opened_over (λ (connection : ℕ) (request : Request). ⊥) origin t rows at.0) one.1
