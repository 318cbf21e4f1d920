-- The texts that a tenant has as patterns, those of its open operations, and that those of an accepted request were
-- built.
use Rattle.std.specs.Prelude.{ℕ, IfSome, List, [], ◌∷◌, ◌++◌}
use Rattle.std.specs.List.{flat_map}
pub use Rattle.am_api.specs.Choice.{BuildsAccepted, IsRefusedBuild}
use Rattle.am_api.specs.Patterns.{patterns_of_items}
unfoldable pub use Rattle.am_api.specs.Patterns.{patterns_of_request}
use Rattle.am_item.specs.declared.item.Item.{Item}
use Rattle.am_ring.specs.Instances.{all_instances}
use Rattle.am_cluster.specs.Courses.{after}
use Rattle.am_cluster.specs.Deciding.{Deciding, deciding_at, decision_of}
use Rattle.am_cluster.specs.Happening.{Happening, Asked, Changed, Delivered, Forced, Limited, Lost, Ticked, Tried}
use Rattle.am_cluster.specs.Operations.{Operation}
use Rattle.am_cluster.specs.PrivateCluster.{PrivateCluster}

-- a request is decided at the second answer: so it is then that its patterns are asked
abbrev pub AsksBuilt : PrivateCluster → Happening → Type 0
AsksBuilt p h =
    IfSome (deciding_at p h) (λ (d : Deciding). BuildsAccepted d.operation.request (decision_of p.service_key d))

-- .. of all that happens
abbrev pub AreAllBuilt : PrivateCluster → List Happening → Type 0
AreAllBuilt p [] = Unit {0}
AreAllBuilt p (h ∷ hs) = AsksBuilt p h × AreAllBuilt (after p h) hs

-- those that a happening brings
abbrev pub patterns_brought : Happening → List (List ℕ)
patterns_brought (Asked connection i moment request) = patterns_of_request request
patterns_brought (Limited limits) = []
patterns_brought (Ticked moment) = []
patterns_brought (Tried i k number tries moment status) = []
patterns_brought (Delivered from k to count moment) = []
patterns_brought (Lost from k to count) = []
patterns_brought (Changed event) = []
patterns_brought Forced = []

-- those of the requests of open operations
abbrev pub patterns_of_operations : List Operation → List (List ℕ)
patterns_of_operations operations = flat_map (λ (o : Operation). patterns_of_request o.request) operations

-- .. at all instances
abbrev pub patterns_open : PrivateCluster → List (List ℕ)
patterns_open p = flat_map (λ i. patterns_of_operations (p.at i).operations) all_instances

-- those of the tenant: the ones in its rows, and those that all happenings bring
abbrev pub patterns_in : (rows : ℕ → List Item) → List Happening → List (List ℕ)
patterns_in rows happenings =
    flat_map (λ i. patterns_of_items (rows i)) all_instances ++ flat_map patterns_brought happenings
