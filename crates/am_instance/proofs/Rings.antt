-- The rings so far, as an instance reads them.
use Rattle.std.proofs.Common.{◌≡◌, ℕ, ◌+◌, ◌<◌, ◌==◌, ◌&&◌, Bool, false, List, [], length, map, take, get_or, arith, ap, refl, sym, ◌∙◌}
use Rattle.std.proofs.lemmas.Bool.Decides.{nat_tests}
use Rattle.std.specs.List.{list_all}
use Rattle.std.specs.Prelude.{option_map, unwrap_or}
use Rattle.std.proofs.lemmas.List.{take-map}
use Rattle.std.proofs.Math.Bool.{and_comm}
use Rattle.std.proofs.lemmas.List.Folds.{list_all_more, list_all-map}
use Rattle.std.proofs.lemmas.Option.{slice_get-get_or, slice_get-map, slice_get_read}
use Rattle.am_cluster.specs.Rings.{is_always_replica, ring_at}
use Rattle.am_ring.specs.Instances.{Members, is_among}

-- the ring of an epoch is the one that is read there
pub ring_read : (rings : List Members) (epoch : ℕ) (ring : Members) → epoch < length rings → ring ≡ get_or rings epoch ring
    → ring_at epoch (map (λ (r : Members). r.instances) rings) ≡ ring.instances
ring_read rings epoch ring within is =
    ap (λ o. unwrap_or o []) (slice_get-map (λ (r : Members). r.instances) rings epoch
    ∙ ap (option_map (λ (r : Members). r.instances)) (slice_get_read rings (length rings) epoch ring refl within is))

-- one of the replicas under every ring of these
pub always_read : (replicas_by : List ℕ → List ℕ) (epoch : ℕ) (rings : List Members) (i : ℕ)
    → is_always_replica replicas_by epoch (map (λ (r : Members). r.instances) rings) i
    ≡ list_all (λ (r : Members). is_among i (replicas_by r.instances)) (take (epoch + 1) rings)
unfolding is_always_replica
always_read replicas_by epoch rings i =
    ap (list_all (λ ring. is_among i (replicas_by ring))) (take-map (λ (r : Members). r.instances) (epoch + 1) rings)
    ∙ list_all-map (λ ring. is_among i (replicas_by ring)) (λ (r : Members). r.instances) (take (epoch + 1) rings)

-- .. under the last one of these, and under those before it
pub always_then : (replicas_by : List ℕ → List ℕ) (epoch : ℕ) (rings : List Members) (i : ℕ) → epoch < length rings
    → is_always_replica replicas_by epoch (map (λ (r : Members). r.instances) rings) i
    ≡ (is_among i (replicas_by (ring_at epoch (map (λ (r : Members). r.instances) rings)))
    && list_all (λ (r : Members). is_among i (replicas_by r.instances)) (take epoch rings))
always_then replicas_by epoch rings i within =
    always_read replicas_by epoch rings i
    ∙ list_all_more (λ (r : Members). is_among i (replicas_by r.instances)) rings epoch none within
    ∙ and_comm earlier (is_among i (replicas_by (get_or rings epoch none).instances))
    ∙ ap (λ is. is_among i (replicas_by is) && earlier) (sym there)
  where
    none : Members
    none = record { instances = [] }

    earlier : Bool
    earlier = list_all (λ (r : Members). is_among i (replicas_by r.instances)) (take epoch rings)

    there : ring_at epoch (map (λ (r : Members). r.instances) rings) ≡ (get_or rings epoch none).instances
    there =
        ap (λ o. unwrap_or o []) (slice_get-map (λ (r : Members). r.instances) rings epoch
        ∙ ap (option_map (λ (r : Members). r.instances)) (slice_get-get_or rings epoch none within))

-- the first incarnation, or a later one
pub first_still : (incarnation first : ℕ) (stays : Bool) → incarnation ≡ first → stays ≡ ((incarnation == first) && stays)
first_still incarnation first stays is = grind (arith, nat_tests)

pub started_later : (incarnation first : ℕ) (stays : Bool) → (incarnation ≡ first → ⊥)
    → false ≡ ((incarnation == first) && stays)
started_later incarnation first stays apart = grind (arith, nat_tests)

-- an instance in its first incarnation has stayed where it is one of these three, and was one in all rings before
pub stayed_by : (replicas_by : List ℕ → List ℕ) (epoch : ℕ) (rings : List Members) (i : ℕ) → epoch < length rings
    → (three : List ℕ) → three ≡ replicas_by (ring_at epoch (map (λ (r : Members). r.instances) rings))
    → (earlier : Bool) → earlier ≡ list_all (λ (r : Members). is_among i (replicas_by r.instances)) (take epoch rings)
    → (incarnation first : ℕ) → incarnation ≡ first
    → (is_among i three && earlier)
    ≡ ((incarnation == first) && is_always_replica replicas_by epoch (map (λ (r : Members). r.instances) rings) i)
stayed_by replicas_by epoch rings i within three are earlier were incarnation first still =
    ap (λ is. is_among i is && earlier) are
    ∙ ap (λ b. is_among i (replicas_by (ring_at epoch (map (λ (r : Members). r.instances) rings))) && b) were
    ∙ sym (always_then replicas_by epoch rings i within) ∙ first_still incarnation first _ still

-- .. at its place
pub ring_there : (rings : List Members) (epoch : ℕ) (ring : Members) → epoch < length rings → ring ≡ get_or rings epoch ring
    → ring_at epoch (map (λ (r : Members). r.instances) rings) ≡ (get_or rings epoch ring).instances
ring_there rings epoch ring within is = ring_read rings epoch ring within is ∙ ap (λ (r : Members). r.instances) is
