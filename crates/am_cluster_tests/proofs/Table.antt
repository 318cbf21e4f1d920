-- The replicas of the tenant `a` by a table, for the rings of the rows: what is played by the table is what is played by distances.
use Rattle.std.specs.Prelude.{◌≡◌, ℕ, zero, suc, ◌||◌, ◌&&◌, nat_lt, ◌==◌, List, [], ◌∷◌, count_by, filter, refl}
use Rattle.std.specs.Fmt.{digits}
use Rattle.std.specs.List.{flat_map}
use Rattle.std.proofs.Common.{ap}
use Rattle.am_labels.specs.Hashes.{fnv32_from, place}
use Rattle.am_ring.specs.Distances.{distance}
use Rattle.am_ring.specs.Replicas.{replicas, stands_before}
use Rattle.am_cluster_tests.specs.StandIn.{tenant}

-- ---- distances

one : distance (place tenant) 1 ≡ 2_218_325_539
unfolding distance fnv32_from digits
one = refl

two : distance (place tenant) 2 ≡ 1_443_873_621
unfolding distance fnv32_from digits
two = refl

three : distance (place tenant) 3 ≡ 2_565_291_507
unfolding distance fnv32_from digits
three = refl

four : distance (place tenant) 4 ≡ 2_034_605_729
unfolding distance fnv32_from digits
four = refl

far : ℕ → ℕ
far zero = distance (place tenant) zero
far (suc zero) = 2_218_325_539
far (suc (suc zero)) = 1_443_873_621
far (suc (suc (suc zero))) = 2_565_291_507
far (suc (suc (suc (suc zero)))) = 2_034_605_729
far (suc (suc (suc (suc (suc i))))) = distance (place tenant) (suc (suc (suc (suc (suc i)))))

far_is : (i : ℕ) → distance (place tenant) i ≡ far i
unfolding far
far_is zero = refl
far_is (suc zero) = one
far_is (suc (suc zero)) = two
far_is (suc (suc (suc zero))) = three
far_is (suc (suc (suc (suc zero)))) = four
far_is (suc (suc (suc (suc (suc i))))) = refl

-- ---- replicas

-- the three that are nearest, where instances are so far
nearest : (ℕ → ℕ) → List ℕ → List ℕ
nearest d ring =
    flat_map (λ n. filter (λ i. count_by (λ j. nat_lt (d j) (d i) || (d j == d i && nat_lt j i)) ring == n) ring) (0 ∷ 1 ∷ 2 ∷ [])

nearest_is : (ring : List ℕ) → replicas tenant ring ≡ nearest far ring
unfolding replicas stands_before nearest
nearest_is ring = ap (λ d. nearest d ring) (λ i n. far_is n i)

pub of_three : replicas tenant (1 ∷ 2 ∷ 3 ∷ []) ≡ 2 ∷ 1 ∷ 3 ∷ []
unfolding nearest far
of_three = nearest_is (1 ∷ 2 ∷ 3 ∷ [])

pub of_four : replicas tenant (1 ∷ 2 ∷ 3 ∷ 4 ∷ []) ≡ 2 ∷ 4 ∷ 1 ∷ []
unfolding nearest far
of_four = nearest_is (1 ∷ 2 ∷ 3 ∷ 4 ∷ [])

-- ---- the table

-- the two rings of the rows, and any other
unfoldable pub table : List ℕ → List ℕ
table (suc zero ∷ suc (suc zero) ∷ suc (suc (suc zero)) ∷ []) = 2 ∷ 1 ∷ 3 ∷ []
table (suc zero ∷ suc (suc zero) ∷ suc (suc (suc zero)) ∷ suc (suc (suc (suc zero))) ∷ []) = 2 ∷ 4 ∷ 1 ∷ []
table ring = replicas tenant ring

at_ring : (ring : List ℕ) → replicas tenant ring ≡ table ring
unfolding table
at_ring (suc zero ∷ suc (suc zero) ∷ suc (suc (suc zero)) ∷ []) = of_three
at_ring (suc zero ∷ suc (suc zero) ∷ suc (suc (suc zero)) ∷ suc (suc (suc (suc zero))) ∷ []) = of_four
at_ring ring = refl

pub table_is : replicas tenant ≡ table
table_is = λ i ring. at_ring ring i
