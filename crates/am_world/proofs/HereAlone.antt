-- What an instance goes by for a tenant is what the instance of a private cluster goes by, where they are known to be
-- alike.
use Rattle.std.proofs.Common.{◌≡◌, ℕ, ◌==◌, ◌&&◌, List, map, sym}
use Rattle.am_cluster.specs.PrivateCluster.{PrivateCluster, here_at}
use Rattle.am_cluster.specs.Rings.{is_always_replica, ring_at}
use Rattle.am_cluster.specs.Roster.{has_stayed, three_at}
use Rattle.am_limit.specs.Books.{limits_of}
use Rattle.am_ring.specs.Instances.{all_instances}
use Rattle.am_ring.specs.Replicas.{replicas}
use Rattle.am_instance.specs.Here.{Circumstances, has_stayed_on, here_on, rings_on, three_on}
use Rattle.am_instance.specs.declared.instance.Instance.{Instance}

-- what is so of all tenants is so in the cluster
pub record IsAround (t : List ℕ) (around : Circumstances) (q : PrivateCluster) : Type 0 where
  pub tenant : q.tenant ≡ t
  pub replicas_by : q.replicas_by ≡ replicas t
  pub limits : limits_of t around.limits ≡ q.limits
  pub rings : rings_on around ≡ q.roster.rings
  pub first : around.first ≡ q.roster.first
  pub incarnations : around.incarnations ≡ map q.roster.incarnation all_instances

-- .. and the instance of a number is in the same incarnation, and knows the same ring
pub record IsPlaced (x : Instance) (q : PrivateCluster) (i : ℕ) : Type 0 where
  pub number : x.number ≡ i
  pub incarnation : x.incarnation ≡ q.roster.incarnation i
  pub known : x.known ≡ q.roster.known i

-- the three replicas by the ring that it knows
pub three_alike : (t : List ℕ) (around : Circumstances) (x : Instance) (q : PrivateCluster) (i : ℕ)
    → IsAround t around q → IsPlaced x q i → three_on around x t ≡ three_at q.replicas_by q.roster i
unfolding three_on three_at
three_alike t around x q i a p = λ d. sym a.replicas_by d (ring_at (p.known d) (a.rings d))

pub here_alike : (t : List ℕ) (around : Circumstances) (x : Instance) (q : PrivateCluster) (i : ℕ)
    → IsAround t around q → IsPlaced x q i → here_on around x t ≡ here_at q around.moment i
unfolding here_on here_at three_on has_stayed_on three_at has_stayed
here_alike t around x q i a p = λ d. record {
  tenant = sym a.tenant d;
  instance = p.number d;
  incarnation = p.incarnation d;
  moment = around.moment;
  limits = a.limits d;
  epoch = p.known d;
  three = sym a.replicas_by d (ring_at (p.known d) (a.rings d));
  stayed = p.incarnation d == a.first d
      && is_always_replica (sym a.replicas_by d) (p.known d) (a.rings d) (p.number d);
  incarnations = a.incarnations d;
}
