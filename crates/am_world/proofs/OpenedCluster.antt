-- A tenant's cluster as its instances open their stores, one after the other.
use Rattle.std.proofs.Common.{◌≡◌, ◌∙◌, ℕ, Bool, true, false, not, List, [], ◌∷◌, ap, refl, sym}
use Rattle.std.proofs.Common.{◌||◌, if◌then◌else◌}
use Rattle.std.specs.Prelude.{◌==◌, ◌||◌}
use Rattle.std.proofs.lemmas.Bool.{and_parts, eqb-true, false≢true}
use Rattle.am_item.specs.declared.item.Item.{Item}
use Rattle.am_ring.specs.Instances.{all_differ, is_among}
use Rattle.am_ring.specs.Replicas.{replicas}
use Rattle.am_cluster.specs.Here.{Here}
use Rattle.am_cluster.specs.Local.{Local, blank}
use Rattle.am_setup.specs.Setup.{Origin}
use Rattle.am_cluster.specs.PrivateCluster.{PrivateCluster, here_at, opened, unopened, with_all_opened, with_opened}
use Rattle.am_cluster.specs.RingChanges.{opened as opened_with}

-- ---- what stays

pub record IsSameBesideStores (p q : PrivateCluster) : Type 0 where
  pub tenant : q.tenant ≡ p.tenant
  pub replicas_by : q.replicas_by ≡ p.replicas_by
  pub service_key : q.service_key ≡ p.service_key
  pub clock : q.clock ≡ p.clock
  pub limits : q.limits ≡ p.limits
  pub roster : q.roster ≡ p.roster
  pub sent : q.sent ≡ p.sent

all_same : (is : List ℕ) (p : PrivateCluster) → IsSameBesideStores p (with_all_opened is p)
all_same [] p = record {
  tenant = refl;
  replicas_by = refl;
  service_key = refl;
  clock = refl;
  limits = refl;
  roster = refl;
  sent = refl;
}
all_same (i ∷ is) p =
    let same : IsSameBesideStores (with_opened i p) (with_all_opened is (with_opened i p)) =
    all_same is (with_opened i p) in
    record {
      tenant = same.tenant;
      replicas_by = same.replicas_by;
      service_key = same.service_key;
      clock = same.clock;
      limits = same.limits;
      roster = same.roster;
      sent = same.sent;
    }

-- ---- what each instance has

-- what an instance has once it opened its store
abbrev pub has_opened : PrivateCluster → ℕ → Local
has_opened p j = opened_with (here_at p p.clock j) (p.rows j)

-- .. which goes by nothing that another one has
here_still : (p : PrivateCluster) (i j : ℕ) → here_at (with_opened i p) p.clock j ≡ here_at p p.clock j
unfolding here_at
here_still p i j = refl

one_opened : (i : ℕ) (is : List ℕ) (p : PrivateCluster) (j : ℕ) (same among : Bool)
    → (j == i) ≡ same → is_among j is ≡ among → (same ≡ true → among ≡ false)
    → (if among then has_opened (with_opened i p) j else (with_opened i p).at j)
    ≡ (if same || among then has_opened p j else p.at j)
one_opened i is p j true true e a once = absurd (false≢true (sym (once refl)))
one_opened i is p j true false e a once =
    let is : j ≡ i = eqb-true j i e in
    rw e (ap (λ k. has_opened p k) (sym is))
one_opened i is p j false true e a once =
    rw e (ap (λ (here : Here). opened_with here (p.rows j)) (here_still p i j))
one_opened i is p j false false e a once = rw e refl

-- those in the list open their stores with the rows that they have, where none stands in it twice
all_opened : (is : List ℕ) (p : PrivateCluster) (j : ℕ) → all_differ is ≡ true
    → (with_all_opened is p).at j ≡ (if is_among j is then has_opened p j else p.at j)
all_opened [] p j differ = refl
all_opened (i ∷ is) p j differ =
    let parts = and_parts (not (is_among i is)) (all_differ is) differ in
    all_opened is (with_opened i p) j parts.1
    ∙ one_opened i is p j (j == i) (is_among j is) refl refl (λ same. once parts.0 (eqb-true j i same))
  where
    denied : (b : Bool) → not b ≡ true → b ≡ false
    denied true e = absurd (false≢true e)
    denied false e = refl

    once : not (is_among i is) ≡ true → j ≡ i → is_among j is ≡ false
    once e same = ap (λ k. is_among k is) same ∙ denied (is_among i is) e

-- .. and of the others the rows stay
left_out : (b c : Bool) → (b || c) ≡ false → (b ≡ false) × (c ≡ false)
left_out true c e = absurd (false≢true (sym e))
left_out false c e = (refl, e)

all_rows : (is : List ℕ) (p : PrivateCluster) (j : ℕ) → is_among j is ≡ false
    → (with_all_opened is p).rows j ≡ p.rows j
all_rows [] p j out = refl
all_rows (i ∷ is) p j out =
    let parts = left_out (j == i) (is_among j is) out in
    all_rows is (with_opened i p) j parts.1 ∙ rw parts.0 refl

-- ---- the cluster as it is opened

module _ (origin : Origin) (t : List ℕ) (rows : ℕ → List Item) where
  pub opened_same : IsSameBesideStores (unopened (replicas t) origin t rows) (opened origin t rows)
  opened_same = all_same origin.ring (unopened (replicas t) origin t rows)

  pub opened_rows : (j : ℕ) → is_among j origin.ring ≡ false → (opened origin t rows).rows j ≡ rows j
  opened_rows j out = all_rows origin.ring (unopened (replicas t) origin t rows) j out

  pub opened_at : (j : ℕ) → all_differ origin.ring ≡ true → (opened origin t rows).at j
      ≡ (if is_among j origin.ring then has_opened (unopened (replicas t) origin t rows) j else blank)
  opened_at j differ = all_opened origin.ring (unopened (replicas t) origin t rows) j differ
