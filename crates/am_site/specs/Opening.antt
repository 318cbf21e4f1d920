-- What the opening of a store makes of an instance of several, and of the store.
use Rattle.std.specs.Prelude.{◌≡◌, ◌⊎◌, ℕ, false, List, [], Some, if◌then◌else◌}
use Rattle.std.specs.List.{list_any}
use Rattle.am_cluster.specs.Here.{Here}
use Rattle.am_cluster.specs.Local.{blank}
use Rattle.am_cluster.specs.RingChanges.{opened}
use Rattle.am_item.specs.declared.item.Item.{Item}
use Rattle.am_ring.specs.Replicas.{is_replica, replicas}
use Rattle.am_rows.specs.Rows.{rows_of}
use Rattle.am_tenant.specs.Names.{same}
use Rattle.am_site.specs.Locals.{local_of}
use Rattle.am_site.specs.Reacting.{position_in}
use Rattle.am_site.specs.declared.site.Site.{Site}

-- of each tenant it has what an instance of a private cluster has that is opened at this moment with the tenant's rows
abbrev pub AreOpened : (ring : List ℕ) → (instance moment : ℕ) → List (List ℕ × Item) → Site → Type 0
AreOpened ring instance moment pairs site =
    (here : Here) → here.instance ≡ instance → here.moment ≡ moment → here.three ≡ replicas here.tenant ring
    → local_of here.tenant site ≡ opened here (rows_of here.tenant pairs)

-- no alert is held of any tenant, and the groups of one would wait by the first position; and nothing is had of any but
-- these
pub record BeginsWith (names : List (List ℕ)) (site : Site) : Type 0 where
  pub sinces : (t : List ℕ) → (local_of t site).sinces ≡ []
  pub positions : (t : List ℕ) → position_in t site ≡ Some 0
  pub others : (t : List ℕ) → list_any (same t) names ≡ false → local_of t site ≡ blank

-- all but what it holds and has planned is as it was
pub record KeepsRest (old new : Site) : Type 0 where
  pub operations : new.operations ≡ old.operations
  pub settling : new.settling ≡ old.settling

-- ---- the rows

-- of the rows of a tenant those that an instance keeps: all where it is a replica in the ring, else none
abbrev pub own_rows : (ring : List ℕ) → (instance : ℕ) → List ℕ → List Item → List Item
own_rows ring instance t rows = if is_replica t ring instance then rows else []

abbrev pub KeepsOwn : (ring : List ℕ) → (instance : ℕ) → (old new : List (List ℕ × Item)) → Type 0
KeepsOwn ring instance old new = (t : List ℕ) → rows_of t new ≡ own_rows ring instance t (rows_of t old)

-- the rows of each tenant are those of before, or of these what an instance keeps
abbrev pub MayKeepOwn : (ring : List ℕ) → (instance : ℕ) → (old new : List (List ℕ × Item)) → Type 0
MayKeepOwn ring instance old new =
    (t : List ℕ) → (rows_of t new ≡ rows_of t old) ⊎ (rows_of t new ≡ own_rows ring instance t (rows_of t old))

-- .. of these tenants, and all of any other
abbrev pub KeepsOwnAmong : List (List ℕ) → (ring : List ℕ) → (instance : ℕ) → (old new : List (List ℕ × Item)) → Type 0
KeepsOwnAmong names ring instance old new =
    (t : List ℕ) → rows_of t new
    ≡ (if list_any (same t) names then own_rows ring instance t (rows_of t old) else rows_of t old)
