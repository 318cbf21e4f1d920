-- What an instance goes by for a tenant where something happens.
use Rattle.std.specs.Prelude.{ℕ, Bool, ◌≡◌, ◌&&◌, ◌==◌, List, map}
use Rattle.am_cluster.specs.Here.{Here}
use Rattle.am_cluster.specs.Rings.{Rings, is_always_replica, ring_at}
use Rattle.am_limit.specs.Books.{Book, limits_of}
use Rattle.am_ring.specs.Instances.{Members}
use Rattle.am_ring.specs.Replicas.{replicas}
use Rattle.am_site.specs.Here.{here_of}
use Rattle.am_site.specs.declared.here.Here.{Here as Given}
use Rattle.am_instance.specs.declared.given.Occasion.{Occasion}
use Rattle.am_instance.specs.declared.instance.Instance.{Instance}

-- what is so of all tenants where something happens: the moment, the key of the service, the limits, the rings so far,
-- the first incarnation, and the present incarnations of the instances in order of number
pub record Circumstances : Type 0 where
  pub moment : ℕ
  pub service_key : List ℕ
  pub limits : Book
  pub rings : List Members
  pub first : ℕ
  pub incarnations : List ℕ

-- .. on an occasion
abbrev pub circumstances : Occasion → Circumstances
circumstances occasion = record {
  moment = occasion.moment;
  service_key = occasion.service_key.now;
  limits = occasion.limits.now;
  rings = occasion.rings.now;
  first = occasion.first;
  incarnations = occasion.incarnations.now;
}

-- the rings so far
abbrev pub rings_on : Circumstances → Rings
rings_on around = map (λ (ring : Members). ring.instances) around.rings

-- the tenant's three replicas in the ring that the instance knows
unfoldable pub three_on : Circumstances → Instance → List ℕ → List ℕ
three_on around x t = replicas t (ring_at x.known (rings_on around))

-- it was never joined or restarted, and was one of the three under every ring that it has known
unfoldable pub has_stayed_on : Circumstances → Instance → List ℕ → Bool
has_stayed_on around x t =
    x.incarnation == around.first && is_always_replica (replicas t) x.known (rings_on around) x.number

-- what it goes by
unfoldable pub here_on : Circumstances → Instance → List ℕ → Here
here_on around x t = record {
  tenant = t;
  instance = x.number;
  incarnation = x.incarnation;
  moment = around.moment;
  limits = limits_of t around.limits;
  epoch = x.known;
  three = three_on around x t;
  stayed = has_stayed_on around x t;
  incarnations = around.incarnations;
}

-- .. as it is handed to what does it
pub record IsGiven (around : Circumstances) (x : Instance) (t : List ℕ) (given : Given) : Type 0 where
  pub here : here_of given ≡ here_on around x t
  pub key : given.service_key.now ≡ around.service_key
