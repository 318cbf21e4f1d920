-- What stands at the place of an instance.
use Rattle.std.specs.Prelude.{◌≡◌, ℕ, ◌==◌, ◌&&◌, Bool, false, List, [], map, find, Option, None, Some, IsSome}
use Rattle.std.specs.Prelude.{option_map}
use Rattle.am_cluster.specs.Delivery.{is_awaited}
use Rattle.am_cluster.specs.Local.{Local, blank}
use Rattle.am_event.specs.declared.output.AttemptName.{AttemptName}
use Rattle.am_item.specs.declared.fault.Fault.{Fault}
use Rattle.am_match.specs.Checking.{AreRefusedRightly}
use Rattle.am_ring.specs.Instances.{all_instances}
use Rattle.am_instance.specs.Instance.{HasMore, bytes_in, local_in, reads, refused_in}
use Rattle.am_instance.specs.declared.instance.Instance.{Instance}

-- all eight instances, in order of number
abbrev pub AreNumbered : List Instance → Type 0
AreNumbered instances = map (λ (x : Instance). x.number) instances ≡ all_instances

-- the instance of a number
unfoldable pub instance_at : ℕ → List Instance → Option Instance
instance_at i instances = find (λ (x : Instance). x.number == i) instances

-- ---- what is so of one instance

-- this is so of the instance of a number
abbrev pub At : ℕ → (Instance → Type 0) → List Instance → Type 0
At i Is instances = (x : Instance) → instance_at i instances ≡ Some x → Is x

-- what the instance of a number was and is are so related
abbrev pub Turns : ℕ → (Instance → Instance → Type 0) → (before after : List Instance) → Type 0
Turns i Are before after =
    (x x' : Instance) → instance_at i before ≡ Some x → instance_at i after ≡ Some x' → Are x x'

-- every other instance is as it was
abbrev pub SameElsewhere : ℕ → (before after : List Instance) → Type 0
SameElsewhere i before after = (j : ℕ) → (j == i) ≡ false → instance_at j after ≡ instance_at j before

-- this is so of each instance
abbrev pub EachIs : (Instance → Type 0) → List Instance → Type 0
EachIs Is instances = (i : ℕ) → At i Is instances

-- ---- what is seen of one

-- all that the instance has of the tenant
abbrev pub local_where : List ℕ → Option Instance → Local
local_where t None = blank
local_where t (Some x) = local_in t x

unfoldable pub local_at : List ℕ → ℕ → List Instance → Local
local_at t i instances = local_where t (instance_at i instances)

-- the bytes so far of a connection that it reads
abbrev pub bytes_where : ℕ → Option Instance → Option (List ℕ)
bytes_where c None = None
bytes_where c (Some x) = bytes_in c x

unfoldable pub bytes_at : ℕ → ℕ → List Instance → Option (List ℕ)
bytes_at c i instances = bytes_where c (instance_at i instances)

-- the number of the instance that reads the connection
unfoldable pub reader_of : ℕ → List Instance → Option ℕ
reader_of c instances = option_map (λ (x : Instance). x.number) (find (reads c) instances)

-- whether it is up, in which incarnation, and which ring it knows
abbrev pub up_where : Option Instance → Bool
up_where None = false
up_where (Some x) = x.up

unfoldable pub up_at : ℕ → List Instance → Bool
up_at i instances = up_where (instance_at i instances)

abbrev pub incarnation_where : Option Instance → ℕ
incarnation_where None = 0
incarnation_where (Some x) = x.incarnation

unfoldable pub incarnation_at : ℕ → List Instance → ℕ
incarnation_at i instances = incarnation_where (instance_at i instances)

abbrev pub known_where : Option Instance → ℕ
known_where None = 0
known_where (Some x) = x.known

unfoldable pub known_at : ℕ → List Instance → ℕ
known_at i instances = known_where (instance_at i instances)

-- the present incarnations of all instances, in order of number
abbrev pub incarnations_of : List Instance → List ℕ
incarnations_of instances = map (λ (x : Instance). x.incarnation) instances

-- the fault that stopped it
abbrev pub cause_where : Option Instance → Option Fault
cause_where None = None
cause_where (Some x) = x.cause

unfoldable pub cause_at : ℕ → List Instance → Option Fault
cause_at i instances = cause_where (instance_at i instances)

-- the patterns that it was refused the build of
abbrev pub refused_where : Option Instance → List (List ℕ)
refused_where None = []
refused_where (Some x) = refused_in x

unfoldable pub refused_at : ℕ → List Instance → List (List ℕ)
refused_at i instances = refused_where (instance_at i instances)

-- it awaits the outcome of this try of an attempt
unfoldable pub awaits_at : AttemptName → (tries : ℕ) → List Instance → Bool
awaits_at attempt tries instances =
    up_at attempt.instance instances && (incarnation_at attempt.instance instances == attempt.incarnation
    && is_awaited attempt.number tries (local_at attempt.tenant attempt.instance instances))

-- ---- what is refused a build

-- no instance forgets such a pattern
abbrev pub KeepRefused : (before after : List Instance) → Type 0
KeepRefused before after = (i : ℕ) → HasMore (refused_at i before) (refused_at i after)

-- no pattern among these texts was refused a build, where each instance was refused these
abbrev pub AreBuilt : (ℕ → List (List ℕ)) → List (List ℕ) → Type 0
AreBuilt refused texts = (i : ℕ) → AreRefusedRightly (refused i) texts

-- ---- connections

-- at most one instance reads the connection
abbrev pub IsReadOnce : ℕ → List Instance → Type 0
IsReadOnce c instances = (i j : ℕ) → IsSome (bytes_at c i instances) → IsSome (bytes_at c j instances) → i ≡ j

-- ---- what changes

-- no other instance changed than the one of a number
pub record ChangesAt (i : ℕ) (before after : List Instance) : Type 0 where
  pub numbered : AreNumbered after
  pub others : SameElsewhere i before after
