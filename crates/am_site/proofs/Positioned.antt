-- The position by which groups wait changes nothing else that an instance has.
use Rattle.std.proofs.Common.{◌≡◌, ℕ, ◌==◌, Bool, true, false, List, Option, Some, None, arith, ap, refl, sym, ◌∙◌, if◌then◌else◌}
use Rattle.std.proofs.lemmas.Bool.{false≢true}
use Rattle.std.proofs.lemmas.Bool.Decides.{nat_tests}
use Rattle.am_cluster.specs.Here.{Here, position_here}
use Rattle.am_cluster.specs.Local.{Local, is_settled}
use Rattle.am_cluster.specs.Plans.{position_of}
use Rattle.am_context.proofs.Changes.{other, own}
use Rattle.am_current.specs.Current.{configuration_in}
use Rattle.am_item.specs.Counts.{count_of}
use Rattle.am_item.specs.declared.fault.Fault.{Fault}
use Rattle.am_item.specs.declared.fault.Fault.TheVariants.{OutOfMemory, CountsExhausted, PatternNotBuilt, StoreRefused}
use Rattle.am_node.specs.Accepting.{StopsPositioning, positioned}
use Rattle.am_node.specs.Held.{Makes as NodeMakes, local_of as local_in_node}
use Rattle.am_node.specs.Local.{Local as NodeLocal}
use Rattle.am_node.specs.declared.parts.Parts.{Parts}
use Rattle.am_notifier.specs.Following.{sinces_in}
use Rattle.am_notifier.specs.Positions.{is_same_position}
use Rattle.am_notifier.proofs.ByRoutes.{sinces_planned}
use Rattle.am_quorum.specs.Dockets.{Docket, docket_of}
use Rattle.am_tenant.specs.Names.{same}
use Rattle.am_transfer.specs.Settling.{Settling}
use Rattle.am_transfer.specs.Tenants.{settling_of}
use Rattle.am_site.specs.Here.{here_of}
use Rattle.am_site.specs.InOrder.{IsAtPosition, StopsMoving}
use Rattle.am_site.specs.Locals.{from_rooms, local_of}
use Rattle.am_site.specs.declared.here.Here.{Here as Given}
use Rattle.am_site.specs.declared.site.Site.{Site}
use Rattle.am_site.proofs.Carrying.{with_node}

positioned_rooms : (p : Option ℕ) (node : NodeLocal) (d : Docket) (n : ℕ) (g : Settling) → from_rooms (positioned p node) d n g ≡ from_rooms node d n g
positioned_rooms p node d n g =
    ap (λ sinces. let l : Local = record (from_rooms node d n g) { sinces = sinces } in l) (sinces_planned (configuration_in node.held) (sinces_in node.plan))

pub all_stay : (tenant : List ℕ) (p : Option ℕ) (old : Site) (node : Parts) → NodeMakes tenant (positioned p) old.node node
    → (t : List ℕ) → local_of t (with_node old node) ≡ local_of t old
unfolding local_of
all_stay tenant p old node makes t =
    by (same t tenant) (makes t)
  where
    by : (b : Bool) → local_in_node t node ≡ (if b then positioned p (local_in_node t old.node) else local_in_node t old.node)
        → local_of t (with_node old node) ≡ local_of t old
    by true is =
        ap (λ here. from_rooms here (docket_of t old.operations) (count_of t old.sent) (settling_of t old.settling.progress)) is
        ∙ positioned_rooms p (local_in_node t old.node) (docket_of t old.operations) (count_of t old.sent) (settling_of t old.settling.progress)
    by false is = ap (λ here. from_rooms here (docket_of t old.operations) (count_of t old.sent) (settling_of t old.settling.progress)) is

pub one_positioned : (tenant : List ℕ) (p : Option ℕ) (old node : Parts) → NodeMakes tenant (positioned p) old node → (local_in_node tenant node).position ≡ p
one_positioned tenant p old node makes = ap (λ (l : NodeLocal). l.position) (own tenant _ _ _ (makes tenant))

pub others_positioned : (tenant : List ℕ) (p : Option ℕ) (old node : Parts) → NodeMakes tenant (positioned p) old node
    → (t : List ℕ) → same t tenant ≡ false → (local_in_node t node).position ≡ (local_in_node t old).position
others_positioned tenant p old node makes t apart = ap (λ (l : NodeLocal). l.position) (other t tenant _ _ _ apart (makes t))

-- what is the same position is one
pub one_position : (a b : Option ℕ) → is_same_position a b ≡ true → a ≡ b
one_position None None is = refl
one_position None (Some b) is = absurd (false≢true is)
one_position (Some a) None is = absurd (false≢true is)
one_position (Some a) (Some b) is = ap Some (equal a b is)
  where
    equal : (a b : ℕ) → (a == b) ≡ true → a ≡ b
    equal a b h = grind (arith, nat_tests)

-- .. and what isn't, isn't
pub not_there : (a b c : Option ℕ) → is_same_position a b ≡ false → b ≡ c → a ≡ c → ⊥
not_there a b c apart is same = false≢true (sym apart ∙ ap (is_same_position a) (is ∙ sym same) ∙ itself a)
  where
    equal : (n : ℕ) → (n == n) ≡ true
    equal n = grind (arith, nat_tests)

    itself : (a : Option ℕ) → is_same_position a a ≡ true
    itself None = refl
    itself (Some n) = equal n

-- why it stops where it doesn't wait so
pub stops_moving : (refused : List (List ℕ)) (given : Given) (site : Site) (fault : Fault) → (IsAtPosition (here_of given) site → ⊥)
    → StopsPositioning refused (local_in_node given.tenant.now site.node) fault → StopsMoving refused given site fault
stops_moving refused given site OutOfMemory apart stops = tt
stops_moving refused given site CountsExhausted apart stops = stops
stops_moving refused given site PatternNotBuilt apart stops = (apart, stops)
stops_moving refused given site StoreRefused apart stops = stops

-- ---- which it is

pub unsettled : (here : Here) (l : Local) → is_settled here l ≡ false → None ≡ position_of here l
unsettled here l e = rw e refl

pub here_at : (here : Here) (l : Local) (place : ℕ) → is_settled here l ≡ true → Some place ≡ position_here here → Some place ≡ position_of here l
here_at here l place settled at = rw settled at

pub not_here : (here : Here) (l : Local) → is_settled here l ≡ true → None ≡ position_here here → None ≡ position_of here l
not_here here l settled at = rw settled at
