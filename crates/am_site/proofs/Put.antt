-- Items that are put to an instance: what its node accepts is what it accepts, and then an Ack goes out.
use Rattle.std.proofs.Common.{arith, ◌≡◌, ℕ, ◌==◌, true, false, List, Some, IfErr, Result, Ok, Err, ap, refl, ◌∙◌}
use Rattle.std.proofs.lemmas.Bool.Decides.{nat_tests}
use Rattle.am_cluster.specs.Accepting.{accepted}
use Rattle.am_cluster.specs.Arriving.{take_put}
use Rattle.am_cluster.specs.Here.{Here}
use Rattle.am_cluster.specs.Local.{Local}
use Rattle.am_cluster.specs.Messages.{Ack}
use Rattle.am_cluster.specs.Reactions.{Reaction, stays, ◌>>◌}
use Rattle.am_cluster.specs.Sending.{send_in}
use Rattle.am_context.proofs.Changes.{one_changes, other, own}
use Rattle.am_current.specs.Current.{configuration_in}
use Rattle.am_item.specs.Best.{all_joined}
use Rattle.am_item.specs.Counts.{count_of}
use Rattle.am_item.specs.declared.fault.Fault.{Fault}
use Rattle.am_item.specs.declared.fault.Fault.TheVariants.{OutOfMemory, CountsExhausted, PatternNotBuilt, StoreRefused}
use Rattle.am_item.specs.declared.item.Item.{Item}
use Rattle.am_muting.specs.Muting.{alert_sets}
use Rattle.am_node.specs.Accepting.{accepted as accepted_in_node}
use Rattle.am_node.specs.Held.{Makes as NodeMakes, local_of as local_in_node}
use Rattle.am_node.specs.Local.{Local as NodeLocal}
use Rattle.am_node.specs.declared.parts.Parts.{Parts}
use Rattle.am_notifier.specs.Following.{all_came, sinces_in}
use Rattle.am_notifier.proofs.ByRoutes.{sinces_planned}
use Rattle.am_quorum.specs.Dockets.{Docket, docket_of}
use Rattle.am_replica.specs.Storing.{fault_in}
use Rattle.am_transfer.specs.Peers.{Peer}
use Rattle.am_transfer.specs.Settling.{Settling}
use Rattle.am_transfer.specs.Tenants.{settling_of}
use Rattle.am_site.specs.Here.{here_of}
use Rattle.am_site.specs.Locals.{from_rooms, local_of}
use Rattle.am_site.specs.Putting.{StopsPutting}
use Rattle.am_site.specs.declared.here.Here.{Here as Given}
use Rattle.am_site.specs.Reacting.{Does, Keeps, Makes, Reacts, StopsReacting}
use Rattle.am_site.specs.declared.said.Said.{Said as Spoken}
use Rattle.am_site.specs.declared.site.Site.{Site}
use Rattle.am_site.proofs.Carrying.{with_node}
use Rattle.am_site.proofs.Reacting.{in_turn_reacts, quiet, reacts_from, stops_from, stops_second}

-- ---- what is accepted

accepted_rooms : (moment : ℕ) (items : List Item) (node : NodeLocal) (d : Docket) (n : ℕ) (g : Settling)
    → from_rooms (accepted_in_node moment items node) d n g ≡ accepted moment items (from_rooms node d n g)
unfolding accepted accepted_in_node
accepted_rooms moment items node d n g =
    ap (λ sinces. let l : Local = record (from_rooms (accepted_in_node moment items node) d n g) { sinces = sinces } in l)
    (sinces_planned (configuration_in (all_joined node.held items)) (all_came moment (alert_sets items) (sinces_in node.plan)))

pub accepts : (tenant : List ℕ) (moment : ℕ) (items : List Item) (old : Site) (node : Parts) → NodeMakes tenant (accepted_in_node moment items) old.node node
    → Makes tenant (accepted moment items) old (with_node old node)
unfolding local_of
accepts tenant moment items old node makes =
    let d = docket_of tenant old.operations in
    let n = count_of tenant old.sent in
    let g = settling_of tenant old.settling.progress in
    one_changes tenant (accepted moment items) (λ t. local_of t old) (λ t. local_of t (with_node old node))
    (ap (λ here. from_rooms here d n g) (own tenant _ _ _ (makes tenant)) ∙ accepted_rooms moment items (local_in_node tenant old.node) d n g)
    (λ t apart. ap (λ here. from_rooms here (docket_of t old.operations) (count_of t old.sent) (settling_of t old.settling.progress)) (other t tenant _ _ _ apart (makes t)))

-- ---- and what goes out

module _ (tenant : List ℕ) (here : Here) (sender : Peer) (operation : ℕ) (items : List Item) (old mid : Site)
    (makes : Makes tenant (accepted here.moment items) old mid) (kept : Keeps old mid) where
  abbrev accepting : Local → Reaction
  accepting l = stays (accepted here.moment items l)

  accepts_alone : Does tenant accepting old mid
  accepts_alone = record { local = makes; said = refl; fits = refl; keeps = kept }

  abbrev acks : Local → Reaction
  acks = send_in here.epoch here sender.instance (Ack operation sender.incarnation)

  without_ack : (l : Local) → (operation == 0) ≡ true → accepting l ≡ take_put here sender operation items l
  without_ack l e = rw e refl

  with_ack : (l : Local) → (operation == 0) ≡ false → (accepting >> acks) l ≡ take_put here sender operation items l
  with_ack l e = rw e refl

  pub wants_none : (x : List Spoken) → (operation == 0) ≡ true → Reacts tenant (take_put here sender operation items) old mid x x
  wants_none x e =
      reacts_from tenant accepting (take_put here sender operation items) old (without_ack (local_of tenant old) e) mid x x
      (quiet tenant accepting old mid x accepts_alone)

  pub gets_ack : (new : Site) (x y : List Spoken) → (operation == 0) ≡ false → Reacts tenant acks mid new x y
      → Reacts tenant (take_put here sender operation items) old new x y
  gets_ack new x y e sent =
      reacts_from tenant (accepting >> acks) (take_put here sender operation items) old (with_ack (local_of tenant old) e) new x y
      (in_turn_reacts tenant accepting acks old mid x x new y (quiet tenant accepting old mid x accepts_alone) sent)

  pub stops_acking : (x : List Spoken) → (operation == 0) ≡ false → (fault : Fault) → StopsReacting tenant acks mid fault
      → StopsReacting tenant (take_put here sender operation items) old fault
  stops_acking x e fault stops =
      stops_from tenant (accepting >> acks) (take_put here sender operation items) old (with_ack (local_of tenant old) e) fault
      (stops_second tenant accepting acks old mid x x fault (quiet tenant accepting old mid x accepts_alone) stops)

-- no store is asked where an instance sends
pub never_sending : {X : Type 0} (r : Result X Fault) (tenant : List ℕ) (react : Local → Reaction) (site : Site) → IfErr r (StopsReacting tenant react site)
    → fault_in r ≡ Some StoreRefused → ⊥
never_sending (Ok x) tenant react site stops is = let clash = is in cc
never_sending (Err OutOfMemory) tenant react site stops is = let clash = is in cc
never_sending (Err CountsExhausted) tenant react site stops is = let clash = is in cc
never_sending (Err PatternNotBuilt) tenant react site stops is = let clash = is in cc
never_sending (Err StoreRefused) tenant react site stops is = stops

-- why it stops that way
pub stops_put : (refused : List (List ℕ)) (given : Given) (sender : Peer) (operation : ℕ) (items : List Item) (site : Site) (fault : Fault)
    → StopsReacting given.tenant.now (take_put (here_of given) sender operation items) site fault
    → StopsPutting refused given sender operation items site fault
stops_put refused given sender operation items site OutOfMemory stops = tt
stops_put refused given sender operation items site CountsExhausted stops = stops
stops_put refused given sender operation items site PatternNotBuilt stops = absurd stops
stops_put refused given sender operation items site StoreRefused stops = absurd stops

pub eq_zero : (n : ℕ) → n ≡ 0 → (n == 0) ≡ true
eq_zero n is = grind (arith, nat_tests)

pub ne_zero : (n : ℕ) → (n ≡ 0 → ⊥) → (n == 0) ≡ false
ne_zero n is = grind (arith, nat_tests)
