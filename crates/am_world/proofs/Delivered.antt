-- A message that reaches its receiver: what was found under its name, whose store is written, and what is left there.
use Rattle.std.proofs.Common.{◌≡◌, ℕ, Bool, true, false, List, Option, None, Some, option_map, ap, refl, sym, subst}
use Rattle.std.proofs.Common.{◌∙◌, ◌&&◌, arith, inl, inr, nat_eq}
use Rattle.std.specs.Prelude.{◌==◌}
use Rattle.std.proofs.lemmas.Bool.Decides.{nat_tests}
use Rattle.am_cluster.specs.Events.{Deliver}
use Rattle.am_cluster.specs.Moments.{effective}
use Rattle.am_item.specs.declared.fault.Fault.{Fault}
use Rattle.am_item.specs.declared.item.Item.{Item}
use Rattle.am_messages.specs.Posted.{posted_at}
use Rattle.am_messages.specs.declared.messages.Posted.{Posted}
use Rattle.am_messages.specs.declared.name.MessageName.{MessageName}
use Rattle.am_instance.specs.Leaving.{LeavesShelf}
use Rattle.am_instance.specs.Receiving.{brought_on}
use Rattle.am_instance.specs.Shelves.{Shelf}
use Rattle.am_instance.specs.declared.instance.Instance.{Instance}
use Rattle.am_instance.specs.Site.{IsRejected, with_brought}
use Rattle.am_wire.specs.declared.message.Message.{Message}
use Rattle.am_world.specs.Consistent.{around_at}
use Rattle.am_world.specs.Leaving.{RejectedBy, stored_after, stored_of, writes}
use Rattle.am_item.specs.declared.fault.Fault.TheVariants.{OutOfMemory, StoreRefused}
use Rattle.std.proofs.lemmas.Bool.{and_parts, cases_Bool}
use Rattle.am_instance.specs.Instance.{ReadsOn, refused_in}
use Rattle.am_instance.specs.Leaving.{stop_for}
use Rattle.am_instance.specs.Receiving.{StopsReceiving}
use Rattle.am_world.proofs.Placed.{also_there}
use Rattle.am_world.proofs.Shelved.{stop_down}
use Rattle.am_world.specs.Leaving.{stop_at}
use Rattle.am_world.specs.Simulation.{refused_by}
use Rattle.am_world.specs.Stopping.{StopsBy}
use Rattle.am_world.specs.Turning.{IsStopped}
use Rattle.am_world.specs.Places.{AreNumbered, ChangesAt, Turns, cause_at, instance_at, refused_at, refused_where, up_at, up_where}
use Rattle.am_world.specs.Posting.{AreFiled}
use Rattle.am_world.specs.Stopping.{works}
use Rattle.am_world.specs.declared.state.State.{State}

-- ---- what is found

pub found_posted : (o : Option Posted) (m : Message) → Some m ≡ option_map (λ (p : Posted). p.message) o
    → (there : Posted) × (o ≡ Some there) × (there.message ≡ m)
found_posted None m is = absurd (let clash = is in cc)
found_posted (Some there) m is = (there, refl, let same = sym is in cc)

pub none_posted : (o : Option Posted) → None ≡ option_map (λ (p : Posted). p.message) o → o ≡ None
none_posted None is = refl
none_posted (Some there) is = absurd (let clash = is in cc)

-- ---- its receiver, which has this number and is up

module _ (w : State) (name : MessageName) (moment n : ℕ) (there : Posted) (found : posted_at name w.messages ≡ Some there)
    (filed : AreFiled w.messages) (to : n ≡ there.message.to) (up : up_at n w.instances ≡ true) where
  receiver : n ≡ name.to
  receiver = to ∙ ap (λ (k : MessageName). k.to) (filed name there found)

  -- of it alone work is asked
  pub works_alone : (j : ℕ) → works w (Deliver name moment) j ≡ (j == n)
  works_alone j = elim (cases_Bool (nat_eq j n)) [
    | inl h ↦
        let here : n ≡ j = grind (arith, nat_tests) in
        let same : nat_eq j name.to ≡ true = grind (arith, nat_tests, receiver) in
        rw (h, same) (ap (λ k. up_at k w.instances) (sym here) ∙ up)
    | inr h ↦ let other : nat_eq j name.to ≡ false = grind (arith, nat_tests, receiver) in rw (h, other) refl
  ]

  pub writes_there : writes w (Deliver name moment) n ≡ true
  writes_there = let same : nat_eq n name.to ≡ true = grind (arith, nat_tests, receiver) in rw (same, up) refl

  pub writes_only : (j : ℕ) → (j == n) ≡ false → writes w (Deliver name moment) j ≡ false
  writes_only j apart = let other : nat_eq j name.to ≡ false = grind (arith, nat_tests, receiver) in rw other refl

-- ---- what is left in its store

-- what is left there by a receipt at a moment
abbrev LeavesReceived : (Rejects : List ℕ → List Item → Type 0) (w : State) (n : ℕ) (x : Instance) (m : Message) (fault : Option Fault)
    (old new : Shelf) → (moment : ℕ) → Type 0
LeavesReceived Rejects w n x m fault old new moment =
    LeavesShelf (stored_of w n)
    (with_brought (brought_on (around_at moment w) x m) m.tenant moment (stored_of w n))
    (IsRejected Rejects m.tenant (brought_on (around_at moment w) x m)) fault old new

pub left_delivered : (Rejects : List ℕ → List Item → Type 0) (w : State) (name : MessageName) (moment n at : ℕ) (there : Posted)
    (x : Instance) (m : Message) (fault stop : Option Fault) (old new : Shelf) → at ≡ effective moment w.clock
    → posted_at name w.messages ≡ Some there → there.message ≡ m → instance_at n w.instances ≡ Some x → fault ≡ stop
    → LeavesReceived Rejects w n x m fault old new at
    → LeavesShelf (stored_of w n) (stored_after w (Deliver name moment) n) (RejectedBy Rejects w (Deliver name moment) n)
    stop old new
left_delivered Rejects w name moment n at there x m fault stop old new then found same here is left =
    let own : LeavesReceived Rejects w n x m fault old new (effective moment w.clock) =
    subst (LeavesReceived Rejects w n x m fault old new) then left in
    rw (found, here, same, ← is) own

-- ---- who writes, and for which fault an instance stopped

pub writes_up : (w : State) (name : MessageName) (moment : ℕ) (i : ℕ) → writes w (Deliver name moment) i ≡ true → up_at i w.instances ≡ true
writes_up w name moment i is = (and_parts (nat_eq i name.to) (up_at i w.instances) is).1

pub writes_none : (w : State) (name : MessageName) (moment i : ℕ) → up_at i w.instances ≡ false
    → writes w (Deliver name moment) i ≡ false
writes_none w name moment i down = rw down (by_name (nat_eq i name.to))
  where
    by_name : (b : Bool) → (b && false) ≡ false
    by_name true = refl
    by_name false = refl

-- one that is up is there
pub exists_up : (i : ℕ) (xs : List Instance) → up_at i xs ≡ true → (x : Instance) × (instance_at i xs ≡ Some x)
unfolding up_at
exists_up i xs up = by (instance_at i xs) refl up
  where
    by : (o : Option Instance) → instance_at i xs ≡ o → up_where o ≡ true → (x : Instance) × (instance_at i xs ≡ Some x)
    by None here is = absurd (let clash = is in cc)
    by (Some x) here is = (x, here)

-- one that was stopped is down, for the fault that is told
pub received_down : (n : ℕ) (mid w' : State) (fault : Fault) → AreNumbered mid.instances
    → ((y : Instance) × (instance_at n mid.instances ≡ Some y)) → IsStopped n fault mid w' → Some fault ≡ stop_at n w'.instances
unfolding up_at
received_down n mid w' fault numbered y stopped =
    let z = also_there n mid.instances w'.instances numbered stopped.others.numbered y.0 y.1 in
    let down : up_at n w'.instances ≡ false = ap up_where z.1 ∙ (stopped.down z.0 z.1).up in
    sym (stop_down n w'.instances down ∙ stopped.cause)

pub stopped_for_memory : (n : ℕ) (w w' : State) → AreNumbered w.instances → ((y : Instance) × (instance_at n w.instances ≡ Some y))
    → IsStopped n OutOfMemory w w' → stop_at n w'.instances ≡ Some StoreRefused → ⊥
stopped_for_memory n w w' numbered y stopped refused =
    let clash = received_down n w w' OutOfMemory numbered y stopped ∙ refused in cc

-- one that goes on stopped for none
pub received_up : (n : ℕ) (w w' : State) → AreNumbered w.instances → (x : Instance) → instance_at n w.instances ≡ Some x
    → up_at n w.instances ≡ true → ChangesAt n w.instances w'.instances → Turns n ReadsOn w.instances w'.instances
    → None ≡ stop_at n w'.instances
unfolding up_at
received_up n w w' numbered x here up changes stays =
    let y = also_there n w.instances w'.instances numbered changes.numbered x here in
    let still : up_at n w'.instances ≡ true = ap up_where y.1 ∙ (stays x y.0 here y.1).goes.up ∙ sym (ap up_where here) ∙ up in
    sym (ap (λ b. stop_for b (cause_at n w'.instances)) still)

-- why it stopped
pub stops_delivered : (w mid w' : State) (name : MessageName) (moment n : ℕ) (there : Posted) (fault : Fault)
    → posted_at name w.messages ≡ Some there → AreNumbered w.instances → ChangesAt n w.instances mid.instances
    → IsStopped n fault mid w'
    → Turns n (λ x x'. StopsReceiving (refused_in x) (refused_in x') (around_at (effective moment w.clock) w) there.message x fault)
    w.instances mid.instances
    → (shelves : List Shelf) → StopsBy w shelves (Deliver name moment) n fault (refused_by w' n)
unfolding refused_at
stops_delivered w mid w' name moment n there fault found numbered changes stopped cause shelves posted is x here =
    let y = also_there n w.instances mid.instances numbered changes.numbered x here in
    let z = also_there n mid.instances w'.instances changes.numbered stopped.others.numbered y.0 y.1 in
    let around = around_at (effective moment w.clock) w in
    let one : there ≡ posted = let same = sym found ∙ is in cc in
    let before : refused_in x ≡ refused_by w n = sym (ap refused_where here) in
    let after : refused_in y.0 ≡ refused_by w' n = sym (ap refused_where z.1 ∙ (stopped.stays y.0 z.0 y.1 z.1).1) in
    subst (λ b. StopsReceiving b (refused_by w' n) around posted.message x fault) before
    (subst (λ r. StopsReceiving (refused_in x) r around posted.message x fault) after
    (subst (λ (p : Posted). StopsReceiving (refused_in x) (refused_in y.0) around p.message x fault) one
    (cause x y.0 here y.1)))
