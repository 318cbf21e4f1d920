use Rattle.std.proofs.Common.{◌≡◌, ◌∙◌, ◌<◌, Err, IsTrue, None, Option, Some, ap, arith, get_or, inl, inr, is_some}
use Rattle.std.proofs.Common.{length, map, refl, slice_set, subst, sym}
use Rattle.std.proofs.lemmas.List.{length-map}
use Rattle.std.proofs.lemmas.Option.{slice_get-get_or}
use Rattle.am_cluster.specs.Events.{Leave}
use Rattle.am_cluster.specs.Refused.{Refused}
use Rattle.am_cluster.specs.Roster.{Leaves}
use Rattle.am_ring.proofs.Numbers.{made}
use Rattle.am_ring.specs.Changes.{leave_refusal, without}
use Rattle.am_ring.specs.Instances.{Members, is_instance}
use Rattle.am_instance.specs.Changing.{StopsLeaving}
use Rattle.am_instance.specs.Shelves.{shelf_of}
use Rattle.am_world.specs.Changing.{Ends}
use Rattle.am_world.specs.Consistent.{around, newest_in, over}
use Rattle.am_world.specs.Leaving.{LeavesShelves}
use Rattle.am_world.specs.Places.{ChangesAt, incarnations_of}
use Rattle.am_world.specs.Simulation.{IsSameBeside, roster_of}
use Rattle.am_world.specs.Stopping.{Step}
use Rattle.am_world.specs.declared.common.Common.{Common}
use Rattle.am_world.specs.declared.state.State.{State}
use Rattle.am_world.proofs.AlonePlaces.{up_here}
use Rattle.am_world.proofs.ComesUp.{ends_stopped}
use Rattle.am_world.proofs.FaultedRing.{Begins, faulted_alone, faulted_one}
use Rattle.am_world.proofs.InstancesLemmas.{at_here}
use Rattle.am_world.proofs.KeptCrash.{GoesDown, causeless, goes_down, off_then}
use Rattle.am_world.proofs.KeptLeave.{asks_leave, but_changed, kept_leave, leave_refused, leave_taken, leaver_is}
use Rattle.am_world.proofs.KeptLeave.{leaving, left_of_store, left_turned, left_untouched, not_turned, off_at}
use Rattle.am_world.proofs.KeptLeave.{rings_left, turned_up, turns_other}
use Rattle.am_world.proofs.KeptRefusedRing.{step_refused}
use Rattle.am_world.proofs.NotRefused.{taken}
use Rattle.am_world.proofs.Placed.{also_there, there}
use Rattle.am_world.proofs.Rostered.{begun_with, consistent_again, named_by, pushed, rings_some, unpushed}
use Rattle.am_world.proofs.RunPlaces.{elsewhere_then}
use Rattle.am_world.proofs.Shelved.{backed_but_put, backed_there, cleaner_put, shelf_is, shelf_other, shelf_put}
use Rattle.am_world.proofs.Shelved.{turned_put}
use Rattle.am_world.proofs.Stopped.{backed_stopped, consistent_stopped, exists_at}
use Rattle.am_world.proofs.state.State.on_leave.Goals as goal

pub newest-requires : goal.newest-requires
newest-requires g c = rings_some c.args.self.now c.requires.consistent

-- ---- the ring refuses it

pub returns-in-Err-clause-step : goal.returns-in-Err-clause-step
returns-in-Err-clause-step g c =
    let w = c.args.self.now in
    let i = c.args.instance in
    let is : leave_refusal i (newest_in w.common) ≡ Some c.in-Err.refusal =
    rw c.newest.ensures at c.in-Err.ensures.refusal in
    step_refused w (Leaves i) (ap (λ (o : Option Refused). is_some o) (leave_refused w i c.in-Err.refusal is))
    (map (shelf_of g.R.Rows) c.args.stores.now)

pub returns-in-Err-clause-refused : goal.returns-in-Err-clause-refused
returns-in-Err-clause-refused g c =
    let w = c.args.self.now in
    let i = c.args.instance in
    let is : leave_refusal i (newest_in w.common) ≡ Some c.in-Err.refusal =
    rw c.newest.ensures at c.in-Err.ensures.refusal in
    rw (leave_refused w i c.in-Err.refusal is) (ap Err c.by_ring.ensures)

pub returns-in-Err-clause-left : goal.returns-in-Err-clause-left
returns-in-Err-clause-left g c =
    let w = c.args.self.now in
    let i = c.args.instance in
    left_untouched g.R.Rows.rejects w w i (map (shelf_of g.R.Rows) c.args.stores.now) refl

-- ---- no memory for the ring

pub unwrap-number-requires : goal.unwrap-number-requires
unwrap-number-requires g c =
    let w = c.args.self.now in
    let i = c.args.instance in
    let none : leave_refusal i (newest_in w.common) ≡ None = rw c.newest.ensures at c.in_default.ensures.refusal in
    let is = leaver_is i w c.requires.consistent none in
    rw (c.new.ensures, is) refl

pub returns-then-is_err-clause-step : goal.returns-then-is_err-clause-step
returns-then-is_err-clause-step g c =
    let w = c.args.self.now in
    let i = c.args.instance in
    let none : leave_refusal i (newest_in w.common) ≡ None = rw c.newest.ensures at c.in_default.ensures.refusal in
    let failed = sym c.is_err.ensures.value ∙ c.if-is_err.true in
    let same = unpushed c.push.result c.push.new.self.items _ _ c.push.ensures.items failed in
    rw c.count_fault.ensures (record {
      ends = inr (faulted_alone w _ (map (shelf_of g.R.Rows) c.args.stores.now) (Leave i)
          (taken w (Leaves i) (leave_taken w i none)) refl (begun_with w _ refl refl refl) same refl);
      clean = λ j clean. clean;
    })

pub returns-then-is_err-clause-refused : goal.returns-then-is_err-clause-refused
returns-then-is_err-clause-refused g c =
    let w = c.args.self.now in
    let i = c.args.instance in
    let none : leave_refusal i (newest_in w.common) ≡ None = rw c.newest.ensures at c.in_default.ensures.refusal in
    rw (leave_taken w i none) refl

pub returns-then-is_err-clause-consistent : goal.returns-then-is_err-clause-consistent
returns-then-is_err-clause-consistent g c =
    let w = c.args.self.now in
    let i = c.args.instance in
    let failed = sym c.is_err.ensures.value ∙ c.if-is_err.true in
    let same = unpushed c.push.result c.push.new.self.items _ _ c.push.ensures.items failed in
    rw c.count_fault.ensures (consistent_again w _ refl refl refl refl same c.requires.consistent)

pub returns-then-is_err-clause-backed : goal.returns-then-is_err-clause-backed
returns-then-is_err-clause-backed g c =
    let w = c.args.self.now in
    let i = c.args.instance in
    rw c.count_fault.ensures c.requires.backed

pub returns-then-is_err-clause-left : goal.returns-then-is_err-clause-left
returns-then-is_err-clause-left g c =
    let w = c.args.self.now in
    let i = c.args.instance in
    rw c.count_fault.ensures
    (left_untouched g.R.Rows.rejects w _ i (map (shelf_of g.R.Rows) c.args.stores.now) refl)

-- ---- it leaves

pub leave-requires-2-clause-noted : goal.leave-requires-2-clause-noted
leave-requires-2-clause-noted g c =
    λ x found. (c.requires.consistent.whole c.unwrap-number.result x found).noted

pub leave-requires-2-clause-backed : goal.leave-requires-2-clause-backed
leave-requires-2-clause-backed g c =
    let n = c.unwrap-number.result in
    let f = λ (r : g.row.R.Denot). shelf_of g.R.Rows r in
    let stores = c.args.stores.now in
    let size : length stores ≡ 8 = sym (length-map stores f) ∙ c.requires.backed.size in
    let less : c.place.result < length stores = omega (arith, size, c.place.ensures.range) in
    let store = get_or stores c.place.result c.index-stores-place.result in
    let found = slice_get-get_or stores c.place.result c.index-stores-place.result less in
    backed_there f stores c.place.result n c.place.ensures.place c.args.self.now.instances store found c.requires.backed

pub returns-in_default-leave-clause-step : goal.returns-in_default-leave-clause-step
returns-in_default-leave-clause-step g c =
    let w = c.args.self.now in
    let i = c.args.instance in
    let none : leave_refusal i (newest_in w.common) ≡ None = rw c.newest.ensures at c.in_default.ensures.refusal in
    let n = c.unwrap-number.result in
    let one = made i n (sym c.unwrap-number.ensures ∙ c.new.ensures) in
    let f = λ (r : g.row.R.Denot). shelf_of g.R.Rows r in
    let stores = c.args.stores.now in
    let size : length stores ≡ 8 = sym (length-map stores f) ∙ c.requires.backed.size in
    let less : c.place.result < length stores = omega (arith, size, c.place.ensures.range) in
    let store = get_or stores c.place.result c.index-stores-place.result in
    let found = slice_get-get_or stores c.place.result c.index-stores-place.result less in
    let went = sym c.is_err.ensures.value ∙ c.if-is_err.false in
    let ring = c.leave.new.self in
    let begun : State = record w { common = record (w.common) { rings = c.push.new.self } } in
    let begins : Begins w begun = begun_with w begun.common refl refl refl in
    let left = leaving n w begun ring c.requires.consistent begins
    (pushed c.push.result c.push.new.self.items _ _ c.push.ensures.items went)
    (ap (λ (r : Members). r.instances) c.in_default.ensures.ok
    ∙ (λ d. without (sym one.0 d) (c.newest.ensures d)))
    (ap (λ k. leave_refusal k (newest_in w.common)) one.0 ∙ none) in
    let w' : State = record begun { instances = c.leave-2.new.self } in
    let down : GoesDown n w w' = record {
      numbered = c.requires.consistent.numbered;
      exists = exists_at n w.instances c.requires.consistent.numbered
          (subst (λ k. IsTrue (is_instance k)) (sym one.0) one.1);
      leaves = c.in_default-leave.ensures.leaves;
      stays = c.leave-2.ensures.stays;
      change = c.leave-2.ensures.at;
      clock = refl;
      messages = refl;
      outputs = refl;
      faults = refl;
      limits = refl;
      service_key = refl;
      first = refl;
    } in
    let x = there n w.instances down.exists in
    let old = map f stores in
    let new = map f (slice_set stores c.place.result c.leave-2.new.store) in
    subst (λ k. Step (over w old) (Leave k) (over w' new)) one.0 (record {
      ends = inl (kept_leave w n left.taken w' down left.rings old new
          (λ up. left_of_store f stores c.place.result n c.place.ensures.place w x.0 store c.leave-2.new.store less
          found x.1 (c.in_default-leave.ensures.left x.0 x.1 (sym (up_here n w.instances x.0 x.1) ∙ up)))
          (λ off. shelf_put f stores c.place.result n c.place.ensures.place c.leave-2.new.store less
          ∙ ap f (c.leave-2.ensures.idle x.0 x.1 (sym (up_here n w.instances x.0 x.1) ∙ off))
          ∙ sym (shelf_is f stores c.place.result n c.place.ensures.place store found))
          (λ j apart. shelf_other f stores c.place.result n c.place.ensures.place j c.leave-2.new.store less apart));
      clean = cleaner_put f stores c.place.result n c.place.ensures.place store c.leave-2.new.store less found
          c.leave-2.ensures.clean;
    })

pub returns-in_default-leave-clause-refused : goal.returns-in_default-leave-clause-refused
returns-in_default-leave-clause-refused g c =
    let w = c.args.self.now in
    let i = c.args.instance in
    let none : leave_refusal i (newest_in w.common) ≡ None = rw c.newest.ensures at c.in_default.ensures.refusal in
    rw (leave_taken w i none) refl

pub returns-in_default-leave-clause-consistent : goal.returns-in_default-leave-clause-consistent
returns-in_default-leave-clause-consistent g c =
    let w = c.args.self.now in
    let i = c.args.instance in
    let none : leave_refusal i (newest_in w.common) ≡ None = rw c.newest.ensures at c.in_default.ensures.refusal in
    let n = c.unwrap-number.result in
    let one = made i n (sym c.unwrap-number.ensures ∙ c.new.ensures) in
    let went = sym c.is_err.ensures.value ∙ c.if-is_err.false in
    let ring = c.leave.new.self in
    let begun : State = record w { common = record (w.common) { rings = c.push.new.self } } in
    let begins : Begins w begun = begun_with w begun.common refl refl refl in
    let left = leaving n w begun ring c.requires.consistent begins
    (pushed c.push.result c.push.new.self.items _ _ c.push.ensures.items went)
    (ap (λ (r : Members). r.instances) c.in_default.ensures.ok
    ∙ (λ d. without (sym one.0 d) (c.newest.ensures d)))
    (ap (λ k. leave_refusal k (newest_in w.common)) one.0 ∙ none) in
    let change = c.leave-2.ensures.at in
    consistent_stopped n begun _ left.but change
    (goes_down n w.instances c.leave-2.new.self c.requires.consistent.numbered change
    c.in_default-leave.ensures.leaves) refl refl refl
    (c.in_default-leave.ensures.whole (around w.clock begun.common (incarnations_of c.leave-2.new.self)))
    (λ x x' was is. let same = (c.leave-2.ensures.stays x x' was is).incarnation in omega (arith, same))

pub returns-in_default-leave-clause-backed : goal.returns-in_default-leave-clause-backed
returns-in_default-leave-clause-backed g c =
    let w = c.args.self.now in
    let i = c.args.instance in
    let n = c.unwrap-number.result in
    let one = made i n (sym c.unwrap-number.ensures ∙ c.new.ensures) in
    let f = λ (r : g.row.R.Denot). shelf_of g.R.Rows r in
    let stores = c.args.stores.now in
    let size : length stores ≡ 8 = sym (length-map stores f) ∙ c.requires.backed.size in
    let less : c.place.result < length stores = omega (arith, size, c.place.ensures.range) in
    let store = get_or stores c.place.result c.index-stores-place.result in
    let found = slice_get-get_or stores c.place.result c.index-stores-place.result less in
    let change = c.leave-2.ensures.at in
    backed_stopped n w.instances c.leave-2.new.self change
    (goes_down n w.instances c.leave-2.new.self c.requires.consistent.numbered change
    c.in_default-leave.ensures.leaves) _
    (backed_but_put f stores c.place.result n c.place.ensures.place w.instances w.instances c.leave-2.new.store less
    (λ j apart. refl) c.requires.backed)

pub returns-in_default-leave-clause-left : goal.returns-in_default-leave-clause-left
returns-in_default-leave-clause-left g c =
    let w = c.args.self.now in
    let i = c.args.instance in
    let none : leave_refusal i (newest_in w.common) ≡ None = rw c.newest.ensures at c.in_default.ensures.refusal in
    let n = c.unwrap-number.result in
    let one = made i n (sym c.unwrap-number.ensures ∙ c.new.ensures) in
    let f = λ (r : g.row.R.Denot). shelf_of g.R.Rows r in
    let stores = c.args.stores.now in
    let size : length stores ≡ 8 = sym (length-map stores f) ∙ c.requires.backed.size in
    let less : c.place.result < length stores = omega (arith, size, c.place.ensures.range) in
    let store = get_or stores c.place.result c.index-stores-place.result in
    let found = slice_get-get_or stores c.place.result c.index-stores-place.result less in
    let went = sym c.is_err.ensures.value ∙ c.if-is_err.false in
    let ring = c.leave.new.self in
    let begun : State = record w { common = record (w.common) { rings = c.push.new.self } } in
    let begins : Begins w begun = begun_with w begun.common refl refl refl in
    let left = leaving n w begun ring c.requires.consistent begins
    (pushed c.push.result c.push.new.self.items _ _ c.push.ensures.items went)
    (ap (λ (r : Members). r.instances) c.in_default.ensures.ok
    ∙ (λ d. without (sym one.0 d) (c.newest.ensures d)))
    (ap (λ k. leave_refusal k (newest_in w.common)) one.0 ∙ none) in
    let w' : State = record begun { instances = c.leave-2.new.self } in
    let down : GoesDown n w w' = record {
      numbered = c.requires.consistent.numbered;
      exists = exists_at n w.instances c.requires.consistent.numbered
          (subst (λ k. IsTrue (is_instance k)) (sym one.0) one.1);
      leaves = c.in_default-leave.ensures.leaves;
      stays = c.leave-2.ensures.stays;
      change = c.leave-2.ensures.at;
      clock = refl;
      messages = refl;
      outputs = refl;
      faults = refl;
      limits = refl;
      service_key = refl;
      first = refl;
    } in
    let x = there n w.instances down.exists in
    let no = taken w (Leaves n) left.taken in
    let new = map f (slice_set stores c.place.result c.leave-2.new.store) in
    subst (λ k. LeavesShelves g.R.Rows.rejects w (Leave k) w' (map f stores) new) one.0
    (turned_put f stores c.place.result n c.place.ensures.place g.R.Rows.rejects w (Leave n) w' store
    c.leave-2.new.store less found (λ j. refl) (λ j apart. turns_other w n j apart)
    (λ some. left_turned w w' n x.0 None (f store) (f c.leave-2.new.store) x.1 (off_then n w w' down)
    (causeless n w w' down)
    (c.in_default-leave.ensures.left x.0 x.1
    (sym (up_here n w.instances x.0 x.1) ∙ turned_up w n some)))
    (λ out. ap f (c.leave-2.ensures.idle x.0 x.1 (sym (up_here n w.instances x.0 x.1) ∙ not_turned w n no out))))

-- ---- it was stopped for a fault

pub stop-requires : goal.stop-requires
stop-requires g c =
    let w = c.args.self.now in
    let i = c.args.instance in
    let none : leave_refusal i (newest_in w.common) ≡ None = rw c.newest.ensures at c.in_default.ensures.refusal in
    let n = c.unwrap-number.result in
    let one = made i n (sym c.unwrap-number.ensures ∙ c.new.ensures) in
    let went = sym c.is_err.ensures.value ∙ c.if-is_err.false in
    let ring = c.leave.new.self in
    let begun : State = record w { common = record (w.common) { rings = c.push.new.self } } in
    let begins : Begins w begun = begun_with w begun.common refl refl refl in
    let left = leaving n w begun ring c.requires.consistent begins
    (pushed c.push.result c.push.new.self.items _ _ c.push.ensures.items went)
    (ap (λ (r : Members). r.instances) c.in_default.ensures.ok
    ∙ (λ d. without (sym one.0 d) (c.newest.ensures d)))
    (ap (λ k. leave_refusal k (newest_in w.common)) one.0 ∙ none) in
    but_changed n begun _ left.but c.leave-2.ensures.at c.leave-2.ensures.stays refl refl refl

pub returns-in-Err-leave-clause-step : goal.returns-in-Err-leave-clause-step
returns-in-Err-leave-clause-step g c =
    let w = c.args.self.now in
    let i = c.args.instance in
    let none : leave_refusal i (newest_in w.common) ≡ None = rw c.newest.ensures at c.in_default.ensures.refusal in
    let n = c.unwrap-number.result in
    let one = made i n (sym c.unwrap-number.ensures ∙ c.new.ensures) in
    let f = λ (r : g.row.R.Denot). shelf_of g.R.Rows r in
    let stores = c.args.stores.now in
    let size : length stores ≡ 8 = sym (length-map stores f) ∙ c.requires.backed.size in
    let less : c.place.result < length stores = omega (arith, size, c.place.ensures.range) in
    let store = get_or stores c.place.result c.index-stores-place.result in
    let found = slice_get-get_or stores c.place.result c.index-stores-place.result less in
    let went = sym c.is_err.ensures.value ∙ c.if-is_err.false in
    let ring = c.leave.new.self in
    let begun : State = record w { common = record (w.common) { rings = c.push.new.self } } in
    let begins : Begins w begun = begun_with w begun.common refl refl refl in
    let left = leaving n w begun ring c.requires.consistent begins
    (pushed c.push.result c.push.new.self.items _ _ c.push.ensures.items went)
    (ap (λ (r : Members). r.instances) c.in_default.ensures.ok
    ∙ (λ d. without (sym one.0 d) (c.newest.ensures d)))
    (ap (λ k. leave_refusal k (newest_in w.common)) one.0 ∙ none) in
    let exists = exists_at n w.instances c.requires.consistent.numbered
    (subst (λ k. IsTrue (is_instance k)) (sym one.0) one.1) in
    let old = map f stores in
    let new = map f (slice_set stores c.place.result c.leave-2.new.store) in
    let mid : State = record begun { instances = c.leave-2.new.self } in
    let stopped = c.stop.ensures.stopped in
    let beside : IsSameBeside begun c.stop.new.self = record {
      clock = stopped.beside.clock;
      common = stopped.beside.common;
    } in
    let change : ChangesAt n w.instances c.stop.new.self.instances = record {
      numbered = stopped.others.numbered;
      others = elsewhere_then n w.instances c.leave-2.new.self c.stop.new.self.instances c.leave-2.ensures.at.others
          stopped.others.others;
    } in
    let x = there n w.instances exists in
    let x' = also_there n w.instances c.stop.new.self.instances c.requires.consistent.numbered change.numbered x.0
    x.1 in
    let ends : Ends n (λ y. y) (λ fault y y'. StopsLeaving y fault) begun c.stop.new.self =
    ends_stopped n (λ y. y) (λ fault y y'. StopsLeaving y fault) begun mid c.stop.new.self
    c.in-Err-leave.fault c.requires.consistent.numbered c.leave-2.ensures.at
    (λ y y' was is. c.leave-2.ensures.stays y y' was is) (λ name. refl) refl refl stopped
    (λ y y' was is. c.in-Err-leave.ensures.cause y was) in
    subst (λ k. Step (over w old) (Leave k) (over c.stop.new.self new)) one.0 (record {
      ends = inr (faulted_one w begun c.stop.new.self (Leave n) n (λ y. y) (λ fault y y'. StopsLeaving y fault)
          c.requires.consistent.numbered (asks_leave w n left.taken exists) begins ends change beside old new
          (rings_left w n left.taken (roster_of c.stop.new.self).rings
          (ap (λ (common : Common). named_by common.rings.items) stopped.beside.common ∙ left.rings))
          (λ clean turns y at.
          at_here (λ u. StopsLeaving u ends.fault) n w.instances x.0 x.1 (turns x.0 x'.0 x.1 x'.1) y at));
      clean = cleaner_put f stores c.place.result n c.place.ensures.place store c.leave-2.new.store less found
          c.leave-2.ensures.clean;
    })

pub returns-in-Err-leave-clause-refused : goal.returns-in-Err-leave-clause-refused
returns-in-Err-leave-clause-refused g c =
    let w = c.args.self.now in
    let i = c.args.instance in
    let none : leave_refusal i (newest_in w.common) ≡ None = rw c.newest.ensures at c.in_default.ensures.refusal in
    rw (leave_taken w i none) refl

pub returns-in-Err-leave-clause-backed : goal.returns-in-Err-leave-clause-backed
returns-in-Err-leave-clause-backed g c =
    let w = c.args.self.now in
    let i = c.args.instance in
    let n = c.unwrap-number.result in
    let one = made i n (sym c.unwrap-number.ensures ∙ c.new.ensures) in
    let f = λ (r : g.row.R.Denot). shelf_of g.R.Rows r in
    let stores = c.args.stores.now in
    let size : length stores ≡ 8 = sym (length-map stores f) ∙ c.requires.backed.size in
    let less : c.place.result < length stores = omega (arith, size, c.place.ensures.range) in
    let store = get_or stores c.place.result c.index-stores-place.result in
    let found = slice_get-get_or stores c.place.result c.index-stores-place.result less in
    c.stop.ensures.backed _
    (backed_but_put f stores c.place.result n c.place.ensures.place w.instances c.leave-2.new.self c.leave-2.new.store
    less c.leave-2.ensures.at.others c.requires.backed)

pub returns-in-Err-leave-clause-left : goal.returns-in-Err-leave-clause-left
returns-in-Err-leave-clause-left g c =
    let w = c.args.self.now in
    let i = c.args.instance in
    let none : leave_refusal i (newest_in w.common) ≡ None = rw c.newest.ensures at c.in_default.ensures.refusal in
    let n = c.unwrap-number.result in
    let one = made i n (sym c.unwrap-number.ensures ∙ c.new.ensures) in
    let f = λ (r : g.row.R.Denot). shelf_of g.R.Rows r in
    let stores = c.args.stores.now in
    let size : length stores ≡ 8 = sym (length-map stores f) ∙ c.requires.backed.size in
    let less : c.place.result < length stores = omega (arith, size, c.place.ensures.range) in
    let store = get_or stores c.place.result c.index-stores-place.result in
    let found = slice_get-get_or stores c.place.result c.index-stores-place.result less in
    let went = sym c.is_err.ensures.value ∙ c.if-is_err.false in
    let ring = c.leave.new.self in
    let begun : State = record w { common = record (w.common) { rings = c.push.new.self } } in
    let begins : Begins w begun = begun_with w begun.common refl refl refl in
    let left = leaving n w begun ring c.requires.consistent begins
    (pushed c.push.result c.push.new.self.items _ _ c.push.ensures.items went)
    (ap (λ (r : Members). r.instances) c.in_default.ensures.ok
    ∙ (λ d. without (sym one.0 d) (c.newest.ensures d)))
    (ap (λ k. leave_refusal k (newest_in w.common)) one.0 ∙ none) in
    let exists = exists_at n w.instances c.requires.consistent.numbered
    (subst (λ k. IsTrue (is_instance k)) (sym one.0) one.1) in
    let stopped = c.stop.ensures.stopped in
    let x = there n w.instances exists in
    let no = taken w (Leaves n) left.taken in
    let new = map f (slice_set stores c.place.result c.leave-2.new.store) in
    subst (λ k. LeavesShelves g.R.Rows.rejects w (Leave k) c.stop.new.self (map f stores) new) one.0
    (turned_put f stores c.place.result n c.place.ensures.place g.R.Rows.rejects w (Leave n) c.stop.new.self store
    c.leave-2.new.store less found (λ j. refl) (λ j apart. turns_other w n j apart)
    (λ some. left_turned w c.stop.new.self n x.0 (Some c.in-Err-leave.fault) (f store) (f c.leave-2.new.store) x.1
    (off_at n c.stop.new.self.instances stopped.down) stopped.cause
    (c.in-Err-leave.ensures.left x.0 x.1
    (sym (up_here n w.instances x.0 x.1) ∙ turned_up w n some)))
    (λ out. ap f (c.leave-2.ensures.idle x.0 x.1 (sym (up_here n w.instances x.0 x.1) ∙ not_turned w n no out))))
