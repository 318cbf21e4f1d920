use Rattle.std.proofs.Common.{◌≡◌, ◌∙◌, ◌<◌, ℕ, false, get_or, inl, inr, length, map, None, Some, refl, sym, ap, arith}
use Rattle.std.proofs.lemmas.Bool.Decides.{nat_tests}
use Rattle.std.proofs.lemmas.List.{length-map}
use Rattle.std.proofs.lemmas.Option.{slice_get-get_or}
use Rattle.am_cluster.specs.Events.{Deliver}
use Rattle.am_cluster.specs.Moments.{is_too_late}
use Rattle.am_item.specs.declared.fault.Fault.TheVariants.{OutOfMemory}
use Rattle.am_messages.specs.Posted.{posted_at}
use Rattle.am_wire.specs.declared.message.Message.{Message}
use Rattle.am_instance.specs.Shelves.{shelf_of}
use Rattle.am_world.specs.Leaving.{stop_at}
use Rattle.am_world.specs.Places.{up_at}
use Rattle.am_world.specs.Consistent.{over}
use Rattle.am_world.proofs.Beside.{kept_over, step_beside}
use Rattle.am_world.proofs.AloneDelivered.{kept_down, kept_late_deliver, kept_unsent}
use Rattle.am_world.proofs.Delivered.{exists_up, found_posted, left_delivered, none_posted}
use Rattle.am_world.proofs.Delivered.{received_down, received_up, stopped_for_memory, stops_delivered}
use Rattle.am_world.proofs.Delivered.{works_alone, writes_none, writes_only, writes_there, writes_up}
use Rattle.am_world.proofs.Faults.{fails_nothing, faulted_at, step_faulted}
use Rattle.am_world.proofs.KeptDeliver.{kept_deliver}
use Rattle.am_world.proofs.KeptQuietWhole.{backed_but, up_here}
use Rattle.am_world.proofs.Placed.{also_there, consistent_but_all, there}
use Rattle.am_world.proofs.Shelved.{backed_but_put, backed_put, backed_there, cleaner_put, left_put, shelves_alone}
use Rattle.am_world.proofs.Shelved.{unrefused_but, unrefused_up}
use Rattle.am_world.proofs.state.State.on_deliver.Goals as goal

pub returns-then-moment-gt-LAST_MOMENT-clause-step : goal.returns-then-moment-gt-LAST_MOMENT-clause-step
returns-then-moment-gt-LAST_MOMENT-clause-step g c =
    step_beside c.args.self.now (Deliver c.args.name.now c.args.moment) c.args.self.now refl
    (kept_late_deliver c.args.self.now c.args.name.now c.args.moment (grind (arith, nat_tests)))
    (map (shelf_of g.R.Rows) c.args.stores.now)

pub returns-in_default-clause-step : goal.returns-in_default-clause-step
returns-in_default-clause-step g c =
    step_beside c.args.self.now (Deliver c.args.name.now c.args.moment) c.args.self.now refl
    (kept_unsent c.args.self.now c.args.name.now c.args.moment (grind (arith, nat_tests))
    (none_posted (posted_at c.args.name.now c.args.self.now.messages) c.in_default.ensures))
    (map (shelf_of g.R.Rows) c.args.stores.now)

pub returns-in_default-up-clause-step : goal.returns-in_default-up-clause-step
returns-in_default-up-clause-step g c =
    let p = found_posted (posted_at c.args.name.now c.args.self.now.messages) c.in-Some.message.now c.in-Some.ensures in
    step_beside c.args.self.now (Deliver c.args.name.now c.args.moment) c.args.self.now refl
    (kept_down c.args.self.now c.args.name.now c.args.moment p.0 (grind (arith, nat_tests)) p.1
    (ap (λ (i : ℕ). up_at i c.args.self.now.instances)
    (ap (λ (m : Message). m.to) p.2 ∙ sym c.number.ensures.number) ∙ c.in_default-up.ensures.none))
    (map (shelf_of g.R.Rows) c.args.stores.now)

-- ---- where nothing is written

pub returns-then-moment-gt-LAST_MOMENT-clause-left : goal.returns-then-moment-gt-LAST_MOMENT-clause-left
returns-then-moment-gt-LAST_MOMENT-clause-left g c =
    let xs = c.args.self.now.instances in
    shelves_alone g.R.Rows.rejects c.args.self.now (Deliver c.args.name.now c.args.moment) c.args.self.now
    (map (shelf_of g.R.Rows) c.args.stores.now) c.requires.backed
    (writes_up c.args.self.now c.args.name.now c.args.moment) (λ i. refl) (unrefused_up xs xs (λ i. refl))

pub returns-in_default-clause-left : goal.returns-in_default-clause-left
returns-in_default-clause-left g c =
    let xs = c.args.self.now.instances in
    shelves_alone g.R.Rows.rejects c.args.self.now (Deliver c.args.name.now c.args.moment) _
    (map (shelf_of g.R.Rows) c.args.stores.now) c.requires.backed
    (writes_up c.args.self.now c.args.name.now c.args.moment) (λ i. refl) (unrefused_up xs xs (λ i. refl))

-- ---- where it can't be held once more

pub stop-requires : goal.stop-requires
stop-requires g c = consistent_but_all c.in-Some-up.receiver c.args.self.now c.requires.consistent

pub returns-in_default-share-clause-step : goal.returns-in_default-share-clause-step
returns-in_default-share-clause-step g c =
    let p = found_posted (posted_at c.args.name.now c.args.self.now.messages) c.in-Some.message.now c.in-Some.ensures in
    let xs = c.args.self.now.instances in
    let allowed : is_too_late c.args.moment ≡ false = grind (arith, nat_tests) in
    let to = c.in-Some-up.ensures.at ∙ c.number.ensures.number ∙ sym (ap (λ (m : Message). m.to) p.2) in
    let up = ap (λ (i : ℕ). up_at i xs) c.in-Some-up.ensures.at ∙ c.in-Some-up.ensures.up in
    step_faulted c.args.self.now (Deliver c.args.name.now c.args.moment) c.stop.new.self
    (λ shelves. faulted_at c.args.self.now c.args.self.now c.stop.new.self shelves shelves
    (Deliver c.args.name.now c.args.moment) c.in-Some-up.receiver OutOfMemory (rw (allowed, p.1) refl) refl
    (works_alone c.args.self.now c.args.name.now c.args.moment c.in-Some-up.receiver p.0 p.1 c.requires.consistent.filed to up)
    refl (λ posted. refl) c.requires.consistent.numbered
    (fails_nothing c.in-Some-up.receiver c.args.self.now c.requires.consistent.numbered) c.stop.ensures.stopped
    (λ posted found x here. inr refl)) (map (shelf_of g.R.Rows) c.args.stores.now)

pub returns-in_default-share-clause-backed : goal.returns-in_default-share-clause-backed
returns-in_default-share-clause-backed g c =
    c.stop.ensures.backed (map (shelf_of g.R.Rows) c.args.stores.now)
    (backed_but c.in-Some-up.receiver c.args.self.now.instances c.args.self.now.instances (λ j apart. refl)
    (map (shelf_of g.R.Rows) c.args.stores.now) c.requires.backed)

pub returns-in_default-share-clause-left : goal.returns-in_default-share-clause-left
returns-in_default-share-clause-left g c =
    let xs = c.args.self.now.instances in
    let s = c.stop.ensures.stopped in
    shelves_alone g.R.Rows.rejects c.args.self.now (Deliver c.args.name.now c.args.moment) c.stop.new.self
    (map (shelf_of g.R.Rows) c.args.stores.now) c.requires.backed
    (writes_up c.args.self.now c.args.name.now c.args.moment) (λ i. refl)
    (unrefused_but c.in-Some-up.receiver xs c.stop.new.self.instances s.others.others
    (stopped_for_memory c.in-Some-up.receiver c.args.self.now c.stop.new.self c.requires.consistent.numbered
    (exists_up c.in-Some-up.receiver xs (ap (λ (i : ℕ). up_at i xs) c.in-Some-up.ensures.at ∙ c.in-Some-up.ensures.up)) s))

-- ---- where it is received

pub receive-requires-clause-up : goal.receive-requires-clause-up
receive-requires-clause-up g c =
    up_here c.in-Some-up.receiver c.args.self.now.instances
    (ap (λ (i : ℕ). up_at i c.args.self.now.instances) c.in-Some-up.ensures.at ∙ c.in-Some-up.ensures.up)

pub receive-requires-clause-backed : goal.receive-requires-clause-backed
receive-requires-clause-backed g c =
    let f = λ (r : g.row.R.Denot). shelf_of g.R.Rows r in
    let stores = c.args.stores.now in
    let size : length stores ≡ 8 = sym (length-map stores f) ∙ c.requires.backed.size in
    let less : c.place.result < length stores = omega (arith, size, c.place.ensures.range) in
    backed_there f stores c.place.result c.in-Some-up.receiver c.place.ensures.place c.args.self.now.instances
    (get_or stores c.place.result c.index-stores-place.result)
    (slice_get-get_or stores c.place.result c.index-stores-place.result less) c.requires.backed

pub returns-in-Ok-receive-clause-backed : goal.returns-in-Ok-receive-clause-backed
returns-in-Ok-receive-clause-backed g c =
    let f = λ (r : g.row.R.Denot). shelf_of g.R.Rows r in
    let stores = c.args.stores.now in
    let size : length stores ≡ 8 = sym (length-map stores f) ∙ c.requires.backed.size in
    let less : c.place.result < length stores = omega (arith, size, c.place.ensures.range) in
    backed_put f stores c.place.result c.in-Some-up.receiver c.place.ensures.place c.args.self.now.instances
    c.receive.new.self.instances c.receive.new.store less c.in-Ok-receive.ensures.does.others.others
    c.in-Ok-receive.ensures.backed c.requires.backed

pub returns-in-Ok-receive-clause-left : goal.returns-in-Ok-receive-clause-left
returns-in-Ok-receive-clause-left g c =
    let p = found_posted (posted_at c.args.name.now c.args.self.now.messages) c.in-Some.message.now c.in-Some.ensures in
    let f = λ (r : g.row.R.Denot). shelf_of g.R.Rows r in
    let stores = c.args.stores.now in
    let xs = c.args.self.now.instances in
    let n = c.in-Some-up.receiver in
    let size : length stores ≡ 8 = sym (length-map stores f) ∙ c.requires.backed.size in
    let less : c.place.result < length stores = omega (arith, size, c.place.ensures.range) in
    let x = there n xs c.in-Some-up.ensures.exists in
    let to = c.in-Some-up.ensures.at ∙ c.number.ensures.number ∙ sym (ap (λ (m : Message). m.to) p.2) in
    let up = ap (λ (i : ℕ). up_at i xs) c.in-Some-up.ensures.at ∙ c.in-Some-up.ensures.up in
    left_put f stores c.place.result n c.place.ensures.place g.R.Rows.rejects c.args.self.now
    (Deliver c.args.name.now c.args.moment) c.receive.new.self
    (get_or stores c.place.result c.index-stores-place.result) c.receive.new.store less
    (slice_get-get_or stores c.place.result c.index-stores-place.result less)
    (writes_there c.args.self.now c.args.name.now c.args.moment n p.0 p.1 c.requires.consistent.filed to up)
    (writes_only c.args.self.now c.args.name.now c.args.moment n p.0 p.1 c.requires.consistent.filed to up) (λ j. refl)
    (left_delivered g.R.Rows.rejects c.args.self.now c.args.name.now c.args.moment n
    c.effective-at.result p.0 x.0 c.in-Ok.message None
    (stop_at n c.receive.new.self.instances) (f (get_or stores c.place.result c.index-stores-place.result))
    (f c.receive.new.store) c.effective-at.ensures p.1
    (p.2 ∙ sym c.in-Ok.ensures) x.1
    (received_up n c.args.self.now c.receive.new.self c.requires.consistent.numbered x.0 x.1 up
    c.in-Ok-receive.ensures.does.others c.receive.ensures.stays)
    (c.in-Ok-receive.ensures.left x.0 x.1))

pub returns-in-Ok-receive-clause-step : goal.returns-in-Ok-receive-clause-step
returns-in-Ok-receive-clause-step g c =
    let f = λ (r : g.row.R.Denot). shelf_of g.R.Rows r in
    let stores = c.args.stores.now in
    let size : length stores ≡ 8 = sym (length-map stores f) ∙ c.requires.backed.size in
    let less : c.place.result < length stores = omega (arith, size, c.place.ensures.range) in
    let p = found_posted (posted_at c.args.name.now c.args.self.now.messages) c.in-Some.message.now c.in-Some.ensures in
    let xs = c.args.self.now.instances in
    let to = c.in-Some-up.ensures.at ∙ c.number.ensures.number ∙ sym (ap (λ (m : Message). m.to) p.2) in
    let up = ap (λ (i : ℕ). up_at i xs) c.in-Some-up.ensures.at ∙ c.in-Some-up.ensures.up in
    let same = c.in-Ok.ensures ∙ sym p.2 in
    let left = returns-in-Ok-receive-clause-left g c in
    record {
      ends = inl (kept_over (over c.args.self.now _) (Deliver c.args.name.now c.args.moment)
          (over c.receive.new.self _) refl
          (kept_deliver c.args.self.now c.receive.new.self c.args.name.now c.args.moment p.0 (grind (arith, nat_tests))
          p.1 (rw to at up) c.requires.consistent
          (rw (to, c.effective-at.ensures, same) at c.in-Ok-receive.ensures.does)
          (rw to at c.receive.ensures.stays))
          (λ i down. left.others i (writes_none c.args.self.now c.args.name.now c.args.moment i down) refl));
      clean = cleaner_put f stores c.place.result c.in-Some-up.receiver c.place.ensures.place
          (get_or stores c.place.result c.index-stores-place.result) c.receive.new.store less
          (slice_get-get_or stores c.place.result c.index-stores-place.result less) c.receive.ensures.clean;
    }

-- ---- where a fault stopped it

pub returns-in-Err-clause-step : goal.returns-in-Err-clause-step
returns-in-Err-clause-step g c =
    let f = λ (r : g.row.R.Denot). shelf_of g.R.Rows r in
    let stores = c.args.stores.now in
    let size : length stores ≡ 8 = sym (length-map stores f) ∙ c.requires.backed.size in
    let less : c.place.result < length stores = omega (arith, size, c.place.ensures.range) in
    let p = found_posted (posted_at c.args.name.now c.args.self.now.messages) c.in-Some.message.now c.in-Some.ensures in
    let xs = c.args.self.now.instances in
    let allowed : is_too_late c.args.moment ≡ false = grind (arith, nat_tests) in
    let to = c.in-Some-up.ensures.at ∙ c.number.ensures.number ∙ sym (ap (λ (m : Message). m.to) p.2) in
    let up = ap (λ (i : ℕ). up_at i xs) c.in-Some-up.ensures.at ∙ c.in-Some-up.ensures.up in
    record {
      ends = inr (faulted_at c.args.self.now c.receive.new.self c.stop-in-Err.new.self (map f stores) _
          (Deliver c.args.name.now c.args.moment) c.in-Some-up.receiver c.in-Err.fault (rw (allowed, p.1) refl) refl
          (works_alone c.args.self.now c.args.name.now c.args.moment c.in-Some-up.receiver p.0 p.1
          c.requires.consistent.filed to up)
          refl (λ posted. refl) c.requires.consistent.numbered c.in-Err.ensures.fails c.stop-in-Err.ensures.stopped
          (stops_delivered c.args.self.now c.receive.new.self c.stop-in-Err.new.self c.args.name.now c.args.moment
          c.in-Some-up.receiver p.0 c.in-Err.fault p.1 c.requires.consistent.numbered c.in-Err.ensures.fails.others
          c.stop-in-Err.ensures.stopped
          (rw (c.effective-at.ensures, c.in-Ok.ensures ∙ sym p.2) at c.in-Err.ensures.cause) (map f stores)));
      clean = cleaner_put f stores c.place.result c.in-Some-up.receiver c.place.ensures.place
          (get_or stores c.place.result c.index-stores-place.result) c.receive.new.store less
          (slice_get-get_or stores c.place.result c.index-stores-place.result less) c.receive.ensures.clean;
    }

pub returns-in-Err-clause-backed : goal.returns-in-Err-clause-backed
returns-in-Err-clause-backed g c =
    let f = λ (r : g.row.R.Denot). shelf_of g.R.Rows r in
    let stores = c.args.stores.now in
    let size : length stores ≡ 8 = sym (length-map stores f) ∙ c.requires.backed.size in
    let less : c.place.result < length stores = omega (arith, size, c.place.ensures.range) in
    c.stop-in-Err.ensures.backed _
    (backed_but_put f stores c.place.result c.in-Some-up.receiver c.place.ensures.place c.args.self.now.instances
    c.receive.new.self.instances c.receive.new.store less c.in-Err.ensures.fails.others.others c.requires.backed)

pub returns-in-Err-clause-left : goal.returns-in-Err-clause-left
returns-in-Err-clause-left g c =
    let p = found_posted (posted_at c.args.name.now c.args.self.now.messages) c.in-Some.message.now c.in-Some.ensures in
    let f = λ (r : g.row.R.Denot). shelf_of g.R.Rows r in
    let stores = c.args.stores.now in
    let xs = c.args.self.now.instances in
    let n = c.in-Some-up.receiver in
    let size : length stores ≡ 8 = sym (length-map stores f) ∙ c.requires.backed.size in
    let less : c.place.result < length stores = omega (arith, size, c.place.ensures.range) in
    let x = there n xs c.in-Some-up.ensures.exists in
    let to = c.in-Some-up.ensures.at ∙ c.number.ensures.number ∙ sym (ap (λ (m : Message). m.to) p.2) in
    let up = ap (λ (i : ℕ). up_at i xs) c.in-Some-up.ensures.at ∙ c.in-Some-up.ensures.up in
    left_put f stores c.place.result n c.place.ensures.place g.R.Rows.rejects c.args.self.now
    (Deliver c.args.name.now c.args.moment) c.stop-in-Err.new.self
    (get_or stores c.place.result c.index-stores-place.result) c.receive.new.store less
    (slice_get-get_or stores c.place.result c.index-stores-place.result less)
    (writes_there c.args.self.now c.args.name.now c.args.moment n p.0 p.1 c.requires.consistent.filed to up)
    (writes_only c.args.self.now c.args.name.now c.args.moment n p.0 p.1 c.requires.consistent.filed to up) (λ j. refl)
    (left_delivered g.R.Rows.rejects c.args.self.now c.args.name.now c.args.moment n
    c.effective-at.result p.0 x.0 c.in-Ok.message
    (Some c.in-Err.fault) (stop_at n c.stop-in-Err.new.self.instances)
    (f (get_or stores c.place.result c.index-stores-place.result)) (f c.receive.new.store) c.effective-at.ensures p.1
    (p.2 ∙ sym c.in-Ok.ensures) x.1
    (received_down n c.receive.new.self c.stop-in-Err.new.self c.in-Err.fault c.in-Err.ensures.fails.others.numbered
    (also_there n xs c.receive.new.self.instances c.requires.consistent.numbered c.in-Err.ensures.fails.others.numbered x.0 x.1)
    c.stop-in-Err.ensures.stopped)
    (c.in-Err.ensures.left x.0 x.1))
