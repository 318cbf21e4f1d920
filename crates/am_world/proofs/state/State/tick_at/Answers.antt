use Rattle.std.proofs.Common.{◌≡◌, ◌∙◌, [], ap, arith, inr, refl, subst, sym}
use Rattle.am_messages.specs.Posted.{posted_at}
use Rattle.am_instance.specs.Here.{Circumstances, circumstances}
use Rattle.am_instance.specs.Instance.{IsDown}
use Rattle.am_instance.specs.Leaving.{stop_for}
use Rattle.am_instance.specs.Shelves.{shelf_of}
use Rattle.am_instance.specs.Ticks.{Stops, Ticks}
use Rattle.am_world.specs.Consistent.{around, around_at}
use Rattle.am_world.specs.Leaving.{stop_at}
use Rattle.am_world.specs.Places.{At, Turns}
use Rattle.am_world.specs.Posting.{posted_over}
use Rattle.am_world.proofs.FreshKept.{past_but_any, past_stopped}
use Rattle.am_world.proofs.FreshPast.{GoesOnAt, lost_none_ticks, past_ticks, reached_ticks}
use Rattle.am_world.proofs.Placed.{also_there, consistent_but, consistent_still, left_ticked, there}
use Rattle.am_world.proofs.Shelved.{stop_here}
use Rattle.am_world.proofs.TickTaken.{stopped_turn, stops_at, tells_none, tells_some, unrefused_memory}
use Rattle.am_world.proofs.TickTaken.{up_found, up_telling, when_err, when_ok}
use Rattle.am_world.proofs.Turned.{member_down, member_on, quiet_down, quiet_ticked, whole_at}
use Rattle.am_world.proofs.Reached.{reached_at}
use Rattle.am_world.proofs.state.State.tick_at.Goals as goal

-- ---- a fault stopped it

pub returns-then-not-tick-clause-turn : goal.returns-then-not-tick-clause-turn
returns-then-not-tick-clause-turn g c =
    let x = there c.args.number c.args.self.now.instances c.requires.exists in
    let x' = also_there c.args.number c.args.self.now.instances c.tick.new.self c.requires.consistent.numbered
    c.tick.ensures.at.numbered x.0 x.1 in
    let same : circumstances c.occasion-occasion.result ≡ around_at c.args.self.now.clock c.args.self.now =
    c.occasion-occasion.ensures
    ∙ ap (around c.args.self.now.clock c.args.self.now.common) c.incarnations-incarnations.ensures in
    rw c.count_fault.ensures (record {
      ends = inr
          (stops_at c.args.number c.args.self.now _ x.0 x'.0 x.1 x'.1 c.new-told.result.items c.tick.new.outputs.items
          (subst (λ a. Stops a x.0 x'.0 c.new-told.result.items c.tick.new.outputs.items) same
          (c.if-not-tick.ensures.ends x.0 x'.0 x.1 x'.1))
          (λ name. refl) refl refl);
      stays = c.tick.ensures.stays;
      others = c.tick.ensures.at;
      beside = record { clock = refl; common = refl };
    })

pub returns-then-not-tick-clause-consistent : goal.returns-then-not-tick-clause-consistent
returns-then-not-tick-clause-consistent g c =
    let w = c.args.self.now in
    let i = c.args.number in
    let ys = c.tick.new.self in
    let down : At i IsDown ys =
    λ x' is.
    let x = also_there i ys w.instances c.tick.ensures.at.numbered c.requires.consistent.numbered x' is in
    (c.if-not-tick.ensures.ends x.0 x' x.1 is).down in
    rw c.count_fault.ensures (consistent_still i w _ c.requires.consistent c.tick.ensures.at
    (record { clock = refl; common = refl }) c.requires.consistent.filed
    (λ x' is.
    whole_at (circumstances c.occasion-occasion.result) _ x'
    (sym (ap (λ (a : Circumstances). a.rings) c.occasion-occasion.ensures))
    (sym (ap (λ (a : Circumstances). a.first) c.occasion-occasion.ensures)) (c.tick.ensures.whole x' is))
    (λ x' is. quiet_down x' (down x' is)) (λ x x' was is. member_down x x' (down x' is).up)
    (past_stopped i w.messages w.instances ys (past_but_any i w.messages w.instances c.requires.consistent.past) down
    c.tick.ensures.at.others)
    (reached_at i w.messages w.instances ys c.requires.consistent.numbered c.tick.ensures.at
    (λ x x' was is. let same = (c.tick.ensures.stays x x' was is).incarnation in omega (arith, same))
    c.requires.consistent.fresh))

pub returns-then-not-tick-clause-left : goal.returns-then-not-tick-clause-left
returns-then-not-tick-clause-left g c up clean =
    let x = there c.args.number c.args.self.now.instances c.requires.exists in
    let x' = also_there c.args.number c.args.self.now.instances c.tick.new.self c.requires.consistent.numbered
    c.tick.ensures.at.numbered x.0 x.1 in
    rw c.count_fault.ensures (left_ticked c.args.self.now c.args.number c.occasion-occasion.result.moment
    c.args.self.now.clock x.0
    (stop_for x'.0.up x'.0.cause) (stop_at c.args.number c.tick.new.self) (shelf_of g.R.Rows c.args.store.now)
    (shelf_of g.R.Rows c.tick.new.store) (ap (λ (a : Circumstances). a.moment) c.occasion-occasion.ensures) x.1
    (λ why. sym (stop_here c.args.number c.tick.new.self x'.0 x'.1) ∙ why)
    (c.tick.ensures.left x.0 x'.0 x.1 x'.1 (sym (up_found c.args.number c.args.self.now.instances x.0 x.1) ∙ up))
    clean)

pub returns-then-not-tick-clause-idle : goal.returns-then-not-tick-clause-idle
returns-then-not-tick-clause-idle g c down =
    let x = there c.args.number c.args.self.now.instances c.requires.exists in
    c.tick.ensures.idle x.0 x.1 (sym (up_found c.args.number c.args.self.now.instances x.0 x.1) ∙ down)

-- ---- it told nothing

pub returns-then-is_empty-clause-consistent : goal.returns-then-is_empty-clause-consistent
returns-then-is_empty-clause-consistent g c =
    let w = c.args.self.now in
    let i = c.args.number in
    let ys = c.tick.new.self in
    let told = c.tick.new.outputs in
    let around_it = circumstances c.occasion-occasion.result in
    let ticks : Turns i (λ x x'. Ticks around_it x x' [] told.items) w.instances ys =
    λ x x' was is. rw c.new-told.ensures.items at (c.if-not-tick.ensures.ends x x' was is) in
    let goes : GoesOnAt i w.instances ys = record {
      numbered = c.requires.consistent.numbered;
      exists = c.requires.exists;
      stays = c.tick.ensures.stays;
      up = λ x x' was is. (ticks x x' was is).up;
      others = c.tick.ensures.at;
    } in
    let none = tells_none told.items _ c.is_empty.result told.ok.0 c.is_empty.ensures c.if-is_empty.true in
    consistent_still i w _ c.requires.consistent c.tick.ensures.at
    (record { clock = refl; common = refl }) c.requires.consistent.filed
    (λ x' is.
    whole_at around_it _ x'
    (sym (ap (λ (a : Circumstances). a.rings) c.occasion-occasion.ensures))
    (sym (ap (λ (a : Circumstances). a.first) c.occasion-occasion.ensures)) (c.tick.ensures.whole x' is))
    (λ x' is.
    let x = also_there i ys w.instances c.tick.ensures.at.numbered c.requires.consistent.numbered x' is in
    quiet_ticked around_it x.0 x' told.items (ticks x.0 x' x.1 is) (c.requires.consistent.quiet i x.0 x.1))
    (λ x x' was is. member_on x x' (ticks x x' was is).up (c.tick.ensures.stays x x' was is).number)
    (past_ticks i around_it told.items w.instances ys goes ticks w.messages _ c.requires.consistent.past w.clock
    (λ name. ap (λ os. posted_over w.clock os name (posted_at name w.messages)) (sym none)))
    (reached_ticks i around_it told.items w.instances ys goes ticks w.messages _ c.requires.consistent.past
    c.requires.consistent.fresh w.clock
    (λ name. ap (λ os. posted_over w.clock os name (posted_at name w.messages)) (sym none)))

pub returns-then-is_empty-clause-left : goal.returns-then-is_empty-clause-left
returns-then-is_empty-clause-left g c up clean =
    let x = there c.args.number c.args.self.now.instances c.requires.exists in
    let x' = also_there c.args.number c.args.self.now.instances c.tick.new.self c.requires.consistent.numbered
    c.tick.ensures.at.numbered x.0 x.1 in
    left_ticked c.args.self.now c.args.number c.occasion-occasion.result.moment c.args.self.now.clock x.0
    (stop_for x'.0.up x'.0.cause) (stop_at c.args.number c.tick.new.self) (shelf_of g.R.Rows c.args.store.now)
    (shelf_of g.R.Rows c.tick.new.store) (ap (λ (a : Circumstances). a.moment) c.occasion-occasion.ensures) x.1
    (λ why. sym (stop_here c.args.number c.tick.new.self x'.0 x'.1) ∙ why)
    (c.tick.ensures.left x.0 x'.0 x.1 x'.1 (sym (up_found c.args.number c.args.self.now.instances x.0 x.1) ∙ up))
    clean

pub returns-then-is_empty-clause-idle : goal.returns-then-is_empty-clause-idle
returns-then-is_empty-clause-idle g c down =
    let x = there c.args.number c.args.self.now.instances c.requires.exists in
    c.tick.ensures.idle x.0 x.1 (sym (up_found c.args.number c.args.self.now.instances x.0 x.1) ∙ down)

-- ---- what it told wasn't put out

pub stop-requires : goal.stop-requires
stop-requires g c =
    let w = c.args.self.now in
    let i = c.args.number in
    let ys = c.tick.new.self in
    let told = c.tick.new.outputs in
    let around_it = circumstances c.occasion-occasion.result in
    let ticks : Turns i (λ x x'. Ticks around_it x x' [] told.items) w.instances ys =
    λ x x' was is. rw c.new-told.ensures.items at (c.if-not-tick.ensures.ends x x' was is) in
    let goes : GoesOnAt i w.instances ys = record {
      numbered = c.requires.consistent.numbered;
      exists = c.requires.exists;
      stays = c.tick.ensures.stays;
      up = λ x x' was is. (ticks x x' was is).up;
      others = c.tick.ensures.at;
    } in
    let failed = sym c.is_err.ensures.value ∙ c.if-is_err.true in
    consistent_but i w _ c.requires.consistent c.tick.ensures.at
    (record { clock = refl; common = refl }) (c.send_out.ensures.filed c.requires.consistent.filed) c.tick.ensures.stays
    (lost_none_ticks i around_it told.items w.instances ys goes ticks w.messages _ c.requires.consistent.past
    (when_err c.send_out.result failed c.send_out.ensures.lost))

pub returns-then-is_err-clause-turn : goal.returns-then-is_err-clause-turn
returns-then-is_err-clause-turn g c =
    let w = c.args.self.now in
    let i = c.args.number in
    let ys = c.tick.new.self in
    let told = c.tick.new.outputs in
    let around_it = circumstances c.occasion-occasion.result in
    let ticks : Turns i (λ x x'. Ticks around_it x x' [] told.items) w.instances ys =
    λ x x' was is. rw c.new-told.ensures.items at (c.if-not-tick.ensures.ends x x' was is) in
    let goes : GoesOnAt i w.instances ys = record {
      numbered = c.requires.consistent.numbered;
      exists = c.requires.exists;
      stays = c.tick.ensures.stays;
      up = λ x x' was is. (ticks x x' was is).up;
      others = c.tick.ensures.at;
    } in
    let failed = sym c.is_err.ensures.value ∙ c.if-is_err.true in
    let x = there i w.instances c.requires.exists in
    let x' = also_there i w.instances ys c.requires.consistent.numbered c.tick.ensures.at.numbered x.0 x.1 in
    stopped_turn i w _ c.stop.new.self c.requires.consistent.numbered
    (up_found i w.instances x.0 x.1
    ∙ up_telling around_it x.0 x'.0 told.items (ticks x.0 x'.0 x.1 x'.1)
    (tells_some told.items _ c.is_empty.result told.ok.0 c.is_empty.ensures c.if-is_empty.false))
    c.tick.ensures.stays c.tick.ensures.at (record { clock = refl; common = refl })
    (lost_none_ticks i around_it told.items w.instances ys goes ticks w.messages _ c.requires.consistent.past
    (when_err c.send_out.result failed c.send_out.ensures.lost))
    (when_err c.send_out.result failed c.send_out.ensures.silent) c.stop.ensures.stopped.counted
    c.stop.ensures.stopped

pub returns-then-is_err-clause-left : goal.returns-then-is_err-clause-left
returns-then-is_err-clause-left g c up clean =
    let x = there c.args.number c.args.self.now.instances c.requires.exists in
    let x' = also_there c.args.number c.args.self.now.instances c.tick.new.self c.requires.consistent.numbered
    c.tick.ensures.at.numbered x.0 x.1 in
    left_ticked c.args.self.now c.args.number c.occasion-occasion.result.moment c.args.self.now.clock x.0
    (stop_for x'.0.up x'.0.cause) (stop_at c.args.number c.stop.new.self.instances) (shelf_of g.R.Rows c.args.store.now)
    (shelf_of g.R.Rows c.tick.new.store) (ap (λ (a : Circumstances). a.moment) c.occasion-occasion.ensures) x.1
    (λ why. absurd (unrefused_memory c.args.number c.stop.new.self.instances c.stop.ensures.stopped.cause why))
    (c.tick.ensures.left x.0 x'.0 x.1 x'.1 (sym (up_found c.args.number c.args.self.now.instances x.0 x.1) ∙ up))
    clean

pub returns-then-is_err-clause-idle : goal.returns-then-is_err-clause-idle
returns-then-is_err-clause-idle g c down =
    let x = there c.args.number c.args.self.now.instances c.requires.exists in
    c.tick.ensures.idle x.0 x.1 (sym (up_found c.args.number c.args.self.now.instances x.0 x.1) ∙ down)

-- ---- what it told is put out

pub returns-else-is_err-clause-consistent : goal.returns-else-is_err-clause-consistent
returns-else-is_err-clause-consistent g c =
    let w = c.args.self.now in
    let i = c.args.number in
    let ys = c.tick.new.self in
    let told = c.tick.new.outputs in
    let around_it = circumstances c.occasion-occasion.result in
    let ticks : Turns i (λ x x'. Ticks around_it x x' [] told.items) w.instances ys =
    λ x x' was is. rw c.new-told.ensures.items at (c.if-not-tick.ensures.ends x x' was is) in
    let goes : GoesOnAt i w.instances ys = record {
      numbered = c.requires.consistent.numbered;
      exists = c.requires.exists;
      stays = c.tick.ensures.stays;
      up = λ x x' was is. (ticks x x' was is).up;
      others = c.tick.ensures.at;
    } in
    let went = sym c.is_err.ensures.value ∙ c.if-is_err.false in
    consistent_still i w _ c.requires.consistent c.tick.ensures.at
    (record { clock = refl; common = refl }) (c.send_out.ensures.filed c.requires.consistent.filed)
    (λ x' is.
    whole_at around_it _ x'
    (sym (ap (λ (a : Circumstances). a.rings) c.occasion-occasion.ensures))
    (sym (ap (λ (a : Circumstances). a.first) c.occasion-occasion.ensures)) (c.tick.ensures.whole x' is))
    (λ x' is.
    let x = also_there i ys w.instances c.tick.ensures.at.numbered c.requires.consistent.numbered x' is in
    quiet_ticked around_it x.0 x' told.items (ticks x.0 x' x.1 is) (c.requires.consistent.quiet i x.0 x.1))
    (λ x x' was is. member_on x x' (ticks x x' was is).up (c.tick.ensures.stays x x' was is).number)
    (past_ticks i around_it told.items w.instances ys goes ticks w.messages _ c.requires.consistent.past w.clock
    (when_ok c.send_out.result went c.send_out.ensures.posts))
    (reached_ticks i around_it told.items w.instances ys goes ticks w.messages _ c.requires.consistent.past
    c.requires.consistent.fresh w.clock (when_ok c.send_out.result went c.send_out.ensures.posts))

pub returns-else-is_err-clause-left : goal.returns-else-is_err-clause-left
returns-else-is_err-clause-left g c up clean =
    let x = there c.args.number c.args.self.now.instances c.requires.exists in
    let x' = also_there c.args.number c.args.self.now.instances c.tick.new.self c.requires.consistent.numbered
    c.tick.ensures.at.numbered x.0 x.1 in
    left_ticked c.args.self.now c.args.number c.occasion-occasion.result.moment c.args.self.now.clock x.0
    (stop_for x'.0.up x'.0.cause) (stop_at c.args.number c.tick.new.self) (shelf_of g.R.Rows c.args.store.now)
    (shelf_of g.R.Rows c.tick.new.store) (ap (λ (a : Circumstances). a.moment) c.occasion-occasion.ensures) x.1
    (λ why. sym (stop_here c.args.number c.tick.new.self x'.0 x'.1) ∙ why)
    (c.tick.ensures.left x.0 x'.0 x.1 x'.1 (sym (up_found c.args.number c.args.self.now.instances x.0 x.1) ∙ up))
    clean

pub returns-else-is_err-clause-idle : goal.returns-else-is_err-clause-idle
returns-else-is_err-clause-idle g c down =
    let x = there c.args.number c.args.self.now.instances c.requires.exists in
    c.tick.ensures.idle x.0 x.1 (sym (up_found c.args.number c.args.self.now.instances x.0 x.1) ∙ down)
