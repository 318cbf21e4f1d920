use Rattle.std.proofs.Common.{◌≡◌, ◌∙◌, ◌+◌, ◌<◌, List, [], None, Some, ap, arith, inl, inr, length, refl, subst, sym}
use Rattle.std.proofs.Common.{true}
use Rattle.am_item.specs.declared.fault.Fault.TheVariants.{OutOfMemory}
use Rattle.am_ring.specs.Instances.{Members}
use Rattle.am_instance.specs.Changing.{ReactsAll, StopsLearning, learned, learning, rows_held, rows_learned}
use Rattle.am_instance.specs.Here.{Circumstances, circumstances}
use Rattle.am_instance.specs.Instance.{ReadsOn, refused_in}
use Rattle.am_instance.specs.declared.instance.Instance.{Instance}
use Rattle.am_instance.specs.Shelves.{shelf_of}
use Rattle.am_world.specs.Changing.{FailsToLearn}
use Rattle.am_world.specs.Consistent.{around, around_at}
use Rattle.am_world.proofs.ComesUp.{ends_stopped}
use Rattle.am_world.proofs.FreshOn.{consistent_knowing, lost_none_on, past_on, reached_on}
use Rattle.am_world.proofs.LearnTaken.{backed_stop, left_learned, left_then_memory, stop_none, stop_told}
use Rattle.am_world.proofs.Placed.{also_there, consistent_still, there}
use Rattle.am_world.proofs.Reached.{NotEarlier}
use Rattle.am_world.proofs.RunPlaces.{elsewhere_then}
use Rattle.am_world.proofs.TickTaken.{when_err, when_ok}
use Rattle.am_world.proofs.Turned.{member_on, quiet_up, same_node, whole_at}
use Rattle.am_world.proofs.TurnsCounted.{learns_on}
use Rattle.am_world.proofs.state.State.learn.Goals as goal

same_incarnation : (x x' : Instance) → ReadsOn (learned x) x' → NotEarlier x x'
same_incarnation x x' stays =
    let same : x'.incarnation ≡ x.incarnation = stays.goes.incarnation in omega (arith, same)

pub learn-requires-clause-may : goal.learn-requires-clause-may
learn-requires-clause-may g c x found =
    let behind = c.requires.may x found in
    record {
      up = behind.up;
      next = subst (λ (rings : List Members). x.known + 1 < length rings)
          (sym (ap (λ (a : Circumstances). a.rings) c.occasion-occasion.ensures)) behind.next;
    }

pub learn-requires-clause-whole : goal.learn-requires-clause-whole
learn-requires-clause-whole g c x found =
    whole_at (around_at c.args.self.now.clock c.args.self.now) (circumstances c.occasion-occasion.result) x
    (ap (λ (a : Circumstances). a.rings) c.occasion-occasion.ensures)
    (ap (λ (a : Circumstances). a.first) c.occasion-occasion.ensures)
    (c.requires.consistent.whole c.args.number x found)

-- ---- it stopped

pub stop-requires : goal.stop-requires
stop-requires g c =
    let w = c.args.self.now in
    let i = c.args.number in
    let ys = c.learn.new.self in
    consistent_knowing i w _ c.requires.consistent c.learn.ensures.at (record { clock = refl; common = refl })
    c.requires.consistent.filed
    (λ y found.
    let x = also_there i ys w.instances c.learn.ensures.at.numbered c.requires.consistent.numbered y found in
    let next : y.known ≡ x.0.known + 1 = (c.learn.ensures.stays x.0 y x.1 found).goes.known in
    let less : x.0.known + 1 < length w.common.rings.items = (c.requires.may x.0 x.1).next in
    omega (arith, next, less))
    (λ y y' was is. same_incarnation y y' (c.learn.ensures.stays y y' was is)) (λ name. refl)

pub returns-in-Err-clause-turn : goal.returns-in-Err-clause-turn
returns-in-Err-clause-turn g c =
    let w = c.args.self.now in
    let i = c.args.number in
    let a = around_at w.clock w in
    let ys = c.learn.new.self in
    let same : circumstances c.occasion-occasion.result ≡ a =
    c.occasion-occasion.ensures ∙ ap (around w.clock w.common) c.incarnations-incarnations.ensures in
    let stopped = c.stop.ensures.stopped in
    record {
      ends = inr (ends_stopped i learned (FailsToLearn a) w _ c.stop.new.self c.in-Err.fault
          c.requires.consistent.numbered c.learn.ensures.at
          (λ x y was is. same_node (learned x) y (c.learn.ensures.stays x y was is).goes) (λ name. refl) refl refl
          stopped
          (λ x z was is.
          let y = also_there i w.instances ys c.requires.consistent.numbered c.learn.ensures.at.numbered x was in
          subst (λ texts. StopsLearning a x texts c.in-Err.fault) (sym (stopped.stays y.0 z y.1 is).1)
          (subst (λ (b : Circumstances). StopsLearning b x (refused_in y.0) c.in-Err.fault) same
          (c.in-Err.ensures.cause x y.0 was y.1))));
      others = record {
        numbered = stopped.others.numbered;
        others = elsewhere_then i w.instances ys c.stop.new.self.instances c.learn.ensures.at.others
            stopped.others.others;
      };
      beside = record { clock = stopped.beside.clock; common = stopped.beside.common };
    }

pub returns-in-Err-clause-backed : goal.returns-in-Err-clause-backed
returns-in-Err-clause-backed g c =
    backed_stop c.args.number c.in-Err.fault _ c.stop.new.self (shelf_of g.R.Rows c.learn.new.store)
    c.stop.ensures.stopped

pub returns-in-Err-clause-left : goal.returns-in-Err-clause-left
returns-in-Err-clause-left g c x found =
    let w = c.args.self.now in
    let i = c.args.number in
    let same : circumstances c.occasion-occasion.result ≡ around_at w.clock w =
    c.occasion-occasion.ensures ∙ ap (around w.clock w.common) c.incarnations-incarnations.ensures in
    let z = also_there i w.instances c.stop.new.self.instances c.requires.consistent.numbered
    c.stop.ensures.stopped.others.numbered x found in
    left_learned i c.stop.new.self.instances (Some c.in-Err.fault) _ _ x (shelf_of g.R.Rows c.args.store.now)
    (shelf_of g.R.Rows c.learn.new.store) same
    (stop_told i c.in-Err.fault _ c.stop.new.self z.0 c.stop.ensures.stopped z.1) (c.in-Err.ensures.left x found)

-- ---- what it told wasn't put out

pub stop-requires-then-is_err : goal.stop-requires-then-is_err
stop-requires-then-is_err g c =
    let w = c.args.self.now in
    let i = c.args.number in
    let ys = c.learn.new.self in
    let told = c.learn.new.outputs.items in
    let around_it = circumstances c.occasion-occasion.result in
    let failed = sym c.is_err.ensures.value ∙ c.if-is_err.true in
    let x = there i w.instances c.requires.exists in
    let x' = also_there i w.instances ys c.requires.consistent.numbered c.learn.ensures.at.numbered x.0 x.1 in
    let goes = (c.learn.ensures.stays x.0 x'.0 x.1 x'.1).goes in
    consistent_knowing i w _ c.requires.consistent c.learn.ensures.at (record { clock = refl; common = refl })
    (c.send_out.ensures.filed c.requires.consistent.filed)
    (λ y found. subst (λ (rings : List Members). y.known < length rings)
    (ap (λ (a : Circumstances). a.rings) c.occasion-occasion.ensures) (c.in_default.ensures.whole y found).known)
    (λ y y' was is. same_incarnation y y' (c.learn.ensures.stays y y' was is))
    (lost_none_on i x.0 x'.0 told w.instances ys x.1 x'.1 c.learn.ensures.at.others goes.up goes.incarnation
    (learns_on around_it told x.0 x'.0
    (rw c.new-told.ensures.items at (c.in_default.ensures.learns x.0 x'.0 x.1 x'.1)))
    w.messages c.requires.consistent.past c.requires.consistent.fresh (c.requires.may x.0 x.1).up _
    (when_err c.send_out.result failed c.send_out.ensures.lost))

pub returns-then-is_err-clause-turn : goal.returns-then-is_err-clause-turn
returns-then-is_err-clause-turn g c =
    let w = c.args.self.now in
    let i = c.args.number in
    let ys = c.learn.new.self in
    let told = c.learn.new.outputs.items in
    let around_it = circumstances c.occasion-occasion.result in
    let failed = sym c.is_err.ensures.value ∙ c.if-is_err.true in
    let x = there i w.instances c.requires.exists in
    let x' = also_there i w.instances ys c.requires.consistent.numbered c.learn.ensures.at.numbered x.0 x.1 in
    let goes = (c.learn.ensures.stays x.0 x'.0 x.1 x'.1).goes in
    let stopped = c.stop-then-is_err.ensures.stopped in
    record {
      ends = inr (ends_stopped i learned (FailsToLearn (around_at w.clock w)) w _ c.stop-then-is_err.new.self
          OutOfMemory c.requires.consistent.numbered c.learn.ensures.at
          (λ y y' was is. same_node (learned y) y' (c.learn.ensures.stays y y' was is).goes)
          (lost_none_on i x.0 x'.0 told w.instances ys x.1 x'.1 c.learn.ensures.at.others goes.up goes.incarnation
          (learns_on around_it told x.0 x'.0
          (rw c.new-told.ensures.items at (c.in_default.ensures.learns x.0 x'.0 x.1 x'.1)))
          w.messages c.requires.consistent.past c.requires.consistent.fresh (c.requires.may x.0 x.1).up _
          (when_err c.send_out.result failed c.send_out.ensures.lost))
          (when_err c.send_out.result failed c.send_out.ensures.silent) refl stopped (λ y z was is. tt));
      others = record {
        numbered = stopped.others.numbered;
        others = elsewhere_then i w.instances ys c.stop-then-is_err.new.self.instances
            c.learn.ensures.at.others stopped.others.others;
      };
      beside = record { clock = stopped.beside.clock; common = stopped.beside.common };
    }

pub returns-then-is_err-clause-backed : goal.returns-then-is_err-clause-backed
returns-then-is_err-clause-backed g c =
    backed_stop c.args.number OutOfMemory _ c.stop-then-is_err.new.self (shelf_of g.R.Rows c.learn.new.store)
    c.stop-then-is_err.ensures.stopped

pub returns-then-is_err-clause-left : goal.returns-then-is_err-clause-left
returns-then-is_err-clause-left g c x found =
    let w = c.args.self.now in
    let i = c.args.number in
    let around_it = circumstances c.occasion-occasion.result in
    let same : around_it ≡ around_at w.clock w =
    c.occasion-occasion.ensures ∙ ap (around w.clock w.common) c.incarnations-incarnations.ensures in
    let z = also_there i w.instances c.stop-then-is_err.new.self.instances c.requires.consistent.numbered
    c.stop-then-is_err.ensures.stopped.others.numbered x found in
    let old = shelf_of g.R.Rows c.args.store.now in
    let new = shelf_of g.R.Rows c.learn.new.store in
    left_learned i c.stop-then-is_err.new.self.instances (Some OutOfMemory) _ _ x old new same
    (stop_told i OutOfMemory _ c.stop-then-is_err.new.self z.0 c.stop-then-is_err.ensures.stopped z.1)
    (left_then_memory (rows_held x) (rows_learned around_it x) old new (c.in_default.ensures.left x found))

-- ---- it knows the next ring, and what it told is put out

pub returns-else-is_err-clause-turn : goal.returns-else-is_err-clause-turn
returns-else-is_err-clause-turn g c =
    let w = c.args.self.now in
    let a = around_at w.clock w in
    let told = c.learn.new.outputs.items in
    let same : circumstances c.occasion-occasion.result ≡ a =
    c.occasion-occasion.ensures ∙ ap (around w.clock w.common) c.incarnations-incarnations.ensures in
    let went = sym c.is_err.ensures.value ∙ c.if-is_err.false in
    record {
      ends = inl (record {
        told = told;
        acts = λ x x' was is.
            let stays = c.learn.ensures.stays x x' was is in
            record {
              reacts = subst (λ (b : Circumstances). ReactsAll b (learning b x) (learned x) x' [] told) same
                  (rw c.new-told.ensures.items at (c.in_default.ensures.learns x x' was is));
              up = stays.goes.up;
              front = stays.front;
            };
        node = λ x x' was is. same_node (learned x) x' (c.learn.ensures.stays x x' was is).goes;
        posts = when_ok c.send_out.result went c.send_out.ensures.posts;
        appended = when_ok c.send_out.result went c.send_out.ensures.appended;
        faults = refl;
      });
      others = c.learn.ensures.at;
      beside = record { clock = refl; common = refl };
    }

pub returns-else-is_err-clause-consistent : goal.returns-else-is_err-clause-consistent
returns-else-is_err-clause-consistent g c =
    let w = c.args.self.now in
    let i = c.args.number in
    let ys = c.learn.new.self in
    let told = c.learn.new.outputs.items in
    let around_it = circumstances c.occasion-occasion.result in
    let went = sym c.is_err.ensures.value ∙ c.if-is_err.false in
    let posts = when_ok c.send_out.result went c.send_out.ensures.posts in
    let x = there i w.instances c.requires.exists in
    let x' = also_there i w.instances ys c.requires.consistent.numbered c.learn.ensures.at.numbered x.0 x.1 in
    let goes = (c.learn.ensures.stays x.0 x'.0 x.1 x'.1).goes in
    let on = learns_on around_it told x.0 x'.0
    (rw c.new-told.ensures.items at (c.in_default.ensures.learns x.0 x'.0 x.1 x'.1)) in
    consistent_still i w _ c.requires.consistent c.learn.ensures.at (record { clock = refl; common = refl })
    (c.send_out.ensures.filed c.requires.consistent.filed)
    (λ y is.
    whole_at around_it _ y
    (sym (ap (λ (a : Circumstances). a.rings) c.occasion-occasion.ensures))
    (sym (ap (λ (a : Circumstances). a.first) c.occasion-occasion.ensures)) (c.in_default.ensures.whole y is))
    (λ y' is.
    let y = also_there i ys w.instances c.learn.ensures.at.numbered c.requires.consistent.numbered y' is in
    quiet_up y' ((c.learn.ensures.stays y.0 y' y.1 is).goes.up ∙ (c.requires.may y.0 y.1).up))
    (λ y y' was is. let stays = (c.learn.ensures.stays y y' was is).goes in member_on y y' stays.up stays.number)
    (past_on i x.0 x'.0 told w.instances ys x.1 x'.1 c.learn.ensures.at.others goes.up goes.incarnation on w.messages
    c.requires.consistent.past c.requires.consistent.fresh w.clock _ posts)
    (reached_on i x.0 x'.0 told w.instances ys x.1 x'.1 c.learn.ensures.at.others goes.up goes.incarnation on
    w.messages c.requires.consistent.past c.requires.consistent.fresh w.clock _ posts)

pub returns-else-is_err-clause-left : goal.returns-else-is_err-clause-left
returns-else-is_err-clause-left g c x found =
    let w = c.args.self.now in
    let i = c.args.number in
    let ys = c.learn.new.self in
    let same : circumstances c.occasion-occasion.result ≡ around_at w.clock w =
    c.occasion-occasion.ensures ∙ ap (around w.clock w.common) c.incarnations-incarnations.ensures in
    let x' = also_there i w.instances ys c.requires.consistent.numbered c.learn.ensures.at.numbered x found in
    left_learned i ys None _ _ x (shelf_of g.R.Rows c.args.store.now) (shelf_of g.R.Rows c.learn.new.store) same
    (stop_none i ys x'.0 x'.1 ((c.learn.ensures.stays x x'.0 found x'.1).goes.up ∙ (c.requires.may x found).up))
    (c.in_default.ensures.left x found)
