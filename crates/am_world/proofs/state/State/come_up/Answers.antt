use Rattle.std.proofs.Common.{◌≡◌, ◌⊎◌, ◌∙◌, [], None, Some, ap, inl, inr, refl, subst, sym}
use Rattle.am_cluster.specs.Rings.{newest_ring}
use Rattle.am_rows.specs.Refusing.{MayRefuse}
use Rattle.am_item.specs.declared.fault.Fault.TheVariants.{OutOfMemory}
use Rattle.am_instance.specs.Changing.{Restarts, StopsOpening, renewed}
use Rattle.am_instance.specs.Here.{Circumstances, circumstances, rings_on}
use Rattle.am_instance.specs.Instance.{IsSameNode}
use Rattle.am_instance.specs.Shelves.{shelf_of}
use Rattle.am_world.specs.Changing.{FailsToComeUp}
use Rattle.am_world.specs.Consistent.{around, around_at}
use Rattle.am_world.proofs.ComesUp.{any_reason, ends_stopped}
use Rattle.am_world.proofs.LearnTaken.{left_opened, opened_then_memory, stop_none, stop_told}
use Rattle.am_world.proofs.Placed.{also_there, there}
use Rattle.am_world.proofs.RunPlaces.{elsewhere_then}
use Rattle.am_world.proofs.TickTaken.{when_err, when_ok}
use Rattle.am_world.proofs.Turned.{whole_at}
use Rattle.am_world.proofs.UpConsistent.{but_renewed, consistent_opened, same_post}
use Rattle.am_world.proofs.state.State.come_up.Goals as goal

pub restart-requires-clause-down : goal.restart-requires-clause-down
restart-requires-clause-down g c x found =
    c.requires.consistent.quiet c.args.number x found (c.requires.may x found).down

pub restart-requires-clause-whole : goal.restart-requires-clause-whole
restart-requires-clause-whole g c x found =
    whole_at (around_at c.args.self.now.clock c.args.self.now) (circumstances c.occasion-occasion.result) x
    (ap (λ (a : Circumstances). a.rings) c.occasion-occasion.ensures)
    (ap (λ (a : Circumstances). a.first) c.occasion-occasion.ensures)
    (c.requires.consistent.whole c.args.number x found)

pub restart-requires-clause-next : goal.restart-requires-clause-next
restart-requires-clause-next g c x found = (c.requires.may x found).next

-- ---- it didn't start

pub stop-requires : goal.stop-requires
stop-requires g c =
    but_renewed c.args.number (circumstances c.occasion-occasion.result) c.args.self.now _ c.requires.consistent
    c.restart.ensures.at (record { clock = refl; common = refl }) c.requires.consistent.filed c.restart.ensures.stays
    (ap (λ (a : Circumstances). a.rings) c.occasion-occasion.ensures) (λ name. refl)

pub returns-in-Err-clause-turn : goal.returns-in-Err-clause-turn
returns-in-Err-clause-turn g c =
    let w = c.args.self.now in
    let i = c.args.number in
    let a = around w.clock w.common c.args.incarnations.now in
    let old = shelf_of g.R.Rows c.args.store.now in
    let new = shelf_of g.R.Rows c.restart.new.store in
    let same : circumstances c.occasion-occasion.result ≡ a = c.occasion-occasion.ensures in
    let Reason : Type 0 = g.R.Rows.is_foreign c.args.store.now ⊎ MayRefuse old.medium new.medium in
    let stopped = c.stop.ensures.stopped in
    record {
      ends = inr (ends_stopped i (renewed a) (FailsToComeUp a old new) w _ c.stop.new.self c.in-Err.fault
          c.requires.consistent.numbered c.restart.ensures.at
          (λ x y was is. subst (λ (b : Circumstances). IsSameNode (renewed b x) y) same
          (c.restart.ensures.stays x y was is)) (λ name. refl) refl refl stopped
          (λ x x' was is clean. any_reason a old.pairs Reason (renewed a x) c.in-Err.fault
          (subst (λ (b : Circumstances). StopsOpening b old.pairs Reason (renewed b x) c.in-Err.fault) same
          (c.in-Err.ensures.cause clean x was))));
      others = record {
        numbered = stopped.others.numbered;
        others = elsewhere_then i w.instances c.restart.new.self c.stop.new.self.instances
            c.restart.ensures.at.others stopped.others.others;
      };
      beside = record { clock = stopped.beside.clock; common = stopped.beside.common };
    }

pub returns-in-Err-clause-left : goal.returns-in-Err-clause-left
returns-in-Err-clause-left g c =
    let w = c.args.self.now in
    let i = c.args.number in
    let x = there i w.instances c.requires.exists in
    let z = also_there i w.instances c.stop.new.self.instances c.requires.consistent.numbered
    c.stop.ensures.stopped.others.numbered x.0 x.1 in
    left_opened i c.stop.new.self.instances (Some c.in-Err.fault) _ _ (shelf_of g.R.Rows c.args.store.now)
    (shelf_of g.R.Rows c.restart.new.store)
    (ap (λ (a : Circumstances). newest_ring (rings_on a)) c.occasion-occasion.ensures)
    (stop_told i c.in-Err.fault _ c.stop.new.self z.0 c.stop.ensures.stopped z.1) c.in-Err.ensures.left

-- ---- what it told wasn't put out

pub stop-requires-then-is_err : goal.stop-requires-then-is_err
stop-requires-then-is_err g c =
    let w = c.args.self.now in
    let i = c.args.number in
    let around_it = circumstances c.occasion-occasion.result in
    let failed = sym c.is_err.ensures.value ∙ c.if-is_err.true in
    let x = there i w.instances c.requires.exists in
    let x' = also_there i w.instances c.restart.new.self c.requires.consistent.numbered
    c.restart.ensures.at.numbered x.0 x.1 in
    but_renewed i around_it w _ c.requires.consistent c.restart.ensures.at (record { clock = refl; common = refl })
    (c.send_out.ensures.filed c.requires.consistent.filed) c.restart.ensures.stays
    (ap (λ (a : Circumstances). a.rings) c.occasion-occasion.ensures)
    (same_post i around_it w (record w { instances = c.restart.new.self; messages = c.send_out.new.messages }) x.0 x'.0 c.requires.consistent x.1 x'.1 (c.requires.may x.0 x.1)
    (shelf_of g.R.Rows c.restart.new.store).is_clean (shelf_of g.R.Rows c.args.store.now).pairs
    c.restart.new.outputs.items
    (rw c.new-told.ensures.items at (c.in_default.ensures.restarts x.0 x'.0 x.1 x'.1))
    (c.restart.ensures.stays x.0 x'.0 x.1 x'.1)
    (ap (λ (a : Circumstances). a.rings) c.occasion-occasion.ensures) c.restart.ensures.at
    (record { clock = refl; common = refl }) (c.send_out.ensures.filed c.requires.consistent.filed)
    (when_err c.send_out.result failed c.send_out.ensures.lost))

pub returns-then-is_err-clause-turn : goal.returns-then-is_err-clause-turn
returns-then-is_err-clause-turn g c =
    let w = c.args.self.now in
    let i = c.args.number in
    let a = around w.clock w.common c.args.incarnations.now in
    let around_it = circumstances c.occasion-occasion.result in
    let old = shelf_of g.R.Rows c.args.store.now in
    let new = shelf_of g.R.Rows c.restart.new.store in
    let same : around_it ≡ a = c.occasion-occasion.ensures in
    let failed = sym c.is_err.ensures.value ∙ c.if-is_err.true in
    let x = there i w.instances c.requires.exists in
    let x' = also_there i w.instances c.restart.new.self c.requires.consistent.numbered
    c.restart.ensures.at.numbered x.0 x.1 in
    let stopped = c.stop-then-is_err.ensures.stopped in
    record {
      ends = inr (ends_stopped i (renewed a) (FailsToComeUp a old new) w _ c.stop-then-is_err.new.self OutOfMemory
          c.requires.consistent.numbered c.restart.ensures.at
          (λ y y' was is. subst (λ (b : Circumstances). IsSameNode (renewed b y) y') same
          (c.restart.ensures.stays y y' was is))
          (same_post i around_it w (record w { instances = c.restart.new.self; messages = c.send_out.new.messages }) x.0 x'.0 c.requires.consistent x.1 x'.1 (c.requires.may x.0 x.1)
          new.is_clean (shelf_of g.R.Rows c.args.store.now).pairs c.restart.new.outputs.items
          (rw c.new-told.ensures.items at (c.in_default.ensures.restarts x.0 x'.0 x.1 x'.1))
          (c.restart.ensures.stays x.0 x'.0 x.1 x'.1)
          (ap (λ (b : Circumstances). b.rings) c.occasion-occasion.ensures) c.restart.ensures.at
          (record { clock = refl; common = refl }) (c.send_out.ensures.filed c.requires.consistent.filed)
          (when_err c.send_out.result failed c.send_out.ensures.lost))
          (when_err c.send_out.result failed c.send_out.ensures.silent) refl stopped (λ y y' was is clean. tt));
      others = record {
        numbered = stopped.others.numbered;
        others = elsewhere_then i w.instances c.restart.new.self c.stop-then-is_err.new.self.instances
            c.restart.ensures.at.others stopped.others.others;
      };
      beside = record { clock = stopped.beside.clock; common = stopped.beside.common };
    }

pub returns-then-is_err-clause-left : goal.returns-then-is_err-clause-left
returns-then-is_err-clause-left g c =
    let w = c.args.self.now in
    let i = c.args.number in
    let x = there i w.instances c.requires.exists in
    let z = also_there i w.instances c.stop-then-is_err.new.self.instances c.requires.consistent.numbered
    c.stop-then-is_err.ensures.stopped.others.numbered x.0 x.1 in
    let old = shelf_of g.R.Rows c.args.store.now in
    let new = shelf_of g.R.Rows c.restart.new.store in
    left_opened i c.stop-then-is_err.new.self.instances (Some OutOfMemory) _ _ old new
    (ap (λ (a : Circumstances). newest_ring (rings_on a)) c.occasion-occasion.ensures)
    (stop_told i OutOfMemory _ c.stop-then-is_err.new.self z.0 c.stop-then-is_err.ensures.stopped z.1)
    (opened_then_memory _ i old new c.in_default.ensures.left)

-- ---- it is up, and what it told is put out

pub returns-else-is_err-clause-turn : goal.returns-else-is_err-clause-turn
returns-else-is_err-clause-turn g c =
    let w = c.args.self.now in
    let a = around w.clock w.common c.args.incarnations.now in
    let same : circumstances c.occasion-occasion.result ≡ a = c.occasion-occasion.ensures in
    let went = sym c.is_err.ensures.value ∙ c.if-is_err.false in
    record {
      ends = inl (record {
        told = c.restart.new.outputs.items;
        acts = λ x x' was is.
            subst (λ (b : Circumstances). Restarts b (shelf_of g.R.Rows c.restart.new.store).is_clean
            (shelf_of g.R.Rows c.args.store.now).pairs x x' [] c.restart.new.outputs.items) same
            (rw c.new-told.ensures.items at (c.in_default.ensures.restarts x x' was is));
        node = λ x x' was is.
            subst (λ (b : Circumstances). IsSameNode (renewed b x) x') same (c.restart.ensures.stays x x' was is);
        posts = when_ok c.send_out.result went c.send_out.ensures.posts;
        appended = when_ok c.send_out.result went c.send_out.ensures.appended;
        faults = refl;
      });
      others = c.restart.ensures.at;
      beside = record { clock = refl; common = refl };
    }

pub returns-else-is_err-clause-consistent : goal.returns-else-is_err-clause-consistent
returns-else-is_err-clause-consistent g c =
    let w = c.args.self.now in
    let i = c.args.number in
    let around_it = circumstances c.occasion-occasion.result in
    let went = sym c.is_err.ensures.value ∙ c.if-is_err.false in
    let x = there i w.instances c.requires.exists in
    let x' = also_there i w.instances c.restart.new.self c.requires.consistent.numbered
    c.restart.ensures.at.numbered x.0 x.1 in
    consistent_opened i around_it w _ x.0 x'.0 c.requires.consistent x.1 x'.1 (c.requires.may x.0 x.1)
    (shelf_of g.R.Rows c.restart.new.store).is_clean (shelf_of g.R.Rows c.args.store.now).pairs
    c.restart.new.outputs.items
    (rw c.new-told.ensures.items at (c.in_default.ensures.restarts x.0 x'.0 x.1 x'.1))
    (c.restart.ensures.stays x.0 x'.0 x.1 x'.1)
    (ap (λ (a : Circumstances). a.rings) c.occasion-occasion.ensures) c.restart.ensures.at
    (record { clock = refl; common = refl }) (c.send_out.ensures.filed c.requires.consistent.filed)
    (whole_at around_it _ x'.0
    (sym (ap (λ (a : Circumstances). a.rings) c.occasion-occasion.ensures))
    (sym (ap (λ (a : Circumstances). a.first) c.occasion-occasion.ensures))
    (c.in_default.ensures.whole x'.0 x'.1))
    (when_ok c.send_out.result went c.send_out.ensures.posts)

pub returns-else-is_err-clause-left : goal.returns-else-is_err-clause-left
returns-else-is_err-clause-left g c =
    let w = c.args.self.now in
    let i = c.args.number in
    let ys = c.restart.new.self in
    let x = there i w.instances c.requires.exists in
    let x' = also_there i w.instances ys c.requires.consistent.numbered c.restart.ensures.at.numbered x.0 x.1 in
    left_opened i ys None _ _ (shelf_of g.R.Rows c.args.store.now) (shelf_of g.R.Rows c.restart.new.store)
    (ap (λ (a : Circumstances). newest_ring (rings_on a)) c.occasion-occasion.ensures)
    (stop_none i ys x'.0 x'.1 (c.in_default.ensures.restarts x.0 x'.0 x.1 x'.1).starts.up) c.in_default.ensures.left
