use Rattle.std.proofs.Common.{◌≡◌, ◌∙◌, ap, inl, inr, refl, subst, sym, true}
use Rattle.am_cluster.specs.RingChanges.{other_restarted}
use Rattle.am_item.specs.declared.fault.Fault.TheVariants.{OutOfMemory}
use Rattle.am_instance.specs.Changing.{StopsReactingAll}
use Rattle.am_instance.specs.Here.{Circumstances, circumstances}
use Rattle.am_world.specs.Changing.{FailsToFollow, FollowsRestart, FollowsRestartAt}
use Rattle.am_world.specs.Consistent.{around, around_at}
use Rattle.am_world.specs.Places.{Turns, up_at}
use Rattle.am_world.proofs.ComesUp.{ends_stopped}
use Rattle.am_world.proofs.Fresh.{CountsOn}
use Rattle.am_world.proofs.KeptQuietWhole.{backed_but, up_here}
use Rattle.am_world.proofs.Placed.{also_there, backed_after, consistent_but, consistent_still}
use Rattle.am_world.proofs.RunPlaces.{elsewhere_then}
use Rattle.am_world.proofs.TickTaken.{when_err, when_ok}
use Rattle.am_world.proofs.Turned.{member_on, quiet_up, same_node, whole_at}
use Rattle.am_world.proofs.TurnsCounted.{follows_on}
use Rattle.am_world.proofs.TurnsTaken.{idle_turn, none_lost_after, past_after, reached_after, up_turn}
use Rattle.am_world.proofs.state.State.follow_restart.Goals as goal

-- ---- it is down

pub returns-in_default-clause-turn : goal.returns-in_default-clause-turn
returns-in_default-clause-turn c =
    let w = c.args.self.now in
    let a = around w.clock w.common c.args.incarnations.now in
    idle_turn c.args.number (FollowsRestart a c.args.restarted) (FailsToFollow a c.args.restarted) w
    c.requires.numbered c.in_default.ensures.none

pub follow_restart-requires : goal.follow_restart-requires
follow_restart-requires c x found =
    whole_at (around_at c.args.self.now.clock c.args.self.now) (circumstances c.occasion-occasion.result) x
    (ap (λ (a : Circumstances). a.rings) c.occasion-occasion.ensures)
    (ap (λ (a : Circumstances). a.first) c.occasion-occasion.ensures)
    (c.requires.whole c.in-Some.number x found)

-- ---- it stopped

pub stop-requires : goal.stop-requires
stop-requires c =
    consistent_but c.in-Some.number c.args.self.now _ c.requires c.follow_restart.ensures.at
    (record { clock = refl; common = refl }) c.requires.filed
    (λ x x' was is. same_node x x' (c.follow_restart.ensures.stays x x' was is).goes) (λ name. refl)

pub returns-in-Err-clause-turn : goal.returns-in-Err-clause-turn
returns-in-Err-clause-turn c =
    let w = c.args.self.now in
    let i = c.in-Some.number in
    let r = c.args.restarted in
    let a = around w.clock w.common c.args.incarnations.now in
    let same : circumstances c.occasion-occasion.result ≡ a = c.occasion-occasion.ensures in
    let up : up_at i w.instances ≡ true = ap (λ k. up_at k w.instances) c.in-Some.ensures.at ∙ c.in-Some.ensures.up in
    let stopped = c.stop.ensures.stopped in
    subst (λ k. FollowsRestartAt a r k w c.stop.new.self) c.in-Some.ensures.at (record {
      ends = inr (ends_stopped i (λ x. x) (FailsToFollow a r) w _ c.stop.new.self c.in-Err.fault
          c.requires.numbered c.follow_restart.ensures.at
          (λ x y was is. same_node x y (c.follow_restart.ensures.stays x y was is).goes) (λ name. refl) refl
          refl stopped
          (λ x x' was is. (
            up_here i w.instances up x was,
            subst (λ (b : Circumstances). StopsReactingAll b (λ t here. other_restarted here r) x c.in-Err.fault)
                same (c.in-Err.ensures.cause x was),
          )));
      others = record {
        numbered = stopped.others.numbered;
        others = elsewhere_then i w.instances c.follow_restart.new.self c.stop.new.self.instances
            c.follow_restart.ensures.at.others stopped.others.others;
      };
      beside = record { clock = stopped.beside.clock; common = stopped.beside.common };
    })

pub returns-in-Err-clause-backed : goal.returns-in-Err-clause-backed
returns-in-Err-clause-backed c shelves backed =
    c.stop.ensures.backed shelves
    (backed_but c.in-Some.number c.args.self.now.instances c.follow_restart.new.self
    c.follow_restart.ensures.at.others shelves backed)

-- ---- what it told wasn't put out

pub stop-requires-then-is_err : goal.stop-requires-then-is_err
stop-requires-then-is_err c =
    let w = c.args.self.now in
    let i = c.in-Some.number in
    let told = c.follow_restart.new.outputs.items in
    let around_it = circumstances c.occasion-occasion.result in
    let failed = sym c.is_err.ensures.value ∙ c.if-is_err.true in
    let up : up_at i w.instances ≡ true = ap (λ k. up_at k w.instances) c.in-Some.ensures.at ∙ c.in-Some.ensures.up in
    let on : Turns i (λ x x'. CountsOn x x' told) w.instances c.follow_restart.new.self =
    λ x x' was is.
    follows_on around_it c.args.restarted told x x'
    (rw c.new-told.ensures.items at (c.in_default-follow_restart.ensures.reacts x x' was is)) in
    consistent_but i w _ c.requires c.follow_restart.ensures.at (record { clock = refl; common = refl })
    (c.send_out.ensures.filed c.requires.filed)
    (λ x x' was is. same_node x x' (c.follow_restart.ensures.stays x x' was is).goes)
    (none_lost_after i w c.follow_restart.new.self told c.requires c.in-Some.ensures.exists up
    c.follow_restart.ensures.at c.follow_restart.ensures.stays on _
    (when_err c.send_out.result failed c.send_out.ensures.lost))

pub returns-then-is_err-clause-turn : goal.returns-then-is_err-clause-turn
returns-then-is_err-clause-turn c =
    let w = c.args.self.now in
    let i = c.in-Some.number in
    let r = c.args.restarted in
    let told = c.follow_restart.new.outputs.items in
    let a = around w.clock w.common c.args.incarnations.now in
    let around_it = circumstances c.occasion-occasion.result in
    let failed = sym c.is_err.ensures.value ∙ c.if-is_err.true in
    let up : up_at i w.instances ≡ true = ap (λ k. up_at k w.instances) c.in-Some.ensures.at ∙ c.in-Some.ensures.up in
    let on : Turns i (λ x x'. CountsOn x x' told) w.instances c.follow_restart.new.self =
    λ x x' was is.
    follows_on around_it r told x x'
    (rw c.new-told.ensures.items at (c.in_default-follow_restart.ensures.reacts x x' was is)) in
    let stopped = c.stop-then-is_err.ensures.stopped in
    subst (λ k. FollowsRestartAt a r k w c.stop-then-is_err.new.self) c.in-Some.ensures.at (record {
      ends = inr (ends_stopped i (λ x. x) (FailsToFollow a r) w _ c.stop-then-is_err.new.self OutOfMemory
          c.requires.numbered c.follow_restart.ensures.at
          (λ x y was is. same_node x y (c.follow_restart.ensures.stays x y was is).goes)
          (none_lost_after i w c.follow_restart.new.self told c.requires c.in-Some.ensures.exists up
          c.follow_restart.ensures.at c.follow_restart.ensures.stays on _
          (when_err c.send_out.result failed c.send_out.ensures.lost))
          (when_err c.send_out.result failed c.send_out.ensures.silent) refl stopped
          (λ x x' was is. (up_here i w.instances up x was, tt)));
      others = record {
        numbered = stopped.others.numbered;
        others = elsewhere_then i w.instances c.follow_restart.new.self c.stop-then-is_err.new.self.instances
            c.follow_restart.ensures.at.others stopped.others.others;
      };
      beside = record { clock = stopped.beside.clock; common = stopped.beside.common };
    })

pub returns-then-is_err-clause-backed : goal.returns-then-is_err-clause-backed
returns-then-is_err-clause-backed c shelves backed =
    c.stop-then-is_err.ensures.backed shelves
    (backed_but c.in-Some.number c.args.self.now.instances c.follow_restart.new.self
    c.follow_restart.ensures.at.others shelves backed)

-- ---- what it told is put out

pub returns-else-is_err-clause-turn : goal.returns-else-is_err-clause-turn
returns-else-is_err-clause-turn c =
    let w = c.args.self.now in
    let i = c.in-Some.number in
    let r = c.args.restarted in
    let told = c.follow_restart.new.outputs.items in
    let a = around w.clock w.common c.args.incarnations.now in
    let same : circumstances c.occasion-occasion.result ≡ a = c.occasion-occasion.ensures in
    let went = sym c.is_err.ensures.value ∙ c.if-is_err.false in
    let up : up_at i w.instances ≡ true = ap (λ k. up_at k w.instances) c.in-Some.ensures.at ∙ c.in-Some.ensures.up in
    subst (λ k. FollowsRestartAt a r k w (record w { instances = c.follow_restart.new.self; messages = c.send_out.new.messages; outputs = c.send_out.new.outputs })) c.in-Some.ensures.at (record {
      ends = inl (record {
        told = told;
        acts = λ x x' was is.
            up_turn (FollowsRestart a r) told x x' (up_here i w.instances up x was)
            (c.follow_restart.ensures.stays x x' was is)
            (subst (λ (b : Circumstances). FollowsRestart b r told x x') same
            (rw c.new-told.ensures.items at (c.in_default-follow_restart.ensures.reacts x x' was is)));
        node = λ x x' was is. same_node x x' (c.follow_restart.ensures.stays x x' was is).goes;
        posts = when_ok c.send_out.result went c.send_out.ensures.posts;
        appended = when_ok c.send_out.result went c.send_out.ensures.appended;
        faults = refl;
      });
      others = c.follow_restart.ensures.at;
      beside = record { clock = refl; common = refl };
    })

pub returns-else-is_err-clause-consistent : goal.returns-else-is_err-clause-consistent
returns-else-is_err-clause-consistent c =
    let w = c.args.self.now in
    let i = c.in-Some.number in
    let ys = c.follow_restart.new.self in
    let told = c.follow_restart.new.outputs.items in
    let around_it = circumstances c.occasion-occasion.result in
    let went = sym c.is_err.ensures.value ∙ c.if-is_err.false in
    let up : up_at i w.instances ≡ true = ap (λ k. up_at k w.instances) c.in-Some.ensures.at ∙ c.in-Some.ensures.up in
    let on : Turns i (λ x x'. CountsOn x x' told) w.instances ys =
    λ x x' was is.
    follows_on around_it c.args.restarted told x x'
    (rw c.new-told.ensures.items at (c.in_default-follow_restart.ensures.reacts x x' was is)) in
    consistent_still i w _ c.requires c.follow_restart.ensures.at (record { clock = refl; common = refl })
    (c.send_out.ensures.filed c.requires.filed)
    (λ x' is.
    whole_at around_it _ x'
    (sym (ap (λ (a : Circumstances). a.rings) c.occasion-occasion.ensures))
    (sym (ap (λ (a : Circumstances). a.first) c.occasion-occasion.ensures))
    (c.in_default-follow_restart.ensures.whole x' is))
    (λ x' is.
    let x = also_there i ys w.instances c.follow_restart.ensures.at.numbered c.requires.numbered x' is in
    quiet_up x' ((c.follow_restart.ensures.stays x.0 x' x.1 is).goes.up ∙ up_here i w.instances up x.0 x.1))
    (λ x x' was is. let on = (c.follow_restart.ensures.stays x x' was is).goes in member_on x x' on.up on.number)
    (past_after i w ys told c.requires c.in-Some.ensures.exists up c.follow_restart.ensures.at
    c.follow_restart.ensures.stays on w.clock _ (when_ok c.send_out.result went c.send_out.ensures.posts))
    (reached_after i w ys told c.requires c.in-Some.ensures.exists up c.follow_restart.ensures.at
    c.follow_restart.ensures.stays on w.clock _ (when_ok c.send_out.result went c.send_out.ensures.posts))

pub returns-else-is_err-clause-backed : goal.returns-else-is_err-clause-backed
returns-else-is_err-clause-backed c shelves backed =
    backed_after c.in-Some.number c.args.self.now.instances c.follow_restart.new.self c.requires.numbered
    c.follow_restart.ensures.at c.follow_restart.ensures.backed shelves backed
