use Rattle.std.proofs.Common.{◌≡◌, ◌∙◌, [], ap, inl, inr, refl, subst, sym, true}
use Rattle.std.proofs.lemmas.List.{append-nil}
use Rattle.am_cluster.proofs.Counted.{forced_counted}
use Rattle.am_cluster.specs.Transfers.{forced}
use Rattle.am_instance.specs.Changing.{StopsForcing}
use Rattle.am_instance.specs.Here.{Circumstances, circumstances}
use Rattle.am_instance.specs.Instance.{refused_in}
use Rattle.am_instance.specs.Reacting.{Reacts}
use Rattle.am_world.specs.Changing.{FailsToForce, ForcesAt, IsForced}
use Rattle.am_world.specs.Consistent.{around, around_at}
use Rattle.am_world.specs.Places.{Turns, up_at}
use Rattle.am_world.specs.Simulation.{put_out}
use Rattle.am_world.proofs.ComesUp.{ends_stopped}
use Rattle.am_world.proofs.Fresh.{CountsOn, reacts_on}
use Rattle.am_world.proofs.KeptQuietWhole.{backed_but, up_here}
use Rattle.am_world.proofs.Placed.{also_there, backed_after, consistent_but, consistent_still}
use Rattle.am_world.proofs.RingOwn.{forced_own}
use Rattle.am_world.proofs.RunPlaces.{elsewhere_then}
use Rattle.am_world.proofs.Turned.{member_on, quiet_up, same_node, whole_at}
use Rattle.am_world.proofs.TurnsTaken.{idle_turn, past_after, reached_after, up_turn}
use Rattle.am_world.proofs.state.State.force.Goals as goal

-- ---- it is down

pub returns-in_default-clause-turn : goal.returns-in_default-clause-turn
returns-in_default-clause-turn c =
    let w = c.args.self.now in
    let a = around_at w.clock w in
    idle_turn c.args.number (IsForced a c.args.tenant.now) (FailsToForce a c.args.tenant.now) w c.requires.numbered
    c.in_default.ensures.none

pub force-requires-clause-up : goal.force-requires-clause-up
force-requires-clause-up c x found =
    let w = c.args.self.now in
    let i = c.in-Some.number in
    let up : up_at i w.instances ≡ true = ap (λ k. up_at k w.instances) c.in-Some.ensures.at ∙ c.in-Some.ensures.up in
    up_here i w.instances up x found

pub force-requires-clause-whole : goal.force-requires-clause-whole
force-requires-clause-whole c x found =
    whole_at (around_at c.args.self.now.clock c.args.self.now) (circumstances c.occasion-occasion.result) x
    (ap (λ (a : Circumstances). a.rings) c.occasion-occasion.ensures)
    (ap (λ (a : Circumstances). a.first) c.occasion-occasion.ensures)
    (c.requires.whole c.in-Some.number x found)

-- ---- it stopped

pub stop-requires : goal.stop-requires
stop-requires c =
    consistent_but c.in-Some.number c.args.self.now _ c.requires c.force.ensures.at
    (record { clock = refl; common = refl }) c.requires.filed
    (λ x x' was is. same_node x x' (c.force.ensures.stays x x' was is).goes) (λ name. refl)

pub returns-in-Err-clause-turn : goal.returns-in-Err-clause-turn
returns-in-Err-clause-turn c =
    let w = c.args.self.now in
    let i = c.in-Some.number in
    let t = c.args.tenant.now in
    let a = around_at w.clock w in
    let ys = c.force.new.self in
    let same : circumstances c.occasion-occasion.result ≡ a =
    c.occasion-occasion.ensures ∙ ap (around w.clock w.common) c.incarnations-incarnations.ensures in
    let up : up_at i w.instances ≡ true = ap (λ k. up_at k w.instances) c.in-Some.ensures.at ∙ c.in-Some.ensures.up in
    let stopped = c.stop.ensures.stopped in
    subst (λ k. ForcesAt a t k w c.stop.new.self) c.in-Some.ensures.at (record {
      ends = inr (ends_stopped i (λ x. x) (FailsToForce a t) w _ c.stop.new.self c.in-Err.fault
          c.requires.numbered c.force.ensures.at
          (λ x y was is. same_node x y (c.force.ensures.stays x y was is).goes) (λ name. refl) refl refl stopped
          (λ x z was is.
          let y = also_there i w.instances ys c.requires.numbered c.force.ensures.at.numbered x was in (
            up_here i w.instances up x was,
            subst (λ texts. StopsForcing a t x texts c.in-Err.fault) (sym (stopped.stays y.0 z y.1 is).1)
                (subst (λ (b : Circumstances). StopsForcing b t x (refused_in y.0) c.in-Err.fault) same
                (c.in-Err.ensures.cause x y.0 was y.1)),
          )));
      others = record {
        numbered = stopped.others.numbered;
        others = elsewhere_then i w.instances ys c.stop.new.self.instances c.force.ensures.at.others
            stopped.others.others;
      };
      beside = record { clock = stopped.beside.clock; common = stopped.beside.common };
    })

pub returns-in-Err-clause-backed : goal.returns-in-Err-clause-backed
returns-in-Err-clause-backed c shelves backed =
    c.stop.ensures.backed shelves
    (backed_but c.in-Some.number c.args.self.now.instances c.force.new.self c.force.ensures.at.others shelves backed)

-- ---- it is settled

pub returns-in_default-force-clause-turn : goal.returns-in_default-force-clause-turn
returns-in_default-force-clause-turn c =
    let w = c.args.self.now in
    let i = c.in-Some.number in
    let t = c.args.tenant.now in
    let a = around_at w.clock w in
    let same : circumstances c.occasion-occasion.result ≡ a =
    c.occasion-occasion.ensures ∙ ap (around w.clock w.common) c.incarnations-incarnations.ensures in
    let up : up_at i w.instances ≡ true = ap (λ k. up_at k w.instances) c.in-Some.ensures.at ∙ c.in-Some.ensures.up in
    subst (λ k. ForcesAt a t k w (record w { instances = c.force.new.self })) c.in-Some.ensures.at (record {
      ends = inl (record {
        told = [];
        acts = λ x x' was is.
            let did = c.in_default-force.ensures.forces x x' was is in
            up_turn (IsForced a t) [] x x' (up_here i w.instances up x was) (c.force.ensures.stays x x' was is)
            (record {
              reacts = subst (λ (b : Circumstances). Reacts b t forced x x' [] []) same did.0;
              refused = did.1;
            });
        node = λ x x' was is. same_node x x' (c.force.ensures.stays x x' was is).goes;
        posts = λ name. refl;
        appended = sym (append-nil (put_out w));
        faults = refl;
      });
      others = c.force.ensures.at;
      beside = record { clock = refl; common = refl };
    })

pub returns-in_default-force-clause-consistent : goal.returns-in_default-force-clause-consistent
returns-in_default-force-clause-consistent c =
    let w = c.args.self.now in
    let i = c.in-Some.number in
    let t = c.args.tenant.now in
    let ys = c.force.new.self in
    let around_it = circumstances c.occasion-occasion.result in
    let up : up_at i w.instances ≡ true = ap (λ k. up_at k w.instances) c.in-Some.ensures.at ∙ c.in-Some.ensures.up in
    let on : Turns i (λ x x'. CountsOn x x' []) w.instances ys =
    λ x x' was is.
    reacts_on around_it t forced x x' [] forced_counted forced_own
    (c.in_default-force.ensures.forces x x' was is).0 in
    consistent_still i w _ c.requires c.force.ensures.at (record { clock = refl; common = refl }) c.requires.filed
    (λ x' is.
    whole_at around_it _ x'
    (sym (ap (λ (a : Circumstances). a.rings) c.occasion-occasion.ensures))
    (sym (ap (λ (a : Circumstances). a.first) c.occasion-occasion.ensures))
    (c.in_default-force.ensures.whole x' is))
    (λ x' is.
    let x = also_there i ys w.instances c.force.ensures.at.numbered c.requires.numbered x' is in
    quiet_up x' ((c.force.ensures.stays x.0 x' x.1 is).goes.up ∙ up_here i w.instances up x.0 x.1))
    (λ x x' was is. let on = (c.force.ensures.stays x x' was is).goes in member_on x x' on.up on.number)
    (past_after i w ys [] c.requires c.in-Some.ensures.exists up c.force.ensures.at c.force.ensures.stays on w.clock
    w.messages (λ name. refl))
    (reached_after i w ys [] c.requires c.in-Some.ensures.exists up c.force.ensures.at c.force.ensures.stays on
    w.clock w.messages (λ name. refl))

pub returns-in_default-force-clause-backed : goal.returns-in_default-force-clause-backed
returns-in_default-force-clause-backed c shelves backed =
    backed_after c.in-Some.number c.args.self.now.instances c.force.new.self c.requires.numbered c.force.ensures.at
    c.in_default-force.ensures.backed shelves backed
