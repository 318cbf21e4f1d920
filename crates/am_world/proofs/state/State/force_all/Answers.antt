use Rattle.std.proofs.Common.{◌∙◌, ◌<◌, ◌≤◌, arith, get_or, refl, subst, sym, take}
use Rattle.std.proofs.lemmas.Bool.Decides.{nat_tests}
use Rattle.std.proofs.lemmas.List.{take_all, take_more}
use Rattle.am_ring.specs.Instances.{all_instances}
use Rattle.am_world.specs.Changing.{FailsToForce, ForcesAt, InTurn, IsForced, WhereUp}
use Rattle.am_world.specs.Consistent.{around_at}
use Rattle.am_world.proofs.InTurn.{in_turn_more}
use Rattle.am_world.proofs.TurnsTaken.{around_turn}
use Rattle.am_world.proofs.state.State.force_all.Goals as goal

pub loop-number-init : goal.loop-number-init
loop-number-init c = record {
  turns = refl;
  around = refl;
  consistent = c.requires;
  backed = λ shelves backed. backed;
}

pub loop-number-preserved : goal.loop-number-preserved
loop-number-preserved c =
    let w = c.args.self.now in
    let mid = c.loop-number.self in
    let new = c.force.new.self in
    let t = c.args.tenant.now in
    let i = c.loop-number.number-index in
    let low : i < 8 = c.loop-number-test.true in
    let n = get_or all_instances i 0 in
    let before = c.loop-number.invariant in
    let turn : ForcesAt (around_at mid.clock mid) t n mid new = c.force.ensures.turn in
    record {
      turns = subst (λ ns. InTurn (ForcesAt (around_at w.clock w) t) ns w new) (sym (take_more all_instances i 0 low))
          (in_turn_more (ForcesAt (around_at w.clock w) t) (take i all_instances) n w mid new before.turns
          (subst (λ a. ForcesAt a t n mid new) before.around turn));
      around = around_turn n (WhereUp (IsForced (around_at mid.clock mid) t)) (FailsToForce (around_at mid.clock mid) t)
          mid new before.consistent.numbered turn
          ∙ before.around;
      consistent = c.force.ensures.consistent;
      backed = λ shelves backed. c.force.ensures.backed shelves (before.backed shelves backed);
    }

pub returns-clause-turns : goal.returns-clause-turns
returns-clause-turns c =
    let over : 8 ≤ c.loop-number.number-index = grind (arith, nat_tests) in
    subst (λ ns. InTurn (ForcesAt (around_at c.args.self.now.clock c.args.self.now) c.args.tenant.now) ns
    c.args.self.now c.loop-number.self) (take_all c.loop-number.number-index all_instances over)
    c.loop-number.invariant.turns
