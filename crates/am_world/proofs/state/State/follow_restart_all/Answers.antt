use Rattle.std.proofs.Common.{◌≡◌, ◌∙◌, get_or, refl, subst, take}
use Rattle.std.proofs.lemmas.List.{take_all, take_more}
use Rattle.am_world.specs.Changing.{FollowsRestartAt}
use Rattle.am_world.specs.Consistent.{around}
use Rattle.am_world.proofs.InTurn.{in_turn_more}
use Rattle.am_world.proofs.state.State.follow_restart_all.Goals as goal

pub loop-number-init : goal.loop-number-init
loop-number-init c = record {
  turns = refl;
  beside = record { clock = refl; common = refl };
  consistent = c.requires;
  backed = λ shelves backed. backed;
}

pub loop-number-preserved : goal.loop-number-preserved
loop-number-preserved c =
    let w = c.args.self.now in
    let mid = c.loop-number.self in
    let new = c.follow_restart.new.self in
    let n = get_or c.args.numbers.now c.loop-number.number-index 0 in
    let ks = c.args.incarnations.now in
    let before = c.loop-number.invariant in
    let turn = c.follow_restart.ensures.turn in
    let same : around mid.clock mid.common ks ≡ around w.clock w.common ks =
    (λ d. around (before.beside.clock d) (before.beside.common d) ks) in
    rw (take_more c.args.numbers.now c.loop-number.number-index 0 c.loop-number-test.true) (record {
      turns = in_turn_more (FollowsRestartAt (around w.clock w.common ks) c.args.restarted)
          (take c.loop-number.number-index c.args.numbers.now) n w mid new before.turns
          (subst (λ a. FollowsRestartAt a c.args.restarted n mid new) same turn);
      beside = record {
        clock = turn.beside.clock ∙ before.beside.clock;
        common = turn.beside.common ∙ before.beside.common;
      };
      consistent = c.follow_restart.ensures.consistent;
      backed = λ shelves backed. c.follow_restart.ensures.backed shelves (before.backed shelves backed);
    })

pub returns-clause-turns : goal.returns-clause-turns
returns-clause-turns c =
    rw (take_all c.loop-number.number-index c.args.numbers.now c.loop-number-test.false)
    at c.loop-number.invariant.turns
