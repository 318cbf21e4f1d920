use Rattle.std.proofs.Common.{◌≡◌, ◌∙◌, Option, ap, arith, is_some, refl, subst, true}
use Rattle.am_cluster.specs.Events.{Crash}
use Rattle.am_cluster.specs.Refused.{Refused}
use Rattle.am_cluster.specs.Roster.{Crashes}
use Rattle.am_world.specs.Consistent.{around, over}
use Rattle.am_world.specs.Places.{incarnations_of, up_at}
use Rattle.am_world.specs.Stopping.{Step}
use Rattle.am_world.specs.declared.state.State.{State}
use Rattle.am_world.proofs.KeptCrash.{crash_refused, crash_taken, goes_down, kept_crash}
use Rattle.am_world.proofs.KeptRefusedRing.{step_refused}
use Rattle.am_world.proofs.Placed.{consistent_but_all}
use Rattle.am_world.proofs.Stopped.{backed_stopped, consistent_stopped}
use Rattle.am_world.proofs.state.State.on_crash.Goals as goal

-- ---- it isn't up

pub returns-in_default-clause-step : goal.returns-in_default-clause-step
returns-in_default-clause-step c shelves backed =
    step_refused c.args.self.now (Crashes c.args.instance)
    (ap (λ (o : Option Refused). is_some o) (crash_refused c.args.self.now c.args.instance c.in_default.ensures.none))
    shelves

pub returns-in_default-clause-refused : goal.returns-in_default-clause-refused
returns-in_default-clause-refused c = rw (crash_refused c.args.self.now c.args.instance c.in_default.ensures.none) refl

-- ---- it goes down

pub returns-clause-step : goal.returns-clause-step
returns-clause-step c shelves backed =
    let w = c.args.self.now in
    let n = c.in-Some.number in
    let up : up_at n w.instances ≡ true = ap (λ k. up_at k w.instances) c.in-Some.ensures.at ∙ c.in-Some.ensures.up in
    let w' : State = record w { instances = c.shut.new.self } in
    subst (λ k. Step (over w shelves) (Crash k) (over w' shelves)) c.in-Some.ensures.at
    (kept_crash w w' n up (record {
      numbered = c.requires.numbered;
      exists = c.in-Some.ensures.exists;
      leaves = c.shut.ensures.leaves;
      stays = c.shut.ensures.stays;
      change = c.shut.ensures.at;
      clock = refl;
      messages = refl;
      outputs = refl;
      faults = refl;
      limits = refl;
      service_key = refl;
      first = refl;
    }) refl shelves backed)

pub returns-clause-refused : goal.returns-clause-refused
returns-clause-refused c = rw (crash_taken c.args.self.now c.args.instance c.in-Some.ensures.up) refl

pub returns-clause-consistent : goal.returns-clause-consistent
returns-clause-consistent c =
    let w = c.args.self.now in
    let n = c.in-Some.number in
    consistent_stopped n w _ (consistent_but_all n w c.requires) c.shut.ensures.at
    (goes_down n w.instances c.shut.new.self c.requires.numbered c.shut.ensures.at c.shut.ensures.leaves) refl refl refl
    (c.shut.ensures.whole (around w.clock w.common (incarnations_of c.shut.new.self)))
    (λ x x' was is. let same = (c.shut.ensures.stays x x' was is).incarnation in omega (arith, same))

pub returns-clause-backed : goal.returns-clause-backed
returns-clause-backed c shelves backed =
    let w = c.args.self.now in
    let n = c.in-Some.number in
    backed_stopped n w.instances c.shut.new.self c.shut.ensures.at
    (goes_down n w.instances c.shut.new.self c.requires.numbered c.shut.ensures.at c.shut.ensures.leaves) shelves
    (record { size = backed.size; each = λ j apart. backed.each j })
