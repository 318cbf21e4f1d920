use Rattle.std.proofs.Common.{refl, sym, take}
use Rattle.std.proofs.lemmas.List.{take_more, take_all}
use Rattle.am_world.specs.Consistent.{over}
use Rattle.am_world.specs.Shelves.{shelves_of}
use Rattle.am_world.specs.Simulation.{roster_of}
use Rattle.am_world.proofs.Rosters.{IsSound}
use Rattle.am_world.proofs.Run.{run_more, headline, prefixes}
use Rattle.am_world.proofs.RunOpened.{instances_up}
use Rattle.am_world.proofs.state.State.run.Goals as goal

pub loop-event-init : goal.loop-event-init
loop-event-init g c = record {
  ran = refl;
  consistent = c.requires.consistent;
  backed = c.requires.backed;
  clean = λ i clean. clean;
}

pub loop-event-preserved : goal.loop-event-preserved
loop-event-preserved g c =
    rw (
      take_more c.args.events.now c.loop-event.event-index c.event-item.result c.loop-event-test.true,
      ← c.event-item.is,
    ) (record {
      ran = run_more (over c.args.self.now (shelves_of g.R.Rows c.args.stores.now))
          (take c.loop-event.event-index c.args.events.now)
          (over c.loop-event.self (shelves_of g.R.Rows c.loop-event.stores)) c.event-item.result _
          c.loop-event.invariant.ran c.step.ensures.step;
      consistent = c.step.ensures.consistent;
      backed = c.step.ensures.backed;
      clean = λ i clean. c.loop-event.invariant.clean i (c.step.ensures.step.clean i clean);
    })

pub returns : goal.returns
returns g c =
    let run = rw (take_all c.loop-event.event-index c.args.events.now c.loop-event-test.false)
    at c.loop-event.invariant.ran in
    let first = over c.args.self.now (shelves_of g.R.Rows c.args.stores.now) in
    let sound : IsSound (roster_of c.args.self.now) = record {
      up = instances_up c.args.self.now c.requires.consistent.numbered;
      ordered = sym c.requires.consistent.ring;
    } in
    record {
      steps = run;
      headline = headline first c.args.events.now _ sound run;
      prefixes = prefixes first c.args.events.now _ sound run;
      consistent = c.loop-event.invariant.consistent;
      clean = c.loop-event.invariant.clean;
      backed = c.loop-event.invariant.backed;
    }
