use Rattle.std.proofs.Common.{◌≡◌, ◌==◌, ap, refl, subst, sym, true}
use Rattle.am_cluster.specs.Events.{Open}
use Rattle.am_item.specs.declared.fault.Fault.TheVariants.{OutOfMemory}
use Rattle.am_world.specs.Places.{At}
use Rattle.am_world.proofs.Beside.{step_beside}
use Rattle.am_world.proofs.Faults.{fails_alone, faulted_at, step_faulted}
use Rattle.am_world.proofs.KeptQuiet.{kept_open, rest_same}
use Rattle.am_world.proofs.KeptQuietRefused.{kept_not_up}
use Rattle.am_world.proofs.KeptQuietWhole.{backed_but, backed_rest, consistent_rest, goes_same, up_here}
use Rattle.am_world.proofs.Placed.{consistent_but}
use Rattle.am_world.proofs.state.State.on_open.Goals as goal

pub returns-in_default-clause-step : goal.returns-in_default-clause-step
returns-in_default-clause-step c =
    step_beside c.args.self.now (Open c.args.connection c.args.instance) c.args.self.now refl
    (kept_not_up c.args.self.now c.args.connection c.args.instance c.in_default.ensures.none)

pub stop-requires : goal.stop-requires
stop-requires c =
    consistent_but c.in-Some.number c.args.self.now _ c.requires
    (record { numbered = c.begin.ensures.numbered; others = c.in-Err.ensures.others })
    (record { clock = refl; common = refl }) c.requires.filed
    (goes_same c.in-Some.number c.args.self.now.instances c.begin.new.self c.begin.ensures.same)
    (λ name. refl)

pub returns-in-Ok-clause-step : goal.returns-in-Ok-clause-step
returns-in-Ok-clause-step c =
    step_beside c.args.self.now (Open c.args.connection c.args.instance) _ refl
    (kept_open c.args.self.now _ c.args.connection c.args.instance c.in-Some.ensures.up
    (rw c.in-Some.ensures.at at c.in-Ok.ensures.reading)
    (rest_same c.args.self.now _ refl refl refl c.requires.numbered c.begin.ensures.numbered c.in-Ok.ensures.beside)
    refl refl)

pub returns-in-Ok-clause-consistent : goal.returns-in-Ok-clause-consistent
returns-in-Ok-clause-consistent c =
    let up = subst (λ i. At i (λ x. x.up ≡ true) c.args.self.now.instances) (sym c.in-Some.ensures.at)
    (up_here c.args.instance c.args.self.now.instances c.in-Some.ensures.up) in
    consistent_rest c.args.self.now _ c.requires refl refl refl c.begin.ensures.numbered
    c.in-Ok.ensures.beside (λ i. c.in-Ok.ensures.quiet i (c.requires.quiet i) up)

pub returns-in-Ok-clause-backed : goal.returns-in-Ok-clause-backed
returns-in-Ok-clause-backed c =
    backed_rest c.args.self.now.instances c.begin.new.self c.requires.numbered c.begin.ensures.numbered
    c.in-Ok.ensures.beside

pub returns-in-Err-clause-step : goal.returns-in-Err-clause-step
returns-in-Err-clause-step c =
    step_faulted c.args.self.now (Open c.args.connection c.args.instance) c.stop.new.self
    (λ shelves. faulted_at c.args.self.now _ c.stop.new.self shelves shelves _ c.in-Some.number OutOfMemory
    (rw c.in-Some.ensures.up refl) refl (λ j. ap (λ k. j == k) (sym c.in-Some.ensures.at)) refl (λ posted. refl)
    c.requires.numbered
    (fails_alone c.in-Some.number c.args.self.now c.begin.new.self c.begin.ensures.numbered c.in-Err.ensures.others
    c.begin.ensures.same)
    c.stop.ensures.stopped refl)

pub returns-in-Err-clause-backed : goal.returns-in-Err-clause-backed
returns-in-Err-clause-backed c shelves backed =
    c.stop.ensures.backed shelves
    (backed_but c.in-Some.number c.args.self.now.instances c.begin.new.self c.in-Err.ensures.others shelves backed)
