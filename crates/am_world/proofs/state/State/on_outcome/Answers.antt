use Rattle.std.proofs.Common.{◌≡◌, ◌∙◌, ◌==◌, ap, false, inl, inr, refl, sym, arith}
use Rattle.std.proofs.lemmas.Bool.Decides.{nat_tests}
use Rattle.am_cluster.specs.Events.{Outcome}
use Rattle.am_cluster.specs.Moments.{is_too_late}
use Rattle.am_world.specs.Places.{up_at}
use Rattle.am_world.proofs.Beside.{step_beside}
use Rattle.am_world.proofs.Faults.{faulted_at, step_faulted}
use Rattle.am_world.proofs.KeptOutcome.{awaits_up, kept_outcome, kept_unawaited}
use Rattle.am_world.proofs.KeptQuietWhole.{backed_but, up_here}
use Rattle.am_world.proofs.Placed.{backed_after}
use Rattle.am_world.proofs.state.State.on_outcome.Goals as goal

pub returns-then-moment-gt-LAST_MOMENT-clause-step : goal.returns-then-moment-gt-LAST_MOMENT-clause-step
returns-then-moment-gt-LAST_MOMENT-clause-step c =
    step_beside c.args.self.now (Outcome c.args.attempt.now c.args.ended.tries c.args.moment c.args.ended.status)
    c.args.self.now refl
    (kept_unawaited c.args.self.now c.args.attempt.now c.args.ended.tries c.args.moment c.args.ended.status
    (inl (grind (arith, nat_tests))))

pub returns-in_default-clause-step : goal.returns-in_default-clause-step
returns-in_default-clause-step c =
    step_beside c.args.self.now (Outcome c.args.attempt.now c.args.ended.tries c.args.moment c.args.ended.status)
    c.args.self.now refl
    (kept_unawaited c.args.self.now c.args.attempt.now c.args.ended.tries c.args.moment c.args.ended.status
    (inr c.in_default.ensures.none))

pub take_outcome-requires-clause-up : goal.take_outcome-requires-clause-up
take_outcome-requires-clause-up c =
    up_here c.in-Some.instance c.args.self.now.instances
    (ap (λ k. up_at k c.args.self.now.instances) c.in-Some.ensures.at
    ∙ awaits_up c.args.attempt.now c.args.ended.tries c.args.self.now.instances c.in-Some.ensures.awaits)

pub returns-in-Ok-clause-step : goal.returns-in-Ok-clause-step
returns-in-Ok-clause-step c =
    step_beside c.args.self.now (Outcome c.args.attempt.now c.args.ended.tries c.args.moment c.args.ended.status) _ refl
    (kept_outcome c.args.self.now c.take_outcome.new.self c.args.attempt.now c.args.ended.tries c.args.moment
    c.args.ended.status (grind (arith, nat_tests)) c.in-Some.ensures.awaits c.requires
    (rw (c.in-Some.ensures.at, c.effective-at.ensures) at c.in-Ok.ensures.does)
    (rw c.in-Some.ensures.at at c.take_outcome.ensures.stays))

pub returns-in-Err-clause-step : goal.returns-in-Err-clause-step
returns-in-Err-clause-step c =
    let allowed : is_too_late c.args.moment ≡ false = grind (arith, nat_tests) in
    step_faulted c.args.self.now (Outcome c.args.attempt.now c.args.ended.tries c.args.moment c.args.ended.status)
    c.stop.new.self (λ shelves. faulted_at c.args.self.now c.take_outcome.new.self c.stop.new.self shelves shelves
    (Outcome c.args.attempt.now c.args.ended.tries c.args.moment c.args.ended.status) c.in-Some.instance c.in-Err.fault
    (rw (allowed, c.in-Some.ensures.awaits) refl) refl
    (λ j. ap (λ k. j == k) (sym c.in-Some.ensures.at)) refl (λ posted. refl) c.requires.numbered
    c.in-Err.ensures.fails c.stop.ensures.stopped (rw c.effective-at.ensures at c.in-Err.ensures.cause))

pub returns-in-Ok-clause-backed : goal.returns-in-Ok-clause-backed
returns-in-Ok-clause-backed c =
    backed_after c.in-Some.instance c.args.self.now.instances c.take_outcome.new.self.instances c.requires.numbered
    c.in-Ok.ensures.does.others c.in-Ok.ensures.backed

pub returns-in-Err-clause-backed : goal.returns-in-Err-clause-backed
returns-in-Err-clause-backed c shelves backed =
    c.stop.ensures.backed shelves
    (backed_but c.in-Some.instance c.args.self.now.instances c.take_outcome.new.self.instances
    c.in-Err.ensures.fails.others.others shelves backed)
