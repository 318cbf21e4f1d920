use Rattle.std.proofs.Common.{◌∙◌, false, refl, sym, true}
use Rattle.am_world.proofs.InstancesAwaiting.{awaits_down, awaits_here, awaits_nowhere}
use Rattle.am_world.proofs.InstancesLemmas.{exists_here, number_of}
use Rattle.am_world.proofs.instances.Instances.awaiting.Goals.{in_default-via-in-Some+else-is_up}
use Rattle.am_world.proofs.instances.Instances.awaiting.Goals.{in_default-via-in-Some+then-is_up+else-is_awaiting}
use Rattle.am_world.proofs.instances.Instances.awaiting.Goals.{in_default-via-in_default}
use Rattle.am_world.proofs.instances.Instances.awaiting.Goals as goal

pub returns-in-Some-clause-awaits : goal.returns-in-Some-clause-awaits
returns-in-Some-clause-awaits c =
    awaits_here c.args.attempt.now c.args.tries c.args.self.now _ c.is_up.result c.is_awaiting.result true
    (sym c.in-Some.ensures) c.is_up.ensures c.is_awaiting.ensures (rw (c.if-is_up.true, c.if-is_awaiting.true) refl)

pub returns-in-Some-clause-at : goal.returns-in-Some-clause-at
returns-in-Some-clause-at c =
    c.number.ensures ∙ number_of c.args.attempt.now.instance c.args.self.now _ (sym c.in-Some.ensures)

pub returns-in-Some-clause-exists : goal.returns-in-Some-clause-exists
returns-in-Some-clause-exists c =
    rw (c.number.ensures ∙ number_of c.args.attempt.now.instance c.args.self.now _ (sym c.in-Some.ensures))
    (exists_here c.args.attempt.now.instance c.args.self.now _ (sym c.in-Some.ensures))

pub returns-in_default-clause-none : goal.returns-in_default-clause-none
returns-in_default-clause-none c = elim c.in_default.branch [
  | in_default-via-in-Some+then-is_up+else-is_awaiting w ↦
      awaits_here c.args.attempt.now c.args.tries c.args.self.now _ w.is_up.result w.is_awaiting.result false
      (sym w.in-Some.ensures) w.is_up.ensures w.is_awaiting.ensures
      (rw (w.if-is_up.true, w.if-is_awaiting.false) refl)
  | in_default-via-in-Some+else-is_up w ↦
      awaits_down c.args.attempt.now c.args.tries c.args.self.now _ (sym w.in-Some.ensures)
      (sym w.is_up.ensures ∙ w.if-is_up.false)
  | in_default-via-in_default w ↦
      awaits_nowhere c.args.attempt.now c.args.tries c.args.self.now (sym w.in_default.ensures)
]
