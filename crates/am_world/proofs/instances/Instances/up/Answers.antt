use Rattle.std.proofs.Common.{◌∙◌, sym}
use Rattle.am_world.proofs.InstancesLemmas.{exists_here, number_of, up_nowhere}
use Rattle.am_world.proofs.instances.Instances.up.Goals.{in_default-via-in-Some+else-is_up}
use Rattle.am_world.proofs.instances.Instances.up.Goals.{in_default-via-in_default}
use Rattle.am_world.proofs.AlonePlaces.{up_here}
use Rattle.am_world.proofs.instances.Instances.up.Goals as goal

pub returns-in-Some-clause-up : goal.returns-in-Some-clause-up
returns-in-Some-clause-up c =
    up_here c.args.number c.args.self.now _ (sym c.in-Some.ensures) ∙ sym c.is_up.ensures ∙ c.if-is_up.true

pub returns-in-Some-clause-at : goal.returns-in-Some-clause-at
returns-in-Some-clause-at c =
    c.number.ensures ∙ number_of c.args.number c.args.self.now _ (sym c.in-Some.ensures)

pub returns-in-Some-clause-exists : goal.returns-in-Some-clause-exists
returns-in-Some-clause-exists c =
    rw (c.number.ensures ∙ number_of c.args.number c.args.self.now _ (sym c.in-Some.ensures))
    (exists_here c.args.number c.args.self.now _ (sym c.in-Some.ensures))

pub returns-in_default-clause-none : goal.returns-in_default-clause-none
returns-in_default-clause-none c = elim c.in_default.branch [
  | in_default-via-in-Some+else-is_up w ↦
      up_here c.args.number c.args.self.now _ (sym w.in-Some.ensures) ∙ sym w.is_up.ensures ∙ w.if-is_up.false
  | in_default-via-in_default w ↦ up_nowhere c.args.number c.args.self.now (sym w.in_default.ensures)
]
