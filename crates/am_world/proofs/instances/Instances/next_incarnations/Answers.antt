use Rattle.std.proofs.Common.{◌∙◌, ap, sym, arith}
use Rattle.am_world.specs.Places.{incarnations_of}
use Rattle.am_world.proofs.InstancesNext.{at_next, next_below}
use Rattle.am_world.proofs.instances.Instances.next_incarnations.Goals as goal

pub overflow_add-incarnations : goal.overflow_add-incarnations
overflow_add-incarnations c =
    let below = next_below c.self.inside.list.items c.place.result c.args.number c.incarnations-incarnations.result
    c.self.invariant c.place.ensures.place c.place.ensures.range
    (c.incarnations-incarnations.ensures ∙ ap incarnations_of (sym c.self.view_is))
    (rw (← c.self.view_is) at c.requires) in
    omega (arith, below)

pub returns : goal.returns
returns c =
    rw (← c.self.view_is) (at_next c.self.inside.list.items c.place.result c.args.number
    c.incarnations-incarnations.result c.self.invariant c.place.ensures.place c.place.ensures.range
    (c.incarnations-incarnations.ensures ∙ ap incarnations_of (sym c.self.view_is)))
