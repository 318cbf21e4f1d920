use Rattle.std.proofs.lemmas.Result.{IfErr-weaker, on_ok_weaker}
use Rattle.am_world.proofs.InstancesBacked.{backed_stored}
use Rattle.am_world.proofs.InstancesLemmas.{at_here, changed, here_at, turns_here}
use Rattle.am_world.proofs.InstancesRing.{on_ok_both}
use Rattle.am_world.proofs.instances.Instances.force.Goals as goal

pub force-requires-clause-up : goal.force-requires-clause-up
force-requires-clause-up c =
    let xs = c.self.inside.list.items in
    let here = here_at xs c.place.result c.args.number _ c.self.invariant c.place.ensures.place c.place.ensures.range
    c.index_mut.ensures.value in
    (rw (← c.self.view_is) at c.requires.up) _ here

pub force-requires-clause-whole : goal.force-requires-clause-whole
force-requires-clause-whole c =
    let xs = c.self.inside.list.items in
    let here = here_at xs c.place.result c.args.number _ c.self.invariant c.place.ensures.place c.place.ensures.range
    c.index_mut.ensures.value in
    (rw (← c.self.view_is) at c.requires.whole) _ here

pub invariant_of-self : goal.invariant_of-self
invariant_of-self c =
    let xs = c.self.inside.list.items in
    let change = changed xs c.place.result c.args.number _ c.force.new.self c.self.invariant
    c.place.ensures.place c.place.ensures.range c.index_mut.ensures.value c.force.ensures.stays.goes.number in
    change.at.numbered

pub returns-clause-forces : goal.returns-clause-forces
returns-clause-forces c =
    let xs = c.self.inside.list.items in
    let change = changed xs c.place.result c.args.number _ c.force.new.self c.self.invariant
    c.place.ensures.place c.place.ensures.range c.index_mut.ensures.value c.force.ensures.stays.goes.number in
    rw (← c.self.view_is) (on_ok_weaker c.force.result (turns_here _ c.args.number xs _ _ _ change)
    (on_ok_both _ _ c.force.result c.force.ensures.reacts c.force.ensures.refused))

pub returns-clause-cause : goal.returns-clause-cause
returns-clause-cause c =
    let xs = c.self.inside.list.items in
    let change = changed xs c.place.result c.args.number _ c.force.new.self c.self.invariant
    c.place.ensures.place c.place.ensures.range c.index_mut.ensures.value c.force.ensures.stays.goes.number in
    rw (← c.self.view_is) (IfErr-weaker c.force.result _ _
    (λ fault cause. turns_here _ c.args.number xs _ _ _ change cause) c.force.ensures.cause)

pub returns-clause-stays : goal.returns-clause-stays
returns-clause-stays c =
    let xs = c.self.inside.list.items in
    let change = changed xs c.place.result c.args.number _ c.force.new.self c.self.invariant
    c.place.ensures.place c.place.ensures.range c.index_mut.ensures.value c.force.ensures.stays.goes.number in
    rw (← c.self.view_is) (turns_here _ c.args.number xs _ _ _ change c.force.ensures.stays)

pub returns-clause-at : goal.returns-clause-at
returns-clause-at c =
    let xs = c.self.inside.list.items in
    let change = changed xs c.place.result c.args.number _ c.force.new.self c.self.invariant
    c.place.ensures.place c.place.ensures.range c.index_mut.ensures.value c.force.ensures.stays.goes.number in
    rw (← c.self.view_is) change.at

pub returns-clause-whole : goal.returns-clause-whole
returns-clause-whole c =
    let xs = c.self.inside.list.items in
    let change = changed xs c.place.result c.args.number _ c.force.new.self c.self.invariant
    c.place.ensures.place c.place.ensures.range c.index_mut.ensures.value c.force.ensures.stays.goes.number in
    on_ok_weaker c.force.result (at_here _ c.args.number _ _ change.there) c.force.ensures.whole

pub returns-clause-backed : goal.returns-clause-backed
returns-clause-backed c =
    let xs = c.self.inside.list.items in
    let change = changed xs c.place.result c.args.number _ c.force.new.self c.self.invariant
    c.place.ensures.place c.place.ensures.range c.index_mut.ensures.value c.force.ensures.stays.goes.number in
    rw (← c.self.view_is) (on_ok_weaker c.force.result (λ stored. turns_here _ c.args.number xs _ _ _ change
    (backed_stored _ c.force.new.self c.force.ensures.stays.goes.up stored)) c.force.ensures.stored)
