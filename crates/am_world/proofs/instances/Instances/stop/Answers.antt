use Rattle.am_world.proofs.InstancesLemmas.{at_here, changed, turns_here}
use Rattle.am_world.proofs.instances.Instances.stop.Goals as goal

pub invariant_of-self : goal.invariant_of-self
invariant_of-self c =
    let xs = c.self.inside.list.items in
    let change = changed xs c.place.result c.args.number _ c.stop.new.self c.self.invariant c.place.ensures.place
    c.place.ensures.range c.index_mut.ensures.value (c.stop.ensures.stays.number) in
    change.at.numbered

pub returns-clause-down : goal.returns-clause-down
returns-clause-down c =
    let xs = c.self.inside.list.items in
    let change = changed xs c.place.result c.args.number _ c.stop.new.self c.self.invariant c.place.ensures.place
    c.place.ensures.range c.index_mut.ensures.value (c.stop.ensures.stays.number) in
    at_here _ c.args.number _ _ change.there c.stop.ensures.down

pub returns-clause-cause : goal.returns-clause-cause
returns-clause-cause c =
    let xs = c.self.inside.list.items in
    let change = changed xs c.place.result c.args.number _ c.stop.new.self c.self.invariant c.place.ensures.place
    c.place.ensures.range c.index_mut.ensures.value (c.stop.ensures.stays.number) in
    at_here _ c.args.number _ _ change.there c.stop.ensures.cause

pub returns-clause-stays : goal.returns-clause-stays
returns-clause-stays c =
    let xs = c.self.inside.list.items in
    let change = changed xs c.place.result c.args.number _ c.stop.new.self c.self.invariant c.place.ensures.place
    c.place.ensures.range c.index_mut.ensures.value (c.stop.ensures.stays.number) in
    rw (← c.self.view_is) (turns_here _ c.args.number xs _ _ _ change (c.stop.ensures.stays, c.stop.ensures.refused))

pub returns-clause-at : goal.returns-clause-at
returns-clause-at c =
    let xs = c.self.inside.list.items in
    let change = changed xs c.place.result c.args.number _ c.stop.new.self c.self.invariant c.place.ensures.place
    c.place.ensures.range c.index_mut.ensures.value (c.stop.ensures.stays.number) in
    rw (← c.self.view_is) change.at

pub returns-clause-whole : goal.returns-clause-whole
returns-clause-whole c =
    let xs = c.self.inside.list.items in
    let change = changed xs c.place.result c.args.number _ c.stop.new.self c.self.invariant c.place.ensures.place
    c.place.ensures.range c.index_mut.ensures.value (c.stop.ensures.stays.number) in
    rw (← c.self.view_is) (λ around. turns_here _ c.args.number xs _ _ _ change (c.stop.ensures.whole around))
