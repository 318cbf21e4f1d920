use Rattle.am_world.proofs.InstancesLemmas.{changed, turns_here}
use Rattle.am_world.proofs.instances.Instances.close.Goals as goal

pub invariant_of-self : goal.invariant_of-self
invariant_of-self c =
    let xs = c.self.inside.list.items in
    let change = changed xs c.place.result c.args.number _ c.close.new.self c.self.invariant c.place.ensures.place
    c.place.ensures.range c.index_mut.ensures.value (c.close.ensures.stays.number) in
    change.at.numbered

pub returns-clause-reading : goal.returns-clause-reading
returns-clause-reading c =
    let xs = c.self.inside.list.items in
    let change = changed xs c.place.result c.args.number _ c.close.new.self c.self.invariant c.place.ensures.place
    c.place.ensures.range c.index_mut.ensures.value (c.close.ensures.stays.number) in
    rw (← c.self.view_is) (turns_here _ c.args.number xs _ _ _ change c.close.ensures.front)

pub returns-clause-stays : goal.returns-clause-stays
returns-clause-stays c =
    let xs = c.self.inside.list.items in
    let change = changed xs c.place.result c.args.number _ c.close.new.self c.self.invariant c.place.ensures.place
    c.place.ensures.range c.index_mut.ensures.value (c.close.ensures.stays.number) in
    rw (← c.self.view_is) (turns_here _ c.args.number xs _ _ _ change
    (c.close.ensures.stays, c.close.ensures.site, c.close.ensures.refused, c.close.ensures.tenants))

pub returns-clause-at : goal.returns-clause-at
returns-clause-at c =
    let xs = c.self.inside.list.items in
    let change = changed xs c.place.result c.args.number _ c.close.new.self c.self.invariant c.place.ensures.place
    c.place.ensures.range c.index_mut.ensures.value (c.close.ensures.stays.number) in
    rw (← c.self.view_is) change.at
