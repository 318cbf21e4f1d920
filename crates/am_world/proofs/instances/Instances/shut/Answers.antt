use Rattle.am_world.proofs.InstancesLemmas.{changed, turns_here}
use Rattle.am_world.proofs.instances.Instances.shut.Goals as goal

pub invariant_of-self : goal.invariant_of-self
invariant_of-self c =
    let xs = c.self.inside.list.items in
    let change = changed xs c.place.result c.args.number _ c.shut.new.self c.self.invariant c.place.ensures.place
    c.place.ensures.range c.index_mut.ensures.value c.shut.ensures.stays.number in
    change.at.numbered

pub returns-clause-leaves : goal.returns-clause-leaves
returns-clause-leaves c =
    let xs = c.self.inside.list.items in
    let change = changed xs c.place.result c.args.number _ c.shut.new.self c.self.invariant c.place.ensures.place
    c.place.ensures.range c.index_mut.ensures.value c.shut.ensures.stays.number in
    rw (← c.self.view_is) (turns_here _ c.args.number xs _ _ _ change
    (record { down = c.shut.ensures.down; cause = c.shut.ensures.cause; refused = c.shut.ensures.refused }))

pub returns-clause-stays : goal.returns-clause-stays
returns-clause-stays c =
    let xs = c.self.inside.list.items in
    let change = changed xs c.place.result c.args.number _ c.shut.new.self c.self.invariant c.place.ensures.place
    c.place.ensures.range c.index_mut.ensures.value c.shut.ensures.stays.number in
    rw (← c.self.view_is) (turns_here _ c.args.number xs _ _ _ change c.shut.ensures.stays)

pub returns-clause-at : goal.returns-clause-at
returns-clause-at c =
    let xs = c.self.inside.list.items in
    let change = changed xs c.place.result c.args.number _ c.shut.new.self c.self.invariant c.place.ensures.place
    c.place.ensures.range c.index_mut.ensures.value c.shut.ensures.stays.number in
    rw (← c.self.view_is) change.at

pub returns-clause-whole : goal.returns-clause-whole
returns-clause-whole c =
    let xs = c.self.inside.list.items in
    let change = changed xs c.place.result c.args.number _ c.shut.new.self c.self.invariant c.place.ensures.place
    c.place.ensures.range c.index_mut.ensures.value c.shut.ensures.stays.number in
    rw (← c.self.view_is) (λ around. turns_here _ c.args.number xs _ _ _ change (c.shut.ensures.whole around))
