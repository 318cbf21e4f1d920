use Rattle.am_world.proofs.InstancesLemmas.{at_here, changed, here_at, turns_here}
use Rattle.am_world.proofs.instances.Instances.tick.Goals as goal

pub tick-requires-clause-whole : goal.tick-requires-clause-whole
tick-requires-clause-whole g c =
    let xs = c.self.inside.list.items in
    let here = here_at xs c.place.result c.args.number _ c.self.invariant c.place.ensures.place c.place.ensures.range
    c.index_mut.ensures.value in
    (rw (← c.self.view_is) at c.requires.whole) _ here

pub tick-requires-clause-backed : goal.tick-requires-clause-backed
tick-requires-clause-backed g c =
    let xs = c.self.inside.list.items in
    let here = here_at xs c.place.result c.args.number _ c.self.invariant c.place.ensures.place c.place.ensures.range
    c.index_mut.ensures.value in
    (rw (← c.self.view_is) at c.requires.backed) _ here

pub invariant_of-self : goal.invariant_of-self
invariant_of-self g c =
    let xs = c.self.inside.list.items in
    let change = changed xs c.place.result c.args.number _ c.tick.new.self c.self.invariant c.place.ensures.place
    c.place.ensures.range c.index_mut.ensures.value c.tick.ensures.stays.number in
    change.at.numbered

pub returns-clause-ends : goal.returns-clause-ends
returns-clause-ends g c =
    let xs = c.self.inside.list.items in
    let change = changed xs c.place.result c.args.number _ c.tick.new.self c.self.invariant c.place.ensures.place
    c.place.ensures.range c.index_mut.ensures.value c.tick.ensures.stays.number in
    rw (← c.self.view_is) (turns_here _ c.args.number xs _ _ _ change c.tick.ensures.ends)

pub returns-clause-stays : goal.returns-clause-stays
returns-clause-stays g c =
    let xs = c.self.inside.list.items in
    let change = changed xs c.place.result c.args.number _ c.tick.new.self c.self.invariant c.place.ensures.place
    c.place.ensures.range c.index_mut.ensures.value c.tick.ensures.stays.number in
    rw (← c.self.view_is) (turns_here _ c.args.number xs _ _ _ change c.tick.ensures.stays)

pub returns-clause-at : goal.returns-clause-at
returns-clause-at g c =
    let xs = c.self.inside.list.items in
    let change = changed xs c.place.result c.args.number _ c.tick.new.self c.self.invariant c.place.ensures.place
    c.place.ensures.range c.index_mut.ensures.value c.tick.ensures.stays.number in
    rw (← c.self.view_is) change.at

pub returns-clause-whole : goal.returns-clause-whole
returns-clause-whole g c =
    let xs = c.self.inside.list.items in
    let change = changed xs c.place.result c.args.number _ c.tick.new.self c.self.invariant c.place.ensures.place
    c.place.ensures.range c.index_mut.ensures.value c.tick.ensures.stays.number in
    at_here _ c.args.number _ _ change.there c.tick.ensures.whole

pub returns-clause-backed : goal.returns-clause-backed
returns-clause-backed g c =
    let xs = c.self.inside.list.items in
    let change = changed xs c.place.result c.args.number _ c.tick.new.self c.self.invariant c.place.ensures.place
    c.place.ensures.range c.index_mut.ensures.value c.tick.ensures.stays.number in
    at_here _ c.args.number _ _ change.there c.tick.ensures.backed

pub returns-clause-left : goal.returns-clause-left
returns-clause-left g c =
    let xs = c.self.inside.list.items in
    let change = changed xs c.place.result c.args.number _ c.tick.new.self c.self.invariant c.place.ensures.place
    c.place.ensures.range c.index_mut.ensures.value c.tick.ensures.stays.number in
    rw (← c.self.view_is) (turns_here _ c.args.number xs _ _ _ change c.tick.ensures.left)

pub returns-clause-idle : goal.returns-clause-idle
returns-clause-idle g c =
    let xs = c.self.inside.list.items in
    let change = changed xs c.place.result c.args.number _ c.tick.new.self c.self.invariant c.place.ensures.place
    c.place.ensures.range c.index_mut.ensures.value c.tick.ensures.stays.number in
    rw (← c.self.view_is) (at_here _ c.args.number xs _ change.here c.tick.ensures.idle)
