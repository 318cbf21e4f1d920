use Rattle.std.proofs.lemmas.Result.{on_ok_weaker}
use Rattle.am_world.proofs.InstancesLemmas.{at_here, changed, here_at, turns_here}
use Rattle.am_world.proofs.instances.Instances.start.Goals as goal

pub start-requires-clause-down : goal.start-requires-clause-down
start-requires-clause-down g c =
    let xs = c.self.inside.list.items in
    let here = here_at xs c.place.result c.args.number _ c.self.invariant c.place.ensures.place c.place.ensures.range
    c.index_mut.ensures.value in
    (rw (← c.self.view_is) at c.requires.down) _ here

pub start-requires-clause-whole : goal.start-requires-clause-whole
start-requires-clause-whole g c =
    let xs = c.self.inside.list.items in
    let here = here_at xs c.place.result c.args.number _ c.self.invariant c.place.ensures.place c.place.ensures.range
    c.index_mut.ensures.value in
    (rw (← c.self.view_is) at c.requires.whole) _ here

pub invariant_of-self : goal.invariant_of-self
invariant_of-self g c =
    let xs = c.self.inside.list.items in
    let change = changed xs c.place.result c.args.number _ c.start.new.self c.self.invariant c.place.ensures.place
    c.place.ensures.range c.index_mut.ensures.value c.start.ensures.stays.number in
    change.at.numbered

pub returns-clause-starts : goal.returns-clause-starts
returns-clause-starts g c =
    let xs = c.self.inside.list.items in
    let change = changed xs c.place.result c.args.number _ c.start.new.self c.self.invariant c.place.ensures.place
    c.place.ensures.range c.index_mut.ensures.value c.start.ensures.stays.number in
    rw (← c.self.view_is) (on_ok_weaker c.start.result (turns_here _ c.args.number xs _ _ _ change)
    c.start.ensures.starts)

pub returns-clause-opened : goal.returns-clause-opened
returns-clause-opened g c clean =
    let xs = c.self.inside.list.items in
    let change = changed xs c.place.result c.args.number _ c.start.new.self c.self.invariant c.place.ensures.place
    c.place.ensures.range c.index_mut.ensures.value c.start.ensures.stays.number in
    rw (← c.self.view_is) (on_ok_weaker c.start.result (turns_here _ c.args.number xs _ _ _ change)
    (c.start.ensures.opened clean))

pub returns-clause-stays : goal.returns-clause-stays
returns-clause-stays g c =
    let xs = c.self.inside.list.items in
    let change = changed xs c.place.result c.args.number _ c.start.new.self c.self.invariant c.place.ensures.place
    c.place.ensures.range c.index_mut.ensures.value c.start.ensures.stays.number in
    rw (← c.self.view_is) (turns_here _ c.args.number xs _ _ _ change (c.start.ensures.stays, c.start.ensures.front))

pub returns-clause-at : goal.returns-clause-at
returns-clause-at g c =
    let xs = c.self.inside.list.items in
    let change = changed xs c.place.result c.args.number _ c.start.new.self c.self.invariant c.place.ensures.place
    c.place.ensures.range c.index_mut.ensures.value c.start.ensures.stays.number in
    rw (← c.self.view_is) change.at

pub returns-clause-whole : goal.returns-clause-whole
returns-clause-whole g c =
    let xs = c.self.inside.list.items in
    let change = changed xs c.place.result c.args.number _ c.start.new.self c.self.invariant c.place.ensures.place
    c.place.ensures.range c.index_mut.ensures.value c.start.ensures.stays.number in
    on_ok_weaker c.start.result (at_here _ c.args.number _ _ change.there) c.start.ensures.whole

pub returns-clause-backed : goal.returns-clause-backed
returns-clause-backed g c =
    let xs = c.self.inside.list.items in
    let change = changed xs c.place.result c.args.number _ c.start.new.self c.self.invariant c.place.ensures.place
    c.place.ensures.range c.index_mut.ensures.value c.start.ensures.stays.number in
    on_ok_weaker c.start.result (at_here _ c.args.number _ _ change.there) c.start.ensures.backed
