use Rattle.std.proofs.Common.{Some, []}
use Rattle.std.proofs.lemmas.Result.{on_ok_weaker}
use Rattle.am_world.proofs.InstancesBegin.{reading_put}
use Rattle.am_world.proofs.InstancesLemmas.{changed, turns_here}
use Rattle.am_world.proofs.instances.Instances.open.Goals as goal

pub invariant_of-self : goal.invariant_of-self
invariant_of-self c =
    let xs = c.self.inside.list.items in
    let change = changed xs c.place.result c.args.number _ c.open.new.self c.self.invariant c.place.ensures.place
    c.place.ensures.range c.index_mut.ensures.value (c.open.ensures.stays.number) in
    change.at.numbered

pub returns-clause-reading : goal.returns-clause-reading
returns-clause-reading c =
    let xs = c.self.inside.list.items in
    let change = changed xs c.place.result c.args.number _ c.open.new.self c.self.invariant c.place.ensures.place
    c.place.ensures.range c.index_mut.ensures.value (c.open.ensures.stays.number) in
    rw (← c.self.view_is) (on_ok_weaker c.open.result
    (reading_put c.args.number c.args.connection (Some []) xs _ _ _ change)
    c.open.ensures.front)

pub returns-clause-stays : goal.returns-clause-stays
returns-clause-stays c =
    let xs = c.self.inside.list.items in
    let change = changed xs c.place.result c.args.number _ c.open.new.self c.self.invariant c.place.ensures.place
    c.place.ensures.range c.index_mut.ensures.value (c.open.ensures.stays.number) in
    rw (← c.self.view_is) (turns_here _ c.args.number xs _ _ _ change
    (c.open.ensures.stays, c.open.ensures.site, c.open.ensures.refused, c.open.ensures.tenants))

pub returns-clause-at : goal.returns-clause-at
returns-clause-at c =
    let xs = c.self.inside.list.items in
    let change = changed xs c.place.result c.args.number _ c.open.new.self c.self.invariant c.place.ensures.place
    c.place.ensures.range c.index_mut.ensures.value (c.open.ensures.stays.number) in
    rw (← c.self.view_is) change.at
