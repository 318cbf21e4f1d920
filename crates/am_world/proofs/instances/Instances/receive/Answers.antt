use Rattle.std.proofs.lemmas.Result.{IfErr-weaker, on_ok_weaker}
use Rattle.am_world.proofs.InstancesLemmas.{at_here, changed, here_at, turns_here}
use Rattle.am_world.proofs.instances.Instances.receive.Goals as goal

pub receive-requires-clause-up : goal.receive-requires-clause-up
receive-requires-clause-up g c =
    let xs = c.self.inside.list.items in
    let here = here_at xs c.place.result c.args.number _ c.self.invariant c.place.ensures.place c.place.ensures.range
    c.index_mut.ensures.value in
    (rw (← c.self.view_is) at c.requires.up) _ here

pub receive-requires-clause-whole : goal.receive-requires-clause-whole
receive-requires-clause-whole g c =
    let xs = c.self.inside.list.items in
    let here = here_at xs c.place.result c.args.number _ c.self.invariant c.place.ensures.place c.place.ensures.range
    c.index_mut.ensures.value in
    (rw (← c.self.view_is) at c.requires.whole) _ here

pub receive-requires-clause-backed : goal.receive-requires-clause-backed
receive-requires-clause-backed g c =
    let xs = c.self.inside.list.items in
    let here = here_at xs c.place.result c.args.number _ c.self.invariant c.place.ensures.place c.place.ensures.range
    c.index_mut.ensures.value in
    (rw (← c.self.view_is) at c.requires.backed) _ here

pub invariant_of-self : goal.invariant_of-self
invariant_of-self g c =
    let xs = c.self.inside.list.items in
    let change = changed xs c.place.result c.args.number _ c.receive.new.self c.self.invariant c.place.ensures.place
    c.place.ensures.range c.index_mut.ensures.value c.receive.ensures.stays.goes.number in
    change.at.numbered

pub returns-clause-receives : goal.returns-clause-receives
returns-clause-receives g c =
    let xs = c.self.inside.list.items in
    let change = changed xs c.place.result c.args.number _ c.receive.new.self c.self.invariant c.place.ensures.place
    c.place.ensures.range c.index_mut.ensures.value c.receive.ensures.stays.goes.number in
    rw (← c.self.view_is) (on_ok_weaker c.receive.result (turns_here _ c.args.number xs _ _ _ change)
    c.receive.ensures.receives)

pub returns-clause-cause : goal.returns-clause-cause
returns-clause-cause g c =
    let xs = c.self.inside.list.items in
    let change = changed xs c.place.result c.args.number _ c.receive.new.self c.self.invariant c.place.ensures.place
    c.place.ensures.range c.index_mut.ensures.value c.receive.ensures.stays.goes.number in
    rw (← c.self.view_is) (IfErr-weaker c.receive.result _ _ (λ fault cause. turns_here _ c.args.number xs _ _ _ change
    cause) c.receive.ensures.cause)

pub returns-clause-stays : goal.returns-clause-stays
returns-clause-stays g c =
    let xs = c.self.inside.list.items in
    let change = changed xs c.place.result c.args.number _ c.receive.new.self c.self.invariant c.place.ensures.place
    c.place.ensures.range c.index_mut.ensures.value c.receive.ensures.stays.goes.number in
    rw (← c.self.view_is) (turns_here _ c.args.number xs _ _ _ change c.receive.ensures.stays)

pub returns-clause-at : goal.returns-clause-at
returns-clause-at g c =
    let xs = c.self.inside.list.items in
    let change = changed xs c.place.result c.args.number _ c.receive.new.self c.self.invariant c.place.ensures.place
    c.place.ensures.range c.index_mut.ensures.value c.receive.ensures.stays.goes.number in
    rw (← c.self.view_is) change.at

pub returns-clause-whole : goal.returns-clause-whole
returns-clause-whole g c =
    let xs = c.self.inside.list.items in
    let change = changed xs c.place.result c.args.number _ c.receive.new.self c.self.invariant c.place.ensures.place
    c.place.ensures.range c.index_mut.ensures.value c.receive.ensures.stays.goes.number in
    on_ok_weaker c.receive.result (at_here _ c.args.number _ _ change.there) c.receive.ensures.whole

pub returns-clause-backed : goal.returns-clause-backed
returns-clause-backed g c =
    let xs = c.self.inside.list.items in
    let change = changed xs c.place.result c.args.number _ c.receive.new.self c.self.invariant c.place.ensures.place
    c.place.ensures.range c.index_mut.ensures.value c.receive.ensures.stays.goes.number in
    on_ok_weaker c.receive.result (at_here _ c.args.number _ _ change.there) c.receive.ensures.backed

pub returns-clause-left : goal.returns-clause-left
returns-clause-left g c =
    let xs = c.self.inside.list.items in
    let change = changed xs c.place.result c.args.number _ c.receive.new.self c.self.invariant c.place.ensures.place
    c.place.ensures.range c.index_mut.ensures.value c.receive.ensures.stays.goes.number in
    rw (← c.self.view_is) (at_here _ c.args.number xs _ change.here c.receive.ensures.left)
