use Rattle.std.proofs.lemmas.Result.{IfErr-weaker, on_ok_weaker}
use Rattle.am_world.proofs.InstancesLemmas.{at_here, changed, here_at, turns_here}
use Rattle.am_world.proofs.instances.Instances.leave.Goals as goal

pub leave-requires-clause-noted : goal.leave-requires-clause-noted
leave-requires-clause-noted g c =
    let xs = c.self.inside.list.items in
    let here = here_at xs c.place.result c.args.number _ c.self.invariant c.place.ensures.place c.place.ensures.range
    c.index_mut.ensures.value in
    (rw (← c.self.view_is) at c.requires.noted) _ here

pub leave-requires-clause-backed : goal.leave-requires-clause-backed
leave-requires-clause-backed g c =
    let xs = c.self.inside.list.items in
    let here = here_at xs c.place.result c.args.number _ c.self.invariant c.place.ensures.place c.place.ensures.range
    c.index_mut.ensures.value in
    (rw (← c.self.view_is) at c.requires.backed) _ here

pub invariant_of-self : goal.invariant_of-self
invariant_of-self g c =
    let xs = c.self.inside.list.items in
    let change = changed xs c.place.result c.args.number _ c.leave.new.self c.self.invariant c.place.ensures.place
    c.place.ensures.range c.index_mut.ensures.value c.leave.ensures.stays.number in
    change.at.numbered

pub returns-clause-leaves : goal.returns-clause-leaves
returns-clause-leaves g c =
    let xs = c.self.inside.list.items in
    let change = changed xs c.place.result c.args.number _ c.leave.new.self c.self.invariant c.place.ensures.place
    c.place.ensures.range c.index_mut.ensures.value c.leave.ensures.stays.number in
    rw (← c.self.view_is) (on_ok_weaker c.leave.result (turns_here _ c.args.number xs _ _ _ change)
    c.leave.ensures.leaves)

pub returns-clause-cause : goal.returns-clause-cause
returns-clause-cause g c =
    let xs = c.self.inside.list.items in
    let change = changed xs c.place.result c.args.number _ c.leave.new.self c.self.invariant c.place.ensures.place
    c.place.ensures.range c.index_mut.ensures.value c.leave.ensures.stays.number in
    rw (← c.self.view_is) (IfErr-weaker c.leave.result _ _
    (λ fault cause. at_here _ c.args.number xs _ change.here cause) c.leave.ensures.cause)

pub returns-clause-stays : goal.returns-clause-stays
returns-clause-stays g c =
    let xs = c.self.inside.list.items in
    let change = changed xs c.place.result c.args.number _ c.leave.new.self c.self.invariant c.place.ensures.place
    c.place.ensures.range c.index_mut.ensures.value c.leave.ensures.stays.number in
    rw (← c.self.view_is) (turns_here _ c.args.number xs _ _ _ change c.leave.ensures.stays)

pub returns-clause-at : goal.returns-clause-at
returns-clause-at g c =
    let xs = c.self.inside.list.items in
    let change = changed xs c.place.result c.args.number _ c.leave.new.self c.self.invariant c.place.ensures.place
    c.place.ensures.range c.index_mut.ensures.value c.leave.ensures.stays.number in
    rw (← c.self.view_is) change.at

pub returns-clause-whole : goal.returns-clause-whole
returns-clause-whole g c =
    let xs = c.self.inside.list.items in
    let change = changed xs c.place.result c.args.number _ c.leave.new.self c.self.invariant c.place.ensures.place
    c.place.ensures.range c.index_mut.ensures.value c.leave.ensures.stays.number in
    rw (← c.self.view_is) (on_ok_weaker c.leave.result
    (λ whole around. turns_here _ c.args.number xs _ _ _ change (whole around)) c.leave.ensures.whole)

pub returns-clause-left : goal.returns-clause-left
returns-clause-left g c =
    let xs = c.self.inside.list.items in
    let change = changed xs c.place.result c.args.number _ c.leave.new.self c.self.invariant c.place.ensures.place
    c.place.ensures.range c.index_mut.ensures.value c.leave.ensures.stays.number in
    rw (← c.self.view_is) (at_here _ c.args.number xs _ change.here c.leave.ensures.left)

pub returns-clause-idle : goal.returns-clause-idle
returns-clause-idle g c =
    let xs = c.self.inside.list.items in
    let change = changed xs c.place.result c.args.number _ c.leave.new.self c.self.invariant c.place.ensures.place
    c.place.ensures.range c.index_mut.ensures.value c.leave.ensures.stays.number in
    rw (← c.self.view_is) (at_here _ c.args.number xs _ change.here c.leave.ensures.idle)
