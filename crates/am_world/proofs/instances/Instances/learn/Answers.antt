use Rattle.std.proofs.lemmas.Result.{IfErr-weaker, on_ok_weaker}
use Rattle.am_world.proofs.InstancesLemmas.{at_here, changed, here_at, turns_here}
use Rattle.am_world.proofs.instances.Instances.learn.Goals as goal

pub learn-requires-clause-up : goal.learn-requires-clause-up
learn-requires-clause-up g c =
    let xs = c.self.inside.list.items in
    let here = here_at xs c.place.result c.args.number _ c.self.invariant c.place.ensures.place c.place.ensures.range
    c.index_mut.ensures.value in
    ((rw (← c.self.view_is) at c.requires.may) _ here).up

pub learn-requires-clause-next : goal.learn-requires-clause-next
learn-requires-clause-next g c =
    let xs = c.self.inside.list.items in
    let here = here_at xs c.place.result c.args.number _ c.self.invariant c.place.ensures.place c.place.ensures.range
    c.index_mut.ensures.value in
    ((rw (← c.self.view_is) at c.requires.may) _ here).next

pub learn-requires-clause-whole : goal.learn-requires-clause-whole
learn-requires-clause-whole g c =
    let xs = c.self.inside.list.items in
    let here = here_at xs c.place.result c.args.number _ c.self.invariant c.place.ensures.place c.place.ensures.range
    c.index_mut.ensures.value in
    (rw (← c.self.view_is) at c.requires.whole) _ here

pub learn-requires-clause-backed : goal.learn-requires-clause-backed
learn-requires-clause-backed g c =
    let xs = c.self.inside.list.items in
    let here = here_at xs c.place.result c.args.number _ c.self.invariant c.place.ensures.place c.place.ensures.range
    c.index_mut.ensures.value in
    (rw (← c.self.view_is) at c.requires.backed) _ here

pub invariant_of-self : goal.invariant_of-self
invariant_of-self g c =
    let xs = c.self.inside.list.items in
    let change = changed xs c.place.result c.args.number _ c.learn.new.self c.self.invariant
    c.place.ensures.place c.place.ensures.range c.index_mut.ensures.value c.learn.ensures.stays.goes.number in
    change.at.numbered

pub returns-clause-learns : goal.returns-clause-learns
returns-clause-learns g c =
    let xs = c.self.inside.list.items in
    let change = changed xs c.place.result c.args.number _ c.learn.new.self c.self.invariant
    c.place.ensures.place c.place.ensures.range c.index_mut.ensures.value c.learn.ensures.stays.goes.number in
    rw (← c.self.view_is) (on_ok_weaker c.learn.result (turns_here _ c.args.number xs _ _ _ change)
    c.learn.ensures.reacts)

pub returns-clause-cause : goal.returns-clause-cause
returns-clause-cause g c =
    let xs = c.self.inside.list.items in
    let change = changed xs c.place.result c.args.number _ c.learn.new.self c.self.invariant
    c.place.ensures.place c.place.ensures.range c.index_mut.ensures.value c.learn.ensures.stays.goes.number in
    rw (← c.self.view_is) (IfErr-weaker c.learn.result _ _
    (λ fault cause. turns_here _ c.args.number xs _ _ _ change cause) c.learn.ensures.cause)

pub returns-clause-stays : goal.returns-clause-stays
returns-clause-stays g c =
    let xs = c.self.inside.list.items in
    let change = changed xs c.place.result c.args.number _ c.learn.new.self c.self.invariant
    c.place.ensures.place c.place.ensures.range c.index_mut.ensures.value c.learn.ensures.stays.goes.number in
    rw (← c.self.view_is) (turns_here _ c.args.number xs _ _ _ change c.learn.ensures.stays)

pub returns-clause-at : goal.returns-clause-at
returns-clause-at g c =
    let xs = c.self.inside.list.items in
    let change = changed xs c.place.result c.args.number _ c.learn.new.self c.self.invariant
    c.place.ensures.place c.place.ensures.range c.index_mut.ensures.value c.learn.ensures.stays.goes.number in
    rw (← c.self.view_is) change.at

pub returns-clause-whole : goal.returns-clause-whole
returns-clause-whole g c =
    let xs = c.self.inside.list.items in
    let change = changed xs c.place.result c.args.number _ c.learn.new.self c.self.invariant
    c.place.ensures.place c.place.ensures.range c.index_mut.ensures.value c.learn.ensures.stays.goes.number in
    on_ok_weaker c.learn.result (at_here _ c.args.number _ _ change.there) c.learn.ensures.whole

pub returns-clause-backed : goal.returns-clause-backed
returns-clause-backed g c =
    let xs = c.self.inside.list.items in
    let change = changed xs c.place.result c.args.number _ c.learn.new.self c.self.invariant
    c.place.ensures.place c.place.ensures.range c.index_mut.ensures.value c.learn.ensures.stays.goes.number in
    on_ok_weaker c.learn.result (at_here _ c.args.number _ _ change.there) c.learn.ensures.backed

pub returns-clause-left : goal.returns-clause-left
returns-clause-left g c =
    let xs = c.self.inside.list.items in
    let change = changed xs c.place.result c.args.number _ c.learn.new.self c.self.invariant
    c.place.ensures.place c.place.ensures.range c.index_mut.ensures.value c.learn.ensures.stays.goes.number in
    rw (← c.self.view_is) (at_here _ c.args.number xs _ change.here c.learn.ensures.left)
