use Rattle.std.proofs.lemmas.Result.{IfErr-weaker, on_ok_weaker}
use Rattle.am_world.proofs.InstancesBacked.{backed_node}
use Rattle.am_world.proofs.InstancesLemmas.{at_here, changed, here_at, turns_here}
use Rattle.am_world.proofs.instances.Instances.feed.Goals as goal

pub feed-requires-clause-whole : goal.feed-requires-clause-whole
feed-requires-clause-whole c =
    let xs = c.self.inside.list.items in
    let here = here_at xs c.place.result c.args.number _ c.self.invariant c.place.ensures.place c.place.ensures.range
    c.index_mut.ensures.value in
    (rw (← c.self.view_is) at c.requires.whole) _ here

pub feed-requires-clause-reads : goal.feed-requires-clause-reads
feed-requires-clause-reads c =
    let xs = c.self.inside.list.items in
    let here = here_at xs c.place.result c.args.number _ c.self.invariant c.place.ensures.place c.place.ensures.range
    c.index_mut.ensures.value in
    (rw (← c.self.view_is) at c.requires.reads) _ here

pub invariant_of-self : goal.invariant_of-self
invariant_of-self c =
    let xs = c.self.inside.list.items in
    let change = changed xs c.place.result c.args.number _ c.feed.new.self c.self.invariant c.place.ensures.place
    c.place.ensures.range c.index_mut.ensures.value c.feed.ensures.stays.number in
    change.at.numbered

pub returns-clause-brings : goal.returns-clause-brings
returns-clause-brings c =
    let xs = c.self.inside.list.items in
    let change = changed xs c.place.result c.args.number _ c.feed.new.self c.self.invariant c.place.ensures.place
    c.place.ensures.range c.index_mut.ensures.value c.feed.ensures.stays.number in
    rw (← c.self.view_is) (on_ok_weaker c.feed.result (turns_here _ c.args.number xs _ _ _ change)
    c.feed.ensures.brings)

pub returns-clause-front : goal.returns-clause-front
returns-clause-front c =
    let xs = c.self.inside.list.items in
    let change = changed xs c.place.result c.args.number _ c.feed.new.self c.self.invariant c.place.ensures.place
    c.place.ensures.range c.index_mut.ensures.value c.feed.ensures.stays.number in
    rw (← c.self.view_is) (on_ok_weaker c.feed.result (turns_here _ c.args.number xs _ _ _ change)
    c.feed.ensures.front)

pub returns-clause-cause : goal.returns-clause-cause
returns-clause-cause c =
    let xs = c.self.inside.list.items in
    let change = changed xs c.place.result c.args.number _ c.feed.new.self c.self.invariant c.place.ensures.place
    c.place.ensures.range c.index_mut.ensures.value c.feed.ensures.stays.number in
    rw (← c.self.view_is) (IfErr-weaker c.feed.result _ _ (λ fault cause. at_here _ c.args.number xs _ change.here
    cause) c.feed.ensures.cause)

pub returns-clause-stays : goal.returns-clause-stays
returns-clause-stays c =
    let xs = c.self.inside.list.items in
    let change = changed xs c.place.result c.args.number _ c.feed.new.self c.self.invariant c.place.ensures.place
    c.place.ensures.range c.index_mut.ensures.value c.feed.ensures.stays.number in
    rw (← c.self.view_is) (turns_here _ c.args.number xs _ _ _ change (c.feed.ensures.stays, c.feed.ensures.refused))

pub returns-clause-at : goal.returns-clause-at
returns-clause-at c =
    let xs = c.self.inside.list.items in
    let change = changed xs c.place.result c.args.number _ c.feed.new.self c.self.invariant c.place.ensures.place
    c.place.ensures.range c.index_mut.ensures.value c.feed.ensures.stays.number in
    rw (← c.self.view_is) change.at

pub returns-clause-whole : goal.returns-clause-whole
returns-clause-whole c =
    let xs = c.self.inside.list.items in
    let change = changed xs c.place.result c.args.number _ c.feed.new.self c.self.invariant c.place.ensures.place
    c.place.ensures.range c.index_mut.ensures.value c.feed.ensures.stays.number in
    on_ok_weaker c.feed.result (at_here _ c.args.number _ _ change.there) c.feed.ensures.whole

pub returns-clause-backed : goal.returns-clause-backed
returns-clause-backed c =
    let xs = c.self.inside.list.items in
    let change = changed xs c.place.result c.args.number _ c.feed.new.self c.self.invariant c.place.ensures.place
    c.place.ensures.range c.index_mut.ensures.value c.feed.ensures.stays.number in
    rw (← c.self.view_is) (on_ok_weaker c.feed.result (λ _. turns_here _ c.args.number xs _ _ _ change
    (backed_node _ c.feed.new.self c.feed.ensures.stays.up c.feed.ensures.node)) c.feed.ensures.whole)
