use Rattle.std.proofs.Common.{subst}
use Rattle.std.proofs.lemmas.Result.{IfErr-weaker, on_ok_weaker}
use Rattle.am_cluster.specs.Rings.{newest_ring}
use Rattle.am_instance.specs.Here.{circumstances, rings_on}
use Rattle.am_instance.specs.Leaving.{LeavesOwn}
use Rattle.am_instance.specs.Node.{fault_in}
use Rattle.am_instance.specs.Shelves.{shelf_of}
use Rattle.am_world.proofs.InstancesLemmas.{at_here, changed, here_at, number_of, turns_here}
use Rattle.am_world.proofs.instances.Instances.restart.Goals as goal

pub restart-requires-clause-down : goal.restart-requires-clause-down
restart-requires-clause-down g c =
    let xs = c.self.inside.list.items in
    let here = here_at xs c.place.result c.args.number _ c.self.invariant c.place.ensures.place c.place.ensures.range
    c.index_mut.ensures.value in
    (rw (← c.self.view_is) at c.requires.down) _ here

pub restart-requires-clause-whole : goal.restart-requires-clause-whole
restart-requires-clause-whole g c =
    let xs = c.self.inside.list.items in
    let here = here_at xs c.place.result c.args.number _ c.self.invariant c.place.ensures.place c.place.ensures.range
    c.index_mut.ensures.value in
    (rw (← c.self.view_is) at c.requires.whole) _ here

pub restart-requires-clause-next : goal.restart-requires-clause-next
restart-requires-clause-next g c =
    let xs = c.self.inside.list.items in
    let here = here_at xs c.place.result c.args.number _ c.self.invariant c.place.ensures.place c.place.ensures.range
    c.index_mut.ensures.value in
    (rw (← c.self.view_is) at c.requires.next) _ here

pub invariant_of-self : goal.invariant_of-self
invariant_of-self g c =
    let xs = c.self.inside.list.items in
    let change = changed xs c.place.result c.args.number _ c.restart.new.self c.self.invariant c.place.ensures.place
    c.place.ensures.range c.index_mut.ensures.value c.restart.ensures.stays.number in
    change.at.numbered

pub returns-clause-restarts : goal.returns-clause-restarts
returns-clause-restarts g c =
    let xs = c.self.inside.list.items in
    let change = changed xs c.place.result c.args.number _ c.restart.new.self c.self.invariant c.place.ensures.place
    c.place.ensures.range c.index_mut.ensures.value c.restart.ensures.stays.number in
    rw (← c.self.view_is) (on_ok_weaker c.restart.result (turns_here _ c.args.number xs _ _ _ change)
    c.restart.ensures.restarts)

pub returns-clause-cause : goal.returns-clause-cause
returns-clause-cause g c clean =
    let xs = c.self.inside.list.items in
    let change = changed xs c.place.result c.args.number _ c.restart.new.self c.self.invariant c.place.ensures.place
    c.place.ensures.range c.index_mut.ensures.value c.restart.ensures.stays.number in
    rw (← c.self.view_is) (IfErr-weaker c.restart.result _ _
    (λ fault cause. at_here _ c.args.number xs _ change.here cause) (c.restart.ensures.cause clean))

pub returns-clause-stays : goal.returns-clause-stays
returns-clause-stays g c =
    let xs = c.self.inside.list.items in
    let change = changed xs c.place.result c.args.number _ c.restart.new.self c.self.invariant c.place.ensures.place
    c.place.ensures.range c.index_mut.ensures.value c.restart.ensures.stays.number in
    rw (← c.self.view_is) (turns_here _ c.args.number xs _ _ _ change c.restart.ensures.stays)

pub returns-clause-at : goal.returns-clause-at
returns-clause-at g c =
    let xs = c.self.inside.list.items in
    let change = changed xs c.place.result c.args.number _ c.restart.new.self c.self.invariant c.place.ensures.place
    c.place.ensures.range c.index_mut.ensures.value c.restart.ensures.stays.number in
    rw (← c.self.view_is) change.at

pub returns-clause-whole : goal.returns-clause-whole
returns-clause-whole g c =
    let xs = c.self.inside.list.items in
    let change = changed xs c.place.result c.args.number _ c.restart.new.self c.self.invariant c.place.ensures.place
    c.place.ensures.range c.index_mut.ensures.value c.restart.ensures.stays.number in
    on_ok_weaker c.restart.result (at_here _ c.args.number _ _ change.there) c.restart.ensures.whole

pub returns-clause-backed : goal.returns-clause-backed
returns-clause-backed g c =
    let xs = c.self.inside.list.items in
    let change = changed xs c.place.result c.args.number _ c.restart.new.self c.self.invariant c.place.ensures.place
    c.place.ensures.range c.index_mut.ensures.value c.restart.ensures.stays.number in
    on_ok_weaker c.restart.result (at_here _ c.args.number _ _ change.there) c.restart.ensures.backed

pub returns-clause-left : goal.returns-clause-left
returns-clause-left g c =
    let xs = c.self.inside.list.items in
    let here = here_at xs c.place.result c.args.number _ c.self.invariant c.place.ensures.place c.place.ensures.range
    c.index_mut.ensures.value in
    subst (λ i. LeavesOwn (newest_ring (rings_on (circumstances c.args.occasion.now))) i (fault_in c.restart.result)
    (shelf_of g.R.Rows c.args.store.now) (shelf_of g.R.Rows c.restart.new.store))
    (number_of c.args.number xs _ here) c.restart.ensures.left
