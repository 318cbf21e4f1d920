use Rattle.std.proofs.lemmas.Result.{IfErr-weaker, on_ok_weaker}
use Rattle.am_world.proofs.InstancesBacked.{backed_stored}
use Rattle.am_world.proofs.InstancesLemmas.{at_here, changed, here_at, turns_here}
use Rattle.am_world.proofs.instances.Instances.follow_restart.Goals as goal

pub other_restarted-requires : goal.other_restarted-requires
other_restarted-requires c =
    let xs = c.self.inside.list.items in
    let here = here_at xs c.place.result c.args.number _ c.self.invariant c.place.ensures.place c.place.ensures.range
    c.index_mut.ensures.value in
    (rw (← c.self.view_is) at c.requires) _ here

pub invariant_of-self : goal.invariant_of-self
invariant_of-self c =
    let xs = c.self.inside.list.items in
    let change = changed xs c.place.result c.args.number _ c.other_restarted.new.self c.self.invariant
    c.place.ensures.place c.place.ensures.range c.index_mut.ensures.value c.other_restarted.ensures.stays.goes.number in
    change.at.numbered

pub returns-clause-reacts : goal.returns-clause-reacts
returns-clause-reacts c =
    let xs = c.self.inside.list.items in
    let change = changed xs c.place.result c.args.number _ c.other_restarted.new.self c.self.invariant
    c.place.ensures.place c.place.ensures.range c.index_mut.ensures.value c.other_restarted.ensures.stays.goes.number in
    rw (← c.self.view_is) (on_ok_weaker c.other_restarted.result (turns_here _ c.args.number xs _ _ _ change)
    c.other_restarted.ensures.reacts)

pub returns-clause-cause : goal.returns-clause-cause
returns-clause-cause c =
    let xs = c.self.inside.list.items in
    let change = changed xs c.place.result c.args.number _ c.other_restarted.new.self c.self.invariant
    c.place.ensures.place c.place.ensures.range c.index_mut.ensures.value c.other_restarted.ensures.stays.goes.number in
    rw (← c.self.view_is) (IfErr-weaker c.other_restarted.result _ _
    (λ fault cause. at_here _ c.args.number xs _ change.here cause) c.other_restarted.ensures.cause)

pub returns-clause-stays : goal.returns-clause-stays
returns-clause-stays c =
    let xs = c.self.inside.list.items in
    let change = changed xs c.place.result c.args.number _ c.other_restarted.new.self c.self.invariant
    c.place.ensures.place c.place.ensures.range c.index_mut.ensures.value c.other_restarted.ensures.stays.goes.number in
    rw (← c.self.view_is) (turns_here _ c.args.number xs _ _ _ change c.other_restarted.ensures.stays)

pub returns-clause-at : goal.returns-clause-at
returns-clause-at c =
    let xs = c.self.inside.list.items in
    let change = changed xs c.place.result c.args.number _ c.other_restarted.new.self c.self.invariant
    c.place.ensures.place c.place.ensures.range c.index_mut.ensures.value c.other_restarted.ensures.stays.goes.number in
    rw (← c.self.view_is) change.at

pub returns-clause-whole : goal.returns-clause-whole
returns-clause-whole c =
    let xs = c.self.inside.list.items in
    let change = changed xs c.place.result c.args.number _ c.other_restarted.new.self c.self.invariant
    c.place.ensures.place c.place.ensures.range c.index_mut.ensures.value c.other_restarted.ensures.stays.goes.number in
    on_ok_weaker c.other_restarted.result (at_here _ c.args.number _ _ change.there) c.other_restarted.ensures.whole

pub returns-clause-backed : goal.returns-clause-backed
returns-clause-backed c =
    let xs = c.self.inside.list.items in
    let change = changed xs c.place.result c.args.number _ c.other_restarted.new.self c.self.invariant
    c.place.ensures.place c.place.ensures.range c.index_mut.ensures.value c.other_restarted.ensures.stays.goes.number in
    rw (← c.self.view_is) (turns_here _ c.args.number xs _ _ _ change
    (backed_stored _ c.other_restarted.new.self c.other_restarted.ensures.stays.goes.up
    c.other_restarted.ensures.stored))
