use Rattle.std.proofs.Common.{◌∙◌, ap, length}
use Rattle.am_world.proofs.InstancesIncarnations.{next_written}
use Rattle.am_world.proofs.InstancesLemmas.{eight}
use Rattle.am_world.proofs.instances.Instances.incarnations.Goals as goal

pub loop-place-preserved : goal.loop-place-preserved
loop-place-preserved c =
    let list = c.deref-instance-items.result.now in
    let same = c.deref-instance-items.ensures.value ∙ c.self.view_is in
    let size = ap length c.deref-instance-items.ensures.value ∙ eight c.self.inside.list.items c.self.invariant in
    rw (c.incarnation.ensures, ← same) (next_written list c.loop-place.incarnations c.loop-place.place
    c.instance-item.result c.loop-place-test.true size c.loop-place.invariant.0
    (rw (← same) at c.loop-place.invariant.1) c.instance-item.is)
