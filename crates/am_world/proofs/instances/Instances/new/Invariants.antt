use Rattle.std.proofs.Common.{◌≡◌, map, take}
use Rattle.am_instance.specs.declared.instance.Instance.{Instance}
use Rattle.am_world.proofs.InstancesNew.{AreNew}
use Rattle.am_world.proofs.instances.Instances.new.Given as goal

abbrev pub invariant-loop-number : goal.invariant-loop-number
invariant-loop-number l =
    (map (λ (x : Instance). x.number) l.list.items ≡ take l.number-index l.number-items)
    × AreNew l.fn.beginning.first l.list.items
