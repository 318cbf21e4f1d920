use Rattle.std.proofs.Common.{ap, sym, ◌∙◌}
use Rattle.am_ring.specs.Replicas.{replicas}
use Rattle.am_instance.specs.Here.{three_on}
use Rattle.am_instance.proofs.Rings.{ring_there}
use Rattle.am_instance.proofs.instance.Instance.three.Goals as goal

pub returns : goal.returns
unfolding three_on
returns c =
    c.replicas.ensures
    ∙ ap (replicas c.args.tenant.now)
    (sym (ring_there c.args.occasion.now.rings.now c.args.self.now.known c.index-occasion-self.result c.requires c.index-occasion-self.is))
