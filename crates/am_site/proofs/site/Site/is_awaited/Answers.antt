use Rattle.am_cluster.specs.Delivery.{is_awaited}
use Rattle.am_node.specs.Delivery.{is_awaited as is_awaited_in_node}
use Rattle.am_site.specs.Locals.{local_of}
use Rattle.am_site.proofs.site.Site.is_awaited.Goals as goal

pub returns : goal.returns
unfolding local_of is_awaited is_awaited_in_node
returns c = c.is_awaited.ensures
