use Rattle.std.proofs.Common.{◌∙◌}
use Rattle.am_cluster.specs.PrivateCluster.{output_of}
use Rattle.am_site.specs.Reacting.{said_in}
use Rattle.am_instance.proofs.Saying.{map_twice, put_behind}
use Rattle.am_instance.proofs.outputs.put_out.Goals as goal

pub returns-clause-put : goal.returns-clause-put
returns-clause-put c =
    put_behind c.append.result c.append.new.self.items c.args.outputs.now.items c.in_ok-more.more.items _
    (c.in_ok-more.ensures ∙ map_twice said_in (output_of c.args.speaker.tenant c.args.speaker.instance c.args.speaker.incarnation) c.args.said.items) c.append.ensures.items
