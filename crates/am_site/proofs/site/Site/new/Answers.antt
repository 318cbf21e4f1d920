use Rattle.std.proofs.Common.{ap}
use Rattle.am_cluster.specs.Local.{Local, blank}
use Rattle.am_item.specs.Counts.{count_of}
use Rattle.am_node.specs.Local.{Local as NodeLocal}
use Rattle.am_transfer.specs.Progress.{Progress}
use Rattle.am_site.specs.Locals.{local_of}
use Rattle.am_site.proofs.site.Site.new.Goals as goal

pub returns-clause-blank : goal.returns-clause-blank
unfolding local_of count_of
returns-clause-blank c = λ t.
    rw (c.in_ok-new.ensures t, c.new-2.ensures.dockets t, c.new-3.ensures) (ap (λ (p : Progress). let l : Local = record blank { settling = p.settling } in l) (c.new-4.ensures.each t))

pub returns-clause-positions : goal.returns-clause-positions
returns-clause-positions c = λ t. ap (λ (l : NodeLocal). l.position) (c.in_ok-new.ensures t)
