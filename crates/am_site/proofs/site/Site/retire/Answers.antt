use Rattle.std.proofs.Common.{ap}
use Rattle.std.proofs.lemmas.Result.{on_ok_weaker}
use Rattle.am_node.specs.Local.{Local as NodeLocal}
use Rattle.am_node.specs.Retiring.{retired as retired_in_node}
use Rattle.am_site.specs.Locals.{local_of}
use Rattle.am_site.proofs.Carrying.{keeps_node, with_node}
use Rattle.am_site.proofs.InOrder.{retired_in_order}
use Rattle.am_site.proofs.Retired.{all_retired, ok_both}
use Rattle.am_site.proofs.site.Site.retire.Goals as goal

pub returns-clause-retires : goal.returns-clause-retires
unfolding retired_in_node
returns-clause-retires g c =
    ok_both c.retire.result
    (λ retired planned. record {
      local = all_retired c.args.moment c.args.self.now c.retire.new.self retired planned;
      keeps = keeps_node c.args.self.now c.retire.new.self (λ t. ap (λ (l : NodeLocal). l.position) (retired t));
    })
    c.retire.ensures.retired c.retire.ensures.planned

pub returns-clause-order : goal.returns-clause-order
returns-clause-order g c = λ here order.
    on_ok_weaker c.retire.result (λ retires. retired_in_order here c.args.moment c.args.self.now (with_node c.args.self.now c.retire.new.self) retires order) (returns-clause-retires g c)

pub returns-clause-fault : goal.returns-clause-fault
unfolding local_of
returns-clause-fault g c = c.retire.ensures.fault
