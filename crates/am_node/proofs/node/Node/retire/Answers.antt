use Rattle.std.proofs.Common.{sym, subst}
use Rattle.am_node.specs.Held.{local_of}
use Rattle.am_node.specs.Plans.{IsPlanned}
use Rattle.am_node.proofs.Kept.{blank_planned, retired_keeps}
use Rattle.am_node.proofs.Planned.{all_blank}
use Rattle.am_node.proofs.node.Node.retire.Goals as goal

pub invariant_of-self : goal.invariant_of-self
invariant_of-self g c = λ t.
    subst IsPlanned (sym (c.in-Ok.ensures.retired t)) (retired_keeps c.args.moment (local_of t c.self.inside.parts) (c.self.invariant t))

pub invariant_of-self-in-Err : goal.invariant_of-self-in-Err
invariant_of-self-in-Err g c = all_blank c.clear.new.self blank_planned c.clear.ensures

pub returns-in-Ok-clause-stores : goal.returns-in-Ok-clause-stores
returns-in-Ok-clause-stores g c = rw (← c.self.view_is) c.in-Ok.ensures.stores

pub returns-in-Ok-clause-planned : goal.returns-in-Ok-clause-planned
returns-in-Ok-clause-planned g c = λ t.
    subst IsPlanned (sym (c.in-Ok.ensures.retired t)) (retired_keeps c.args.moment (local_of t c.self.inside.parts) (c.self.invariant t))
