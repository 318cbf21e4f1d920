use Rattle.am_node.proofs.Kept.{blank_planned}
use Rattle.am_node.proofs.Planned.{all_blank}
use Rattle.am_node.proofs.StoredRows.{stores_held}
use Rattle.am_node.proofs.node.Node.hold_open.Goals as goal

pub invariant_of-self : goal.invariant_of-self
invariant_of-self g c = c.in-Ok.ensures.planned.planned

pub invariant_of-self-in-Err : goal.invariant_of-self-in-Err
invariant_of-self-in-Err g c = all_blank c.clear.new.self blank_planned c.clear.ensures

pub returns-in-Ok-clause-stores : goal.returns-in-Ok-clause-stores
returns-in-Ok-clause-stores g c = λ clean. record {
  keeps = c.in-Ok.ensures.keeps clean;
  stores = stores_held c.args.moment c.hold_open.new.self (g.R.Rows.pairs c.args.store.now) (g.R.Rows.pairs c.hold_open.new.store) (c.in-Ok.ensures.keeps clean) (c.in-Ok.ensures.held clean);
}

pub hold_open-requires-clause-blank : goal.hold_open-requires-clause-blank
hold_open-requires-clause-blank g c = rw (← c.self.view_is) at c.requires.blank
