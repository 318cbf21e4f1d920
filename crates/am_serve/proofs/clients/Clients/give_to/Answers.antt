use Rattle.std.proofs.Common.{arith, sym}
use Rattle.am_serve.proofs.Sums.{replies-bound}
use Rattle.am_serve.proofs.Turns.{get_beside, get_with}
use Rattle.am_serve.proofs.clients.Clients.give_to.Goals as goal

pub overflow_add-self : goal.overflow_add-self
overflow_add-self g c =
    let table = c.args.self.now in
    omega (arith, replies-bound table.clients.slots, table.replies, table.bounded, table.few)

pub returns-clause-given : goal.returns-clause-given
returns-clause-given g c = record {
  client = _;
  there = sym c.in-Some.ensures.value;
  later = c.give.new.self;
  got = get_with c.args.self.now.clients c.args.key _ c.give.new.self c.in-Some.ensures.value;
  given = c.give.ensures;
  others = get_beside c.args.self.now.clients c.args.key c.give.new.self;
}
