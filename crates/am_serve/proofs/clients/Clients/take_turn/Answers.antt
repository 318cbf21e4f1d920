use Rattle.std.proofs.Common.{arith, sym}
use Rattle.am_serve.proofs.Sums.{count-with, excess-with, replies-at, replies-bound, replies-with}
use Rattle.am_serve.proofs.Turns.{kept, let_go}
use Rattle.am_serve.proofs.clients.Clients.take_turn.Goals as goal

pub returns-then-lets_go-clause-turned : goal.returns-then-lets_go-clause-turned
returns-then-lets_go-clause-turned g c =
    let_go g.S.Socket.does g.H.Host.takes g.H.Host.closes c.args.now c.args.self.now.clients c.let_go.new.self.clients c.args.key c.args.self.now.pooled c.excess.result _ c.turn-turn.new.self _ _ _ _
    c.in_ok-client.ensures.value c.args.self.now.counted c.excess.ensures c.turn-turn.ensures.turned (sym c.if-lets_go.ensures) c.let_go.ensures.goes

pub returns-else-lets_go-clause-turned : goal.returns-else-lets_go-clause-turned
returns-else-lets_go-clause-turned g c =
    kept g.S.Socket.does g.H.Host.takes g.H.Host.closes c.args.now c.args.self.now.clients c.args.key c.args.self.now.pooled c.excess.result _ c.turn-turn.new.self _ _ _
    c.in_ok-client.ensures.value c.args.self.now.counted c.excess.ensures c.turn-turn.ensures.turned (sym c.if-lets_go.ensures)

pub overflow_add-self-2 : goal.overflow_add-self-2
overflow_add-self-2 g c =
    let table = c.args.self.now in
    omega (arith, replies-bound table.clients.slots, table.replies, table.bounded, table.few)

pub invariant_of-self-2-clause-bounded : goal.invariant_of-self-2-clause-bounded
invariant_of-self-2-clause-bounded g c =
    let table = c.args.self.now in
    omega (arith, count-with table.clients c.args.key _ c.turn-turn.new.self c.in_ok-client.ensures.value, table.bounded)

pub invariant_of-self-2-clause-counted : goal.invariant_of-self-2-clause-counted
invariant_of-self-2-clause-counted g c =
    let table = c.args.self.now in
    let both = excess-with table.clients c.args.key _ c.turn-turn.new.self c.in_ok-client.ensures.value in
    omega (arith, both.0, both.1, table.counted, c.excess.ensures, c.excess-2.ensures)

pub invariant_of-self-2-clause-replies : goal.invariant_of-self-2-clause-replies
invariant_of-self-2-clause-replies g c =
    let table = c.args.self.now in
    omega (arith, replies-with table.clients c.args.key _ c.turn-turn.new.self c.in_ok-client.ensures.value, replies-at table.clients c.args.key _ c.in_ok-client.ensures.value, table.replies, c.reply_bytes.ensures, c.reply_bytes-2.ensures)
