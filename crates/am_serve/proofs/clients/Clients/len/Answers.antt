use Rattle.std.proofs.Common.{arith}
use Rattle.am_serve.proofs.Sums.{held-bound}
use Rattle.am_serve.proofs.clients.Clients.len.Goals as goal

pub returns-clause-memory : goal.returns-clause-memory
returns-clause-memory g c =
    let table = c.args.self.now in
    omega (arith, held-bound table.clients.slots, table.counted, table.pool, c.len.ensures)
