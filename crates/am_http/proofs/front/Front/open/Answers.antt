use Rattle.std.proofs.Common.{Some, []}
use Rattle.am_http.proofs.ConnectionLemmas.{bytes_of-updated}
use Rattle.am_http.proofs.front.Front.open.Goals as goal

pub returns : goal.returns
returns c = rw (← c.self.view_is) (bytes_of-updated c.args.connection (Some []) c.self.inside.connections.entries _ (rw c.new.ensures at c.in_ok-insert.ensures.updates.0))
