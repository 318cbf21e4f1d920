use Rattle.std.proofs.Common.{None}
use Rattle.am_http.proofs.ConnectionLemmas.{bytes_of-updated}
use Rattle.am_http.proofs.front.Front.close.Goals as goal

pub returns : goal.returns
returns c = rw (← c.self.view_is) (bytes_of-updated c.args.connection None c.self.inside.connections.entries _ c.remove.ensures.updates.0)
