use Rattle.std.proofs.Common.{sym}
use Rattle.am_http.proofs.StageLemmas.{no_head}
use Rattle.am_http.proofs.connection.Connection.said.Goals as goal

pub returns-in-Head : goal.returns-in-Head
returns-in-Head c = rw (← c.self.view_is) (sym (no_head _ c.in-Head.field-0 (rw c.in-Head.is at c.self.invariant)))
