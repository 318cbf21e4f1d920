use Rattle.std.proofs.Common.{inr}
use Rattle.am_gateway.proofs.gateway.GatewayHost.take.Goals as goal

pub returns-in-Err : goal.returns-in-Err
returns-in-Err g c = inr (record {
  mid = c.take_piece.new.self;
  loses = rw c.new.ensures at c.in-Err.ensures.err;
  closed = c.close.ensures;
})
