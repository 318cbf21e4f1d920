use Rattle.am_serve.proofs.Answered.{write_came}
use Rattle.am_serve.proofs.socket.write_to.Goals as goal

pub returns-clause-bytes : goal.returns-clause-bytes
returns-clause-bytes g c = write_came _ _ _ _ _ c.came_of.ensures c.write.ensures.bound c.write.ensures.bytes
