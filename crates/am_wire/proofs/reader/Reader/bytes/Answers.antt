use Rattle.am_wire.proofs.Numbers.{AreBytes-take, AreBytes-drop}
use Rattle.am_wire.proofs.reader.Reader.bytes.Goals as goal

pub returns-clause-bytes : goal.returns-clause-bytes
returns-clause-bytes c = rw c.split_at.ensures.front (AreBytes-take c.args.n c.self.inside.left.now c.self.invariant)

pub invariant_of-self : goal.invariant_of-self
invariant_of-self c = rw c.split_at.ensures.back (AreBytes-drop c.args.n c.self.inside.left.now c.self.invariant)
