use Rattle.std.proofs.Common.{arith, inl, refl}
use Rattle.am_serve.proofs.Sums.{replies-none}
use Rattle.am_serve.proofs.clients.Clients.relieve_one.Goals as goal

pub returns-in_default-clause-within : goal.returns-in_default-clause-within
returns-in_default-clause-within g c = λ _. (inl (omega (arith, replies-none c.args.self.now.clients c.in_default.ensures.none, c.args.self.now.replies, c.if-self.false)), refl)
