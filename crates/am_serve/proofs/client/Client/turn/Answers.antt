use Rattle.std.proofs.Common.{arith}
use Rattle.am_serve.proofs.Steps.{begun, goes_on, over}
use Rattle.am_serve.proofs.client.Client.turn.Goals as goal

pub loop-init : goal.loop-init
loop-init g c = (c.requires, begun g.S.Socket.does g.H.Host.takes c.args.most c.args.now _ _)

pub returns-in_default-clause-turned : goal.returns-in_default-clause-turned
returns-in_default-clause-turned g c =
    over g.S.Socket.does g.H.Host.takes c.args.most c.args.now _ _ _ _ _ _ _ (omega arith) c.in_default.not-More
    (goes_on g.S.Socket.does g.H.Host.takes c.args.most c.args.now _ _ _ _ _ _ _ _ c.loop.invariant.1 c.step.ensures.turned)

pub loop-preserved : goal.loop-preserved
loop-preserved g c =
    (c.in-More.ensures.held, goes_on g.S.Socket.does g.H.Host.takes c.args.most c.args.now _ _ _ _ _ _ _ _ c.loop.invariant.1 c.in-More.ensures.turned)
