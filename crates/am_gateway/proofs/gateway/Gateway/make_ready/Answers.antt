use Rattle.std.proofs.Common.{inl, inr, refl}
use Rattle.am_gateway.proofs.gateway.Gateway.make_ready.Goals as goal

pub returns-in_err-restart_next-clause-ready : goal.returns-in_err-restart_next-clause-ready
returns-in_err-restart_next-clause-ready g c =
    (c.restart_next.result, c.restart_next.new.self, c.restart_next.ensures.restarts, inl (rw c.in_err-restart_next.was refl, c.from_residual.ensures.0, refl))

pub returns-clause-ready : goal.returns-clause-ready
returns-clause-ready g c =
    (c.restart_next.result, c.restart_next.new.self, c.restart_next.ensures.restarts, inr (rw c.in_ok-restart_next.was refl, c.learn_next.ensures.learns))
