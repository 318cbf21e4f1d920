use Rattle.std.proofs.Common.{inl, inr, refl}
use Rattle.am_gateway.proofs.gateway.GatewayService.tick.Goals as goal

pub returns-in_err-make_ready-clause-told : goal.returns-in_err-make_ready-clause-told
returns-in_err-make_ready-clause-told g c = λ due.
    (c.make_ready.result, c.make_ready.new.self, c.make_ready.ensures.ready, inl (rw c.in_err-make_ready.was refl, c.from_residual.ensures.0, refl))

pub returns-clause-told : goal.returns-clause-told
returns-clause-told g c = λ due.
    (c.make_ready.result, c.make_ready.new.self, c.make_ready.ensures.ready, inr (rw c.in_ok-make_ready.was refl, c.tell.ensures.told))
