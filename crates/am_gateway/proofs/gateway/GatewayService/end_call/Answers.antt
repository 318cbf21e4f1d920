use Rattle.std.proofs.Common.{refl}
use Rattle.am_gateway.proofs.HearingLemmas.{tells_before}
use Rattle.am_gateway.proofs.gateway.GatewayService.end_call.Goals as goal

pub returns-clause-told : goal.returns-clause-told
returns-clause-told g c =
    tells_before g.W.AnyWorld.contents c.tell.result _ c.args.self.now _ c.tell.new.self refl refl c.end.ensures.waiting
    refl refl c.tell.ensures.told
