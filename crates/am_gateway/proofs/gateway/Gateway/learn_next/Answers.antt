use Rattle.std.proofs.Common.{Ok, refl}
use Rattle.std.specs.declared.alloc.AllocError.{AllocError}
use Rattle.am_gateway.proofs.HearingLemmas.{learns_none, learns_one}
use Rattle.am_gateway.proofs.gateway.Gateway.learn_next.Goals as goal

pub returns-in_default-clause-learns : goal.returns-in_default-clause-learns
returns-in_default-clause-learns g c =
    learns_none {X = Unit {0}} {E = AllocError} g.W.AnyWorld.contents (Ok tt) c.args.self.now _ c.behind.result
    c.behind.ensures c.in_default.is refl refl

pub returns-clause-learns : goal.returns-clause-learns
returns-clause-learns g c =
    learns_one {X = Unit {0}} {E = AllocError} g.W.AnyWorld.contents c.tell.result c.in-Some.instance c.args.self.now _
    c.behind.result c.behind.ensures c.in-Some.is c.tell.ensures.told
