use Rattle.std.proofs.Common.{◌<◌, ◌≤◌, length, None, Some, arith, refl}
use Rattle.am_serve.proofs.Heaviest.{holds_all, none_holds, nothing}
use Rattle.am_serve.proofs.lanes.Lanes.holds_all.Goals as goal

pub returns-in-Some-front : goal.returns-in-Some-front
returns-in-Some-front g c =
    let some : 0 < length c.in-Some.lane.now.waiting.items =
    omega (arith, c.in-Some-front.ensures.variant.0 refl, c.in-Some.lane.now.waiting.ok.0) in
    holds_all g.T.Weighs.weight c.args.self.now.lanes c.args.tenant.now c.in-Some.lane.now c.in-Some-front.item.now _ _
    c.in-Some.ensures.value some c.in-Some-front.ensures.lookup c.bytes.ensures c.args.self.now.sum

pub returns-in-None-front : goal.returns-in-None-front
returns-in-None-front g c =
    let none : length c.in-Some.lane.now.waiting.items ≤ 0 =
    omega (arith, nothing c.in-Some.lane.now.waiting.len c.in-None-front.ensures.variant.1, c.in-Some.lane.now.waiting.ok.0) in
    none_holds g.T.Weighs.weight c.args.self.now.lanes c.args.tenant.now (Some c.in-Some.lane.now) c.in-Some.ensures.value none

pub returns-in-None : goal.returns-in-None
returns-in-None g c =
    none_holds g.T.Weighs.weight c.args.self.now.lanes c.args.tenant.now None c.in-None.ensures.value (omega arith)
