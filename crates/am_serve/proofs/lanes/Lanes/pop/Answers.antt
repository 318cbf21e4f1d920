use Rattle.std.proofs.Common.{◌≡◌, ap₂}
use denote.Struct.Props.{props}
use Rattle.am_serve.specs.Lanes.{AreNeeded}
use Rattle.am_serve.specs.Weights.{AreCounted, all_bytes}
use Rattle.am_serve.proofs.lanes.Lanes.pop.Goals as goal

-- The same table: each of its facts has one proof.
pub returns-in_default-clause-stays : goal.returns-in_default-clause-stays
returns-in_default-clause-stays g c =
    let was = c.args.self.now in
    let needed : IsProp (AreNeeded was.lanes) = hlevel props in
    let counted : IsProp (AreCounted g.T.Weighs.weight was.lanes) = hlevel props in
    let sum : IsProp (was.held ≡ all_bytes g.T.Weighs.weight was.lanes) = hlevel props in
    ap₂ (λ (n : AreNeeded was.lanes) (r : AreCounted g.T.Weighs.weight was.lanes × (was.held ≡ all_bytes g.T.Weighs.weight was.lanes)).
    record was { needed = n; counted = r.0; sum = r.1 }) (needed c.self-1.given.0 was.needed)
    (ap₂ (λ (x : AreCounted g.T.Weighs.weight was.lanes) (y : was.held ≡ all_bytes g.T.Weighs.weight was.lanes). (x, y))
    (counted c.self-1.given.1.0 was.counted) (sum c.self-1.given.1.1.0 was.sum))
