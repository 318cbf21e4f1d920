use Rattle.std.proofs.Common.{refl}
use Rattle.std.proofs.lemmas.Option.{IfSome_then}
use Rattle.am_serve.specs.Lanes.{is_ready}
use Rattle.am_serve.proofs.LaneTurns.{none_at_zero, turn_around, turn_up}
use Rattle.am_serve.proofs.lanes.next_ready.Goals as goal

pub returns-then-free-eq0-clause-none : goal.returns-then-free-eq0-clause-none
returns-then-free-eq0-clause-none g c = none_at_zero c.args.free c.args.lanes.now c.if-free-eq0.true

pub returns-in-Some-clause-turn : goal.returns-in-Some-clause-turn
returns-in-Some-clause-turn g c =
    turn_up (λ t. is_ready c.args.free t c.args.lanes.now) c.args.last c.in-Some.tenant c.in-Some.ensures.after c.in-Some.ensures.first

pub returns-in-None-clause-turn : goal.returns-in-None-clause-turn
returns-in-None-clause-turn g c =
    IfSome_then c.first_ready-in-None.result c.first_ready-in-None.ensures.first
    (λ found first. turn_around (λ t. is_ready c.args.free t c.args.lanes.now) c.args.last found c.in-None.ensures.none (λ t below. first t refl below))
