use Rattle.std.proofs.Common.{◌≡◌, Result, true, false, refl}
use Rattle.am_admin.specs.declared.counted.Counted.{Counted}
use Rattle.am_gateway.specs.Gateway.{GoesOn}
use Rattle.am_gateway.specs.declared.gateway.Gateway.{Gateway}
use Rattle.am_world.specs.Consistent.{Contents}
use Rattle.am_admin.proofs.counted.CountedService.tick.Goals as goal
use Rattle.am_admin.proofs.counted.CountedService.tick.Goals.{then-is_tick_due, else-is_tick_due}

same_gateway : {W : Type 0} (counted other : Counted W) → counted ≡ other → counted.gateway ≡ other.gateway
same_gateway counted other same = rw same refl

-- what the same gateway does at a tick
goes_on_from : {W X E : Type 0} (contents : W → Contents) (result : Result X E) (mid old new : Gateway W) → mid ≡ old
    → (mid.is_tick_due ≡ true → GoesOn contents result (record mid { is_tick_due = false }) new)
    → old.is_tick_due ≡ true → GoesOn contents result (record old { is_tick_due = false }) new
goes_on_from contents result mid old new same told = rw (← same) told

-- to count changes nothing of the gateway
pub returns-clause-told : goal.returns-clause-told
returns-clause-told g c = goes_on_from g.W.AnyWorld.contents c.tick.result c.if-is_tick_due.self.gateway
    c.args.self.now.gateway c.tick.new.self
    (elim c.if-is_tick_due.branch [
      | then-is_tick_due w ↦ same_gateway _ _ w.self-is
      | else-is_tick_due w ↦ same_gateway _ _ w.self-is
    ])
    c.tick.ensures.told
