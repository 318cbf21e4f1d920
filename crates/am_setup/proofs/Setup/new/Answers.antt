use Rattle.std.proofs.Common.{rules, sym, ◌∙◌}
use Rattle.am_setup.proofs.Rings.{made}
use Rattle.am_setup.proofs.Setup.new.Goals as goal

pub invariant_of-result : goal.invariant_of-result
invariant_of-result c =
    let ring = made c.args.ring.now c.in_ok-ring.ring (sym c.in_ok-ring.was ∙ c.new.ensures) in
    (search rules, search rules, ring.0, ring.1)
