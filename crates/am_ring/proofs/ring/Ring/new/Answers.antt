use Rattle.std.proofs.Common.{◌≡◌, sym, true, ◌∙◌}
use Rattle.am_ring.specs.Instances.{may_be_ring}
use Rattle.am_ring.proofs.Flags.{flagged-flags_of, made_ring}
use Rattle.am_ring.proofs.ring.Ring.new.Goals as goal

pub invariant_of-result : goal.invariant_of-result
invariant_of-result c =
    let may : may_be_ring c.args.numbers.now ≡ true = sym c.may_be_ring.ensures ∙ c.if-not-may_be_ring.false in
    rw c.flags_of.ensures (made_ring c.args.numbers.now may)

pub returns : goal.returns
returns c =
    let may : may_be_ring c.args.numbers.now ≡ true = sym c.may_be_ring.ensures ∙ c.if-not-may_be_ring.false in
    rw (may, c.flags_of.ensures, flagged-flags_of c.args.numbers.now)
