use Rattle.std.proofs.Common.{◌+◌, false, arith}
use Rattle.std.proofs.lemmas.List.FromFn.{fill_by_all}
use Rattle.am_ring.specs.Instances.{flags_of, is_among}
use Rattle.am_ring.proofs.ring.flags_of.Goals as goal

pub returns : goal.returns
unfolding flags_of
returns c =
    fill_by_all (λ k. is_among (k + 1) c.args.numbers.now) c.loop-index.flags 8 false c.loop-index.invariant.eight
    (λ k lt. c.loop-index.invariant.below k (omega arith))
