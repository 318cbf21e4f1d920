use Rattle.std.proofs.Common.{◌≡◌, arith}
use Rattle.am_ring.specs.Distances.{distance}
use Rattle.am_ring.proofs.distance.distance.Goals as goal

pub returns : goal.returns
unfolding distance
returns c =
    let all : c.loop-token.token-index ≡ 16 = omega arith in
    rw (all, c.tokens-tokens.ensures) at c.loop-token.invariant
