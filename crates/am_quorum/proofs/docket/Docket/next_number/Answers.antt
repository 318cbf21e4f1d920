use Rattle.std.proofs.Common.{◌+◌, ◌<◌, arith}
use Rattle.am_quorum.proofs.Numbered.{unused_at}
use Rattle.am_quorum.proofs.docket.Docket.next_number.Goals as goal

pub returns-then-self-lt-GREATEST_COUNT-clause-unused : goal.returns-then-self-lt-GREATEST_COUNT-clause-unused
returns-then-self-lt-GREATEST_COUNT-clause-unused c =
    let lt : c.self.inside.used < c.self.inside.used + 1 = omega arith in
    rw (← c.self.view_is) (unused_at c.self.inside.used (c.self.inside.used + 1) c.self.inside.operations.entries c.self.invariant.numbered c.self.invariant.past lt)

pub returns-else-self-lt-GREATEST_COUNT-clause-unused : goal.returns-else-self-lt-GREATEST_COUNT-clause-unused
returns-else-self-lt-GREATEST_COUNT-clause-unused c =
    let lt : c.self.inside.used < c.self.inside.used + 1 = omega arith in
    rw (← c.self.view_is) (unused_at c.self.inside.used (c.self.inside.used + 1) c.self.inside.operations.entries c.self.invariant.numbered c.self.invariant.past lt)
