use Rattle.am_serve.proofs.Heaviest.{IsMost}
use Rattle.am_serve.proofs.lanes.heaviest.Given as goal

-- of the lanes so far that can begin none has more bytes
abbrev pub invariant-loop-tenant : goal.invariant-loop-tenant
invariant-loop-tenant g l = IsMost (λ entry. entry.1.now) l.lanes l.found l.yielded
