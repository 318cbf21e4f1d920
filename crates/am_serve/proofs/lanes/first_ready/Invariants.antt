use Rattle.std.proofs.Common.{◌≡◌, true, not}
use Rattle.std.specs.List.{list_all}
use Rattle.am_serve.specs.Lanes.{can_begin}
use Rattle.am_serve.proofs.lanes.first_ready.Given as goal

-- no lane so far can begin
abbrev pub invariant-loop-tenant : goal.invariant-loop-tenant
invariant-loop-tenant g l = list_all (λ entry. not (can_begin l.free entry.1.now)) l.yielded ≡ true
