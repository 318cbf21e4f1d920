use Rattle.std.proofs.Common.{◌≡◌, drop}
use Rattle.am_http.specs.Values.{without_zeros}
use Rattle.am_http.proofs.fields.significant.Given as goal

abbrev pub invariant-loop-i : goal.invariant-loop-i
invariant-loop-i l = without_zeros (drop l.i l.digits) ≡ without_zeros l.digits
