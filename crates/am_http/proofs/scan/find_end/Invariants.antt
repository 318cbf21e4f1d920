use Rattle.std.proofs.Common.{◌≡◌, ◌+◌, drop}
use Rattle.am_http.specs.Scan.{scanned}
use Rattle.am_http.proofs.scan.find_end.Given as goal

abbrev pub invariant-loop-i : goal.invariant-loop-i
invariant-loop-i l = scanned (l.from + l.i) l.reached (drop l.i l.rest) ≡ scanned l.fn.from l.fn.place l.rest
