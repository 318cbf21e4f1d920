use Rattle.std.proofs.Common.{◌≡◌, false, filter, get_or, take}
use Rattle.am_group_list.proofs.grouping.flagged.Given as goal

abbrev pub invariant-loop-route : goal.invariant-loop-route
invariant-loop-route l = l.kept.items ≡ filter (λ route. get_or l.asked route false) (take l.route-index l.routes)
