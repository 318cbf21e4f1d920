use Rattle.std.proofs.Common.{map, take}
use Rattle.am_group_list.specs.Places.{AreGrouped, groups_flagged, places_by, places_from}
use Rattle.am_group_list.proofs.grouping.grouped.Given as goal

abbrev pub invariant-loop-place : goal.invariant-loop-place
invariant-loop-place l =
    AreGrouped (places_by l.grouped.entries) (places_from 0 (map (groups_flagged l.config l.asked) (take l.place l.alerts)))
