use Rattle.std.proofs.Common.{sym, map, refl, subst, take}
use Rattle.am_group_list.specs.Places.{AreGrouped, groups_flagged, places_by, places_from}
use Rattle.am_group_list.proofs.Members.{places_more}
use Rattle.am_group_list.proofs.grouping.grouped.Goals as goal

pub loop-place-init : goal.loop-place-init
loop-place-init c = λ g. rw c.new-grouped.ensures.empty refl

pub loop-place-preserved : goal.loop-place-preserved
loop-place-preserved c =
    let groups = groups_flagged c.args.config.now c.args.asked.now in
    subst (AreGrouped (places_by c.put_all.new.grouped.entries))
    (sym (places_more groups c.args.alerts.now c.loop-place.place c.index-alerts-place.result c.loop-place-test.true c.index-alerts-place.is))
    (rw c.in_ok-groups.ensures at c.in_ok-put_all.ensures (places_from 0 (map groups (take c.loop-place.place c.args.alerts.now))) c.loop-place.invariant)
