use Rattle.am_api.proofs.Replies.{asked_grows}
use Rattle.am_api.proofs.Adding.{asked_adds, both_add}
use Rattle.am_api.proofs.listing.list_grouped.Goals as goal

pub returns-clause-asked : goal.returns-clause-asked
returns-clause-asked c = asked_grows c.list_groups-listed.result _ _ c.list_groups-listed.ensures.asked

pub returns-clause-adds : goal.returns-clause-adds
returns-clause-adds c =
    both_add _ _ _ _ _ c.requires.asked.among (asked_adds c.list_groups-listed.result _ _ _ c.list_groups-listed.ensures.asked c.list_groups-listed.ensures.adds)
