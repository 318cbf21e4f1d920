use Rattle.std.proofs.Common.{◌<◌, ◌∙◌, false, All, ap, get_or, length, map}
use Rattle.std.proofs.lemmas.List.Elements.{All-filter}
use Rattle.std.proofs.lemmas.Result.{IfOk-weaker}
use Rattle.std.proofs.lemmas.Simd.{map-map}
use Rattle.am_group.specs.Grouping.{group_by}
use Rattle.am_group_list.specs.Groups.{listed_group}
use Rattle.am_group_list.proofs.Members.{groups_below}
use Rattle.am_group_list.proofs.grouping.groups_of.Goals as goal

pub flagged-requires : goal.flagged-requires
flagged-requires c = rw (c.as_slice.ensures, c.requires.flags) c.requires.routes

pub groups_by-requires : goal.groups_by-requires
groups_by-requires c =
    rw (c.deref.ensures.value, c.in_ok-routes.ensures, c.as_slice.ensures)
    (All-filter (λ route. get_or c.args.asked.now route false) (λ id. id < length c.args.config.now.routes) c.args.alert.now.routes c.requires.routes)

pub listed-requires : goal.listed-requires
listed-requires c =
    let count = length c.args.config.now.routes in
    let below : All (λ id. id < count) c.deref.result.now =
    rw (c.deref.ensures.value, c.in_ok-routes.ensures, c.as_slice.ensures)
    (All-filter (λ route. get_or c.args.asked.now route false) (λ id. id < count) c.args.alert.now.routes c.requires.routes) in
    rw c.in_ok-groups.ensures (groups_below c.args.config.now c.args.alert.now.alert.alert.labels.now count _ below)

pub returns : goal.returns
returns c =
    IfOk-weaker c.listed.result _ _
    (λ v is.
    is ∙ ap (map (listed_group c.args.config.now)) (rw (c.deref.ensures.value, c.in_ok-routes.ensures, c.as_slice.ensures) at c.in_ok-groups.ensures)
    ∙ map-map (listed_group c.args.config.now) (group_by c.args.config.now c.args.alert.now.alert.alert.labels.now) _)
    c.listed.ensures
