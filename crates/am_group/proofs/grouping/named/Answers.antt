use Rattle.std.proofs.Common.{◌≡◌, ◌∙◌, ap}
use Rattle.std.specs.List.{filter}
use Rattle.std.proofs.lemmas.List.{take_all}
use Rattle.am_group.specs.Grouping.{is_named}
use Rattle.am_group.proofs.LabelSets.{set_filtered}
use Rattle.am_group.proofs.grouping.named.Goals as goal

pub set_of-requires : goal.set_of-requires
set_of-requires c =
    let labels = c.labels-label-items.result.now in
    let all : c.loop-label.kept.items ≡ filter (is_named c.args.names.now) c.args.labels.now =
    c.loop-label.invariant ∙ ap (filter (is_named c.args.names.now)) (take_all c.loop-label.label-index labels c.loop-label-test.false ∙ c.labels-label-items.ensures.labels) in
    rw all (set_filtered (is_named c.args.names.now) c.args.labels.now c.labels-label-items.ensures.set)
