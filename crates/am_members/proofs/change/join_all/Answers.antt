use Rattle.std.proofs.Common.{◌≡◌, ◌∙◌, ap, cond, take, true}
use Rattle.std.specs.BTreeMap.{insert_entry}
use Rattle.std.specs.List.{list_any}
use Rattle.am_labels.specs.Labels.{labels_cmp}
use Rattle.am_members.specs.Grouped.{held_at}
use Rattle.am_members.specs.Names.{is_group}
use Rattle.am_members.proofs.Changes.{change_next, is_listed, joined_twice, may_join}
use Rattle.am_members.proofs.change.join_all.Goals as goal

pub join_one-requires : goal.join_one-requires
join_one-requires c =
    let g = c.group-item.result in
    let gs = c.args.joined.now in
    let listed : list_any (is_group g) gs ≡ true = ap (λ h. list_any (is_group h) gs) c.group-item.is ∙ is_listed gs c.loop-group.group-index g c.loop-group-test.true in
    may_join c.args.labels.now c.args.since (list_any (is_group g) (take c.loop-group.group-index gs)) (held_at g c.args.groups.now.entries) (held_at g c.loop-group.groups.entries)
    (c.requires g listed) (c.loop-group.invariant.members g)

pub loop-group-preserved : goal.loop-group-preserved
loop-group-preserved c =
    let l = c.args.labels.now in
    let s = c.args.since in
    record {
      members = λ q.
          let was = held_at q c.loop-group.groups.entries in
          change_next (λ ms. insert_entry labels_cmp ms l s) (joined_twice l s) q c.args.joined.now c.loop-group.group-index c.group-item.result (held_at q c.args.groups.now.entries) was (held_at q c.join_one.new.groups.entries)
          c.loop-group-test.true (c.loop-group.invariant.members q)
          (c.in_ok-join_one.ensures.members q ∙ ap (λ g. cond (is_group q g) (insert_entry labels_cmp was l s) was) c.group-item.is);
      full = λ full. c.in_ok-join_one.ensures.full (c.loop-group.invariant.full full);
    }
