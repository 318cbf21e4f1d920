use Rattle.std.proofs.Common.{◌∙◌, ap, cond}
use Rattle.am_members.specs.Grouped.{held_at}
use Rattle.am_members.specs.Names.{is_group, without}
use Rattle.am_members.proofs.Changes.{change_next, without-without}
use Rattle.am_members.proofs.change.leave_all.Goals as goal

pub loop-group-preserved : goal.loop-group-preserved
loop-group-preserved c =
    let l = c.args.labels.now in
    record {
      members = λ q.
          let was = held_at q c.loop-group.groups.entries in
          change_next (without l) (without-without l) q c.args.left.now c.loop-group.group-index c.group-item.result (held_at q c.args.groups.now.entries) was (held_at q c.tidy.new.groups.entries)
          c.loop-group-test.true (c.loop-group.invariant.members q)
          (c.tidy.ensures.members q ∙ c.leave_one.ensures.members q ∙ ap (λ g. cond (is_group q g) (without l was) was) c.group-item.is);
      full = λ full. c.tidy.ensures.full (c.leave_one.ensures.full (c.loop-group.invariant.full full));
    }
