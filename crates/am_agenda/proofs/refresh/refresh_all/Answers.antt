use Rattle.std.proofs.Common.{◌∙◌, ap, cond}
use Rattle.am_members.specs.Grouped.{grouped_of}
use Rattle.am_members.specs.Members.{gave}
use Rattle.am_timer.specs.Tied.{has_timer}
use Rattle.am_agenda.specs.Planned.{flush_due_of, is_for}
use Rattle.am_agenda.proofs.Named.{next_for}
use Rattle.am_agenda.proofs.refresh.refresh_all.Goals as goal

pub loop-group-preserved : goal.loop-group-preserved
loop-group-preserved c x =
    let t = c.args.tenant.now in
    let paces = c.args.paces.now in
    let due = gave (flush_due_of paces (grouped_of t c.args.groups.now) x.name.key) x.due in
    let mid = has_timer c.loop-group.timers.timers x in
    next_for t paces c.args.changed.now c.loop-group.group-index c.group-item.result x due (has_timer c.args.timers.now.timers x) mid (has_timer c.refresh.new.timers.timers x) c.loop-group-test.true
    (c.loop-group.invariant x)
    (c.in_ok-refresh.ensures x ∙ ap (λ g. cond (is_for t paces g x) due mid) c.group-item.is)
