use Rattle.std.proofs.Common.{rules, ◌≡◌, Some, None, refl}
use Rattle.std.specs.Prelude.{slice_get}
use Rattle.std.proofs.lemmas.Option.{slice_get_read}
use Rattle.std.proofs.lemmas.Result.{on_ok_weaker}
use Rattle.am_members.specs.Grouped.{grouped_of}
use Rattle.am_timer.specs.Timer.{Timer}
use Rattle.am_agenda.specs.Plan.{group_due}
use Rattle.am_agenda.proofs.Named.{cancelled_for, set_for}
use Rattle.am_agenda.proofs.refresh.refresh.Goals as goal

pub returns-in-Some-due : goal.returns-in-Some-due
returns-in-Some-due c =
    let t = c.args.tenant.now in
    let paces = c.args.paces.now in
    let grouped = grouped_of t c.args.groups.now in
    let timer : Timer = record { due = c.in-Some-due.due; name = c.in_ok-name.name } in
    let there : slice_get paces c.args.group.now.route ≡ Some c.in-Some.pace.now = slice_get_read paces _ _ _ refl c.in-Some.ensures.lookup.3.0 c.in-Some.ensures.lookup.1 in
    let due : group_due c.in-Some.pace.now c.args.group.now grouped ≡ Some c.in-Some-due.due = search rules in
    on_ok_weaker c.set.result
    (λ is. set_for t paces c.in-Some.pace.now c.args.group.now grouped timer c.args.timers.now.timers c.set.new.self.timers there c.in_ok-name.ensures due is)
    c.set.ensures.set

pub returns-in-None : goal.returns-in-None
returns-in-None c =
    let t = c.args.tenant.now in
    let paces = c.args.paces.now in
    let grouped = grouped_of t c.args.groups.now in
    let there : slice_get paces c.args.group.now.route ≡ Some c.in-Some.pace.now = slice_get_read paces _ _ _ refl c.in-Some.ensures.lookup.3.0 c.in-Some.ensures.lookup.1 in
    let none : group_due c.in-Some.pace.now c.args.group.now grouped ≡ None = search rules in
    cancelled_for t paces c.in-Some.pace.now c.args.group.now grouped c.in_ok-name.name c.args.timers.now.timers c.cancel.new.self.timers there c.in_ok-name.ensures none c.cancel.ensures.cancelled
