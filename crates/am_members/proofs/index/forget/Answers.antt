use Rattle.std.proofs.Common.{sym}
use Rattle.am_members.specs.Names.{is_set}
use Rattle.am_members.proofs.Grouping.{grouped_left}
use Rattle.am_members.proofs.Tables.{removed_all}
use Rattle.am_members.proofs.index.forget.Goals as goal

pub returns-in_err-known-clause-left : goal.returns-in_err-known-clause-left
returns-in_err-known-clause-left c = removed_all (is_set c.args.labels.now) _ _ c.in_err-known.ensures.entries c.in_err-known.ensures.updates.1

pub returns-clause-grouped : goal.returns-clause-grouped
returns-clause-grouped c =
    grouped_left c.args.alerts.now.entries c.remove.new.self.entries c.args.groups.now.entries c.leave_all.new.groups.entries c.args.labels.now c.in_ok-known.known c.requires
    (sym c.in_ok-known.ensures.value) (removed_all (is_set c.args.labels.now) _ _ c.in_ok-known.ensures.entries c.in_ok-known.ensures.updates.1) c.in_ok-known.ensures.ordered (λ q. rw c.as_slice.ensures at (c.leave_all.ensures.members q))

pub returns-clause-left : goal.returns-clause-left
returns-clause-left c = removed_all (is_set c.args.labels.now) _ _ c.in_ok-known.ensures.entries c.in_ok-known.ensures.updates.1
