use Rattle.std.proofs.Common.{sym}
use Rattle.am_members.specs.Names.{is_set}
use Rattle.am_members.proofs.Tables.{removed_all}
use Rattle.am_members.proofs.Ties.{tied_removed}
use Rattle.am_members.proofs.members.remove_from.Goals as goal

pub returns-in-Some-clause-tied : goal.returns-in-Some-clause-tied
returns-in-Some-clause-tied c =
    rw c.in-Some.ensures.entries (tied_removed c.args.sinces.now.entries c.args.counts.now.entries c.lower_count.new.counts.entries c.args.labels.now c.in-Some.since
    c.requires (sym c.in-Some.ensures.value) (rw c.in-Some.ensures.entries at c.in-Some.ensures.ordered) c.lower_count.ensures.counts c.lower_count.ensures.nonzero)

pub returns-in-Some-clause-removed : goal.returns-in-Some-clause-removed
returns-in-Some-clause-removed c = removed_all (is_set c.args.labels.now) _ _ c.in-Some.ensures.entries c.in-Some.ensures.updates.1

pub returns-in_default-clause-removed : goal.returns-in_default-clause-removed
returns-in_default-clause-removed c = removed_all (is_set c.args.labels.now) _ _ c.in_default.ensures.entries c.in_default.ensures.updates.1
