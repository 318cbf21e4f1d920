use Rattle.std.proofs.Common.{sym, rules}
use Rattle.am_timer.proofs.TiedLemmas.{gone_of_name, none_of_name, tied_gone}
use Rattle.am_timer.proofs.queue.forget.Goals as goal

pub returns-in-Some-clause-kept : goal.returns-in-Some-clause-kept
returns-in-Some-clause-kept c =
    gone_of_name c.args.by_due.now.keys c.remove.new.self.keys c.args.dues.now.entries c.args.name.now c.in-Some.own c.in-Some.due c.requires.tied
    c.in-Some.ensures.same_key (sym c.in-Some.ensures.value) c.remove.ensures.ordered c.remove.ensures.updates.0

pub returns-in-Some-clause-tied : goal.returns-in-Some-clause-tied
returns-in-Some-clause-tied c =
    tied_gone c.args.by_due.now.keys c.remove.new.self.keys c.args.dues.now.entries c.remove_entry.new.self.entries c.args.name.now
    (returns-in-Some-clause-kept c) c.requires.tied c.remove_entry.ensures.updates.0

pub returns-in_default-clause-kept : goal.returns-in_default-clause-kept
returns-in_default-clause-kept c = none_of_name c.args.by_due.now.keys c.args.dues.now.entries c.args.name.now c.requires.tied (search rules)
