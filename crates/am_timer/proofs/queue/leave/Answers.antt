use Rattle.std.proofs.Common.{rules, not}
use Rattle.std.proofs.lemmas.Fn.{filter_same}
use Rattle.std.proofs.lemmas.Map.Made.{filter_same_pairs}
use Rattle.am_tenant.specs.Names.{same}
use Rattle.am_timer.proofs.Dropping.{tied_dropped}
use Rattle.am_timer.proofs.queue.leave.Goals as goal

pub returns-clause-kept : goal.returns-clause-kept
unfolding same
returns-clause-kept c = filter_same _ _ _ (λ x b f' k. search rules) _ _ c.retain.ensures.filtered

pub returns-clause-tied : goal.returns-clause-tied
unfolding same
returns-clause-tied c =
    tied_dropped c.args.tenant.now c.args.by_due.now.keys c.retain.new.self.keys c.args.dues.now.entries c.retain-2.new.self.entries (returns-clause-kept c)
    (filter_same_pairs _ (λ e. not (same e.0.tenant c.args.tenant.now)) _ (λ k v b w f' h. search rules) _ _ c.retain-2.ensures.filtered) c.requires.tied
