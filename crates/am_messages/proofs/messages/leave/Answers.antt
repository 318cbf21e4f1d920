use Rattle.std.proofs.Common.{rules, not}
use Rattle.std.proofs.lemmas.Fn.{filter_same}
use Rattle.std.proofs.lemmas.Map.Made.{filter_same_pairs}
use Rattle.am_tenant.specs.Names.{same}
use Rattle.am_messages.proofs.Dropping.{timed_left}
use Rattle.am_messages.proofs.messages.leave.Goals as goal

pub returns-clause-left : goal.returns-clause-left
unfolding same
returns-clause-left c = filter_same_pairs _ (λ e. not (same e.0.tenant c.args.tenant.now)) _ (λ k v b w f' h. search rules) _ _ c.retain-2.ensures.filtered

pub returns-clause-timed : goal.returns-clause-timed
unfolding same
returns-clause-timed c =
    timed_left c.args.tenant.now c.args.sent.now.entries c.retain-2.new.self.entries c.args.lapses.now c.retain.new.self
    (returns-clause-left c) (filter_same _ _ _ (λ x b f' k. search rules) _ _ c.retain.ensures.filtered) c.requires
