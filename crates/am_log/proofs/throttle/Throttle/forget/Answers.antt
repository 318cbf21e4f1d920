use Rattle.std.proofs.Common.{ap, not, rules, ◌∙◌}
use Rattle.std.proofs.lemmas.Map.Made.{filter_same_pairs}
use Rattle.am_log.specs.Throttling.{is_over, once_forgotten, recent_of}
use Rattle.am_log.proofs.ThrottleLemmas.{recent_left}
use Rattle.am_log.proofs.throttle.Throttle.forget.Goals as goal

pub returns : goal.returns
returns c = λ t.
    recent_left c.args.moment c.self.inside.recent c.retain.new.self c.retain.ensures.was_ordered
    (filter_same_pairs _ (λ e. not (is_over c.args.moment e.1)) _ (λ k v b w f' h. search rules) _ _ c.retain.ensures.filtered) t
    ∙ ap (λ es. once_forgotten c.args.moment (recent_of t es)) c.self.view_is
