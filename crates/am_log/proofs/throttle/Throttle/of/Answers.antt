use Rattle.std.proofs.Common.{ap, ◌∙◌}
use Rattle.am_log.specs.Throttling.{recent_of}
use Rattle.am_log.proofs.ThrottleLemmas.{recent_found}
use Rattle.am_log.proofs.throttle.Throttle.of.Goals as goal

pub returns : goal.returns
returns c =
    c.copied.ensures ∙ c.get.ensures.value ∙ recent_found c.args.tenant.now c.self.inside.recent.entries
    ∙ ap (recent_of c.args.tenant.now) c.self.view_is
