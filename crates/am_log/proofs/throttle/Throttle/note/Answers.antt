use Rattle.std.proofs.Common.{Some, ap, cond, sym, ◌∙◌}
use Rattle.am_tenant.specs.Names.{same}
use Rattle.am_log.specs.Throttling.{after_one, recent_of}
use Rattle.am_log.proofs.ThrottleLemmas.{recent_changed}
use Rattle.am_log.proofs.throttle.Throttle.note.Goals as goal

pub returns-clause-each : goal.returns-clause-each
returns-clause-each c = λ t.
    let made = c.after_one.ensures ∙ ap (after_one c.args.moment) c.of-recent.ensures in
    recent_changed c.self.inside.recent c.insert.new.self c.args.tenant.now _ (after_one c.args.moment) c.in_ok-insert.ensures.updates
    (made ∙ ap (λ es. after_one c.args.moment (recent_of c.args.tenant.now es)) (sym c.self.view_is)) t
    ∙ ap (λ es. cond (same t c.args.tenant.now) (Some (after_one c.args.moment (recent_of t es))) (recent_of t es)) c.self.view_is
