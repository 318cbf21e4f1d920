use Rattle.std.proofs.Common.{map, ap, ◌∙◌}
use Rattle.std.proofs.lemmas.List.{map-append}
use Rattle.am_cluster.specs.Reactions.{Tells}
use Rattle.am_site.specs.Reacting.{said_in}
use Rattle.am_site.proofs.Carrying.{says_one}
use Rattle.am_site.proofs.site.Site.report.Goals as goal

pub returns-in_ok-push-in-Try-clause-reacts : goal.returns-in_ok-push-in-Try-clause-reacts
returns-in_ok-push-in-Try-clause-reacts c =
    rw c.in-Try.is (says_one c.args.here.now.tenant.now (Tells c.in-Try.sending) c.args.self.now c.args.outbox.now.items c.push.new.self.items
    (ap (map said_in) c.in_ok-push-in-Try.ensures.items ∙ map-append said_in c.args.outbox.now.items _))
