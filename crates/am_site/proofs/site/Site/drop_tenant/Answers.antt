use Rattle.am_site.proofs.Leaving.{drops_silently}
use Rattle.am_site.proofs.site.Site.drop_tenant.Goals as goal

pub returns-clause-moves : goal.returns-clause-moves
returns-clause-moves c = λ none.
    drops_silently c.args.here.now.tenant.now c.args.self.now c.drop_tenant.new.self c.drop_all_of.new.self c.drop_tenant.ensures c.drop_all_of.ensures.each c.drop_all_of.ensures.timed none
