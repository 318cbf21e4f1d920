use Rattle.am_site.proofs.Carrying.{waits}
use Rattle.am_site.proofs.site.Site.wait.Goals as goal

pub returns : goal.returns
returns c = waits c.args.here.now.tenant.now c.args.reply c.args.number c.args.self.now c.wait.new.self c.wait.ensures.each c.wait.ensures.incarnation
