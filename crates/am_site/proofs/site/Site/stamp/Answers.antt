use Rattle.std.proofs.Common.{◌∙◌}
use Rattle.std.proofs.lemmas.Result.{on_ok_weaker}
use Rattle.am_site.specs.Deciding.{shared_as}
use Rattle.am_site.specs.Locals.{local_of}
use Rattle.am_site.proofs.Carrying.{stamps}
use Rattle.am_site.proofs.site.Site.stamp.Goals as goal

pub count-requires : goal.count-requires
unfolding local_of
count-requires c = rw (c.len-count.ensures ∙ c.args.decided.now.items.ok.0) c.requires.room

pub returns : goal.returns
returns c =
    on_ok_weaker c.count.result
    (λ makes. stamps c.args.here.now.tenant.now (shared_as c.args.decided.now) c.args.self.now c.count.new.self c.len-count.result
    (c.len-count.ensures ∙ c.args.decided.now.items.ok.0) c.requires.fits makes)
    c.count.ensures
