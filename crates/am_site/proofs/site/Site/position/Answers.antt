use Rattle.std.proofs.Common.{ap, Some, sym, ◌∙◌}
use Rattle.am_site.specs.Here.{here_of}
use Rattle.am_site.specs.Locals.{local_of}
use Rattle.am_site.proofs.Positioned.{here_at, not_here, unsettled}
use Rattle.am_site.proofs.site.Site.position.Goals as goal

pub returns-then-not-is_settled : goal.returns-then-not-is_settled
unfolding local_of
returns-then-not-is_settled c = unsettled (here_of c.args.here.now) (local_of c.args.here.now.tenant.now c.args.self.now) (sym c.is_settled.ensures ∙ c.if-not-is_settled.true)

pub returns-in-Some : goal.returns-in-Some
unfolding local_of
returns-in-Some c =
    ap Some c.new.ensures ∙ here_at (here_of c.args.here.now) (local_of c.args.here.now.tenant.now c.args.self.now) c.in-Some.place (sym c.is_settled.ensures ∙ c.if-not-is_settled.false) c.in-Some.ensures.place

pub returns-in-None : goal.returns-in-None
unfolding local_of
returns-in-None c = not_here (here_of c.args.here.now) (local_of c.args.here.now.tenant.now c.args.self.now) (sym c.is_settled.ensures ∙ c.if-not-is_settled.false) c.in-None.ensures.place
