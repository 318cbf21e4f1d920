use Rattle.std.proofs.Common.{OnOk, subst}
use Rattle.am_quorum.specs.Dockets.{Changes, started}
use Rattle.am_quorum.specs.Operations.{opened}
use Rattle.am_site.specs.Here.{here_of}
use Rattle.am_site.specs.Locals.{local_of}
use Rattle.am_site.proofs.Begun.{begins, stops}
use Rattle.am_site.proofs.site.Site.begin.Goals as goal

pub returns-clause-number : goal.returns-clause-number
unfolding local_of
returns-clause-number c = rw c.requires at c.start.ensures.number

pub returns-clause-does : goal.returns-clause-does
returns-clause-does c =
    begins (here_of c.args.here.now) c.args.connection c.args.request c.args.here.now.tenant.now c.args.self.now c.start.new.self c.start.result
    c.start.ensures.incarnation (rw c.requires at c.start.ensures.number)
    (subst (λ t. OnOk c.start.result (Changes t (started (opened c.args.connection c.args.request c.args.here.now.moment c.args.here.now.epoch)) c.args.self.now.operations c.start.new.self)) c.requires c.start.ensures.each)
    (rw c.requires at c.start.ensures.fault)

pub returns-clause-fault : goal.returns-clause-fault
unfolding local_of
returns-clause-fault c =
    stops (here_of c.args.here.now) c.args.connection c.args.request c.args.here.now.tenant.now c.args.self.now c.start.result
    (rw c.requires at c.start.ensures.fault) c.start.ensures.no_pattern c.start.ensures.no_store
