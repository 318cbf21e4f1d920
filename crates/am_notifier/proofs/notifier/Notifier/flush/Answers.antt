use Rattle.std.proofs.Common.{subst}
use Rattle.std.proofs.lemmas.Result.{IfErr-weaker, IfOk-weaker, on_ok_weaker}
use Rattle.am_context.specs.Stopping.{StopsPast}
use Rattle.am_notifier.specs.Flushing.{Says}
use Rattle.am_notifier.specs.Steps.{Step}
use Rattle.am_notifier.proofs.Flushes.{flushes, may_tell, says}
use Rattle.am_notifier.proofs.notifier.Notifier.flush.Goals as goal

pub tell_all-requires : goal.tell_all-requires
tell_all-requires c =
    may_tell c.args.context.now c.args.basis.now.config.now c.args.basis.now.held.now c.args.basis.now.muted.now c.args.group.now c.args.tenant.now c.args.self.now c.begin.new.self c.in_ok-tellings.tellings.items
    c.in_ok-tellings.ensures c.in_ok-begin.ensures

pub returns-clause-does : goal.returns-clause-does
returns-clause-does c =
    on_ok_weaker c.tell_all.result
    (flushes c.args.context.now c.args.basis.now.config.now c.args.basis.now.held.now c.args.basis.now.muted.now c.args.group.now c.args.tenant.now c.args.self.now c.begin.new.self c.in_ok-tellings.tellings.items
    c.in_ok-tellings.ensures c.in_ok-begin.ensures c.tell_all.new.self)
    c.tell_all.ensures.does

pub returns-clause-says : goal.returns-clause-says
returns-clause-says c =
    IfOk-weaker c.tell_all.result _ _
    (λ next is. subst (λ (s : Step). Says next.items s)
    (says c.args.context.now c.args.basis.now.config.now c.args.basis.now.held.now c.args.basis.now.muted.now c.args.group.now c.args.tenant.now c.args.self.now c.begin.new.self c.in_ok-tellings.tellings.items
    c.in_ok-tellings.ensures c.in_ok-begin.ensures) is)
    c.tell_all.ensures.says

pub returns-clause-fault : goal.returns-clause-fault
returns-clause-fault c =
    IfErr-weaker c.tell_all.result _ _
    (λ fault stop. subst (λ (s : Step). StopsPast s.fits fault)
    (says c.args.context.now c.args.basis.now.config.now c.args.basis.now.held.now c.args.basis.now.muted.now c.args.group.now c.args.tenant.now c.args.self.now c.begin.new.self c.in_ok-tellings.tellings.items
    c.in_ok-tellings.ensures c.in_ok-begin.ensures) stop)
    c.tell_all.ensures.fault
