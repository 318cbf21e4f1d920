use Rattle.std.proofs.Common.{arith}
use Rattle.std.proofs.lemmas.List.{nil_from_length}
use Rattle.am_notifier.proofs.Turns.{ends, goes_on, says}
use Rattle.am_notifier.proofs.notifier.Notifier.tell_all.Goals as goal

pub loop-telling-preserved : goal.loop-telling-preserved
loop-telling-preserved c =
    goes_on c.args.context.now c.args.tenant.now c.args.self.now c.args.tellings.items c.loop-telling.self c.in-Some.telling _ _ c.loop-telling.next.items c.tell.new.next.items c.tell.new.self
    c.in-Some.ensures.steps.0 c.loop-telling.invariant c.in_ok-tell.ensures.does c.in_ok-tell.ensures.fits c.in_ok-tell.ensures.next

pub returns-clause-does : goal.returns-clause-does
returns-clause-does c =
    ends c.args.context.now c.args.tenant.now c.args.self.now c.args.tellings.items c.loop-telling.self _ _ (nil_from_length c.loop-telling.telling-iterator.rest.items (omega (arith, c.loop-telling.telling-iterator.rest.ok.0, c.in-None.ensures.steps.0))) c.loop-telling.invariant

pub returns-clause-says : goal.returns-clause-says
returns-clause-says c =
    says c.args.context.now c.args.tenant.now c.args.self.now c.args.tellings.items c.loop-telling.self _ _ (nil_from_length c.loop-telling.telling-iterator.rest.items (omega (arith, c.loop-telling.telling-iterator.rest.ok.0, c.in-None.ensures.steps.0))) c.loop-telling.invariant
