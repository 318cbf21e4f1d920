use Rattle.std.proofs.Common.{◌∙◌, refl, sym}
use Rattle.am_node.specs.Delivery.{retried}
use Rattle.am_node.specs.Held.{local_of}
use Rattle.am_node.specs.Ticking.{handled}
use Rattle.am_node.specs.Ticks.{muted_for}
use Rattle.am_node.proofs.Handling.{does_as, does_nothing, no_operation, no_push, tries, try_fits}
use Rattle.am_node.proofs.parts.Parts.handle.Goals as goal

pub returns-in_ok-reports-in-Retry-clause-does : goal.returns-in_ok-reports-in-Retry-clause-does
returns-in_ok-reports-in-Retry-clause-does c =
    let l = local_of c.args.tenant.now c.args.self.now in
    let muted = muted_for c.args.tenant.now c.args.muted.now in
    does_as c.args.tenant.now (retried c.args.context.now c.in-Retry.number) (handled c.args.context.now muted c.args.key.now) c.args.self.now c.retry.new.self
    (sym (rw c.in-Retry.is (tries c.args.context.now muted c.in-Retry.number l))) c.in_ok-sending-in-Retry.ensures.does

pub returns-in_ok-reports-in-Retry-clause-said : goal.returns-in_ok-reports-in-Retry-clause-said
returns-in_ok-reports-in-Retry-clause-said c =
    let l = local_of c.args.tenant.now c.args.self.now in
    let muted = muted_for c.args.tenant.now c.args.muted.now in
    rw (c.in-Retry.is, tries c.args.context.now muted c.in-Retry.number l) (c.in_ok-reports-in-Retry.ensures ∙ c.in_ok-sending-in-Retry.ensures.said)

pub returns-in_ok-reports-in-Retry-clause-fits : goal.returns-in_ok-reports-in-Retry-clause-fits
returns-in_ok-reports-in-Retry-clause-fits c =
    let l = local_of c.args.tenant.now c.args.self.now in
    let muted = muted_for c.args.tenant.now c.args.muted.now in
    rw (c.in-Retry.is, tries c.args.context.now muted c.in-Retry.number l) (try_fits c.args.context.now c.in-Retry.number l)

pub returns-in-Operation-clause-does : goal.returns-in-Operation-clause-does
returns-in-Operation-clause-does c =
    does_nothing c.args.tenant.now (handled c.args.context.now (muted_for c.args.tenant.now c.args.muted.now) c.args.key.now) c.args.self.now
    (rw c.in-Operation.is (no_operation c.args.context.now (muted_for c.args.tenant.now c.args.muted.now) _ (local_of c.args.tenant.now c.args.self.now)))

pub returns-in-Operation-clause-said : goal.returns-in-Operation-clause-said
returns-in-Operation-clause-said c =
    rw (c.in-Operation.is, no_operation c.args.context.now (muted_for c.args.tenant.now c.args.muted.now) _ (local_of c.args.tenant.now c.args.self.now), c.new.ensures.items) refl

pub returns-in-Operation-clause-fits : goal.returns-in-Operation-clause-fits
returns-in-Operation-clause-fits c =
    rw (c.in-Operation.is, no_operation c.args.context.now (muted_for c.args.tenant.now c.args.muted.now) _ (local_of c.args.tenant.now c.args.self.now)) refl

pub returns-in-Push-clause-does : goal.returns-in-Push-clause-does
returns-in-Push-clause-does c =
    does_nothing c.args.tenant.now (handled c.args.context.now (muted_for c.args.tenant.now c.args.muted.now) c.args.key.now) c.args.self.now
    (rw c.in-Push.is (no_push c.args.context.now (muted_for c.args.tenant.now c.args.muted.now) _ (local_of c.args.tenant.now c.args.self.now)))

pub returns-in-Push-clause-said : goal.returns-in-Push-clause-said
returns-in-Push-clause-said c =
    rw (c.in-Push.is, no_push c.args.context.now (muted_for c.args.tenant.now c.args.muted.now) _ (local_of c.args.tenant.now c.args.self.now), c.new-in-Push.ensures.items) refl

pub returns-in-Push-clause-fits : goal.returns-in-Push-clause-fits
returns-in-Push-clause-fits c =
    rw (c.in-Push.is, no_push c.args.context.now (muted_for c.args.tenant.now c.args.muted.now) _ (local_of c.args.tenant.now c.args.self.now)) refl
