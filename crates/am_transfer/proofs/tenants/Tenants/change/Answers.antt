use Rattle.std.proofs.Common.{ap, sym, ◌∙◌, refl}
use Rattle.am_transfer.specs.Progress.{Progress, on}
use Rattle.am_transfer.specs.Settling.{in_new_epoch, to_push}
use Rattle.am_transfer.proofs.Table.{each_none, each_written, no_entry, others_written, own_entry}
use Rattle.am_transfer.proofs.tenants.Tenants.change.Goals as goal

pub returns-in_default-clause-receivers : goal.returns-in_default-clause-receivers
returns-in_default-clause-receivers c =
    rw (← c.self.view_is)
    (c.in_ok-receivers.ensures
    ∙ ap (λ (p : Progress). to_push c.args.others.now c.args.before.now p.settling)
    (c.new.ensures ∙ sym (no_entry c.self.inside.by_name c.args.tenant.now c.in_default.ensures.value)))

pub returns-in_default-clause-each : goal.returns-in_default-clause-each
returns-in_default-clause-each c =
    rw (c.get_mut.follows.holds-at-none, ← c.self.view_is)
    (each_none c.self.inside.by_name c.args.tenant.now (on in_new_epoch) c.in_default.ensures.value refl)

pub returns-in_err-receivers-2-clause-others : goal.returns-in_err-receivers-2-clause-others
returns-in_err-receivers-2-clause-others c =
    let was = c.in-Some.progress.now in
    rw (← c.self.view_is)
    (others_written c.self.inside.by_name (c.get_mut.follows.lender was) c.args.tenant.now was was c.in-Some.ensures.value
    (c.get_mut.follows.holds was) c.self.invariant)

pub returns-clause-receivers : goal.returns-clause-receivers
returns-clause-receivers c =
    rw (← c.self.view_is)
    (c.in_ok-receivers-2.ensures
    ∙ sym (ap (λ (p : Progress). to_push c.args.others.now c.args.before.now p.settling)
    (own_entry c.self.inside.by_name c.args.tenant.now c.in-Some.progress.now c.in-Some.ensures.value)))

pub returns-clause-each : goal.returns-clause-each
returns-clause-each c =
    let now = c.turn.new.self in
    rw (← c.self.view_is)
    (each_written c.self.inside.by_name (c.get_mut.follows.lender now) c.args.tenant.now (on in_new_epoch)
    c.in-Some.progress.now now c.in-Some.ensures.value (c.get_mut.follows.holds now) c.turn.ensures)

pub returns-clause-others : goal.returns-clause-others
returns-clause-others c =
    let now = c.turn.new.self in
    rw (← c.self.view_is)
    (others_written c.self.inside.by_name (c.get_mut.follows.lender now) c.args.tenant.now c.in-Some.progress.now now c.in-Some.ensures.value
    (c.get_mut.follows.holds now) c.self.invariant)
