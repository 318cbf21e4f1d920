use Rattle.std.proofs.Common.{◌∙◌, refl, sym, ap, map}
use Rattle.std.proofs.lemmas.Result.{IfErr-weaker, IfOk-weaker, err_from_is_err_and, on_ok_weaker}
use Rattle.am_config.specs.Configuration.{Configuration}
use Rattle.am_notifier.specs.Following.{paces_at}
use Rattle.am_notifier.specs.Notifies.{notifies_of}
use Rattle.am_node.specs.Held.{local_of}
use Rattle.am_node.specs.Local.{said_in}
use Rattle.am_node.specs.Ticks.{muted_for}
use Rattle.am_node.specs.declared.parts.Parts.{Parts}
use Rattle.am_node.proofs.Interleaved.{all_done, all_fit, all_said, stops_first, stops_then}
use Rattle.am_node.proofs.parts.Parts.flush_due.Goals as goal

pub flush_due-requires : goal.flush_due-requires
unfolding local_of
flush_due-requires c = record {
  planned = c.requires.planned.paces
      ∙ ap (λ (k : Configuration). paces_at k (notifies_of c.args.tenant.now c.args.self.now.notifier).position) (sym c.in_ok-held.ensures.configuration);
}

pub returns-clause-does : goal.returns-clause-does
unfolding local_of
returns-clause-does c =
    let r = c.args.self.now in
    let mid : Parts = record { replica = c.in_use.follows.lender-at-none; notifier = c.flush_due.new.self; places = r.places } in
    on_ok_weaker c.obey_all.result (λ does. all_done c.args.context.now (muted_for c.args.tenant.now c.args.muted.now) c.args.key.now c.args.tenant.now r mid c.in_ok-next.next.items
    (rw (c.in_ok-held.ensures.configuration, c.in_ok-held.ensures.held, c.find.ensures) at c.in_ok-next.ensures.does) c.in_use.follows.holds-at-none refl
    (rw (c.in_ok-held.ensures.configuration, c.in_ok-held.ensures.held, c.find.ensures) at c.in_ok-next.ensures.says) _ does)
    c.obey_all.ensures.does

pub returns-clause-said : goal.returns-clause-said
unfolding local_of
returns-clause-said c =
    let r = c.args.self.now in
    let mid : Parts = record { replica = c.in_use.follows.lender-at-none; notifier = c.flush_due.new.self; places = r.places } in
    IfOk-weaker c.obey_all.result _ _ (λ reports is. all_said c.args.context.now (muted_for c.args.tenant.now c.args.muted.now) c.args.key.now c.args.tenant.now r mid c.in_ok-next.next.items
    (rw (c.in_ok-held.ensures.configuration, c.in_ok-held.ensures.held, c.find.ensures) at c.in_ok-next.ensures.does) c.in_use.follows.holds-at-none refl
    (rw (c.in_ok-held.ensures.configuration, c.in_ok-held.ensures.held, c.find.ensures) at c.in_ok-next.ensures.says) (map said_in reports.items) is)
    c.obey_all.ensures.said

pub returns-clause-fits : goal.returns-clause-fits
unfolding local_of
returns-clause-fits c =
    let r = c.args.self.now in
    let mid : Parts = record { replica = c.in_use.follows.lender-at-none; notifier = c.flush_due.new.self; places = r.places } in
    on_ok_weaker c.obey_all.result (λ fits. all_fit c.args.context.now (muted_for c.args.tenant.now c.args.muted.now) c.args.key.now c.args.tenant.now r mid c.in_ok-next.next.items
    (rw (c.in_ok-held.ensures.configuration, c.in_ok-held.ensures.held, c.find.ensures) at c.in_ok-next.ensures.does) c.in_use.follows.holds-at-none refl
    (rw (c.in_ok-held.ensures.configuration, c.in_ok-held.ensures.held, c.find.ensures) at c.in_ok-next.ensures.says) fits)
    c.obey_all.ensures.fits

pub returns-clause-fault : goal.returns-clause-fault
unfolding local_of
returns-clause-fault c =
    let r = c.args.self.now in
    let mid : Parts = record { replica = c.in_use.follows.lender-at-none; notifier = c.flush_due.new.self; places = r.places } in
    IfErr-weaker c.obey_all.result _ _ (λ fault stops. stops_then c.args.context.now (muted_for c.args.tenant.now c.args.muted.now) c.args.key.now c.args.tenant.now r mid c.in_ok-next.next.items
    (rw (c.in_ok-held.ensures.configuration, c.in_ok-held.ensures.held, c.find.ensures) at c.in_ok-next.ensures.does) c.in_use.follows.holds-at-none refl
    (rw (c.in_ok-held.ensures.configuration, c.in_ok-held.ensures.held, c.find.ensures) at c.in_ok-next.ensures.says) fault stops)
    c.obey_all.ensures.fault

pub returns-in_err-next-clause-fault : goal.returns-in_err-next-clause-fault
unfolding local_of
returns-in_err-next-clause-fault c =
    let p = err_from_is_err_and c.from_residual-in_err-next.result c.from_residual-in_err-next.ensures.1 in
    rw (p.1, p.2)
    (stops_first c.args.context.now (muted_for c.args.tenant.now c.args.muted.now) c.args.key.now (local_of c.args.tenant.now c.args.self.now) _
    (rw (c.in_ok-held.ensures.configuration, c.in_ok-held.ensures.held, c.find.ensures) at c.in_err-next.ensures.fault))
