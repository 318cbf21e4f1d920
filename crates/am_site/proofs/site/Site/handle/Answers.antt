use Rattle.std.proofs.Common.{◌≡◌, ℕ, inl, inr, ap, sym, ◌∙◌}
use Rattle.std.proofs.lemmas.Result.{IfErr-weaker, on_ok_weaker}
use Rattle.am_cluster.specs.Local.{Local}
use Rattle.am_cluster.specs.Operating.{timed_out}
use Rattle.am_cluster.specs.Reactions.{Reaction, where_some}
use Rattle.am_cluster.specs.Ticking.{handled, send_again}
use Rattle.am_node.specs.Ticks.{muted_for}
use Rattle.am_quorum.specs.Operations.{operation_at}
use Rattle.am_timer.specs.declared.key.TimerKey.TheVariants.{Operation, Push}
use Rattle.am_transfer.specs.Peers.{at_number}
use Rattle.am_site.specs.Here.{here_of}
use Rattle.am_site.specs.Notices.{notified_for}
use Rattle.am_site.proofs.Handled.{given_up_holds, notice_done, noticed_quiet, noticed_sound, operation_done, push_done, stored_after}
use Rattle.am_site.proofs.Quiet.{quiet_in_order}
use Rattle.am_site.proofs.Reacting.{reacts_as, stops_as}
use Rattle.am_site.proofs.site.Site.handle.Goals as goal

pub returns-in_ok-give_up-in-Operation-clause-reacts : goal.returns-in_ok-give_up-in-Operation-clause-reacts
returns-in_ok-give_up-in-Operation-clause-reacts c =
    let s = c.args.here.now.tenant.now in
    let here = here_of c.args.here.now in
    let muted = muted_for s c.args.muted.now in
    let n = c.in-Operation.number in
    let gives_up : Local → Reaction = λ l. where_some timed_out (operation_at n l.operations) l in
    reacts_as s gives_up (handled here muted c.args.key.now) c.args.self.now c.give_up.new.self c.args.outbox.now.items c.give_up.new.outbox.items
    (λ l. operation_done here muted l n ∙ ap (λ k. handled here muted k l) (sym c.in-Operation.is)) c.in_ok-give_up-in-Operation.ensures.reacts

pub returns-in_ok-give_up-in-Operation-clause-order : goal.returns-in_ok-give_up-in-Operation-clause-order
returns-in_ok-give_up-in-Operation-clause-order c = c.in_ok-give_up-in-Operation.ensures.order c.requires

pub returns-in_ok-give_up-in-Operation-clause-stored : goal.returns-in_ok-give_up-in-Operation-clause-stored
returns-in_ok-give_up-in-Operation-clause-stored c =
    let s = c.args.here.now.tenant.now in
    let n = c.in-Operation.number in
    let gives_up : Local → Reaction = λ l. where_some timed_out (operation_at n l.operations) l in
    stored_after s gives_up c.args.self.now c.give_up.new.self c.args.outbox.now.items c.give_up.new.outbox.items
    c.in_ok-give_up-in-Operation.ensures.reacts (given_up_holds n)

pub returns-in-Push-clause-reacts : goal.returns-in-Push-clause-reacts
returns-in-Push-clause-reacts c =
    let s = c.args.here.now.tenant.now in
    let here = here_of c.args.here.now in
    let muted = muted_for s c.args.muted.now in
    let to = c.in-Push.to in
    let sends : Local → Reaction = λ l. send_again here to (at_number to l.settling.pushes) l in
    on_ok_weaker c.send_again.result
    (λ sent. reacts_as s sends (handled here muted c.args.key.now) c.args.self.now c.send_again.new.self c.args.outbox.now.items c.send_again.new.outbox.items
    (λ l. push_done here muted l to ∙ ap (λ k. handled here muted k l) (sym c.in-Push.is)) sent)
    c.send_again.ensures.reacts

pub returns-in-Push-clause-fault : goal.returns-in-Push-clause-fault
returns-in-Push-clause-fault c =
    let s = c.args.here.now.tenant.now in
    let here = here_of c.args.here.now in
    let muted = muted_for s c.args.muted.now in
    let to = c.in-Push.to in
    let sends : Local → Reaction = λ l. send_again here to (at_number to l.settling.pushes) l in
    IfErr-weaker c.send_again.result _ _
    (λ fault stops. stops_as s sends (handled here muted c.args.key.now) c.args.self.now fault
    (λ l. push_done here muted l to ∙ ap (λ k. handled here muted k l) (sym c.in-Push.is)) stops)
    c.send_again.ensures.fault

pub returns-in-Group-clause-reacts : goal.returns-in-Group-clause-reacts
returns-in-Group-clause-reacts c =
    let s = c.args.here.now.tenant.now in
    let here = here_of c.args.here.now in
    let muted = muted_for s c.args.muted.now in
    let key = c.args.key.now in
    let no_operation : (n : ℕ) → key ≡ Operation n → ⊥ = λ n is. elim c.in-Group.is [ inl group ↦ cc | inr retry ↦ cc ] in
    let no_push : (i : ℕ) → key ≡ Push i → ⊥ = λ i is. elim c.in-Group.is [ inl group ↦ cc | inr retry ↦ cc ] in
    on_ok_weaker c.notify.result
    (λ done. reacts_as s (notified_for here muted key) (handled here muted key) c.args.self.now c.notify.new.self c.args.outbox.now.items c.notify.new.outbox.items
    (λ l. notice_done here muted l key no_operation no_push) done)
    c.notify.ensures.reacts

pub returns-in-Group-clause-fault : goal.returns-in-Group-clause-fault
returns-in-Group-clause-fault c =
    let s = c.args.here.now.tenant.now in
    let here = here_of c.args.here.now in
    let muted = muted_for s c.args.muted.now in
    let key = c.args.key.now in
    let no_operation : (n : ℕ) → key ≡ Operation n → ⊥ = λ n is. elim c.in-Group.is [ inl group ↦ cc | inr retry ↦ cc ] in
    let no_push : (i : ℕ) → key ≡ Push i → ⊥ = λ i is. elim c.in-Group.is [ inl group ↦ cc | inr retry ↦ cc ] in
    IfErr-weaker c.notify.result _ _
    (λ fault stops. stops_as s (notified_for here muted key) (handled here muted key) c.args.self.now fault (λ l. notice_done here muted l key no_operation no_push) stops)
    c.notify.ensures.fault

pub returns-in-Group-clause-order : goal.returns-in-Group-clause-order
returns-in-Group-clause-order c =
    let s = c.args.here.now.tenant.now in
    let here = here_of c.args.here.now in
    let muted = muted_for s c.args.muted.now in
    let key = c.args.key.now in
    on_ok_weaker c.notify.result
    (λ done. quiet_in_order here (notified_for here muted key) c.args.self.now c.notify.new.self c.args.outbox.now.items c.notify.new.outbox.items
    (noticed_quiet here muted key) (noticed_sound here muted key) done c.requires)
    c.notify.ensures.reacts
