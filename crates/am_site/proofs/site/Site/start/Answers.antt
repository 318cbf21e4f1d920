use Rattle.std.proofs.Common.{◌≡◌, ◌+◌, ℕ, ap, refl}
use Rattle.std.proofs.lemmas.Result.{IfErr-weaker, err_from_is_err_and, on_ok_weaker}
use Rattle.am_cluster.specs.Local.{Local}
use Rattle.am_cluster.specs.Messages.{Get}
use Rattle.am_cluster.specs.Operating.{begin, operation_for, start}
use Rattle.am_cluster.specs.Reactions.{Reaction, ◌>>◌}
use Rattle.am_cluster.specs.Sending.{send_all}
use Rattle.am_site.specs.Here.{here_of}
use Rattle.am_site.specs.Locals.{local_of}
use Rattle.am_site.proofs.Reacting.{in_turn_reacts, quiet, reacts_from, stops_first, stops_from, stops_second}
use Rattle.am_site.proofs.Quiet.{start_quiet, quiet_in_order}
use Rattle.am_site.proofs.Sound.{start_sound}
use Rattle.am_site.proofs.site.Site.start.Goals as goal

pub returns-clause-reacts : goal.returns-clause-reacts
unfolding start
returns-clause-reacts c =
    let s = c.args.here.now.tenant.now in
    let here = here_of c.args.here.now in
    let opens : ℕ → Local → Reaction = λ n. begin (operation_for here c.args.connection c.args.request n) in
    let asks : ℕ → Local → Reaction = λ n. send_all here.epoch here here.three (Get n) in
    let n = c.in_ok-operation.operation in
    let l = local_of s c.args.self.now in
    let is : (opens n >> asks n) l ≡ start here c.args.connection c.args.request l = ap (λ m. (opens m >> asks m) l) c.in_ok-operation.ensures.number in
    on_ok_weaker c.send_all.result
    (λ reacts. reacts_from s (opens n >> asks n) (start here c.args.connection c.args.request) c.args.self.now is c.send_all.new.self c.args.outbox.now.items c.send_all.new.outbox.items
    (in_turn_reacts s (opens n) (asks n) c.args.self.now c.begin.new.self c.args.outbox.now.items c.args.outbox.now.items c.send_all.new.self c.send_all.new.outbox.items
    (quiet s (opens n) c.args.self.now c.begin.new.self c.args.outbox.now.items c.in_ok-operation.ensures.does) reacts))
    c.send_all.ensures.reacts

pub returns-clause-fault : goal.returns-clause-fault
unfolding start
returns-clause-fault c =
    let s = c.args.here.now.tenant.now in
    let here = here_of c.args.here.now in
    let opens : ℕ → Local → Reaction = λ n. begin (operation_for here c.args.connection c.args.request n) in
    let asks : ℕ → Local → Reaction = λ n. send_all here.epoch here here.three (Get n) in
    let n = c.in_ok-operation.operation in
    let l = local_of s c.args.self.now in
    let is : (opens n >> asks n) l ≡ start here c.args.connection c.args.request l = ap (λ m. (opens m >> asks m) l) c.in_ok-operation.ensures.number in
    IfErr-weaker c.send_all.result _ _
    (λ fault stops. stops_from s (opens n >> asks n) (start here c.args.connection c.args.request) c.args.self.now is fault
    (stops_second s (opens n) (asks n) c.args.self.now c.begin.new.self c.args.outbox.now.items c.args.outbox.now.items fault
    (quiet s (opens n) c.args.self.now c.begin.new.self c.args.outbox.now.items c.in_ok-operation.ensures.does) stops))
    c.send_all.ensures.fault

pub returns-in_err-operation-clause-fault : goal.returns-in_err-operation-clause-fault
unfolding start
returns-in_err-operation-clause-fault c =
    let s = c.args.here.now.tenant.now in
    let here = here_of c.args.here.now in
    let n = (local_of s c.args.self.now).ledger.operations + 1 in
    let opens : Local → Reaction = begin (operation_for here c.args.connection c.args.request n) in
    let asks : Local → Reaction = send_all here.epoch here here.three (Get n) in
    let p = err_from_is_err_and c.from_residual.result c.from_residual.ensures.1 in
    rw (p.1, p.2) (stops_from s (opens >> asks) (start here c.args.connection c.args.request) c.args.self.now refl _
    (stops_first s opens asks c.args.self.now _ c.in_err-operation.ensures.fault))

pub returns-clause-order : goal.returns-clause-order
returns-clause-order c order =
    let here = here_of c.args.here.now in
    on_ok_weaker c.send_all.result
    (λ reacts. quiet_in_order here (start here c.args.connection c.args.request) c.args.self.now c.send_all.new.self c.args.outbox.now.items c.send_all.new.outbox.items (start_quiet here c.args.connection c.args.request) (start_sound here c.args.connection c.args.request) reacts order)
    (returns-clause-reacts c)
