use Rattle.std.proofs.Common.{◌+◌, ◌<◌, ◌≤◌, List, length, ap, refl, sym, subst, ◌∙◌}
use Rattle.std.proofs.lemmas.Result.{IfErr-weaker, err_from_is_err_and, on_ok_weaker}
use Rattle.am_alert.specs.Made.{greatest_count}
use Rattle.am_cluster.specs.Local.{Local}
use Rattle.am_item.specs.Counts.{count_of}
use Rattle.am_item.specs.declared.item.Item.{Item}
use Rattle.am_muting.specs.Failing.{AddsAmong}
use Rattle.am_node.specs.Local.{Local as NodeLocal}
use Rattle.am_quorum.proofs.Seen.{target_here}
use Rattle.am_quorum.specs.Dockets.{docket_of, operations_of}
use Rattle.am_quorum.specs.Operations.{lists_by, operation_at}
use Rattle.am_transfer.specs.Tenants.{settling_of}
use Rattle.am_site.specs.Deciding.{IsDecided, StopsDeciding, asked_on, shared_as}
use Rattle.am_site.specs.Locals.{local_of}
use Rattle.am_site.specs.declared.site.Site.{Site}
use Rattle.am_site.proofs.Answered.{answers_decided, answers_nothing, asks_decided, changes_here, same_site, still_here, stops_carrying, stops_deciding}
use Rattle.am_cluster.specs.Operating.{answered}
use Rattle.am_site.specs.Here.{here_of}
use Rattle.am_site.proofs.Quiet.{answered_quiet, quiet_in_order}
use Rattle.am_site.proofs.Sound.{answered_sound}
use Rattle.am_site.proofs.site.Site.take_answer.Goals as goal

pub returns-in-None-clause-answers : goal.returns-in-None-clause-answers
returns-in-None-clause-answers c =
    let target = c.args.target in
    let old = c.args.self.now in
    let s = c.args.here.now.tenant.now in
    let here = target_here old.operations.incarnation target (operations_of s old.operations) (sym c.requires) in
    answers_nothing c.args.here.now target.number target.epoch c.args.answered old c.args.cache.now.refused c.answer.new.self c.args.outbox.now.items
    (sym (sym c.in-None.is ∙ c.in_ok-lists.ensures.decide ∙ ap (lists_by c.args.answered) here))
    (changes_here old.operations.incarnation target c.args.answered s old.operations c.answer.new.self (sym c.requires) c.in_ok-lists.ensures.each)
    c.answer.ensures.incarnation

pub carry_out-requires : goal.carry_out-requires
unfolding local_of
carry_out-requires c =
    let target = c.args.target in
    let old = c.args.self.now in
    let s = c.args.here.now.tenant.now in
    let o = c.in-Some-get.operation.now in
    let still =
    still_here old.operations.incarnation target c.args.answered c.in-Some.lists s old.operations c.answer.new.self o (sym c.requires)
    (sym c.in-Some.is ∙ c.in_ok-lists.ensures.decide) c.in_ok-lists.ensures.each c.in-Some-get.ensures.operation c.get.ensures.alone in
    let mid : Site = record { node = c.decide_on.new.node; operations = c.answer.new.self; sent = old.sent; settling = old.settling; elsewhere = c.decide_on.new.elsewhere } in
    let same = same_site old mid c.decide_on.ensures.stays still.dockets refl refl in
    let decided = c.in_ok-decided.ensures.decided (docket_of s old.operations) (count_of s old.sent) (settling_of s old.settling.progress) in
    record {
      fits = decided.fits;
      room = subst (λ (l : Local). 0 < length c.in_ok-decided.decided.items.items → l.ledger.stamps + length c.in_ok-decided.decided.items.items ≤ greatest_count) (sym (same s)) decided.room;
    }

pub returns-clause-answers : goal.returns-clause-answers
unfolding local_of
returns-clause-answers c =
    let target = c.args.target in
    let old = c.args.self.now in
    let given = c.args.here.now in
    let s = given.tenant.now in
    let o = c.in-Some-get.operation.now in
    let still =
    still_here old.operations.incarnation target c.args.answered c.in-Some.lists s old.operations c.answer.new.self o (sym c.requires)
    (sym c.in-Some.is ∙ c.in_ok-lists.ensures.decide) c.in_ok-lists.ensures.each c.in-Some-get.ensures.operation c.get.ensures.alone in
    let mid : Site = record { node = c.decide_on.new.node; operations = c.answer.new.self; sent = old.sent; settling = old.settling; elsewhere = c.decide_on.new.elsewhere } in
    let same = same_site old mid c.decide_on.ensures.stays still.dockets refl refl in
    let decided = subst (λ (list : List Item). IsDecided c.args.cache.now.refused c.decide_on.new.cache.refused given o.request list (local_of s old) (shared_as c.in_ok-decided.decided)) c.in_ok-list.ensures
    (c.in_ok-decided.ensures.decided (docket_of s old.operations) (count_of s old.sent) (settling_of s old.settling.progress)) in
    on_ok_weaker c.carry_out.result
    (λ reacts. answers_decided given target.number target.epoch c.args.answered old c.in-Some.lists o mid still.found same
    c.args.cache.now.refused c.decide_on.new.cache.refused c.carry_out.new.self c.args.outbox.now.items c.carry_out.new.outbox.items (shared_as c.in_ok-decided.decided)
    (record { incarnation = c.answer.ensures.incarnation; positions = λ t. ap (λ (l : NodeLocal). l.position) (c.decide_on.ensures.stays t); asked = λ t. refl; timed = λ timed. timed })
    decided (reacts o (ap (λ (l : Local). operation_at target.number l.operations) (same s) ∙ still.at) still.epoch_is))
    c.carry_out.ensures.reacts

pub returns-clause-fault : goal.returns-clause-fault
unfolding local_of
returns-clause-fault c =
    let target = c.args.target in
    let old = c.args.self.now in
    let given = c.args.here.now in
    let s = given.tenant.now in
    let o = c.in-Some-get.operation.now in
    let still =
    still_here old.operations.incarnation target c.args.answered c.in-Some.lists s old.operations c.answer.new.self o (sym c.requires)
    (sym c.in-Some.is ∙ c.in_ok-lists.ensures.decide) c.in_ok-lists.ensures.each c.in-Some-get.ensures.operation c.get.ensures.alone in
    let mid : Site = record { node = c.decide_on.new.node; operations = c.answer.new.self; sent = old.sent; settling = old.settling; elsewhere = c.decide_on.new.elsewhere } in
    let same = same_site old mid c.decide_on.ensures.stays still.dockets refl refl in
    let decided = subst (λ (list : List Item). IsDecided c.args.cache.now.refused c.decide_on.new.cache.refused given o.request list (local_of s old) (shared_as c.in_ok-decided.decided)) c.in_ok-list.ensures
    (c.in_ok-decided.ensures.decided (docket_of s old.operations) (count_of s old.sent) (settling_of s old.settling.progress)) in
    IfErr-weaker c.carry_out.result _ _
    (λ fault stops. stops_carrying given target.number target.epoch c.args.answered old c.in-Some.lists o mid still.found same
    c.args.cache.now.refused c.decide_on.new.cache.refused (shared_as c.in_ok-decided.decided) decided fault
    (stops o (ap (λ (l : Local). operation_at target.number l.operations) (same s) ∙ still.at) still.epoch_is))
    c.carry_out.ensures.fault

pub returns-clause-asks : goal.returns-clause-asks
unfolding local_of
returns-clause-asks c =
    let target = c.args.target in
    let old = c.args.self.now in
    let given = c.args.here.now in
    let s = given.tenant.now in
    let o = c.in-Some-get.operation.now in
    let still =
    still_here old.operations.incarnation target c.args.answered c.in-Some.lists s old.operations c.answer.new.self o (sym c.requires)
    (sym c.in-Some.is ∙ c.in_ok-lists.ensures.decide) c.in_ok-lists.ensures.each c.in-Some-get.ensures.operation c.get.ensures.alone in
    asks_decided given target.number target.epoch c.args.answered old c.in-Some.lists o old still.found (λ t. refl) c.args.cache.now.refused c.decide_on.new.cache.refused
    (subst (λ (list : List Item). AddsAmong (asked_on given o.request list) c.args.cache.now.refused c.decide_on.new.cache.refused) c.in_ok-list.ensures c.decide_on.ensures.asks)

pub returns-in_err-decided-clause-asks : goal.returns-in_err-decided-clause-asks
unfolding local_of
returns-in_err-decided-clause-asks c =
    let target = c.args.target in
    let old = c.args.self.now in
    let given = c.args.here.now in
    let s = given.tenant.now in
    let o = c.in-Some-get.operation.now in
    let still =
    still_here old.operations.incarnation target c.args.answered c.in-Some.lists s old.operations c.answer.new.self o (sym c.requires)
    (sym c.in-Some.is ∙ c.in_ok-lists.ensures.decide) c.in_ok-lists.ensures.each c.in-Some-get.ensures.operation c.get.ensures.alone in
    asks_decided given target.number target.epoch c.args.answered old c.in-Some.lists o old still.found (λ t. refl) c.args.cache.now.refused c.decide_on.new.cache.refused
    (subst (λ (list : List Item). AddsAmong (asked_on given o.request list) c.args.cache.now.refused c.decide_on.new.cache.refused) c.in_ok-list.ensures c.decide_on.ensures.asks)

pub returns-in_err-decided-clause-fault : goal.returns-in_err-decided-clause-fault
unfolding local_of
returns-in_err-decided-clause-fault c =
    let target = c.args.target in
    let old = c.args.self.now in
    let given = c.args.here.now in
    let s = given.tenant.now in
    let o = c.in-Some-get.operation.now in
    let still =
    still_here old.operations.incarnation target c.args.answered c.in-Some.lists s old.operations c.answer.new.self o (sym c.requires)
    (sym c.in-Some.is ∙ c.in_ok-lists.ensures.decide) c.in_ok-lists.ensures.each c.in-Some-get.ensures.operation c.get.ensures.alone in
    let p = err_from_is_err_and c.from_residual-in_err-decided.result c.from_residual-in_err-decided.ensures.1 in
    rw (p.1, p.2) (stops_deciding given target.number target.epoch c.args.answered old c.in-Some.lists o old still.found (λ t. refl) c.decide_on.new.cache.refused c.in_err-decided.field-0.0
    (subst (λ (list : List Item). StopsDeciding c.decide_on.new.cache.refused given o.request list (local_of s old) c.in_err-decided.field-0.0) c.in_ok-list.ensures
    (c.in_err-decided.ensures.fault (docket_of s old.operations) (count_of s old.sent) (settling_of s old.settling.progress))))

pub returns-in-None-clause-order : goal.returns-in-None-clause-order
returns-in-None-clause-order c order =
    let given = c.args.here.now in
    let answers = returns-in-None-clause-answers c in
    quiet_in_order (here_of given) (answered (λ _ _ _ _. answers.decision) (here_of given) c.args.target.number c.args.target.epoch c.args.answered) c.args.self.now _
    c.args.outbox.now.items c.args.outbox.now.items (answered_quiet (here_of given) (λ _ _ _ _. answers.decision) c.args.target.number c.args.target.epoch c.args.answered)
    (answered_sound (here_of given) (λ _ _ _ _. answers.decision) c.args.target.number c.args.target.epoch c.args.answered) answers.reacts order

pub returns-clause-order : goal.returns-clause-order
returns-clause-order c order =
    let given = c.args.here.now in
    on_ok_weaker c.carry_out.result
    (λ answers. quiet_in_order (here_of given) (answered (λ _ _ _ _. answers.decision) (here_of given) c.args.target.number c.args.target.epoch c.args.answered) c.args.self.now _
    c.args.outbox.now.items c.carry_out.new.outbox.items (answered_quiet (here_of given) (λ _ _ _ _. answers.decision) c.args.target.number c.args.target.epoch c.args.answered)
    (answered_sound (here_of given) (λ _ _ _ _. answers.decision) c.args.target.number c.args.target.epoch c.args.answered) answers.reacts order)
    (returns-clause-answers c)
