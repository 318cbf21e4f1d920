use Rattle.std.proofs.Common.{None, inl, refl, sym, ◌∙◌}
use Rattle.std.proofs.lemmas.Result.{err_from_is_err_and}
use Rattle.am_cluster.specs.Transfers.{asks_first}
use Rattle.am_site.specs.Here.{here_of}
use Rattle.am_site.specs.Locals.{local_of}
use Rattle.am_site.proofs.Brought.{asks_counted, asks_dropped, asks_taken, asks_then, counted_brings, late_brings, left_alone, left_as, left_then, stops_unrefused, taken_brings, unmeant_brings}
use Rattle.am_site.proofs.Arrives.{another_epoch, arrives_counted, arrives_late, arrives_taken, arrives_unmeant, known_taken, late_counted, late_dropped, same_epoch, stops_asking, stops_counted, stops_taken, unmeant_dropped}
use Rattle.am_site.proofs.site.Site.arrive.Goals as goal

pub returns-then-not-is_meant-clause-arrives : goal.returns-then-not-is_meant-clause-arrives
returns-then-not-is_meant-clause-arrives g c =
    arrives_unmeant c.args.here.now c.args.cache.now.refused c.args.cache.now.refused c.args.message c.args.self.now c.args.outbox.now.items
    (sym c.is_meant.ensures ∙ c.if-not-is_meant.true)

pub returns-else-is_answer-clause-arrives : goal.returns-else-is_answer-clause-arrives
returns-else-is_answer-clause-arrives g c =
    arrives_late c.args.here.now c.args.cache.now.refused c.args.cache.now.refused c.args.message c.args.self.now c.args.outbox.now.items
    (sym c.is_meant.ensures ∙ c.if-not-is_meant.false) (another_epoch c.args.message.epoch c.args.here.now.epoch c.if-not-is_current.true) (sym c.is_answer.ensures ∙ c.if-is_answer.false)

pub returns-in_ok-take-clause-arrives : goal.returns-in_ok-take-clause-arrives
returns-in_ok-take-clause-arrives g c =
    arrives_counted c.args.here.now c.args.cache.now.refused c.take.new.cache.refused c.args.message c.args.self.now c.take.new.self c.args.outbox.now.items c.take.new.outbox.items
    (sym c.is_meant.ensures ∙ c.if-not-is_meant.false) c.in_ok-take.ensures.takes (another_epoch c.args.message.epoch c.args.here.now.epoch c.if-not-is_current.true) (sym c.is_answer.ensures ∙ c.if-is_answer.true)

pub returns-clause-arrives : goal.returns-clause-arrives
returns-clause-arrives g c =
    arrives_taken c.args.here.now c.args.cache.now.refused c.take-2.new.cache.refused c.args.message c.args.self.now c.take-2.new.self c.args.outbox.now.items c.take-2.new.outbox.items
    (sym c.is_meant.ensures ∙ c.if-not-is_meant.false) c.in_ok-take-2.ensures.takes c.ask_first.new.self c.ask_first.new.outbox.items
    (same_epoch c.args.message.epoch c.args.here.now.epoch c.if-not-is_current.false) c.in_ok-ask_first.ensures.reacts

pub returns-in_err-ask_first-clause-fault : goal.returns-in_err-ask_first-clause-fault
returns-in_err-ask_first-clause-fault g c =
    let p = err_from_is_err_and c.from_residual-in_err-ask_first.result c.from_residual-in_err-ask_first.ensures.1 in
    rw (p.1, p.2)
    (stops_asking c.args.here.now c.args.cache.now.refused c.take-2.new.cache.refused c.args.message c.args.self.now c.take-2.new.self c.args.outbox.now.items c.take-2.new.outbox.items
    (sym c.is_meant.ensures ∙ c.if-not-is_meant.false) c.in_ok-take-2.ensures.takes c.in_err-ask_first.field-0.0
    (same_epoch c.args.message.epoch c.args.here.now.epoch c.if-not-is_current.false) c.in_err-ask_first.ensures.fault)

pub returns-then-not-is_meant-clause-left : goal.returns-then-not-is_meant-clause-left
returns-then-not-is_meant-clause-left g c clean stored =
    left_alone g.R.Rows.rejects _ _ _ _ _ _ _ (unmeant_brings (here_of c.args.here.now) c.args.message (local_of c.args.here.now.tenant.now c.args.self.now) (sym c.is_meant.ensures ∙ c.if-not-is_meant.true)) stored

pub returns-else-is_answer-clause-left : goal.returns-else-is_answer-clause-left
returns-else-is_answer-clause-left g c clean stored =
    left_alone g.R.Rows.rejects _ _ _ _ _ _ _
    (late_brings (here_of c.args.here.now) c.args.message (local_of c.args.here.now.tenant.now c.args.self.now)
    (sym c.is_meant.ensures ∙ c.if-not-is_meant.false) (another_epoch c.args.message.epoch c.args.here.now.epoch c.if-not-is_current.true) (sym c.is_answer.ensures ∙ c.if-is_answer.false)) stored

pub returns-in_ok-take-clause-left : goal.returns-in_ok-take-clause-left
returns-in_ok-take-clause-left g c clean stored =
    left_as g.R.Rows.rejects _ _ _ _ _ _ _ _ _
    (counted_brings (here_of c.args.here.now) c.args.message (local_of c.args.here.now.tenant.now c.args.self.now)
    (sym c.is_meant.ensures ∙ c.if-not-is_meant.false) (another_epoch c.args.message.epoch c.args.here.now.epoch c.if-not-is_current.true) (sym c.is_answer.ensures ∙ c.if-is_answer.true))
    (c.in_ok-take.ensures.left clean stored)

pub returns-in_err-take-clause-left : goal.returns-in_err-take-clause-left
returns-in_err-take-clause-left g c clean stored =
    let p = err_from_is_err_and c.from_residual.result c.from_residual.ensures.1 in
    rw (p.1, p.2)
    (left_as g.R.Rows.rejects _ _ _ _ _ _ _ _ _
    (counted_brings (here_of c.args.here.now) c.args.message (local_of c.args.here.now.tenant.now c.args.self.now)
    (sym c.is_meant.ensures ∙ c.if-not-is_meant.false) (another_epoch c.args.message.epoch c.args.here.now.epoch c.if-not-is_current.true) (sym c.is_answer.ensures ∙ c.if-is_answer.true))
    (c.in_err-take.ensures.left clean stored))

pub returns-clause-left : goal.returns-clause-left
returns-clause-left g c clean stored =
    left_then g.R.Rows.rejects _ _ _ _ _ _ _ None None (λ refused. let clash = refused in cc)
    (left_as g.R.Rows.rejects _ _ _ _ _ _ _ _ _ (taken_brings (here_of c.args.here.now) c.args.message (local_of c.args.here.now.tenant.now c.args.self.now) (sym c.is_meant.ensures ∙ c.if-not-is_meant.false) (same_epoch c.args.message.epoch c.args.here.now.epoch c.if-not-is_current.false)) (c.in_ok-take-2.ensures.left clean stored))

pub returns-in_err-take-2-clause-left : goal.returns-in_err-take-2-clause-left
returns-in_err-take-2-clause-left g c clean stored =
    let p = err_from_is_err_and c.from_residual-in_err-take-2.result c.from_residual-in_err-take-2.ensures.1 in
    rw (p.1, p.2)
    (left_as g.R.Rows.rejects _ _ _ _ _ _ _ _ _ (taken_brings (here_of c.args.here.now) c.args.message (local_of c.args.here.now.tenant.now c.args.self.now) (sym c.is_meant.ensures ∙ c.if-not-is_meant.false) (same_epoch c.args.message.epoch c.args.here.now.epoch c.if-not-is_current.false)) (c.in_err-take-2.ensures.left clean stored))

pub returns-in_err-ask_first-clause-left : goal.returns-in_err-ask_first-clause-left
returns-in_err-ask_first-clause-left g c clean stored =
    let p = err_from_is_err_and c.from_residual-in_err-ask_first.result c.from_residual-in_err-ask_first.ensures.1 in
    rw (p.1, p.2)
    (left_then g.R.Rows.rejects _ _ _ _ _ _ _ None _
    (stops_unrefused c.args.here.now.tenant.now (asks_first (here_of c.args.here.now)) c.take-2.new.self c.in_err-ask_first.field-0.0 c.in_err-ask_first.ensures.fault)
    (left_as g.R.Rows.rejects _ _ _ _ _ _ _ _ _ (taken_brings (here_of c.args.here.now) c.args.message (local_of c.args.here.now.tenant.now c.args.self.now) (sym c.is_meant.ensures ∙ c.if-not-is_meant.false) (same_epoch c.args.message.epoch c.args.here.now.epoch c.if-not-is_current.false)) (c.in_ok-take-2.ensures.left clean stored)))

pub returns-then-not-is_meant-clause-asks : goal.returns-then-not-is_meant-clause-asks
returns-then-not-is_meant-clause-asks g c =
    asks_dropped c.args.here.now c.args.message (local_of c.args.here.now.tenant.now c.args.self.now) _ c.args.cache.now c.args.cache.now
    (unmeant_dropped (here_of c.args.here.now) c.args.message (local_of c.args.here.now.tenant.now c.args.self.now) (sym c.is_meant.ensures ∙ c.if-not-is_meant.true))
    refl

pub returns-else-is_answer-clause-asks : goal.returns-else-is_answer-clause-asks
returns-else-is_answer-clause-asks g c =
    asks_dropped c.args.here.now c.args.message (local_of c.args.here.now.tenant.now c.args.self.now) _ c.args.cache.now c.args.cache.now
    (late_dropped (here_of c.args.here.now) c.args.message (local_of c.args.here.now.tenant.now c.args.self.now)
    (sym c.is_meant.ensures ∙ c.if-not-is_meant.false) (another_epoch c.args.message.epoch c.args.here.now.epoch c.if-not-is_current.true) (sym c.is_answer.ensures ∙ c.if-is_answer.false))
    refl

pub returns-in_ok-take-clause-asks : goal.returns-in_ok-take-clause-asks
returns-in_ok-take-clause-asks g c =
    asks_counted c.args.here.now c.args.message (local_of c.args.here.now.tenant.now c.args.self.now) _ c.args.cache.now c.take.new.cache
    (late_counted (here_of c.args.here.now) c.args.message (local_of c.args.here.now.tenant.now c.args.self.now)
    (sym c.is_meant.ensures ∙ c.if-not-is_meant.false) (another_epoch c.args.message.epoch c.args.here.now.epoch c.if-not-is_current.true) (sym c.is_answer.ensures ∙ c.if-is_answer.true))
    (asks_then _ c.args.here.now c.args.message c.args.message.body (local_of c.args.here.now.tenant.now c.args.self.now) _ _ c.args.cache.now c.take.new.cache c.in_ok-take.ensures.asks)

pub returns-in_err-take-clause-asks : goal.returns-in_err-take-clause-asks
returns-in_err-take-clause-asks g c =
    let p = err_from_is_err_and c.from_residual.result c.from_residual.ensures.1 in
    rw (p.1, p.2)
    (asks_counted c.args.here.now c.args.message (local_of c.args.here.now.tenant.now c.args.self.now) _ c.args.cache.now c.take.new.cache
    (late_counted (here_of c.args.here.now) c.args.message (local_of c.args.here.now.tenant.now c.args.self.now)
    (sym c.is_meant.ensures ∙ c.if-not-is_meant.false) (another_epoch c.args.message.epoch c.args.here.now.epoch c.if-not-is_current.true) (sym c.is_answer.ensures ∙ c.if-is_answer.true))
    c.in_err-take.ensures.asks)

pub returns-clause-asks : goal.returns-clause-asks
returns-clause-asks g c =
    asks_taken c.args.here.now c.args.message (local_of c.args.here.now.tenant.now c.args.self.now) _ c.args.cache.now c.take-2.new.cache
    (known_taken (here_of c.args.here.now) c.args.message (local_of c.args.here.now.tenant.now c.args.self.now)
    (sym c.is_meant.ensures ∙ c.if-not-is_meant.false) (same_epoch c.args.message.epoch c.args.here.now.epoch c.if-not-is_current.false))
    (asks_then _ c.args.here.now c.args.message c.args.message.body (local_of c.args.here.now.tenant.now c.args.self.now) _ _ c.args.cache.now c.take-2.new.cache c.in_ok-take-2.ensures.asks)

pub returns-in_err-take-2-clause-asks : goal.returns-in_err-take-2-clause-asks
returns-in_err-take-2-clause-asks g c =
    let p = err_from_is_err_and c.from_residual-in_err-take-2.result c.from_residual-in_err-take-2.ensures.1 in
    rw (p.1, p.2)
    (asks_taken c.args.here.now c.args.message (local_of c.args.here.now.tenant.now c.args.self.now) _ c.args.cache.now c.take-2.new.cache
    (known_taken (here_of c.args.here.now) c.args.message (local_of c.args.here.now.tenant.now c.args.self.now)
    (sym c.is_meant.ensures ∙ c.if-not-is_meant.false) (same_epoch c.args.message.epoch c.args.here.now.epoch c.if-not-is_current.false))
    c.in_err-take-2.ensures.asks)

pub returns-in_err-ask_first-clause-asks : goal.returns-in_err-ask_first-clause-asks
returns-in_err-ask_first-clause-asks g c =
    let p = err_from_is_err_and c.from_residual-in_err-ask_first.result c.from_residual-in_err-ask_first.ensures.1 in
    rw (p.1, p.2)
    (asks_taken c.args.here.now c.args.message (local_of c.args.here.now.tenant.now c.args.self.now) _ c.args.cache.now c.take-2.new.cache
    (known_taken (here_of c.args.here.now) c.args.message (local_of c.args.here.now.tenant.now c.args.self.now)
    (sym c.is_meant.ensures ∙ c.if-not-is_meant.false) (same_epoch c.args.message.epoch c.args.here.now.epoch c.if-not-is_current.false))
    (asks_then _ c.args.here.now c.args.message c.args.message.body (local_of c.args.here.now.tenant.now c.args.self.now) _ _ c.args.cache.now c.take-2.new.cache c.in_ok-take-2.ensures.asks))

pub returns-in_err-take-clause-fault : goal.returns-in_err-take-clause-fault
returns-in_err-take-clause-fault g c =
    let p = err_from_is_err_and c.from_residual.result c.from_residual.ensures.1 in
    rw (p.1, p.2)
    (stops_counted c.args.here.now c.args.cache.now.refused c.take.new.cache.refused c.args.message c.args.self.now c.in_err-take.field-0.0
    (sym c.is_meant.ensures ∙ c.if-not-is_meant.false) (another_epoch c.args.message.epoch c.args.here.now.epoch c.if-not-is_current.true) (sym c.is_answer.ensures ∙ c.if-is_answer.true) c.in_err-take.ensures.fault)

pub returns-in_err-take-2-clause-fault : goal.returns-in_err-take-2-clause-fault
returns-in_err-take-2-clause-fault g c =
    let p = err_from_is_err_and c.from_residual-in_err-take-2.result c.from_residual-in_err-take-2.ensures.1 in
    rw (p.1, p.2)
    (stops_taken c.args.here.now c.args.cache.now.refused c.take-2.new.cache.refused c.args.message c.args.self.now c.in_err-take-2.field-0.0
    (sym c.is_meant.ensures ∙ c.if-not-is_meant.false) (same_epoch c.args.message.epoch c.args.here.now.epoch c.if-not-is_current.false) (inl c.in_err-take-2.ensures.fault))

pub returns-in_ok-take-clause-untouched : goal.returns-in_ok-take-clause-untouched
returns-in_ok-take-clause-untouched g c none =
    c.take.ensures.untouched
    (sym (counted_brings (here_of c.args.here.now) c.args.message (local_of c.args.here.now.tenant.now c.args.self.now)
    (sym c.is_meant.ensures ∙ c.if-not-is_meant.false) (another_epoch c.args.message.epoch c.args.here.now.epoch c.if-not-is_current.true) (sym c.is_answer.ensures ∙ c.if-is_answer.true)) ∙ none)

pub returns-in_err-take-clause-untouched : goal.returns-in_err-take-clause-untouched
returns-in_err-take-clause-untouched g c none =
    c.take.ensures.untouched
    (sym (counted_brings (here_of c.args.here.now) c.args.message (local_of c.args.here.now.tenant.now c.args.self.now)
    (sym c.is_meant.ensures ∙ c.if-not-is_meant.false) (another_epoch c.args.message.epoch c.args.here.now.epoch c.if-not-is_current.true) (sym c.is_answer.ensures ∙ c.if-is_answer.true)) ∙ none)

pub returns-clause-untouched : goal.returns-clause-untouched
returns-clause-untouched g c none =
    c.take-2.ensures.untouched
    (sym (taken_brings (here_of c.args.here.now) c.args.message (local_of c.args.here.now.tenant.now c.args.self.now)
    (sym c.is_meant.ensures ∙ c.if-not-is_meant.false) (same_epoch c.args.message.epoch c.args.here.now.epoch c.if-not-is_current.false)) ∙ none)

pub returns-in_err-take-2-clause-untouched : goal.returns-in_err-take-2-clause-untouched
returns-in_err-take-2-clause-untouched g c none =
    c.take-2.ensures.untouched
    (sym (taken_brings (here_of c.args.here.now) c.args.message (local_of c.args.here.now.tenant.now c.args.self.now)
    (sym c.is_meant.ensures ∙ c.if-not-is_meant.false) (same_epoch c.args.message.epoch c.args.here.now.epoch c.if-not-is_current.false)) ∙ none)

pub returns-in_err-ask_first-clause-untouched : goal.returns-in_err-ask_first-clause-untouched
returns-in_err-ask_first-clause-untouched g c none =
    c.take-2.ensures.untouched
    (sym (taken_brings (here_of c.args.here.now) c.args.message (local_of c.args.here.now.tenant.now c.args.self.now)
    (sym c.is_meant.ensures ∙ c.if-not-is_meant.false) (same_epoch c.args.message.epoch c.args.here.now.epoch c.if-not-is_current.false)) ∙ none)
