use Rattle.std.proofs.Common.{refl, sym, ◌∙◌}
use Rattle.std.proofs.lemmas.Result.{IfErr-weaker, err_from_is_err_and, on_ok_weaker}
use Rattle.am_rows.proofs.Wearing.{unworn}
use Rattle.am_replica.specs.Storing.{fault_in}
use Rattle.am_site.proofs.Learned.{dropped_in_order, elsewhere_in_order, learns_as_replica, learns_dropped, learns_elsewhere, none_open_then, sound_then, stops_as_replica, stops_being}
use Rattle.am_site.proofs.Leaving.{held_stored, leaves_all, leaves_none, leaves_untouched, not_refused, not_stopped, still_stores, stops_dropping}
use Rattle.am_site.proofs.site.Site.learn.Goals as goal

-- ---- it is one of the three

pub returns-then-is_replica-clause-moves : goal.returns-then-is_replica-clause-moves
returns-then-is_replica-clause-moves g c =
    on_ok_weaker c.go_on.result
    (learns_as_replica c.args.here.now c.args.before.now c.args.self.now c.answer_if_changed.new.self c.args.outbox.now.items c.answer_if_changed.new.outbox.items
    c.in_ok-answer_if_changed.ensures.reacts (sym c.is_replica.ensures ∙ c.if-is_replica.true) c.go_on.new.self c.go_on.new.outbox.items)
    c.go_on.ensures.moves

pub returns-then-is_replica-clause-order : goal.returns-then-is_replica-clause-order
returns-then-is_replica-clause-order g c was may =
    c.go_on.ensures.order was
    (sound_then c.args.here.now c.args.before.now c.args.self.now c.answer_if_changed.new.self c.args.outbox.now.items c.answer_if_changed.new.outbox.items
    c.in_ok-answer_if_changed.ensures.reacts was may)

pub returns-then-is_replica-clause-fault : goal.returns-then-is_replica-clause-fault
returns-then-is_replica-clause-fault g c =
    IfErr-weaker c.go_on.result _ _
    (λ fault stops. stops_as_replica c.args.here.now c.args.before.now c.args.self.now c.answer_if_changed.new.self c.args.outbox.now.items c.answer_if_changed.new.outbox.items
    c.in_ok-answer_if_changed.ensures.reacts (sym c.is_replica.ensures ∙ c.if-is_replica.true) c.go_on.new.cache.refused fault
    c.answer_if_changed.ensures.node c.answer_if_changed.ensures.settling stops)
    c.go_on.ensures.fault

pub returns-then-is_replica-clause-stores : goal.returns-then-is_replica-clause-stores
returns-then-is_replica-clause-stores g c = λ clean stored.
    on_ok_weaker c.go_on.result
    (λ held. held_stored c.args.self.now.node c.answer_if_changed.new.self.node c.go_on.new.self.node _ c.answer_if_changed.ensures.node held stored) c.go_on.ensures.held

pub returns-then-is_replica-clause-left : goal.returns-then-is_replica-clause-left
returns-then-is_replica-clause-left g c = λ clean stored.
    leaves_untouched c.args.here.now c.args.before.now c.args.self.now.node (g.R.Rows.pairs c.args.store.now) stored (fault_in c.go_on.result) (g.R.Rows.medium c.args.store.now)
    (not_refused c.go_on.new.cache.refused c.args.here.now c.args.before.now c.answer_if_changed.new.self c.go_on.result c.go_on.ensures.fault)

-- ---- it neither was one of them nor is one

pub returns-then-not-is_among-clause-moves : goal.returns-then-not-is_among-clause-moves
returns-then-not-is_among-clause-moves g c =
    learns_elsewhere c.args.here.now c.args.before.now c.args.self.now c.answer_if_changed.new.self c.args.outbox.now.items c.answer_if_changed.new.outbox.items
    c.in_ok-answer_if_changed.ensures.reacts (sym c.is_replica.ensures ∙ c.if-is_replica.false) (sym c.is_among.ensures ∙ c.if-not-is_among.true)

pub returns-then-not-is_among-clause-order : goal.returns-then-not-is_among-clause-order
returns-then-not-is_among-clause-order g c was may =
    elsewhere_in_order c.args.here.now c.args.before.now c.args.self.now c.answer_if_changed.new.self c.args.outbox.now.items c.answer_if_changed.new.outbox.items
    c.in_ok-answer_if_changed.ensures.reacts (sym c.is_replica.ensures ∙ c.if-is_replica.false) (sym c.is_among.ensures ∙ c.if-not-is_among.true) was may

pub returns-then-not-is_among-clause-stores : goal.returns-then-not-is_among-clause-stores
returns-then-not-is_among-clause-stores g c = λ clean stored.
    held_stored c.args.self.now.node c.answer_if_changed.new.self.node c.answer_if_changed.new.self.node _ c.answer_if_changed.ensures.node (λ s. refl) stored

pub returns-then-not-is_among-clause-left : goal.returns-then-not-is_among-clause-left
returns-then-not-is_among-clause-left g c = λ clean stored.
    leaves_untouched c.args.here.now c.args.before.now c.args.self.now.node (g.R.Rows.pairs c.args.store.now) stored _ (g.R.Rows.medium c.args.store.now) not_stopped

-- ---- it stops being one of them

pub returns-clause-moves : goal.returns-clause-moves
returns-clause-moves g c =
    let none = sym c.is_replica.ensures ∙ c.if-is_replica.false in
    let was = sym c.is_among.ensures ∙ c.if-not-is_among.false in
    learns_dropped c.args.here.now c.args.before.now c.args.self.now c.answer_if_changed.new.self c.args.outbox.now.items c.answer_if_changed.new.outbox.items
    c.in_ok-answer_if_changed.ensures.reacts none was c.drop_tenant.new.self
    (c.drop_tenant.ensures.moves
    (none_open_then c.args.here.now c.args.before.now c.args.self.now c.answer_if_changed.new.self c.args.outbox.now.items c.answer_if_changed.new.outbox.items
    c.in_ok-answer_if_changed.ensures.reacts none was))

pub returns-clause-order : goal.returns-clause-order
returns-clause-order g c was may =
    let none = sym c.is_replica.ensures ∙ c.if-is_replica.false in
    let among = sym c.is_among.ensures ∙ c.if-not-is_among.false in
    dropped_in_order c.args.here.now c.args.before.now c.args.self.now c.answer_if_changed.new.self c.args.outbox.now.items c.answer_if_changed.new.outbox.items
    c.in_ok-answer_if_changed.ensures.reacts none among c.drop_tenant.new.self
    (c.drop_tenant.ensures.moves
    (none_open_then c.args.here.now c.args.before.now c.args.self.now c.answer_if_changed.new.self c.args.outbox.now.items c.answer_if_changed.new.outbox.items
    c.in_ok-answer_if_changed.ensures.reacts none among))

pub returns-clause-stores : goal.returns-clause-stores
returns-clause-stores g c = λ clean stored.
    still_stores c.args.here.now c.args.before.now c.args.self.now.node (g.R.Rows.pairs c.args.store.now) stored (g.R.Rows.pairs c.drop_rows_of.new.store) (c.in_ok-drop_rows_of.ensures.dropped clean)
    c.answer_if_changed.new.self.node c.drop_tenant.new.self.node c.answer_if_changed.ensures.node c.drop_tenant.ensures.node

pub returns-clause-left : goal.returns-clause-left
returns-clause-left g c = λ clean stored.
    leaves_none c.args.here.now c.args.before.now c.args.self.now.node (g.R.Rows.pairs c.args.store.now) stored (g.R.Rows.pairs c.drop_rows_of.new.store) (c.in_ok-drop_rows_of.ensures.dropped clean)
    (stops_being c.args.here.now c.args.before.now (sym c.is_replica.ensures ∙ c.if-is_replica.false) (sym c.is_among.ensures ∙ c.if-not-is_among.false))
    (g.R.Rows.medium c.args.store.now) (g.R.Rows.medium c.drop_rows_of.new.store)

pub returns-in_err-drop_rows_of-clause-fault : goal.returns-in_err-drop_rows_of-clause-fault
returns-in_err-drop_rows_of-clause-fault g c =
    let p = err_from_is_err_and c.from_residual-in_err-drop_rows_of.result c.from_residual-in_err-drop_rows_of.ensures.1 in
    rw (p.1, p.2)
    (stops_dropping c.args.cache.now.refused c.args.here.now c.args.before.now c.args.self.now c.in_err-drop_rows_of.field-0.0
    (stops_being c.args.here.now c.args.before.now (sym c.is_replica.ensures ∙ c.if-is_replica.false) (sym c.is_among.ensures ∙ c.if-not-is_among.false))
    c.in_err-drop_rows_of.ensures.fault)

pub returns-in_err-drop_rows_of-clause-left : goal.returns-in_err-drop_rows_of-clause-left
returns-in_err-drop_rows_of-clause-left g c = λ clean stored.
    let p = err_from_is_err_and c.from_residual-in_err-drop_rows_of.result c.from_residual-in_err-drop_rows_of.ensures.1 in
    rw (p.1, p.2)
    (leaves_all c.args.here.now c.args.before.now c.args.self.now.node (g.R.Rows.pairs c.args.store.now) stored _
    (g.R.Rows.medium c.args.store.now) (g.R.Rows.medium c.drop_rows_of.new.store) (g.R.Rows.pairs c.drop_rows_of.new.store)
    (c.in_err-drop_rows_of.ensures.err clean) (c.in_err-drop_rows_of.ensures.cause clean))

-- ---- what it makes of the store's medium

pub returns-in_err-answer_if_changed-clause-wears : goal.returns-in_err-answer_if_changed-clause-wears
returns-in_err-answer_if_changed-clause-wears g c clean = unworn (g.R.Rows.medium c.args.store.now)

pub returns-then-is_replica-clause-wears : goal.returns-then-is_replica-clause-wears
returns-then-is_replica-clause-wears g c clean = unworn (g.R.Rows.medium c.args.store.now)

pub returns-then-not-is_among-clause-wears : goal.returns-then-not-is_among-clause-wears
returns-then-not-is_among-clause-wears g c clean = unworn (g.R.Rows.medium c.args.store.now)
