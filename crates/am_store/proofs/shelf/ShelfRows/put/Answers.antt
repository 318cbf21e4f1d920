use Rattle.std.proofs.Common.{◌≡◌, inl, inr, refl, true, ap, ◌∙◌}
use Rattle.sqlite.specs.Held.{state}
use Rattle.am_rows.proofs.Wearing.{unworn}
use Rattle.am_store.specs.Failing.{medium_of}
use Rattle.am_store.proofs.Shelves.{clean_is, cleaner, not_shut, put_excused, puts, stays, worn}
use Rattle.am_store.proofs.shelf.ShelfRows.put.Goals as goal

pub returns-in-Ok-clause-clean : goal.returns-in-Ok-clause-clean
returns-in-Ok-clause-clean g c = rw (← c.self.view_is) (cleaner (state g.S.Store c.self.inside.conn) (state g.S.Store c.put.new.conn) _ c.put.ensures.crash)

pub returns-in-Err-clause-clean : goal.returns-in-Err-clause-clean
returns-in-Err-clause-clean g c = rw (← c.self.view_is) (cleaner (state g.S.Store c.self.inside.conn) (state g.S.Store c.put.new.conn) _ c.put.ensures.crash)

pub returns-in-Ok-clause-put : goal.returns-in-Ok-clause-put
returns-in-Ok-clause-put g c = λ clean.
    let old = state g.S.Store c.self.inside.conn in
    let new = state g.S.Store c.put.new.conn in
    let opened : c.self.inside.is_open ≡ true = ap (λ v. v.1) c.self.view_is ∙ c.requires.open in
    let is = c.self.invariant.1 opened (clean_is old (cleaner old new _ c.put.ensures.crash clean)) in
    rw (← c.self.view_is) (puts c.args.tenant.now c.args.items.now old.now new.now is (c.in-Ok.ensures.ok (clean_is new clean) is).made)

pub returns-in-Err-clause-err : goal.returns-in-Err-clause-err
returns-in-Err-clause-err g c = λ clean still.
    let old = state g.S.Store c.self.inside.conn in
    let new = state g.S.Store c.put.new.conn in
    let opened : c.self.inside.is_open ≡ true = ap (λ v. v.1) c.self.view_is ∙ c.requires.open in
    let is = c.self.invariant.1 opened (clean_is old (cleaner old new _ c.put.ensures.crash clean)) in
    rw (← c.self.view_is) (stays old.now new.now (c.in-Err.ensures.err (clean_is new clean) (not_shut _ still) is).0)

pub returns-in-Ok-clause-wears : goal.returns-in-Ok-clause-wears
returns-in-Ok-clause-wears g c = λ clean.
    rw (← c.self.view_is) (worn (state g.S.Store c.self.inside.conn) (state g.S.Store c.put.new.conn) _ c.put.ensures.crash clean)

pub returns-in-Err-clause-wears : goal.returns-in-Err-clause-wears
returns-in-Err-clause-wears g c = λ clean.
    rw (← c.self.view_is) (worn (state g.S.Store c.self.inside.conn) (state g.S.Store c.put.new.conn) _ c.put.ensures.crash clean)

pub returns-in-Err-clause-fails : goal.returns-in-Err-clause-fails
returns-in-Err-clause-fails g c = λ clean.
    let old = state g.S.Store c.self.inside.conn in
    let new = state g.S.Store c.put.new.conn in
    let opened : c.self.inside.is_open ≡ true = ap (λ v. v.1) c.self.view_is ∙ c.requires.open in
    let is = c.self.invariant.1 opened (clean_is old (cleaner old new _ c.put.ensures.crash clean)) in
    rw (← c.self.view_is)
    (put_excused old new c.self.invariant.2 c.args.tenant.now c.args.items.now c.in-Err.error c.failure_of.result c.failure_of.ensures.memory.1 c.failure_of.ensures.database
    (c.in-Err.ensures.fails (clean_is new clean) is))

pub returns-then-not-are_fit-clause-fails : goal.returns-then-not-are_fit-clause-fails
returns-then-not-are_fit-clause-fails g c = λ clean. (refl, inr (inl (c.are_fit.ensures.unfit c.if-not-are_fit.true)))

pub returns-then-not-are_fit-clause-wears : goal.returns-then-not-are_fit-clause-wears
returns-then-not-are_fit-clause-wears g c = λ clean. rw (← c.self.view_is) (unworn (medium_of (state g.S.Store c.self.inside.conn)))
