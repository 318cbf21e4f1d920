use Rattle.sqlite.specs.Held.{state}
use Rattle.am_store.proofs.Shelves.{clean_is, cleaner, judged, not_shut, opens, stays, worn}
use Rattle.am_store.proofs.shelf.ShelfRows.open.Goals as goal

pub returns-in-Ok-clause-clean : goal.returns-in-Ok-clause-clean
returns-in-Ok-clause-clean g c = rw (← c.self.view_is) (cleaner (state g.S.Store c.self.inside.conn) (state g.S.Store c.open.new.conn) _ c.open.ensures.crash)

pub returns-in-Err-clause-clean : goal.returns-in-Err-clause-clean
returns-in-Err-clause-clean g c = rw (← c.self.view_is) (cleaner (state g.S.Store c.self.inside.conn) (state g.S.Store c.open.new.conn) _ c.open.ensures.crash)

pub returns-in-Ok-clause-opened : goal.returns-in-Ok-clause-opened
returns-in-Ok-clause-opened g c = λ clean.
    let old = state g.S.Store c.self.inside.conn in
    let new = state g.S.Store c.open.new.conn in
    rw (← c.self.view_is) (opens old new (c.in-Ok.ensures.ok (clean_is new clean)))

pub returns-in-Err-clause-err : goal.returns-in-Err-clause-err
returns-in-Err-clause-err g c = λ clean still.
    let old = state g.S.Store c.self.inside.conn in
    let new = state g.S.Store c.open.new.conn in
    rw (← c.self.view_is) (stays old.now new.now (c.in-Err.ensures.err (clean_is new clean) (not_shut _ still)).0)

pub returns-in-Ok-clause-wears : goal.returns-in-Ok-clause-wears
returns-in-Ok-clause-wears g c = λ clean.
    rw (← c.self.view_is) (worn (state g.S.Store c.self.inside.conn) (state g.S.Store c.open.new.conn) _ c.open.ensures.crash clean)

pub returns-in-Err-clause-wears : goal.returns-in-Err-clause-wears
returns-in-Err-clause-wears g c = λ clean.
    rw (← c.self.view_is) (worn (state g.S.Store c.self.inside.conn) (state g.S.Store c.open.new.conn) _ c.open.ensures.crash clean)

pub returns-in-Err-clause-fails : goal.returns-in-Err-clause-fails
returns-in-Err-clause-fails g c = λ clean.
    let old = state g.S.Store c.self.inside.conn in
    let new = state g.S.Store c.open.new.conn in
    rw (← c.self.view_is) (judged old new c.self.invariant.2 c.in-Err.failure c.in-Err.ensures.used (c.in-Err.ensures.fails (clean_is new clean)))
