use Rattle.std.proofs.Common.{◌≡◌, true, ap, ◌∙◌}
use Rattle.sqlite.specs.Held.{state}
use Rattle.am_item.specs.Key.{SilenceKey}
use Rattle.am_store.proofs.Shelves.{clean_is, cleaner, excused, not_shut, removes, stays, worn}
use Rattle.am_store.proofs.shelf.ShelfRows.drop_silence.Goals as goal

pub returns-in-Ok-clause-clean : goal.returns-in-Ok-clause-clean
returns-in-Ok-clause-clean g c = rw (← c.self.view_is) (cleaner (state g.S.Store c.self.inside.conn) (state g.S.Store c.drop_silence.new.conn) _ c.drop_silence.ensures.crash)

pub returns-in-Err-clause-clean : goal.returns-in-Err-clause-clean
returns-in-Err-clause-clean g c = rw (← c.self.view_is) (cleaner (state g.S.Store c.self.inside.conn) (state g.S.Store c.drop_silence.new.conn) _ c.drop_silence.ensures.crash)

pub returns-in-Ok-clause-dropped : goal.returns-in-Ok-clause-dropped
returns-in-Ok-clause-dropped g c = λ clean.
    let old = state g.S.Store c.self.inside.conn in
    let new = state g.S.Store c.drop_silence.new.conn in
    let opened : c.self.inside.is_open ≡ true = ap (λ v. v.1) c.self.view_is ∙ c.requires in
    let is = c.self.invariant.1 opened (clean_is old (cleaner old new _ c.drop_silence.ensures.crash clean)) in
    rw (← c.self.view_is) (removes c.args.tenant.now (SilenceKey c.args.id.now) old.now new.now is (c.in-Ok.ensures.ok (clean_is new clean) is).made)

pub returns-in-Err-clause-err : goal.returns-in-Err-clause-err
returns-in-Err-clause-err g c = λ clean still.
    let old = state g.S.Store c.self.inside.conn in
    let new = state g.S.Store c.drop_silence.new.conn in
    let opened : c.self.inside.is_open ≡ true = ap (λ v. v.1) c.self.view_is ∙ c.requires in
    let is = c.self.invariant.1 opened (clean_is old (cleaner old new _ c.drop_silence.ensures.crash clean)) in
    rw (← c.self.view_is) (stays old.now new.now (c.in-Err.ensures.err (clean_is new clean) (not_shut _ still) is).0)

pub returns-in-Ok-clause-wears : goal.returns-in-Ok-clause-wears
returns-in-Ok-clause-wears g c = λ clean.
    rw (← c.self.view_is) (worn (state g.S.Store c.self.inside.conn) (state g.S.Store c.drop_silence.new.conn) _ c.drop_silence.ensures.crash clean)

pub returns-in-Err-clause-wears : goal.returns-in-Err-clause-wears
returns-in-Err-clause-wears g c = λ clean.
    rw (← c.self.view_is) (worn (state g.S.Store c.self.inside.conn) (state g.S.Store c.drop_silence.new.conn) _ c.drop_silence.ensures.crash clean)

pub returns-in-Err-clause-fails : goal.returns-in-Err-clause-fails
returns-in-Err-clause-fails g c = λ clean.
    let old = state g.S.Store c.self.inside.conn in
    let new = state g.S.Store c.drop_silence.new.conn in
    let opened : c.self.inside.is_open ≡ true = ap (λ v. v.1) c.self.view_is ∙ c.requires in
    let is = c.self.invariant.1 opened (clean_is old (cleaner old new _ c.drop_silence.ensures.crash clean)) in
    rw (← c.self.view_is)
    (excused old new c.self.invariant.2 c.in-Err.error c.failure_of.result c.failure_of.ensures.memory.1 c.failure_of.ensures.database
    (c.in-Err.ensures.fails (clean_is new clean) is))
