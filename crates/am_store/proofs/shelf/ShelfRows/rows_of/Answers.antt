use Rattle.std.proofs.Common.{◌≡◌, true, not, ap, sym, subst, ◌∙◌}
use Rattle.sqlite.specs.Held.{state}
use Rattle.am_store.specs.Rows.{IsStore}
use Rattle.am_store.proofs.Calls.{clean_before}
use Rattle.am_store.proofs.Resting.{rests_same}
use Rattle.am_store.proofs.Shelves.{caused, clean_is, cleaner, not_shut, reads_all, stays, worn}
use Rattle.am_store.proofs.shelf.ShelfRows.rows_of.Goals as goal

pub returns-in-Ok-clause-clean : goal.returns-in-Ok-clause-clean
returns-in-Ok-clause-clean g c = rw (← c.self.view_is) (cleaner (state g.S.Store c.self.inside.conn) (state g.S.Store c.rows_of.new.conn) _ (c.rows_of.ensures.rests (λ clean. c.self.invariant.1 (ap (λ v. v.1) c.self.view_is ∙ c.requires) clean)).survives)

pub returns-in-Err-clause-clean : goal.returns-in-Err-clause-clean
returns-in-Err-clause-clean g c = rw (← c.self.view_is) (cleaner (state g.S.Store c.self.inside.conn) (state g.S.Store c.rows_of.new.conn) _ (c.rows_of.ensures.rests (λ clean. c.self.invariant.1 (ap (λ v. v.1) c.self.view_is ∙ c.requires) clean)).survives)

pub returns-in-Ok-clause-stays : goal.returns-in-Ok-clause-stays
returns-in-Ok-clause-stays g c = λ clean.
    let old = state g.S.Store c.self.inside.conn in
    let new = state g.S.Store c.rows_of.new.conn in
    let opened : c.self.inside.is_open ≡ true = ap (λ v. v.1) c.self.view_is ∙ c.requires in
    let is = c.self.invariant.1 opened (clean_is old (cleaner old new _ (c.rows_of.ensures.rests (λ clean. c.self.invariant.1 (ap (λ v. v.1) c.self.view_is ∙ c.requires) clean)).survives clean)) in
    rw (← c.self.view_is) (stays old.now new.now (c.in-Ok.ensures.same (clean_is new clean) is))

pub returns-in-Err-clause-err : goal.returns-in-Err-clause-err
returns-in-Err-clause-err g c = λ clean still.
    let old = state g.S.Store c.self.inside.conn in
    let new = state g.S.Store c.rows_of.new.conn in
    let opened : c.self.inside.is_open ≡ true = ap (λ v. v.1) c.self.view_is ∙ c.requires in
    let rests = c.rows_of.ensures.rests (λ clean. c.self.invariant.1 opened clean) in
    let settled = c.is_autocommit-settled.ensures.settled (c.is_autocommit-settled.ensures.value ∙ ap not c.self.invariant.0) in
    rw (← c.self.view_is) (stays old.now new.now (rests_same old new rests settled (clean_is new clean) (not_shut _ still)).0)

pub invariant_of-self : goal.invariant_of-self
invariant_of-self g c =
    let old = state g.S.Store c.self.inside.conn in
    let new = state g.S.Store c.rows_of.new.conn in
    let opened : c.self.inside.is_open ≡ true = ap (λ v. v.1) c.self.view_is ∙ c.requires in (
      c.rows_of.ensures.idle c.self.invariant.0,
      λ _ clean.
          let is = c.self.invariant.1 opened (clean_before old new _ (c.rows_of.ensures.rests (λ clean. c.self.invariant.1 (ap (λ v. v.1) c.self.view_is ∙ c.requires) clean)).survives clean) in
          subst IsStore (sym (c.in-Ok.ensures.same clean is)) is,
      (c.rows_of.ensures.rests (λ clean. c.self.invariant.1 (ap (λ v. v.1) c.self.view_is ∙ c.requires) clean)).survives.limit ∙ c.self.invariant.2,
    )

pub returns-in-Ok-clause-rows : goal.returns-in-Ok-clause-rows
returns-in-Ok-clause-rows g c = λ clean.
    let old = state g.S.Store c.self.inside.conn in
    let new = state g.S.Store c.rows_of.new.conn in
    let opened : c.self.inside.is_open ≡ true = ap (λ v. v.1) c.self.view_is ∙ c.requires in
    let is = c.self.invariant.1 opened (clean_is old (cleaner old new _ (c.rows_of.ensures.rests (λ clean. c.self.invariant.1 (ap (λ v. v.1) c.self.view_is ∙ c.requires) clean)).survives clean)) in
    rw (← c.self.view_is) (reads_all c.args.tenant.now old.now c.in-Ok.items.items is (c.in-Ok.ensures.rows (clean_is new clean) is) c.in-Ok.ensures.order c.in-Ok.ensures.stored)

pub returns-in-Ok-clause-wears : goal.returns-in-Ok-clause-wears
returns-in-Ok-clause-wears g c = λ clean.
    rw (← c.self.view_is) (worn (state g.S.Store c.self.inside.conn) (state g.S.Store c.rows_of.new.conn) _ (c.rows_of.ensures.rests (λ clean. c.self.invariant.1 (ap (λ v. v.1) c.self.view_is ∙ c.requires) clean)).survives clean)

pub returns-in-Err-clause-wears : goal.returns-in-Err-clause-wears
returns-in-Err-clause-wears g c = λ clean.
    rw (← c.self.view_is) (worn (state g.S.Store c.self.inside.conn) (state g.S.Store c.rows_of.new.conn) _ (c.rows_of.ensures.rests (λ clean. c.self.invariant.1 (ap (λ v. v.1) c.self.view_is ∙ c.requires) clean)).survives clean)

pub returns-in-Err-clause-fails : goal.returns-in-Err-clause-fails
returns-in-Err-clause-fails g c = λ clean.
    let old = state g.S.Store c.self.inside.conn in
    let new = state g.S.Store c.rows_of.new.conn in
    let opened : c.self.inside.is_open ≡ true = ap (λ v. v.1) c.self.view_is ∙ c.requires in
    let is = c.self.invariant.1 opened (clean_is old (cleaner old new _ (c.rows_of.ensures.rests (λ clean. c.self.invariant.1 (ap (λ v. v.1) c.self.view_is ∙ c.requires) clean)).survives clean)) in
    rw (← c.self.view_is) (caused old new c.self.invariant.2 c.in-Err.failure (c.in-Err.ensures.fails (clean_is new clean) is))
