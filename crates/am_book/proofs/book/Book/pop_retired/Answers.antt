use Rattle.std.proofs.Common.{◌≡◌, List, cond, false, filter, length, subst, sym, true, ap, ◌∙◌, ℕ}
use Rattle.std.specs.Option.{option_map_or}
use Rattle.am_tenant.specs.Names.{same}
use Rattle.am_item.specs.Best.{item_at}
use Rattle.am_item.specs.Retirement.{is_retired}
use Rattle.am_item.proofs.Removed.{lacks_key}
use Rattle.am_book.specs.Book.{held_of, items_of, pairs_of}
use Rattle.am_book.specs.Row.{has_row, same_row}
use Rattle.am_book.specs.declared.row.Row.{Row}
use Rattle.am_book.proofs.Lists.{at_error}
use Rattle.am_book.proofs.Retiring.{all_stay, none_due, others_stay, row_held, row_retired}
use Rattle.am_book.proofs.RowLemmas.{first_taken}
use Rattle.am_book.proofs.Told.{told_dropped}
use Rattle.am_book.proofs.book.Book.pop_retired.Goals as goal

pub returns-in_default-clause-none : goal.returns-in_default-clause-none
returns-in_default-clause-none c =
    let h = c.self.inside in
    none_due c.args.self.now h.tenants c.self.view_is c.self.invariant.0 h.rows c.self.invariant.2 c.args.moment c.in_default.ensures.none

pub returns-in_err-remove_of-clause-err : goal.returns-in_err-remove_of-clause-err
returns-in_err-remove_of-clause-err c =
    at_error c.from_residual.result
    (all_stay c.args.self.now c.self.inside.tenants c.self.view_is c.self.invariant.0 c.remove_of.new.tenants c.remove_of.ensures.ordered c.in_err-remove_of.ensures.err)

-- the row that is taken out is the one whose item went
taken : (c : goal.In-Some-pop_first) → c.in-Some.row.now ≡ c.in-Some-pop_first.row
taken c = first_taken c.in-Some.row.now c.in-Some-pop_first.row c.self.inside.rows.keys c.pop_first.new.self.keys c.in-Some.ensures.first c.in-Some-pop_first.ensures.removal

pub invariant_of-self-2 : goal.invariant_of-self-2
invariant_of-self-2 c =
    let h = c.self.inside in
    let others =
    subst (λ (first : Row). (row : Row) → has_row c.pop_first.new.self row ≡ cond (same_row first row) false (has_row h.rows row)) (sym (taken c))
    c.in-Some-pop_first.ensures.updates.0 in (
      c.remove_of.ensures.ordered,
      c.self.invariant.1,
      told_dropped (λ t. held_of t h.tenants) (has_row h.rows) c.self.invariant.2 c.in-Some.row.now c.in-Some.ensures.there
          (λ t. held_of t c.remove_of.new.tenants) (has_row c.pop_first.new.self) others c.in_ok-remove_of.ensures.held,
    )

pub returns-clause-retired : goal.returns-clause-retired
returns-clause-retired c =
    let h = c.self.inside in
    subst (λ (row : Row). option_map_or (is_retired c.args.moment) (item_at row.key (items_of row.tenant c.args.self.now)) false ≡ true) (taken c)
    (row_retired c.args.self.now h.tenants c.self.view_is c.self.invariant.0 c.in-Some.row.now
    h.rows c.self.invariant.2 c.in-Some.ensures.there c.args.moment c.in-Some.ensures.due)

pub returns-clause-others : goal.returns-clause-others
returns-clause-others c =
    let left = pairs_of c.remove_of.new.tenants in
    subst (λ (row : Row). (t : List ℕ) → items_of t left ≡ cond (same t row.tenant) (filter (lacks_key row.key) (items_of t c.args.self.now)) (items_of t c.args.self.now)) (taken c)
    (others_stay c.args.self.now c.self.inside.tenants c.self.view_is c.self.invariant.0 c.in-Some.row.now
    c.remove_of.new.tenants c.remove_of.ensures.ordered c.in_ok-remove_of.ensures.held)

pub returns-clause-fewer : goal.returns-clause-fewer
returns-clause-fewer c =
    let h = c.self.inside in
    c.in_ok-remove_of.ensures.fewer
    (row_held c.args.self.now h.tenants c.self.view_is c.self.invariant.0 c.in-Some.row.now h.rows c.self.invariant.2 c.in-Some.ensures.there)
    ∙ ap length c.self.view_is
