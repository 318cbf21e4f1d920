use Rattle.std.proofs.Common.{[], ap, cond, ◌∙◌}
use Rattle.am_tenant.specs.Names.{same}
use Rattle.am_book.specs.Book.{items_of}
use Rattle.am_book.proofs.Leaving.{held_left, items_left, told_left}
use Rattle.am_book.proofs.book.Book.drop_tenant.Goals as goal

pub invariant_of-self : goal.invariant_of-self
invariant_of-self c =
    let h = c.self.inside in
    let gone = c.remove.ensures in (
      held_left h.tenants c.remove.new.self c.args.tenant.now c.self.invariant.0 gone.ordered gone.entries,
      c.self.invariant.1,
      told_left h.tenants c.remove.new.self c.args.tenant.now gone.updates.0 h.rows c.forget_all.new.rows c.self.invariant.2
          c.forget_all.ensures,
    )

pub returns : goal.returns
returns c = λ t.
    let gone = c.remove.ensures in
    items_left c.self.inside.tenants c.remove.new.self c.args.tenant.now gone.updates.0 c.self.invariant.0 gone.ordered t
    ∙ ap (λ items. cond (same t c.args.tenant.now) [] (items_of t items)) c.self.view_is
