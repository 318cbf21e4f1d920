use Rattle.std.proofs.Common.{ap, sym, ◌∙◌}
use Rattle.std.specs.List.{list_any}
use Rattle.am_item.specs.Best.{item_at}
use Rattle.am_item.specs.declared.key.ThingKey.TheVariants.{Configuration as ConfigurationKey}
use Rattle.am_current.specs.Replacing.{replaces}
use Rattle.am_current.proofs.InUse.{at_ok, in_use_put}
use Rattle.am_current.proofs.holdings.Holdings.put_all.Goals as goal

pub invariant_of-self : goal.invariant_of-self
invariant_of-self c =
    let parts = c.self.inside.parts in
    let held = c.held.result.now in
    let none = ap (list_any (replaces (item_at ConfigurationKey held))) (sym c.as_slice.ensures.value) ∙ sym c.if-is_replaced.ensures in
    let joins = at_ok c.put_all-put.result c.if-is_err.ensures.value c.put_all-put.ensures.joined in (
      in_use_put parts.readings.read parts.book c.put_all-put.new.self c.args.tenant.now held c.args.items.items
          c.self.invariant.0 c.held.ensures.items c.held.ensures.rising none joins,
      c.self.invariant.1,
    )
