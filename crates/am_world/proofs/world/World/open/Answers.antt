use Rattle.std.proofs.Common.{◌≡◌, ◌++◌, arith, drop, length, take}
use Rattle.std.proofs.lemmas.Grind.{common_steps}
use Rattle.am_world.proofs.world.World.open.Goals as goal

pub returns-clause-opens : goal.returns-clause-opens
returns-clause-opens g c =
    let kept = c.open.auto.stores in
    let value = c.deref_mut.ensures.value in
    let written : take c.args.stores.len (c.open.new.stores ++ drop (length c.open.new.stores) c.args.stores.items)
    ≡ c.open.new.stores = grind (arith, common_steps) in
    rw written (rw value at c.in_ok-state.ensures.opens)

pub returns-clause-clean : goal.returns-clause-clean
returns-clause-clean g c =
    let kept = c.open.auto.stores in
    let value = c.deref_mut.ensures.value in
    let written : take c.args.stores.len (c.open.new.stores ++ drop (length c.open.new.stores) c.args.stores.items)
    ≡ c.open.new.stores = grind (arith, common_steps) in
    rw written (rw value at c.open.ensures.clean)

pub returns-clause-left : goal.returns-clause-left
returns-clause-left g c =
    let kept = c.open.auto.stores in
    let value = c.deref_mut.ensures.value in
    let written : take c.args.stores.len (c.open.new.stores ++ drop (length c.open.new.stores) c.args.stores.items)
    ≡ c.open.new.stores = grind (arith, common_steps) in
    rw written (rw value at c.open.ensures.left)
