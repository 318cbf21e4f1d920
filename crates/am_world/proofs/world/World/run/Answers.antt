use Rattle.std.proofs.Common.{◌≡◌, ◌++◌, arith, drop, length, take}
use Rattle.std.proofs.lemmas.Grind.{common_steps}
use Rattle.am_world.proofs.world.World.run.Goals as goal

pub returns-clause-headline : goal.returns-clause-headline
returns-clause-headline g c =
    let stores = c.self.inside.stores in
    let size = stores.ok.0 in
    let kept = c.run.auto.stores in
    let value = c.deref_mut.ensures.value in
    let written : take stores.len (c.run.new.stores ++ drop (length c.run.new.stores) stores.items)
    ≡ c.run.new.stores = grind (arith, common_steps) in
    rw (← c.self.view_is) (rw written (rw value at c.run.ensures.headline))
