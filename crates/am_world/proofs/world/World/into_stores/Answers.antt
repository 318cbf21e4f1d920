use Rattle.std.proofs.Common.{◌∙◌, sym}
use Rattle.std.proofs.lemmas.List.{length-map}
use Rattle.am_instance.specs.Shelves.{shelf_of}
use Rattle.am_world.proofs.world.World.into_stores.Goals as goal

pub returns-clause-size : goal.returns-clause-size
returns-clause-size g c = sym (length-map c.self.inside.stores.items (shelf_of g.R.Rows)) ∙ c.self.invariant.1.size
