use Rattle.am_world.proofs.Rostered.{rings_some}
use Rattle.am_world.proofs.state.State.ring.Goals as goal

pub newest-requires : goal.newest-requires
newest-requires c = rings_some c.args.self.now c.requires
