use Rattle.am_world.proofs.Rostered.{rings_some}
use Rattle.am_world.proofs.state.State.epoch.Goals as goal

pub newest_epoch-requires : goal.newest_epoch-requires
newest_epoch-requires c = rings_some c.args.self.now c.requires
