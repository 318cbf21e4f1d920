use Rattle.std.proofs.Common.{◌≡◌, length, rules}
use Rattle.am_world.proofs.Rostered.{newest_read}
use Rattle.am_world.proofs.common.Common.newest.Goals as goal

pub returns : goal.returns
returns c =
    let size : c.len.result ≡ length c.args.self.now.rings.items = search rules in
    newest_read c.args.self.now.rings.items c.index.result.now c.len.result c.requires size c.index.ensures
