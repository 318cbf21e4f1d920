use Rattle.std.proofs.Common.{◌≡◌, ◌∙◌, ap, length, sym, arith}
use Rattle.am_inhibit.proofs.PlaceLemmas.{view_long}
use Rattle.am_inhibit.proofs.inhibited.Inhibited.len.Goals as goal

pub returns : goal.returns
returns c =
    let links = c.self.inside.links.items in
    omega (arith, c.len.ensures, c.self.inside.links.ok.0, ap length c.self.view_is, view_long c.self.inside.firing links)
