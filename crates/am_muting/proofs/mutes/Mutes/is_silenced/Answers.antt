use Rattle.std.proofs.Common.{◌∙◌, ap, sym}
use Rattle.am_muting.specs.Muting.{is_silenced}
use Rattle.am_muting.proofs.Places.{muting_here, within_silences}
use Rattle.am_muting.proofs.mutes.Mutes.is_silenced.Goals as goal

pub is_silenced-requires : goal.is_silenced-requires
is_silenced-requires c = within_silences _ _ _ _ _ _ c.args.place c.self.view_is c.self.invariant c.requires

pub returns : goal.returns
returns c =
    c.is_silenced.ensures
    ∙ sym (ap is_silenced (muting_here _ _ _ _ _ _ c.args.place c.self.view_is c.self.invariant))
