use Rattle.std.proofs.Common.{◌∙◌, ap, sym}
use Rattle.std.proofs.lemmas.Result.{IfOk-weaker}
use Rattle.am_muting.specs.Muting.{Muting}
use Rattle.am_muting.proofs.Places.{muting_here, within_silences}
use Rattle.am_muting.proofs.mutes.Mutes.silenced_by.Goals as goal

pub ids_of-requires : goal.ids_of-requires
ids_of-requires c = within_silences _ _ _ _ _ _ c.args.place c.self.view_is c.self.invariant c.requires

pub returns : goal.returns
returns c =
    IfOk-weaker c.ids_of.result _ _
    (λ v is. is ∙ sym (ap (λ (m : Muting). m.silenced_by) (muting_here _ _ _ _ _ _ c.args.place c.self.view_is c.self.invariant)))
    c.ids_of.ensures
