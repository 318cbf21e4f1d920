use Rattle.std.proofs.Common.{◌∙◌, [], Bor, List, ap, get_or, map, sym, arith}
use Rattle.std.proofs.lemmas.Result.{IfOk-weaker}
use Rattle.am_labels.specs.declared.Label.{Label}
use Rattle.am_muting.specs.Muting.{Muting}
use Rattle.am_muting.proofs.Places.{muting_here, within_inhibited}
use Rattle.am_muting.proofs.mutes.Mutes.inhibited_by.Goals as goal

pub overflow_add-self-inside : goal.overflow_add-self-inside
overflow_add-self-inside c =
    let below = within_inhibited _ _ _ _ _ _ c.args.place c.self.view_is c.self.invariant c.requires in
    omega (arith, below, c.len-all.ensures)

pub places_of-requires : goal.places_of-requires
places_of-requires c = within_inhibited _ _ _ _ _ _ c.args.place c.self.view_is c.self.invariant c.requires

pub returns : goal.returns
returns c =
    let sets = map (λ (set' : Bor (List Label)). set'.now) c.self.inside.firing.items in
    IfOk-weaker c.sets_at.result _ _
    (λ v is.
    (rw (c.deref.ensures.value, c.deref-2.ensures.value) at is)
    ∙ ap (map (λ place. get_or sets place [])) c.in_ok-places.ensures
    ∙ sym (ap (λ (m : Muting). m.inhibited_by) (muting_here _ _ _ _ _ _ c.args.place c.self.view_is c.self.invariant)))
    c.sets_at.ensures.sets
