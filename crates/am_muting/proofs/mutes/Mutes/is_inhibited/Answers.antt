use Rattle.std.proofs.Common.{◌==◌, ◌+◌, ◌∙◌, [], ap, get_or, not, sym, arith}
use Rattle.std.proofs.lemmas.List.{length-map}
use Rattle.am_muting.specs.Muting.{is_inhibited}
use Rattle.am_muting.proofs.Places.{muting_here, within_inhibited}
use Rattle.am_muting.proofs.mutes.Mutes.is_inhibited.Goals as goal

pub overflow_add-self-inside : goal.overflow_add-self-inside
overflow_add-self-inside c =
    let below = within_inhibited _ _ _ _ _ _ c.args.place c.self.view_is c.self.invariant c.requires in
    omega (arith, below, c.len-all.ensures)

pub is_inhibited-requires : goal.is_inhibited-requires
is_inhibited-requires c = within_inhibited _ _ _ _ _ _ c.args.place c.self.view_is c.self.invariant c.requires

pub returns : goal.returns
returns c =
    c.is_inhibited.ensures
    ∙ ap (λ n. not (n == 0)) (sym (length-map (get_or c.self.inside.inhibited (c.self.inside.first + c.args.place) []) _))
    ∙ sym (ap is_inhibited (muting_here _ _ _ _ _ _ c.args.place c.self.view_is c.self.invariant))
