use Rattle.std.proofs.Common.{ap, refl, sym, ◌∙◌}
use Rattle.std.specs.Option.{option_copied, option_map}
use Rattle.am_item.specs.Held.{configuration_item}
use Rattle.am_item.specs.Shared.{thing_in}
use Rattle.am_current.proofs.Stays.{has_its_key, has_other_key, no_configuration}
use Rattle.am_current.proofs.replacing.replaces.Goals as goal

pub returns-in-Configuration-Some : goal.returns-in-Configuration-Some
returns-in-Configuration-Some c =
    let at = c.in-Configuration-Some in
    rw (at.is-1, has_its_key c.args.item.now at.field-0-0.now (sym c.part.ensures ∙ ap thing_in at.is-0)) (rw c.stamp.ensures at c.exceeds.ensures)

pub returns-in-Configuration-None : goal.returns-in-Configuration-None
returns-in-Configuration-None c =
    let at = c.in-Configuration-None in
    rw (at.is-1, has_its_key c.args.item.now at.field-0-0.now (sym c.part.ensures ∙ ap thing_in at.is-0)) refl

pub returns-in_default : goal.returns-in_default
returns-in_default c =
    has_other_key (option_map configuration_item (option_copied c.args.configuration)) c.args.item.now
    (λ text is. no_configuration c.part.result c.in_default.not-Configuration-0 text (c.part.ensures ∙ is))
