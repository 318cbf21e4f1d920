use Rattle.std.proofs.Common.{◌∙◌, ℕ, [], List, Bor, ap, get_or, map}
use Rattle.std.proofs.lemmas.List.{take_all}
use Rattle.am_labels.specs.declared.Label.{Label}
use Rattle.am_labels.specs.declared.label_set.LabelSet.{LabelSet}
use Rattle.am_inhibit.proofs.InhibitorLemmas.{inhibitors_at}
use Rattle.am_inhibit.proofs.inhibiting.sets_at.Goals as goal

pub returns-clause-inhibitors : goal.returns-clause-inhibitors
returns-clause-inhibitors c = λ rules target same.
    let sets = map (λ (set : Bor LabelSet). set.now) c.args.sets.now in
    let there : ℕ → List Label = λ place. get_or sets place [] in
    c.loop-place.invariant
    ∙ ap (map there) (take_all c.loop-place.place-index c.args.places.now c.loop-place-test.false)
    ∙ ap (map there) same
    ∙ inhibitors_at rules sets target
