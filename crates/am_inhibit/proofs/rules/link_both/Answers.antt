use Rattle.std.proofs.Common.{◌∙◌, ◌&&◌, Bool, Bor, List, ap, false, get_or, map, not, sym, arith}
use Rattle.std.proofs.lemmas.List.{length-map}
use Rattle.am_labels.specs.declared.Label.{Label}
use Rattle.am_labels.specs.declared.label_set.LabelSet.{LabelSet}
use Rattle.am_inhibit.specs.Links.{lists_of}
use Rattle.am_inhibit.proofs.RuleLemmas.{below_first, below_second}
use Rattle.am_inhibit.proofs.WaitingLemmas.{both_linked}
use Rattle.am_inhibit.proofs.rules.link_both.Goals as goal

pub returns-clause-linked : goal.returns-clause-linked
returns-clause-linked c =
    let view : Bor LabelSet → List Label = λ set. set.now in
    let long = length-map c.args.sets.now view in
    both_linked c.args.names.now (map view c.args.sets.now) c.args.sources.now c.args.targets.now c.args.fires.now c.in_ok-firing.firing.items
    c.in_ok-source_alone.source_alone.items c.in_ok-both_sides.both_sides.items (lists_of c.args.links.now.items) (lists_of c.link.new.links.items)
    (λ k below. c.in_ok-firing.ensures.flags k (omega (arith, below, long, c.requires.sources)))
    (λ k below. rw c.deref.ensures.value at c.in_ok-source_alone.ensures.flags k (omega (arith, below, long, c.requires.sources, c.in_ok-firing.ensures.each)))
    (λ k below. c.in_ok-both_sides.ensures.flags k (omega (arith, below, long, c.requires.targets)))
    (rw (c.deref-2.ensures.value, c.deref-3.ensures.value) at c.in_ok-link.ensures.linked)

pub returns-clause-places : goal.returns-clause-places
returns-clause-places c = λ count sound fine.
    let sound_firing = below_second c.in_ok-firing.firing.items _ c.args.fires.now count c.in_ok-firing.ensures.each c.in_ok-firing.ensures.flags sound in
    c.in_ok-link.ensures.places count
    (λ place on.
    below_first c.in_ok-source_alone.source_alone.items c.deref.result.now (λ k. not (get_or c.args.targets.now k false)) count
    c.in_ok-source_alone.ensures.each c.in_ok-source_alone.ensures.flags
    (λ other set. sound_firing other (ap (λ (flags : List Bool). get_or flags other false) (sym c.deref.ensures.value) ∙ set))
    place (ap (λ (flags : List Bool). get_or flags place false) (sym c.deref-2.ensures.value) ∙ on)) fine
