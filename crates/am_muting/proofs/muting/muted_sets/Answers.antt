use Rattle.std.proofs.Common.{Bool, List, filter, map, Bor, ap, sym, subst, ◌∙◌}
use Rattle.std.specs.List.Sorted.{IsStrictlySortedBy}
use Rattle.std.proofs.lemmas.List.Kept.{IsStrictlySortedBy-filter}
use Rattle.am_labels.specs.declared.Label.{Label}
use Rattle.am_labels.specs.Labels.{labels_cmp}
use Rattle.am_muting.specs.Muting.{is_muted, muted_sets, muting_of}
use Rattle.am_muting.proofs.Chosen.{chosen_are, none_rise}
use Rattle.am_muting.proofs.Places.{quiet_sets}
use Rattle.am_muting.proofs.muting.muted_sets.Goals as goal

pub as_sets-requires : goal.as_sets-requires
as_sets-requires c = subst (λ (sets : List (List Label)). IsStrictlySortedBy labels_cmp sets) (sym c.new.ensures.items) none_rise

pub returns-then-is_quiet-clause-muted : goal.returns-then-is_quiet-clause-muted
returns-then-is_quiet-clause-muted c =
    c.as_sets.ensures ∙ c.new.ensures.items
    ∙ sym (quiet_sets c.args.config.now c.args.moment c.args.held.now (sym c.is_quiet.ensures ∙ c.if-is_quiet.true))

pub as_sets-requires-2 : goal.as_sets-requires-2
as_sets-requires-2 c =
    let p : List Label → Bool = λ labels. is_muted (muting_of c.args.config.now c.args.moment c.args.held.now labels) in
    let sets = map (λ (alert : Bor (List Label)). alert.now) c.in_ok-alerts.alerts.items in
    let are = chosen_are c.args.config.now c.args.moment c.args.held.now c.in_ok-mutes.mutes c.in_ok-alerts.alerts.items c.in_ok-muted.muted.items
    (rw c.deref.ensures.value at c.in_ok-mutes.ensures.muting) (rw c.deref-2.ensures.value at c.in_ok-muted.ensures) in
    subst (λ (muted : List (List Label)). IsStrictlySortedBy labels_cmp muted) (sym are) (IsStrictlySortedBy-filter labels_cmp p sets c.in_ok-alerts.ensures.rising)

pub returns-clause-muted : goal.returns-clause-muted
unfolding muted_sets
returns-clause-muted c =
    c.as_sets-2.ensures
    ∙ chosen_are c.args.config.now c.args.moment c.args.held.now c.in_ok-mutes.mutes c.in_ok-alerts.alerts.items c.in_ok-muted.muted.items
    (rw c.deref.ensures.value at c.in_ok-mutes.ensures.muting) (rw c.deref-2.ensures.value at c.in_ok-muted.ensures)
    ∙ ap (filter (λ labels. is_muted (muting_of c.args.config.now c.args.moment c.args.held.now labels))) c.in_ok-alerts.ensures.sets
