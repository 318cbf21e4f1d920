use Rattle.std.proofs.Common.{◌∙◌, ◌++◌, ◌<◌, ℕ, All, Bool, Bor, List, Vec, Global, ap, false, get_or, length, map, subst, sym}
use Rattle.std.specs.Rc.{rc_slice_items}
use Rattle.std.specs.declared.rc.RcSlice.{RcSlice}
use Rattle.std.proofs.lemmas.List.{length-map}
use Rattle.std.proofs.lemmas.Result.{err_from_is_err_and}
use Rattle.am_labels.specs.declared.label_set.LabelSet.{LabelSet}
use Rattle.am_table.proofs.NarrowLemmas.{memory_alone}
use Rattle.am_inhibit.specs.Inhibits.{rule_matchers}
use Rattle.am_inhibit.specs.Links.{lists_of}
use Rattle.am_inhibit.proofs.InhibitorLemmas.{each_below, each_is, fires_below}
use Rattle.am_inhibit.proofs.RuleLemmas.{rules_had}
use Rattle.am_inhibit.proofs.inhibiting.inhibitors_of_each.Goals as goal

pub returns-in_err-links-clause-meaning : goal.returns-in_err-links-clause-meaning
returns-in_err-links-clause-meaning c rightly =
    let rules = c.args.config.now.rules in
    let p = err_from_is_err_and c.from_residual-in_err-links.result c.from_residual-in_err-links.ensures.1 in
    rw (p.1, p.2)
    (memory_alone (rule_matchers rules) _ _ _ (rw c.rules.ensures.rules at c.in_err-links.ensures.failure)
    (rules_had rules c.rules.ensures.configured.rule_patterns) rightly)

pub new-requires : goal.new-requires
new-requires c =
    c.in_ok-links.ensures.places (length c.args.firing.now)
    (λ place on.
    fires_below (λ (set : Bor LabelSet). set.now) c.args.firing.now c.args.others.now place
    (ap (λ (flags : List Bool). get_or flags place false) (sym (c.deref-2.ensures.value ∙ c.in_ok-fires.ensures)) ∙ on))

pub returns-clause-inhibitors : goal.returns-clause-inhibitors
returns-clause-inhibitors c =
    let rules = c.args.config.now.rules in
    let firing = c.args.firing.now in
    let others = c.args.others.now in
    let each = lists_of c.in_ok-links.links.items in
    let sets = c.deref.ensures.value ∙ c.in_ok-sets.ensures in
    let fires = c.deref-2.ensures.value ∙ c.in_ok-fires.ensures in
    let held : Vec (RcSlice ℕ Global) Global → List (List ℕ) = λ lists. map rc_slice_items lists.items in
    c.new.ensures
    ∙ each_is (λ (set : Bor LabelSet). set.now) firing others rules each
    (length-map c.in_ok-links.links.items held ∙ c.in_ok-links.ensures.links ∙ ap length sets)
    (rw (c.rules.ensures.rules, sets, fires) at c.in_ok-links.ensures.inhibitors)

pub returns-clause-places : goal.returns-clause-places
returns-clause-places c =
    let firing = c.args.firing.now in
    subst (λ (each : List (List ℕ)). All (λ (places : List ℕ). All (λ place. place < length firing) places) each) (sym (returns-clause-inhibitors c))
    (each_below (λ (set : Bor LabelSet). set.now) firing c.args.others.now c.args.config.now.rules (firing ++ c.args.others.now))
