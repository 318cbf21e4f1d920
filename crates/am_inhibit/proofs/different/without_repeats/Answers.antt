use Rattle.std.proofs.Common.{◌≡◌, ◌∙◌, ◌++◌, ◌∷◌, ◌+◌, [], Bor, List, ap, map, subst, sym, take}
use Rattle.std.proofs.lemmas.List.{map-append, take_more}
use Rattle.am_config.specs.declared.parts.Rule.{Rule}
use Rattle.am_inhibit.specs.Inhibits.{AreWithoutRepeats}
use Rattle.am_inhibit.proofs.DifferentLemmas.{different_again, different_more}
use Rattle.am_inhibit.proofs.different.without_repeats.Goals.{then-not-repeats_last+in_ok-push, else-not-repeats_last}
use Rattle.am_inhibit.proofs.different.without_repeats.Goals as goal

pub loop-rule-preserved : goal.loop-rule-preserved
loop-rule-preserved c =
    let now : Bor Rule → Rule = λ r. r.now in
    let refs = c.args.rules.now in
    let i = c.loop-rule.rule-index in
    let rule = c.rule-item.result in
    let more : map now (take i refs) ++ now rule ∷ [] ≡ map now (take (i + 1) refs) =
    sym (ap (map now) (take_more refs i rule c.loop-rule-test.true ∙ ap (λ r. take i refs ++ r ∷ []) (sym c.rule-item.is)) ∙ map-append now (take i refs) (rule ∷ [])) in
    subst (λ (rules : List Rule). AreWithoutRepeats rules (map now c.if-not-repeats_last.different.items)) more
    (elim c.if-not-repeats_last.branch [
      | then-not-repeats_last+in_ok-push w ↦
          rw (w.different-is, w.in_ok-push.ensures.items, map-append now c.loop-rule.different.items (rule ∷ []))
          (different_more (map now (take i refs)) (map now c.loop-rule.different.items) (now rule) c.loop-rule.invariant)
      | else-not-repeats_last w ↦
          rw w.different-is
          (different_again (map now (take i refs)) (map now c.loop-rule.different.items) (now rule)
          (rw c.deref.ensures.value at c.repeats_last.ensures w.if-not-repeats_last.false) c.loop-rule.invariant)
    ])
