use Rattle.std.proofs.Common.{◌≡◌, ◌∙◌, Bor, Global, List, Vec, ap, map, subst, sym}
use Rattle.std.specs.List.Sorted.{IsPermutation}
use Rattle.std.proofs.lemmas.List.{take_all}
use Rattle.std.proofs.lemmas.List.Sorted.{IsPermutation-map}
use Rattle.std.proofs.lemmas.Result.{IfOk-weaker}
use Rattle.am_config.specs.declared.parts.Rule.{Rule}
use Rattle.am_inhibit.specs.Inhibits.{AreWithoutRepeats}
use Rattle.am_inhibit.proofs.DifferentLemmas.{different_order}
use Rattle.am_inhibit.proofs.different.different_rules.Goals as goal

pub returns : goal.returns
returns c =
    let now : Bor Rule → Rule = λ r. r.now in
    let before = c.loop-rule.sorted.items in
    let after = c.deref.result.now in
    let all : map now before ≡ c.args.rules.now = c.loop-rule.invariant ∙ take_all c.loop-rule.rule-index c.args.rules.now c.loop-rule-test.false in
    let same : IsPermutation c.args.rules.now (map now after) =
    subst (λ (rules : List Rule). IsPermutation rules (map now after)) all
    (IsPermutation-map now before after (subst (IsPermutation before) (sym c.deref.ensures.value) c.sort_by.ensures.permutation)) in
    IfOk-weaker c.without_repeats.result (λ (v : Vec (Bor Rule) Global). AreWithoutRepeats (map now after) (map now v.items))
    (λ (v : Vec (Bor Rule) Global). AreWithoutRepeats c.args.rules.now (map now v.items))
    (λ v are. different_order c.args.rules.now (map now after) (map now v.items) same are) c.without_repeats.ensures
