use Rattle.std.proofs.Common.{◌≡◌, ◌∙◌, ◌<◌, ◌++◌, ◌∷◌, [], Bor, List, ap, append_assoc, arith, get_or, length, map, sym, take}
use Rattle.std.proofs.lemmas.List.{get_or-map, length-map, map-append}
use Rattle.am_match.specs.Matchers.{MatcherText}
use Rattle.am_config.specs.declared.parts.Rule.{Rule}
use Rattle.am_inhibit.specs.Sides.{sides_in}
use Rattle.am_inhibit.proofs.RuleLemmas.{sides_more}
use Rattle.am_inhibit.proofs.rules.sides_of.Goals as goal

pub loop-rule-preserved : goal.loop-rule-preserved
loop-rule-preserved c =
    let now : Bor Rule → Rule = λ r. r.now in
    let list : Bor (List MatcherText) → List MatcherText = λ l. l.now in
    let refs = c.args.rules.now in
    let i = c.loop-rule.rule-index in
    let item = c.rule-item.result in
    let before = c.loop-rule.lists.items in
    let one = c.as_slice.result in
    let other = c.as_slice-in-loop-rule.result in
    let fits : i < length (map now refs) = omega (arith, c.loop-rule-test.true, length-map refs now) in
    let at : now item ≡ get_or (map now refs) i (now item) = sym (get_or-map now refs i item (now item) c.loop-rule-test.true ∙ ap now (sym c.rule-item.is)) in
    ap (map list) (c.in_ok-push-2.ensures.items ∙ ap (λ xs. xs ++ other ∷ []) c.in_ok-push.ensures.items)
    ∙ map-append list (before ++ one ∷ []) (other ∷ [])
    ∙ ap (λ xs. xs ++ list other ∷ []) (map-append list before (one ∷ []))
    ∙ append_assoc (map list before) (list one ∷ []) (list other ∷ [])
    ∙ ap (λ xs. xs ++ list one ∷ list other ∷ []) c.loop-rule.invariant
    ∙ ap (λ l. sides_in (take i (map now refs)) ++ l ∷ list other ∷ []) c.as_slice.ensures
    ∙ ap (λ l. sides_in (take i (map now refs)) ++ (now item).source ∷ l ∷ []) c.as_slice-in-loop-rule.ensures
    ∙ sym (sides_more (map now refs) i (now item) fits at)
