use Rattle.std.proofs.Common.{rules, ◌≡◌, ◌==◌, ◌<◌, ℕ, Bool, true, false, List, [], length, sym, ap, ◌∙◌, arith}
use Rattle.std.proofs.lemmas.Bool.Decides.{nat_tests}
use Rattle.std.proofs.lemmas.List.{nil_from_length}
use Rattle.std.proofs.lemmas.Result.{IfErr-weaker}
use Rattle.am_labels.specs.declared.Label.{Label}
use Rattle.am_muting.proofs.Failures.{unanswered_by}
use Rattle.am_planning.specs.Planning.{planned_alerts}
use Rattle.am_route.specs.Asked.{route_matchers}
use Rattle.am_notifier.proofs.Reasons.{with_reason}
use Rattle.am_notifier.proofs.following.plan_known.Goals as goal

some : (xs : List (List Label × ℕ)) (n : ℕ) (b : Bool) → n ≡ length xs → b ≡ (n == 0) → b ≡ false → 0 < length xs
some xs n b long is filled = grind (arith, nat_tests)

pub returns-clause-failure : goal.returns-clause-failure
returns-clause-failure c =
    IfErr-weaker c.plan_alerts.result _ _
    (λ failure is. with_reason _ _ failure (some c.args.alerts.items _ c.is_empty.result c.args.alerts.ok.0 c.is_empty.ensures c.if-is_empty.false)
    (unanswered_by (route_matchers c.args.config.now.routes) _ _ _ _ (λ text there. there) is))
    c.plan_alerts.ensures.failure

none : (xs : List (List Label × ℕ)) (n : ℕ) (b : Bool) → n ≡ length xs → b ≡ (n == 0) → b ≡ true → xs ≡ []
none xs n b long is empty =
    let zero : n ≡ 0 = grind (arith, nat_tests) in
    nil_from_length xs (sym long ∙ zero)

pub returns-then-is_empty-clause-planned : goal.returns-then-is_empty-clause-planned
unfolding planned_alerts
returns-then-is_empty-clause-planned c =
    let empty : c.new.result.items ≡ [] = search rules in
    empty ∙ ap (planned_alerts c.args.config.now) (sym (none c.args.alerts.items _ c.is_empty.result c.args.alerts.ok.0 c.is_empty.ensures c.if-is_empty.true))
