use Rattle.std.proofs.Common.{rules, ◌≡◌, ◌∙◌, true, sym}
use Rattle.std.proofs.lemmas.Result.{IfOk-weaker}
use Rattle.am_pattern.specs.Taking.{IsPattern, is_shallow}
use Rattle.am_pattern.proofs.ReadLemmas.{pattern-shallow}
use Rattle.am_pattern.proofs.reading.is_shallow_pattern.Goals as goal

pub returns-clause-shallow : goal.returns-clause-shallow
returns-clause-shallow c = search rules

pub returns-clause-pattern : goal.returns-clause-pattern
returns-clause-pattern c =
    IfOk-weaker c.is_parsed-2.result (λ shallow. shallow ≡ is_shallow c.args.text.now) (λ shallow. shallow ≡ true → IsPattern c.args.text.now)
    (λ shallow is holds. pattern-shallow c.args.text.now (sym is ∙ holds)) (returns-clause-shallow c)
