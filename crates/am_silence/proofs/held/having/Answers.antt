use Rattle.std.proofs.Common.{◌∙◌}
use Rattle.std.proofs.lemmas.List.Elements.{filter_agree}
use Rattle.std.proofs.lemmas.Result.{IfOk-weaker}
use Rattle.am_silence.specs.Held.{SilenceValue}
use Rattle.am_silence.proofs.held.having.Goals as goal

pub returns : goal.returns
returns c =
    IfOk-weaker c.having_each.result _ _ (λ v is. is ∙ filter_agree _ _ (λ (s : SilenceValue). c.in_ok-apart.ensures s.details.matchers) _)
    (rw c.deref.ensures.value at c.having_each.ensures)
