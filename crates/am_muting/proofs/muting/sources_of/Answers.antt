use Rattle.std.proofs.Common.{◌≡◌, ◌==◌, ◌∙◌, List, ap, false, length, sym}
use Rattle.std.proofs.lemmas.Result.{IfOk-weaker}
use Rattle.am_config.specs.declared.parts.Rule.{Rule}
use Rattle.am_muting.proofs.Places.{sources_are}
use Rattle.am_muting.proofs.muting.sources_of.Goals as goal

pub returns : goal.returns
returns c =
    let some : (length c.args.config.now.rules == 0) ≡ false =
    ap (λ (rules : List Rule). length rules == 0) (sym c.rules.ensures.rules) ∙ sym c.is_empty.ensures ∙ c.if-is_empty.false in
    IfOk-weaker c.label_sets.result _ _
    (λ v is. (rw c.deref.ensures.value at is) ∙ sources_are c.args.config.now c.args.moment c.args.held.now _ (rw c.new-2.ensures at c.in_ok-firing.ensures.firing) some)
    c.label_sets.ensures
