use Rattle.std.proofs.Common.{◌++◌, ap₂, ◌∙◌}
use Rattle.json.specs.Print.{print}
use Rattle.serde_json.proofs.Texts.{print-outline}
use Rattle.am_json.proofs.writer.JsonWriter.finish.Goals as goal

pub returns : goal.returns
returns c = λ d is.
    c.from_vec.ensures ∙ c.into_inner.ensures.items
    ∙ ap₂ (λ before tokens. before ++ print tokens) c.self.invariant (c.self.view_is ∙ is) ∙ print-outline d
