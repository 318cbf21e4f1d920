use Rattle.std.proofs.Common.{◌≡◌, ◌++◌, [], ap, ap₂, ◌∙◌, string_bytes, rules}
use Rattle.json.specs.Print.{print}
use Rattle.serde_json.proofs.Texts.{print-outline}
use Rattle.am_json.specs.Written.{data_tokens, labels_data}
use Rattle.am_payload.proofs.key.labels_text.Goals as goal

pub returns : goal.returns
returns c =
    let written = labels_data c.args.labels.now in
    let before : c.put_labels.new.writer.before ≡ [] = search rules in
    let same : string_bytes c.in-Ok.text ≡ c.into_inner.result.items = search rules in
    same ∙ c.into_inner.ensures.items
    ∙ ap₂ (λ before tokens. before ++ print tokens) before (c.in_ok-put_labels.ensures.tokens ∙ ap (λ tokens. tokens ++ data_tokens written) c.new-writer.ensures.tokens)
    ∙ print-outline written
