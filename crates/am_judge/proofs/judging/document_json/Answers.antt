use Rattle.std.proofs.Common.{◌++◌, ap, ◌∙◌}
use Rattle.am_json.specs.Written.{data_tokens}
use Rattle.am_judge.specs.Judging.{document_data, document_text}
use Rattle.am_judge.proofs.judging.document_json.Goals as goal

pub returns : goal.returns
unfolding document_text
returns c =
    let written = document_data c.args.text.now in
    c.finish.ensures written
    (c.in_ok-put_document.ensures ∙ ap (λ tokens. tokens ++ data_tokens written) c.new-writer.ensures)
