use Rattle.std.proofs.Common.{◌++◌, ap, ◌∙◌}
use Rattle.am_json.specs.Written.{data_tokens}
use Rattle.am_payload.specs.Silences.{posted_data, posted_text}
use Rattle.am_payload.proofs.silences.posted_json.Goals as goal

pub returns : goal.returns
unfolding posted_text
returns c =
    let written = posted_data c.args.id.now in
    c.finish.ensures written (c.in_ok-put_posted.ensures ∙ ap (λ tokens. tokens ++ data_tokens written) c.new-text.ensures)
