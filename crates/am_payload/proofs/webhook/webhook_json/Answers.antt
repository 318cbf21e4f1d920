use Rattle.std.proofs.Common.{◌++◌, ap, ◌∙◌}
use Rattle.am_json.specs.Written.{data_tokens}
use Rattle.am_payload.specs.Told.{body_data}
use Rattle.am_payload.proofs.webhook.webhook_json.Goals as goal

pub returns : goal.returns
returns c =
    let written = body_data c.args.body.now in
    c.finish.ensures written (c.in_ok-put_body.ensures ∙ ap (λ tokens. tokens ++ data_tokens written) c.new-text.ensures)
