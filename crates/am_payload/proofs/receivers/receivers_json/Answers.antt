use Rattle.std.proofs.Common.{◌++◌, ap, ◌∙◌}
use Rattle.am_json.specs.Written.{data_tokens}
use Rattle.am_payload.specs.Receivers.{names_of}
use Rattle.am_payload.specs.Written.{receivers_data, receivers_text}
use Rattle.am_payload.proofs.receivers.receivers_json.Goals as goal

pub returns : goal.returns
unfolding receivers_text
returns c =
    let written = receivers_data (names_of c.args.config.now) in
    c.finish.ensures written (c.in_ok-put_receivers.ensures ∙ ap (λ tokens. tokens ++ data_tokens written) c.new-text.ensures)
