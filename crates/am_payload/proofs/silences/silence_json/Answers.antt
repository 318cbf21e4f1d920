use Rattle.std.proofs.Common.{◌++◌, ap, ◌∙◌}
use Rattle.am_json.specs.Written.{data_tokens}
use Rattle.am_silence.specs.Held.{held_silence}
use Rattle.am_payload.specs.Silences.{silence_data}
use Rattle.am_payload.proofs.silences.silence_json.Goals as goal

pub returns : goal.returns
returns c =
    let written = silence_data c.args.moment (held_silence c.args.silence.now) in
    c.finish.ensures written (c.in_ok-put_silence.ensures ∙ ap (λ tokens. tokens ++ data_tokens written) c.new-text.ensures)
