use Rattle.std.proofs.Common.{◌++◌, ap, ◌∙◌, map}
use Rattle.am_json.specs.Written.{data_tokens}
use Rattle.am_silence.specs.Held.{held_silence}
use Rattle.am_payload.specs.Silences.{silences_data}
use Rattle.am_payload.proofs.silences.silences_json.Goals as goal

pub returns : goal.returns
returns c =
    let written = silences_data c.args.moment (map held_silence c.args.silences.now) in
    c.finish.ensures written (c.in_ok-put_silences.ensures ∙ ap (λ tokens. tokens ++ data_tokens written) c.new-text.ensures)
