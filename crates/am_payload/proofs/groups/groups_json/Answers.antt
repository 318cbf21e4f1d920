use Rattle.std.proofs.Common.{◌++◌, ap, ◌∙◌}
use Rattle.am_json.specs.Written.{data_tokens}
use Rattle.am_payload.specs.Listed.{groups_data}
use Rattle.am_payload.proofs.groups.groups_json.Goals as goal

pub returns : goal.returns
returns c =
    let written = groups_data c.args.config.now c.args.alerts.now c.args.groups.now in
    c.finish.ensures written (c.in_ok-put_groups.ensures ∙ ap (λ tokens. tokens ++ data_tokens written) c.new-text.ensures)
