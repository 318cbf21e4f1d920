use Rattle.std.proofs.Common.{◌++◌, ap, ◌∙◌}
use Rattle.am_json.specs.Written.{data_tokens}
use Rattle.am_log.specs.Lines.{entry_data}
use Rattle.am_log.proofs.object.object_text.Goals as goal

pub returns : goal.returns
returns c =
    let written = entry_data c.args.moment c.args.entry.now in
    c.finish.ensures written (c.in_ok-put_entry.ensures ∙ ap (λ tokens. tokens ++ data_tokens written) c.new-text.ensures)
