use Rattle.std.proofs.Common.{map}
use Rattle.httparse.specs.Spans.{header_bytes}
use Rattle.am_http.proofs.StatingLemmas.{stated_nothing}
use Rattle.am_http.proofs.fields.content_length.Goals as goal

pub loop-field-init : goal.loop-field-init
loop-field-init c = record { same = stated_nothing (map (header_bytes c.args.head.now) c.args.fields.now); number = tt }
