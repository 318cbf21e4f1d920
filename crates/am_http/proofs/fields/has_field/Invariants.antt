use Rattle.std.proofs.Common.{◌≡◌, map, drop}
use Rattle.httparse.specs.Spans.{header_bytes}
use Rattle.am_http.specs.Fields.{has_field}
use Rattle.am_http.proofs.fields.has_field.Given as goal

abbrev pub invariant-loop-field : goal.invariant-loop-field
invariant-loop-field l = has_field l.name (map (header_bytes l.head) (drop l.field-index l.fields)) ≡ has_field l.name (map (header_bytes l.head) l.fields)
