use Rattle.std.proofs.Common.{◌≡◌, map, drop}
use Rattle.httparse.specs.Spans.{header_bytes}
use Rattle.am_http.specs.Fields.{content_length}
use Rattle.am_http.specs.Stating.{stated_view, stated_after, IsStatedAt}
use Rattle.am_http.proofs.fields.content_length.Given as goal

-- the fields left, after the number found, state the length that all state
abbrev pub invariant-loop-field : goal.invariant-loop-field
invariant-loop-field l = record {
  same : stated_after (stated_view l.head l.stated) (map (header_bytes l.head) (drop l.field-index l.fields)) ≡ content_length (map (header_bytes l.head) l.fields);
  number : IsStatedAt l.head l.stated;
}
