use Rattle.std.proofs.Common.{◌≡◌, map, drop, length, ◌++◌, codes, IfSome, option_map}
use Rattle.std.specs.Option.{option_to_list}
use Rattle.httparse.specs.Spans.{header_bytes, span_bytes, IsWithin}
use Rattle.am_http.specs.Fields.{values_of, tenant_in, tenant_of}
use Rattle.am_http.proofs.fields.tenant.Given as goal

-- the fields left, after the value found, name the tenant of all
abbrev pub invariant-loop-field : goal.invariant-loop-field
invariant-loop-field l = record {
  same : tenant_in (option_to_list (option_map (span_bytes l.head) l.found) ++ values_of (codes "X-Scope-OrgID") (map (header_bytes l.head) (drop l.field-index l.fields))) ≡ tenant_of (map (header_bytes l.head) l.fields);
  within : IfSome l.found (IsWithin (length l.head));
}
