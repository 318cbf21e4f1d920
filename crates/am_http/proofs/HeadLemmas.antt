-- A parse of a whole text tells which head it is.
use Rattle.std.proofs.Common.{◌≡◌, ℕ, ◌≤◌, List, [], length, drop, take, map, sym, ap, subst, ◌∙◌, arith, append-nil, All, Some}
use Rattle.std.proofs.lemmas.List.{drop_all, length-map, length-take}
use Rattle.httparse.specs.declared.spans.HeaderSpan.{HeaderSpan}
use Rattle.httparse.specs.declared.spans.RequestSpans.{RequestSpans}
use Rattle.httparse.specs.Grammar.{RequestHead, ReadsRequest, print_request}
use Rattle.httparse.specs.Spans.{IsWithin, IsHeaderWithin, header_bytes, name_and_value, IsRequestWithin, IsRequestAt, AreFieldsAt}
use Rattle.am_http.specs.Plans.{IsHeadAt}
use Rattle.am_http.proofs.ReadingLemmas.{read_head-same}

-- as many fields as spans were written
few_fields : (text : List ℕ) (headers : List HeaderSpan) (count : ℕ) (h : RequestHead)
    → AreFieldsAt text headers count h.fields → length headers ≡ 64 → length h.fields ≤ 64
few_fields text headers count h are room =
    let same : length (map (header_bytes text) (take count headers)) ≡ length (map name_and_value h.fields) = ap length are in
    let left = length-map (take count headers) (header_bytes text) in
    let right = length-map h.fields name_and_value in
    let taken = length-take count headers in
    omega arith

-- spans that reach to the end of the text are those of the head that it is
pub whole_head : (text : List ℕ) (headers : List HeaderSpan) (spans : RequestSpans) (h : RequestHead)
    → IsRequestWithin text headers spans → IsRequestAt text headers spans h → spans.len ≡ length text → length headers ≡ 64
    → IsHeadAt text headers spans h
whole_head text headers spans h within at end room =
    let rest : drop spans.len text ≡ [] = drop_all spans.len text (omega arith) in
    let reads : ReadsRequest text h [] = subst (λ (r : List ℕ). ReadsRequest text h r) rest at.reads in
    record {
      read = read_head-same text (Some h) (reads, few_fields text headers spans.headers h at.fields room);
      method_within = subst (λ (n : ℕ). IsWithin n spans.method) end within.method;
      path_within = subst (λ (n : ℕ). IsWithin n spans.path) end within.path;
      count = within.section.count_fits;
      fields_within = subst (λ (n : ℕ). All (IsHeaderWithin n) (take spans.headers headers)) end within.section.headers_fit;
      method = at.method;
      path = at.path;
      fields = at.fields;
      target_text = reads.0.target_text;
    }

-- spans of a beginning of the text are no head that it is
pub not_whole : (text : List ℕ) (headers : List HeaderSpan) (spans : RequestSpans) (h : RequestHead)
    → IsRequestAt text headers spans h → ReadsRequest text h [] → spans.len ≡ length text
not_whole text headers spans h at reads = at.len ∙ ap length (sym (append-nil (print_request h)) ∙ sym reads.1)
