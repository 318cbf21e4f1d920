use Rattle.std.proofs.Common.{◌≡◌, IsOk, ap, rules, sym, ◌∙◌}
use Rattle.sqlite.specs.declared.types.Value.TheVariants.{Text as Words}
use Rattle.sqlite.specs.Order.{column}
use Rattle.sqlite_value.specs.Value.{owned}
use Rattle.uuid.specs.Text.{parsed}
use Rattle.am_store.specs.Rows.{id_text}
use Rattle.am_store.proofs.Calls.{if_ok}
use Rattle.am_store.proofs.Readings.{read_ok}
use Rattle.am_store.proofs.Given.{ref_given, within}
use Rattle.am_store.proofs.reading.id_in.Goals as goal

pub returns-in_err-bytes-clause-given : goal.returns-in_err-bytes-clause-given
returns-in_err-bytes-clause-given c id is back =
    let row = c.args.row.now in
    let given = c.in_err-bytes.ensures.given (ref_given row 2 c.get_ref.result c.get_ref.ensures.err (within row 2 (Words (id_text id)) (λ e. cc) is)) in
    search rules

pub returns-in_default-try_parse_ascii-clause-given : goal.returns-in_default-try_parse_ascii-clause-given
returns-in_default-try_parse_ascii-clause-given c id is back =
    let row = c.args.row.now in
    let read = read_ok (λ v. owned v ≡ column row 2) c.get_ref.result c.or_foreign.result c.in_ok-bytes.field-0 c.or_foreign.ensures.value c.in_ok-bytes.was (if_ok _ (λ v. owned v ≡ column row 2) c.get_ref.result (λ v h. h.1) c.get_ref.ensures.ok) in
    let shown : Words c.in-Text.bytes.now ≡ column row 2 = rw c.in-Text.is at read in
    let same : c.in-Text.bytes.now ≡ id_text id = (let both = shown ∙ is in cc) in
    let good : IsOk c.try_parse_ascii.result = c.try_parse_ascii.ensures.ok.1 (id, ap parsed same ∙ back) in
    absurd (let clash = rw c.in_default-try_parse_ascii.is at good in cc)

pub returns-else-is_text_of-clause-given : goal.returns-else-is_text_of-clause-given
returns-else-is_text_of-clause-given c id is back =
    let row = c.args.row.now in
    let read = read_ok (λ v. owned v ≡ column row 2) c.get_ref.result c.or_foreign.result c.in_ok-bytes.field-0 c.or_foreign.ensures.value c.in_ok-bytes.was (if_ok _ (λ v. owned v ≡ column row 2) c.get_ref.result (λ v h. h.1) c.get_ref.ensures.ok) in
    let shown : Words c.in-Text.bytes.now ≡ column row 2 = rw c.in-Text.is at read in
    let same : c.in-Text.bytes.now ≡ id_text id = (let both = shown ∙ is in cc) in
    let one : c.in-Ok.uuid ≡ id = (let both = c.in-Ok.ensures.bytes ∙ ap parsed same ∙ back in cc) in
    let text = same ∙ ap id_text (sym (c.from_bytes-id.ensures ∙ c.into_bytes.ensures ∙ one)) in
    absurd (let clash = sym c.if-is_text_of.false ∙ c.is_text_of.ensures.text.1 text in cc)
