use Rattle.std.proofs.Common.{◌≡◌, [], append-nil, ap, length, refl, rules, sym, ◌∙◌}
use Rattle.sqlite.specs.declared.types.Value.TheVariants.{Blob}
use Rattle.sqlite.specs.Order.{column}
use Rattle.sqlite_value.specs.Value.{owned}
use Rattle.am_match.specs.Spelling.{Spells, spelling}
use Rattle.am_store.proofs.Calls.{if_ok}
use Rattle.am_store.proofs.Readings.{read_ok}
use Rattle.am_store.proofs.reading.matchers_in.Goals as goal

pub returns-else-taken-bytes-clause-given : goal.returns-else-taken-bytes-clause-given
returns-else-taken-bytes-clause-given c ms is spellable valid =
    let row = c.args.row.now in
    let read = read_ok (λ v. owned v ≡ column row 8) c.get_ref.result c.or_foreign.result c.in_ok-bytes.field-0 c.or_foreign.ensures.value c.in_ok-bytes.was (if_ok _ (λ v. owned v ≡ column row 8) c.get_ref.result (λ v h. h.1) c.get_ref.ensures.ok) in
    let shown : Blob c.in-Blob.bytes.now ≡ column row 8 = rw c.in-Blob.is at read in
    let same : c.in-Blob.bytes.now ≡ spelling ms = (let both = shown ∙ is in cc) in
    let spells : Spells (spelling ms) ms = record { bytes_are = refl; spellable = spellable; valid = valid } in
    let back = c.in-Ok.ensures.written ms (spelling ms) [] spells (same ∙ sym (append-nil (spelling ms))) in
    let all : c.in-Ok.taken ≡ length c.in-Blob.bytes.now = back.1 ∙ ap length (sym same) in
    search rules

pub returns-in-Err-Refused-clause-given : goal.returns-in-Err-Refused-clause-given
returns-in-Err-Refused-clause-given c ms is spellable valid =
    let row = c.args.row.now in
    let read = read_ok (λ v. owned v ≡ column row 8) c.get_ref.result c.or_foreign.result c.in_ok-bytes.field-0 c.or_foreign.ensures.value c.in_ok-bytes.was (if_ok _ (λ v. owned v ≡ column row 8) c.get_ref.result (λ v h. h.1) c.get_ref.ensures.ok) in
    let shown : Blob c.in-Blob.bytes.now ≡ column row 8 = rw c.in-Blob.is at read in
    let same : c.in-Blob.bytes.now ≡ spelling ms = (let both = shown ∙ is in cc) in
    let spells : Spells (spelling ms) ms = record { bytes_are = refl; spellable = spellable; valid = valid } in
    let clash = c.in-Err-Refused.ensures.written ms (spelling ms) [] spells (same ∙ sym (append-nil (spelling ms))) in
    absurd (search rules)
