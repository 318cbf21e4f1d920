use Rattle.std.proofs.Common.{◌≡◌, ◌≤◌, pos, length, ap, refl, rules, ◌∙◌}
use Rattle.sqlite.specs.declared.types.Value.TheVariants.{Blob, Int}
use Rattle.sqlite.specs.Order.{column}
use Rattle.am_text.specs.Moment.{greatest_moment}
use Rattle.am_store.specs.Reading.{HasStamp}
use Rattle.am_store.specs.Rows.{IsSilence}
use Rattle.am_store.specs.Stored.{SilenceText}
use Rattle.am_store.proofs.Calls.{if_ok}
use Rattle.am_store.proofs.Readings.{both, read_ok, silence_reads, silence_row, silence_stamped}
use Rattle.am_store.proofs.reading.read_silence.Goals as goal

pub returns-clause-reads : goal.returns-clause-reads
returns-clause-reads c =
    let row = c.args.row.now in
    let long : length row ≡ 13 = search rules in
    let first = read_ok (λ n. column row 0 ≡ Int n) c.get.result c.or_foreign.result c.in_ok-_rowid._rowid c.or_foreign.ensures.value c.in_ok-_rowid.was (if_ok _ (λ n. column row 0 ≡ Int n) c.get.result (λ n h. h.1) c.get.ensures.ok) in
    let stamp = read_ok (HasStamp row 9) c.stamp_of.result c.or_foreign-2.result c.in_ok-stamp.stamp c.or_foreign-2.ensures.value c.in_ok-stamp.was c.stamp_of.ensures.stamp in
    let starts = read_ok (λ m. (column row 3 ≡ Int (pos m)) × (m ≤ greatest_moment)) c.moment_of.result c.or_foreign-3.result c.in_ok-or_foreign.field-0 c.or_foreign-3.ensures.value c.in_ok-or_foreign.was (both _ _ c.moment_of.result c.moment_of.ensures.value c.moment_of.ensures.bound) in
    let ends = read_ok (λ m. (column row 4 ≡ Int (pos m)) × (m ≤ greatest_moment)) c.moment_of-2.result c.or_foreign-4.result c.in_ok-or_foreign-2.field-0 c.or_foreign-4.ensures.value c.in_ok-or_foreign-2.was (both _ _ c.moment_of-2.result c.moment_of-2.ensures.value c.moment_of-2.ensures.bound) in
    let kept = read_ok (λ m. (column row 5 ≡ Int (pos m)) × (m ≤ greatest_moment)) c.moment_of-3.result c.or_foreign-5.result c.in_ok-or_foreign-3.field-0 c.or_foreign-5.ensures.value c.in_ok-or_foreign-3.was (both _ _ c.moment_of-3.result c.moment_of-3.ensures.value c.moment_of-3.ensures.bound) in
    let matchers = rw (← c.from_vec.ensures) at c.in_ok-matchers_in.ensures.spelled in
    let s : SilenceText = record {
      id = c.in_ok-id_in.field-0;
      starts_at = c.in_ok-or_foreign.field-0;
      ends_at = c.in_ok-or_foreign-2.field-0;
      kept_until = c.in_ok-or_foreign-3.field-0;
      created_by = c.in_ok-text_in.field-0;
      comment = c.in_ok-text_in-2.field-0;
      matchers = c.from_vec.result;
    } in
    let valid : IsSilence s = record {
      id = c.in_ok-id_in.ensures.back;
      starts_at = starts.1;
      ends_at = ends.1;
      kept_until = kept.1;
      created_by = c.in_ok-text_in.ensures.utf8;
      comment = c.in_ok-text_in-2.ensures.utf8;
      spellable = matchers.2.spellable;
      matchers = matchers.2.valid;
    } in
    silence_reads row c.in_ok-tenant.tenant _
    (silence_row row c.in_ok-_rowid._rowid c.in_ok-tenant.tenant c.in_ok-stamp.stamp first c.in_ok-tenant.ensures.text c.in_ok-tenant.ensures.name s long c.in_ok-id_in.ensures.text
    starts.0 ends.0 kept.0 c.in_ok-text_in.ensures.text c.in_ok-text_in-2.ensures.text (matchers.1 ∙ ap Blob matchers.2.bytes_are) stamp valid)
    refl refl

pub returns-in_err-stamp-clause-given : goal.returns-in_err-stamp-clause-given
returns-in_err-stamp-clause-given c is =
    let given = c.in_err-stamp.ensures.given (c.stamp_of.ensures.given is.stamp (silence_stamped c.args.row.now is)) in
    search rules
