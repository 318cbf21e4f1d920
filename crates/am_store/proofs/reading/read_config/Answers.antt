use Rattle.std.proofs.Common.{◌≡◌, length, refl, rules}
use Rattle.sqlite.specs.declared.types.Value.TheVariants.{Int}
use Rattle.sqlite.specs.Order.{column}
use Rattle.am_store.specs.Reading.{HasStamp}
use Rattle.am_store.proofs.Calls.{if_ok}
use Rattle.am_store.proofs.Readings.{config_reads, config_row, read_ok}
use Rattle.am_store.proofs.reading.read_config.Goals as goal

pub returns-clause-reads : goal.returns-clause-reads
returns-clause-reads c =
    let row = c.args.row.now in
    let long : length row ≡ 7 = search rules in
    let first = read_ok (λ n. column row 0 ≡ Int n) c.get.result c.or_foreign.result c.in_ok-_rowid._rowid c.or_foreign.ensures.value c.in_ok-_rowid.was (if_ok _ (λ n. column row 0 ≡ Int n) c.get.result (λ n h. h.1) c.get.ensures.ok) in
    let stamp = read_ok (HasStamp row 3) c.stamp_of.result c.or_foreign-2.result c.in_ok-stamp.stamp c.or_foreign-2.ensures.value c.in_ok-stamp.was c.stamp_of.ensures.stamp in
    config_reads row c.in_ok-tenant.tenant _
    (config_row row c.in_ok-_rowid._rowid c.in_ok-tenant.tenant c.in_ok-stamp.stamp first c.in_ok-tenant.ensures.text c.in_ok-tenant.ensures.name c.in_ok-body.body long c.in_ok-body.ensures.body c.in_ok-body.ensures.utf8 stamp)
    refl refl
