use Rattle.std.proofs.Common.{◌∙◌, sym, ap, subst, nat_cmp}
use Rattle.std.specs.Cmp.Lexicographic.{slice_cmp, texts_ties}
use Rattle.std.specs.List.{list_any}
use Rattle.std.specs.List.Sorted.{IsStrictlySortedBy}
use Rattle.std.specs.Str.{bytes_eq}
use Rattle.std.proofs.lemmas.Cmp.{nat_list_cmp_total}
use Rattle.std.proofs.lemmas.List.Filters.{dedup_is}
use Rattle.std.proofs.lemmas.List.Kept.{IsStrictlySortedBy-dedup}
use Rattle.std.proofs.lemmas.List.Sorted.{list_any-IsPermutation}
use Rattle.am_tenant.specs.Names.{same}
use Rattle.am_store.proofs.Named.{any_dedup}
use Rattle.am_store.proofs.tenants.sort.Goals as goal

pub returns-clause-order : goal.returns-clause-order
returns-clause-order c =
    let is = dedup_is bytes_eq c.sort.new.self.items c.dedup.new.self.items c.dedup.ensures.filtered in
    subst (IsStrictlySortedBy (slice_cmp nat_cmp)) (sym is) (IsStrictlySortedBy-dedup nat_list_cmp_total texts_ties c.sort.new.self.items c.in_ok-sort.ensures.sorted)

pub returns-clause-same : goal.returns-clause-same
returns-clause-same c = λ t.
    let is = dedup_is bytes_eq c.sort.new.self.items c.dedup.new.self.items c.dedup.ensures.filtered in
    ap (list_any (same t)) is ∙ any_dedup t c.sort.new.self.items ∙ sym (list_any-IsPermutation (same t) c.args.names.now.items c.sort.new.self.items c.sort.ensures.permutation)
