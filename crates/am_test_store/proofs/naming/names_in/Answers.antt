use Rattle.std.proofs.Common.{◌≡◌, ◌∙◌, ap, map, nat_cmp, subst, sym, take}
use Rattle.std.specs.Cmp.Lexicographic.{slice_cmp, texts_ties}
use Rattle.std.specs.List.{list_any}
use Rattle.std.specs.List.Sorted.{IsStrictlySortedBy}
use Rattle.std.specs.Str.{bytes_eq}
use Rattle.std.proofs.lemmas.Cmp.{nat_list_cmp_total}
use Rattle.std.proofs.lemmas.List.{take_all}
use Rattle.std.proofs.lemmas.List.Filters.{dedup_is}
use Rattle.std.proofs.lemmas.List.Kept.{IsStrictlySortedBy-dedup}
use Rattle.std.proofs.lemmas.List.Sorted.{list_any-IsPermutation}
use Rattle.am_tenant.specs.Names.{same}
use Rattle.am_test_store.proofs.PairLemmas.{any_first, any_once}
use Rattle.am_test_store.proofs.naming.names_in.Goals as goal

pub returns-clause-order : goal.returns-clause-order
returns-clause-order c =
    let is = dedup_is bytes_eq c.sort.new.self.items c.dedup.new.self.items c.dedup.ensures.filtered in
    subst (IsStrictlySortedBy (slice_cmp nat_cmp)) (sym is) (IsStrictlySortedBy-dedup nat_list_cmp_total texts_ties c.sort.new.self.items c.in_ok-sort.ensures.sorted)

pub returns-clause-names : goal.returns-clause-names
returns-clause-names c = λ t.
    let is = dedup_is bytes_eq c.sort.new.self.items c.dedup.new.self.items c.dedup.ensures.filtered in
    let all : take c.loop-name.name-index c.args.pairs.now ≡ c.args.pairs.now = take_all c.loop-name.name-index c.args.pairs.now c.loop-name-test.false in
    ap (list_any (same t)) is ∙ any_once t c.sort.new.self.items
    ∙ sym (list_any-IsPermutation (same t) c.loop-name.names.items c.sort.new.self.items c.sort.ensures.permutation)
    ∙ ap (list_any (same t)) (c.loop-name.invariant ∙ ap (map (λ pair. pair.0)) all)
    ∙ any_first t c.args.pairs.now
