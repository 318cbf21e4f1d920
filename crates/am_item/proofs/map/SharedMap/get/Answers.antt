use Rattle.std.proofs.Common.{Some, sym, ap, ◌∙◌, subst}
use Rattle.std.specs.BTreeMap.{is_at}
use Rattle.std.specs.Cmp.{eq_by_cmp_equiv}
use Rattle.std.specs.List.Sorted.{IsStrictlySortedBy}
use Rattle.std.specs.Map.{keys_of, lookup}
use Rattle.am_item.proofs.Found.{at_place, none_at_gap}
use Rattle.am_item.proofs.map.SharedMap.get.Goals as goal

pub returns-in-Ok : goal.returns-in-Ok
returns-in-Ok g c =
    let cmp = g.K.Ord.cmp in
    let total = g.met.K.Ord.total in
    let key = c.args.key.now in
    let same = c.entries-entries.ensures.entries in
    let s = subst (λ l. IsStrictlySortedBy cmp (keys_of l)) (sym same) c.entries-entries.ensures.ordered in
    ap Some c.value.ensures
    ∙ sym (at_place total key c.entries-entries.result.now c.in-Ok.at c.index-entries-at.result c.in-Ok.ensures s c.index-entries-at.is key ((eq_by_cmp_equiv total).refl key))
    ∙ ap (lookup (is_at (cmp key))) same

pub returns-in-Err : goal.returns-in-Err
returns-in-Err g c =
    let cmp = g.K.Ord.cmp in
    let total = g.met.K.Ord.total in
    let key = c.args.key.now in
    sym (none_at_gap total key c.entries-entries.result.now c.in-Err.field-0 c.in-Err.ensures key ((eq_by_cmp_equiv total).refl key))
    ∙ ap (lookup (is_at (cmp key))) c.entries-entries.ensures.entries
