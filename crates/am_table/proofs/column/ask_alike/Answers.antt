use Rattle.std.proofs.Common.{◌≡◌, ◌∙◌, ap, length, map, arith}
use Rattle.std.proofs.lemmas.List.{length-map}
use Rattle.am_table.proofs.NarrowLemmas.{length-narrowed}
use Rattle.am_table.proofs.TableLemmas.{left_narrowed}
use Rattle.am_table.proofs.column.ask_alike.Goals as goal

pub left_by-requires-clause-within : goal.left_by-requires-clause-within
left_by-requires-clause-within c = λ k d below.
    let values = map (λ value. value.now) c.args.values.now in
    let flags = c.in_ok-firsts.firsts.items in
    let as_first = c.in_ok-firsts.ensures.each ∙ ap length c.deref.ensures.value in
    let as_value = length-map c.args.values.now (λ value. value.now) in
    let each : length flags ≡ length values = omega (arith, as_first, c.requires.each, as_value) in
    let left = ap length (c.deref-3.ensures.value ∙ c.in_ok-narrow.ensures.flags) ∙ length-narrowed c.args.matcher.now values flags each in
    omega (arith, left, each, c.requires.alike.0 k d below)

pub returns-clause-taken : goal.returns-clause-taken
returns-clause-taken c =
    let values = map (λ value. value.now) c.args.values.now in
    let as_value = length-map c.args.values.now (λ value. value.now) in
    left_narrowed values c.args.alike.now c.requires.alike c.args.matcher.now c.args.taken.now.items c.in_ok-firsts.firsts.items c.in_ok-left.left.items
    (omega (arith, c.requires.each, as_value))
    (c.in_ok-firsts.ensures.each ∙ ap length c.deref.ensures.value)
    (rw c.deref.ensures.value at c.in_ok-firsts.ensures.firsts)
    (c.in_ok-left.ensures.each ∙ ap length c.deref-2.ensures.value)
    (rw (c.deref-2.ensures.value, c.deref-3.ensures.value ∙ c.in_ok-narrow.ensures.flags) at c.in_ok-left.ensures.left)
