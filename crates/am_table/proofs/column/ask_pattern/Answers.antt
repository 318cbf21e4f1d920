use Rattle.std.proofs.Common.{◌≡◌, ◌∙◌, ◌+◌, Bool, List, ap, length, refl, replicate, sym, true}
use Rattle.std.specs.List.{list_any}
use Rattle.std.proofs.lemmas.List.{length-map, length-replicate}
use Rattle.am_table.specs.Narrowing.{narrowed_by}
use Rattle.am_table.specs.Columns.{values_in}
use Rattle.am_table.proofs.ColumnLemmas.{asked_all, narrowed_by_answers, narrowed_none, row_long, row_served}
use Rattle.am_table.proofs.column.ask_pattern.Goals as goal

pub meet-requires-clause-each : goal.meet-requires-clause-each
meet-requires-clause-each c =
    let column = c.args.column.now in
    let values = values_in column in
    row_long c.in-Some.answered.matcher.now column c.deref.result.now (replicate (length values) true) c.requires.each
    (c.deref.ensures.value ∙ c.requires.last c.in-Some.answered c.in-Some.is) (length-replicate (length values) true)

pub returns-then-serves-clause-taken : goal.returns-then-serves-clause-taken
returns-then-serves-clause-taken c =
    let m = c.args.matcher.now in
    let column = c.args.column.now in
    let old = c.args.taken.now.items in
    let long : length (values_in column) ≡ length column.places.now + 1 = length-map column.values.now (λ value. value.now) ∙ c.requires.each in
    narrowed_by_answers m column old c.meet.new.flags.items c.in_ok-meet.ensures.each (λ place. true) c.deref.result.now
    (row_served m c.in-Some.answered.matcher.now column c.deref.result.now long (c.deref.ensures.value ∙ c.requires.last c.in-Some.answered c.in-Some.is)
    (c.serves.ensures.operator c.if-serves.true) (c.serves.ensures.value c.if-serves.true))
    (asked_all old) c.in_ok-meet.ensures.flags

pub returns-then-not-has_set-clause-taken : goal.returns-then-not-has_set-clause-taken
returns-then-not-has_set-clause-taken c =
    narrowed_none c.args.matcher.now c.args.column.now c.args.taken.now.items
    (ap (λ (flags : List Bool). list_any (λ flag. flag) flags) (sym c.deref-2.ensures.value) ∙ sym c.has_set.ensures ∙ c.if-not-has_set.true)

pub meet-requires-2-clause-each : goal.meet-requires-2-clause-each
meet-requires-2-clause-each c =
    let column = c.args.column.now in
    let made = c.in_ok-row.ensures.items_if_clones_equal (λ y same. same) in
    row_long c.args.matcher.now column c.deref-3.result.now c.in_ok-row.row.items c.requires.each
    (c.deref-3.ensures.value ∙ c.in_ok-ask_values.ensures.row)
    (ap length made ∙ length-replicate (length column.values.now) true ∙ sym (length-map column.values.now (λ value. value.now)))

pub returns-clause-taken : goal.returns-clause-taken
returns-clause-taken c =
    let m = c.args.matcher.now in
    let column = c.args.column.now in
    let old = c.args.taken.now.items in
    let values = length-map column.values.now (λ value. value.now) in
    let made = c.in_ok-row.ensures.items_if_clones_equal (λ y same. same) in
    narrowed_by_answers m column old c.meet-2.new.flags.items c.in_ok-meet-2.ensures.each (λ place. true) c.deref-3.result.now
    (row_served m m column c.deref-3.result.now (values ∙ c.requires.each)
    (c.deref-3.ensures.value ∙ c.in_ok-ask_values.ensures.row ∙ ap (narrowed_by m (values_in column)) (made ∙ ap (λ n. replicate n true) (sym values)))
    refl refl)
    (asked_all old) c.in_ok-meet-2.ensures.flags
