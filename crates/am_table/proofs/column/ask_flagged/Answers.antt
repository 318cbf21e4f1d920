use Rattle.std.proofs.Common.{◌≡◌, ◌∙◌, ◌∷◌, Bool, List, ap, false, get_or, map, true}
use Rattle.am_table.specs.Narrowing.{narrowed_by}
use Rattle.am_table.specs.Columns.{values_in}
use Rattle.am_table.proofs.ColumnLemmas.{asked_set, flags_long, narrowed_by_answers, row_long}
use Rattle.am_table.proofs.column.ask_flagged.Goals as goal

pub meet-requires-clause-each : goal.meet-requires-clause-each
meet-requires-clause-each c =
    let column = c.args.column.now in
    row_long c.args.matcher.now column c.deref-2.result.now c.in_ok-row.row.items c.requires.each
    (c.deref-2.ensures.value ∙ c.in_ok-ask_values.ensures.row)
    (flags_long column c.in_ok-row.row.items (λ place. get_or c.deref.result.now place false) c.requires.each c.in_ok-row.ensures)

pub returns-clause-taken : goal.returns-clause-taken
returns-clause-taken c =
    let m = c.args.matcher.now in
    let column = c.args.column.now in
    let old = c.args.taken.now.items in
    let row : c.in_ok-row.row.items ≡ true ∷ map (λ place. get_or old place false) column.places.now =
    c.in_ok-row.ensures ∙ ap (λ (flags : List Bool). true ∷ map (λ place. get_or flags place false) column.places.now) c.deref.ensures.value in
    narrowed_by_answers m column old c.meet.new.flags.items c.in_ok-meet.ensures.each (λ place. get_or old place false) c.deref-2.result.now
    (c.deref-2.ensures.value ∙ c.in_ok-ask_values.ensures.row ∙ ap (narrowed_by m (values_in column)) row)
    (asked_set old) c.in_ok-meet.ensures.flags
