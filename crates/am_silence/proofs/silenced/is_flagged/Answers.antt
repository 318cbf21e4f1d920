use Rattle.std.proofs.Common.{◌∙◌, ◌<◌, Bool, arith, length, map, subst, sym}
use Rattle.std.specs.Global.{Vec}
use Rattle.std.proofs.lemmas.List.{length-map}
use Rattle.am_silence.proofs.RowLemmas.{flag_here, ids_past, ids_some}
use Rattle.am_silence.proofs.silenced.is_flagged.Goals as goal

pub returns-then-index : goal.returns-then-index
returns-then-index c =
    let rows = map (λ row. row.items) c.args.rows.now in
    let i = c.loop-row.row-index in
    let row = c.row-item.result in
    let inside : c.args.place < length row.items =
    subst (λ (r : Vec Bool). c.args.place < length r.items) (sym c.row-item.is) (c.requires.within i row c.loop-row-test.true) in
    let set = flag_here c.args.rows.now i c.args.place row c.index.result.now _ c.loop-row-test.true c.row-item.is inside c.index.ensures in
    sym (ids_some c.args.ids.now rows c.args.place i (omega (arith, c.loop-row-test.true, length-map c.args.rows.now (λ r. r.items)))
    (length-map c.args.rows.now (λ r. r.items) ∙ c.requires.each) (set ∙ c.if-index.true))

pub loop-row-preserved : goal.loop-row-preserved
loop-row-preserved c =
    let rows = map (λ row. row.items) c.args.rows.now in
    let i = c.loop-row.row-index in
    let row = c.row-item.result in
    let inside : c.args.place < length row.items =
    subst (λ (r : Vec Bool). c.args.place < length r.items) (sym c.row-item.is) (c.requires.within i row c.loop-row-test.true) in
    let set = flag_here c.args.rows.now i c.args.place row c.index.result.now _ c.loop-row-test.true c.row-item.is inside c.index.ensures in
    ids_past c.args.ids.now rows c.args.place i (omega (arith, c.loop-row-test.true, length-map c.args.rows.now (λ r. r.items)))
    (length-map c.args.rows.now (λ r. r.items) ∙ c.requires.each) (set ∙ c.if-index.false)
    ∙ c.loop-row.invariant
