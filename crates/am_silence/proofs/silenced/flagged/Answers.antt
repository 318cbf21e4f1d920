use Rattle.std.proofs.Common.{◌≡◌, ◌∙◌, ◌<◌, ◌++◌, ◌∷◌, [], Bool, ap, arith, length, map, subst, sym}
use Rattle.std.specs.Global.{Vec}
use Rattle.std.proofs.lemmas.List.{length-map}
use Rattle.am_silence.proofs.RowLemmas.{flag_here, ids_next, ids_past}
use Rattle.am_silence.proofs.silenced.flagged.Goals.{then-index+in_ok-push, else-index}
use Rattle.am_silence.proofs.silenced.flagged.Goals as goal

pub loop-number-preserved : goal.loop-number-preserved
loop-number-preserved c =
    let rows = map (λ row. row.items) c.args.rows.now in
    let i = c.loop-number.number in
    let row = c.index-rows-number.result in
    let inside : c.args.place < length row.items =
    subst (λ (r : Vec Bool). c.args.place < length r.items) (sym c.index-rows-number.is) (c.requires.within i row c.loop-number-test.true) in
    let set = flag_here c.args.rows.now i c.args.place row c.index.result.now _ c.loop-number-test.true c.index-rows-number.is inside c.index.ensures in
    let within : i < length rows = omega (arith, c.loop-number-test.true, length-map c.args.rows.now (λ r. r.items)) in
    let each : length rows ≡ length c.args.ids.now = length-map c.args.rows.now (λ r. r.items) ∙ c.requires.each in
    elim c.if-index.branch [
      | then-index+in_ok-push w ↦
          rw w.found-is
          (w.in_ok-push.ensures.items ∙ ap (λ found. found ++ w.index-ids-number.result ∷ []) c.loop-number.invariant
          ∙ sym (ids_next c.args.ids.now rows c.args.place i w.index-ids-number.result within each w.index-ids-number.is (set ∙ w.if-index.true)))
      | else-index w ↦ rw w.found-is (c.loop-number.invariant ∙ sym (ids_past c.args.ids.now rows c.args.place i within each (set ∙ w.if-index.false)))
    ]
