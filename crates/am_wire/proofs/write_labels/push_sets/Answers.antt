use Rattle.std.proofs.Common.{◌≡◌, ◌+◌, ◌++◌, ◌∷◌, [], ◌∙◌, length, take, arith}
use Rattle.std.proofs.Math.Seq.{take-length}
use Rattle.std.proofs.lemmas.List.{take_more}
use Rattle.std.proofs.lemmas.List.Elements.{All-push}
use Rattle.am_wire.specs.LabelFields.{IsSetField, labels_bytes}
use Rattle.am_wire.proofs.Written.{written_more}
use Rattle.am_wire.proofs.write_labels.push_sets.Goals as goal

pub loop-set-preserved : goal.loop-set-preserved
loop-set-preserved c =
    let i = c.loop-set.set-index in
    let xs = c.args.sets.now in
    let m = c.set-item.result in
    let more : take (i + 1) xs ≡ take i xs ++ m ∷ [] = take_more xs i m c.loop-set-test.true ∙ rw (← c.set-item.is) in
    rw (more) (
      written_more labels_bytes c.args.out.now.items _ _ (take i xs) m c.loop-set.invariant.0 c.in_ok-push_label_set.ensures.bytes,
      All-push IsSetField (take i xs) m c.loop-set.invariant.1 c.in_ok-push_label_set.ensures.valid,
    )

pub returns-clause-valid : goal.returns-clause-valid
returns-clause-valid c =
    let at : c.loop-set.set-index ≡ length c.args.sets.now = omega arith in
    rw (at, take-length) at c.loop-set.invariant.1
