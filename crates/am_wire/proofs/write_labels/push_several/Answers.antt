use Rattle.std.proofs.Common.{◌≡◌, ◌+◌, ◌++◌, ◌∷◌, [], ◌∙◌, length, take, arith}
use Rattle.std.proofs.Math.Seq.{take-length}
use Rattle.std.proofs.lemmas.List.{take_more}
use Rattle.std.proofs.lemmas.List.Elements.{All-push}
use Rattle.am_wire.specs.LabelFields.{HasTexts, label_bytes}
use Rattle.am_wire.proofs.Written.{written_more}
use Rattle.am_wire.proofs.write_labels.push_several.Goals as goal

pub loop-label-preserved : goal.loop-label-preserved
loop-label-preserved c =
    let i = c.loop-label.label-index in
    let xs = c.args.labels.now in
    let m = c.label-item.result in
    let more : take (i + 1) xs ≡ take i xs ++ m ∷ [] = take_more xs i m c.loop-label-test.true ∙ rw (← c.label-item.is) in
    rw (more) (
      written_more label_bytes c.args.out.now.items _ _ (take i xs) m c.loop-label.invariant.0 c.in_ok-push_label.ensures.bytes,
      All-push HasTexts (take i xs) m c.loop-label.invariant.1 c.in_ok-push_label.ensures.texts,
    )

pub returns-clause-texts : goal.returns-clause-texts
returns-clause-texts c =
    let at : c.loop-label.label-index ≡ length c.args.labels.now = omega arith in
    rw (at, take-length) at c.loop-label.invariant.1
