use Rattle.std.proofs.Common.{string_bytes, ◌++◌, ap, ◌∙◌}
use Rattle.am_labels.specs.Flat.{ended}
use Rattle.am_labels.proofs.Flattening.{flat_added}
use Rattle.am_labels.proofs.flat.flat.Goals as goal

pub loop-label-preserved : goal.loop-label-preserved
loop-label-preserved c =
    flat_added c.args.labels.now c.loop-label.label-index c.label-item.result (string_bytes c.loop-label.text) (string_bytes c.add.new.text) (string_bytes c.add-in-loop-label.new.text)
    c.loop-label-test.true c.loop-label.invariant
    (c.in_ok-add.ensures ∙ ap (λ t. string_bytes c.loop-label.text ++ ended t) (c.as_str.ensures ∙ ap (λ l. l.name) c.label-item.is))
    (c.in_ok-add-2.ensures ∙ ap (λ t. string_bytes c.add.new.text ++ ended t) (c.as_str-in-loop-label.ensures ∙ ap (λ l. l.value) c.label-item.is))
