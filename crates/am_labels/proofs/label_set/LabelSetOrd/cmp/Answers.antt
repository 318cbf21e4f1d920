use Rattle.std.proofs.Common.{rules, ◌∙◌}
use Rattle.am_labels.proofs.Flattening.{texts_cmp}
use Rattle.am_labels.proofs.label_set.LabelSetOrd.cmp.Goals as goal

pub returns-in-Some-Some : goal.returns-in-Some-Some
returns-in-Some-Some c =
    c.cmp.ensures.value ∙ texts_cmp c.args.self.now c.args.other.now c.in-Some-Some.text c.in-Some-Some.other (search rules) (search rules)
