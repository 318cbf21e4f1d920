use Rattle.am_wire.proofs.write_labels.push_label_set.Goals as goal

pub returns-clause-valid : goal.returns-clause-valid
returns-clause-valid c = record {
  set = c.labels.ensures.set;
  texts = rw c.labels.ensures.labels at c.in_ok-push_labels.ensures.texts;
  few = rw c.labels.ensures.labels at c.in_ok-push_labels.ensures.few;
}
