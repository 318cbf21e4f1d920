use Rattle.std.proofs.Common.{◌≡◌}
use Rattle.am_labels.specs.Sets.{annotations}
use Rattle.am_wire.specs.declared.refusal.WireRefusal.TheVariants.{BadValue}
use Rattle.am_wire.proofs.Rising.{made_annotations, never_refused, same_set, annotations_of_chain}
use Rattle.am_wire.proofs.reader.Reader.annotations.Goals as goal

-- what was read is what it makes
the_same : (c : goal.In-Ok) → c.in_ok-labels.labels.items ≡ c.in-Ok.set
the_same c =
    same_set (annotations c.in_ok-labels.labels.items) _ _
    (made_annotations _ (annotations_of_chain _ c.in_ok-labels.ensures.valid c.in_ok-labels.ensures.few).set) c.in-Ok.ensures.set

pub returns-in-Ok-clause-read : goal.returns-in-Ok-clause-read
returns-in-Ok-clause-read c = rw (← the_same c) c.in_ok-labels.ensures.read

pub returns-in-Ok-clause-found : goal.returns-in-Ok-clause-found
returns-in-Ok-clause-found c = rw (← the_same c) c.in_ok-labels.ensures.found

pub returns-in-Ok-clause-valid : goal.returns-in-Ok-clause-valid
returns-in-Ok-clause-valid c = rw (← the_same c) (annotations_of_chain _ c.in_ok-labels.ensures.valid c.in_ok-labels.ensures.few)

pub returns-in-Err-clause-read : goal.returns-in-Err-clause-read
returns-in-Err-clause-read c =
    rw c.refuse_as.ensures
    (never_refused BadValue c.in-Err.failure c.in_ok-labels.labels.items (annotations c.in_ok-labels.labels.items) _
    (made_annotations _ (annotations_of_chain _ c.in_ok-labels.ensures.valid c.in_ok-labels.ensures.few).set) c.in-Err.ensures.set)
