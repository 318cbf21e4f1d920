use Rattle.std.proofs.Common.{Option, subst, sym, ap, ◌∙◌}
use Rattle.std.specs.Map.{values_of}
use Rattle.am_quorum.specs.declared.operation.Operation.{Operation}
use Rattle.am_quorum.specs.Dockets.{AreNumbered, AreUsed}
use Rattle.am_quorum.specs.Operations.{staged}
use Rattle.am_quorum.proofs.Numbered.{found, number_found, numbered_written, put_at_stage, used_written}
use Rattle.am_quorum.specs.Deadlines.{deadline_at}
use Rattle.am_quorum.proofs.Deadlines.{staged_keeps}
use Rattle.am_quorum.proofs.docket.set_stage.Goals as goal

pub returns-in-Some-clause-operations : goal.returns-in-Some-clause-operations
returns-in-Some-clause-operations c =
    let was = c.in-Some.operation.now in
    ap values_of (c.get_mut.follows.holds (record was { stage = c.args.stage })).0
    ∙ put_at_stage c.args.number was c.args.operations.now.entries c.get_mut.ensures.ordered c.requires (sym c.in-Some.ensures.value) c.args.stage

pub returns-in-Some-clause-numbered : goal.returns-in-Some-clause-numbered
returns-in-Some-clause-numbered c =
    let was = c.in-Some.operation.now in
    let es = c.args.operations.now.entries in
    subst AreNumbered (sym (c.get_mut.follows.holds (record was { stage = c.args.stage })).0)
    (numbered_written c.args.number (record was { stage = c.args.stage }) es (number_found c.args.number was es c.requires (sym c.in-Some.ensures.value)) c.requires)

pub returns-in-Some-clause-used : goal.returns-in-Some-clause-used
returns-in-Some-clause-used c = λ n past.
    let was = c.in-Some.operation.now in
    subst (AreUsed n) (sym (c.get_mut.follows.holds (record was { stage = c.args.stage })).0)
    (used_written n c.args.number (record was { stage = c.args.stage }) c.args.operations.now.entries past)

pub returns-in_default-clause-operations : goal.returns-in_default-clause-operations
returns-in_default-clause-operations c =
    let es = c.args.operations.now.entries in
    rw c.get_mut.follows.holds-at-none
    (sym (ap (λ (o : Option Operation). staged c.args.stage o (values_of es)) (found c.args.number es c.requires ∙ sym c.in_default.ensures.value)))

pub returns-in-Some-clause-deadlines : goal.returns-in-Some-clause-deadlines
returns-in-Some-clause-deadlines c n =
    ap (deadline_at n) (returns-in-Some-clause-operations c) ∙ staged_keeps c.args.stage c.args.number (values_of c.args.operations.now.entries) n

pub returns-in_default-clause-deadlines : goal.returns-in_default-clause-deadlines
returns-in_default-clause-deadlines c n =
    ap (deadline_at n) (returns-in_default-clause-operations c) ∙ staged_keeps c.args.stage c.args.number (values_of c.args.operations.now.entries) n
