use Rattle.std.proofs.Common.{◌≡◌, Option, subst, sym, ap, ◌∙◌}
use Rattle.std.specs.BTreeMap.{is_at}
use Rattle.std.specs.Map.{set_value, values_of}
use Rattle.std.specs.Ordering.{nat_cmp}
use Rattle.am_quorum.specs.declared.operation.Operation.{Operation}
use Rattle.am_quorum.specs.Dockets.{AreNumbered, AreUsed}
use Rattle.am_quorum.specs.Operations.{first_ack_by}
use Rattle.am_quorum.proofs.Numbered.{after_ack, found, number_found, numbered_written, used_written}
use Rattle.am_quorum.specs.Deadlines.{deadline_at}
use Rattle.am_quorum.proofs.Deadlines.{first_ack_keeps}
use Rattle.am_quorum.proofs.docket.acknowledge.Goals as goal

pub returns-in-Some-clause-operations : goal.returns-in-Some-clause-operations
returns-in-Some-clause-operations c =
    let was = c.in-Some.operation.now in
    let es = c.args.operations.now.entries in
    ap values_of (c.get_mut.follows.holds c.acknowledge.new.self).0
    ∙ ap (λ (o : Operation). values_of (set_value (is_at (nat_cmp c.args.number)) es o)) c.acknowledge.ensures
    ∙ after_ack c.args.number was es c.get_mut.ensures.ordered c.requires (sym c.in-Some.ensures.value) c.args.from

pub returns-in-Some-clause-numbered : goal.returns-in-Some-clause-numbered
returns-in-Some-clause-numbered c =
    let was = c.in-Some.operation.now in
    let es = c.args.operations.now.entries in
    let number : c.acknowledge.new.self.number ≡ c.args.number =
    ap (λ (o : Operation). o.number) c.acknowledge.ensures ∙ number_found c.args.number was es c.requires (sym c.in-Some.ensures.value) in
    subst AreNumbered (sym (c.get_mut.follows.holds c.acknowledge.new.self).0) (numbered_written c.args.number c.acknowledge.new.self es number c.requires)

pub returns-in-Some-clause-used : goal.returns-in-Some-clause-used
returns-in-Some-clause-used c = λ n past.
    subst (AreUsed n) (sym (c.get_mut.follows.holds c.acknowledge.new.self).0)
    (used_written n c.args.number c.acknowledge.new.self c.args.operations.now.entries past)

pub returns-in_default-clause-operations : goal.returns-in_default-clause-operations
returns-in_default-clause-operations c =
    let es = c.args.operations.now.entries in
    rw c.get_mut.follows.holds-at-none
    (sym (ap (λ (o : Option Operation). first_ack_by c.args.from o (values_of es)) (found c.args.number es c.requires ∙ sym c.in_default.ensures.value)))

pub returns-in-Some-clause-deadlines : goal.returns-in-Some-clause-deadlines
returns-in-Some-clause-deadlines c n =
    ap (deadline_at n) (returns-in-Some-clause-operations c) ∙ first_ack_keeps c.args.from c.args.number (values_of c.args.operations.now.entries) n

pub returns-in_default-clause-deadlines : goal.returns-in_default-clause-deadlines
returns-in_default-clause-deadlines c n =
    ap (deadline_at n) (returns-in_default-clause-operations c) ∙ first_ack_keeps c.args.from c.args.number (values_of c.args.operations.now.entries) n
