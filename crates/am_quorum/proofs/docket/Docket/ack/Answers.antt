use Rattle.std.proofs.Common.{◌≡◌, ℕ, List, false, true, sym, ap, ◌∙◌}
use Rattle.std.specs.Option.{is_some}
use Rattle.am_quorum.specs.declared.operation.Operation.{Operation}
use Rattle.am_quorum.specs.Dockets.{Docket}
use Rattle.am_quorum.specs.Operations.{reply_for}
use Rattle.am_quorum.proofs.Targets.{closed_by, first_acked, is_ready, reply_out, was_there}
use Rattle.am_quorum.proofs.Deadlines.{if_none, if_some}
use Rattle.am_quorum.proofs.docket.Docket.ack.Goals as goal

-- a docket of these operations
abbrev docket : ℕ → List Operation → Docket
docket used operations = record { used = used; operations = operations }

pub returns-in-Some-close-clause-ready : goal.returns-in-Some-close-clause-ready
returns-in-Some-close-clause-ready c =
    let ready : is_some (reply_for c.in-Some.operation.now.stage c.args.from) ≡ true = sym c.is_ready_by.ensures ∙ c.if-is_ready_by.true in
    rw (← c.self.view_is) (reply_out c.args.number c.args.epoch c.self.inside.operations.entries c.self.invariant.rising c.self.invariant.numbered c.in-Some.operation.now
    (rw (← c.self.view_is) at c.in-Some.ensures) c.args.from c.in-Some-close.operation _ ready (rw (← c.self.view_is) at c.in-Some-close.ensures.operation) c.into_ready.ensures)

pub returns-in-Some-close-clause-docket : goal.returns-in-Some-close-clause-docket
returns-in-Some-close-clause-docket c =
    let ready : is_some (reply_for c.in-Some.operation.now.stage c.args.from) ≡ true = sym c.is_ready_by.ensures ∙ c.if-is_ready_by.true in
    c.close.ensures.docket ∙ rw (← c.self.view_is) (ap (docket c.self.inside.used)
    (closed_by c.args.number c.args.epoch c.self.inside.operations.entries c.self.invariant.rising c.self.invariant.numbered c.in-Some.operation.now
    (rw (← c.self.view_is) at c.in-Some.ensures) c.args.from ready))

pub returns-in-None-clause-ready : goal.returns-in-None-clause-ready
returns-in-None-clause-ready c =
    absurd (was_there c.args.number c.args.epoch c.self.inside.operations.entries c.self.invariant.rising c.self.invariant.numbered c.in-Some.operation.now
    (rw (← c.self.view_is) at c.in-Some.ensures) (rw (← c.self.view_is) at c.in-None.ensures.operation))

pub returns-in-None-clause-docket : goal.returns-in-None-clause-docket
returns-in-None-clause-docket c =
    absurd (was_there c.args.number c.args.epoch c.self.inside.operations.entries c.self.invariant.rising c.self.invariant.numbered c.in-Some.operation.now
    (rw (← c.self.view_is) at c.in-Some.ensures) (rw (← c.self.view_is) at c.in-None.ensures.operation))

pub invariant_of-self : goal.invariant_of-self
invariant_of-self c = record {
  rising = c.acknowledge.ensures.rising;
  numbered = c.acknowledge.ensures.numbered;
  past = c.acknowledge.ensures.used c.self.inside.used c.self.invariant.past;
}

pub returns-clause-docket : goal.returns-clause-docket
returns-clause-docket c =
    let waits : is_some (reply_for c.in-Some.operation.now.stage c.args.from) ≡ false = sym c.is_ready_by.ensures ∙ c.if-is_ready_by.false in
    rw (← c.self.view_is) (ap (docket c.self.inside.used)
    (first_acked c.args.number c.args.epoch c.self.inside.operations.entries c.self.invariant.rising c.self.invariant.numbered c.in-Some.operation.now
    (rw (← c.self.view_is) at c.in-Some.ensures) c.args.from _ waits c.acknowledge.ensures.operations))

pub returns-in-Some-close-clause-over : goal.returns-in-Some-close-clause-over
returns-in-Some-close-clause-over c = if_some c.into_ready.result c.close.ensures.deadlines

pub returns-in-Some-close-clause-open : goal.returns-in-Some-close-clause-open
returns-in-Some-close-clause-open c =
    let ready : is_some (reply_for c.in-Some.operation.now.stage c.args.from) ≡ true = sym c.is_ready_by.ensures ∙ c.if-is_ready_by.true in
    if_none _ c.into_ready.result (ap is_some (returns-in-Some-close-clause-ready c) ∙ rw (← c.self.view_is)
    (is_ready c.args.number c.args.epoch c.self.inside.operations.entries c.self.invariant.rising c.self.invariant.numbered c.in-Some.operation.now
    (rw (← c.self.view_is) at c.in-Some.ensures) c.args.from ready))

pub returns-in-None-clause-open : goal.returns-in-None-clause-open
returns-in-None-clause-open c =
    absurd (was_there c.args.number c.args.epoch c.self.inside.operations.entries c.self.invariant.rising c.self.invariant.numbered c.in-Some.operation.now
    (rw (← c.self.view_is) at c.in-Some.ensures) (rw (← c.self.view_is) at c.in-None.ensures.operation))
