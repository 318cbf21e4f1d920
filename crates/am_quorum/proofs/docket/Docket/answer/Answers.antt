use Rattle.std.proofs.Common.{◌≡◌, List, None, ap, rules, arith}
use Rattle.am_quorum.specs.declared.operation.Operation.{Operation}
use Rattle.am_quorum.specs.declared.operation.Stage.TheVariants.{Undecided}
use Rattle.am_quorum.specs.Dockets.{Docket}
use Rattle.am_quorum.proofs.Targets.{first_kept}
use Rattle.am_quorum.proofs.docket.Docket.answer.Goals as goal

pub invariant_of-self : goal.invariant_of-self
invariant_of-self c = record {
  rising = c.set_stage.ensures.rising;
  numbered = c.set_stage.ensures.numbered;
  past = c.set_stage.ensures.used c.self.inside.used c.self.invariant.past;
}

pub returns-in-Undecided-None-clause-docket : goal.returns-in-Undecided-None-clause-docket
returns-in-Undecided-None-clause-docket c =
    let stage : c.in-Some.operation.now.stage ≡ Undecided None = first_of (search rules, cc, grind arith) in
    rw (← c.self.view_is) (ap (λ (xs : List Operation). let d : Docket = record { used = c.self.inside.used; operations = xs } in d)
    (first_kept c.args.number c.args.epoch c.self.inside.operations.entries c.self.invariant.rising c.self.invariant.numbered c.in-Some.operation.now
    (rw (← c.self.view_is) at c.in-Some.ensures) c.args.answered _ stage c.set_stage.ensures.operations))
