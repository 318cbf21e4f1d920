use Rattle.std.proofs.Common.{List, subst, sym, ap, ◌∙◌}
use Rattle.std.specs.Map.{values_of}
use Rattle.am_quorum.specs.declared.operation.Operation.{Operation}
use Rattle.am_quorum.specs.Dockets.{AreNumbered, AreUsed, Docket}
use Rattle.am_quorum.proofs.Numbered.{found, numbered_without, removed, used_without}
use Rattle.am_quorum.specs.Deadlines.{deadline_at}
use Rattle.am_quorum.proofs.Deadlines.{without_ends}
use Rattle.am_quorum.proofs.docket.Docket.close.Goals as goal

pub invariant_of-self : goal.invariant_of-self
invariant_of-self c =
    let es = c.self.inside.operations.entries in
    record {
      rising = c.remove.ensures.ordered;
      numbered = subst AreNumbered (sym c.remove.ensures.entries) (numbered_without c.args.number es c.self.invariant.numbered);
      past = subst (AreUsed c.self.inside.used) (sym c.remove.ensures.entries) (used_without c.self.inside.used c.args.number es c.self.invariant.past);
    }

pub returns-clause-operation : goal.returns-clause-operation
returns-clause-operation c =
    rw (← c.self.view_is) (c.remove.ensures.value ∙ sym (found c.args.number c.self.inside.operations.entries c.self.invariant.numbered))

pub returns-clause-docket : goal.returns-clause-docket
returns-clause-docket c =
    rw (← c.self.view_is) (ap (λ (xs : List Operation). let d : Docket = record { used = c.self.inside.used; operations = xs } in d)
    (ap values_of c.remove.ensures.entries ∙ removed c.args.number c.self.inside.operations.entries c.self.invariant.rising c.self.invariant.numbered))

pub returns-clause-deadlines : goal.returns-clause-deadlines
returns-clause-deadlines c n =
    ap (λ (d : Docket). deadline_at n d.operations) (returns-clause-docket c) ∙ without_ends c.args.number c.args.self.now.operations n
