use Rattle.std.proofs.Common.{◌≡◌, ◌<◌, ◌≤◌, ◌++◌, ◌∷◌, [], List, refl, subst, sym, ap, ◌∙◌, arith}
use Rattle.std.specs.Map.{values_of}
use Rattle.am_quorum.specs.declared.operation.Operation.{Operation}
use Rattle.am_quorum.specs.Dockets.{AreNumbered, AreUsed, Docket}
use Rattle.am_quorum.proofs.Numbered.{appended, numbered_more, used_more, values-append}
use Rattle.am_quorum.proofs.docket.Docket.add.Goals as goal

-- the number is past those that were used
past_used : (c : goal.After-self-1) → c.self.inside.used < c.args.operation.number
past_used c = omega (arith, c.requires, ap (λ (d : Docket). d.used) c.self.view_is)

at_end : (c : goal.After-self-1) → c.insert.new.self.entries ≡ c.self.inside.operations.entries ++ (c.args.operation.number, c.args.operation) ∷ []
at_end c =
    c.in_ok-insert.ensures.entries
    ∙ appended c.self.inside.used c.args.operation.number c.args.operation c.self.inside.operations.entries c.self.invariant.past (past_used c)

pub invariant_of-self-2 : goal.invariant_of-self-2
invariant_of-self-2 c =
    let n = c.args.operation.number in
    let es = c.self.inside.operations.entries in
    let lt = past_used c in
    let le : c.self.inside.used ≤ n = omega arith in
    record {
      rising = c.in_ok-insert.ensures.ordered;
      numbered = subst AreNumbered (sym (at_end c)) (numbered_more n c.args.operation es refl c.self.invariant.numbered);
      past = subst (AreUsed n) (sym (at_end c)) (used_more c.self.inside.used n c.args.operation es le c.self.invariant.past);
    }

pub returns-clause-added : goal.returns-clause-added
returns-clause-added c =
    let n = c.args.operation.number in
    rw (← c.self.view_is) (ap (λ (xs : List Operation). let d : Docket = record { used = n; operations = xs } in d)
    (ap values_of (at_end c) ∙ values-append c.self.inside.operations.entries ((n, c.args.operation) ∷ [])))
