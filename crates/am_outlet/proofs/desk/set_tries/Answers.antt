use Rattle.std.proofs.Common.{sym, ◌∙◌}
use Rattle.am_outlet.specs.Attempts.{tried}
use Rattle.am_outlet.proofs.Lists.{none_tried, written}
use Rattle.am_outlet.proofs.desk.set_tries.Goals as goal

pub returns-in-Some-clause-attempts : goal.returns-in-Some-clause-attempts
returns-in-Some-clause-attempts c =
    let was = c.in-Some.attempt.now in
    (c.get_mut.follows.holds (tried c.args.tries c.args.again was)).0
    ∙ written c.args.number c.args.tries c.args.again was c.args.attempts.now.entries c.requires (sym c.in-Some.ensures.value)

pub returns-in_default-clause-attempts : goal.returns-in_default-clause-attempts
returns-in_default-clause-attempts c =
    rw c.get_mut.follows.holds-at-none (sym (none_tried c.args.number c.args.tries c.args.again c.args.attempts.now.entries (sym c.in_default.ensures.value)))
