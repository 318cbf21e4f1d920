use Rattle.std.proofs.Common.{◌≡◌, false, nat_le, rules}
use Rattle.am_messages.proofs.Orders.{not_come}
use Rattle.am_messages.proofs.messages.pop_lapse.Goals as goal

pub returns-else-le-clause-none : goal.returns-else-le-clause-none
returns-else-le-clause-none c =
    let late : nat_le c.in-Some.first.now.at c.args.now ≡ false = search rules in
    λ lapse h. not_come c.in-Some.first.now lapse c.args.now (c.in-Some.ensures.least lapse h) late
