use Rattle.std.proofs.Common.{◌≡◌, nat_eq, false, None, arith, rules}
use Rattle.std.proofs.lemmas.Bool.Decides.{nat_tests}
use Rattle.am_world.proofs.InstancesBegin.{IsRead, begins_again, begins_elsewhere, begins_first, quiet_closed}
use Rattle.am_world.proofs.InstancesBegin.{quiet_opened, same_twice}
use Rattle.am_world.proofs.instances.Instances.begin.Goals as goal

pub returns-in-Some-clause-reading : goal.returns-in-Some-clause-reading
returns-in-Some-clause-reading c =
    let read : IsRead c.args.connection c.in-Some.reader c.args.self.now =
    record { exists = c.in-Some.ensures.exists; reads = c.in-Some.ensures.reads } in
    let apart : nat_eq c.in-Some.reader c.args.number ≡ false = grind (arith, nat_tests) in
    begins_elsewhere c.args.connection c.args.number c.in-Some.reader c.args.self.now c.open.new.self c.close.new.self
    (rw c.self.view_is at c.self.invariant) c.open.ensures.at.numbered read apart c.in_ok-open.ensures.reading
    (rw c.in-Some.is at c.close.ensures.at) (rw c.in-Some.is at c.close.ensures.reading)

pub returns-in-Some-clause-beside : goal.returns-in-Some-clause-beside
returns-in-Some-clause-beside c =
    same_twice c.args.number _ c.args.self.now c.open.new.self c.close.new.self
    (rw c.self.view_is at c.self.invariant) c.open.ensures.at c.open.ensures.stays c.close.ensures.at
    c.close.ensures.stays

pub returns-in-Some-clause-quiet : goal.returns-in-Some-clause-quiet
returns-in-Some-clause-quiet c i quiet up =
    quiet_closed c.args.connection _ c.open.new.self c.close.new.self c.open.ensures.at.numbered
    c.close.ensures.at c.close.ensures.stays c.close.ensures.reading i
    (quiet_opened c.args.number c.args.self.now c.open.new.self (rw c.self.view_is at c.self.invariant)
    c.open.ensures.at c.open.ensures.stays up i quiet)

pub returns-else-ne-clause-reading : goal.returns-else-ne-clause-reading
returns-else-ne-clause-reading c =
    let same : c.in-Some.reader ≡ c.args.number = grind (arith, nat_tests) in
    begins_again c.args.connection c.args.number c.args.self.now c.open.new.self
    (rw (← same) (record { exists = c.in-Some.ensures.exists; reads = c.in-Some.ensures.reads }))
    c.in_ok-open.ensures.reading

pub returns-in_ok-open-clause-reading : goal.returns-in_ok-open-clause-reading
returns-in_ok-open-clause-reading c once =
    let none : c.reader_of-reader.result ≡ None = search rules in
    begins_first c.args.connection c.args.number c.args.self.now c.open.new.self
    (rw none at c.reader_of-reader.ensures.none) c.in_ok-open.ensures.reading

pub returns-in_ok-open-clause-quiet : goal.returns-in_ok-open-clause-quiet
returns-in_ok-open-clause-quiet c i quiet up =
    quiet_opened c.args.number c.args.self.now c.open.new.self (rw c.self.view_is at c.self.invariant)
    c.open.ensures.at c.open.ensures.stays up i quiet
