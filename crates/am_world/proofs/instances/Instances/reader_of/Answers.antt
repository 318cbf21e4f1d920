use Rattle.std.proofs.Common.{ap, option_map, sym}
use Rattle.am_instance.specs.declared.instance.Instance.{Instance}
use Rattle.am_world.specs.Places.{reader_of}
use Rattle.am_world.proofs.InstancesLemmas.{at_here, exists_here, nobody_reads, reader_here, reader_reads}
use Rattle.am_world.proofs.instances.Instances.reader_of.Goals as goal

pub returns-in-Some-clause-reader : goal.returns-in-Some-clause-reader
unfolding reader_of
returns-in-Some-clause-reader c =
    rw c.number.ensures (ap (option_map (λ (x : Instance). x.number)) c.in-Some.ensures)

pub returns-in-Some-clause-reads : goal.returns-in-Some-clause-reads
returns-in-Some-clause-reads c =
    let xs = c.args.self.now in
    let here = reader_here c.args.connection xs _ (rw c.self.view_is at c.self.invariant) (sym c.in-Some.ensures) in
    rw c.number.ensures (at_here _ _ xs _ here (reader_reads c.args.connection xs _ (sym c.in-Some.ensures)))

pub returns-in-Some-clause-exists : goal.returns-in-Some-clause-exists
returns-in-Some-clause-exists c =
    let xs = c.args.self.now in
    let here = reader_here c.args.connection xs _ (rw c.self.view_is at c.self.invariant) (sym c.in-Some.ensures) in
    rw c.number.ensures (exists_here _ xs _ here)

pub returns-in-None-clause-reader : goal.returns-in-None-clause-reader
unfolding reader_of
returns-in-None-clause-reader c = ap (option_map (λ (x : Instance). x.number)) c.in-None.ensures

pub returns-in-None-clause-none : goal.returns-in-None-clause-none
returns-in-None-clause-none c = nobody_reads c.args.connection c.args.self.now (sym c.in-None.ensures)
