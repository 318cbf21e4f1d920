use Rattle.am_wire.proofs.Numbers.{found_2}
use Rattle.am_wire.proofs.reader.Reader.u16.Goals as goal

pub returns-clause-found : goal.returns-clause-found
returns-clause-found c =
    found_2 c.args.self.now c.in_ok-field.field.now c.bytes.new.self c.read_u16.result c.in_ok-field.ensures.bytes
    c.in_ok-field.ensures.found c.in_ok-field.ensures.length c.read_u16.ensures
