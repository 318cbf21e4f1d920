use Rattle.std.specs.Prelude.{refl}
use Rattle.am_wire.specs.Fields.{number_bytes}
use Rattle.am_wire.specs.Messages.{body_bytes, inside, spelling}
use Rattle.am_cluster.proofs.laws.first_frame.Goals as goal

pub returns : goal.returns
unfolding spelling inside body_bytes number_bytes
returns c = refl
