use Rattle.std.proofs.Common.{refl}
use Rattle.am_instance.specs.Here.{here_on}
use Rattle.am_instance.proofs.instance.Instance.here.Goals as goal

pub returns : goal.returns
unfolding here_on
returns c = record { here = rw (c.of.ensures, c.requires.three, c.has_stayed.ensures) refl; key = refl }
