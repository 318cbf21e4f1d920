use Rattle.std.proofs.Common.{refl}
use Rattle.am_wire.specs.Fields.{number_bytes, text_bytes}
use Rattle.am_wire.specs.ItemFields.{matcher_bytes, matchers_bytes}
use Rattle.am_wire.proofs.laws.matchers.Goals as goal

pub returns : goal.returns
unfolding matchers_bytes matcher_bytes text_bytes number_bytes
returns c = λ ms. refl
