use Rattle.std.proofs.Common.{arith, refl}
use Rattle.std.proofs.lemmas.Grind.{common_steps}
use Rattle.am_labels.specs.Hashes.{fnv64_from}
use Rattle.am_labels.proofs.Hashes.{fnv64_from-append}
use Rattle.am_labels.proofs.hash.fingerprint_of.Goals as goal

pub loop-label-init : goal.loop-label-init
unfolding fnv64_from
loop-label-init c = refl

pub loop-label-preserved : goal.loop-label-preserved
loop-label-preserved c = grind (arith, common_steps, fnv64_from-append)
