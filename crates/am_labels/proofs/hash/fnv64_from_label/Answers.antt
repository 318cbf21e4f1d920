use Rattle.am_labels.proofs.Hashes.{fnv64_from-label}
use Rattle.am_labels.proofs.hash.fnv64_from_label.Goals as goal

pub returns : goal.returns
returns c = let e = fnv64_from-label c.args.hash c.args.label.now in cc
