use Rattle.std.proofs.Common.{sym}
use Rattle.am_inhibit.proofs.ClassLemmas.{found_kept}
use Rattle.am_inhibit.proofs.classes.number_of.Goals as goal

pub returns-in-Some-clause-kept : goal.returns-in-Some-clause-kept
returns-in-Some-clause-kept c = found_kept _ _ _ (sym c.in-Some.ensures.value)
