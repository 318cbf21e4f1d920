-- The codes of refusals, as they are printed.
use Rattle.std.specs.Prelude.{ℕ, List, codes}
use Rattle.am_event.specs.declared.refused.Refused.{Refused}
use Rattle.am_event.specs.declared.refused.Refused.TheVariants.{MomentRefused, InstanceNotUp, NotSent}
use Rattle.am_event.specs.declared.refused.Refused.TheVariants.{NotAwaited, NotReading, NothingToLearn}
use Rattle.am_event.specs.declared.refused.Refused.TheVariants.{RingFull, RingSmall, WrongInstance, NoIncarnation}

abbrev pub code_of : Refused → List ℕ
code_of MomentRefused = codes "We1"
code_of InstanceNotUp = codes "We2"
code_of NotSent = codes "We3"
code_of NotAwaited = codes "We4"
code_of NotReading = codes "We5"
code_of NothingToLearn = codes "We6"
code_of RingFull = codes "Ri1"
code_of RingSmall = codes "Ri2"
code_of WrongInstance = codes "Ri3"
code_of NoIncarnation = codes "Ri4"
