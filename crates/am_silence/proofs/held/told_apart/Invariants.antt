use Rattle.am_silence.proofs.HavingLemmas.{StandFor}
use Rattle.am_silence.proofs.held.told_apart.Given as goal

abbrev pub invariant-loop-matcher : goal.invariant-loop-matcher
invariant-loop-matcher l = StandFor l.apart.items l.matcher-index l.wanted
