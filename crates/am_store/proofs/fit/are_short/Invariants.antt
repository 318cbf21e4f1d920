use Rattle.std.proofs.Common.{take}
use Rattle.std.specs.List.{All}
use Rattle.am_match.specs.Spelling.{IsShort}
use Rattle.am_store.proofs.fit.are_short.Given as goal

abbrev pub invariant-loop-matcher : goal.invariant-loop-matcher
invariant-loop-matcher l = All IsShort (take l.matcher-index l.matchers)
