use Rattle.std.proofs.Common.{All, take}
use Rattle.am_match.specs.Checking.{IsFine}
use Rattle.am_match.specs.Matchers.{patterns_of}
use Rattle.am_match.proofs.checking.check_grammar.Given as goal

abbrev pub invariant-loop-matcher : goal.invariant-loop-matcher
invariant-loop-matcher l = All IsFine (patterns_of (take l.matcher-index l.matchers))
