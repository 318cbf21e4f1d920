use Rattle.std.proofs.Common.{All, take}
use Rattle.am_pattern.specs.Asking.{Stays}
use Rattle.am_pattern.specs.Kept.{HasRegex}
use Rattle.am_match.specs.Checking.{IsFine, WhereShort}
use Rattle.am_match.specs.Matchers.{patterns_of}
use Rattle.am_match.proofs.checking.check_short_patterns.Given as goal

abbrev pub invariant-loop-matcher : goal.invariant-loop-matcher
invariant-loop-matcher l = record {
  stays : Stays l.initial.cache l.cache;
  fine : All IsFine (patterns_of (take l.matcher-index l.matchers));
  built : All (WhereShort HasRegex) (patterns_of (take l.matcher-index l.matchers));
}
