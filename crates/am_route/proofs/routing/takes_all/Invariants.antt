use Rattle.std.proofs.Common.{◌≡◌, drop}
use Rattle.am_pattern.specs.Asking.{Stays}
use Rattle.am_match.specs.Meaning.{all_take}
use Rattle.am_route.specs.Asked.{asked_of}
use Rattle.am_match.proofs.FailureLemmas.{AreAmong}
use Rattle.am_route.proofs.routing.takes_all.Given as goal

abbrev pub invariant-loop-matcher : goal.invariant-loop-matcher
invariant-loop-matcher l =
    record {
      value : all_take (drop l.matcher-index l.matchers) l.labels ≡ all_take l.matchers l.labels;
      asked : AreAmong (asked_of l.labels (drop l.matcher-index l.matchers)) (asked_of l.labels l.matchers);
      stays : Stays l.fn.cache l.cache;
    }
