use Rattle.std.proofs.Common.{◌≡◌, ◌+◌, ◌*◌, ◌++◌, ◌≤◌, ◌^◌, All, IsSome, length}
use Rattle.am_pattern.specs.Asking.{Stays}
use Rattle.am_route.specs.Answers.{AreKnown}
use Rattle.am_route.specs.Asked.{asked_among}
use Rattle.am_route.specs.Routes.{routes_among}
use Rattle.am_draft.specs.Forests.{IsForest, forest_of}
use Rattle.am_match.proofs.FailureLemmas.{AreAmong}
use Rattle.am_route.proofs.routing.+walk.Given as goal

abbrev pub decreases-enter : goal.decreases-enter
decreases-enter l = 2 * length l.within.now + 1

abbrev pub decreases-walk : goal.decreases-walk
decreases-walk l = 2 * length l.nodes.now

abbrev pub invariant-walk-sibling : goal.invariant-walk-sibling
invariant-walk-sibling l =
    record {
      forest : IsForest l.rest;
      known : AreKnown l.labels l.rest l.number l.known;
      few : l.number + length l.rest ≤ 2 ^ 62;
      asked : AreAmong (asked_among l.labels (forest_of l.rest)) (asked_among l.labels (forest_of l.nodes));
      shorter : length l.rest ≤ length l.nodes;
      routes : l.found.items ++ routes_among l.labels l.number (forest_of l.rest) ≡ l.fn.found.items ++ routes_among l.labels l.first (forest_of l.nodes);
      stays : Stays l.fn.cache l.cache;
      untouched : All IsSome l.known → l.cache ≡ l.fn.cache;
    }

abbrev pub decreases-walk-sibling : goal.decreases-walk-sibling
decreases-walk-sibling l = length l.rest
