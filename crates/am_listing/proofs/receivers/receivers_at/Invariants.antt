use Rattle.std.proofs.Common.{◌≡◌, ℕ, ◌++◌, ◌==◌, drop}
use Rattle.std.specs.BTreeSet.{contains}
use Rattle.std.specs.List.{filter_map, list_any}
use Rattle.std.specs.Ordering.{nat_cmp}
use Rattle.am_listing.specs.Receivers.{once, receiver_at, receivers_at}
use Rattle.am_listing.proofs.Lists.{apart}
use Rattle.am_listing.proofs.receivers.receivers_at.Given as goal

abbrev pub invariant-loop-route : goal.invariant-loop-route
invariant-loop-route l = record {
  so_far : l.places.items ++ apart l.places.items (once (filter_map (receiver_at l.config) (drop l.route-index l.routes))) ≡ receivers_at l.config l.routes;
  known : (q : ℕ) → contains nat_cmp l.seen q ≡ list_any (λ d. q == d) l.places.items;
}
