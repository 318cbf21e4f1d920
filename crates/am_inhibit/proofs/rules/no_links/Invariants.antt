use Rattle.std.proofs.Common.{◌≡◌, [], All, length}
use Rattle.am_inhibit.specs.Links.{lists_of}
use Rattle.am_inhibit.proofs.rules.no_links.Given as goal

abbrev pub invariant-loop : goal.invariant-loop
invariant-loop l = record { count : length l.links.items ≡ l.counter; none : All (λ lists. lists ≡ []) (lists_of l.links.items) }
