use Rattle.std.proofs.Common.{◌≡◌, ◌∷◌, [], map}
use Rattle.std.specs.List.{range_with_len}
use Rattle.am_pattern.specs.Asking.{Stays}
use Rattle.am_listing.specs.Receivers.{is_asked}
use Rattle.am_group_list.specs.Groups.{receiver_name}
use Rattle.am_group_list.proofs.listing.asked_routes.Given as goal

abbrev pub invariant-loop-number : goal.invariant-loop-number
invariant-loop-number l = record {
  so_far : l.asked.items ≡ map (λ number. is_asked l.receiver (receiver_name l.config number ∷ [])) (range_with_len 0 l.number);
  stays : Stays l.initial.cache l.cache;
}
