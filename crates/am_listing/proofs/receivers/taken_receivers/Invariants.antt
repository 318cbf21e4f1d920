use Rattle.std.proofs.Common.{◌≡◌, ◌++◌, drop, map}
use Rattle.am_pattern.specs.Asking.{Stays}
use Rattle.am_pattern.specs.Taking.{takes}
use Rattle.am_config.specs.declared.parts.Receiver.{Receiver}
use Rattle.am_payload.specs.Receivers.{names_of}
use Rattle.am_listing.proofs.receivers.taken_receivers.Given as goal

abbrev pub invariant-loop-receiver : goal.invariant-loop-receiver
invariant-loop-receiver l = record {
  so_far : l.taken.items ++ map (λ name. takes l.pattern name) (map (λ (r : Receiver). r.name) (drop l.receiver-index l.receivers)) ≡ map (λ name. takes l.pattern name) (names_of l.config);
  stays : Stays l.initial.cache l.cache;
}
