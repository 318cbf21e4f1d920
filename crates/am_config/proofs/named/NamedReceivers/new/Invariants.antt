use Rattle.std.proofs.Common.{◌≡◌, false, take}
use Rattle.am_config.specs.Checks.{is_repeated}
use Rattle.am_config.specs.Places.{HasPlaces}
use Rattle.am_config.proofs.named.NamedReceivers.new.Given as goal

abbrev pub invariant-loop-place : goal.invariant-loop-place
invariant-loop-place l = record {
  apart : is_repeated (take l.place l.receivers) ≡ false;
  places : HasPlaces (take l.place l.receivers) l.places;
}
