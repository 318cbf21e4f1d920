use Rattle.std.proofs.Common.{◌≡◌, false}
use Rattle.std.specs.List.{fold}
use Rattle.am_transfer.specs.Pieces.{Reach, reach_with}
use Rattle.am_transfer.proofs.spans.reach_of.Given as goal

abbrev pub invariant-loop-place : goal.invariant-loop-place
invariant-loop-place l =
    let start : Reach = record { place = 0; is_complete = false } in
    fold reach_with l.reach l.place-iterator ≡ fold reach_with start l.spans.entries
