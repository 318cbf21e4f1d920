use Rattle.std.proofs.Common.{◌≡◌, map, take}
use Rattle.am_silence.specs.Held.{all_held, held_silence}
use Rattle.am_silence.proofs.held.all_of.Given as goal

abbrev pub invariant-loop-kept : goal.invariant-loop-kept
invariant-loop-kept l = map held_silence l.all.items ≡ all_held (take l.kept-index l.silences)
