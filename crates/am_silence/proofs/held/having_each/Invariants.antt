use Rattle.std.proofs.Common.{◌≡◌, filter, map, take}
use Rattle.am_silence.specs.Having.{has_borrowed}
use Rattle.am_silence.specs.Held.{all_held, held_silence}
use Rattle.am_silence.proofs.held.having_each.Given as goal

abbrev pub invariant-loop-kept : goal.invariant-loop-kept
invariant-loop-kept l =
    map held_silence l.found.items
    ≡ filter (λ s. has_borrowed s.details.matchers l.wanted) (all_held (take l.kept-index l.silences))
