use Rattle.std.proofs.Common.{◌≡◌, count_by, not, take}
use Rattle.am_silence.specs.Held.{all_held}
use Rattle.am_silence.specs.Silences.{is_expired}
use Rattle.am_silence.proofs.held.unexpired_of.Given as goal

abbrev pub invariant-loop-kept : goal.invariant-loop-kept
invariant-loop-kept l =
    l.count ≡ count_by (λ s. not (is_expired l.moment s.details)) (all_held (take l.kept-index l.silences))
