use Rattle.std.proofs.Common.{◌≡◌, filter, map, take}
use Rattle.am_silence.specs.Held.{all_held, held_silence}
use Rattle.am_silence.specs.Silences.{is_active}
use Rattle.am_silence.proofs.held.active_among.Given as goal

abbrev pub invariant-loop-kept : goal.invariant-loop-kept
invariant-loop-kept l =
    map held_silence l.active.items
    ≡ filter (λ s. is_active l.moment s.details.starts_at s.details.ends_at) (all_held (take l.kept-index l.silences))
