use Rattle.std.proofs.Common.{◌≡◌, map, take}
use Rattle.am_silence.proofs.silencing.ids_of.Given as goal

abbrev pub invariant-loop-silence : goal.invariant-loop-silence
invariant-loop-silence l = l.ids.items ≡ map (λ s. s.id.now) (take l.silence-index l.silences)
