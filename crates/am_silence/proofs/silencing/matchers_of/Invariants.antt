use Rattle.std.proofs.Common.{◌≡◌, map, take}
use Rattle.am_silence.proofs.silencing.matchers_of.Given as goal

abbrev pub invariant-loop-silence : goal.invariant-loop-silence
invariant-loop-silence l = map (λ list. list.now) l.lists.items ≡ map (λ s. s.held.now.value.matchers) (take l.silence-index l.silences)
