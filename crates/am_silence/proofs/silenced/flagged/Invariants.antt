use Rattle.std.proofs.Common.{◌≡◌, map, take}
use Rattle.am_silence.specs.Rows.{ids_at}
use Rattle.am_silence.proofs.silenced.flagged.Given as goal

abbrev pub invariant-loop-number : goal.invariant-loop-number
invariant-loop-number l = l.found.items ≡ ids_at (take l.number l.ids) (take l.number (map (λ row. row.items) l.rows)) l.place
