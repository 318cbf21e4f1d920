use Rattle.std.proofs.Common.{◌≡◌, [], map, take}
use Rattle.am_silence.specs.Rows.{ids_at}
use Rattle.am_silence.proofs.silenced.is_flagged.Given as goal

abbrev pub invariant-loop-row : goal.invariant-loop-row
invariant-loop-row l = ids_at (take l.row-index l.ids) (take l.row-index (map (λ row. row.items) l.rows)) l.place ≡ []
