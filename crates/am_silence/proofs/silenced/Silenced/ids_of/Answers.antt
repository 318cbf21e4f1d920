use Rattle.std.proofs.Common.{map}
use Rattle.am_silence.proofs.RowLemmas.{column_seen, rows_reach}
use Rattle.am_silence.proofs.silenced.Silenced.ids_of.Goals as goal

pub flagged-requires-clause-within : goal.flagged-requires-clause-within
flagged-requires-clause-within c =
    let s = c.self.inside in
    let rows = map (λ row. row.items) s.rows.items in
    let seen = column_seen s.count c.args.place s.ids.items rows c.args.self.now c.self.view_is c.requires in
    rw c.deref-2.ensures.value (rows_reach s.count c.args.place s.ids.items s.rows.items c.self.invariant seen.0)

pub returns : goal.returns
returns c =
    let s = c.self.inside in
    let rows = map (λ row. row.items) s.rows.items in
    let seen = column_seen s.count c.args.place s.ids.items rows c.args.self.now c.self.view_is c.requires in
    rw (← seen.1) (rw (c.deref.ensures.value, c.deref-2.ensures.value) at c.flagged.ensures)
