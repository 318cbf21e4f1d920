use Rattle.std.proofs.Common.{◌∙◌, length, map, sym}
use Rattle.std.proofs.lemmas.List.{length-map}
use Rattle.am_silence.proofs.RowLemmas.{columns_are, rows_fit}
use Rattle.am_silence.proofs.silencing.by_rows.Goals as goal

pub new-requires : goal.new-requires
new-requires c =
    rw (c.requires.rows, c.requires.ids)
    (rows_fit (map (λ set. set.now) c.args.sets.now) c.args.silences.now (length c.args.sets.now) (sym (length-map c.args.sets.now (λ set. set.now))))

pub returns : goal.returns
returns c =
    (rw (c.requires.rows, c.requires.ids) at c.new.ensures)
    ∙ columns_are (map (λ set. set.now) c.args.sets.now) c.args.silences.now (length c.args.sets.now) (sym (length-map c.args.sets.now (λ set. set.now)))
