use Rattle.am_table.proofs.column.ask.Goals as goal

pub ask_index-requires-clause-index : goal.ask_index-requires-clause-index
ask_index-requires-clause-index c = c.requires.indexed c.in-Some.index c.in-Some.is
