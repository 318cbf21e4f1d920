use Rattle.am_table.proofs.column.ask_values.Goals as goal

pub ask_alike-requires-clause-alike : goal.ask_alike-requires-clause-alike
ask_alike-requires-clause-alike c = rw c.deref.ensures.value (c.requires.indexed c.in-Some.index c.in-Some.is).alike
