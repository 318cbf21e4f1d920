use Rattle.std.proofs.Common.{◌≡◌, map, take}
use Rattle.am_table.specs.Tables.{questions_from}
use Rattle.am_table.proofs.questions.questions_of.Given as goal

abbrev pub invariant-loop-number : goal.invariant-loop-number
invariant-loop-number l = l.questions.items ≡ questions_from 0 (take l.number (map (λ list. list.now) l.lists))
