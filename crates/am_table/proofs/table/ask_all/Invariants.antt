use Rattle.std.proofs.Common.{◌+◌, ◌≤◌, length, map, take}
use Rattle.am_match.specs.Matchers.{patterns_of}
use Rattle.am_table.specs.Columns.{IsAnswered, IsColumnOf, IsIndexed, values_in}
use Rattle.am_table.specs.Tables.{IsTable, answer_of}
use Rattle.am_pattern.specs.Asking.{Stays}
use Rattle.am_table.proofs.table.ask_all.Given as goal

abbrev pub invariant-loop-number : goal.invariant-loop-number
invariant-loop-number l =
    record {
      stays : Stays l.fn.cache l.cache;
      misses : l.cache.misses ≤ l.fn.cache.misses + length (patterns_of (map (λ q. q.1) (take l.number l.questions)));
      column : IsColumnOf l.column.name.now (map (λ set. set.now) l.sets) l.column;
      indexed : IsIndexed l.column;
      last : IsAnswered (values_in l.column) l.last;
      table : IsTable (answer_of (take l.number l.questions)) (map (λ set. set.now) l.sets) (length l.fn.table.items) l.table.items;
    }
