use Rattle.std.proofs.Common.{◌≡◌, ℕ, All, List, Some, map, take}
use Rattle.std.specs.List.{Contains}
use Rattle.am_labels.specs.Sets.{IsLabelSet}
use Rattle.am_table.specs.Holders.{held_at, holders_from, none_hold, with_holders}
use Rattle.am_table.proofs.holders.holders_of.Given as goal

abbrev pub invariant-loop-place : goal.invariant-loop-place
invariant-loop-place l =
    record {
      label_sets : All IsLabelSet (take l.place (map (λ set. set.now) l.sets));
      held : (name : List ℕ) → Contains (map (λ q. q.1.name) l.questions) name
          → held_at l.held name ≡ Some (with_holders (holders_from 0 name (take l.place (map (λ set. set.now) l.sets))) none_hold);
    }
