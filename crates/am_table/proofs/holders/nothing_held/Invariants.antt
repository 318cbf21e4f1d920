use Rattle.std.proofs.Common.{◌≡◌, ℕ, List, Some, map, take}
use Rattle.std.specs.List.{Contains}
use Rattle.std.specs.Option.{ForSome}
use Rattle.am_table.specs.Holders.{Shown, held_at, none_hold}
use Rattle.am_table.proofs.holders.nothing_held.Given as goal

abbrev pub invariant-loop-question : goal.invariant-loop-question
invariant-loop-question l =
    record {
      asked : (name : List ℕ) → Contains (map (λ q. q.1.name) (take l.question-index l.questions)) name → held_at l.held name ≡ Some none_hold;
      each : (name : List ℕ) → ForSome (held_at l.held name) (λ (shown : Shown). shown ≡ none_hold);
    }
