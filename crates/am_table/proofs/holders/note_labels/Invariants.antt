use Rattle.std.proofs.Common.{◌≡◌, ℕ, List, take}
use Rattle.std.specs.Option.{option_map}
use Rattle.am_table.specs.Holders.{held_at, labels_named, with_holders}
use Rattle.am_table.proofs.holders.note_labels.Given as goal

abbrev pub invariant-loop-label : goal.invariant-loop-label
invariant-loop-label l =
    (name : List ℕ) → held_at l.held name ≡ option_map (with_holders (labels_named l.place name (take l.label-index l.labels))) (held_at l.fn.held name)
