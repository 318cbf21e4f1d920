use Rattle.std.proofs.Common.{◌≡◌, ℕ, List, drop}
use Rattle.am_limits_file.specs.Changes.{change_for, names, noted, set_of}
use Rattle.am_limits_file.proofs.changes.note_all.Given as goal

-- what is set so far, once the rest is noted, is what is to be set
abbrev pub invariant-loop-named : goal.invariant-loop-named
invariant-loop-named l = (t : List ℕ) →
    noted (names t (drop l.named-index l.tenants)) (change_for t l.before l.after) (set_of t l.changes.entries)
    ≡ noted (names t l.tenants) (change_for t l.before l.after) (set_of t l.fn.changes.entries)
