use Rattle.std.proofs.Common.{◌≡◌, ℕ, List, drop}
use Rattle.am_limit.specs.Books.{limits_of}
use Rattle.am_limits_file.specs.Changes.{limits_among, limits_by}
use Rattle.am_limits_file.proofs.reading.LimitsFile.book.Given as goal

-- the limits so far, and those of the rest, are those of the file
abbrev pub invariant-loop-named : goal.invariant-loop-named
invariant-loop-named l =
    (t : List ℕ) → limits_among t (limits_of t l.book) (drop l.named-index l.named-items) ≡ limits_by t l.self
