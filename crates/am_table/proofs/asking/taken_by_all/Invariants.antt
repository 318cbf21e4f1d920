use Rattle.std.proofs.Common.{◌≡◌, ◌+◌, ◌≤◌, length, map, take}
use Rattle.am_pattern.specs.Asking.{Stays}
use Rattle.am_match.specs.Matchers.{patterns_of}
use Rattle.am_match.specs.Meaning.{all_take}
use Rattle.am_table.proofs.asking.taken_by_all.Given as goal

abbrev pub invariant-loop-matcher : goal.invariant-loop-matcher
invariant-loop-matcher l =
    record {
      stays : Stays l.initial.cache l.cache;
      taken : l.taken.items ≡ map (λ set. all_take (take l.matcher-index l.matchers) set.now) l.sets;
      misses : l.cache.misses ≤ l.initial.cache.misses + length (patterns_of (take l.matcher-index l.matchers));
    }
