use Rattle.std.proofs.Common.{◌≡◌, map, take}
use Rattle.regex.specs.Strings.{matcher_pattern}
use Rattle.am_pattern.specs.Taking.{has_match}
use Rattle.am_pattern.proofs.building.Built.have_matches.Given as goal

abbrev pub invariant-loop-value : goal.invariant-loop-value
invariant-loop-value l =
    record {
      pattern : matcher_pattern l.matcher ≡ matcher_pattern l.initial.matcher;
      found : l.found.items ≡ map (λ value. has_match l.self.source value.now) (take l.value-index l.values);
    }
