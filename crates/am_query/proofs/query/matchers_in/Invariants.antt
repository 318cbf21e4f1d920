use Rattle.std.proofs.Common.{◌≡◌, All, drop, take, true}
use Rattle.std.specs.List.{list_all}
use Rattle.am_text.proofs.OutcomeLemmas.{with_front}
use Rattle.am_pattern.specs.Asking.{Stays}
use Rattle.am_pattern.specs.Kept.{HasRegex}
use Rattle.am_query.specs.Patterns.{patterns_of_parameters}
use Rattle.am_query.specs.Queries.{matchers_in}
use Rattle.am_query.specs.Stopping.{is_fine}
use Rattle.am_query.proofs.query.matchers_in.Given as goal

abbrev pub invariant-loop-parameter : goal.invariant-loop-parameter
invariant-loop-parameter l = record {
  so_far : with_front l.matchers.items (matchers_in (drop l.parameter-index l.parameters)) ≡ matchers_in l.parameters;
  fine : list_all is_fine (take l.parameter-index l.parameters) ≡ true;
  built : All HasRegex (patterns_of_parameters (take l.parameter-index l.parameters));
  stays : Stays l.initial.cache l.cache;
}
