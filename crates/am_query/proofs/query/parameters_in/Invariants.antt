use Rattle.std.proofs.Common.{◌≡◌, ◌++◌, map}
use Rattle.form_urlencoded.specs.Parse.{owned_pairs_left}
use Rattle.am_query.specs.Queries.{parameter_of, parameters_in}
use Rattle.am_query.proofs.query.parameters_in.Given as goal

abbrev pub invariant-loop-pair : goal.invariant-loop-pair
invariant-loop-pair l = l.parameters.items ++ map parameter_of (owned_pairs_left l.pair-iterator) ≡ parameters_in l.query
