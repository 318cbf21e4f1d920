use Rattle.std.proofs.Common.{◌≡◌, ◌++◌}
use Rattle.am_quorum.specs.Operations.{connections_of}
use Rattle.am_quorum.proofs.docket.Docket.connections.Given as goal

-- what is listed so far, and the connections of the rest, are all
abbrev pub invariant-loop-operation : goal.invariant-loop-operation
invariant-loop-operation l = l.connections.items ++ connections_of l.operation-iterator ≡ connections_of l.self.operations
