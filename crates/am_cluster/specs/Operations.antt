-- The open operations of a tenant at an instance, and what each of them waits for (am_quorum).
pub use Rattle.am_quorum.specs.declared.operation.Answered.{Answered}
pub use Rattle.am_quorum.specs.declared.operation.Operation.{Operation}
pub use Rattle.am_quorum.specs.declared.operation.Stage.{Stage}
pub use Rattle.am_quorum.specs.declared.operation.Stage.TheVariants.{Undecided, Decided}
pub use Rattle.am_quorum.specs.Operations.{operation_at, operation_of, with_operation, without_operation}
