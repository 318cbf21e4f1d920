-- The messages between instances, as they are made and read (am_wire).
pub use Rattle.am_wire.specs.declared.message.Body.{Body}
pub use Rattle.am_wire.specs.declared.message.Body.TheVariants.{Get, Answer, Put, Ack, Ask, State, Got}
pub use Rattle.am_wire.specs.declared.message.Message.{Message}
use Rattle.std.specs.Prelude.{Bool, true, false}

-- it answers an operation: an Answer or an Ack
abbrev pub is_answer : Body → Bool
is_answer (Get operation) = false
is_answer (Answer operation incarnation items) = true
is_answer (Put operation items) = false
is_answer (Ack operation incarnation) = true
is_answer (Ask incarnation) = false
is_answer (State incarnation place is_last items) = false
is_answer (Got incarnation place) = false
