-- What a link says of what goes over it.
use Rattle.std.specs.Prelude.{ℕ, Bool, List, Option}

-- of a piece: whether it came
abbrev pub Carries : Type 1
Carries = List ℕ → Bool → Type 0

-- of a request, and of the status that the receiver answers to it, if it does: the status that was read of the answer
abbrev pub Answers : Type 1
Answers = List ℕ → Option ℕ → Option ℕ → Type 0
