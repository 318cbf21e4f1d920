-- The codes under which the program prints refused joins and leaves.
use Rattle.std.specs.Prelude.{ℕ, List, codes}
use Rattle.am_ring.specs.declared.refusal.RingRefusal.{RingRefusal}
use Rattle.am_ring.specs.declared.refusal.RingRefusal.TheVariants.{Full, Small, WrongInstance}

-- the code of a refusal
abbrev pub code_of : RingRefusal → List ℕ
code_of Full = codes "Ri1"
code_of Small = codes "Ri2"
code_of WrongInstance = codes "Ri3"
