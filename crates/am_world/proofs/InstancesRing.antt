-- Two facts of what went well are one.
use Rattle.std.proofs.Common.{OnOk, Result, Ok, Err}

pub on_ok_both : {X E : Type 0} (P Q : Type 0) (r : Result X E) → OnOk r P → OnOk r Q → OnOk r (P × Q)
on_ok_both P Q (Ok u) p q = (p, q)
on_ok_both P Q (Err e) p q = tt
