-- What a read or a write leaves, by its answer.
use Rattle.std.proofs.Common.{◌≡◌, ◌≢◌, ◌∙◌, ℕ, zero, suc, List, [], take, Option, None, Some, Result, Ok, Err, refl, sym, ap, subst, append-nil, arith}
use Rattle.std.specs.Io.{WritesAtMost}
use Rattle.std.specs.Io.KnownBytes.{Appends, Consumes, Keeps, WriteAppends}
use Rattle.std.specs.declared.io.Error.{Error}
use Rattle.am_serve.specs.declared.socket.Moved.{Moved}
use Rattle.am_serve.specs.declared.socket.Moved.TheVariants.{Bytes, Broken}
use Rattle.am_serve.specs.Sockets.{ComesTo, Writes, count_of}

-- known bytes that stay lose nothing, and gain nothing
none_read : (old new : Option (List ℕ)) → Keeps old new → Consumes old new []
none_read None new h = tt
none_read (Some x) None h = absurd h
none_read (Some x) (Some y) h = sym h

none_written : (old new : Option (List ℕ)) → Keeps old new → Appends old new []
none_written None new h = tt
none_written (Some x) None h = absurd h
none_written (Some x) (Some y) h = h ∙ sym (append-nil x)

-- an answer of so many bytes
answered : (n : ℕ) (moved : Moved) → (n ≡ 0 → moved ≡ Broken) → (n ≢ 0 → moved ≡ Bytes n) → count_of moved ≡ n
answered zero moved none some = ap count_of (none refl)
answered (suc n) moved none some = ap count_of (some (λ h. absurd (omega (arith, h))))

pub write_came : (old new : Option (List ℕ)) (answer : Result ℕ Error) (moved : Moved) (bytes : List ℕ) → ComesTo answer moved → WritesAtMost answer bytes → WriteAppends old new answer bytes → Writes old new moved bytes
write_came old new (Ok n) moved bytes comes bound appends =
    let count = answered n moved comes.0 comes.1 in
    (omega (arith, count, bound), subst (λ k. Appends old new (take k bytes)) (sym count) appends)
write_came old new (Err e) moved bytes comes bound appends = (omega (arith, comes.none), subst (λ k. Appends old new (take k bytes)) (sym comes.none) (none_written old new appends))
