-- The steps by which matchers are taken from bytes.
use Rattle.std.proofs.Common.{◌≡◌, ℕ, zero, suc, ◌<◌, ◌≤◌, ◌-◌, List, [], ◌∷◌, ◌++◌, Ok, Err, refl, arith, ap, append_assoc, append-nil}
use Rattle.am_text.specs.Outcome.{◌>>=◌, Fails}
use Rattle.am_text.specs.declared.failure.Failure.{Failure}
use Rattle.am_text.specs.declared.failure.Failure.TheVariants.{Refused, OutOfMemory}
use Rattle.am_match.specs.declared.refusal.TakeRefusal.{TakeRefusal}
use Rattle.am_match.specs.Matchers.{MatcherText}
use Rattle.am_match.specs.Taking.{Taken, take_matcher, take_several}

-- the matchers taken so far, in front of those to come
abbrev pub before : List MatcherText → Taken (List MatcherText) → Taken (List MatcherText)
before found (Ok (ms, rest)) = Ok (found ++ ms, rest)
before found (Err refusal) = Err refusal

-- none is to be taken any more
pub several-none : (found : List MatcherText) (n : ℕ) (bytes : List ℕ) → n ≤ 0 → before found (take_several n bytes) ≡ Ok (found, bytes)
unfolding take_several
several-none found zero bytes none = rw append-nil
several-none found (suc n) bytes none = absurd (omega arith)

-- the next one can't be taken
several-stops : (n : ℕ) (bytes : List ℕ) (refusal : TakeRefusal) → 0 < n → take_matcher bytes ≡ Err refusal → take_several n bytes ≡ Err refusal
unfolding take_several
several-stops zero bytes refusal positive stop = absurd (omega arith)
several-stops (suc n) bytes refusal positive stop = rw stop

-- the same of a failure
pub several-fails : (found : List MatcherText) (n : ℕ) (bytes : List ℕ) (failure : Failure TakeRefusal) → 0 < n →
    Fails failure (take_matcher bytes) → Fails failure (before found (take_several n bytes))
several-fails found n bytes OutOfMemory positive fails = tt
several-fails found n bytes (Refused refusal) positive fails = ap (before found) (several-stops n bytes refusal positive fails)

-- the next one was taken
pub several-more : (found : List MatcherText) (n : ℕ) (bytes : List ℕ) (m : MatcherText) (rest : List ℕ) → 0 < n →
    take_matcher bytes ≡ Ok (m, rest) → before found (take_several n bytes) ≡ before (found ++ m ∷ []) (take_several (n - 1) rest)
unfolding take_several
several-more found zero bytes m rest positive one = absurd (omega arith)
several-more found (suc n) bytes m rest positive one =
    let less : suc n - 1 ≡ n = omega arith in
    rw (one, less) (moved (take_several n rest))
  where
    moved : (r : Taken (List MatcherText)) →
        before found (r >>= λ p. Ok (m ∷ p.0, p.1)) ≡ before (found ++ m ∷ []) r
    moved (Ok (ms, rest')) = rw append_assoc
    moved (Err refusal) = refl
