-- The claims, said of the machine.
use Rattle.std.specs.Prelude.{◌≡◌, ℕ, ◌<◌, ◌≤◌, max, true, false, ◌⊎◌}
use Rattle.am_stays.specs.Places.{Place, same}
use Rattle.am_stays.proofs.Phases.{next, last}
use Rattle.am_stays.proofs.Machine.{Facts, World, goes_by, serves, best_of}

-- of any two that go by one era and are settled one holds each acknowledged stamp that isn't outlived
abbrev pub IsKept : World → Type 0
IsKept w =
    (x g : ℕ) (i j : Place) → w.facts.acknowledged x ≡ true → w.facts.outlived < x → same i j ≡ false → serves w.phase w.facts g i ≡ true → serves w.phase w.facts g j ≡ true → (x ≤ best_of w.facts g i) ⊎ (x ≤ best_of w.facts g j)

-- two answers by which a request can be decided have what was acknowledged before it came
abbrev pub IsSeen : Facts → Type 0
IsSeen w =
    (n x : ℕ) (spare : Place) (v u : ℕ) → w.undecided n ≡ true → w.before n x ≡ true → w.outlived < x → w.answer n (next spare) v ≡ true → w.answer n (last spare) u ≡ true → x ≤ max v u

-- after two answers in an era at most one goes by each earlier era
abbrev pub IsPast : World → Type 0
IsPast w =
    (n o g : ℕ) (i j k l : Place) (v u : ℕ) → w.facts.answer n i v ≡ true → w.facts.answer o j u ≡ true → w.facts.request_era n ≡ w.facts.request_era o → same i j ≡ false → g < w.facts.request_era n → goes_by w.phase w.facts g k ≡ true → goes_by w.phase w.facts g l ≡ true → same k l ≡ true

-- who got its place last holds nothing until it knows the era
abbrev pub IsEmpty : Facts → Type 0
IsEmpty w = (q : Place) → w.knows q ≡ false → same q (w.changed w.era) ≡ true → w.best q ≡ 0
