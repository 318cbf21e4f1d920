-- The status of a response.
use Rattle.std.specs.Prelude.{◌≡◌, ◌≤◌, ℕ, List, length}
use Rattle.httparse.specs.Grammar.{ReadsResponse, ResponseHead, status_code}

-- how many field lines a head has at most
abbrev pub most_fields : ℕ
most_fields = 64

-- the bytes begin with a response head of this status that has at most so many field lines
abbrev pub IsStatusOf : List ℕ → ℕ → Type 0
IsStatusOf bytes status =
    (head : ResponseHead) × (rest : List ℕ) × ReadsResponse bytes head rest × (length head.fields ≤ most_fields) × (status ≡ status_code head)
