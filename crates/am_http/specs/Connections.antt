-- The connections of a front, as pairs of a number and the bytes that came.
use Rattle.std.specs.Prelude.{ℕ, List, [], ◌∷◌, Option, Some, None, if◌then◌else◌, ◌==◌}
use Rattle.am_http.specs.declared.request.Fed.{Fed}
use Rattle.am_http.specs.declared.request.Fed.TheVariants as fed

-- the bytes of a connection, while it isn't decided
unfoldable pub bytes_of : ℕ → List (ℕ × List ℕ) → Option (List ℕ)
bytes_of c [] = None
bytes_of c (p ∷ connections) = if c == p.0 then Some p.1 else bytes_of c connections

-- what stays of a connection with these bytes after this verdict: a decided one is taken out
abbrev pub left_open : Fed → List ℕ → Option (List ℕ)
left_open fed.Waits bytes = Some bytes
left_open (fed.Refused refusal) bytes = None
left_open fed.Ready bytes = None
left_open (fed.Request request) bytes = None
