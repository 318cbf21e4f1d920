-- Places in a JSON value, as texts.
use Rattle.std.specs.Prelude.{ℕ, ◌==◌, List, ◌++◌, length, codes, if◌then◌else◌}

-- the value at a key of an object: `tenants.a`, and at the top `tenants`
abbrev pub at_key : List ℕ → List ℕ → List ℕ
at_key place key = (if length place == 0 then place else place ++ codes ".") ++ key
