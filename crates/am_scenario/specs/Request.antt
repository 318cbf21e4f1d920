-- The request of a `call` line, as it is sent.
use Rattle.std.specs.Prelude.{ℕ, List, [], ◌∷◌, ◌++◌, Option, None, Some, length, codes, decimal}
use Rattle.am_scenario.specs.declared.command.Request.{Request}

-- the end of a line: CR and LF
abbrev pub line_end : List ℕ
line_end = 13 ∷ 10 ∷ []

-- the header line that names the tenant, where there is one
abbrev pub tenant_line : Option (List ℕ) → List ℕ
tenant_line None = []
tenant_line (Some tenant) = codes "X-Scope-OrgID: " ++ (tenant ++ line_end)

-- request line, headers, an empty line, body
abbrev pub request_text : Request → List ℕ
request_text r =
    r.method ++ (codes " " ++ (r.path ++ (codes " HTTP/1.1" ++ (line_end ++ (codes "Host: amring" ++ (line_end
    ++ (tenant_line r.tenant ++ (codes "Content-Length: " ++ (decimal (length r.body) ++ (line_end ++ (line_end ++ r.body)))))))))))
