-- The paths, what stands at each, and which methods it takes.
use Rattle.std.specs.Prelude.{◌≡◌, ℕ, Bool, true, false, ◌&&◌, not, nat_lt, List, [], ◌∷◌, length, Option, Some, None, option_map, if◌then◌else◌, ◌==◌, codes}
use Rattle.std.specs.List.{list_any}
use Rattle.std.specs.Str.{bytes_eq}
use Rattle.matchit.specs.Rows.{RowsOf}
use Rattle.matchit.specs.Seek.{first}
use Rattle.matchit.specs.Router.{RouteOf}
use Rattle.am_http.specs.declared.paths.Path.{Path}
use Rattle.am_http.specs.declared.paths.Path.TheVariants.{AlertGroups, Alerts, Receivers, Silences, Silence, Configuration}
use Rattle.am_http.specs.declared.request.Endpoint.{Endpoint}
use Rattle.am_http.specs.declared.request.Endpoint.TheVariants as endpoint
use Rattle.am_http.specs.declared.request.Method.{Method}
use Rattle.am_http.specs.declared.request.Method.TheVariants.{Get, Post, Delete}

-- the path at which the program says whether it is ready
abbrev pub ready_path : List ℕ
ready_path = codes "/ready"

-- the paths of requests that are one text each
abbrev pub table : List (List ℕ × Path)
table =
    (codes "/alertmanager/api/v2/alerts/groups", AlertGroups)
    ∷ (codes "/alertmanager/api/v2/alerts", Alerts)
    ∷ (codes "/alertmanager/api/v2/receivers", Receivers)
    ∷ (codes "/alertmanager/api/v2/silences", Silences)
    ∷ (codes "/api/v1/alerts", Configuration)
    ∷ []

-- what precedes the identifier in the path of one silence
abbrev pub silence_root : List ℕ
silence_root = codes "/alertmanager/api/v2/silence/"

-- what follows a beginning of a text, or nothing where the text has another beginning
abbrev pub below : List ℕ → List ℕ → List ℕ
below [] text = text
below (b ∷ beginning) [] = []
below (b ∷ beginning) (c ∷ text) = if b == c then below beginning text else []

-- one segment of a path, which isn't empty
abbrev pub is_segment : List ℕ → Bool
is_segment bytes = nat_lt 0 (length bytes) && not (list_any (λ b. b == 47) bytes)

-- what a list has at a path
abbrev pub found_in : List ℕ → List (List ℕ × Path) → Option Path
found_in path [] = None
found_in path (row ∷ rows) = if bytes_eq path row.0 then Some row.1 else found_in path rows

-- the first, or else the other
abbrev pub or_else : Option Path → Option Path → Option Path
or_else None other = other
or_else (Some path) other = Some path

-- what stands at a path: in the table, or a silence, whose identifier is the path's last segment, undecoded
unfoldable pub path_at : List ℕ → Option Path
path_at path =
    or_else (found_in path table) (if is_segment (below silence_root path) then Some Silence else None)

-- the methods that it takes
abbrev pub takes : Path → Method → Bool
takes path Get = true
takes Alerts Post = true
takes Silences Post = true
takes Silence Delete = true
takes Configuration Post = true
takes Configuration Delete = true
takes _ _ = false

-- the endpoint, where it stands at this path
abbrev pub endpoint_of : Path → List ℕ → Endpoint
endpoint_of Alerts path = endpoint.Alerts
endpoint_of AlertGroups path = endpoint.AlertGroups
endpoint_of Silences path = endpoint.Silences
endpoint_of Silence path = endpoint.Silence (below silence_root path)
endpoint_of Receivers path = endpoint.Receivers
endpoint_of Configuration path = endpoint.Configuration

-- a router finds just what stands at a path
abbrev pub HasPaths : RowsOf (RouteOf Path) → Type 0
HasPaths router = (path : List ℕ) → option_map (λ route. route.value) (first router path) ≡ path_at path
