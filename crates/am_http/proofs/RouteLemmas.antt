-- The router of all paths finds what stands at each.
use Rattle.std.proofs.Common.{◌≡◌, ℕ, Bool, true, false, List, [], ◌∷◌, ◌++◌, refl, sym, ap, subst, ◌∙◌, cond, Option, Some, None, option_map, codes}
use Rattle.std.specs.Str.{bytes_eq}
use Rattle.matchit.specs.Rows.{RowsOf}
use Rattle.matchit.specs.Router.{RouteOf}
use Rattle.matchit.specs.Seek.{seek, or_else as or_next}
use Rattle.matchit.proofs.OnLiterals.{matchit_on_literals}
use Rattle.am_http.specs.declared.paths.Path.{Path}
use Rattle.am_http.specs.declared.paths.Path.TheVariants.{AlertGroups, Alerts, Receivers, Silences, Silence, Configuration}
use Rattle.am_http.specs.Paths.{below, is_segment, or_else, path_at, silence_root, HasPaths}
use Rattle.am_http.specs.Routes.{with_route}
use Rattle.am_http.proofs.PathLemmas.{Bytes, Bytes-test, Literal, nothing, row_first, row_param}

-- the router, route by route
abbrev pub all_routes : RowsOf (RouteOf Path)
all_routes =
    with_route (codes "/api/v1/alerts") Configuration
    (with_route (codes "/alertmanager/api/v2/silences") Silences
    (with_route (codes "/alertmanager/api/v2/silence/{id}") Silence
    (with_route (codes "/alertmanager/api/v2/receivers") Receivers
    (with_route (codes "/alertmanager/api/v2/alerts") Alerts
    (with_route (codes "/alertmanager/api/v2/alerts/groups") AlertGroups [])))))

abbrev plain : List ℕ → Path → List ℕ × RouteOf Path
plain text path = (text, record { pattern = text; text = text; names = []; value = path })

abbrev silence_row : RouteOf Path
silence_row =
    record {
      pattern = silence_root ++ 256 ∷ [];
      text = codes "/alertmanager/api/v2/silence/{id}";
      names = (30, 32) ∷ [];
      value = Silence;
    }

-- the routes in their order
abbrev rows : RowsOf (RouteOf Path)
rows =
    plain (codes "/alertmanager/api/v2/alerts/groups") AlertGroups
    ∷ plain (codes "/alertmanager/api/v2/alerts") Alerts
    ∷ plain (codes "/alertmanager/api/v2/receivers") Receivers
    ∷ (silence_root ++ 256 ∷ [], silence_row)
    ∷ plain (codes "/alertmanager/api/v2/silences") Silences
    ∷ plain (codes "/api/v1/alerts") Configuration
    ∷ []

rows_are : all_routes ≡ rows
unfolding with_route matchit_on_literals
rows_are = refl

abbrev seen : Option (RouteOf Path) → Option Path
seen found = option_map (λ route. route.value) found

or_else-none : (o : Option Path) → or_else o None ≡ o
or_else-none None = refl
or_else-none (Some path) = refl

seen-or : (a b : Option (RouteOf Path)) → seen (or_next a b) ≡ or_else (seen a) (seen b)
seen-or None b = refl
seen-or (Some route) b = refl

-- a literal route before those that are known
abbrev Seen : RowsOf (RouteOf Path) → List ℕ → Option Path → Option Path → Type 0
Seen rest path found silence = seen (seek 0 rest path) ≡ or_else found silence

before : (text : List ℕ) (there : Path) (rest : RowsOf (RouteOf Path)) (path : List ℕ) (found silence : Option Path) → Bytes text
    → Seen rest path found silence → Seen (plain text there ∷ rest) path (cond (bytes_eq path text) (Some there) found) silence
before text there rest path found silence h known =
    ap seen (row_first text (plain text there).1 rest path h) ∙ by_test (bytes_eq path text)
  where
    by_test : (t : Bool) → seen (or_next (cond t (Some (plain text there).1) None) (seek 0 rest path)) ≡ or_else (cond t (Some there) found) silence
    by_test true = refl
    by_test false = known

-- the route with the identifier
seen-silence : (t : Bool) → seen (cond t (Some silence_row) None) ≡ cond t (Some Silence) None
seen-silence true = refl
seen-silence false = refl

with_silence : (rest : RowsOf (RouteOf Path)) (path : List ℕ) (found : Option Path) → Literal rest → Seen rest path found None
    → Seen ((silence_root ++ 256 ∷ [], silence_row) ∷ rest) path found (cond (is_segment (below silence_root path)) (Some Silence) None)
with_silence rest path found l known =
    ap seen (row_param silence_root silence_row rest path (Bytes-test silence_root refl) l)
    ∙ seen-or (seek 0 rest path) (cond (is_segment (below silence_root path)) (Some silence_row) None)
    ∙ rw (known, or_else-none found, seen-silence (is_segment (below silence_root path))) refl

no_rows : (path : List ℕ) → Seen [] path None None
no_rows path = ap seen (nothing {K = RouteOf Path} 0 path)

finds : HasPaths rows
unfolding path_at
finds path =
    let silences = codes "/alertmanager/api/v2/silences" in
    let configuration = codes "/api/v1/alerts" in
    before (codes "/alertmanager/api/v2/alerts/groups") AlertGroups _ path _ _ (Bytes-test (codes "/alertmanager/api/v2/alerts/groups") refl)
    (before (codes "/alertmanager/api/v2/alerts") Alerts _ path _ _ (Bytes-test (codes "/alertmanager/api/v2/alerts") refl)
    (before (codes "/alertmanager/api/v2/receivers") Receivers _ path _ _ (Bytes-test (codes "/alertmanager/api/v2/receivers") refl)
    (with_silence _ path _ (Bytes-test silences refl, (Bytes-test configuration refl, tt))
    (before silences Silences _ path _ _ (Bytes-test silences refl)
    (before configuration Configuration _ path _ _ (Bytes-test configuration refl) (no_rows path))))))

pub finds_all : HasPaths all_routes
finds_all = subst HasPaths (sym rows_are) finds
