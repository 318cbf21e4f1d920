-- The checks of a whole head, in their order: the first that fails is the refusal.
use Rattle.std.specs.Prelude.{ℕ, Bool, ◌&&◌, nat_lt, List, Option, Some, None, Result, Ok, Err, if◌then◌else◌, ◌==◌, codes, map, is_none, unwrap_or}
use Rattle.std.specs.List.{before_first, after_first}
use Rattle.std.specs.Str.{bytes_eq}
use Rattle.httparse.specs.Grammar.{RequestHead}
use Rattle.httparse.specs.Spans.{name_and_value}
use Rattle.am_http.specs.declared.paths.Path.{Path}
use Rattle.am_http.specs.declared.refusal.FrontRefusal.{FrontRefusal}
use Rattle.am_http.specs.declared.refusal.FrontRefusal.TheVariants.{BadHead, MissingLength, TransferCoding, LongBody, NoSuchPath, WrongMethod}
use Rattle.am_http.specs.declared.request.Endpoint.{Endpoint}
use Rattle.am_http.specs.declared.request.Method.{Method}
use Rattle.am_http.specs.declared.request.Method.TheVariants.{Get, Post, Delete}
use Rattle.am_http.specs.Fields.{Fields, has_field, content_length, tenant_of}
use Rattle.am_http.specs.Paths.{ready_path, path_at, takes, endpoint_of}

-- what a head that passes asks for
pub data Asked : Type 0 where
  -- whether the program is ready
  Ready : Asked
  -- something of a tenant
  Call : (tenant : List ℕ) (method : Method) (endpoint : Endpoint) (query : List ℕ) → Asked

-- and the length of the body that follows it
pub record Wanted : Type 0 where
  pub asked : Asked
  pub body_len : ℕ

-- the part of a target up to its first '?'
abbrev pub path_in : List ℕ → List ℕ
path_in target = before_first (λ b. b == 63) target

-- the part of a target after its first '?'
abbrev pub query_in : List ℕ → List ℕ
query_in target = after_first (λ b. b == 63) target

infixl 10 ◌>>=◌
-- the next check, where this one passed
abbrev pub ◌>>=◌ : {A B : Type 0} → Result A FrontRefusal → (A → Result B FrontRefusal) → Result B FrontRefusal
(Ok x) >>= f = f x
(Err refusal) >>= f = Err refusal

-- a check by itself: the refusal where the test tells
abbrev pub refused_if : Bool → FrontRefusal → Result (Unit {0}) FrontRefusal
refused_if bad refusal = if bad then Err refusal else Ok tt

-- the value, or else a refusal
abbrev pub or_refused : {A : Type 0} → Option A → FrontRefusal → Result A FrontRefusal
or_refused None refusal = Err refusal
or_refused (Some x) refusal = Ok x

-- the greatest length of a body, in bytes
abbrev pub longest_body : ℕ
longest_body = 1_048_576

-- the length of the body: it is stated in one way, a POST states it, it comes in no transfer coding, and it is at most
-- `longest_body` bytes
unfoldable pub body_stated : List ℕ → Fields → Result ℕ FrontRefusal
body_stated method fields = do
  stated ← content_length fields
  _ ← refused_if (bytes_eq method (codes "POST") && is_none stated) MissingLength
  _ ← refused_if (has_field (codes "Transfer-Encoding") fields) TransferCoding
  _ ← refused_if (nat_lt longest_body (unwrap_or stated 0)) LongBody
  Ok (unwrap_or stated 0)

-- the methods that some path takes
abbrev pub method_of : List ℕ → Option Method
method_of method =
    if bytes_eq method (codes "GET") then Some Get
    else (if bytes_eq method (codes "POST") then Some Post
    else (if bytes_eq method (codes "DELETE") then Some Delete else None))

-- the method, where the path takes it
abbrev pub taken : Path → Option Method → Option Method
taken path None = None
taken path (Some method) = if takes path method then Some method else None

-- a tenant's request with this method at this path: there is the path, and it takes the method
unfoldable pub called : List ℕ → List ℕ → List ℕ → List ℕ → Result Asked FrontRefusal
called tenant method path query = do
  -- GET of this path needs no tenant, and no other method is taken
  _ ← refused_if (bytes_eq path ready_path) WrongMethod
  there ← or_refused (path_at path) NoSuchPath
  taken ← or_refused (taken there (method_of method)) WrongMethod
  Ok (Call tenant taken (endpoint_of there path) query)

-- whether the program is asked if it is ready
abbrev pub asks_ready : List ℕ → List ℕ → Bool
asks_ready method path = bytes_eq path ready_path && bytes_eq method (codes "GET")

-- what is asked for: it is whether the program is ready, or there is a tenant
unfoldable pub asked : List ℕ → List ℕ → Fields → Result Asked FrontRefusal
asked method target fields =
    if asks_ready method (path_in target) then Ok Ready
    else tenant_of fields >>= (λ tenant. called tenant method (path_in target) (query_in target))

-- the checks of a head's method, target and fields
unfoldable pub checked : List ℕ → List ℕ → Fields → Result Wanted FrontRefusal
checked method target fields = do
  body_len ← body_stated method fields
  for_what ← asked method target fields
  Ok (record { asked = for_what; body_len = body_len })

-- the checks of a head, if the text is one
abbrev pub judged : Option RequestHead → Result Wanted FrontRefusal
judged None = Err BadHead
judged (Some h) = checked h.method h.target (map name_and_value h.fields)
