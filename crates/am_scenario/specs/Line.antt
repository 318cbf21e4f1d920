-- The scenario language: what a line asks for. A line is given without its line end.
use Rattle.std.specs.Prelude.{◌≡◌, ℕ, Bool, ◌||◌, ◌&&◌, ◌==◌, nat_lt, nat_le, if◌then◌else◌, List, [], length, slice_index, Option, None, Some, option_map, option_and_then, Result, Ok, Err, ⊤, codes}
use Rattle.std.specs.Str.{is_utf8, bytes_eq}
use Rattle.std.specs.List.{position_or_len, before_first, after_first}
use Rattle.serde_json.specs.Find.{as_str}
use Rattle.serde_json.specs.Read.{read}
use Rattle.am_tenant.specs.Names.{is_tenant_name}
use Rattle.am_scenario.specs.Number.{number_of}
use Rattle.am_scenario.specs.declared.line.LineFault.{LineFault}
use Rattle.am_scenario.specs.declared.line.LineFault.TheVariants.{NotACommand, OutOfMemory}
use Rattle.am_scenario.specs.declared.command.ClusterChange.{ClusterChange}
use Rattle.am_scenario.specs.declared.command.ClusterChange.TheVariants.{Join, Leave, Crash, Restart, Learn, Force}
use Rattle.am_scenario.specs.declared.command.Command.{Command}
use Rattle.am_scenario.specs.declared.command.Command.TheVariants.{Skip, At, Tick, Open, Bytes, Call, Limits}
use Rattle.am_scenario.specs.declared.command.Command.TheVariants.{Pump, Drop, Deliver, Hook, Change, LearnAll}
use Rattle.am_scenario.specs.declared.command.Request.{Request}
use denote.Ref.{Bor}

infixl 10 ◌>>=◌
abbrev pub ◌>>=◌ : {A B : Type 0} → Option A → (A → Option B) → Option B
o >>= f = option_and_then f o

-- the fault comes only where there is nothing to read, unless memory ran out
abbrev pub Fails : {Y : Type 0} → LineFault → Option Y → Type 0
Fails NotACommand o = o ≡ None
Fails OutOfMemory o = ⊤

-- what was read is what the definition gives
abbrev pub Reads : {X Y : Type 0} → (X → Y) → Result X LineFault → Option Y → Type 0
Reads view (Ok x) o = o ≡ Some (view x)
Reads view (Err e) o = Fails e o

-- two borrowed texts
abbrev pub both : Bor (List ℕ) × Bor (List ℕ) → List ℕ × List ℕ
both p = (p.0.now, p.1.now)

-- the texts before and behind the first space
unfoldable pub split : List ℕ → Option (List ℕ × List ℕ)
split s =
    if nat_lt (position_or_len (λ b. b == 32) s) (length s)
    then Some (before_first (λ b. b == 32) s, after_first (λ b. b == 32) s)
    else None

-- a word, which isn't empty
unfoldable pub word_of : List ℕ → Option (List ℕ)
word_of s = if length s == 0 then None else Some s

-- a word with a space behind it, and what stands behind the space
unfoldable pub word_then : List ℕ → Option (List ℕ × List ℕ)
word_then s = do
  p ← split s
  w ← word_of p.0
  Some (w, p.1)

-- the string that a JSON text is
unfoldable pub string_of : List ℕ → Option (List ℕ)
string_of s = option_and_then as_str (read s)

-- `-` names no tenant
abbrev pub tenant_of : List ℕ → Option (List ℕ)
tenant_of s = if bytes_eq s (codes "-") then None else Some s

-- a path with an empty body, or a path, a space and a body
abbrev pub target_by : List ℕ → Option (List ℕ × List ℕ) → Option (List ℕ × List ℕ)
target_by s None = option_map (λ path. (path, [])) (word_of s)
target_by s (Some p) = do
  path ← word_of p.0
  body ← string_of p.1
  Some (path, body)

unfoldable pub target_of : List ℕ → Option (List ℕ × List ℕ)
target_of s = target_by s (split s)

-- tenant, method, path and body
unfoldable pub request_of : List ℕ → Option Request
request_of s = do
  t ← word_then s
  m ← word_then t.1
  p ← target_of m.1
  Some (record { tenant = tenant_of t.0; method = m.0; path = p.0; body = p.1 })

-- what stands behind `at `, `open `, `bytes ` and `call `
unfoldable pub at_of : List ℕ → Option Command
at_of s = option_map At (number_of s)

unfoldable pub open_of : List ℕ → Option Command
open_of s = do
  c ← word_then s
  n ← number_of c.1
  Some (Open c.0 n)

unfoldable pub bytes_of : List ℕ → Option Command
bytes_of s = do
  c ← word_then s
  t ← string_of c.1
  Some (Bytes c.0 t)

unfoldable pub call_of : List ℕ → Option Command
call_of s = do
  c ← word_then s
  i ← word_then c.1
  n ← number_of i.0
  r ← request_of i.1
  Some (Call c.0 n r)

-- a number with a space behind it, and what stands behind the space
unfoldable pub number_then : List ℕ → Option (ℕ × List ℕ)
number_then s = do
  w ← word_then s
  n ← number_of w.0
  Some (n, w.1)

-- the tenant of this name
unfoldable pub tenant_named : List ℕ → Option (List ℕ)
tenant_named s = if is_tenant_name s then Some s else None

-- a number, and where a space stands behind it, another
abbrev pub numbers_by : List ℕ → Option (List ℕ × List ℕ) → Option (ℕ × Option ℕ)
numbers_by s None = option_map (λ n. (n, None)) (number_of s)
numbers_by s (Some p) = do
  n ← number_of p.0
  m ← number_of p.1
  Some (n, Some m)

unfoldable pub last_numbers : List ℕ → Option (ℕ × Option ℕ)
last_numbers s = numbers_by s (split s)

-- what stands behind `limits `
unfoldable pub limits_of : List ℕ → Option Command
limits_of s = do
  t ← word_then s
  tenant ← tenant_named t.0
  a ← number_then t.1
  b ← number_then a.1
  c ← number_then b.1
  d ← number_then c.1
  last ← last_numbers d.1
  Some (Limits tenant (record {
    alerts = a.0;
    silences = b.0;
    configuration = c.0;
    silence = d.0;
    notices = last.0;
    alert_bytes = last.1;
  }))

-- what stands behind `drop `: a tenant, the kind of a message, its sender and its receiver
unfoldable pub drop_of : List ℕ → Option Command
drop_of s = do
  t ← word_then s
  tenant ← tenant_named t.0
  kind ← number_then t.1
  from ← number_then kind.1
  to ← number_of from.1
  Some (Drop (record { tenant = tenant; kind = kind.0; from = from.0; to = to }))

-- what stands behind `deliver `: a tenant, and the name of a message: its sender and that one's incarnation, its
-- receiver, and its count
unfoldable pub deliver_of : List ℕ → Option Command
deliver_of s = do
  t ← word_then s
  tenant ← tenant_named t.0
  from ← number_then t.1
  incarnation ← number_then from.1
  to ← number_then incarnation.1
  count ← number_of to.1
  Some (Deliver (record { tenant = tenant; from = from.0; incarnation = incarnation.0; to = to.0; count = count }))

-- the status of an answer that has this number: none where it isn't of three digits
abbrev pub status_in : ℕ → Option ℕ
status_in n = if nat_le 100 n && nat_le n 999 then Some n else None

-- what stands behind `hook `
unfoldable pub hook_of : List ℕ → Option Command
hook_of s =
    if bytes_eq s (codes "none") then Some (Hook None) else option_map (λ n. Hook (status_in n)) (number_of s)

-- what stands behind `learn `: `all`, or an instance
unfoldable pub learn_of : List ℕ → Option Command
learn_of s =
    if bytes_eq s (codes "all") then Some LearnAll else option_map (λ n. Change (Learn n)) (number_of s)

-- what stands behind `force `: a tenant
unfoldable pub force_of : List ℕ → Option Command
force_of s = option_map (λ tenant. Change (Force tenant)) (tenant_named s)

-- the change of this name at an instance
unfoldable pub change_at : List ℕ → ℕ → Option ClusterChange
change_at name i =
    if bytes_eq name (codes "join") then Some (Join i)
    else if bytes_eq name (codes "leave") then Some (Leave i)
    else if bytes_eq name (codes "crash") then Some (Crash i)
    else if bytes_eq name (codes "restart") then Some (Restart i)
    else None

-- the name of a change, and what stands behind it and a space: an instance
unfoldable pub change_of : List ℕ → List ℕ → Option Command
change_of name s = do
  i ← number_of s
  change ← change_at name i
  Some (Change change)

-- a command that is one word
unfoldable pub lone_command : List ℕ → Option Command
lone_command name =
    if bytes_eq name (codes "tick") then Some Tick
    else if bytes_eq name (codes "pump") then Some Pump
    else None

-- a command whose name has more behind it
unfoldable pub named_command : List ℕ → List ℕ → Option Command
named_command name rest =
    if bytes_eq name (codes "at") then at_of rest
    else if bytes_eq name (codes "open") then open_of rest
    else if bytes_eq name (codes "bytes") then bytes_of rest
    else if bytes_eq name (codes "call") then call_of rest
    else if bytes_eq name (codes "limits") then limits_of rest
    else if bytes_eq name (codes "drop") then drop_of rest
    else if bytes_eq name (codes "deliver") then deliver_of rest
    else if bytes_eq name (codes "hook") then hook_of rest
    else if bytes_eq name (codes "learn") then learn_of rest
    else if bytes_eq name (codes "force") then force_of rest
    else change_of name rest

-- the command of a text that is neither empty nor a comment
abbrev pub text_by : List ℕ → Option (List ℕ × List ℕ) → Option Command
text_by s None = lone_command s
text_by s (Some p) = named_command p.0 p.1

unfoldable pub text_command : List ℕ → Option Command
text_command s = text_by s (split s)

-- an empty line, or a comment, whose first byte is `#`
abbrev pub is_skipped : List ℕ → Bool
is_skipped line = (length line == 0) || (slice_index line 0 == 35)

-- the command of a line; a line that is no UTF-8 is none, unless it is a comment
unfoldable pub command_of : List ℕ → Option Command
command_of line = if is_skipped line then Some Skip else if is_utf8 line then text_command line else None
