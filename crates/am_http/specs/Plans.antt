-- What the code keeps of a head.
use Rattle.std.specs.Prelude.{◌≡◌, ℕ, ◌≤◌, List, length, take, map, All, IsUtf8, Some}
use Rattle.httparse.specs.declared.spans.HeaderSpan.{HeaderSpan}
use Rattle.httparse.specs.declared.spans.RequestSpans.{RequestSpans}
use Rattle.httparse.specs.Grammar.{RequestHead}
use Rattle.httparse.specs.Spans.{IsWithin, IsHeaderWithin, header_bytes, span_bytes, name_and_value}
use Rattle.am_http.specs.declared.head.Action.{Action}
use Rattle.am_http.specs.declared.head.Action.TheVariants as action
use Rattle.am_http.specs.declared.head.Plan.{Plan}
use Rattle.am_http.specs.Checks.{Asked, Ready, Call, Wanted, longest_body, path_in, query_in}
use Rattle.am_http.specs.Paths.{endpoint_of}
use Rattle.am_http.specs.Reading.{read_head}

-- what an action says of its head
abbrev pub asked_at : List ℕ → Action → Asked
asked_at head action.Ready = Ready
asked_at head (action.Call tenant method path target) =
    Call tenant method (endpoint_of path (path_in (span_bytes head target))) (query_in (span_bytes head target))

-- what a plan says of its head
abbrev pub wanted_at : List ℕ → Plan → Wanted
wanted_at head plan = record { asked = asked_at head plan.action; body_len = plan.body_len }

-- the target lies in the head and is text
abbrev pub IsActionAt : List ℕ → Action → Type 0
IsActionAt head action.Ready = Unit {0}
IsActionAt head (action.Call tenant method path target) = IsWithin (length head) target × IsUtf8 (span_bytes head target)

-- and the body isn't too long
pub record IsPlanAt (head : List ℕ) (plan : Plan) : Type 0 where
  pub action : IsActionAt head plan.action
  pub short : plan.body_len ≤ longest_body

-- the spans cover the parts of the head h, which the text is
pub record IsHeadAt (text : List ℕ) (headers : List HeaderSpan) (spans : RequestSpans) (h : RequestHead) : Type 0 where
  pub read : read_head text ≡ Some h
  pub method_within : IsWithin (length text) spans.method
  pub path_within : IsWithin (length text) spans.path
  pub count : spans.headers ≤ length headers
  pub fields_within : All (IsHeaderWithin (length text)) (take spans.headers headers)
  pub method : span_bytes text spans.method ≡ h.method
  pub path : span_bytes text spans.path ≡ h.target
  pub fields : map (header_bytes text) (take spans.headers headers) ≡ map name_and_value h.fields
  pub target_text : IsUtf8 h.target
