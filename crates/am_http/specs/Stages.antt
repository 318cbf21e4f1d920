-- What a connection keeps beside its bytes.
use Rattle.std.specs.Prelude.{◌≡◌, ℕ, ◌≤◌, List, length, take, Ok}
use Rattle.am_http.specs.declared.connection.Stage.{Stage}
use Rattle.am_http.specs.declared.connection.Stage.TheVariants.{Head, Body, Refused}
use Rattle.am_http.specs.declared.head.Plan.{Plan}
use Rattle.am_http.specs.declared.request.Fed.TheVariants as fed
use Rattle.am_http.specs.declared.scan.Place.{Place}
use Rattle.am_http.specs.declared.scan.Scan.TheVariants.{Ended, Open}
use Rattle.am_http.specs.Checks.{judged}
use Rattle.am_http.specs.Plans.{wanted_at, IsPlanAt}
use Rattle.am_http.specs.Reading.{read_head}
use Rattle.am_http.specs.Scan.{start, scanned}
use Rattle.am_http.specs.Verdict.{longest_head, verdict}

-- the head has n bytes, passes every check, and this plan is kept of it
pub record HasHead (text : List ℕ) (plan : Plan) (n : ℕ) : Type 0 where
  pub ended : scanned 0 start text ≡ Ended n
  pub short : n ≤ longest_head
  pub within : n ≤ length text
  pub passes : judged (read_head (take n text)) ≡ Ok (wanted_at (take n text) plan)
  pub planned : IsPlanAt (take n text) plan

-- the head hasn't ended, and has come to this place
pub record HasPlace (text : List ℕ) (place : Place) : Type 0 where
  pub reached : scanned 0 start text ≡ Open place
  pub short : length text ≤ longest_head

-- what a stage says of the bytes that came
abbrev pub Stands : Stage → List ℕ → Type 0
Stands (Head place) text = HasPlace text place
Stands (Body plan n) text = HasHead text plan n
Stands (Refused refusal) text = verdict text ≡ fed.Refused refusal
