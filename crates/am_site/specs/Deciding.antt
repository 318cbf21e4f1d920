-- What an instance does with a replica's answer: at the second one of an operation it decides on the list of both.
use Rattle.std.specs.Prelude.{◌≡◌, ℕ, ◌+◌, ◌<◌, ◌≤◌, ◌++◌, true, false, List, [], length, Option, Some, None}
use Rattle.std.specs.Prelude.{IfSome, option_map, option_and_then}
use Rattle.am_alert.specs.Made.{counts_fit, greatest_count}
use Rattle.am_api.specs.Choice.{BuildsAccepted, MayDecide}
use Rattle.am_api.specs.Patterns.{patterns_of_request}
use Rattle.am_api.specs.Refusing.{stored_asked}
use Rattle.am_api.specs.Replied.{Decision}
use Rattle.am_cluster.specs.Local.{Local}
use Rattle.am_cluster.specs.Operating.{answered, decision_on, list_for}
use Rattle.am_cluster.specs.Operations.{Answered, Operation, operation_of}
use Rattle.am_current.specs.Current.{configuration_in}
use Rattle.am_http.specs.declared.request.Request.{Request}
use Rattle.am_item.specs.declared.fault.Fault.{Fault}
use Rattle.am_item.specs.declared.fault.Fault.TheVariants.{OutOfMemory, CountsExhausted, PatternNotBuilt, StoreRefused}
use Rattle.am_item.specs.declared.item.Item.{Item}
use Rattle.am_listing.specs.Failing.{patterns_in_use}
use Rattle.am_muting.specs.Failing.{HasUnanswered}
use Rattle.am_site.specs.Here.{here_of}
use Rattle.am_site.specs.Locals.{local_of}
use Rattle.am_site.specs.Reacting.{Reacts}
use Rattle.am_site.specs.declared.here.Here.{Here as Given}
use Rattle.am_site.specs.declared.limiting.SharedDecision.{SharedDecision}
use Rattle.am_site.specs.declared.said.Said.{Said as Spoken}
use Rattle.am_site.specs.declared.site.Site.{Site}

-- ---- one decision

-- what a decision says, without where it lies in memory
abbrev pub shared_as : SharedDecision → Decision
shared_as d = record { items = d.items.items; status = d.status; body = d.body; drawn = d.drawn }

-- the decision on a request, where this list is held of its tenant and the instance has this
abbrev pub decision_here : Given → Request → List Item → Local → Decision
decision_here here request list local = decision_on here.service_key.now (here_of here) request list local

-- of the patterns in use where this list is held, those that a request asks
abbrev pub stored_on : Given → Request → List Item → List (List ℕ)
stored_on here request list = stored_asked request (patterns_in_use (configuration_in list) here.moment list)

-- the texts that are asked as patterns where it is decided on the request
abbrev pub asked_on : Given → Request → List Item → List (List ℕ)
asked_on here request list = patterns_of_request request ++ stored_on here request list

-- it may be decided so, where builds of the first texts were refused before, and of the others afterwards; all counts
-- fit and have room; and where the request is accepted, a regex was built of each pattern that it brings
pub record IsDecided (before after : List (List ℕ)) (here : Given) (request : Request) (list : List Item)
    (local : Local) (d : Decision) : Type 0 where
  pub decision : MayDecide before after request here.limits (decision_here here request list local) d
  pub fits : counts_fit d.items ≡ true
  pub room : 0 < length d.items → local.ledger.stamps + length d.items ≤ greatest_count
  pub built : BuildsAccepted request d

-- why it isn't decided: a count would have passed the greatest, a pattern in use that the request asks gave no answer,
-- or memory ran out
abbrev pub StopsDeciding : (refused : List (List ℕ)) → Given → Request → List Item → Local → Fault → Type 0
StopsDeciding refused here request list local OutOfMemory = Unit {0}
StopsDeciding refused here request list local CountsExhausted =
    counts_fit (decision_here here request list local).items ≡ false
StopsDeciding refused here request list local PatternNotBuilt = HasUnanswered refused (stored_on here request list)
StopsDeciding refused here request list local StoreRefused = ⊥

-- ---- an answer

-- the operation that an answer decides, and the list on which it does
abbrev pub decides_on : (number epoch : ℕ) → Answered → List Operation → Option (Operation × List Item)
decides_on number epoch answer operations =
    option_and_then (λ (o : Operation). option_map (λ list. (o, list)) (list_for o.stage answer))
    (operation_of number epoch operations)

abbrev pub asked_by : Given → Option (Operation × List Item) → List (List ℕ)
asked_by here None = []
asked_by here (Some d) = asked_on here d.0.request d.1

-- the answer is taken: the reaction is that to this decision, which is one that may be made
pub record Answers (here : Given) (before after : List (List ℕ)) (number epoch : ℕ) (answer : Answered) (old new : Site)
    (outbox more : List Spoken) : Type 0 where
  pub decision : Decision
  pub decided : IfSome (decides_on number epoch answer (local_of here.tenant.now old).operations)
      (λ d. IsDecided before after here d.0.request d.1 (local_of here.tenant.now old) decision)
  pub reacts : Reacts here.tenant.now (answered (λ _ _ _ _. decision) (here_of here) number epoch answer) old new
      outbox more

-- why it stops: a count would have passed the greatest, or a message the greatest length; a pattern in use that the
-- request asks gave no answer; or memory ran out
abbrev pub StopsAnswering : (refused : List (List ℕ)) → Given → (number epoch : ℕ) → Answered → Local → Fault → Type 0
StopsAnswering refused here number epoch answer local OutOfMemory = Unit {0}
StopsAnswering refused here number epoch answer local CountsExhausted =
    (answered (decision_on here.service_key.now) (here_of here) number epoch answer local).fits ≡ false
StopsAnswering refused here number epoch answer local PatternNotBuilt =
    (o : Operation) × (list : List Item) × (decides_on number epoch answer local.operations ≡ Some (o, list))
    × HasUnanswered refused (stored_on here o.request list)
StopsAnswering refused here number epoch answer local StoreRefused = ⊥
