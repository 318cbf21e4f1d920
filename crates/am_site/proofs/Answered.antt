-- What an answer makes of a tenant's docket is what it makes of what an instance has.
use Rattle.std.proofs.Common.{◌≡◌, ℕ, ◌==◌, Bool, true, false, List, [], Option, Some, None, IfSome, arith, ap, inl, inr, refl, sym, subst, ◌∙◌, option_map, if◌then◌else◌}
use Rattle.std.proofs.lemmas.Bool.{false≢true}
use Rattle.std.proofs.lemmas.Bool.Decides.{nat_tests}
use Rattle.std.proofs.lemmas.List.{append-nil}
use Rattle.std.proofs.lemmas.List.Elements.{All-nil}
use Rattle.am_api.specs.Choice.{MayDecide}
use Rattle.am_api.specs.Replied.{Decision}
use Rattle.am_api.proofs.Choice.{no_items}
use Rattle.am_cluster.specs.Here.{Here}
use Rattle.am_cluster.specs.Local.{Local}
use Rattle.am_cluster.specs.Operating.{Decide, answer_by, answered, carry_out, decision_on, finish, first_answer, list_for}
use Rattle.am_cluster.specs.Reactions.{Reaction, where_some}
use Rattle.am_http.specs.Replies.{reply}
use Rattle.am_item.specs.Best.{merged}
use Rattle.am_item.specs.Counts.{count_of}
use Rattle.am_item.specs.declared.fault.Fault.{Fault}
use Rattle.am_item.specs.declared.fault.Fault.TheVariants.{OutOfMemory, CountsExhausted, PatternNotBuilt, StoreRefused}
use Rattle.am_item.specs.declared.item.Item.{Item}
use Rattle.am_muting.specs.Failing.{AddsAmong}
use Rattle.am_node.specs.Held.{local_of as local_in_node}
use Rattle.am_node.specs.Local.{Local as NodeLocal}
use Rattle.am_quorum.specs.Dockets.{Changes, answered_in, Docket, Ops, docket_of, operations_of, with_operations as with_opened}
use Rattle.am_quorum.specs.Operations.{answered_by, first_answer as first_answer_there, lists_by, lists_for, of_epoch, operation_at, operation_of, target_in}
use Rattle.am_quorum.specs.declared.operation.Answered.{Answered}
use Rattle.am_quorum.specs.declared.operation.Decide.{Decide as Lists}
use Rattle.am_quorum.specs.declared.operation.Operation.{Operation}
use Rattle.am_quorum.specs.declared.operation.Stage.{Stage}
use Rattle.am_quorum.specs.declared.operation.Target.{Target}
use Rattle.am_quorum.proofs.Seen.{target_here}
use Rattle.am_tenant.specs.Names.{same}
use Rattle.am_tenant.proofs.Same.{same_tells}
use Rattle.am_quorum.specs.declared.operation.Stage.TheVariants.{Undecided, Decided}
use Rattle.am_transfer.specs.Settling.{Settling}
use Rattle.am_transfer.specs.Tenants.{settling_of}
use Rattle.am_transfer.specs.Timers.{Room}
use Rattle.am_site.specs.Deciding.{Answers, IsDecided, StopsAnswering, StopsDeciding, asked_by, asked_on, decides_on, decision_here}
use Rattle.am_site.specs.Here.{here_of}
use Rattle.am_site.specs.Locals.{from_rooms, local_of}
use Rattle.am_site.specs.Reacting.{Does, Keeps, Reacts, StopsReacting}
use Rattle.am_site.specs.declared.here.Here.{Here as Given}
use Rattle.am_site.specs.declared.said.Said.{Said as Spoken}
use Rattle.am_site.specs.declared.site.Site.{Site}
use Rattle.am_site.proofs.Carrying.{docket_makes, keeps_ops, with_ops}
use Rattle.am_site.proofs.Reacting.{quiet, reacts_from, reacts_since, stops_since}

-- nothing is refused more
pub adds_nothing : (texts old : List (List ℕ)) → AddsAmong texts old old
adds_nothing texts old = record { more = []; refused = sym (append-nil old); each = All-nil _ }

module _ (node : NodeLocal) (d : Docket) (n : ℕ) (g : Settling) (decide : Decide) (here : Here) (answer : Answered) where
  abbrev l : Local
  l = from_rooms node d n g

  firsts : (o : Operation) (stage : Stage) → first_answer o stage answer l ≡ from_rooms node (with_opened (first_answer_there o stage answer) d) n g
  firsts o (Undecided None) = refl
  firsts o (Undecided (Some first)) = refl
  firsts o (Decided reply first) = refl

  abbrev merge : Lists → List Item
  merge lists = merged lists.first lists.second

  abbrev by_lists : Operation → Option Lists → Reaction
  by_lists o lists = answer_by decide here o answer (option_map merge lists) l

  abbrev reaction : Option Operation → Reaction
  reaction found = where_some (λ (o : Operation). answer_by decide here o answer (list_for o.stage answer)) found l

  undecided_local : (found : Option Operation) → lists_by answer found ≡ None
      → (reaction found).local ≡ from_rooms node (with_opened (answered_by answer found) d) n g
  undecided_local None none = refl
  undecided_local (Some o) none = ap (λ lists. (by_lists o lists).local) none ∙ firsts o o.stage

  undecided_said : (found : Option Operation) → lists_by answer found ≡ None → (reaction found).said ≡ []
  undecided_said None none = refl
  undecided_said (Some o) none = ap (λ lists. (by_lists o lists).said) none

  undecided_fits : (found : Option Operation) → lists_by answer found ≡ None → (reaction found).fits ≡ true
  undecided_fits None none = refl
  undecided_fits (Some o) none = ap (λ lists. (by_lists o lists).fits) none

-- an answer that doesn't decide changes the docket alone
pub undecided : (tenant : List ℕ) (decide : Decide) (here : Here) (number epoch : ℕ) (answer : Answered) (old : Site) (ops : Ops)
    → lists_by answer (operation_of number epoch (operations_of tenant old.operations)) ≡ None
    → Changes tenant (λ d. with_opened (answered_by answer (operation_of number epoch d.operations)) d) old.operations ops
    → ops.incarnation ≡ old.operations.incarnation
    → Does tenant (answered decide here number epoch answer) old (with_ops old ops)
unfolding local_of answered
undecided tenant decide here number epoch answer old ops none changes kept =
    let node = local_in_node tenant old.node in
    let d = docket_of tenant old.operations in
    let n = count_of tenant old.sent in
    let g = settling_of tenant old.settling.progress in
    let found = operation_of number epoch d.operations in
    record {
      local = docket_makes tenant (λ d. with_opened (answered_by answer (operation_of number epoch d.operations)) d)
          (λ l. (answered decide here number epoch answer l).local) old ops changes
          (undecided_local node d n g decide here answer found none);
      said = undecided_said node d n g decide here answer found none;
      fits = undecided_fits node d n g decide here answer found none;
      keeps = keeps_ops old ops kept;
    }

no_list : (number epoch : ℕ) (answer : Answered) (ops : List Operation) → lists_by answer (operation_of number epoch ops) ≡ None → decides_on number epoch answer ops ≡ None
no_list number epoch answer ops none = by (operation_of number epoch ops) refl none
  where
    by : (found : Option Operation) → operation_of number epoch ops ≡ found → lists_by answer found ≡ None → decides_on number epoch answer ops ≡ None
    by None is none = rw is refl
    by (Some o) is none = rw is (ap (λ (lists : Option Lists). option_map (λ list. (o, list)) (option_map (λ (lists : Lists). merged lists.first lists.second) lists)) none)

-- the lists of an answer that decides are those of an operation that is open
pub record Found (number epoch : ℕ) (answer : Answered) (lists : Lists) (ops : List Operation) (o : Operation) : Type 0 where
  pub at : operation_of number epoch ops ≡ Some o
  pub lists_are : lists_for o.stage answer ≡ Some lists

-- .. and of which epoch that is, where no other one has its number
pub found_at : (number epoch : ℕ) (answer : Answered) (lists : Lists) (ops : List Operation) (there : Option Operation) → there ≡ operation_at number ops
    → operation_of number epoch ops ≡ of_epoch epoch (operation_at number ops) → Some lists ≡ lists_by answer (operation_of number epoch ops)
    → IfSome there (λ o. Found number epoch answer lists ops o × (o.epoch ≡ epoch))
found_at number epoch answer lists ops None at alone is = tt
found_at number epoch answer lists ops (Some o) at alone is =
    let by_epoch : operation_of number epoch ops ≡ of_epoch epoch (Some o) = alone ∙ ap (of_epoch epoch) (sym at) in
    by (o.epoch == epoch) refl (by_epoch)
  where
    eq_of : (a b : ℕ) → (a == b) ≡ true → a ≡ b
    eq_of a b h = grind (arith, nat_tests)

    by : (b : Bool) → (o.epoch == epoch) ≡ b → operation_of number epoch ops ≡ of_epoch epoch (Some o) → Found number epoch answer lists ops o × (o.epoch ≡ epoch)
    by true same by_epoch =
        let found : operation_of number epoch ops ≡ Some o = by_epoch ∙ rw same refl in
        (record { at = found; lists_are = sym (is ∙ ap (lists_by answer) found) }, eq_of o.epoch epoch same)
    by false same by_epoch =
        let none : operation_of number epoch ops ≡ None = by_epoch ∙ rw same refl in
        let never : Some lists ≡ None = is ∙ ap (lists_by answer) none in
        absurd cc

-- it is open
pub not_gone : (number epoch : ℕ) (answer : Answered) (lists : Lists) (ops : List Operation) → None ≡ operation_at number ops
    → operation_of number epoch ops ≡ of_epoch epoch (operation_at number ops) → Some lists ≡ lists_by answer (operation_of number epoch ops) → ⊥
not_gone number epoch answer lists ops gone alone is =
    let none : operation_of number epoch ops ≡ None = alone ∙ ap (of_epoch epoch) (sym gone) in
    let never : Some lists ≡ None = is ∙ ap (lists_by answer) none in
    absurd cc

-- ---- the dockets

-- what names this incarnation is for the operation of its number and epoch
pub changes_here : (i : ℕ) (target : Target) (answer : Answered) (tenant : List ℕ) (old new : Ops) → target.incarnation ≡ i
    → Changes tenant (answered_in i target answer) old new
    → Changes tenant (λ d. with_opened (answered_by answer (operation_of target.number target.epoch d.operations)) d) old new
changes_here i target answer tenant old new is changes t =
    changes t ∙ ap (λ found. if same t tenant then with_opened (answered_by answer found) (docket_of t old) else docket_of t old)
    (target_here i target (docket_of t old).operations is)

-- an answer that decides leaves what is open
deciding_stays : (answer : Answered) (lists : Lists) (o : Operation) (ops : List Operation) (stage : Stage) → lists_for stage answer ≡ Some lists
    → first_answer_there o stage answer ops ≡ ops
deciding_stays answer lists o ops (Undecided None) is = absurd cc
deciding_stays answer lists o ops (Undecided (Some first)) is = refl
deciding_stays answer lists o ops (Decided reply first) is = absurd cc

pub same_dockets : (number epoch : ℕ) (answer : Answered) (lists : Lists) (o : Operation) (tenant : List ℕ) (old new : Ops)
    → Found number epoch answer lists (operations_of tenant old) o
    → Changes tenant (λ d. with_opened (answered_by answer (operation_of number epoch d.operations)) d) old new
    → (t : List ℕ) → docket_of t new ≡ docket_of t old
same_dockets number epoch answer lists o tenant old new found changes t = elim (same_tells t tenant) [
  | inl is ↦ own_stays is.0 is.1
  | inr apart ↦ changes t ∙ rw (apart.0) refl
]
  where
    own_stays : same t tenant ≡ true → t ≡ tenant → docket_of t new ≡ docket_of t old
    own_stays e is =
        let d = docket_of t old in
        let there : operation_of number epoch d.operations ≡ Some o = ap (λ s. operation_of number epoch (docket_of s old).operations) is ∙ found.at in
        changes t ∙ rw e refl
        ∙ ap (λ found. with_opened (answered_by answer found) d) there
        ∙ ap (λ ops. let made : Docket = record { used = d.used; operations = ops } in made) (deciding_stays answer lists o d.operations o.stage found.lists_are)

-- what is open once an answer came that decides
pub record Still (number epoch : ℕ) (answer : Answered) (lists : Lists) (tenant : List ℕ) (old new : Ops) (o : Operation) : Type 0 where
  pub found : Found number epoch answer lists (operations_of tenant old) o
  pub epoch_is : o.epoch ≡ epoch
  pub at : operation_at number (operations_of tenant old) ≡ Some o
  pub dockets : (t : List ℕ) → docket_of t new ≡ docket_of t old

pub still_open : (number epoch : ℕ) (answer : Answered) (lists : Lists) (tenant : List ℕ) (old new : Ops) (o : Operation)
    → Some lists ≡ lists_by answer (operation_of number epoch (operations_of tenant old))
    → Changes tenant (λ d. with_opened (answered_by answer (operation_of number epoch d.operations)) d) old new
    → Some o ≡ operation_at number (operations_of tenant new)
    → ((e : ℕ) → operation_of number e (operations_of tenant new) ≡ of_epoch e (operation_at number (operations_of tenant new)))
    → Still number epoch answer lists tenant old new o
still_open number epoch answer lists tenant old new o is changes at alone = by (operation_of number epoch (operations_of tenant old)) refl
  where
    by : (there : Option Operation) → operation_of number epoch (operations_of tenant old) ≡ there → Still number epoch answer lists tenant old new o
    by None e = absurd (let never : Some lists ≡ None = is ∙ ap (lists_by answer) e in cc)
    by (Some first) e =
        let one : Found number epoch answer lists (operations_of tenant old) first = record { at = e; lists_are = sym (is ∙ ap (lists_by answer) e) } in
        let same = same_dockets number epoch answer lists first tenant old new one changes in
        let here : Some o ≡ operation_at number (operations_of tenant old) = at ∙ ap (λ (d : Docket). operation_at number d.operations) (same tenant) in
        let alone_here : operation_of number epoch (operations_of tenant old) ≡ of_epoch epoch (operation_at number (operations_of tenant old)) =
        ap (λ (d : Docket). operation_of number epoch d.operations) (sym (same tenant)) ∙ alone epoch
        ∙ ap (λ (d : Docket). of_epoch epoch (operation_at number d.operations)) (same tenant) in
        let both = found_at number epoch answer lists (operations_of tenant old) (Some o) here alone_here is in
        record { found = both.0; epoch_is = both.1; at = sym here; dockets = same }

-- .. as the operations tell it
pub still_here : (i : ℕ) (target : Target) (answer : Answered) (lists : Lists) (tenant : List ℕ) (old new : Ops) (o : Operation)
    → target.incarnation ≡ i → Some lists ≡ lists_by answer (target_in i target (operations_of tenant old)) → Changes tenant (answered_in i target answer) old new
    → Some o ≡ operation_at target.number (operations_of tenant new)
    → ((e : ℕ) → operation_of target.number e (operations_of tenant new) ≡ of_epoch e (operation_at target.number (operations_of tenant new)))
    → Still target.number target.epoch answer lists tenant old new o
still_here i target answer lists tenant old new o named is changes at alone =
    still_open target.number target.epoch answer lists tenant old new o (is ∙ ap (lists_by answer) (target_here i target (operations_of tenant old) named))
    (changes_here i target answer tenant old new named changes) at alone

-- the list on which it is decided
one_list : (number epoch : ℕ) (answer : Answered) (lists : Lists) (ops : List Operation) (o : Operation) → Found number epoch answer lists ops o
    → decides_on number epoch answer ops ≡ Some (o, merged lists.first lists.second)
one_list number epoch answer lists ops o found =
    rw (found.at) (ap (λ (lists : Option Lists). option_map (λ list. (o, list)) (option_map (λ (lists : Lists). merged lists.first lists.second) lists)) found.lists_are)

-- what is done then
carried : (decide : Decide) (here : Here) (number epoch : ℕ) (answer : Answered) (lists : Lists) (o : Operation) (l : Local) → Found number epoch answer lists l.operations o
    → answered decide here number epoch answer l ≡ carry_out here o (decide here o.request (merged lists.first lists.second) l) l
unfolding answered
carried decide here number epoch answer lists o l found =
    ap (λ there. where_some (λ (o : Operation). answer_by decide here o answer (list_for o.stage answer)) there l) found.at
    ∙ ap (λ (lists : Option Lists). answer_by decide here o answer (option_map (λ (lists : Lists). merged lists.first lists.second) lists) l) found.lists_are

-- .. where nothing is stored, it says no more than the reply
fits_without : (here : Here) (o : Operation) (d : Decision) (l : Local) → d.items ≡ [] → (carry_out here o d l).fits ≡ true
unfolding carry_out finish
fits_without here o d l none = rw none refl

-- where nothing is decided, any decision will do
abbrev no_decision : Decision
no_decision = record { items = []; status = 0; body = []; drawn = None }

module _ (given : Given) (number epoch : ℕ) (answer : Answered) (old : Site) where
  abbrev tenant : List ℕ
  tenant = given.tenant.now

  pub answers_nothing : (refused : List (List ℕ)) (ops : Ops) (outbox : List Spoken)
      → lists_by answer (operation_of number epoch (operations_of tenant old.operations)) ≡ None
      → Changes tenant (λ d. with_opened (answered_by answer (operation_of number epoch d.operations)) d) old.operations ops
      → ops.incarnation ≡ old.operations.incarnation
      → Answers given refused refused number epoch answer old (with_ops old ops) outbox outbox
  unfolding local_of
  answers_nothing refused ops outbox none changes kept =
      let no = no_list number epoch answer (operations_of tenant old.operations) none in
      record {
        decision = no_decision;
        decided = subst (λ x. IfSome x (λ d. IsDecided refused refused given d.0.request d.1 (local_of tenant old) no_decision)) (sym no) tt;
        reacts = quiet tenant (answered (λ _ _ _ _. no_decision) (here_of given) number epoch answer) old (with_ops old ops) outbox
            (undecided tenant (λ _ _ _ _. no_decision) (here_of given) number epoch answer old ops none changes kept);
      }

  module _ (lists : Lists) (o : Operation) (mid : Site) (found : Found number epoch answer lists (local_of tenant old).operations o)
      (same : (t : List ℕ) → local_of t mid ≡ local_of t old) where
    abbrev list : List Item
    list = merged lists.first lists.second

    pub asks_decided : (before after : List (List ℕ)) → AddsAmong (asked_on given o.request list) before after
        → AddsAmong (asked_by given (decides_on number epoch answer (local_of tenant old).operations)) before after
    asks_decided before after adds =
        subst (λ x. AddsAmong (asked_by given x) before after) (sym (one_list number epoch answer lists (local_of tenant old).operations o found)) adds

    pub answers_decided : (before after : List (List ℕ)) (new : Site) (x y : List Spoken) (d : Decision) → Keeps old mid
        → IsDecided before after given o.request list (local_of tenant old) d
        → Reacts tenant (carry_out (here_of given) o d) mid new x y → Answers given before after number epoch answer old new x y
    answers_decided before after new x y d kept decided reacts =
        let one = one_list number epoch answer lists (local_of tenant old).operations o found in
        record {
          decision = d;
          decided = subst (λ x. IfSome x (λ e. IsDecided before after given e.0.request e.1 (local_of tenant old) d)) (sym one) decided;
          reacts = reacts_from tenant (carry_out (here_of given) o d) (answered (λ _ _ _ _. d) (here_of given) number epoch answer) old
              (sym (carried (λ _ _ _ _. d) (here_of given) number epoch answer lists o (local_of tenant old) found)) new x y
              (reacts_since tenant (carry_out (here_of given) o d) old mid same new x y kept reacts);
        }

    abbrev right : Decision
    right = decision_here given o.request list (local_of tenant old)

    right_done : answered (decision_on given.service_key.now) (here_of given) number epoch answer (local_of tenant old) ≡ carry_out (here_of given) o right (local_of tenant old)
    right_done = carried (decision_on given.service_key.now) (here_of given) number epoch answer lists o (local_of tenant old) found

    pub stops_deciding : (refused : List (List ℕ)) (fault : Fault) → StopsDeciding refused given o.request list (local_of tenant old) fault
        → StopsAnswering refused given number epoch answer (local_of tenant old) fault
    unfolding carry_out
    stops_deciding refused OutOfMemory stops = tt
    stops_deciding refused CountsExhausted stops =
        ap (λ (r : Reaction). r.fits) right_done ∙ rw stops refl
    stops_deciding refused PatternNotBuilt stops = (o, list, one_list number epoch answer lists (local_of tenant old).operations o found, stops)
    stops_deciding refused StoreRefused stops = absurd stops

    pub stops_carrying : (before after : List (List ℕ)) (d : Decision) → IsDecided before after given o.request list (local_of tenant old) d
        → (fault : Fault) → StopsReacting tenant (carry_out (here_of given) o d) mid fault
        → StopsAnswering after given number epoch answer (local_of tenant old) fault
    stops_carrying before after d decided OutOfMemory stops = tt
    stops_carrying before after d decided CountsExhausted stops = by decided.decision
      where
        past : (carry_out (here_of given) o d (local_of tenant old)).fits ≡ false
        past = stops_since tenant (carry_out (here_of given) o d) old mid same CountsExhausted stops

        by : MayDecide before after o.request given.limits right d
            → (answered (decision_on given.service_key.now) (here_of given) number epoch answer (local_of tenant old)).fits ≡ false
        by (inl is) = ap (λ (r : Reaction). r.fits) right_done ∙ ap (λ e. (carry_out (here_of given) o e (local_of tenant old)).fits) (sym is.0) ∙ past
        by (inr refused) = absurd (false≢true (sym past ∙ fits_without (here_of given) o d (local_of tenant old) (no_items d refused.unbuilt)))
    stops_carrying before after d decided PatternNotBuilt stops = absurd stops
    stops_carrying before after d decided StoreRefused stops = absurd stops

-- where the dockets and what the node has are as they were, an instance has what it had
pub same_site : (old mid : Site) → ((t : List ℕ) → local_in_node t mid.node ≡ local_in_node t old.node)
    → ((t : List ℕ) → docket_of t mid.operations ≡ docket_of t old.operations) → mid.sent ≡ old.sent → mid.settling ≡ old.settling
    → (t : List ℕ) → local_of t mid ≡ local_of t old
unfolding local_of
same_site old mid nodes dockets sent settling t =
    ap (λ node. from_rooms node (docket_of t mid.operations) (count_of t mid.sent) (settling_of t mid.settling.progress)) (nodes t)
    ∙ ap (λ d. from_rooms (local_in_node t old.node) d (count_of t mid.sent) (settling_of t mid.settling.progress)) (dockets t)
    ∙ ap (λ counts. from_rooms (local_in_node t old.node) (docket_of t old.operations) (count_of t counts) (settling_of t mid.settling.progress)) sent
    ∙ ap (λ (room : Room). from_rooms (local_in_node t old.node) (docket_of t old.operations) (count_of t old.sent) (settling_of t room.progress)) settling
