-- The patterns of open operations: those after a happening were open before, or came with it; and those of the request
-- that is decided are open.
use Rattle.std.proofs.Common.{◌≡◌, ℕ, Bool, true, false, ◌&&◌, not, All, Contains, List, [], ◌∷◌, ◌++◌, IfSome, Option, Some, None, is_some, option_map, if◌then◌else◌, flat_map, refl, sym, subst, ◌∙◌, inl, inr, arith}
use Rattle.std.specs.Prelude.{◌==◌, option_and_then}
use Rattle.std.specs.List.{list_all, list_any}
use Rattle.std.proofs.lemmas.Bool.{and_parts, cases_eq, eq-eqb, eqb-true, false≢true, ne_eqb, true≢false}
use Rattle.std.proofs.lemmas.List.Elements.{All-contains, All-contains_itself, All-weaker, Contains-append_cases, Contains-append_left, Contains-append_right}
use Rattle.am_api.specs.Patterns.{patterns_of_request}
use Rattle.am_http.specs.declared.request.Request.{Request}
use Rattle.am_item.specs.declared.item.Item.{Item}
use Rattle.am_ring.specs.Instances.{all_instances, in_order, is_among, is_instance}
use Rattle.am_ring.specs.Replicas.{replicas}
use Rattle.am_rows.specs.Rows.{stored_in}
use Rattle.am_cluster.specs.Arriving.{Arrival, Counted, Dropped, Taken, arrival, arrive}
use Rattle.am_cluster.specs.Courses.{at_restart, changed, course_by, delivered, handled_by, posted_in, refusal_of, with_event}
use Rattle.am_cluster.specs.Deciding.{Deciding, Reached, deciding_at, deciding_by, deciding_on, reached_at, unless_dropped}
use Rattle.am_cluster.specs.Delivery.{outcome}
use Rattle.am_cluster.specs.Happening.{Happening, Asked, Changed, Delivered, Forced, Limited, Lost, Ticked, Tried}
use Rattle.am_cluster.specs.Here.{Here}
use Rattle.am_cluster.specs.Local.{Local, blank}
use Rattle.am_cluster.specs.Messages.{Ack, Answer, Ask, Body, Get, Got, Message, Put, State}
use Rattle.am_cluster.specs.Moments.{effective, is_too_late}
use Rattle.am_cluster.specs.Operating.{Decide, list_for, start}
use Rattle.am_cluster.specs.Operations.{Operation, operation_of}
use Rattle.am_cluster.specs.Patterns.{patterns_brought, patterns_of_operations, patterns_open}
use Rattle.am_cluster.specs.PrivateCluster.{Course, PrivateCluster, here_at, react, react_all, react_one, stopped, unchanged, with_opened}
use Rattle.am_cluster.specs.Reactions.{Reaction, stays}
use Rattle.am_cluster.specs.Replying.{AsksAs, KeepsAskers, WaitOver}
use Rattle.am_cluster.specs.RingChanges.{just_opened, opened as opened_with, ring_learned}
use Rattle.am_cluster.specs.Roster.{AreInstancesUp, Crashes, Joins, Learns, Leaves, Restarts, RingEvent, put_at, three_at}
use Rattle.am_cluster.specs.Ticking.{ticked}
use Rattle.am_cluster.specs.Transfers.{forced}
use Rattle.am_cluster.proofs.Posted.{contained}
use Rattle.am_cluster.proofs.ReplyPieces.{either_over, found_over, if_over, outcome_over, start_over, stays_over}
use Rattle.am_cluster.proofs.ReplyTurns.{arrive_over, forced_over, just_opened_over, learned_over, restart_over, ticked_over}
use Rattle.am_cluster.proofs.Replied.{none_over, rows_over}

-- ---- what one instance has open

-- Operations stay at their instance: what one has open is what it had, or came to it. So this is said of each instance
-- alone, whatever others have.
module _ (P : (connection : ℕ) → Request → Type 0) (i : ℕ) where
  -- its open operations have askers of whom P holds
  abbrev pub WaitsAt : PrivateCluster → Type 0
  WaitsAt p = WaitOver P (p.at i).operations

  -- one thing at an instance is put in another's place
  pub put_waits : (f : ℕ → Local) (j : ℕ) (x : Local) → (i ≡ j → WaitOver P x.operations) → WaitOver P (f i).operations
      → WaitOver P (put_at f j x i).operations
  put_waits f j x e w = by_place (i == j) refl
    where
      by_place : (b : Bool) → (i == j) ≡ b → WaitOver P (if b then x else f i).operations
      by_place true here = e (eqb-true i j here)
      by_place false elsewhere = w

  if_waits : (b : Bool) (c d : Course) → WaitsAt c.cluster → WaitsAt d.cluster → WaitsAt (if b then c else d).cluster
  if_waits true c d e f = e
  if_waits false c d e f = f

  pub react_waits : (f : Here → Local → Reaction) (m j : ℕ) (p : PrivateCluster)
      → ((here : Here) → KeepsAskers P (f here)) → WaitsAt p → WaitsAt (react f m j p).cluster
  unfolding react_one
  react_waits f m j p keeps w =
      if_waits (p.roster.up j) (react_one f m j p) (unchanged p)
      (put_waits p.at j (f (here_at p m j) (p.at j)).local
      (λ here. (keeps (here_at p m j) (p.at j) (subst (λ k. WaitOver P (p.at k).operations) here w)).0) w) w

  pub all_react_waits : (f : ℕ → Here → Local → Reaction) (m : ℕ) (p : PrivateCluster)
      → ((j : ℕ) (here : Here) → KeepsAskers P (f j here)) → WaitsAt p → WaitsAt (react_all f m p).cluster
  unfolding react_all
  all_react_waits f m p keeps w =
      (if_over P (p.roster.up i) (f i (here_at p m i) (p.at i)) (stays (p.at i))
      (keeps i (here_at p m i) (p.at i) w) (stays_over P (p.at i) w)).0

  opened_waits : (j : ℕ) (p : PrivateCluster) → WaitsAt p → WaitsAt (with_opened j p)
  opened_waits j p w =
      put_waits p.at j (opened_with (here_at p p.clock j) (p.rows j))
      (λ here. rows_over P (here_at p p.clock j) (p.rows j)) w

  changed_waits : (event : RingEvent) (p : PrivateCluster) → WaitsAt p → WaitsAt (changed event p).cluster
  unfolding changed
  changed_waits (Joins j) p w =
      react_waits just_opened p.clock j (with_opened j (with_event (Joins j) p)) (just_opened_over P)
      (opened_waits j (with_event (Joins j) p) w)
  changed_waits (Leaves j) p w = put_waits p.at j blank (λ here. none_over P) w
  changed_waits (Crashes j) p w = put_waits p.at j blank (λ here. none_over P) w
  changed_waits (Restarts j) p w =
      all_react_waits (at_restart j) p.clock (with_opened j (with_event (Restarts j) p)) (restart_over P j)
      (opened_waits j (with_event (Restarts j) p) w)
  changed_waits (Learns j) p w =
      react_waits (λ here local. ring_learned here (three_at p.replicas_by p.roster j) local) p.clock j
      (with_event (Learns j) p) (λ here. learned_over P here (three_at p.replicas_by p.roster j)) w

  delivered_waits : (decide : Decide) (m : ℕ) (o : Option Message) (p : PrivateCluster) → WaitsAt p
      → WaitsAt (delivered decide m o p).cluster
  delivered_waits decide m None p w = w
  delivered_waits decide m (Some message) p w =
      react_waits (λ here local. arrive decide here message local) m message.to p
      (λ here. arrive_over P decide here message) w

  handled_waits : (decide : Decide) (p : PrivateCluster) (h : Happening) → AsksAs P h → WaitsAt p
      → WaitsAt (handled_by decide p h).cluster
  unfolding handled_by
  handled_waits decide p (Asked connection j moment request) asked w =
      react_waits (λ here local. start here connection request local) (effective moment p.clock) j p
      (λ here. start_over P here connection request asked) w
  handled_waits decide p (Limited limits) asked w = w
  handled_waits decide p (Ticked moment) asked w =
      all_react_waits (λ j. ticked) moment (record p { clock = moment }) (λ j. ticked_over P) w
  handled_waits decide p (Tried j k number tries moment status) asked w =
      react_waits (λ here local. outcome here number tries status local) (effective moment p.clock) j p
      (λ here. outcome_over P here number tries status) w
  handled_waits decide p (Delivered from k to count moment) asked w =
      delivered_waits decide (effective moment p.clock) (posted_in p from k to count) p w
  handled_waits decide p (Lost from k to count) asked w = w
  handled_waits decide p (Changed event) asked w = changed_waits event p w
  handled_waits decide p Forced asked w = all_react_waits (λ j. forced) p.clock p (λ j. forced_over P) w

  -- what it has open after a happening
  pub course_waits : (decide : Decide) (p : PrivateCluster) (h : Happening) → AsksAs P h → WaitsAt p
      → WaitsAt (course_by decide p h).cluster
  unfolding course_by
  course_waits decide p h asked w =
      if_waits (is_some (refusal_of p h)) (unchanged p) (handled_by decide p h) w (handled_waits decide p h asked w)

-- ---- the operation that is decided

module _ (P : (connection : ℕ) → Request → Type 0) where
  abbrev DecidesOver : Option Deciding → Type 0
  DecidesOver o = IfSome o (λ (d : Deciding). P d.operation.connection d.operation.request)

  deciding_over : (r : Reached) → WaitOver P r.local.operations → (body : Body) → DecidesOver (deciding_by r body)
  deciding_over r w (Answer number incarnation items) =
      by_found (operation_of number r.message.epoch r.local.operations)
      (found_over P (λ (o : Operation). o.number == number && o.epoch == r.message.epoch) r.local.operations w)
    where
      by_list : (o : Operation) → P o.connection o.request → (list : Option (List Item))
          → DecidesOver (option_map (deciding_on r o) list)
      by_list o q None = tt
      by_list o q (Some list) = q

      by_found : (found : Option Operation) → IfSome found (λ (o : Operation). P o.connection o.request)
          → DecidesOver (option_and_then (λ (o : Operation). option_map (deciding_on r o)
          (list_for o.stage (record { from = r.message.from; items = items }))) found)
      by_found None q = tt
      by_found (Some o) q = by_list o q (list_for o.stage (record { from = r.message.from; items = items }))
  deciding_over r w (Get operation) = tt
  deciding_over r w (Put operation items) = tt
  deciding_over r w (Ack operation incarnation) = tt
  deciding_over r w (Ask incarnation) = tt
  deciding_over r w (State incarnation place is_last items) = tt
  deciding_over r w (Got incarnation place) = tt

  reached_over : (p : PrivateCluster) → ((i : ℕ) → p.roster.up i ≡ true → WaitOver P (p.at i).operations)
      → (h : Happening) → IfSome (reached_at p h) (λ (r : Reached). WaitOver P r.local.operations)
  reached_over p w (Delivered from k to count moment) =
      by_late (is_too_late moment) (posted_in p from k to count)
    where
      Waits : Option Reached → Type 0
      Waits o = IfSome o (λ (r : Reached). WaitOver P r.local.operations)

      at : Message → Reached
      at message = record {
        here = here_at p (effective moment p.clock) message.to;
        local = p.at message.to;
        message = message;
      }

      by_arrival : (a : Arrival) (r : Reached) → WaitOver P r.local.operations → Waits (unless_dropped a r)
      by_arrival Dropped r v = tt
      by_arrival Counted r v = v
      by_arrival Taken r v = v

      by_up : (message : Message) (b : Bool) → p.roster.up message.to ≡ b
          → Waits (if b then unless_dropped (arrival (at message).here message (p.at message.to)) (at message)
          else None)
      by_up message true up =
          by_arrival (arrival (at message).here message (p.at message.to)) (at message) (w message.to up)
      by_up message false down = tt

      by_late : (b : Bool) (o : Option Message)
          → Waits (if b then None else option_and_then (λ (message : Message). if p.roster.up message.to
          then unless_dropped (arrival (at message).here message (p.at message.to)) (at message) else None) o)
      by_late true o = tt
      by_late false None = tt
      by_late false (Some message) = by_up message (p.roster.up message.to) refl
  reached_over p w (Asked connection i moment request) = tt
  reached_over p w (Limited limits) = tt
  reached_over p w (Ticked moment) = tt
  reached_over p w (Tried i k number tries moment status) = tt
  reached_over p w (Lost from k to count) = tt
  reached_over p w (Changed event) = tt
  reached_over p w Forced = tt

  -- it is open at an instance that is up
  pub decided_over : (p : PrivateCluster) (h : Happening) (d : Deciding) → deciding_at p h ≡ Some d
      → ((i : ℕ) → p.roster.up i ≡ true → WaitOver P (p.at i).operations)
      → P d.operation.connection d.operation.request
  unfolding deciding_at
  decided_over p h d e w = subst DecidesOver e (by_reached (reached_at p h) (reached_over p w h))
    where
      by_reached : (o : Option Reached) → IfSome o (λ (r : Reached). WaitOver P r.local.operations)
          → DecidesOver (option_and_then (λ (r : Reached). deciding_by r r.message.body) o)
      by_reached None v = tt
      by_reached (Some r) v = deciding_over r v r.message.body

-- ---- elements of lists of lists

pub into_flat : {X Y : Type 0} (f : X → List Y) (xs : List X) (x : X) (y : Y) → Contains xs x → Contains (f x) y
    → Contains (flat_map f xs) y
into_flat f [] x y w e = absurd (omega (arith, w.1))
into_flat f (z ∷ zs) x y w e = elim (contained z zs x w) [
  | inl here ↦ Contains-append_left (f z) (flat_map f zs) y (subst (λ v. Contains (f v) y) (sym here) e)
  | inr later ↦ Contains-append_right (f z) (flat_map f zs) y (into_flat f zs x y later e)
]

pub from_flat : {X Y : Type 0} (f : X → List Y) (xs : List X) (y : Y) → Contains (flat_map f xs) y
    → (x : X) × Contains xs x × Contains (f x) y
from_flat f [] y e = absurd (omega (arith, e.1))
from_flat f (z ∷ zs) y e = elim (Contains-append_cases (f z) (flat_map f zs) y e) [
  | inl here ↦ (z, (0, omega arith, refl), here)
  | inr later ↦
      let found = from_flat f zs y later in
      (found.0, Contains-append_right (z ∷ []) zs found.0 found.1, found.2)
]

-- ---- patterns

-- the request's patterns are among these
abbrev pub Covered : List (List ℕ) → (connection : ℕ) → Request → Type 0
Covered texts connection request = (text : List ℕ) → Contains (patterns_of_request request) text → Contains texts text

covered_at : (p : PrivateCluster) (i : ℕ) → Contains all_instances i
    → WaitOver (Covered (patterns_open p)) (p.at i).operations
covered_at p i is =
    All-weaker (Contains (p.at i).operations) (λ (o : Operation). Covered (patterns_open p) o.connection o.request)
    (λ o w text e.
    into_flat (λ j. patterns_of_operations (p.at j).operations) all_instances i text is
    (into_flat (λ (x : Operation). patterns_of_request x.request) (p.at i).operations o text w e)) (p.at i).operations
    (All-contains_itself (p.at i).operations)

covers_more : (texts more : List (List ℕ)) (os : List Operation) → WaitOver (Covered texts) os
    → WaitOver (Covered (texts ++ more)) os
covers_more texts more os w =
    All-weaker (λ (o : Operation). Covered texts o.connection o.request)
    (λ (o : Operation). Covered (texts ++ more) o.connection o.request)
    (λ o covers text e. Contains-append_left texts more text (covers text e)) os w

covers_brought : (texts : List (List ℕ)) (h : Happening) → AsksAs (Covered (texts ++ patterns_brought h)) h
covers_brought texts (Asked connection i moment request) =
    λ text e. Contains-append_right texts (patterns_of_request request) text e
covers_brought texts (Limited limits) = tt
covers_brought texts (Ticked moment) = tt
covers_brought texts (Tried i k number tries moment status) = tt
covers_brought texts (Delivered from k to count moment) = tt
covers_brought texts (Lost from k to count) = tt
covers_brought texts (Changed event) = tt
covers_brought texts Forced = tt

-- those of open operations after a happening were open before, or came with it
pub open_after : (decide : Decide) (p : PrivateCluster) (h : Happening) (text : List ℕ)
    → Contains (patterns_open (course_by decide p h).cluster) text
    → Contains (patterns_open p ++ patterns_brought h) text
open_after decide p h text e =
    let all : List (List ℕ) = patterns_open p ++ patterns_brought h in
    let q : PrivateCluster = (course_by decide p h).cluster in
    let at = from_flat (λ i. patterns_of_operations (q.at i).operations) all_instances text e in
    let one = from_flat (λ (o : Operation). patterns_of_request o.request) (q.at at.0).operations text at.2 in
    All-contains (λ (o : Operation). Covered all o.connection o.request) (q.at at.0).operations one.0
    (course_waits (Covered all) at.0 decide p h (covers_brought (patterns_open p) h)
    (covers_more (patterns_open p) (patterns_brought h) (p.at at.0).operations (covered_at p at.0 at.1)))
    one.1 text one.2

-- those of the request that is decided are open
pub decided_open : (p : PrivateCluster) (h : Happening) (d : Deciding) → AreInstancesUp p.roster
    → deciding_at p h ≡ Some d → (text : List ℕ) → Contains (patterns_of_request d.operation.request) text
    → Contains (patterns_open p) text
decided_open p h d instances e =
    decided_over (Covered (patterns_open p)) p h d e (λ i up. covered_at p i (instances i up))
