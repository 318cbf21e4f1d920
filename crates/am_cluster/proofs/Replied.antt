-- A tenant's replies go to connections over which its requests came, whatever happened since its cluster was opened.
use Rattle.std.proofs.Common.{ℕ, Bool, true, false, All, Contains, List, [], ◌∷◌, IfSome, Option, Some, None, is_some, if◌then◌else◌, flat_map}
use Rattle.std.specs.Prelude.{◌==◌}
use Rattle.std.specs.List.{cons_option}
use Rattle.std.proofs.lemmas.List.Elements.{All-append, All-cons, All-contains, All-contains_itself, All-head, All-map, All-nil, All-tail, All-weaker}
use Rattle.am_http.specs.declared.request.Request.{Request}
use Rattle.am_item.specs.declared.item.Item.{Item}
use Rattle.am_ring.specs.Instances.{all_instances}
use Rattle.am_ring.specs.Replicas.{replicas}
use Rattle.am_rows.specs.Rows.{stored_in}
use Rattle.am_cluster.specs.Accepting.{accepted}
use Rattle.am_cluster.specs.Arriving.{arrive}
use Rattle.am_cluster.specs.Courses.{after, after_all, at_restart, changed, course_by, delivered, handled_by, posted_in, refusal_of, told, told_all, with_event}
use Rattle.am_cluster.specs.Delivery.{outcome}
use Rattle.am_cluster.specs.Events.{Reply}
use Rattle.am_cluster.specs.Happening.{Happening, Asked, Changed, Delivered, Forced, Limited, Lost, Ticked, Tried}
use Rattle.am_cluster.specs.Here.{Here, is_replica_here}
use Rattle.am_cluster.specs.Local.{Local, blank}
use Rattle.am_cluster.specs.Messages.{Message}
use Rattle.am_cluster.specs.Moments.{effective}
use Rattle.am_cluster.specs.Operating.{Decide, decision_on, start}
use Rattle.am_cluster.specs.Operations.{Operation}
use Rattle.am_setup.specs.Setup.{Origin}
use Rattle.am_cluster.specs.PrivateCluster.{Course, PrivateCluster, here_at, opened, output_of, put_out_at, react, react_all, react_one, reaction_at, stopped, unchanged, unopened, with_all_opened, with_opened}
use Rattle.am_cluster.specs.Reactions.{Reaction, Replies, Said, Sends, Tells, stays}
use Rattle.am_cluster.specs.Replying.{AsksAs, GoesOver, IsOutOver, IsOver, KeepsAskers, ReplyOver, WaitOver, connection_in, connections_of}
use Rattle.am_cluster.specs.RingChanges.{just_opened, opened as opened_with, ring_learned}
use Rattle.am_cluster.specs.Roster.{Crashes, Joins, Learns, Leaves, Restarts, RingEvent, put_at, three_at}
use Rattle.am_cluster.specs.Ticking.{ticked}
use Rattle.am_cluster.specs.Transfers.{forced}
use Rattle.am_cluster.proofs.ReplyPieces.{either_over, if_over, outcome_over, start_over, stays_over}
use Rattle.am_cluster.proofs.ReplyTurns.{arrive_over, forced_over, just_opened_over, learned_over, restart_over, ticked_over}

-- each open operation of the tenant will reply over a connection of which P holds
abbrev pub AllWaitOver : (P : (connection : ℕ) → Request → Type 0) → PrivateCluster → Type 0
AllWaitOver P p = (i : ℕ) → WaitOver P (p.at i).operations

-- .. after a course, whose replies went over such connections
abbrev pub IsCourseOver : (P : (connection : ℕ) → Request → Type 0) → Course → Type 0
IsCourseOver P c = AllWaitOver P c.cluster × All (IsOutOver P) c.outputs

module _ (P : (connection : ℕ) → Request → Type 0) where
  -- ---- what is put out

  pub out_over : (p : PrivateCluster) (i : ℕ) (said : List Said) → ReplyOver P said
      → All (IsOutOver P) (put_out_at p i said)
  out_over p i said e =
      All-map (IsOutOver P) (output_of p.tenant i (p.roster.incarnation i)) said
      (All-weaker (GoesOver P) (λ (w : Said). IsOutOver P (output_of p.tenant i (p.roster.incarnation i) w))
      by_word said e)
    where
      by_word : (w : Said) → GoesOver P w → IsOutOver P (output_of p.tenant i (p.roster.incarnation i) w)
      by_word (Replies connection bytes) goes = goes
      by_word (Sends message) goes = tt
      by_word (Tells sending) goes = tt

  pub all_out_over : (p : PrivateCluster) (r : ℕ → Reaction) → ((i : ℕ) → IsOver P (r i)) → (is : List ℕ)
      → All (IsOutOver P) (flat_map (λ i. put_out_at p i (r i).said) is)
  all_out_over p r e [] = All-nil (IsOutOver P)
  all_out_over p r e (i ∷ is) =
      All-append (IsOutOver P) (put_out_at p i (r i).said) (flat_map (λ j. put_out_at p j (r j).said) is)
      (out_over p i (r i).said (e i).1) (all_out_over p r e is)

  -- ---- instances react

  pub put_over : (f : ℕ → Local) (i : ℕ) (x : Local) → WaitOver P x.operations
      → ((j : ℕ) → WaitOver P (f j).operations) → (j : ℕ) → WaitOver P (put_at f i x j).operations
  put_over f i x e d j = either_over P (j == i) x (f j) e (d j)

  pub unchanged_over : (p : PrivateCluster) → AllWaitOver P p → IsCourseOver P (unchanged p)
  unchanged_over p w = (w, All-nil (IsOutOver P))

  pub if_course_over : (b : Bool) (c d : Course) → IsCourseOver P c → IsCourseOver P d
      → IsCourseOver P (if b then c else d)
  if_course_over true c d e f = e
  if_course_over false c d e f = f

  pub one_over : (f : Here → Local → Reaction) (m i : ℕ) (p : PrivateCluster)
      → ((here : Here) → KeepsAskers P (f here)) → AllWaitOver P p → IsCourseOver P (react_one f m i p)
  unfolding react_one
  one_over f m i p keeps w =
      let e = keeps (here_at p m i) (p.at i) (w i) in (
        put_over p.at i (f (here_at p m i) (p.at i)).local e.0 w,
        out_over p i (f (here_at p m i) (p.at i)).said e.1,
      )

  pub react_over : (f : Here → Local → Reaction) (m i : ℕ) (p : PrivateCluster)
      → ((here : Here) → KeepsAskers P (f here)) → AllWaitOver P p → IsCourseOver P (react f m i p)
  react_over f m i p keeps w =
      if_course_over (p.roster.up i) (react_one f m i p) (unchanged p) (one_over f m i p keeps w) (unchanged_over p w)

  pub all_react_over : (f : ℕ → Here → Local → Reaction) (m : ℕ) (p : PrivateCluster)
      → ((i : ℕ) (here : Here) → KeepsAskers P (f i here)) → AllWaitOver P p → IsCourseOver P (react_all f m p)
  unfolding react_all
  all_react_over f m p keeps w = (λ i. (each i).0, all_out_over p (λ i. reaction_at f m p i) each all_instances)
    where
      each : (i : ℕ) → IsOver P (reaction_at f m p i)
      each i =
          if_over P (p.roster.up i) (f i (here_at p m i) (p.at i)) (stays (p.at i))
          (keeps i (here_at p m i) (p.at i) (w i)) (stays_over P (p.at i) (w i))

  -- ---- the ring and its instances

  pub none_over : WaitOver P []
  none_over = All-nil (λ (o : Operation). P o.connection o.request)

  pub rows_over : (here : Here) (rows : List Item) → WaitOver P (opened_with here rows).operations
  unfolding opened_with accepted
  rows_over here rows = either_over P (is_replica_here here) (accepted here.moment rows blank) blank none_over none_over

  pub with_opened_over : (i : ℕ) (p : PrivateCluster) → AllWaitOver P p → AllWaitOver P (with_opened i p)
  with_opened_over i p w =
      put_over p.at i (opened_with (here_at p p.clock i) (p.rows i)) (rows_over (here_at p p.clock i) (p.rows i)) w

  pub changed_over : (event : RingEvent) (p : PrivateCluster) → AllWaitOver P p → IsCourseOver P (changed event p)
  unfolding changed
  changed_over (Joins i) p w =
      react_over just_opened p.clock i (with_opened i (with_event (Joins i) p)) (just_opened_over P)
      (with_opened_over i (with_event (Joins i) p) w)
  changed_over (Leaves i) p w =
      unchanged_over (stopped i (if p.roster.up i then [] else p.rows i) (with_event (Leaves i) p))
      (put_over p.at i blank none_over w)
  changed_over (Crashes i) p w =
      unchanged_over (stopped i (stored_in (p.at i).held) (with_event (Crashes i) p))
      (put_over p.at i blank none_over w)
  changed_over (Restarts i) p w =
      all_react_over (at_restart i) p.clock (with_opened i (with_event (Restarts i) p)) (restart_over P i)
      (with_opened_over i (with_event (Restarts i) p) w)
  changed_over (Learns i) p w =
      react_over (λ here local. ring_learned here (three_at p.replicas_by p.roster i) local) p.clock i
      (with_event (Learns i) p) (λ here. learned_over P here (three_at p.replicas_by p.roster i)) w

  -- ---- one thing happens

  pub delivered_over : (decide : Decide) (m : ℕ) (o : Option Message) (p : PrivateCluster) → AllWaitOver P p
      → IsCourseOver P (delivered decide m o p)
  delivered_over decide m None p w = unchanged_over p w
  delivered_over decide m (Some message) p w =
      react_over (λ here local. arrive decide here message local) m message.to p
      (λ here. arrive_over P decide here message) w

  pub happening_over : (decide : Decide) (p : PrivateCluster) (h : Happening) → AsksAs P h
      → AllWaitOver P p → IsCourseOver P (handled_by decide p h)
  unfolding handled_by
  happening_over decide p (Asked connection i moment request) asked w =
      react_over (λ here local. start here connection request local) (effective moment p.clock) i p
      (λ here. start_over P here connection request asked) w
  happening_over decide p (Limited limits) asked w = unchanged_over (record p { limits = limits }) w
  happening_over decide p (Ticked moment) asked w =
      all_react_over (λ i. ticked) moment (record p { clock = moment }) (λ i. ticked_over P) w
  happening_over decide p (Tried i k number tries moment status) asked w =
      react_over (λ here local. outcome here number tries status local) (effective moment p.clock) i p
      (λ here. outcome_over P here number tries status) w
  happening_over decide p (Delivered from k to count moment) asked w =
      delivered_over decide (effective moment p.clock) (posted_in p from k to count) p w
  happening_over decide p (Lost from k to count) asked w = (w, All-nil (IsOutOver P))
  happening_over decide p (Changed event) asked w = changed_over event p w
  happening_over decide p Forced asked w = all_react_over (λ i. forced) p.clock p (λ i. forced_over P) w

  pub course_over : (decide : Decide) (p : PrivateCluster) (h : Happening) → AsksAs P h
      → AllWaitOver P p → IsCourseOver P (course_by decide p h)
  unfolding course_by
  course_over decide p h asked w =
      if_course_over (is_some (refusal_of p h)) (unchanged p) (handled_by decide p h) (unchanged_over p w)
      (happening_over decide p h asked w)

  -- ---- all that happens

  pub run_over : (p : PrivateCluster) (hs : List Happening) → All (AsksAs P) hs → AllWaitOver P p
      → AllWaitOver P (after_all p hs) × All (IsOutOver P) (told_all p hs)
  run_over p [] all w = (w, All-nil (IsOutOver P))
  run_over p (h ∷ hs) all w =
      let first = course_over (decision_on p.service_key) p h (All-head (AsksAs P) h hs all) w in
      let more = run_over (after p h) hs (All-tail (AsksAs P) h hs all) first.0 in
      (more.0, All-append (IsOutOver P) (told p h) (told_all (after p h) hs) first.1 more.1)

  -- ---- its start

  all_opened_over : (is : List ℕ) (p : PrivateCluster) → AllWaitOver P p → AllWaitOver P (with_all_opened is p)
  all_opened_over [] p w = w
  all_opened_over (i ∷ is) p w = all_opened_over is (with_opened i p) (with_opened_over i p w)

  pub opened_over : (origin : Origin) (tenant : List ℕ) (rows : ℕ → List Item)
      → AllWaitOver P (opened origin tenant rows)
  opened_over origin tenant rows =
      all_opened_over origin.ring (unopened (replicas tenant) origin tenant rows) (λ i. none_over)

-- ---- the connections over which requests came

module _ (Q : ℕ → Type 0) where
  with_first : (o : Option ℕ) (cs : List ℕ) → All Q (cons_option o cs) → IfSome o Q × All Q cs
  with_first None cs all = (tt, all)
  with_first (Some c) cs all = (All-head Q c cs all, All-tail Q c cs all)

  one_asks : (h : Happening) → IfSome (connection_in h) Q → AsksAs (λ connection request. Q connection) h
  one_asks (Asked connection i moment request) q = q
  one_asks (Limited limits) q = tt
  one_asks (Ticked moment) q = tt
  one_asks (Tried i k number tries moment status) q = tt
  one_asks (Delivered from k to count moment) q = tt
  one_asks (Lost from k to count) q = tt
  one_asks (Changed event) q = tt
  one_asks Forced q = tt

  -- a predicate on the connections over which requests came alone
  pub all_ask : (hs : List Happening) → All Q (connections_of hs) → All (AsksAs (λ connection request. Q connection)) hs
  all_ask [] all = All-nil (AsksAs (λ connection request. Q connection))
  all_ask (h ∷ hs) all =
      let parts = with_first (connection_in h) (connections_of hs) all in
      All-cons (AsksAs (λ connection request. Q connection)) h hs (one_asks h parts.0) (all_ask hs parts.1)

-- the request came over one of these connections
abbrev Came : List Happening → (connection : ℕ) → Request → Type 0
Came hs connection request = Contains (connections_of hs) connection

came : (origin : Origin) (tenant : List ℕ) (rows : ℕ → List Item) (hs : List Happening)
    → AllWaitOver (Came hs) (after_all (opened origin tenant rows) hs)
    × All (IsOutOver (Came hs)) (told_all (opened origin tenant rows) hs)
came origin tenant rows hs =
    run_over (Came hs) (opened origin tenant rows) hs
    (all_ask (Contains (connections_of hs)) hs (All-contains_itself (connections_of hs)))
    (opened_over (Came hs) origin tenant rows)

pub operations_answer_requests : (origin : Origin) (tenant : List ℕ) (rows : ℕ → List Item) (hs : List Happening)
    (i : ℕ) → WaitOver (λ connection request. Contains (connections_of hs) connection)
    ((after_all (opened origin tenant rows) hs).at i).operations
operations_answer_requests origin tenant rows hs i = (came origin tenant rows hs).0 i

pub replies_answer_requests : (origin : Origin) (tenant : List ℕ) (rows : ℕ → List Item) (hs : List Happening)
    (connection : ℕ) (bytes : List ℕ) → Contains (told_all (opened origin tenant rows) hs) (Reply connection bytes)
    → Contains (connections_of hs) connection
replies_answer_requests origin tenant rows hs connection bytes put_out =
    (All-contains (IsOutOver (Came hs)) (told_all (opened origin tenant rows) hs) (Reply connection bytes)
    (came origin tenant rows hs).1 put_out).1
