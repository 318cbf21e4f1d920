-- While no instance joins, leaves or is restarted, the cluster is steady, whatever else happens.
use Rattle.std.proofs.Common.{◌≡◌, ℕ, Bool, true, false, ◌&&◌, List, [], ◌∷◌, ◌++◌, map, filter, Option, Some, None, is_some, if◌then◌else◌, refl, sym, ap, ◌∙◌}
use Rattle.std.specs.Prelude.{IfSome, ◌==◌, find}
use Rattle.std.specs.List.{flat_map, list_any}
use Rattle.std.proofs.lemmas.Bool.{eq-eqb, false≢true, or_from, or_parts, true≢false}
use Rattle.am_item.specs.declared.item.Item.{Item}
use Rattle.am_ring.specs.Instances.{all_instances, in_order, is_among, is_instance}
use Rattle.am_ring.specs.Replicas.{count_before, replicas}
use Rattle.am_ring.proofs.Lists.{among-filter}
use Rattle.am_ring.proofs.Numbers.{among_all}
use Rattle.am_ring.specs.Instances.{all_instances}
use Rattle.am_labels.specs.Hashes.{place}
use Rattle.am_cluster.specs.Accepting.{accepted}
use Rattle.am_cluster.specs.Arriving.{arrive}
use Rattle.am_cluster.specs.Courses.{after, after_all, changed, course_by, delivered, handled_by, posted_in, refusal_of}
use Rattle.am_cluster.specs.Delivery.{outcome}
use Rattle.am_cluster.specs.Happening.{Happening, Asked, Changed, Delivered, Forced, Limited, Lost, Ticked, Tried}
use Rattle.am_cluster.specs.Here.{Here, is_replica_here}
use Rattle.am_cluster.specs.Local.{Local, blank, is_settled}
use Rattle.am_cluster.specs.Messages.{Message}
use Rattle.am_cluster.specs.Moments.{effective}
use Rattle.am_cluster.specs.Operating.{Decide, decision_on, start}
use Rattle.am_setup.specs.Setup.{Origin}
use Rattle.am_cluster.specs.PrivateCluster.{Course, PrivateCluster, here_at, opened, react, react_all, react_one, reaction_at, unchanged, unopened, with_all_opened, with_opened}
use Rattle.am_cluster.specs.Reactions.{Reaction, messages_in, stays}
use Rattle.am_cluster.specs.Refused.{Refused, NothingToLearn}
use Rattle.am_cluster.specs.RingChanges.{opened as opened_with}
use Rattle.am_cluster.specs.Rings.{is_always_replica}
use Rattle.am_cluster.specs.Roster.{Crashes, Joins, Learns, Leaves, Restarts, has_stayed, put_at, ring_event_refusal, roster_after, three_at}
use Rattle.am_cluster.specs.Sent.{Sent, is_lost, is_named, posted, sent_at, unlost}
use Rattle.am_transfer.specs.Settling.{untouched}
use Rattle.am_cluster.specs.Steady.{IsSteady, any_moves, is_of_settling, moves}
use Rattle.am_cluster.specs.Ticking.{ticked}
use Rattle.am_cluster.specs.Transfers.{forced}
use Rattle.am_cluster.proofs.Named.{given_up_message}
use Rattle.am_cluster.proofs.Start.{replicas_settled}
use Rattle.am_cluster.proofs.StatePieces.{refuted}
use Rattle.am_cluster.proofs.Still.{ArePlain, AreStill, HasStayed, IsStill, any-append, arrive_still, forced_still, if_still, outcome_still, start_still, ticked_still}

-- ---- what was sent

abbrev settles : Sent → Bool
settles s = is_of_settling s.message.body

plain_sent : (moment : ℕ) (ms : List Message) → ArePlain ms
    → list_any settles (map (λ (m : Message). let s : Sent = record { message = m; moment = moment; given_up = false } in s) ms) ≡ false
plain_sent moment [] e = refl
plain_sent moment (m ∷ ms) e =
    let parts = or_parts (is_of_settling m.body) (list_any (λ (n : Message). is_of_settling n.body) ms) e in
    or_from (is_of_settling m.body)
    (list_any settles (map (λ (n : Message). let s : Sent = record { message = n; moment = moment; given_up = false } in s) ms))
    parts.0 (plain_sent moment ms parts.1)

-- the same messages, whether one was given up
same_sent : (g : Sent → Sent) → ((s : Sent) → (g s).message ≡ s.message) → (xs : List Sent) → list_any settles xs ≡ false
    → list_any settles (map g xs) ≡ false
same_sent g same [] e = refl
same_sent g same (x ∷ xs) e =
    let parts = or_parts (settles x) (list_any settles xs) e in
    or_from (settles (g x)) (list_any settles (map g xs)) (ap (λ (m : Message). is_of_settling m.body) (same x) ∙ parts.0)
    (same_sent g same xs parts.1)

-- a message that is there to be delivered is one that was sent
abbrev Plain : Message → Type 0
Plain m = is_of_settling m.body ≡ false

found_plain : (clock : ℕ) (f : Sent → Bool) (xs : List Sent) → list_any settles xs ≡ false → IfSome (unlost clock (find f xs)) Plain
found_plain clock f [] e = tt
found_plain clock f (x ∷ xs) e =
    let parts = or_parts (settles x) (list_any settles xs) e in
    by_test (f x) parts.0 (found_plain clock f xs parts.1)
  where
    by_life : (lost : Bool) → settles x ≡ false → IfSome (if lost then None else Some x.message) Plain
    by_life true plain = tt
    by_life false plain = plain

    by_test : (b : Bool) → settles x ≡ false → IfSome (unlost clock (find f xs)) Plain
        → IfSome (unlost clock (if b then Some x else find f xs)) Plain
    by_test true plain more = by_life (is_lost clock x) plain
    by_test false plain more = more

-- ---- one thing happens

if_steady : (b : Bool) (c d : Course) → IsSteady c.cluster → (b ≡ false → IsSteady d.cluster) → IsSteady (if b then c else d).cluster
if_steady true c d e f = e
if_steady false c d e f = f refl

chosen : (b : Bool) (k l : Local) → k.settling ≡ untouched → l.settling ≡ untouched → (if b then k else l).settling ≡ untouched
chosen true k l e d = e
chosen false k l e d = d

put_one : (f : ℕ → Local) (i : ℕ) (x : Local) → x.settling ≡ untouched → ((j : ℕ) → (f j).settling ≡ untouched) → (j : ℕ)
    → (put_at f i x j).settling ≡ untouched
put_one f i x e d j = chosen (j == i) x (f j) e (d j)

one_steady : (f : Here → Local → Reaction) (m i : ℕ) (p : PrivateCluster) → ((here : Here) → HasStayed here → AreStill (f here))
    → IsSteady p → IsSteady (react_one f m i p).cluster
unfolding react_one here_at
one_steady f m i p still s =
    let r : Reaction = f (here_at p m i) (p.at i) in
    let e : IsStill r = still (here_at p m i) (s.stayed i) (p.at i) (s.settling i) in
    record {
      stayed = s.stayed;
      newest = s.newest;
      settling = put_one p.at i r.local e.settling s.settling;
      sent = any-append settles p.sent (sent_at m r.said) s.sent (plain_sent m (messages_in r.said) e.said);
    }

react_steady : (f : Here → Local → Reaction) (m i : ℕ) (p : PrivateCluster) → ((here : Here) → HasStayed here → AreStill (f here))
    → IsSteady p → IsSteady (react f m i p).cluster
react_steady f m i p still s = by_up (p.roster.up i)
  where
    by_up : (b : Bool) → IsSteady (if b then react_one f m i p else unchanged p).cluster
    by_up true = one_steady f m i p still s
    by_up false = s

said_plain : (m : ℕ) (r : ℕ → Reaction) → ((i : ℕ) → IsStill (r i)) → (is : List ℕ)
    → list_any settles (flat_map (λ i. sent_at m (r i).said) is) ≡ false
said_plain m r e [] = refl
said_plain m r e (i ∷ is) =
    any-append settles (sent_at m (r i).said) (flat_map (λ j. sent_at m (r j).said) is)
    (plain_sent m (messages_in (r i).said) (e i).said) (said_plain m r e is)

all_steady : (f : ℕ → Here → Local → Reaction) (m : ℕ) (p : PrivateCluster)
    → ((i : ℕ) (here : Here) → HasStayed here → AreStill (f i here)) → IsSteady p → IsSteady (react_all f m p).cluster
unfolding react_all here_at
all_steady f m p still s =
    let each : (i : ℕ) → IsStill (reaction_at f m p i) =
    λ i. if_still (p.roster.up i) (f i (here_at p m i) (p.at i)) (stays (p.at i))
    (still i (here_at p m i) (s.stayed i) (p.at i) (s.settling i)) (record { settling = s.settling i; said = refl }) in
    record {
      stayed = s.stayed;
      newest = s.newest;
      settling = λ i. (each i).settling;
      sent = any-append settles p.sent (flat_map (λ i. sent_at m (reaction_at f m p i).said) all_instances) s.sent
          (said_plain m (λ i. reaction_at f m p i) each all_instances);
    }

delivered_steady : (decide : Decide) (m : ℕ) (o : Option Message) (p : PrivateCluster) → IfSome o Plain → IsSteady p
    → IsSteady (delivered decide m o p).cluster
delivered_steady decide m None p plain s = s
delivered_steady decide m (Some message) p plain s =
    react_steady (λ here local. arrive decide here message local) m message.to p
    (λ here e. arrive_still decide here message plain e) s

posted_plain : (p : PrivateCluster) (from k to count : ℕ) → IsSteady p → IfSome (posted_in p from k to count) Plain
unfolding posted
posted_plain p from k to count s = found_plain p.clock (is_named from k to count) p.sent s.sent

crashed_steady : (i : ℕ) (p : PrivateCluster) → IsSteady p → IsSteady (changed (Crashes i) p).cluster
unfolding changed roster_after has_stayed three_at
crashed_steady i p s =
    record { stayed = s.stayed; newest = s.newest; settling = put_one p.at i blank refl s.settling; sent = s.sent }

-- nobody has a ring to learn
abbrev learn_refusal : Bool → Option Refused
learn_refusal b = if b then None else Some NothingToLearn

never_learned : (up : Bool) → is_some (learn_refusal (up && false)) ≡ true
never_learned true = refl
never_learned false = refl

learn_refused : (p : PrivateCluster) (i : ℕ) → IsSteady p → is_some (refusal_of p (Changed (Learns i))) ≡ true
unfolding refusal_of ring_event_refusal
learn_refused p i s =
    ap (λ b. is_some (learn_refusal (p.roster.up i && b))) (s.newest i) ∙ never_learned (p.roster.up i)

handled_steady : (decide : Decide) (p : PrivateCluster) (h : Happening) → moves h ≡ false → is_some (refusal_of p h) ≡ false
    → IsSteady p → IsSteady (handled_by decide p h).cluster
unfolding handled_by
handled_steady decide p (Asked connection i moment request) keeps unrefused s =
    react_steady (λ here local. start here connection request local) (effective moment p.clock) i p
    (λ here e. start_still here connection request) s
handled_steady decide p (Limited limits) keeps unrefused s =
    record { stayed = s.stayed; newest = s.newest; settling = s.settling; sent = s.sent }
handled_steady decide p (Ticked moment) keeps unrefused s =
    all_steady (λ i. ticked) moment (record p { clock = moment }) (λ i here e. ticked_still here)
    (record { stayed = s.stayed; newest = s.newest; settling = s.settling; sent = s.sent })
handled_steady decide p (Tried i k number tries moment status) keeps unrefused s =
    react_steady (λ here local. outcome here number tries status local) (effective moment p.clock) i p
    (λ here e. outcome_still here number tries status) s
handled_steady decide p (Delivered from k to count moment) keeps unrefused s =
    delivered_steady decide (effective moment p.clock) (posted_in p from k to count) p (posted_plain p from k to count s) s
handled_steady decide p (Lost from k to count) keeps unrefused s = record {
  stayed = s.stayed;
  newest = s.newest;
  settling = s.settling;
  sent = same_sent (λ (x : Sent). if is_named from k to count x then record x { given_up = true } else x)
      (λ x. given_up_message (is_named from k to count x) x) p.sent s.sent;
}
handled_steady decide p (Changed (Crashes i)) keeps unrefused s = crashed_steady i p s
handled_steady decide p (Changed (Learns i)) keeps unrefused s = absurd (true≢false (sym (learn_refused p i s) ∙ unrefused))
handled_steady decide p (Changed (Joins i)) keeps unrefused s = absurd (true≢false keeps)
handled_steady decide p (Changed (Leaves i)) keeps unrefused s = absurd (true≢false keeps)
handled_steady decide p (Changed (Restarts i)) keeps unrefused s = absurd (true≢false keeps)
handled_steady decide p Forced keeps unrefused s = all_steady (λ i. forced) p.clock p (λ i here e. forced_still here e) s

course_steady : (decide : Decide) (p : PrivateCluster) (h : Happening) → moves h ≡ false → IsSteady p
    → IsSteady (course_by decide p h).cluster
unfolding course_by
course_steady decide p h keeps s =
    if_steady (is_some (refusal_of p h)) (unchanged p) (handled_by decide p h) s (λ unrefused. handled_steady decide p h keeps unrefused s)

-- ---- all that happens

pub stay_steady : (p : PrivateCluster) (hs : List Happening) → IsSteady p → any_moves hs ≡ false → IsSteady (after_all p hs)
stay_steady p [] s e = s
stay_steady p (h ∷ hs) s e =
    let parts = or_parts (moves h) (any_moves hs) e in
    stay_steady (after p h) hs (course_steady (decision_on p.service_key) p h parts.0 s) parts.1

pub all_settled : (p : PrivateCluster) (moment i : ℕ) → IsSteady p
    → is_settled (here_at p moment i) (p.at i) ≡ is_replica_here (here_at p moment i)
unfolding here_at
all_settled p moment i s = replicas_settled (here_at p moment i) (p.at i) (s.stayed i) (s.settling i)

-- ---- its start

never : (b : Bool) → (b && false) ≡ false
never true = refl
never false = refl

-- what is no instance's number is among no replicas
no_instance : (i : ℕ) → is_instance i ≡ false → is_among i all_instances ≡ false
no_instance i e = refuted (is_among i all_instances) (λ among. false≢true (sym e ∙ among_all i among))

filtered_out : (i : ℕ) (f : ℕ → Bool) (xs : List ℕ) → is_among i xs ≡ false → is_among i (filter f xs) ≡ false
filtered_out i f xs e = among-filter f i xs ∙ ap (λ b. f i && b) e ∙ never (f i)

no_replica : (tenant ring : List ℕ) (i : ℕ) → is_among i ring ≡ false → is_among i (replicas tenant ring) ≡ false
unfolding replicas
no_replica tenant ring i e =
    any-append (λ j. i == j) (at 0) (at 1 ++ (at 2 ++ [])) (out 0)
    (any-append (λ j. i == j) (at 1) (at 2 ++ []) (out 1) (any-append (λ j. i == j) (at 2) [] (out 2) refl))
  where
    at : ℕ → List ℕ
    at n = filter (λ j. count_before (place tenant) ring j == n) ring

    out : (n : ℕ) → is_among i (at n) ≡ false
    out n = filtered_out i (λ j. count_before (place tenant) ring j == n) ring e

ordered_out : (ring : List ℕ) (i : ℕ) → is_instance i ≡ false → is_among i (in_order ring) ≡ false
unfolding in_order
ordered_out ring i e = filtered_out i (λ j. is_among j ring) all_instances (no_instance i e)

stayed_by : (b a : Bool) (first : ℕ) → (b ≡ false → a ≡ false) → ((if b then first else 0) == first && (a && true)) ≡ a
stayed_by true a first e = ap (λ t. t && (a && true)) (eq-eqb first first refl) ∙ same a
  where
    same : (c : Bool) → (c && true) ≡ c
    same true = refl
    same false = refl
stayed_by false a first e = ap (λ c. 0 == first && (c && true)) (e refl) ∙ never (0 == first) ∙ sym (e refl)

first_steady : (origin : Origin) (tenant : List ℕ) (rows : ℕ → List Item) → IsSteady (unopened (replicas tenant) origin tenant rows)
unfolding has_stayed three_at is_always_replica
first_steady origin tenant rows = record {
  stayed = λ i. stayed_by (is_instance i) (is_among i (replicas tenant (in_order origin.ring))) origin.first
      (λ e. no_replica tenant (in_order origin.ring) i (ordered_out origin.ring i e));
  newest = λ i. refl;
  settling = λ i. refl;
  sent = refl;
}

opened_one : (here : Here) (rows : List Item) → (opened_with here rows).settling ≡ untouched
unfolding opened_with accepted
opened_one here rows = chosen (is_replica_here here) (accepted here.moment rows blank) blank refl refl

opened_all : (is : List ℕ) (p : PrivateCluster) → IsSteady p → IsSteady (with_all_opened is p)
opened_all [] p s = s
opened_all (i ∷ is) p s =
    opened_all is (with_opened i p) (record {
      stayed = s.stayed;
      newest = s.newest;
      settling = put_one p.at i (opened_with (here_at p p.clock i) (p.rows i)) (opened_one (here_at p p.clock i) (p.rows i)) s.settling;
      sent = s.sent;
    })

pub opened_steady : (origin : Origin) (tenant : List ℕ) (rows : ℕ → List Item) → IsSteady (opened origin tenant rows)
opened_steady origin tenant rows =
    opened_all origin.ring (unopened (replicas tenant) origin tenant rows) (first_steady origin tenant rows)
