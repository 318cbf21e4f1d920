-- Each State of a tenant is one list, whatever happened since its cluster was opened.
use Rattle.std.proofs.Common.{◌≡◌, ℕ, zero, suc, ◌≤◌, ◌<◌, Bool, true, false, List, [], ◌∷◌, length, map, Option, Some, None, is_some, if◌then◌else◌, refl, sym, subst, ◌∙◌, inl, inr, arith, le_refl}
use Rattle.std.specs.Prelude.{◌⊎◌, Contains, slice_index_or}
use Rattle.std.specs.List.{cons_option}
use Rattle.am_item.specs.declared.item.Item.{Item}
use Rattle.am_ring.specs.Replicas.{replicas}
use Rattle.am_cluster.specs.Arriving.{arrive}
use Rattle.am_cluster.specs.Courses.{after, after_all, course_by, delivered, handled_by, posted_in, refusal_of}
use Rattle.am_cluster.specs.Delivery.{outcome}
use Rattle.am_cluster.specs.Happening.{Happening, Asked, Changed, Delivered, Forced, Limited, Lost, Ticked, Tried}
use Rattle.am_cluster.specs.Messages.{Ack, Answer, Ask, Body, Get, Got, Message, Put, State}
use Rattle.am_cluster.specs.Moments.{effective}
use Rattle.am_cluster.specs.Naming.{IsPast, NamesOnce}
use Rattle.am_cluster.specs.Operating.{Decide, decision_on, start}
use Rattle.am_setup.specs.Setup.{Origin}
use Rattle.am_transfer.specs.Pieces.{Piece, cut}
use Rattle.am_cluster.specs.PrivateCluster.{PrivateCluster, opened, unchanged, unopened, with_all_opened, with_opened}
use Rattle.am_cluster.specs.Sent.{Sent, is_named}
use Rattle.am_cluster.specs.SentFacts.{AreLists, StateName, is_of_state, piece_in, pieces_sent}
use Rattle.am_cluster.specs.Ticking.{ticked}
use Rattle.am_cluster.specs.Transfers.{forced}
use Rattle.am_cluster.proofs.Counted.{arrive_counted, forced_counted, outcome_counted, start_counted, ticked_counted}
use Rattle.am_cluster.proofs.Listed.{arrive_listed, forced_listed, outcome_listed, start_listed, ticked_listed}
use Rattle.am_cluster.proofs.ListsKept.{AllWithin, Within, list_at}
use Rattle.am_cluster.proofs.Named.{Each-same, given_up_message, handled_kept, nothing_sent}
use Rattle.am_cluster.proofs.Names.{Each, Each-head, Each-map, Each-nil, Each-tail}
use Rattle.am_cluster.proofs.StatePieces.{AreOne, IsOf, Not, Of, Timely, receiver_of, timely_same}
use Rattle.am_cluster.proofs.StateTurns.{all_react_one, changed_one, fewer, if_one, react_keeps}

-- ---- one thing happens

-- the same of a cluster that differs in nothing that is told here
alike : (p q : PrivateCluster) → q.sent ≡ p.sent → ((j : ℕ) → q.at j ≡ p.at j) → ((j : ℕ) → q.roster.up j ≡ p.roster.up j)
    → ((j : ℕ) → q.roster.incarnation j ≡ p.roster.incarnation j) → ((j : ℕ) → q.roster.known j ≡ p.roster.known j)
    → NamesOnce q → AreOne p → AreOne q
alike p q sent at up incarnation known kept a =
    fewer p q sent kept
    (λ m body past t. timely_same p q (λ j u. sym (up j) ∙ u) incarnation
    (λ j. subst (λ n. p.roster.known j ≤ n) (sym (known j)) (le_refl (p.roster.known j))) m body t)
    (λ name c. inl (
      record { up = sym (up name.from) ∙ c.up; incarnation = c.incarnation ∙ incarnation name.from; epoch = c.epoch ∙ known name.from },
      at name.from,
    )) a

delivered_one : (decide : Decide) (m : ℕ) (o : Option Message) (p : PrivateCluster) → AreOne p → AreOne (delivered decide m o p).cluster
delivered_one decide m None p a = a
delivered_one decide m (Some message) p a =
    react_keeps (λ here local. arrive decide here message local) m message.to p (λ here. arrive_counted decide here message)
    (λ here. arrive_listed decide here message) a

-- one that was given up
lost_one : (g : Sent → Sent) (same : (s : Sent) → (g s).message ≡ s.message) (p : PrivateCluster) → NamesOnce (record p { sent = map g p.sent })
    → AreOne p → AreOne (record p { sent = map g p.sent })
lost_one g same p kept a =
    let q : PrivateCluster = record p { sent = map g p.sent } in
    record {
      kept = kept;
      timely = Each-same g same (Timely q) p.sent (Each-map (Timely p) (Timely q) p.sent
          (λ m e. timely_same p q (λ i u. u) (λ i. refl) (λ i. le_refl (p.roster.known i)) m m.body e) a.timely);
      one = λ name. record {
        list = (a.one name).list;
        pieces = Each-same g same (Of name (a.one name).list) p.sent (a.one name).pieces;
        kept = λ c. still g same p name (a.one name).list
            ((a.one name).kept (record { up = c.up; incarnation = c.incarnation; epoch = c.epoch }));
      };
    }
  where
    still : (h : Sent → Sent) (alike_ : (s : Sent) → (h s).message ≡ s.message) (r : PrivateCluster) (name : StateName) (list : List Item)
        → (list_at (receiver_of name) (r.at name.from) ≡ Some list) ⊎ Each (Not name) r.sent
        → (list_at (receiver_of name) (r.at name.from) ≡ Some list) ⊎ Each (Not name) (map h r.sent)
    still h alike_ r name list (inl e) = inl e
    still h alike_ r name list (inr none) = inr (Each-same h alike_ (Not name) r.sent none)

handled_one : (decide : Decide) (p : PrivateCluster) (h : Happening) → NamesOnce (handled_by decide p h).cluster → AreOne p
    → AreOne (handled_by decide p h).cluster
unfolding handled_by
handled_one decide p (Asked connection i moment request) kept a =
    react_keeps (λ here local. start here connection request local) (effective moment p.clock) i p
    (λ here. start_counted here connection request) (λ here. start_listed here connection request) a
handled_one decide p (Limited limits) kept a =
    alike p (record p { limits = limits }) refl (λ j. refl) (λ j. refl) (λ j. refl) (λ j. refl) kept a
handled_one decide p (Ticked moment) kept a =
    all_react_one (λ i. ticked) moment (record p { clock = moment }) (λ i. ticked_counted) (λ i. ticked_listed)
    (alike p (record p { clock = moment }) refl (λ j. refl) (λ j. refl) (λ j. refl) (λ j. refl)
    (record {
      named = a.kept.named;
      past = Each-map (IsPast p) (IsPast (record p { clock = moment })) p.sent
          (λ m e. record { incarnation = e.incarnation; counted = e.counted }) a.kept.past;
    }) a)
handled_one decide p (Tried i k number tries moment status) kept a =
    react_keeps (λ here local. outcome here number tries status local) (effective moment p.clock) i p
    (λ here. outcome_counted here number tries status) (λ here. outcome_listed here number tries status) a
handled_one decide p (Delivered from k to count moment) kept a =
    delivered_one decide (effective moment p.clock) (posted_in p from k to count) p a
handled_one decide p (Lost from k to count) kept a =
    lost_one (λ s. if is_named from k to count s then record s { given_up = true } else s)
    (λ s. given_up_message (is_named from k to count s) s) p kept a
handled_one decide p (Changed event) kept a = changed_one event p a
handled_one decide p Forced kept a = all_react_one (λ i. forced) p.clock p (λ i. forced_counted) (λ i. forced_listed) a

course_one : (decide : Decide) (p : PrivateCluster) (h : Happening) → AreOne p → AreOne (course_by decide p h).cluster
unfolding course_by
course_one decide p h a =
    if_one (is_some (refusal_of p h)) (unchanged p) (handled_by decide p h) (λ refused. a) (handled_one decide p h (handled_kept decide p h a.kept) a)

-- ---- all that happens

run_one : (p : PrivateCluster) (hs : List Happening) → AreOne p → AreOne (after_all p hs)
run_one p [] a = a
run_one p (h ∷ hs) a = run_one (after p h) hs (course_one (decision_on p.service_key) p h a)

none_yet : (p : PrivateCluster) → p.sent ≡ [] → NamesOnce p → AreOne p
none_yet p e kept = record {
  kept = kept;
  timely = subst (Each (Timely p)) (sym e) (Each-nil (Timely p));
  one = λ name. record {
    list = [];
    pieces = subst (Each (Of name [])) (sym e) (Each-nil (Of name []));
    kept = λ c. inr (subst (Each (Not name)) (sym e) (Each-nil (Not name)));
  };
}

sent_nothing : (is : List ℕ) (p : PrivateCluster) → p.sent ≡ [] → (with_all_opened is p).sent ≡ []
sent_nothing [] p e = e
sent_nothing (i ∷ is) p e = sent_nothing is (with_opened i p) e

-- ---- pieces as lists have them

piece_by : (all : List Piece) (piece : Piece) (rest : List Piece) (b : Bool) → (b ≡ true → Within piece all)
    → AllWithin rest all → AllWithin (cons_option (if b then Some piece else None) rest) all
piece_by all piece rest true within e = (within refl, e)
piece_by all piece rest false within e = e

within_contains : (xs : List Piece) (x : Piece) → Within x xs → Contains xs x
within_contains [] x w = elim w [ ]
within_contains (y ∷ ys) x (inl e) = (0, omega arith, e)
within_contains (y ∷ ys) x (inr w) =
    let c = within_contains ys x w in
    let low : c.0 < length ys = c.1 in
    (suc c.0, omega (arith, low), c.2)

contained : (ps all : List Piece) (x : Piece) (k : ℕ) → AllWithin ps all → k < length ps → slice_index_or ps k x ≡ x → Within x all
contained [] all x k e low is = absurd (let none : ⊥ = omega (arith, low) in none)
contained (p ∷ ps) all x zero e low is = subst (λ y. Within y all) is e.0
contained (p ∷ ps) all x (suc k) e low is = contained ps all x k e.1 (omega (arith, low)) is

all_pieces : (name : StateName) (list : List Item) (sent : List Sent) → Each (Of name list) sent → AllWithin (pieces_sent name sent) (cut list)
unfolding pieces_sent
all_pieces name list [] e = tt
all_pieces name list (s ∷ more) e =
    by_body s.message s.message.body (Each-head (Of name list) s more e)
    (all_pieces name list more (Each-tail (Of name list) s more e))
  where
    by_body : (m : Message) (body : Body) → IsOf name list m body → AllWithin (pieces_sent name more) (cut list)
        → AllWithin (cons_option (piece_in name m body) (pieces_sent name more)) (cut list)
    by_body m (State k place is_last items) of rest = piece_by (cut list) (record { place = place; is_last = is_last; items = items })
        (pieces_sent name more) (is_of_state name m k) of rest
    by_body m (Get operation) of rest = rest
    by_body m (Answer operation incarnation items) of rest = rest
    by_body m (Put operation items) of rest = rest
    by_body m (Ack operation incarnation) of rest = rest
    by_body m (Ask incarnation) of rest = rest
    by_body m (Got incarnation place) of rest = rest

pub states_are_lists : (origin : Origin) (tenant : List ℕ) (rows : ℕ → List Item) (hs : List Happening)
    → AreLists (after_all (opened origin tenant rows) hs).sent
states_are_lists origin tenant rows hs name =
    let start_p : PrivateCluster = unopened (replicas tenant) origin tenant rows in
    let a = run_one (opened origin tenant rows) hs
    (none_yet (opened origin tenant rows) (sent_nothing origin.ring start_p refl) (nothing_sent origin.ring start_p refl)) in
    let one = a.one name in
    record {
      list = one.list;
      pieces = λ piece c. within_contains (cut one.list) piece
          (contained (pieces_sent name (after_all (opened origin tenant rows) hs).sent) (cut one.list) piece c.0
          (all_pieces name one.list (after_all (opened origin tenant rows) hs).sent one.pieces) c.1 c.2);
    }
