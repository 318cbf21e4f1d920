-- What instances do, and what happens to the ring, leaves each State one list.
use Rattle.std.proofs.Common.{◌≡◌, ◌≢◌, ℕ, ◌+◌, ◌≤◌, Bool, true, false, List, [], ◌∷◌, Some, if◌then◌else◌, refl, sym, ap, subst, ◌∙◌, inl, inr, arith, le_refl}
use Rattle.std.specs.Prelude.{◌⊎◌}
use Rattle.std.proofs.lemmas.Bool.{cases_eq, false≢true}
use Rattle.am_item.specs.declared.item.Item.{Item}
use Rattle.am_rows.specs.Rows.{stored_in}
use Rattle.am_ring.specs.Instances.{all_instances}
use Rattle.am_cluster.specs.Courses.{at_restart, changed, with_event}
use Rattle.am_cluster.specs.Here.{Here}
use Rattle.am_cluster.specs.Local.{Local, blank}
use Rattle.am_cluster.specs.Messages.{Ack, Answer, Ask, Body, Get, Got, Message, Put, State}
use Rattle.am_cluster.specs.Naming.{IsPast, NamesOnce}
use Rattle.am_transfer.specs.Peers.{peer}
use Rattle.am_cluster.specs.PrivateCluster.{Course, PrivateCluster, here_at, react, react_all, react_one, reaction_at, stopped, unchanged, with_opened}
use Rattle.am_cluster.specs.Reactions.{Reaction, messages_in, stays}
use Rattle.am_cluster.specs.RingChanges.{just_opened, opened as opened_with, ring_learned}
use Rattle.am_cluster.specs.Rings.{newest_epoch}
use Rattle.am_cluster.specs.Roster.{Crashes, Joins, Learns, Leaves, Restarts, RingEvent, put_at, roster_after, three_at}
use Rattle.am_cluster.specs.Sent.{Sent, sent_at}
use Rattle.am_cluster.specs.SentFacts.{StateName, is_of_state}
use Rattle.am_cluster.proofs.Counted.{AreCounted, Counts, just_opened_counted, learned_counted, restart_counted}
use Rattle.am_cluster.proofs.Listed.{SendsListed, just_opened_listed, learned_sends, restart_listed}
use Rattle.am_cluster.proofs.ListsKept.{AreCut, AreListed, cut_in, list_at}
use Rattle.am_cluster.proofs.Named.{all_react_kept, down_kept, one_kept, opened_kept, put_elsewhere, put_here, said_by_all}
use Rattle.am_cluster.proofs.Names.{Each, Each-append, Each-cons, Each-head, Each-map, Each-nil, Each-tail, as_sent}
use Rattle.am_cluster.proofs.StatePieces.{AreOne, Carries, IsCurrent, IsNone, IsOne, New, Not, Of, Timely, new_in, receiver_of, refuted, same_state, step, timely_in, timely_same}

-- ---- reactions

pub new_one : (p : PrivateCluster) (at : ℕ → Local) (i : ℕ) (here : Here) (l : Local) (m : Message) (body : Body) → here.epoch ≡ p.roster.known i
    → p.roster.up i ≡ true → at i ≡ l → m.from ≡ i → m.incarnation ≡ p.roster.incarnation i → cut_in here l m body → new_in p at m body
new_one p at i here l m (State k place is_last items) epoch up same from inc e = (
  ap p.roster.up from ∙ up,
  inc ∙ ap p.roster.incarnation (sym from),
  e.0 ∙ epoch ∙ ap p.roster.known (sym from),
  (e.1.0, ap (λ (x : Local). list_at (peer m.to k) x) (ap at from ∙ same) ∙ e.1.1, e.1.2),
)
new_one p at i here l m (Get operation) epoch up same from inc e = tt
new_one p at i here l m (Answer operation incarnation items) epoch up same from inc e = tt
new_one p at i here l m (Put operation items) epoch up same from inc e = tt
new_one p at i here l m (Ack operation incarnation) epoch up same from inc e = tt
new_one p at i here l m (Ask incarnation) epoch up same from inc e = tt
new_one p at i here l m (Got incarnation place) epoch up same from inc e = tt

pub new_of : (p : PrivateCluster) (at : ℕ → Local) (i a b moment : ℕ) (here : Here) (l : Local) (ms : List Message) → here.epoch ≡ p.roster.known i
    → p.roster.up i ≡ true → at i ≡ l → Counts i (p.roster.incarnation i) a ms b → AreCut here l ms → Each (New p at) (as_sent moment ms)
unfolding as_sent
new_of p at i a b moment here l [] epoch up same c e = Each-nil (New p at)
new_of p at i a b moment here l (m ∷ ms) epoch up same c e =
    Each-cons (New p at) (record { message = m; moment = moment; given_up = false }) (as_sent moment ms)
    (new_one p at i here l m m.body epoch up same c.0 c.1 e.0)
    (new_of p at i (a + 1) b moment here l ms epoch up same c.3 e.1)

-- what an instance says at its turn, where it is up; else it says nothing
pub turn_new : (f : ℕ → Here → Local → Reaction) (m : ℕ) (p : PrivateCluster) (at : ℕ → Local) (i : ℕ) → AreCounted (here_at p m i) (f i (here_at p m i))
    → AreListed (here_at p m i) (f i (here_at p m i)) → (b : Bool) → p.roster.up i ≡ b
    → at i ≡ (if b then f i (here_at p m i) (p.at i) else stays (p.at i)).local
    → Each (New p at) (sent_at m (if b then f i (here_at p m i) (p.at i) else stays (p.at i)).said)
unfolding as_sent here_at
turn_new f m p at i c s true up same =
    let r : Reaction = f i (here_at p m i) (p.at i) in
    new_of p at i (p.at i).ledger.messages r.local.ledger.messages m (here_at p m i) r.local (messages_in r.said) refl up same
    (c (p.at i)) (s (p.at i)).1
turn_new f m p at i c s false down same = Each-nil (New p at)

pub turns_new : (f : ℕ → Here → Local → Reaction) (m : ℕ) (p : PrivateCluster) (is : List ℕ) → ((i : ℕ) (here : Here) → AreCounted here (f i here))
    → ((i : ℕ) (here : Here) → AreListed here (f i here))
    → Each (New p (λ i. (reaction_at f m p i).local)) (said_by_all m (reaction_at f m p) is)
turns_new f m p [] c s = Each-nil (New p (λ i. (reaction_at f m p i).local))
turns_new f m p (i ∷ is) c s =
    Each-append (New p (λ j. (reaction_at f m p j).local)) (sent_at m (reaction_at f m p i).said) (said_by_all m (reaction_at f m p) is)
    (turn_new f m p (λ j. (reaction_at f m p j).local) i (c i (here_at p m i)) (s i (here_at p m i)) (p.roster.up i) refl refl)
    (turns_new f m p is c s)

pub all_react_one : (f : ℕ → Here → Local → Reaction) (m : ℕ) (p : PrivateCluster) → ((i : ℕ) (here : Here) → AreCounted here (f i here))
    → ((i : ℕ) (here : Here) → AreListed here (f i here)) → AreOne p → AreOne (react_all f m p).cluster
unfolding react_all
all_react_one f m p c s a =
    step p (λ i. (reaction_at f m p i).local) (said_by_all m (reaction_at f m p) all_instances) (turns_new f m p all_instances c s)
    (λ name current. inl (λ list e.
    subst (λ b. list_at (receiver_of name)
    (if b then f name.from (here_at p m name.from) (p.at name.from) else stays (p.at name.from)).local ≡ Some list) (sym current.up)
    ((s name.from (here_at p m name.from) (p.at name.from)).0 (receiver_of name) list e)))
    (all_react_kept f m p c a.kept) a.timely a.one

-- lists that were kept at an instance are kept by what it does, or none of the State's pieces was sent
abbrev pub CarriesAt : PrivateCluster → ℕ → Local → Type 0
CarriesAt p i l =
    (name : StateName) → IsCurrent p name → name.from ≡ i
    → ((list : List Item) → list_at (receiver_of name) (p.at i) ≡ Some list → list_at (receiver_of name) l ≡ Some list)
    ⊎ Each (Not name) p.sent

pub carries_put : (p : PrivateCluster) (i : ℕ) (l : Local) → CarriesAt p i l → Carries p (put_at p.at i l)
carries_put p i l carries name current = elim (cases_eq name.from i) [
  | inr other ↦ inl (λ list e. ap (λ (x : Local). list_at (receiver_of name) x) (put_elsewhere p.at i l name.from other) ∙ e)
  | inl same ↦ at_it same (carries name current same)
]
  where
    at_it : name.from ≡ i
        → ((list : List Item) → list_at (receiver_of name) (p.at i) ≡ Some list → list_at (receiver_of name) l ≡ Some list)
        ⊎ Each (Not name) p.sent
        → ((list : List Item) → list_at (receiver_of name) (p.at name.from) ≡ Some list
        → list_at (receiver_of name) (put_at p.at i l name.from) ≡ Some list) ⊎ Each (Not name) p.sent
    at_it same (inr none) = inr none
    at_it same (inl carry) = inl (λ list e.
        ap (λ (x : Local). list_at (receiver_of name) x) (put_here p.at i l name.from same)
        ∙ carry list (ap (λ j. list_at (receiver_of name) (p.at j)) (sym same) ∙ e))

pub up_one : (f : Here → Local → Reaction) (m i : ℕ) (p : PrivateCluster) → ((here : Here) → AreCounted here (f here))
    → ((here : Here) → SendsListed here (f here)) → CarriesAt p i (f (here_at p m i) (p.at i)).local → p.roster.up i ≡ true
    → AreOne p → AreOne (react_one f m i p).cluster
unfolding react_one here_at as_sent
up_one f m i p c s carries up a =
    let r : Reaction = f (here_at p m i) (p.at i) in
    step p (put_at p.at i r.local) (sent_at m r.said)
    (new_of p (put_at p.at i r.local) i (p.at i).ledger.messages r.local.ledger.messages m (here_at p m i) r.local (messages_in r.said) refl up
    (put_here p.at i r.local i refl) (c (here_at p m i) (p.at i)) (s (here_at p m i) (p.at i)))
    (carries_put p i r.local carries) (one_kept f m i p c up a.kept) a.timely a.one

pub if_one : (b : Bool) (c d : Course) → (b ≡ true → AreOne c.cluster) → AreOne d.cluster → AreOne (if b then c else d).cluster
if_one true c d e f = e refl
if_one false c d e f = f

pub react_keeps : (f : Here → Local → Reaction) (m i : ℕ) (p : PrivateCluster) → ((here : Here) → AreCounted here (f here))
    → ((here : Here) → AreListed here (f here)) → AreOne p → AreOne (react f m i p).cluster
react_keeps f m i p c s a =
    if_one (p.roster.up i) (react_one f m i p) (unchanged p)
    (λ up. up_one f m i p c (λ here l. (s here l).1)
    (λ name current same. inl (λ list e. (s (here_at p m i) (p.at i)).0 (receiver_of name) list e)) up a) a

-- ---- the ring and its instances

-- facts that follow from what is past and timely
pub each_both : (p : PrivateCluster) (xs : List Sent) (Q : Message → Type 0) → ((m : Message) → IsPast p m → Timely p m → Q m)
    → Each (IsPast p) xs → Each (Timely p) xs → Each Q xs
each_both p [] Q f e d = Each-nil Q
each_both p (x ∷ xs) Q f e d =
    Each-cons Q x xs (f x.message (Each-head (IsPast p) x xs e) (Each-head (Timely p) x xs d))
    (each_both p xs Q f (Each-tail (IsPast p) x xs e) (Each-tail (Timely p) x xs d))

-- a State that is current now was current before, with the same at its sender; or it has no piece
abbrev pub WasCurrent : PrivateCluster → PrivateCluster → StateName → Type 0
WasCurrent p q name =
    (IsCurrent p name × (q.at name.from ≡ p.at name.from))
    ⊎ ((m : Message) → IsPast p m → (body : Body) → timely_in p m body → IsNone name m body)

pub still_kept : (p q : PrivateCluster) (name : StateName) (list : List Item) → q.sent ≡ p.sent → q.at name.from ≡ p.at name.from
    → (list_at (receiver_of name) (p.at name.from) ≡ Some list) ⊎ Each (Not name) p.sent
    → (list_at (receiver_of name) (q.at name.from) ≡ Some list) ⊎ Each (Not name) q.sent
still_kept p q name list same e (inl kept_at) = inl (ap (λ (x : Local). list_at (receiver_of name) x) e ∙ kept_at)
still_kept p q name list same e (inr none) = inr (subst (Each (Not name)) (sym same) none)

pub by_current : (p q : PrivateCluster) (name : StateName) (one : IsOne p name) → q.sent ≡ p.sent → Each (IsPast p) p.sent → Each (Timely p) p.sent
    → WasCurrent p q name → (list_at (receiver_of name) (q.at name.from) ≡ Some one.list) ⊎ Each (Not name) q.sent
by_current p q name one same past timely (inl e) = still_kept p q name one.list same e.1 (one.kept e.0)
by_current p q name one same past timely (inr none) =
    inr (subst (Each (Not name)) (sym same) (each_both p p.sent (Not name) (λ m old t. none m old m.body t) past timely))

pub fewer : (p q : PrivateCluster) → q.sent ≡ p.sent → NamesOnce q → ((m : Message) (body : Body) → IsPast p m → timely_in p m body → timely_in q m body)
    → ((name : StateName) → IsCurrent q name → WasCurrent p q name) → AreOne p → AreOne q
fewer p q same kept timely currents a = record {
  kept = kept;
  timely = subst (Each (Timely q)) (sym same) (each_both p p.sent (Timely q) (λ m past t. timely m m.body past t) a.kept.past a.timely);
  one = λ name. record {
    list = (a.one name).list;
    pieces = subst (Each (Of name (a.one name).list)) (sym same) (a.one name).pieces;
    kept = λ c. by_current p q name (a.one name) same a.kept.past a.timely (currents name c);
  };
}

-- an instance that goes down
pub down_one : (i : ℕ) (left : List Item) (event : RingEvent) (p : PrivateCluster)
    → ((j : ℕ) → (with_event event p).roster.incarnation j ≡ p.roster.incarnation j)
    → ((j : ℕ) → (with_event event p).roster.up j ≡ put_at p.roster.up i false j)
    → ((j : ℕ) → (with_event event p).roster.known j ≡ p.roster.known j)
    → AreOne p → AreOne (stopped i left (with_event event p))
down_one i left event p same_k same_up same_known a =
    fewer p (stopped i left (with_event event p)) refl (down_kept i left event p same_k same_up a.kept)
    (λ m body past t. timely_same p (stopped i left (with_event event p)) (λ j up. elsewhere_up j up) same_k
    (λ j. subst (λ n. p.roster.known j ≤ n) (sym (same_known j)) (le_refl (p.roster.known j))) m body t)
    (λ name c. inl (
      record {
        up = elsewhere_up name.from c.up;
        incarnation = c.incarnation ∙ same_k name.from;
        epoch = c.epoch ∙ same_known name.from;
      },
      put_elsewhere p.at i blank name.from (not_it name.from c.up),
    )) a
  where
    not_it : (j : ℕ) → (with_event event p).roster.up j ≡ true → j ≢ i
    not_it j up same = false≢true (sym (put_here p.roster.up i false j same) ∙ sym (same_up j) ∙ up)

    elsewhere_up : (j : ℕ) → (with_event event p).roster.up j ≡ true → p.roster.up j ≡ true
    elsewhere_up j up = sym (put_elsewhere p.roster.up i false j (not_it j up)) ∙ sym (same_up j) ∙ up

-- no piece of a State whose sender is in another incarnation than all that was sent, or knows another epoch
pub other_life : (p : PrivateCluster) (name : StateName) (m : Message) (body : Body) → IsPast p m
    → (m.from ≡ name.from → m.incarnation ≡ name.incarnation → ⊥) → IsNone name m body
other_life p name m (State k place is_last items) past never =
    refuted (is_of_state name m k) (λ yes. let same = same_state name m k yes in never same.from same.incarnation)
other_life p name m (Get operation) past never = tt
other_life p name m (Answer operation incarnation items) past never = tt
other_life p name m (Put operation items) past never = tt
other_life p name m (Ack operation incarnation) past never = tt
other_life p name m (Ask incarnation) past never = tt
other_life p name m (Got incarnation place) past never = tt

pub timely_unless : (p q : PrivateCluster) (m : Message) (body : Body)
    → ((m.epoch ≤ p.roster.known m.from ⊎ (p.roster.up m.from ≡ true → m.incarnation ≡ p.roster.incarnation m.from → m.epoch ≤ p.roster.known m.from))
    → q.roster.up m.from ≡ true → m.incarnation ≡ q.roster.incarnation m.from → m.epoch ≤ q.roster.known m.from)
    → timely_in p m body → timely_in q m body
timely_unless p q m (State k place is_last items) f t = f (inr t)
timely_unless p q m (Get operation) f t = tt
timely_unless p q m (Answer operation incarnation items) f t = tt
timely_unless p q m (Put operation items) f t = tt
timely_unless p q m (Ack operation incarnation) f t = tt
timely_unless p q m (Ask incarnation) f t = tt
timely_unless p q m (Got incarnation place) f t = tt

-- an instance that is opened
pub opened_one : (i : ℕ) (event : RingEvent) (p : PrivateCluster) (newest : ℕ)
    → ((j : ℕ) → (with_event event p).roster.incarnation j ≡ put_at p.roster.incarnation i (p.roster.incarnation i + 1) j)
    → ((j : ℕ) → (with_event event p).roster.up j ≡ put_at p.roster.up i true j)
    → ((j : ℕ) → (with_event event p).roster.known j ≡ put_at p.roster.known i newest j)
    → AreOne p → AreOne (with_opened i (with_event event p))
opened_one i event p newest next_k next_up next_known a =
    fewer p (with_opened i (with_event event p)) refl (opened_kept i event p next_k next_up a.kept)
    (λ m body past t. timely_unless p (with_opened i (with_event event p)) m body (λ before up inc. timely m past before up inc) t)
    (λ name c. was name c (cases_eq name.from i)) a
  where
    elsewhere_k : (j : ℕ) → j ≢ i → (with_event event p).roster.incarnation j ≡ p.roster.incarnation j
    elsewhere_k j other = next_k j ∙ put_elsewhere p.roster.incarnation i (p.roster.incarnation i + 1) j other

    elsewhere_up : (j : ℕ) → j ≢ i → (with_event event p).roster.up j ≡ p.roster.up j
    elsewhere_up j other = next_up j ∙ put_elsewhere p.roster.up i true j other

    elsewhere_known : (j : ℕ) → j ≢ i → (with_event event p).roster.known j ≡ p.roster.known j
    elsewhere_known j other = next_known j ∙ put_elsewhere p.roster.known i newest j other

    -- nothing was sent in the incarnation that begins
    unsent : (m : Message) → IsPast p m → m.from ≡ i → m.incarnation ≡ (with_event event p).roster.incarnation m.from → ⊥
    unsent m past same inc =
        let low : m.incarnation ≤ p.roster.incarnation i = subst (λ j. m.incarnation ≤ p.roster.incarnation j) same past.incarnation in
        let next : (with_event event p).roster.incarnation m.from ≡ p.roster.incarnation i + 1 =
        next_k m.from ∙ put_here p.roster.incarnation i (p.roster.incarnation i + 1) m.from same in
        omega (arith, low, next, inc)

    timely_by : (m : Message) → m.from ≢ i
        → (m.epoch ≤ p.roster.known m.from ⊎ (p.roster.up m.from ≡ true → m.incarnation ≡ p.roster.incarnation m.from → m.epoch ≤ p.roster.known m.from))
        → (with_event event p).roster.up m.from ≡ true → m.incarnation ≡ (with_event event p).roster.incarnation m.from
        → m.epoch ≤ p.roster.known m.from
    timely_by m other (inl low) up inc = low
    timely_by m other (inr t) up inc = t (sym (elsewhere_up m.from other) ∙ up) (inc ∙ elsewhere_k m.from other)

    timely : (m : Message) → IsPast p m
        → (m.epoch ≤ p.roster.known m.from ⊎ (p.roster.up m.from ≡ true → m.incarnation ≡ p.roster.incarnation m.from → m.epoch ≤ p.roster.known m.from))
        → (with_event event p).roster.up m.from ≡ true → m.incarnation ≡ (with_event event p).roster.incarnation m.from
        → m.epoch ≤ (with_event event p).roster.known m.from
    timely m past before up inc = elim (cases_eq m.from i) [
      | inl same ↦ absurd (unsent m past same inc)
      | inr other ↦ subst (λ n. m.epoch ≤ n) (sym (elsewhere_known m.from other)) (timely_by m other before up inc)
    ]

    was : (name : StateName) → IsCurrent (with_opened i (with_event event p)) name → (name.from ≡ i) ⊎ (name.from ≢ i)
        → WasCurrent p (with_opened i (with_event event p)) name
    was name c (inl same) = inr (λ m past body t. other_life p name m body past (λ from inc.
        unsent m past (from ∙ same) (inc ∙ c.incarnation ∙ ap (λ j. (with_event event p).roster.incarnation j) (sym from))))
    was name c (inr other) = inl (
      record {
        up = sym (elsewhere_up name.from other) ∙ c.up;
        incarnation = c.incarnation ∙ elsewhere_k name.from other;
        epoch = c.epoch ∙ elsewhere_known name.from other;
      },
      put_elsewhere p.at i (opened_with (here_at (with_event event p) p.clock i) (p.rows i)) name.from other,
    )

-- an instance that goes on to the next ring: of the States that are current then nothing was sent
pub no_later : (p : PrivateCluster) (name : StateName) (m : Message) (body : Body)
    → (m.from ≡ name.from → m.incarnation ≡ name.incarnation → m.epoch ≡ name.epoch
    → (p.roster.up m.from ≡ true → m.incarnation ≡ p.roster.incarnation m.from → m.epoch ≤ p.roster.known m.from) → ⊥)
    → timely_in p m body → IsNone name m body
no_later p name m (State k place is_last items) never t =
    refuted (is_of_state name m k) (λ yes. let same = same_state name m k yes in never same.from same.incarnation same.epoch t)
no_later p name m (Get operation) never t = tt
no_later p name m (Answer operation incarnation items) never t = tt
no_later p name m (Put operation items) never t = tt
no_later p name m (Ack operation incarnation) never t = tt
no_later p name m (Ask incarnation) never t = tt
no_later p name m (Got incarnation place) never t = tt

-- what is known of an instance that goes on
pub record GoesOn (i : ℕ) (p q : PrivateCluster) : Type 0 where
  pub sent : q.sent ≡ p.sent
  pub at : (j : ℕ) → q.at j ≡ p.at j
  pub up : (j : ℕ) → q.roster.up j ≡ p.roster.up j
  pub incarnation : (j : ℕ) → q.roster.incarnation j ≡ p.roster.incarnation j
  pub known : (j : ℕ) → q.roster.known j ≡ put_at p.roster.known i (p.roster.known i + 1) j

pub goes_fresh : (i : ℕ) (p q : PrivateCluster) → GoesOn i p q → (name : StateName) → IsCurrent q name → name.from ≡ i
    → (m : Message) (body : Body) → timely_in p m body → IsNone name m body
goes_fresh i p q g name c same m body t =
    no_later p name m body (λ from inc epoch timely.
    let low : m.epoch ≤ p.roster.known m.from =
    timely (ap p.roster.up from ∙ sym (g.up name.from) ∙ c.up) (inc ∙ c.incarnation ∙ g.incarnation name.from ∙ ap p.roster.incarnation (sym from)) in
    let at_i : m.epoch ≤ p.roster.known i = subst (λ j. m.epoch ≤ p.roster.known j) (from ∙ same) low in
    let next : name.epoch ≡ p.roster.known i + 1 =
    c.epoch ∙ g.known name.from ∙ put_here p.roster.known i (p.roster.known i + 1) name.from same in
    omega (arith, at_i, next, epoch)) t

pub goes_one : (i : ℕ) (p q : PrivateCluster) → GoesOn i p q → NamesOnce q → AreOne p → AreOne q
goes_one i p q g kept a =
    fewer p q g.sent kept
    (λ m body past t. timely_same p q (λ j up. sym (g.up j) ∙ up) g.incarnation (λ j. grows j (cases_eq j i)) m body t)
    (λ name c. was name c (cases_eq name.from i)) a
  where
    grows : (j : ℕ) → (j ≡ i) ⊎ (j ≢ i) → p.roster.known j ≤ q.roster.known j
    grows j (inl same) =
        let next : q.roster.known j ≡ p.roster.known i + 1 = g.known j ∙ put_here p.roster.known i (p.roster.known i + 1) j same in
        let this : p.roster.known j ≡ p.roster.known i = ap p.roster.known same in
        omega (arith, next, this)
    grows j (inr other) =
        subst (λ n. p.roster.known j ≤ n) (sym (g.known j ∙ put_elsewhere p.roster.known i (p.roster.known i + 1) j other)) (le_refl (p.roster.known j))

    was : (name : StateName) → IsCurrent q name → (name.from ≡ i) ⊎ (name.from ≢ i) → WasCurrent p q name
    was name c (inl same) = inr (λ m past body t. goes_fresh i p q g name c same m body t)
    was name c (inr other) = inl (
      record {
        up = sym (g.up name.from) ∙ c.up;
        incarnation = c.incarnation ∙ g.incarnation name.from;
        epoch = c.epoch ∙ g.known name.from ∙ put_elsewhere p.roster.known i (p.roster.known i + 1) name.from other;
      },
      g.at name.from,
    )

pub learns_one : (i : ℕ) (before : List ℕ) (p q : PrivateCluster) → GoesOn i p q → NamesOnce q → AreOne p
    → AreOne (react (λ here local. ring_learned here before local) q.clock i q).cluster
learns_one i before p q g kept a =
    let b : AreOne q = goes_one i p q g kept a in
    if_one (q.roster.up i) (react_one (λ here local. ring_learned here before local) q.clock i q) (unchanged q)
    (λ up. up_one (λ here local. ring_learned here before local) q.clock i q (λ here. learned_counted here before)
    (λ here. learned_sends here before)
    (λ name c same. inr (subst (Each (Not name)) (sym g.sent)
    (each_both p p.sent (Not name) (λ m past t. goes_fresh i p q g name c same m m.body t) a.kept.past a.timely))) up b) b

pub changed_one : (event : RingEvent) (p : PrivateCluster) → AreOne p → AreOne (changed event p).cluster
unfolding changed roster_after
changed_one (Joins i) p a =
    react_keeps just_opened p.clock i (with_opened i (with_event (Joins i) p)) just_opened_counted just_opened_listed
    (opened_one i (Joins i) p (newest_epoch (roster_after (Joins i) p.roster).rings) (λ j. refl) (λ j. refl) (λ j. refl) a)
changed_one (Leaves i) p a = down_one i (if p.roster.up i then [] else p.rows i) (Leaves i) p (λ j. refl) (λ j. refl) (λ j. refl) a
changed_one (Crashes i) p a = down_one i (stored_in (p.at i).held) (Crashes i) p (λ j. refl) (λ j. refl) (λ j. refl) a
changed_one (Restarts i) p a =
    all_react_one (at_restart i) p.clock (with_opened i (with_event (Restarts i) p)) (restart_counted i) (restart_listed i)
    (opened_one i (Restarts i) p (newest_epoch p.roster.rings) (λ j. refl) (λ j. refl) (λ j. refl) a)
changed_one (Learns i) p a =
    learns_one i (three_at p.replicas_by p.roster i) p (with_event (Learns i) p)
    (record { sent = refl; at = λ j. refl; up = λ j. refl; incarnation = λ j. refl; known = λ j. refl })
    (record {
      named = a.kept.named;
      past = Each-map (IsPast p) (IsPast (with_event (Learns i) p)) p.sent
          (λ m e. record { incarnation = e.incarnation; counted = e.counted }) a.kept.past;
    }) a
