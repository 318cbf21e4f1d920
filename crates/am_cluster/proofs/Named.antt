-- No two messages of a tenant have one name, whatever happened since its cluster was opened.
use Rattle.std.proofs.Common.{◌≡◌, ◌≢◌, ℕ, ◌+◌, ◌≤◌, Bool, true, false, ◌&&◌, not, List, [], ◌∷◌, ◌++◌, map, Option, Some, None, is_some, if◌then◌else◌, refl, sym, ap, subst, ◌∙◌, inl, inr, append_assoc, append-nil, arith, le_refl, le_trans}
use Rattle.std.specs.Prelude.{◌==◌}
use Rattle.std.specs.List.{flat_map, list_any}
use Rattle.std.proofs.lemmas.Bool.{and_parts, cases_eq, eq-eqb, false≢true, ne_eqb, or_from, or_parts, true≢false}
use Rattle.am_item.specs.declared.item.Item.{Item}
use Rattle.am_ring.specs.Replicas.{replicas}
use Rattle.am_rows.specs.Rows.{stored_in}
use Rattle.am_ring.specs.Instances.{all_differ, all_instances}
use Rattle.am_cluster.specs.Arriving.{arrive}
use Rattle.am_cluster.specs.Courses.{after, after_all, at_restart, changed, course_by, delivered, handled_by, posted_in, refusal_of, with_event}
use Rattle.am_cluster.specs.Delivery.{outcome}
use Rattle.am_cluster.specs.Happening.{Happening, Asked, Changed, Delivered, Forced, Limited, Lost, Ticked, Tried}
use Rattle.am_cluster.specs.Here.{Here}
use Rattle.am_cluster.specs.Local.{Local, blank}
use Rattle.am_cluster.specs.Messages.{Message}
use Rattle.am_cluster.specs.Moments.{effective}
use Rattle.am_cluster.specs.Naming.{IsPast, NamesOnce}
use Rattle.am_cluster.specs.Operating.{Decide, decision_on, start}
use Rattle.am_setup.specs.Setup.{Origin}
use Rattle.am_cluster.specs.PrivateCluster.{Course, PrivateCluster, here_at, opened, react, react_all, react_one, reaction_at, stopped, unchanged, unopened, with_all_opened, with_opened}
use Rattle.am_cluster.specs.Reactions.{Reaction, messages_in, stays}
use Rattle.am_cluster.specs.RingChanges.{just_opened, opened as opened_with, ring_learned}
use Rattle.am_cluster.specs.Roster.{Crashes, Joins, Learns, Leaves, Restarts, RingEvent, put_at, roster_after, three_at}
use Rattle.am_cluster.specs.Sent.{Sent, is_named, sent_at, with_given_up}
use Rattle.am_cluster.specs.SentFacts.{AreNamedOnce, has_name_of}
use Rattle.am_cluster.specs.Ticking.{ticked}
use Rattle.am_cluster.specs.Transfers.{forced}
use Rattle.am_cluster.proofs.Counted.{AreCounted, Counts, IsCounted, arrive_counted, forced_counted, just_opened_counted, learned_counted, outcome_counted, restart_counted, start_counted, ticked_counted}
use Rattle.am_cluster.proofs.Names.{Each, Each-append, Each-cons, Each-head, Each-map, Each-nil, Each-tail, IsNew, IsUpTo, all_new, as_sent, counts_grow, more_named}

-- ---- the cluster

-- what was sent of an up instance in its incarnation
pub up_to_at : (p : PrivateCluster) (i : ℕ) → p.roster.up i ≡ true → (m : Message) → IsPast p m
    → IsUpTo i (p.roster.incarnation i) (p.at i).ledger.messages m
up_to_at p i up m e from same =
    subst (λ j. m.count ≤ (p.at j).ledger.messages) from
    (e.counted (ap p.roster.up from ∙ up) (same ∙ sym (ap p.roster.incarnation from)))

-- what an instance says at its turn is counted, where it is up; else it says nothing
pub record Turn (p : PrivateCluster) (r : ℕ → Reaction) (i : ℕ) : Type 0 where
  pub counts : Counts i (p.roster.incarnation i) (p.at i).ledger.messages (messages_in (r i).said) (r i).local.ledger.messages
  pub silent : p.roster.up i ≡ false → messages_in (r i).said ≡ []

-- ---- all that several instances say

abbrev pub said_by_all : (moment : ℕ) → (ℕ → Reaction) → List ℕ → List Sent
said_by_all moment r is = flat_map (λ i. sent_at moment (r i).said) is

abbrev Apart : ℕ → List ℕ → Type 0
Apart i [] = Unit {0}
Apart i (j ∷ js) = (i ≢ j) × Apart i js

abbrev Distinct : List ℕ → Type 0
Distinct [] = Unit {0}
Distinct (i ∷ is) = Apart i is × Distinct is

-- the instances of a list that are up have only such counts
abbrev AllUpTo : PrivateCluster → List ℕ → List Sent → Type 0
AllUpTo p [] sent = Unit {0}
AllUpTo p (i ∷ is) sent =
    (p.roster.up i ≡ true → Each (IsUpTo i (p.roster.incarnation i) (p.at i).ledger.messages) sent) × AllUpTo p is sent

-- .. also once another one has sent more
still_up_to : (p : PrivateCluster) (i k a b moment : ℕ) (ms : List Message) (js : List ℕ) (sent : List Sent) → Counts i k a ms b → Apart i js
    → AllUpTo p js sent → AllUpTo p js (sent ++ as_sent moment ms)
still_up_to p i k a b moment ms [] sent c apart e = tt
still_up_to p i k a b moment ms (j ∷ js) sent c apart e = (
  λ up. Each-append (IsUpTo j (p.roster.incarnation j) (p.at j).ledger.messages) sent (as_sent moment ms) (e.0 up)
      (Each-map (IsNew i k a b) (IsUpTo j (p.roster.incarnation j) (p.at j).ledger.messages) (as_sent moment ms)
      (λ m new from same. absurd (apart.0 (sym new.0 ∙ from))) (all_new i k a b moment ms c)),
  still_up_to p i k a b moment ms js sent c apart.1 e.1,
)

-- nothing more was sent
none_more : (moment : ℕ) (ms : List Message) (sent : List Sent) → ms ≡ [] → sent ++ as_sent moment ms ≡ sent
unfolding as_sent
none_more moment ms sent e = ap (λ l. sent ++ as_sent moment l) e ∙ append-nil sent

one_more : (p : PrivateCluster) (r : ℕ → Reaction) (moment i : ℕ) (sent : List Sent) → Turn p r i → AreNamedOnce sent
    → (p.roster.up i ≡ true → Each (IsUpTo i (p.roster.incarnation i) (p.at i).ledger.messages) sent)
    → (b : Bool) → p.roster.up i ≡ b → AreNamedOnce (sent ++ as_sent moment (messages_in (r i).said))
one_more p r moment i sent turn named up_to true up =
    more_named i (p.roster.incarnation i) (p.at i).ledger.messages (r i).local.ledger.messages moment (messages_in (r i).said) sent
    turn.counts named (up_to up)
one_more p r moment i sent turn named up_to false down =
    subst AreNamedOnce (sym (none_more moment (messages_in (r i).said) sent (turn.silent down))) named

all_named : (p : PrivateCluster) (r : ℕ → Reaction) (moment : ℕ) (is : List ℕ) (sent : List Sent) → ((i : ℕ) → Turn p r i) → Distinct is
    → AreNamedOnce sent → AllUpTo p is sent → AreNamedOnce (sent ++ said_by_all moment r is)
unfolding as_sent
all_named p r moment [] sent turns distinct named up_to = subst AreNamedOnce (sym (append-nil sent)) named
all_named p r moment (i ∷ is) sent turns distinct named up_to =
    subst AreNamedOnce (append_assoc sent (sent_at moment (r i).said) (said_by_all moment r is))
    (all_named p r moment is (sent ++ sent_at moment (r i).said) turns distinct.1
    (one_more p r moment i sent (turns i) named up_to.0 (p.roster.up i) refl)
    (still_up_to p i (p.roster.incarnation i) (p.at i).ledger.messages (r i).local.ledger.messages moment
    (messages_in (r i).said) is sent (turns i).counts distinct.0 up_to.1))

-- what the instances of a list say is counted at them
abbrev IsSaid : PrivateCluster → (ℕ → Reaction) → Message → Type 0
IsSaid p r m = (m.incarnation ≡ p.roster.incarnation m.from) × (m.count ≤ (r m.from).local.ledger.messages)

all_said : (p : PrivateCluster) (r : ℕ → Reaction) (moment : ℕ) (is : List ℕ) → ((i : ℕ) → Turn p r i) → Each (IsSaid p r) (said_by_all moment r is)
unfolding as_sent
all_said p r moment [] turns = Each-nil (IsSaid p r)
all_said p r moment (i ∷ is) turns =
    Each-append (IsSaid p r) (sent_at moment (r i).said) (said_by_all moment r is)
    (Each-map (IsNew i (p.roster.incarnation i) (p.at i).ledger.messages (r i).local.ledger.messages) (IsSaid p r) (sent_at moment (r i).said)
    (λ m e. (
      e.1 ∙ ap p.roster.incarnation (sym e.0),
      subst (λ j. m.count ≤ (r j).local.ledger.messages) (sym e.0) e.3,
    ))
    (all_new i (p.roster.incarnation i) (p.at i).ledger.messages (r i).local.ledger.messages moment (messages_in (r i).said) (turns i).counts))
    (all_said p r moment is turns)

-- the cluster once instances of a list had their turns
abbrev said_on : (moment : ℕ) → (ℕ → Reaction) → List ℕ → (ℕ → Local) → PrivateCluster → PrivateCluster
said_on moment r is at p = record p { at = at; sent = p.sent ++ said_by_all moment r is }

all_up_to : (p : PrivateCluster) (is : List ℕ) (sent : List Sent) → Each (IsPast p) sent → AllUpTo p is sent
all_up_to p [] sent e = tt
all_up_to p (i ∷ is) sent e = (
  λ up. Each-map (IsPast p) (IsUpTo i (p.roster.incarnation i) (p.at i).ledger.messages) sent (up_to_at p i up) e,
  all_up_to p is sent e,
)

all_kept : (p : PrivateCluster) (r : ℕ → Reaction) (moment : ℕ) (is : List ℕ) (at : ℕ → Local) → ((i : ℕ) → Turn p r i) → Distinct is
    → ((i : ℕ) → (p.at i).ledger.messages ≤ (at i).ledger.messages)
    → ((m : Message) → IsSaid p r m → m.count ≤ (r m.from).local.ledger.messages → m.count ≤ (at m.from).ledger.messages)
    → NamesOnce p → NamesOnce (said_on moment r is at p)
all_kept p r moment is at turns distinct grows ends k = record {
  named = all_named p r moment is p.sent turns distinct k.named (all_up_to p is p.sent k.past);
  past = Each-append (IsPast (said_on moment r is at p)) p.sent (said_by_all moment r is)
      (Each-map (IsPast p) (IsPast (said_on moment r is at p)) p.sent
      (λ m e. record { incarnation = e.incarnation; counted = λ up same. le_trans (e.counted up same) (grows m.from) }) k.past)
      (Each-map (IsSaid p r) (IsPast (said_on moment r is at p)) (said_by_all moment r is)
      (λ m e. record {
        incarnation = subst (λ n. m.incarnation ≤ n) e.0 (le_refl m.incarnation);
        counted = λ up same. ends m e e.1;
      })
      (all_said p r moment is turns));
}

-- ---- all instances have their turns

no_count : (i k a : ℕ) (b : Bool) (r : Reaction) (l : Local) → Counts i k l.ledger.messages (messages_in r.said) r.local.ledger.messages
    → Counts i k l.ledger.messages (messages_in (if b then r else stays l).said) (if b then r else stays l).local.ledger.messages
no_count i k a true r l c = c
no_count i k a false r l c = refl

pub turns_of : (f : ℕ → Here → Local → Reaction) (m : ℕ) (p : PrivateCluster) → ((i : ℕ) (here : Here) → AreCounted here (f i here))
    → (i : ℕ) → Turn p (reaction_at f m p) i
unfolding here_at
turns_of f m p c i = record {
  counts = no_count i (p.roster.incarnation i) 0 (p.roster.up i) (f i (here_at p m i) (p.at i)) (p.at i) (c i (here_at p m i) (p.at i));
  silent = λ down. ap (λ b. messages_in (if b then f i (here_at p m i) (p.at i) else stays (p.at i)).said) down;
}

not_false : (b : Bool) → not b ≡ true → b ≡ false
not_false true e = sym e
not_false false e = refl

apart_by : (i : ℕ) (js : List ℕ) → list_any (λ j. i == j) js ≡ false → Apart i js
apart_by i [] e = tt
apart_by i (j ∷ js) e =
    let parts = or_parts (i == j) (list_any (λ j. i == j) js) e in
    (λ same. true≢false (sym (eq-eqb i j same) ∙ parts.0), apart_by i js parts.1)

distinct_by : (is : List ℕ) → all_differ is ≡ true → Distinct is
distinct_by [] e = tt
distinct_by (i ∷ is) e =
    let parts = and_parts (not (list_any (λ j. i == j) is)) (all_differ is) e in
    (apart_by i is (not_false (list_any (λ j. i == j) is) parts.0), distinct_by is parts.1)

pub turns_kept : (p : PrivateCluster) (m : ℕ) (r : ℕ → Reaction) → ((i : ℕ) → Turn p r i) → NamesOnce p
    → NamesOnce (said_on m r all_instances (λ i. (r i).local) p)
turns_kept p m r turns k =
    all_kept p r m all_instances (λ i. (r i).local) turns (distinct_by all_instances refl)
    (λ i. counts_grow i (p.roster.incarnation i) (p.at i).ledger.messages (r i).local.ledger.messages
    (messages_in (r i).said) (turns i).counts)
    (λ n e up_to. up_to) k

pub all_react_kept : (f : ℕ → Here → Local → Reaction) (m : ℕ) (p : PrivateCluster) → ((i : ℕ) (here : Here) → AreCounted here (f i here))
    → NamesOnce p → NamesOnce (react_all f m p).cluster
unfolding react_all
all_react_kept f m p c k = turns_kept p m (reaction_at f m p) (turns_of f m p c) k

-- ---- one instance has its turn

pub put_here : {A : Type 0} (f : ℕ → A) (i : ℕ) (x : A) (j : ℕ) → j ≡ i → put_at f i x j ≡ x
put_here f i x j e = ap (λ b. if b then x else f j) (eq-eqb j i e)

pub put_elsewhere : {A : Type 0} (f : ℕ → A) (i : ℕ) (x : A) (j : ℕ) → j ≢ i → put_at f i x j ≡ f j
put_elsewhere f i x j e = ap (λ b. if b then x else f j) (ne_eqb j i e)

put_grows : (f : ℕ → Local) (i : ℕ) (x : Local) → (f i).ledger.messages ≤ x.ledger.messages → (j : ℕ)
    → (f j).ledger.messages ≤ (put_at f i x j).ledger.messages
put_grows f i x more j = elim (cases_eq j i) [
  | inl e ↦ subst (λ (l : Local). (f j).ledger.messages ≤ l.ledger.messages) (sym (put_here f i x j e))
      (subst (λ n. (f n).ledger.messages ≤ x.ledger.messages) (sym e) more)
  | inr e ↦ subst (λ (l : Local). (f j).ledger.messages ≤ l.ledger.messages) (sym (put_elsewhere f i x j e)) (le_refl (f j).ledger.messages)
]

-- what one sends has other names than all that was sent, where it is counted
pub named_with : (p : PrivateCluster) (m i : ℕ) (r : Reaction) → IsCounted (here_at p m i) (p.at i) r
    → p.roster.up i ≡ true → NamesOnce p → AreNamedOnce (p.sent ++ sent_at m r.said)
unfolding here_at as_sent
named_with p m i r counts up k =
    let before : ℕ = (p.at i).ledger.messages in
    more_named i (p.roster.incarnation i) before r.local.ledger.messages m (messages_in r.said) p.sent counts k.named
    (Each-map (IsPast p) (IsUpTo i (p.roster.incarnation i) before) p.sent (up_to_at p i up) k.past)

pub turn_kept : (p : PrivateCluster) (m i : ℕ) (r : Reaction) → IsCounted (here_at p m i) (p.at i) r
    → p.roster.up i ≡ true → NamesOnce p
    → NamesOnce (record p { at = put_at p.at i r.local; sent = p.sent ++ sent_at m r.said })
unfolding here_at as_sent
turn_kept p m i r counts up k =
    let q : PrivateCluster = record p { at = put_at p.at i r.local; sent = p.sent ++ sent_at m r.said } in
    let era : ℕ = p.roster.incarnation i in
    let before : ℕ = (p.at i).ledger.messages in
    let now : ℕ = r.local.ledger.messages in
    record {
      named = named_with p m i r counts up k;
      past = Each-append (IsPast q) p.sent (sent_at m r.said)
          (Each-map (IsPast p) (IsPast q) p.sent
          (λ n e. record {
            incarnation = e.incarnation;
            counted = λ is_up same. le_trans (e.counted is_up same)
                (put_grows p.at i r.local (counts_grow i era before now (messages_in r.said) counts) n.from);
          }) k.past)
          (Each-map (IsNew i era before now) (IsPast q) (sent_at m r.said)
          (λ n e. record {
            incarnation = subst (λ h. n.incarnation ≤ h) (e.1 ∙ ap p.roster.incarnation (sym e.0)) (le_refl n.incarnation);
            counted = λ is_up same. subst (λ (l : Local). n.count ≤ l.ledger.messages)
                (sym (put_here p.at i r.local n.from e.0)) e.3;
          })
          (all_new i era before now m (messages_in r.said) counts));
    }

pub one_kept : (f : Here → Local → Reaction) (m i : ℕ) (p : PrivateCluster) → ((here : Here) → AreCounted here (f here)) → p.roster.up i ≡ true
    → NamesOnce p → NamesOnce (react_one f m i p).cluster
unfolding react_one
one_kept f m i p c up k = turn_kept p m i (f (here_at p m i) (p.at i)) (c (here_at p m i) (p.at i)) up k

if_kept : (b : Bool) (c d : Course) → (b ≡ true → NamesOnce c.cluster) → NamesOnce d.cluster → NamesOnce (if b then c else d).cluster
if_kept true c d e f = e refl
if_kept false c d e f = f

pub react_kept : (f : Here → Local → Reaction) (m i : ℕ) (p : PrivateCluster) → ((here : Here) → AreCounted here (f here))
    → NamesOnce p → NamesOnce (react f m i p).cluster
react_kept f m i p c k = if_kept (p.roster.up i) (react_one f m i p) (unchanged p) (λ up. one_kept f m i p c up k) k

-- ---- the ring and its instances

-- an instance that goes down sends no more
pub down_kept : (i : ℕ) (left : List Item) (event : RingEvent) (p : PrivateCluster)
    → ((j : ℕ) → (with_event event p).roster.incarnation j ≡ p.roster.incarnation j)
    → ((j : ℕ) → (with_event event p).roster.up j ≡ put_at p.roster.up i false j)
    → NamesOnce p → NamesOnce (stopped i left (with_event event p))
down_kept i left event p same_k same_up k = record {
  named = k.named;
  past = Each-map (IsPast p) (IsPast (stopped i left (with_event event p))) p.sent
      (λ m e. record {
        incarnation = subst (λ n. m.incarnation ≤ n) (sym (same_k m.from)) e.incarnation;
        counted = λ up same. counted m e up same;
      }) k.past;
}
  where
    counted : (m : Message) → IsPast p m → (with_event event p).roster.up m.from ≡ true
        → m.incarnation ≡ (with_event event p).roster.incarnation m.from → m.count ≤ (put_at p.at i blank m.from).ledger.messages
    counted m e up same = elim (cases_eq m.from i) [
      | inl here ↦ absurd (false≢true (sym (put_here p.roster.up i false m.from here) ∙ sym (same_up m.from) ∙ up))
      | inr elsewhere ↦ subst (λ (l : Local). m.count ≤ l.ledger.messages) (sym (put_elsewhere p.at i blank m.from elsewhere))
          (e.counted (sym (put_elsewhere p.roster.up i false m.from elsewhere) ∙ sym (same_up m.from) ∙ up) (same ∙ same_k m.from))
    ]

-- one that is opened has another incarnation than all that was sent
pub opened_kept : (i : ℕ) (event : RingEvent) (p : PrivateCluster)
    → ((j : ℕ) → (with_event event p).roster.incarnation j ≡ put_at p.roster.incarnation i (p.roster.incarnation i + 1) j)
    → ((j : ℕ) → (with_event event p).roster.up j ≡ put_at p.roster.up i true j)
    → NamesOnce p → NamesOnce (with_opened i (with_event event p))
opened_kept i event p next_k next_up k = record {
  named = k.named;
  past = Each-map (IsPast p) (IsPast (with_opened i (with_event event p))) p.sent (λ m e. past m e) k.past;
}
  where
    past : (m : Message) → IsPast p m → IsPast (with_opened i (with_event event p)) m
    past m e = elim (cases_eq m.from i) [
      | inl here ↦
          let low : m.incarnation ≤ p.roster.incarnation i = subst (λ j. m.incarnation ≤ p.roster.incarnation j) here e.incarnation in
          let next : (with_event event p).roster.incarnation m.from ≡ p.roster.incarnation i + 1 =
          next_k m.from ∙ put_here p.roster.incarnation i (p.roster.incarnation i + 1) m.from here in
          record {
            incarnation = omega (arith, low, next);
            counted = λ up same. absurd (let none : ⊥ = omega (arith, low, next, same) in none);
          }
      | inr elsewhere ↦
          let same_k : (with_event event p).roster.incarnation m.from ≡ p.roster.incarnation m.from =
          next_k m.from ∙ put_elsewhere p.roster.incarnation i (p.roster.incarnation i + 1) m.from elsewhere in
          let same_up : (with_event event p).roster.up m.from ≡ p.roster.up m.from =
          next_up m.from ∙ put_elsewhere p.roster.up i true m.from elsewhere in
          record {
            incarnation = subst (λ n. m.incarnation ≤ n) (sym same_k) e.incarnation;
            counted = λ up same. subst (λ (l : Local). m.count ≤ l.ledger.messages)
                (sym (put_elsewhere p.at i (opened_with (here_at (with_event event p) p.clock i) (p.rows i)) m.from elsewhere))
                (e.counted (sym same_up ∙ up) (same ∙ same_k));
          }
    ]

pub changed_kept : (event : RingEvent) (p : PrivateCluster) → NamesOnce p → NamesOnce (changed event p).cluster
unfolding changed roster_after
changed_kept (Joins i) p k =
    react_kept just_opened p.clock i (with_opened i (with_event (Joins i) p)) just_opened_counted
    (opened_kept i (Joins i) p (λ j. refl) (λ j. refl) k)
changed_kept (Leaves i) p k = down_kept i (if p.roster.up i then [] else p.rows i) (Leaves i) p (λ j. refl) (λ j. refl) k
changed_kept (Crashes i) p k = down_kept i (stored_in (p.at i).held) (Crashes i) p (λ j. refl) (λ j. refl) k
changed_kept (Restarts i) p k =
    all_react_kept (at_restart i) p.clock (with_opened i (with_event (Restarts i) p)) (restart_counted i)
    (opened_kept i (Restarts i) p (λ j. refl) (λ j. refl) k)
changed_kept (Learns i) p k =
    react_kept (λ here local. ring_learned here (three_at p.replicas_by p.roster i) local) p.clock i (with_event (Learns i) p)
    (λ here. learned_counted here (three_at p.replicas_by p.roster i))
    (record {
      named = k.named;
      past = Each-map (IsPast p) (IsPast (with_event (Learns i) p)) p.sent
          (λ m e. record { incarnation = e.incarnation; counted = e.counted }) k.past;
    })

-- ---- one thing happens

-- the same messages, whether one was given up
pub given_up_message : (b : Bool) (s : Sent) → (if b then record s { given_up = true } else s).message ≡ s.message
given_up_message true s = refl
given_up_message false s = refl

module _ (g : Sent → Sent) (same : (s : Sent) → (g s).message ≡ s.message) where
  none-map : (m : Message) (xs : List Sent) → has_name_of m xs ≡ false → has_name_of m (map g xs) ≡ false
  none-map m [] e = refl
  none-map m (x ∷ xs) e =
      let parts = or_parts (is_named m.from m.incarnation m.to m.count x) (has_name_of m xs) e in
      or_from (is_named m.from m.incarnation m.to m.count (g x)) (has_name_of m (map g xs))
      (ap (λ (n : Message). n.from == m.from && (n.incarnation == m.incarnation && (n.to == m.to && n.count == m.count))) (same x) ∙ parts.0)
      (none-map m xs parts.1)

  named-map : (xs : List Sent) → AreNamedOnce xs → AreNamedOnce (map g xs)
  named-map [] e = tt
  named-map (x ∷ xs) e = (
    subst (λ (m : Message). has_name_of m (map g xs) ≡ false) (sym (same x)) (none-map x.message xs e.0),
    named-map xs e.1,
  )

  pub Each-same : (P : Message → Type 0) (xs : List Sent) → Each P xs → Each P (map g xs)
  Each-same P [] e = Each-nil P
  Each-same P (x ∷ xs) e =
      Each-cons P (g x) (map g xs) (subst P (sym (same x)) (Each-head P x xs e))
      (Each-same P xs (Each-tail P x xs e))

pub delivered_kept : (decide : Decide) (m : ℕ) (o : Option Message) (p : PrivateCluster) → NamesOnce p → NamesOnce (delivered decide m o p).cluster
delivered_kept decide m None p k = k
delivered_kept decide m (Some message) p k =
    react_kept (λ here local. arrive decide here message local) m message.to p (λ here. arrive_counted decide here message) k

pub handled_kept : (decide : Decide) (p : PrivateCluster) (h : Happening) → NamesOnce p → NamesOnce (handled_by decide p h).cluster
unfolding handled_by
handled_kept decide p (Asked connection i moment request) k =
    react_kept (λ here local. start here connection request local) (effective moment p.clock) i p
    (λ here. start_counted here connection request) k
handled_kept decide p (Limited limits) k = record {
  named = k.named;
  past = Each-map (IsPast p) (IsPast (record p { limits = limits })) p.sent
      (λ m e. record { incarnation = e.incarnation; counted = e.counted }) k.past;
}
handled_kept decide p (Ticked moment) k =
    all_react_kept (λ i. ticked) moment (record p { clock = moment }) (λ i. ticked_counted) (record {
      named = k.named;
      past = Each-map (IsPast p) (IsPast (record p { clock = moment })) p.sent
          (λ m e. record { incarnation = e.incarnation; counted = e.counted }) k.past;
    })
handled_kept decide p (Tried i k number tries moment status) kept =
    react_kept (λ here local. outcome here number tries status local) (effective moment p.clock) i p
    (λ here. outcome_counted here number tries status) kept
handled_kept decide p (Delivered from k to count moment) kept =
    delivered_kept decide (effective moment p.clock) (posted_in p from k to count) p kept
handled_kept decide p (Lost from k to count) kept =
    let q : PrivateCluster = record p { sent = with_given_up from k to count p.sent } in
    let g : Sent → Sent = λ s. if is_named from k to count s then record s { given_up = true } else s in
    let same : (s : Sent) → (g s).message ≡ s.message = λ s. given_up_message (is_named from k to count s) s in
    record {
      named = named-map g same p.sent kept.named;
      past = Each-same g same (IsPast q) p.sent (Each-map (IsPast p) (IsPast q) p.sent
          (λ m e. record { incarnation = e.incarnation; counted = e.counted }) kept.past);
    }
handled_kept decide p (Changed event) k = changed_kept event p k
handled_kept decide p Forced k = all_react_kept (λ i. forced) p.clock p (λ i. forced_counted) k

pub course_kept : (decide : Decide) (p : PrivateCluster) (h : Happening) → NamesOnce p → NamesOnce (course_by decide p h).cluster
unfolding course_by
course_kept decide p h k = if_kept (is_some (refusal_of p h)) (unchanged p) (handled_by decide p h) (λ refused. k) (handled_kept decide p h k)

-- ---- all that happens

pub run_kept : (p : PrivateCluster) (hs : List Happening) → NamesOnce p → NamesOnce (after_all p hs)
run_kept p [] k = k
run_kept p (h ∷ hs) k = run_kept (after p h) hs (course_kept (decision_on p.service_key) p h k)

pub nothing_sent : (is : List ℕ) (p : PrivateCluster) → p.sent ≡ [] → NamesOnce (with_all_opened is p)
nothing_sent [] p e = record {
  named = subst AreNamedOnce (sym e) tt;
  past = subst (Each (IsPast p)) (sym e) (Each-nil (IsPast p));
}
nothing_sent (i ∷ is) p e = nothing_sent is (with_opened i p) e

pub first_kept : (origin : Origin) (tenant : List ℕ) (rows : ℕ → List Item) → NamesOnce (opened origin tenant rows)
first_kept origin tenant rows = nothing_sent origin.ring (unopened (replicas tenant) origin tenant rows) refl

pub names_are_given_once : (origin : Origin) (tenant : List ℕ) (rows : ℕ → List Item) (hs : List Happening)
    → AreNamedOnce (after_all (opened origin tenant rows) hs).sent
names_are_given_once origin tenant rows hs =
    (run_kept (opened origin tenant rows) hs (first_kept origin tenant rows)).named
