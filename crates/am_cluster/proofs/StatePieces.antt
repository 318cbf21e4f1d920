-- Pieces of one State among what was sent: which list they are of, also once more is sent.
use Rattle.std.proofs.Common.{◌≡◌, ℕ, ◌≤◌, Bool, true, false, List, [], ◌++◌, Option, Some, None, is_some, refl, sym, ap, subst, ◌∙◌, inl, inr, arith, le_refl}
use Rattle.std.specs.Prelude.{◌==◌, ◌⊎◌, unwrap_or}
use Rattle.std.proofs.lemmas.Bool.{and_parts, cases_eq, eqb-true, false≢true}
use Rattle.am_item.specs.declared.item.Item.{Item}
use Rattle.am_cluster.specs.Local.{Local}
use Rattle.am_cluster.specs.Messages.{Ack, Answer, Ask, Body, Get, Got, Message, Put, State}
use Rattle.am_transfer.specs.Peers.{Peer, peer}
use Rattle.am_transfer.specs.Pieces.{cut}
use Rattle.am_cluster.specs.Naming.{NamesOnce}
use Rattle.am_cluster.specs.PrivateCluster.{PrivateCluster}
use Rattle.am_cluster.specs.Sent.{Sent}
use Rattle.am_cluster.specs.SentFacts.{StateName, is_of_state}
use Rattle.am_cluster.proofs.ListsKept.{Within, list_at}
use Rattle.am_cluster.proofs.Names.{Each, Each-append, Each-map}

-- ---- pieces of one State

-- a message, where it is a piece of the State, is one of this list
abbrev pub IsOf : StateName → List Item → Message → Body → Type 0
IsOf name list m (State k place is_last items) =
    is_of_state name m k ≡ true → Within (record { place = place; is_last = is_last; items = items }) (cut list)
IsOf name list m (Get operation) = Unit {0}
IsOf name list m (Answer operation incarnation items) = Unit {0}
IsOf name list m (Put operation items) = Unit {0}
IsOf name list m (Ack operation incarnation) = Unit {0}
IsOf name list m (Ask incarnation) = Unit {0}
IsOf name list m (Got incarnation place) = Unit {0}

-- it is no piece of the State
abbrev pub IsNone : StateName → Message → Body → Type 0
IsNone name m (State k place is_last items) = is_of_state name m k ≡ false
IsNone name m (Get operation) = Unit {0}
IsNone name m (Answer operation incarnation items) = Unit {0}
IsNone name m (Put operation items) = Unit {0}
IsNone name m (Ack operation incarnation) = Unit {0}
IsNone name m (Ask incarnation) = Unit {0}
IsNone name m (Got incarnation place) = Unit {0}

abbrev pub Of : StateName → List Item → Message → Type 0
Of name list m = IsOf name list m m.body

abbrev pub Not : StateName → Message → Type 0
Not name m = IsNone name m m.body

-- none is one of any list
pub none_of : (name : StateName) (list : List Item) (m : Message) (body : Body) → IsNone name m body → IsOf name list m body
none_of name list m (State k place is_last items) e = λ yes. absurd (false≢true (sym e ∙ yes))
none_of name list m (Get operation) e = tt
none_of name list m (Answer operation incarnation items) e = tt
none_of name list m (Put operation items) e = tt
none_of name list m (Ack operation incarnation) e = tt
none_of name list m (Ask incarnation) e = tt
none_of name list m (Got incarnation place) e = tt

-- whose State a piece is of
pub record IsSame (name : StateName) (m : Message) (k : ℕ) : Type 0 where
  pub from : m.from ≡ name.from
  pub incarnation : m.incarnation ≡ name.incarnation
  pub to : m.to ≡ name.to
  pub to_incarnation : k ≡ name.to_incarnation
  pub epoch : m.epoch ≡ name.epoch

pub same_state : (name : StateName) (m : Message) (k : ℕ) → is_of_state name m k ≡ true → IsSame name m k
same_state name m k e =
    let a = and_parts (m.from == name.from) _ e in
    let b = and_parts (m.incarnation == name.incarnation) _ a.1 in
    let c = and_parts (m.to == name.to) _ b.1 in
    let d = and_parts (k == name.to_incarnation) (m.epoch == name.epoch) c.1 in
    record {
      from = eqb-true m.from name.from a.0;
      incarnation = eqb-true m.incarnation name.incarnation b.0;
      to = eqb-true m.to name.to c.0;
      to_incarnation = eqb-true k name.to_incarnation d.0;
      epoch = eqb-true m.epoch name.epoch d.1;
    }

pub refuted : (b : Bool) → (b ≡ true → ⊥) → b ≡ false
refuted true f = absurd (f refl)
refuted false f = refl

-- ---- what holds of a cluster

-- the State is one that its sender sends now: in its incarnation, and of the epoch that it knows
pub record IsCurrent (p : PrivateCluster) (name : StateName) : Type 0 where
  pub up : p.roster.up name.from ≡ true
  pub incarnation : name.incarnation ≡ p.roster.incarnation name.from
  pub epoch : name.epoch ≡ p.roster.known name.from

abbrev pub receiver_of : StateName → Peer
receiver_of name = peer name.to name.to_incarnation

-- its pieces are of one list, which its sender keeps while it is current
pub record IsOne (p : PrivateCluster) (name : StateName) : Type 0 where
  pub list : List Item
  pub pieces : Each (Of name list) p.sent
  pub kept : IsCurrent p name → (list_at (receiver_of name) (p.at name.from) ≡ Some list) ⊎ Each (Not name) p.sent

-- a piece is of no later epoch than its sender knows
abbrev pub timely_in : PrivateCluster → Message → Body → Type 0
timely_in p m (State k place is_last items) =
    p.roster.up m.from ≡ true → m.incarnation ≡ p.roster.incarnation m.from → m.epoch ≤ p.roster.known m.from
timely_in p m (Get operation) = Unit {0}
timely_in p m (Answer operation incarnation items) = Unit {0}
timely_in p m (Put operation items) = Unit {0}
timely_in p m (Ack operation incarnation) = Unit {0}
timely_in p m (Ask incarnation) = Unit {0}
timely_in p m (Got incarnation place) = Unit {0}

abbrev pub Timely : PrivateCluster → Message → Type 0
Timely p m = timely_in p m m.body

pub record AreOne (p : PrivateCluster) : Type 0 where
  pub kept : NamesOnce p
  pub timely : Each (Timely p) p.sent
  pub one : (name : StateName) → IsOne p name

-- ---- more is sent

-- a piece that is sent now, of the list that its sender then keeps
abbrev pub new_in : PrivateCluster → (ℕ → Local) → Message → Body → Type 0
new_in p at m (State k place is_last items) =
    (p.roster.up m.from ≡ true) × (m.incarnation ≡ p.roster.incarnation m.from) × (m.epoch ≡ p.roster.known m.from)
    × ((list : List Item) × (list_at (peer m.to k) (at m.from) ≡ Some list)
    × Within (record { place = place; is_last = is_last; items = items }) (cut list))
new_in p at m (Get operation) = Unit {0}
new_in p at m (Answer operation incarnation items) = Unit {0}
new_in p at m (Put operation items) = Unit {0}
new_in p at m (Ack operation incarnation) = Unit {0}
new_in p at m (Ask incarnation) = Unit {0}
new_in p at m (Got incarnation place) = Unit {0}

abbrev pub New : PrivateCluster → (ℕ → Local) → Message → Type 0
New p at m = new_in p at m m.body

-- .. makes a State current
pub new_current : (p : PrivateCluster) (name : StateName) (m : Message) (k : ℕ) → IsSame name m k → p.roster.up m.from ≡ true
    → m.incarnation ≡ p.roster.incarnation m.from → m.epoch ≡ p.roster.known m.from → IsCurrent p name
new_current p name m k same up inc epoch = record {
  up = ap p.roster.up (sym same.from) ∙ up;
  incarnation = sym same.incarnation ∙ inc ∙ ap p.roster.incarnation same.from;
  epoch = sym same.epoch ∙ epoch ∙ ap p.roster.known same.from;
}

-- the list that is kept for the State's receiver
pub new_kept : (name : StateName) (at : ℕ → Local) (m : Message) (k : ℕ) (list : List Item) → IsSame name m k
    → list_at (peer m.to k) (at m.from) ≡ Some list → list_at (receiver_of name) (at name.from) ≡ Some list
new_kept name at m k list same e =
    ap (λ t. list_at (peer t name.to_incarnation) (at name.from)) (sym same.to)
    ∙ ap (λ j. list_at (peer m.to j) (at name.from)) (sym same.to_incarnation)
    ∙ ap (λ f. list_at (peer m.to k) (at f)) (sym same.from) ∙ e

pub some_same : {A : Type 0} (x y : A) → Some x ≡ Some y → x ≡ y
some_same x y e = ap (λ o. unwrap_or o x) e

-- a new piece of a State whose sender then keeps this list is of it
pub is_of_kept : (p : PrivateCluster) (at : ℕ → Local) (name : StateName) (list : List Item) (m : Message) (body : Body)
    → list_at (receiver_of name) (at name.from) ≡ Some list → new_in p at m body → IsOf name list m body
is_of_kept p at name list m (State k place is_last items) kept e = λ yes.
    let same = same_state name m k yes in
    let found = new_kept name at m k e.3.0 same e.3.1 in
    subst (λ l. Within (record { place = place; is_last = is_last; items = items }) (cut l))
    (some_same e.3.0 list (sym found ∙ kept)) e.3.2
is_of_kept p at name list m (Get operation) kept e = tt
is_of_kept p at name list m (Answer operation incarnation items) kept e = tt
is_of_kept p at name list m (Put operation items) kept e = tt
is_of_kept p at name list m (Ack operation incarnation) kept e = tt
is_of_kept p at name list m (Ask incarnation) kept e = tt
is_of_kept p at name list m (Got incarnation place) kept e = tt

-- where none is kept, or the State isn't current, a new piece is not of it
pub is_not_new : (p : PrivateCluster) (at : ℕ → Local) (name : StateName) (m : Message) (body : Body)
    → (IsCurrent p name → (list : List Item) → list_at (receiver_of name) (at name.from) ≡ Some list → ⊥)
    → new_in p at m body → IsNone name m body
is_not_new p at name m (State k place is_last items) none e =
    refuted (is_of_state name m k) (λ yes.
    let same = same_state name m k yes in
    none (new_current p name m k same e.0 e.1 e.2) e.3.0 (new_kept name at m k e.3.0 same e.3.1))
is_not_new p at name m (Get operation) none e = tt
is_not_new p at name m (Answer operation incarnation items) none e = tt
is_not_new p at name m (Put operation items) none e = tt
is_not_new p at name m (Ack operation incarnation) none e = tt
is_not_new p at name m (Ask incarnation) none e = tt
is_not_new p at name m (Got incarnation place) none e = tt

-- lists that were kept are kept, or none of the State's pieces was sent
abbrev pub Carries : PrivateCluster → (ℕ → Local) → Type 0
Carries p at =
    (name : StateName) → IsCurrent p name
    → ((list : List Item) → list_at (receiver_of name) (p.at name.from) ≡ Some list → list_at (receiver_of name) (at name.from) ≡ Some list)
    ⊎ Each (Not name) p.sent

module _ (p : PrivateCluster) (at : ℕ → Local) (new : List Sent) (is_new : Each (New p at) new) (name : StateName) where
  same_current : IsCurrent (record p { at = at; sent = p.sent ++ new }) name → IsCurrent p name
  same_current c = record { up = c.up; incarnation = c.incarnation; epoch = c.epoch }

  -- it goes on with a list that is kept
  on_list : (list : List Item) → Each (Of name list) p.sent → list_at (receiver_of name) (at name.from) ≡ Some list
      → IsOne (record p { at = at; sent = p.sent ++ new }) name
  on_list list pieces kept = record {
    list = list;
    pieces = Each-append (Of name list) p.sent new pieces
        (Each-map (New p at) (Of name list) new (λ m e. is_of_kept p at name list m m.body kept e) is_new);
    kept = λ c. inl kept;
  }

  -- nothing of it was sent yet
  from_none : Each (Not name) p.sent → (o : Option (List Item)) → list_at (receiver_of name) (at name.from) ≡ o
      → IsOne (record p { at = at; sent = p.sent ++ new }) name
  from_none none (Some list) kept =
      on_list list (Each-map (Not name) (Of name list) p.sent (λ m e. none_of name list m m.body e) none) kept
  from_none none None kept =
      let all : Each (Not name) (p.sent ++ new) = Each-append (Not name) p.sent new none
      (Each-map (New p at) (Not name) new
      (λ m e. is_not_new p at name m m.body (λ c list found. false≢true (ap is_some (sym kept ∙ found))) e) is_new) in
      record {
        list = [];
        pieces = Each-map (Not name) (Of name []) (p.sent ++ new) (λ m e. none_of name [] m m.body e) all;
        kept = λ c. inr all;
      }

  -- it isn't sent now
  not_current : (IsCurrent p name → ⊥) → IsOne p name → IsOne (record p { at = at; sent = p.sent ++ new }) name
  not_current never one = record {
    list = one.list;
    pieces = Each-append (Of name one.list) p.sent new one.pieces
        (Each-map (New p at) (Of name one.list) new
        (λ m e. none_of name one.list m m.body (is_not_new p at name m m.body (λ c list found. never c) e)) is_new);
    kept = λ c. absurd (never (same_current c));
  }

  by_kept : ((list : List Item) → list_at (receiver_of name) (p.at name.from) ≡ Some list
      → list_at (receiver_of name) (at name.from) ≡ Some list) ⊎ Each (Not name) p.sent
      → (one : IsOne p name) → (list_at (receiver_of name) (p.at name.from) ≡ Some one.list) ⊎ Each (Not name) p.sent
      → IsOne (record p { at = at; sent = p.sent ++ new }) name
  by_kept (inr none) one kept = from_none none (list_at (receiver_of name) (at name.from)) refl
  by_kept (inl carry) one (inr none) = from_none none (list_at (receiver_of name) (at name.from)) refl
  by_kept (inl carry) one (inl kept) = on_list one.list one.pieces (carry one.list kept)

pub is_current : (p : PrivateCluster) (name : StateName) → IsCurrent p name ⊎ (IsCurrent p name → ⊥)
is_current p name = by_up (p.roster.up name.from) refl
  where
    by_up : (b : Bool) → p.roster.up name.from ≡ b → IsCurrent p name ⊎ (IsCurrent p name → ⊥)
    by_up false e = inr (λ c. false≢true (sym e ∙ c.up))
    by_up true e = elim (cases_eq name.incarnation (p.roster.incarnation name.from)) [
      | inr other ↦ inr (λ c. other c.incarnation)
      | inl inc ↦ elim (cases_eq name.epoch (p.roster.known name.from)) [
        | inr other ↦ inr (λ c. other c.epoch)
        | inl epoch ↦ inl (record { up = e; incarnation = inc; epoch = epoch })
      ]
    ]

pub timely_new : (p : PrivateCluster) (at : ℕ → Local) (m : Message) (body : Body) → new_in p at m body → timely_in p m body
timely_new p at m (State k place is_last items) e = λ up inc. subst (λ n. n ≤ p.roster.known m.from) (sym e.2) (le_refl (p.roster.known m.from))
timely_new p at m (Get operation) e = tt
timely_new p at m (Answer operation incarnation items) e = tt
timely_new p at m (Put operation items) e = tt
timely_new p at m (Ack operation incarnation) e = tt
timely_new p at m (Ask incarnation) e = tt
timely_new p at m (Got incarnation place) e = tt

pub timely_same : (p q : PrivateCluster) → ((i : ℕ) → q.roster.up i ≡ true → p.roster.up i ≡ true)
    → ((i : ℕ) → q.roster.incarnation i ≡ p.roster.incarnation i) → ((i : ℕ) → p.roster.known i ≤ q.roster.known i)
    → (m : Message) (body : Body) → timely_in p m body → timely_in q m body
timely_same p q ups incs knows m (State k place is_last items) e = λ up inc.
    let low : m.epoch ≤ p.roster.known m.from = e (ups m.from up) (inc ∙ incs m.from) in
    let more : p.roster.known m.from ≤ q.roster.known m.from = knows m.from in
    omega (arith, low, more)
timely_same p q ups incs knows m (Get operation) e = tt
timely_same p q ups incs knows m (Answer operation incarnation items) e = tt
timely_same p q ups incs knows m (Put operation items) e = tt
timely_same p q ups incs knows m (Ack operation incarnation) e = tt
timely_same p q ups incs knows m (Ask incarnation) e = tt
timely_same p q ups incs knows m (Got incarnation place) e = tt

-- the cluster once more was sent
pub step : (p : PrivateCluster) (at : ℕ → Local) (new : List Sent) → Each (New p at) new → Carries p at
    → NamesOnce (record p { at = at; sent = p.sent ++ new }) → Each (Timely p) p.sent → ((name : StateName) → IsOne p name)
    → AreOne (record p { at = at; sent = p.sent ++ new })
step p at new is_new carries kept timely one = record {
  kept = kept;
  timely = Each-append (Timely (record p { at = at; sent = p.sent ++ new })) p.sent new
      (Each-map (Timely p) (Timely (record p { at = at; sent = p.sent ++ new })) p.sent
      (λ m e. timely_same p (record p { at = at; sent = p.sent ++ new }) (λ i u. u) (λ i. refl) (λ i. le_refl (p.roster.known i)) m m.body e) timely)
      (Each-map (New p at) (Timely (record p { at = at; sent = p.sent ++ new })) new
      (λ m e. timely_same p (record p { at = at; sent = p.sent ++ new }) (λ i u. u) (λ i. refl) (λ i. le_refl (p.roster.known i)) m m.body
      (timely_new p at m m.body e)) is_new);
  one = λ name. elim (is_current p name) [
    | inr never ↦ not_current p at new is_new name never (one name)
    | inl c ↦ by_kept p at new is_new name (carries name c) (one name) ((one name).kept c)
  ];
}
