-- Events that put nothing out keep the simulation: connections that are opened and closed, new limits, and all that is
-- refused.
use Rattle.std.proofs.Common.{◌≡◌, ◌∙◌, inl, inr, ℕ, ◌==◌, nat_eq, Bool, true, false, List, [], ◌∷◌, Option, None}
use Rattle.std.proofs.Common.{Some, IsSome, is_some, refl, sym, ap, arith, if◌then◌else◌, ◌&&◌, ◌++◌}
use Rattle.std.proofs.lemmas.Bool.{cases_Bool}
use Rattle.std.proofs.lemmas.Bool.Decides.{nat_tests}
use Rattle.std.proofs.lemmas.List.{append-nil}
use Rattle.std.proofs.lemmas.List.Elements.{All-weaker}
use Rattle.am_cluster.specs.Courses.{after_all, course, course_by, fits_all, handled_by, refusal_of, told_all}
use Rattle.am_cluster.specs.Deciding.{deciding_at}
use Rattle.am_cluster.specs.Events.{Event, Open, Close, Limits}
use Rattle.am_cluster.specs.Happening.{Happening, Limited}
use Rattle.am_cluster.specs.Naming.{IsPast, NamesOnce}
use Rattle.am_cluster.specs.Outputs.{front_told}
use Rattle.am_cluster.specs.Patterns.{AreAllBuilt}
use Rattle.am_cluster.specs.PrivateCluster.{Course, PrivateCluster, unchanged}
use Rattle.am_cluster.specs.Roster.{IsSameRoster, Roster}
use Rattle.am_cluster.specs.Sent.{Sent}
use Rattle.am_cluster.specs.View.{AskedAs, FrontAnswered, Reading, Seen, Shut, Watch, adds, look}
use Rattle.am_cluster.specs.View.{watch}
use Rattle.am_limit.specs.Books.{limits_of}
use Rattle.am_limit.specs.declared.limits.Limits as limit
use Rattle.am_messages.specs.Posted.{posted_at}
use Rattle.am_instance.specs.Instance.{GoesOn, local_in, refused_in}
use Rattle.am_instance.specs.declared.instance.Instance.{Instance}
use Rattle.am_world.specs.Places.{AreNumbered, IsReadOnce, Turns, bytes_at, incarnation_at}
use Rattle.am_world.specs.Places.{incarnation_where, instance_at, known_at, known_where, local_at, local_where}
use Rattle.am_world.specs.Places.{refused_at, refused_where, up_at, up_where}
use Rattle.am_world.specs.Simulation.{Follows, Stands, bytes_read, fault_count, limits_in, put_out}
use Rattle.am_world.specs.Simulation.{refused_by, roster_of}
use Rattle.am_world.specs.Steps.{clock_after, limits_after}
use Rattle.am_world.specs.declared.common.Common.{Common}
use Rattle.am_world.specs.declared.state.State.{State}
use Rattle.am_tenant.specs.Names.{same}
use Rattle.am_world.proofs.Beside.{Kept, Premises}
use Rattle.am_world.proofs.Built.{builds_kept}
use Rattle.am_world.proofs.RunLater.{asked_later, later_watch}
use Rattle.am_world.proofs.RunPlaces.{turned_here}
use Rattle.am_instance.specs.Site.{local_of}
use Rattle.am_world.proofs.AlonePlaces.{roster_then, same_again}
use Rattle.am_world.proofs.AloneTold.{later_itself}

-- ---- what stays

-- but for connections, what was put out and faults, the new world has what the old one has
pub record SameParts (w w' : State) : Type 0 where
  pub clock : w'.clock ≡ w.clock
  pub common : w'.common ≡ w.common
  pub messages : w'.messages ≡ w.messages
  pub roster : IsSameRoster (roster_of w') (roster_of w)
  pub local : (t : List ℕ) (i : ℕ) → local_at t i w'.instances ≡ local_at t i w.instances
  pub refused : (i : ℕ) → refused_by w' i ≡ refused_by w i

pub same_itself : (w : State) → SameParts w w
same_itself w = record {
  clock = refl;
  common = refl;
  messages = refl;
  roster = same_again (roster_of w);
  local = λ t i. refl;
  refused = λ i. refl;
}

pub stands_same : (t : List ℕ) (w w' : State) (p : PrivateCluster) → SameParts w w' → Stands t w p → Stands t w' p
stands_same t w w' p e s = record {
  tenant = s.tenant;
  replicas_by = s.replicas_by;
  service_key = ap (λ (c : Common). c.service_key) e.common ∙ s.service_key;
  clock = e.clock ∙ s.clock;
  limits =
      ap (λ (c : Common). limits_of t c.limits) e.common ∙ s.limits;
  roster = roster_then _ _ _ e.roster s.roster;
  local = λ i. e.local t i ∙ s.local i;
  posted = λ from incarnation to count.
      ap (posted_at (record { tenant = t; from = from; incarnation = incarnation; to = to; count = count })) e.messages
      ∙ s.posted from incarnation to count;
  named = s.named;
}

-- it has what it had of each tenant, is up or down as it was, and was refused no build
abbrev pub Rests : Instance → Instance → Type 0
Rests x x' = GoesOn x x' × (x'.site ≡ x.site) × (refused_in x' ≡ refused_in x) × (x'.tenants ≡ x.tenants)

-- what is seen of each instance is the same, where it is so of each that rests
rest_by : {A : Type 0} (f : Option Instance → A) → ((x x' : Instance) → Rests x x' → f (Some x') ≡ f (Some x))
    → (xs ys : List Instance) → AreNumbered xs → AreNumbered ys → ((i : ℕ) → Turns i Rests xs ys) → (i : ℕ)
    → f (instance_at i ys) ≡ f (instance_at i xs)
rest_by f are xs ys numbered numbered' rests i =
    turned_here (λ o o'. f o' ≡ f o) refl Rests are i xs ys numbered numbered' (rests i)

-- where each instance does so
pub rest_same : (w w' : State) → w'.clock ≡ w.clock → w'.common ≡ w.common → w'.messages ≡ w.messages
    → AreNumbered w.instances → AreNumbered w'.instances → ((i : ℕ) → Turns i Rests w.instances w'.instances)
    → SameParts w w'
unfolding known_at up_at incarnation_at local_at local_in refused_at
rest_same w w' clock common messages e e' rests = record {
  clock = clock;
  common = common;
  messages = messages;
  roster = record {
    rings = rw common refl;
    known = rest_by known_where (λ x x' r. r.0.known) w.instances w'.instances e e' rests;
    up = rest_by up_where (λ x x' r. r.0.up) w.instances w'.instances e e' rests;
    incarnation = rest_by incarnation_where (λ x x' r. r.0.incarnation) w.instances w'.instances e e' rests;
    first = rw common refl;
  };
  local = λ t. rest_by (local_where t) (λ x x' r. ap (local_of t) r.1) w.instances w'.instances e e' rests;
  refused = rest_by refused_where (λ x x' r. r.2) w.instances w'.instances e e' rests;
}

-- ---- what is nothing to a private cluster

pub record IsNothing (p : PrivateCluster) (hs : List Happening) : Type 0 where
  pub after : after_all p hs ≡ p
  pub told : told_all p hs ≡ []
  pub fits : fits_all p hs ≡ true
  pub built : AreAllBuilt p hs

pub nothing_at_all : (p : PrivateCluster) → IsNothing p []
nothing_at_all p = record { after = refl; told = refl; fits = refl; built = tt }

-- what is refused: no request is decided then
pub nothing_refused : (p : PrivateCluster) (h : Happening) → is_some (refusal_of p h) ≡ true → deciding_at p h ≡ None
    → IsNothing p (h ∷ [])
unfolding course_by
nothing_refused p h refused undecided =
    let same_course : course p h ≡ unchanged p = rw refused refl in
    record {
      after = ap (λ (c : Course). c.cluster) same_course;
      told = ap (λ (c : Course). c.outputs ++ []) same_course;
      fits = ap (λ (c : Course). c.fits && true) same_course;
      built = (rw undecided tt, tt);
    }

-- ---- an event that changes connections alone

-- An event that changes nothing of what a world has of any tenant, is nothing to any cluster and puts nothing out. What
-- is read may change.
pub kept_quiet : (w w' : State) (e : Event) → ((v : Watch) → Follows v w → Follows (watch v e) w')
    → ((t : List ℕ) (v : Watch) (p : PrivateCluster) → Premises t v p w → IsNothing p (adds t v e))
    → ((v : Watch) → Follows v w → front_told v e ≡ []) → w.clock ≡ clock_after e w.clock
    → ((t : List ℕ) (limits : limit.Limits) → limits ≡ limits_after e t limits) → SameParts w w'
    → put_out w' ≡ put_out w → fault_count w' ≡ fault_count w → Kept w e w'
kept_quiet w w' e follows nothing unsaid clock limits same outputs faults = record {
  follows = follows;
  asked = λ v f new asked. asked_later v (watch v e) w w' (later_watch v e new) same.local asked;
  outs = [];
  appended = outputs ∙ sym (append-nil (put_out w));
  tenants = λ t v p given. inl (record {
    stands = rw (nothing t v p given).after (stands_same t w w' p same given.stands);
    told = λ u later. sym (nothing t v p given).told;
    fits = (nothing t v p given).fits;
    built = (nothing t v p given).built;
  });
  front = λ v f a u later. sym (unsaid v f);
  owned = λ v f a u later. refl;
  roster = same.roster;
  clock = same.clock ∙ clock;
  limits = λ t. ap (λ (c : Common). limits_of t c.limits) same.common ∙ limits t (limits_of t w.common.limits);
  service_key = ap (λ (c : Common). c.service_key) same.common;
  refused = λ i. builds_kept w w' e i [] (same.refused i);
  faults = faults;
}

-- .. and is no change to what is known of any world
pub kept_nothing : (w : State) (e : Event) → ((v : Watch) → Follows v w → watch v e ≡ v)
    → ((t : List ℕ) (v : Watch) (p : PrivateCluster) → Premises t v p w → IsNothing p (adds t v e))
    → ((v : Watch) → Follows v w → front_told v e ≡ []) → w.clock ≡ clock_after e w.clock
    → ((t : List ℕ) (limits : limit.Limits) → limits ≡ limits_after e t limits) → Kept w e w
kept_nothing w e unchanged nothing unsaid clock limits =
    kept_quiet w w e (λ v f. rw (unchanged v f) f) nothing unsaid clock limits (same_itself w) refl refl

-- ---- a connection that is opened

-- a connection that the table tells of is read by one instance
one_of : (i j k : ℕ) (bytes : List ℕ) → IsSome (if i == k then Some bytes else None)
    → IsSome (if j == k then Some bytes else None) → i ≡ j
one_of i j k bytes one other = elim (cases_Bool (nat_eq i k)) [
  | inl h ↦ elim (cases_Bool (nat_eq j k)) [
    | inl l ↦ grind (arith, nat_tests)
    | inr l ↦ let never = rw l at other in absurd cc
  ]
  | inr h ↦ let never = rw h at one in absurd cc
]

once_read : (s : Option Seen) (i j : ℕ) → IsSome (bytes_read i s) → IsSome (bytes_read j s) → i ≡ j
once_read None i j one other = absurd cc
once_read (Some (Reading k bytes)) i j one other = one_of i j k bytes one other
once_read (Some (AskedAs t)) i j one other = absurd cc
once_read (Some FrontAnswered) i j one other = absurd cc
once_read (Some Shut) i j one other = absurd cc

pub read_once : (v : Watch) (w : State) (c : ℕ) → Follows v w → IsReadOnce c w.instances
read_once v w c f i j one other =
    once_read (look c v.table) i j (rw (f.reading c i) at one) (rw (f.reading c j) at other)

-- it is read at its instance alone, and every other is as before
open_reading : (b : Bool) (d i j : ℕ) (v : Watch) (o x : Option (List ℕ))
    → x ≡ (if b then (if j == i then Some [] else None) else o) → o ≡ bytes_read j (look d v.table)
    → x ≡ bytes_read j (if b then Some (Reading i []) else look d v.table)
open_reading true d i j v o x e h = e
open_reading false d i j v o x e h = e ∙ h

follows_open : (v : Watch) (w w' : State) (c i : ℕ) → up_at i w.instances ≡ true
    → (IsReadOnce c w.instances → (d j : ℕ) → bytes_at d j w'.instances
    ≡ (if d == c then (if j == i then Some [] else None) else bytes_at d j w.instances))
    → IsSameRoster (roster_of w') (roster_of w) → Follows v w → Follows (watch v (Open c i)) w'
unfolding watch
follows_open v w w' c i up reading same f = rw (sym (f.roster.up i) ∙ up) (record {
  reading = λ d j. open_reading (nat_eq d c) d i j v _ _ (reading (read_once v w c f) d j) (f.reading d j);
  roster = roster_then _ _ _ same f.roster;
})

pub kept_open : (w w' : State) (c i : ℕ) → up_at i w.instances ≡ true
    → (IsReadOnce c w.instances → (d j : ℕ) → bytes_at d j w'.instances
    ≡ (if d == c then (if j == i then Some [] else None) else bytes_at d j w.instances))
    → SameParts w w' → put_out w' ≡ put_out w → fault_count w' ≡ fault_count w → Kept w (Open c i) w'
unfolding adds front_told
kept_open w w' c i up reading same =
    kept_quiet w w' (Open c i) (λ v f. follows_open v w w' c i up reading same.roster f)
    (λ t v p given. nothing_at_all p) (λ v f. refl) refl (λ t limits. refl) same

-- ---- a client that left

-- what an instance reads is read there in each table that the world follows
read_there : (n i : ℕ) (before bytes : List ℕ) → Some bytes ≡ (if nat_eq n i then Some before else None)
    → Some (Reading i before) ≡ Some (Reading n bytes)
read_there n i before bytes e = elim (cases_Bool (nat_eq n i)) [
  | inl h ↦ let number : i ≡ n = grind (arith, nat_tests) in let same_bytes = rw h at e in cc
  | inr h ↦ let never = rw h at e in absurd cc
]

reading_there : (n : ℕ) (s : Option Seen) (bytes : List ℕ) → Some bytes ≡ bytes_read n s → s ≡ Some (Reading n bytes)
reading_there n None bytes e = absurd cc
reading_there n (Some (Reading i before)) bytes e = read_there n i before bytes e
reading_there n (Some (AskedAs tenant)) bytes e = absurd cc
reading_there n (Some FrontAnswered) bytes e = absurd cc
reading_there n (Some Shut) bytes e = absurd cc

pub seen_reading : (v : Watch) (w : State) (n c : ℕ) (before : List ℕ) → Follows v w
    → bytes_at c n w.instances ≡ Some before → look c v.table ≡ Some (Reading n before)
seen_reading v w n c before f here = reading_there n (look c v.table) before (sym here ∙ f.reading c n)

-- its connection is read nowhere, and every other is as before
shut_here : (d c j n : ℕ) (v : Watch) (before : List ℕ) (old new : Option (List ℕ))
    → new ≡ (if j == n then (if d == c then None else old) else old) → old ≡ bytes_read j (look d v.table)
    → look c v.table ≡ Some (Reading n before) → new ≡ bytes_read j (look d ((c, Shut) ∷ v.table))
shut_here d c j n v before old new is reads seen = elim (cases_Bool (nat_eq d c)) [
  | inl k ↦
      let name : d ≡ c = grind (arith, nat_tests) in
      let here : old ≡ bytes_read j (Some (Reading n before)) =
      reads ∙ ap (λ e. bytes_read j (look e v.table)) name ∙ ap (bytes_read j) seen in
      elim (cases_Bool (nat_eq j n)) [
        | inl h ↦ rw k (rw (h, k) at is)
        | inr h ↦ rw k ((rw h at is) ∙ (rw h at here))
      ]
  | inr k ↦ elim (cases_Bool (nat_eq j n)) [
    | inl h ↦ rw k ((rw (h, k) at is) ∙ reads)
    | inr h ↦ rw k ((rw h at is) ∙ reads)
  ]
]

pub kept_close : (w w' : State) (n c : ℕ) (before : List ℕ) → bytes_at c n w.instances ≡ Some before
    → ((d j : ℕ) → bytes_at d j w'.instances
    ≡ (if j == n then (if d == c then None else bytes_at d j w.instances) else bytes_at d j w.instances))
    → SameParts w w' → put_out w' ≡ put_out w → fault_count w' ≡ fault_count w → Kept w (Close c) w'
unfolding watch adds front_told
kept_close w w' n c before here reading same =
    kept_quiet w w' (Close c)
    (λ v f.
    let seen = seen_reading v w n c before f here in
    rw seen (record {
      reading = λ d j. shut_here d c j n v before _ _ (reading d j) (f.reading d j) seen;
      roster = roster_then _ _ _ same.roster f.roster;
    }))
    (λ t v p given. nothing_at_all p) (λ v f. refl) refl (λ t limits. refl) same

-- ---- new limits

-- what new limits of a tenant are to a private cluster
limited_course : (p : PrivateCluster) (limits : limit.Limits)
    → course p (Limited limits) ≡ unchanged (record p { limits = limits })
unfolding course_by handled_by refusal_of
limited_course p limits = refl

named_same : (p : PrivateCluster) (limits : limit.Limits) → NamesOnce p → NamesOnce (record p { limits = limits })
named_same p limits once =
    let q : PrivateCluster = record p { limits = limits } in
    record {
      named = once.named;
      past = All-weaker (λ (s : Sent). IsPast p s.message) (λ (s : Sent). IsPast q s.message)
          (λ s past. record { incarnation = past.incarnation; counted = past.counted }) p.sent once.past;
    }

-- the tenant's cluster gets them
limited_alone : (t : List ℕ) (w w' : State) (p : PrivateCluster) (limits : limit.Limits) → limits_in w' t ≡ limits
    → w'.common.service_key ≡ w.common.service_key → w'.clock ≡ w.clock → w'.messages ≡ w.messages
    → IsSameRoster (roster_of w') (roster_of w)
    → ((i : ℕ) → local_at t i w'.instances ≡ local_at t i w.instances) → Stands t w p
    → Stands t w' (record p { limits = limits })
limited_alone t w w' p limits has service_key clock messages roster local s = record {
  tenant = s.tenant;
  replicas_by = s.replicas_by;
  service_key = service_key ∙ s.service_key;
  clock = clock ∙ s.clock;
  limits = has;
  roster = roster_then _ _ _ roster s.roster;
  local = λ i. local i ∙ s.local i;
  posted = λ from incarnation to count.
      ap (posted_at (record { tenant = t; from = from; incarnation = incarnation; to = to; count = count })) messages
      ∙ s.posted from incarnation to count;
  named = named_same p limits s.named;
}

-- .. and no other; this is so of a tenant's cluster afterwards
record IsLimited (t : List ℕ) (w' : State) (p : PrivateCluster) (hs : List Happening) : Type 0 where
  stands : Stands t w' (after_all p hs)
  told : told_all p hs ≡ []
  fits : fits_all p hs ≡ true
  built : AreAllBuilt p hs

limited_by : (b : Bool) (t : List ℕ) (w w' : State) (p : PrivateCluster) (limits : limit.Limits)
    → limits_of t w'.common.limits ≡ (if b then limits else limits_of t w.common.limits)
    → w'.common.service_key ≡ w.common.service_key → w'.clock ≡ w.clock → w'.messages ≡ w.messages
    → IsSameRoster (roster_of w') (roster_of w)
    → ((i : ℕ) → local_at t i w'.instances ≡ local_at t i w.instances) → Stands t w p
    → IsLimited t w' p (if b then Limited limits ∷ [] else [])
unfolding course_by handled_by refusal_of deciding_at
limited_by true t w w' p limits set service_key clock messages roster local s = record {
  stands = limited_alone t w w' p limits set service_key clock messages roster local s;
  told = refl;
  fits = refl;
  built = (tt, tt);
}
limited_by false t w w' p limits set service_key clock messages roster local s = record {
  stands = limited_alone t w w' p p.limits (set ∙ s.limits) service_key clock messages roster local s;
  told = refl;
  fits = refl;
  built = tt;
}

-- what a world has of tenants, but for limits
pub record SameBesideLimits (w w' : State) : Type 0 where
  pub service_key : w'.common.service_key ≡ w.common.service_key
  pub rings : w'.common.rings ≡ w.common.rings
  pub first : w'.common.first ≡ w.common.first
  pub clock : w'.clock ≡ w.clock
  pub messages : w'.messages ≡ w.messages
  pub instances : w'.instances ≡ w.instances

roster_beside : (w w' : State) → SameBesideLimits w w' → IsSameRoster (roster_of w') (roster_of w)
roster_beside w w' same = record {
  rings = rw same.rings refl;
  known = λ i. ap (known_at i) same.instances;
  up = λ i. ap (up_at i) same.instances;
  incarnation = λ i. ap (incarnation_at i) same.instances;
  first = same.first;
}

pub kept_limits : (w w' : State) (tenant : List ℕ) (limits : limit.Limits)
    → ((t : List ℕ) → limits_of t w'.common.limits ≡ (if same t tenant then limits else limits_of t w.common.limits))
    → SameBesideLimits w w' → put_out w' ≡ put_out w → fault_count w' ≡ fault_count w
    → Kept w (Limits tenant limits) w'
unfolding watch adds front_told
kept_limits w w' tenant limits set beside outputs faults =
    let roster = roster_beside w w' beside in
    let local : (t : List ℕ) (i : ℕ) → local_at t i w'.instances ≡ local_at t i w.instances =
    λ t i. ap (local_at t i) beside.instances in
    record {
      follows = λ v f. record {
        reading = λ c i. ap (bytes_at c i) beside.instances ∙ f.reading c i;
        roster = roster_then _ _ _ roster f.roster;
      };
      asked = λ v f new asked. asked_later v v w w' (later_itself v) local asked;
      outs = [];
      appended = outputs ∙ sym (append-nil (put_out w));
      tenants = λ t v p given.
          let own = limited_by (same t tenant) t w w' p limits (set t) beside.service_key beside.clock beside.messages
          roster (local t) given.stands in
          inl (record { stands = own.stands; told = λ u later. sym own.told; fits = own.fits; built = own.built });
      front = λ v f a u later. refl;
      owned = λ v f a u later. refl;
      roster = roster;
      clock = beside.clock;
      limits = set;
      service_key = beside.service_key;
      refused = λ i. ap (refused_at i) beside.instances;
      faults = faults;
    }
