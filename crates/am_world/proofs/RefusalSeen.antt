-- In a world of which what is known is so, an event is refused as it says; and what a world refuses a tenant, its
-- cluster refuses.
use Rattle.std.proofs.Common.{◌≡◌, ◌∙◌, inl, inr, ℕ, ◌==◌, List, true, false, is_some, IsSome}
use Rattle.std.proofs.Common.{find, Option, None, Some, option_map, refl, sym, ap, if◌then◌else◌}
use Rattle.std.proofs.lemmas.Bool.{cases_Bool}
use Rattle.am_cluster.specs.Courses.{awaits, posted_in, refusal_of, refused_unless}
use Rattle.am_cluster.proofs.Watched.{refused_same}
use Rattle.am_cluster.specs.Events.{AttemptName, Event, Open, Bytes, Close, Limits, Tick, Outcome, Deliver, Lose}
use Rattle.am_cluster.specs.Events.{Join, Leave, Crash, Restart, Learn, Force}
use Rattle.am_cluster.specs.Happening.{Delivered, Lost, Tried}
use Rattle.am_cluster.specs.Moments.{is_too_late}
use Rattle.am_cluster.specs.PrivateCluster.{PrivateCluster}
use Rattle.am_cluster.specs.Refused.{MomentRefused, NotAwaited, NotSent}
use Rattle.am_cluster.specs.Roster.{Crashes, Joins, Learns, Leaves, Restarts}
use Rattle.am_cluster.specs.Sent.{Sent, is_lost, is_named, posted, unlost}
use Rattle.am_cluster.specs.View.{AskedAs, FrontAnswered, Reading, Seen, Shut, Watch, look}
use Rattle.am_messages.specs.Posted.{posted_at}
use Rattle.am_messages.specs.declared.name.MessageName.{MessageName}
use Rattle.am_instance.specs.Instance.{bytes_in, reads}
use Rattle.am_instance.specs.declared.instance.Instance.{Instance}
use Rattle.am_world.specs.Consistent.{IsConsistent}
use Rattle.am_world.specs.Places.{AreNumbered, awaits_at, bytes_at, bytes_where, instance_at, reader_of}
use Rattle.am_world.specs.Posting.{unlost_sent}
use Rattle.am_world.specs.Refusal.{StandsFor, is_read, refusal, refusal_seen}
use Rattle.am_world.specs.Simulation.{Follows, Stands, bytes_read, roster_of}
use Rattle.am_world.specs.declared.state.State.{State}
use Rattle.am_world.proofs.RunPlaces.{found_at, passed_over, passes, same_number}

-- ---- who reads a connection

bytes_none : (o : Option (List ℕ)) → is_some o ≡ false → o ≡ None
bytes_none None e = refl
bytes_none (Some bytes) e = absurd cc

unread_where : (c : ℕ) (o : Option Instance) → ((x : Instance) → o ≡ Some x → reads c x ≡ false)
    → bytes_where c o ≡ None
unread_where c None over = refl
unread_where c (Some x) over = bytes_none (bytes_in c x) (over x refl)

-- where no instance is found that reads a connection, none does
pub nobody_reads : (c : ℕ) (xs : List Instance) → find (reads c) xs ≡ None → (i : ℕ) → bytes_at c i xs ≡ None
unfolding bytes_at instance_at
nobody_reads c xs none i =
    unread_where c (find (λ (x : Instance). x.number == i) xs)
    (λ x found. passed_over (reads c) (λ (z : Instance). z.number == i) xs x none found)

-- the one that is found reads it
pub reader_reads : (c : ℕ) (xs : List Instance) (x : Instance) → AreNumbered xs → find (reads c) xs ≡ Some x
    → IsSome (bytes_at c x.number xs)
unfolding bytes_at
reader_reads c xs x e found = rw (found_at (reads c) xs x e found) (passes (reads c) xs x found)

none_read : (s : Option Seen) → ((i : ℕ) → None ≡ bytes_read i s) → is_read s ≡ false
none_read None unread = refl
none_read (Some (Reading i bytes)) unread = let never = rw (same_number i) at (unread i) in absurd cc
none_read (Some (AskedAs tenant)) unread = refl
none_read (Some FrontAnswered) unread = refl
none_read (Some Shut) unread = refl

some_read : (s : Option Seen) (i : ℕ) → IsSome (bytes_read i s) → is_read s ≡ true
some_read None i read = absurd cc
some_read (Some (Reading j bytes)) i read = refl
some_read (Some (AskedAs tenant)) i read = absurd cc
some_read (Some FrontAnswered) i read = absurd cc
some_read (Some Shut) i read = absurd cc

read_where : (v : Watch) (w : State) (c : ℕ) (o : Option Instance) → find (reads c) w.instances ≡ o
    → AreNumbered w.instances → Follows v w
    → is_some (option_map (λ (x : Instance). x.number) o) ≡ is_read (look c v.table)
read_where v w c None found numbered f =
    sym (none_read (look c v.table) (λ i. sym (nobody_reads c w.instances found i) ∙ f.reading c i))
read_where v w c (Some x) found numbered f =
    sym (some_read (look c v.table) x.number
    (rw (f.reading c x.number) at (reader_reads c w.instances x numbered found)))

-- ---- what a tenant's cluster refuses

-- what the world awaits of a tenant, its cluster awaits
pub awaits_same : (w : State) (attempt : AttemptName) (tries : ℕ) (p : PrivateCluster) → Stands attempt.tenant w p
    → awaits_at attempt tries w.instances
    ≡ awaits p attempt.instance attempt.incarnation attempt.number tries
unfolding awaits_at
awaits_same w attempt tries p s =
    rw (s.roster.up attempt.instance, s.roster.incarnation attempt.instance, s.local attempt.instance) refl

sent_same : (clock : ℕ) (o : Option Sent) → is_some (unlost_sent clock o) ≡ is_some (unlost clock o)
sent_same clock None = refl
sent_same clock (Some sent) = elim (cases_Bool (is_lost clock sent)) [
  | inl lost ↦ rw lost refl
  | inr there ↦ rw there refl
]

-- what is there of a tenant, is there of its cluster
pub posted_same : (w : State) (name : MessageName) (p : PrivateCluster) → Stands name.tenant w p
    → is_some (posted_at name w.messages) ≡ is_some (posted_in p name.from name.incarnation name.to name.count)
unfolding posted
posted_same w name p s =
    ap is_some (s.posted name.from name.incarnation name.to name.count)
    ∙ sent_same p.clock (find (is_named name.from name.incarnation name.to name.count) p.sent)

pub outcome_same : (w : State) (a : AttemptName) (tries moment : ℕ) (status : Option ℕ) (p : PrivateCluster)
    → Stands a.tenant w p
    → refusal w (Outcome a tries moment status)
    ≡ refusal_of p (Tried a.instance a.incarnation a.number tries moment status)
unfolding refusal_of
outcome_same w a tries moment status p s =
    ap (λ b. if is_too_late moment then Some MomentRefused else refused_unless b NotAwaited) (awaits_same w a tries p s)

pub deliver_same : (w : State) (name : MessageName) (moment : ℕ) (p : PrivateCluster) → Stands name.tenant w p
    → refusal w (Deliver name moment)
    ≡ refusal_of p (Delivered name.from name.incarnation name.to name.count moment)
unfolding refusal_of
deliver_same w name moment p s =
    ap (λ b. if is_too_late moment then Some MomentRefused else refused_unless b NotSent) (posted_same w name p s)

pub lose_same : (w : State) (name : MessageName) (p : PrivateCluster) → Stands name.tenant w p
    → refusal w (Lose name) ≡ refusal_of p (Lost name.from name.incarnation name.to name.count)
unfolding refusal_of
lose_same w name p s = ap (λ b. refused_unless b NotSent) (posted_same w name p s)

-- ---- an event

pub refusal_follows : (v : Watch) (w : State) (alone : List ℕ → PrivateCluster) (e : Event) → IsConsistent w
    → Follows v w → StandsFor e w alone → refusal w e ≡ refusal_seen v w.clock alone e
unfolding reader_of
refusal_follows v w alone (Open c i) whole f s = rw (f.roster.up i) refl
refusal_follows v w alone (Bytes c moment piece) whole f s =
    rw (read_where v w c (find (reads c) w.instances) refl whole.numbered f) refl
refusal_follows v w alone (Close c) whole f s =
    rw (read_where v w c (find (reads c) w.instances) refl whole.numbered f) refl
refusal_follows v w alone (Limits tenant limits) whole f s = refl
refusal_follows v w alone (Tick moment) whole f s = refl
refusal_follows v w alone (Outcome a tries moment status) whole f s =
    outcome_same w a tries moment status (alone a.tenant) s
refusal_follows v w alone (Deliver name moment) whole f s =
    deliver_same w name moment (alone name.tenant) s
refusal_follows v w alone (Lose name) whole f s = lose_same w name (alone name.tenant) s
refusal_follows v w alone (Join i) whole f s = refused_same (Joins i) (roster_of w) v.roster f.roster
refusal_follows v w alone (Leave i) whole f s = refused_same (Leaves i) (roster_of w) v.roster f.roster
refusal_follows v w alone (Crash i) whole f s = refused_same (Crashes i) (roster_of w) v.roster f.roster
refusal_follows v w alone (Restart i) whole f s = refused_same (Restarts i) (roster_of w) v.roster f.roster
refusal_follows v w alone (Learn i) whole f s = refused_same (Learns i) (roster_of w) v.roster f.roster
refusal_follows v w alone (Force tenant) whole f s = refl
