-- What was decided of a connection stays decided.
use Rattle.std.proofs.Common.{IsTrue, ◌≡◌, ◌≢◌, ◌∙◌, ℕ, Bool, true, false, List, [], ◌∷◌, Option, None, Some}
use Rattle.std.proofs.Common.{is_some, option_map, refl, sym, ap, arith, if◌then◌else◌, nat_eq}
use Rattle.std.proofs.lemmas.Bool.Decides.{nat_tests}
use Rattle.std.proofs.lemmas.List.Elements.{All-weaker}
use Rattle.am_cluster.proofs.Watched.{look-shut_at}
use Rattle.am_cluster.specs.Events.{Event, Open, Bytes, Close, Limits, Tick, Outcome, Deliver, Lose}
use Rattle.am_cluster.specs.Events.{Join, Leave, Crash, Restart, Learn, Force}
use Rattle.am_cluster.specs.Moments.{is_too_late}
use Rattle.am_cluster.specs.Operations.{Operation}
use Rattle.am_cluster.specs.Roster.{Crashes, Joins, Learns, Leaves, Restarts, RingEvent, ring_event_refusal}
use Rattle.am_cluster.specs.Roster.{roster_after}
use Rattle.am_cluster.specs.View.{AskedAs, FrontAnswered, Reading, Seen, Shut, Table, Watch, closed, look, names_once}
use Rattle.am_cluster.specs.View.{noted, opens_new, shut_at, shut_by, shut_in, watch, watch_all, watch_change}
use Rattle.am_cluster.specs.View.{with_table}
use Rattle.am_world.specs.Places.{local_at}
use Rattle.am_world.specs.Simulation.{AreAsked, IsAskerOf}
use Rattle.am_world.specs.Steps.{Later}
use Rattle.am_world.specs.declared.state.State.{State}
use Rattle.am_world.proofs.AloneTold.{later_itself}

-- .. as tables tell
record LaterTable (v u : Table) : Type 0 where
  asked : (c : ℕ) (t : List ℕ) → look c v ≡ Some (AskedAs t) → look c u ≡ Some (AskedAs t)
  answered : (c : ℕ) → look c v ≡ Some FrontAnswered → look c u ≡ Some FrontAnswered

table_itself : (v : Table) → LaterTable v v
table_itself v = record { asked = λ c t e. e; answered = λ c e. e }

pub later_after : (v u x : Watch) → Later v u → Later u x → Later v x
later_after v u x a b = record {
  asked = λ c t e. b.asked c t (a.asked c t e);
  answered = λ c e. b.answered c (a.answered c e);
}

-- a new entry of a connection that was undecided changes none that was decided
entry_keeps : (b : Bool) (s new old found : Option Seen) → found ≡ (if b then new else old) → (b ≡ true → old ≡ s)
    → (x : Option Seen) → (x ≢ s) → old ≡ x → found ≡ x
entry_keeps true s new old found e undecided x not e' = absurd (not (sym e' ∙ undecided refl))
entry_keeps false s new old found e undecided x not e' = e ∙ e'

look_same : (c d : ℕ) (v : Table) → nat_eq d c ≡ true → look d v ≡ look c v
look_same c d v e = let same : d ≡ c = grind (arith, nat_tests) in ap (λ n. look n v) same

later_entry : (v : Table) (c : ℕ) (new : Seen) (s : Option Seen) → look c v ≡ s
    → ((t : List ℕ) → Some (AskedAs t) ≢ s) → Some FrontAnswered ≢ s → LaterTable v ((c, new) ∷ v)
later_entry v c new s e not_asked not_answered = record {
  asked = λ d t h.
      entry_keeps (nat_eq d c) s (Some new) (look d v) _ refl (λ b. look_same c d v b ∙ e) (Some (AskedAs t))
      (not_asked t) h;
  answered = λ d h.
      entry_keeps (nat_eq d c) s (Some new) (look d v) _ refl (λ b. look_same c d v b ∙ e) (Some FrontAnswered)
      not_answered h;
}

later_noted : (v : Table) (c : ℕ) (piece : List ℕ) (s : Option Seen) → look c v ≡ s → LaterTable v (noted c piece s v)
later_noted v c piece None e = table_itself v
later_noted v c piece (Some (Reading i before)) e = later_entry v c _ (Some (Reading i before)) e (λ t h. cc) (λ h. cc)
later_noted v c piece (Some (AskedAs tenant)) e = table_itself v
later_noted v c piece (Some FrontAnswered) e = table_itself v
later_noted v c piece (Some Shut) e = table_itself v

-- an instance that shuts what it reads
later_shut : (i : ℕ) (v : Table) → LaterTable v (shut_at i v)
later_shut i v = record {
  asked = λ c t e. look-shut_at c i v ∙ ap (option_map (shut_by i)) e;
  answered = λ c e. look-shut_at c i v ∙ ap (option_map (shut_by i)) e;
}

later_shut_in : (change : RingEvent) (v : Table) → LaterTable v (shut_in change v)
later_shut_in (Joins i) v = table_itself v
later_shut_in (Leaves i) v = later_shut i v
later_shut_in (Crashes i) v = later_shut i v
later_shut_in (Restarts i) v = table_itself v
later_shut_in (Learns i) v = table_itself v

later_change : (change : RingEvent) (v : Watch) → Later v (watch_change change v)
unfolding watch_change
later_change change v = by_refusal (is_some (ring_event_refusal change v.roster))
  where
    by_refusal : (b : Bool) → Later v (if b then v
        else record { table = shut_in change v.table; roster = roster_after change v.roster })
    by_refusal true = later_itself v
    by_refusal false =
        let later = later_shut_in change v.table in
        record { asked = later.asked; answered = later.answered }

later_closed : (v : Table) (c : ℕ) (s : Option Seen) → look c v ≡ s → LaterTable v (closed c s v)
later_closed v c None e = table_itself v
later_closed v c (Some (Reading i before)) e = later_entry v c _ (Some (Reading i before)) e (λ t h. cc) (λ h. cc)
later_closed v c (Some (AskedAs tenant)) e = table_itself v
later_closed v c (Some FrontAnswered) e = table_itself v
later_closed v c (Some Shut) e = table_itself v

by_table : (v : Watch) (table : Table) → LaterTable v.table table → Later v (with_table table v)
by_table v table later = record { asked = later.asked; answered = later.answered }

-- an event that opens no connection under a name that was used changes nothing of it
pub later_watch : (v : Watch) (e : Event) → opens_new v e → Later v (watch v e)
unfolding watch
later_watch v (Open c i) new =
    elim (v.roster.up i) as (λ b. (IsTrue b → look c v.table ≡ None)
    → Later v (if b then with_table ((c, Reading i []) ∷ v.table) v else v)) [
      | true ↦ λ unseen. by_table v _ (later_entry v.table c (Reading i []) None (unseen refl) (λ t h. cc) (λ h. cc))
      | false ↦ λ unseen. later_itself v
    ] new
later_watch v (Bytes c moment piece) new =
    elim (is_too_late moment) as (λ b. Later v (if b then v
    else with_table (noted c piece (look c v.table) v.table) v)) [
      | true ↦ later_itself v
      | false ↦ by_table v _ (later_noted v.table c piece (look c v.table) refl)
    ]
later_watch v (Close c) new = by_table v _ (later_closed v.table c (look c v.table) refl)
later_watch v (Limits tenant limits) new = later_itself v
later_watch v (Tick moment) new = later_itself v
later_watch v (Outcome attempt tries moment status) new = later_itself v
later_watch v (Deliver name moment) new = later_itself v
later_watch v (Lose name) new = later_itself v
later_watch v (Join i) new = later_change (Joins i) v
later_watch v (Leave i) new = later_change (Leaves i) v
later_watch v (Crash i) new = later_change (Crashes i) v
later_watch v (Restart i) new = later_change (Restarts i) v
later_watch v (Learn i) new = later_change (Learns i) v
later_watch v (Force tenant) new = later_itself v

pub later_all : (v : Watch) (es : List Event) → names_once v es → Later v (watch_all v es)
later_all v [] once = later_itself v
later_all v (e ∷ es) once =
    later_after v (watch v e) _ (later_watch v e once.0) (later_all (watch v e) es once.1)

-- so who waits had asked still, where who waits is as it was
pub asked_later : (v u : Watch) (w w' : State) → Later v u
    → ((t : List ℕ) (i : ℕ) → local_at t i w'.instances ≡ local_at t i w.instances) → AreAsked v w → AreAsked u w'
asked_later v u w w' later same asked t i =
    rw (same t i)
    (All-weaker (λ (o : Operation). IsAskerOf v t o.connection) (λ (o : Operation). IsAskerOf u t o.connection)
    (λ o is. later.asked o.connection t is) (local_at t i w.instances).operations (asked t i))
