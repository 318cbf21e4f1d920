-- Whole runs from an opening on: no output stands before the run, and no operation is open.
use Rattle.std.proofs.Common.{◌≡◌, ◌∙◌, ℕ, true, List, [], ◌++◌, Contains, Option, None, Some, is_some, inl, inr, refl}
use Rattle.std.proofs.Common.{sym, ap}
use Rattle.std.proofs.lemmas.List.Elements.{Contains-append_cases}
use Rattle.std.specs.Prelude.{drop, length}
use Rattle.am_cluster.proofs.Newest.{in_order_first}
use Rattle.am_cluster.specs.Events.{Event, Output}
use Rattle.am_setup.specs.Setup.{Origin}
use Rattle.am_cluster.specs.Outputs.{are_owned, front_outputs, outputs_of}
use Rattle.am_cluster.specs.Patterns.{patterns_open}
use Rattle.am_cluster.specs.PrivateCluster.{opened}
use Rattle.am_cluster.specs.Roster.{AreInstancesUp}
use Rattle.am_cluster.specs.View.{Watch, first_watch, names_once, view, watch_all}
use Rattle.am_item.specs.declared.item.Item.{Item}
use Rattle.am_instance.specs.declared.instance.Instance.{Instance}
use Rattle.am_world.specs.Changes.{AreOpenedClean}
use Rattle.am_world.specs.Consistent.{Contents}
use Rattle.am_world.specs.Opening.{Opens}
use Rattle.am_world.specs.Places.{AreNumbered, instance_at, up_at, up_where}
use Rattle.am_world.specs.Runs.{Alone, Headline, Run, patterns_asked}
use Rattle.am_world.specs.Simulation.{fault_count, put_out, refused_by, roster_of}
use Rattle.am_world.specs.declared.state.State.{State}
use Rattle.am_world.proofs.Built.{built_among}
use Rattle.am_world.proofs.Rosters.{IsSound}
use Rattle.am_world.proofs.Run.{watched}
use Rattle.am_world.proofs.RunPatterns.{none_open}
use Rattle.am_world.proofs.RunPlaces.{found_one}
use Rattle.am_world.proofs.AloneTold.{later_itself}

-- ---- who is up is an instance

up_found : (o : Option Instance) → up_where o ≡ true → is_some o ≡ true
up_found None up = up
up_found (Some x) up = refl

pub instances_up : (w : State) → AreNumbered w.instances → AreInstancesUp (roster_of w)
unfolding up_at
instances_up w numbered i up = found_one i w.instances numbered (up_found (instance_at i w.instances) up)

-- ---- from the opening on

pub asked_alone : (origin : Origin) (t : List ℕ) (rows : ℕ → List Item) (texts : List (List ℕ))
    → (text : List ℕ) → Contains (patterns_open (opened origin t rows) ++ texts) text → Contains texts text
asked_alone origin t rows texts text here =
    elim (Contains-append_cases (patterns_open (opened origin t rows)) texts text here) [
      | inl open_one ↦ absurd (none_open origin t rows text open_one)
      | inr asked ↦ asked
    ]

from_none : (before outs : List Output) → before ≡ [] → drop (length before) outs ≡ outs
from_none before outs empty = rw empty refl

same_outputs : (before outs all : List Output) → before ≡ [] → all ≡ before ++ outs → outs ≡ all
same_outputs before outs all empty is = ap (λ os. os ++ outs) (sym empty) ∙ sym is

-- the rings and instances of a world as it is opened
pub sound_opened : (origin : Origin) (rows : List ℕ → ℕ → List Item) (c : Contents) → Opens origin rows c
    → IsSound (roster_of c.state)
sound_opened origin rows c opens = record {
  up = opens.up;
  ordered = rw opens.follows.roster.rings (in_order_first origin);
}

pub alone_opening : (origin : Origin) (rows : List ℕ → ℕ → List Item) (c : Contents) (es : List Event) (c' : Contents)
    → Opens origin rows c → Run c es c' → Headline c es c' → fault_count c'.state ≡ 0
    → AreOpenedClean (roster_of c.state) es c'.shelves → names_once (first_watch origin) es
    → Alone origin rows es (refused_by c'.state) (put_out c'.state)
alone_opening origin rows c es c' opens run headline none clean once =
    let v : Watch = first_watch origin in
    let here = later_itself (watch_all v es) in
    let s = watched c es c' v run none clean opens.follows opens.asked once in
    let all : s.0 ≡ put_out c'.state = same_outputs (put_out c.state) s.0 (put_out c'.state) opens.outputs s.1 in
    record {
      tenants = λ t built.
          ap (outputs_of t (watch_all v es)) (sym (from_none (put_out c.state) (put_out c'.state) opens.outputs))
          ∙ (headline none clean t v (opened origin t (rows t)) (record {
            follows = opens.follows;
            asked = opens.asked;
            stands = opens.stands t;
            once = once;
            built = built_among (refused_by c'.state) _ _
                (asked_alone origin t (rows t) (patterns_asked (view t v es))) built;
          })).told;
      front = sym (ap (front_outputs (watch_all v es)) all) ∙ s.2.front (watch_all v es) here;
      owned = sym (ap (are_owned (watch_all v es)) all) ∙ s.2.owned (watch_all v es) here;
    }
