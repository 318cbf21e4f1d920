-- A world that forgets what it put out stays consistent and backed.
use Rattle.std.proofs.Common.{◌∙◌, ◌≤◌, List, ap, subst, sym}
use Rattle.am_cluster.specs.Moments.{last_moment}
use Rattle.am_instance.specs.Shelves.{Shelf}
use Rattle.am_world.specs.Consistent.{IsConsistent, around_at}
use Rattle.am_world.specs.Places.{instance_at}
use Rattle.am_world.specs.Runs.{Forgets}
use Rattle.am_world.specs.Shelves.{AreBacked}
use Rattle.am_world.specs.declared.common.Common.{Common}
use Rattle.am_world.specs.declared.state.State.{State}
use Rattle.am_world.proofs.Turned.{whole_at}

pub consistent_forgotten : (w w' : State) → Forgets w w' → IsConsistent w → IsConsistent w'
consistent_forgotten w w' forgets was = record {
  clock = subst (λ n. n ≤ last_moment) (sym forgets.beside.clock) was.clock;
  numbered = rw forgets.instances was.numbered;
  whole = λ i x there.
      whole_at (around_at w.clock w) (around_at w'.clock w') x
      (ap (λ (c : Common). c.rings.items) forgets.beside.common) (ap (λ (c : Common). c.first) forgets.beside.common)
      (was.whole i x (sym (ap (instance_at i) forgets.instances) ∙ there));
  quiet = rw forgets.instances was.quiet;
  ring = rw forgets.beside.common was.ring;
  members = rw (forgets.instances, forgets.beside.common) was.members;
  filed = rw forgets.messages was.filed;
  past = rw (forgets.messages, forgets.instances) was.past;
  fresh = rw (forgets.messages, forgets.instances) was.fresh;
}

pub backed_forgotten : (w w' : State) (shelves : List Shelf) → Forgets w w' → AreBacked w.instances shelves
    → AreBacked w'.instances shelves
backed_forgotten w w' shelves forgets = subst (λ xs. AreBacked xs shelves) (sym forgets.instances)
