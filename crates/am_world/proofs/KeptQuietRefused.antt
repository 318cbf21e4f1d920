-- A connection that isn't opened, since its instance is down, and one that isn't closed, since none reads it: this
-- changes nothing, and is nothing to any private cluster.
use Rattle.std.proofs.Common.{◌≡◌, ◌∙◌, ℕ, false, List, Option, None, Some, refl, sym, ap}
use Rattle.am_cluster.specs.Events.{Open, Close}
use Rattle.am_cluster.specs.Outputs.{front_told}
use Rattle.am_cluster.specs.View.{AskedAs, FrontAnswered, Reading, Seen, Shut, Table, Watch, adds, closed, look, watch}
use Rattle.am_cluster.specs.View.{with_table}
use Rattle.am_world.specs.Places.{bytes_at, up_at}
use Rattle.am_world.specs.Simulation.{Follows, bytes_read}
use Rattle.am_world.specs.declared.state.State.{State}
use Rattle.am_world.proofs.Beside.{Kept}
use Rattle.am_world.proofs.KeptQuiet.{kept_nothing, nothing_at_all}
use Rattle.am_world.proofs.RunPlaces.{same_number}

-- ---- a connection that no instance reads

read_itself : (i : ℕ) (before : List ℕ) → bytes_read i (Some (Reading i before)) ≡ None → ⊥
read_itself i before e =
    let never = rw (same_number i) at e in
    cc

unread_anywhere : (v : Watch) (w : State) (c : ℕ) → Follows v w → ((i : ℕ) → bytes_at c i w.instances ≡ None)
    → (i : ℕ) → bytes_read i (look c v.table) ≡ None
unread_anywhere v w c f unread i = sym (f.reading c i) ∙ unread i

closed_unread : (s : Option Seen) (c : ℕ) (v : Table) → ((i : ℕ) → bytes_read i s ≡ None) → closed c s v ≡ v
closed_unread None c v unread = refl
closed_unread (Some (Reading i before)) c v unread = absurd (read_itself i before (unread i))
closed_unread (Some (AskedAs tenant)) c v unread = refl
closed_unread (Some FrontAnswered) c v unread = refl
closed_unread (Some Shut) c v unread = refl

pub kept_unread_close : (w : State) (c : ℕ) → ((i : ℕ) → bytes_at c i w.instances ≡ None) → Kept w (Close c) w
unfolding watch adds front_told
kept_unread_close w c unread =
    kept_nothing w (Close c)
    (λ v f.
    ap (λ table. with_table table v) (closed_unread (look c v.table) c v.table (unread_anywhere v w c f unread)))
    (λ t v p given. nothing_at_all p) (λ v f. refl) refl (λ t limits. refl)

-- ---- an instance that is down

pub kept_not_up : (w : State) (c i : ℕ) → up_at i w.instances ≡ false → Kept w (Open c i) w
unfolding watch adds front_told
kept_not_up w c i down =
    kept_nothing w (Open c i) (λ v f. rw (sym (f.roster.up i) ∙ down) refl) (λ t v p given. nothing_at_all p)
    (λ v f. refl) refl (λ t limits. refl)
