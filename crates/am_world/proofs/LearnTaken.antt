-- What an instance that learned a ring or came up, or didn't, leaves in its store.
use Rattle.std.proofs.Common.{◌≡◌, ◌∙◌, inr, ℕ, true, List, Option, None, Some, sym, ap, subst}
use Rattle.std.proofs.lemmas.Bool.{true≢false}
use Rattle.am_item.specs.declared.fault.Fault.{Fault}
use Rattle.am_item.specs.declared.fault.Fault.TheVariants.{OutOfMemory}
use Rattle.am_item.specs.declared.item.Item.{Item}
use Rattle.am_instance.proofs.Leaves.{memory_unrefused}
use Rattle.am_instance.specs.Changing.{rows_held, rows_learned}
use Rattle.am_instance.specs.Here.{Circumstances}
use Rattle.am_instance.specs.Leaving.{LeavesEachShelf, LeavesOwn, stop_for}
use Rattle.am_instance.specs.Shelves.{IsBacked, Shelf}
use Rattle.am_instance.specs.declared.instance.Instance.{Instance}
use Rattle.am_world.specs.Leaving.{stop_at}
use Rattle.am_world.specs.Places.{At, instance_at}
use Rattle.am_world.specs.Turning.{IsStopped}
use Rattle.am_world.specs.declared.state.State.{State}
use Rattle.am_world.proofs.AlonePlaces.{up_here}
use Rattle.am_world.proofs.Shelved.{stop_down, stop_here}

-- memory ran out once all rows that go were dropped
pub left_then_memory : (before kept : List ℕ → List Item) (old new : Shelf) → LeavesEachShelf before kept None old new
    → LeavesEachShelf before kept (Some OutOfMemory) old new
left_then_memory before kept old new left clean =
    let all = left clean in
    record { rows = λ t still. inr (all.rows t); cause = λ is. absurd (memory_unrefused is) }

-- it was stopped for this
pub stop_told : (i : ℕ) (fault : Fault) (mid w' : State) (z : Instance) → IsStopped i fault mid w'
    → instance_at i w'.instances ≡ Some z → stop_at i w'.instances ≡ Some fault
stop_told i fault mid w' z stopped there =
    stop_down i w'.instances (up_here i w'.instances z there ∙ (stopped.down z there).up) ∙ stopped.cause

-- .. and its store need have nothing
pub backed_stop : (i : ℕ) (fault : Fault) (mid w' : State) (shelf : Shelf) → IsStopped i fault mid w'
    → At i (λ x. IsBacked x shelf) w'.instances
backed_stop i fault mid w' shelf stopped z there =
    let down = (stopped.down z there).up in
    record {
      opens = λ up. absurd (true≢false (sym up ∙ down));
      stores = λ up. absurd (true≢false (sym up ∙ down));
    }

-- it is up
pub stop_none : (i : ℕ) (xs : List Instance) (x : Instance) → instance_at i xs ≡ Some x → x.up ≡ true
    → stop_at i xs ≡ None
stop_none i xs x there up = stop_here i xs x there ∙ ap (λ b. stop_for b x.cause) up

-- .. as a world says it
pub left_learned : (i : ℕ) (xs : List Instance) (fault : Option Fault) (a b : Circumstances) (x : Instance)
    (old new : Shelf) → a ≡ b → stop_at i xs ≡ fault
    → LeavesEachShelf (rows_held x) (rows_learned a x) fault old new
    → LeavesEachShelf (rows_held x) (rows_learned b x) (stop_at i xs) old new
left_learned i xs fault a b x old new same is left =
    subst (λ o. LeavesEachShelf (rows_held x) (rows_learned b x) o old new) (sym is)
    (subst (λ (c : Circumstances). LeavesEachShelf (rows_held x) (rows_learned c x) fault old new) same left)

-- ---- it came up, or didn't

-- memory ran out once it had opened its store
pub opened_then_memory : (ring : List ℕ) (i : ℕ) (old new : Shelf) → LeavesOwn ring i None old new
    → LeavesOwn ring i (Some OutOfMemory) old new
opened_then_memory ring i old new left clean t = λ still. inr (left clean t)

-- .. as a world says it
pub left_opened : (i : ℕ) (xs : List Instance) (fault : Option Fault) (one other : List ℕ) (old new : Shelf)
    → one ≡ other → stop_at i xs ≡ fault → LeavesOwn one i fault old new → LeavesOwn other i (stop_at i xs) old new
left_opened i xs fault one other old new same is left =
    subst (λ o. LeavesOwn other i o old new) (sym is) (subst (λ ring. LeavesOwn ring i fault old new) same left)
