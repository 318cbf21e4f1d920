-- A tick of an instance, of all tenants.
use Rattle.std.specs.Prelude.{◌≡◌, ℕ, Bool, true, false, ◌++◌, List, Some, map, filter}
use Rattle.std.specs.List.{list_any}
use Rattle.am_book.specs.Retired.{is_key_retired}
use Rattle.am_cluster.specs.Events.{Output}
use Rattle.am_cluster.specs.Local.{Local}
use Rattle.am_cluster.specs.PrivateCluster.{output_of}
use Rattle.am_cluster.specs.Reactions.{Reaction, Said, each}
use Rattle.am_cluster.specs.Retiring.{retired}
use Rattle.am_cluster.specs.Ticking.{due_keys, handled, ticked}
use Rattle.am_current.specs.Current.{configuration_in}
use Rattle.am_item.specs.Key.{SilenceKey}
use Rattle.am_item.specs.declared.fault.Fault.{Fault}
use Rattle.am_item.specs.declared.fault.Fault.TheVariants.{OutOfMemory, CountsExhausted, PatternNotBuilt, StoreRefused}
use Rattle.am_labels.specs.declared.Label.{Label}
use Rattle.am_muting.specs.Failing.{HasUnanswered, patterns_muting}
use Rattle.am_node.specs.Ticks.{is_flush, keys_for, muted_for}
use Rattle.am_tenant.specs.Names.{same}
use Rattle.am_timer.specs.Timer.{Timer}
use Rattle.am_instance.specs.declared.instance.Instance.{Instance}
use Rattle.am_instance.specs.Here.{Circumstances, here_on}
use Rattle.am_instance.specs.Instance.{IsDown, ReadsAlike, local_in, refused_in}

-- the first of two facts where a test passes, else the second
abbrev pub Either : Bool → Type 0 → Type 0 → Type 0
Either true P Q = P
Either false P Q = Q

-- of what is said of tenants, what is said of one
unfoldable pub said_of : List ℕ → List (List ℕ × Said) → List Said
said_of t all = map (λ e. e.1) (filter (λ e. same t e.0) all)

-- .. as outputs
abbrev pub outputs_of_all : Instance → List (List ℕ × Said) → List Output
outputs_of_all x all = map (λ e. output_of e.0 x.number x.incarnation e.1) all

-- what came of a reaction: what the tenant has afterwards, what was said, and no count passes the greatest
pub record IsDone (reaction : Reaction) (after : Local) (said : List Said) : Type 0 where
  pub local : after ≡ reaction.local
  pub says : said ≡ reaction.said
  pub fits : reaction.fits ≡ true

-- each tenant has what its own tick makes of what it had, and that is said of it, in order
pub record TicksAll (around : Circumstances) (x x' : Instance) (before after : List Output) : Type 0 where
  pub all : List (List ℕ × Said)
  pub outputs : after ≡ before ++ outputs_of_all x all
  pub does : (t : List ℕ) → IsDone (ticked (here_on around x t) (local_in t x)) (local_in t x') (said_of t all)
  pub refused : refused_in x' ≡ refused_in x

-- ---- what is done for timers

-- what is done for a tenant where these are due and this is muted
unfoldable pub done_on : Circumstances → Instance → List (List ℕ × List (List Label)) → (due : List Timer)
    → (t : List ℕ) → Local → Reaction
done_on around x muted due t local =
    each (handled (here_on around x t) (muted_for t muted)) (keys_for t due) local

-- each tenant has what that makes of what it had, and that is said of it, in order
pub record HandlesAll (around : Circumstances) (muted : List (List ℕ × List (List Label))) (due : List Timer)
    (x x' : Instance) (told : List Output) : Type 0 where
  pub all : List (List ℕ × Said)
  pub outputs : told ≡ outputs_of_all x all
  pub does : (t : List ℕ) → IsDone (done_on around x muted due t (local_in t x)) (local_in t x') (said_of t all)

-- why it stops where this is done: a count of a tenant would have passed the greatest, or a message the greatest
-- length; or memory ran out
abbrev pub StopsHandling : Circumstances → List (List ℕ × List (List Label)) → (due : List Timer) → Instance → Fault
    → Type 0
StopsHandling around muted due x OutOfMemory = Unit {0}
StopsHandling around muted due x CountsExhausted =
    (t : List ℕ) × ((done_on around x muted due t (local_in t x)).fits ≡ false)
StopsHandling around muted due x PatternNotBuilt = ⊥
StopsHandling around muted due x StoreRefused = ⊥

-- ---- why a tick stops

-- the flush of a group of the tenant is due, where this is had of it
abbrev pub has_flush_due : Circumstances → Instance → (t : List ℕ) → Local → Bool
has_flush_due around x t local = list_any is_flush (due_keys (here_on around x t) local)

-- why it stops: a count of a tenant would have passed the greatest, or a message the greatest length; a pattern that
-- may mute alerts of a tenant that has a group to flush gave no answer; the store refused to drop a silence that
-- retires; or memory ran out
abbrev pub StopsTicking : Circumstances → Instance → (refused : List (List ℕ)) → Fault → Type 0
StopsTicking around x refused OutOfMemory = Unit {0}
StopsTicking around x refused CountsExhausted =
    (t : List ℕ) × ((ticked (here_on around x t) (local_in t x)).fits ≡ false)
StopsTicking around x refused PatternNotBuilt =
    (t : List ℕ) × (has_flush_due around x t (retired around.moment (local_in t x)) ≡ true)
    × HasUnanswered refused (patterns_muting (configuration_in (retired around.moment (local_in t x)).held)
    around.moment (retired around.moment (local_in t x)).held)
StopsTicking around x refused StoreRefused =
    (t : List ℕ) × (id : List ℕ) × (is_key_retired around.moment (local_in t x).held (SilenceKey id) ≡ true)

-- it ticked, where it is up; one that is down did nothing
pub record Ticks (around : Circumstances) (x x' : Instance) (before after : List Output) : Type 0 where
  pub ticks : x.up ≡ true → TicksAll around x x' before after
  pub front : ReadsAlike x x'
  pub refused : refused_in x' ≡ refused_in x
  pub up : x'.up ≡ x.up
  pub idle : x.up ≡ false → x' ≡ x
  pub quiet : x.up ≡ false → after ≡ before

-- a fault stopped it, for a cause in what it had of all tenants, and it put nothing out
pub record Stops (around : Circumstances) (x x' : Instance) (before after : List Output) : Type 0 where
  pub worked : x.up ≡ true
  pub down : IsDown x'
  pub fault : Fault
  pub told : x'.cause ≡ Some fault
  pub cause : StopsTicking around x (refused_in x') fault
  pub silent : after ≡ before
