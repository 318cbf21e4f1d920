-- A tick of all tenants: what each has afterwards and what is said of it are those of its own tick.
use Rattle.std.specs.Prelude.{◌≡◌, ℕ, Bool, true, false, ◌&&◌, List, [], filter, map, IfSome, is_some, unwrap_or}
use Rattle.std.specs.List.{list_any}
use Rattle.std.specs.Map.{lookup}
use Rattle.am_notifier.specs.Planned.{Plan}
use Rattle.am_book.specs.Retired.{is_key_retired}
use Rattle.am_current.specs.Current.{configuration_in}
use Rattle.am_item.specs.declared.fault.Fault.{Fault}
use Rattle.am_item.specs.declared.fault.Fault.TheVariants.{OutOfMemory, CountsExhausted, PatternNotBuilt, StoreRefused}
use Rattle.am_item.specs.Key.{SilenceKey}
use Rattle.am_item.specs.declared.item.Item.{Item}
use Rattle.am_labels.specs.declared.Label.{Label}
use Rattle.am_limit.specs.Books.{Book, limits_of}
use Rattle.am_muting.specs.Failing.{HasUnanswered, patterns_muting}
use Rattle.am_muting.specs.Muting.{muted_sets}
use Rattle.am_tenant.specs.Names.{same}
use Rattle.am_timer.specs.Timer.{Key, Timer}
use Rattle.am_timer.specs.declared.key.TimerKey.TheVariants.{Operation, Group, Retry, Push}
use Rattle.am_node.specs.declared.dispatch.Dispatch.{Dispatch}
use Rattle.am_context.specs.declared.context.Context.{Context}
use Rattle.am_node.specs.Local.{Local, Reaction, Said, each, said_in}
use Rattle.am_node.specs.Retiring.{retired}
use Rattle.am_node.specs.Ticking.{done_by, due_keys, handled, ticked}

-- what an instance goes by at a moment, for each tenant, by the limits of all
abbrev pub context_for : (instance incarnation moment : ℕ) → Book → List ℕ → Context
context_for instance incarnation moment limits t =
    record { instance = instance; incarnation = incarnation; moment = moment; limits = limits_of t limits }

-- what is said of a tenant, in order
unfoldable pub said_of : List ℕ → List Dispatch → List Said
said_of t all = map (λ d. said_in d.report) (filter (λ d. same t d.tenant) all)

-- ---- the tick

-- each tenant has what its own tick makes of what it had, that is said of it in order, and no count of it passes the
-- greatest
pub record IsTicked (context : Context) (t : List ℕ) (before after : Local) (says : List Said) : Type 0 where
  pub local : after ≡ (ticked t context before).local
  pub said : says ≡ (ticked t context before).said
  pub fits : (ticked t context before).fits ≡ true

abbrev pub TicksAll : (List ℕ → Context) → (before after : List ℕ → Local) → List Dispatch → Type 0
TicksAll context before after all = (t : List ℕ) → IsTicked (context t) t (before t) (after t) (said_of t all)

-- the key is that of a group's flush
abbrev pub is_flush : Key → Bool
is_flush (Operation number) = false
is_flush (Group key) = true
is_flush (Retry number) = false
is_flush (Push instance) = false

-- the flush of a group of the tenant is due
abbrev pub has_flush : List ℕ → ℕ → Plan → Bool
has_flush t moment plan = list_any is_flush (due_keys t moment plan)

-- a pattern that may mute alerts of a tenant, one of those that have a group to flush, gave no answer
abbrev pub HasUnmuted : (refused : List (List ℕ)) → ℕ → (flushes : List ℕ → Bool) → (held : List ℕ → List Item) → Type 0
HasUnmuted refused moment flushes held =
    (t : List ℕ) × (flushes t ≡ true) × HasUnanswered refused
    (patterns_muting (configuration_in (held t)) moment (held t))

-- why it stops at a tick: a count of a tenant would have passed the greatest, a pattern that may mute alerts of one
-- that has a
-- group to flush gave no answer, the store refused to drop a silence that retires, or memory ran out
abbrev pub StopsTicking : (List ℕ → Context) → (before : List ℕ → Local) → (refused : List (List ℕ)) → Fault → Type 0
StopsTicking context before refused OutOfMemory = Unit {0}
StopsTicking context before refused CountsExhausted = (t : List ℕ) × ((ticked t (context t) (before t)).fits ≡ false)
StopsTicking context before refused PatternNotBuilt =
    (t : List ℕ) × (has_flush t (context t).moment (retired (context t).moment (before t)).plan ≡ true)
    × HasUnanswered refused (patterns_muting (configuration_in (retired (context t).moment (before t)).held)
    (context t).moment (retired (context t).moment (before t)).held)
StopsTicking context before refused StoreRefused =
    (t : List ℕ) × (id : List ℕ) × (is_key_retired (context t).moment (before t).held (SilenceKey id) ≡ true)

-- ---- what is due

-- what came of a reaction: what the tenant has afterwards, what was said, and no count passes the greatest
pub record IsDone (reaction : Reaction) (after : Local) (says : List Said) : Type 0 where
  pub local : after ≡ reaction.local
  pub said : says ≡ reaction.said
  pub fits : reaction.fits ≡ true

abbrev pub DoesDue : (List ℕ → Context) → (before after : List ℕ → Local) → List Dispatch → Type 0
DoesDue context before after all = (t : List ℕ) → IsDone (done_by t (context t) (before t)) (after t) (said_of t all)

abbrev pub StopsDoing : (List ℕ → Context) → (before : List ℕ → Local) → (refused : List (List ℕ)) → Fault → Type 0
StopsDoing context before refused OutOfMemory = Unit {0}
StopsDoing context before refused CountsExhausted = (t : List ℕ) × ((done_by t (context t) (before t)).fits ≡ false)
StopsDoing context before refused PatternNotBuilt =
    (t : List ℕ) × (has_flush t (context t).moment (before t).plan ≡ true)
    × HasUnanswered refused (patterns_muting (configuration_in (before t).held) (context t).moment (before t).held)
StopsDoing context before refused StoreRefused = ⊥

-- ---- its timers

-- the keys of a tenant's timers among those of all, in order
unfoldable pub keys_for : List ℕ → List Timer → List Key
keys_for t timers = map (λ x. x.name.key) (filter (λ x. same t x.name.tenant) timers)

-- what is muted of a tenant, where that is known
unfoldable pub muted_for : List ℕ → List (List ℕ × List (List Label)) → List (List Label)
muted_for t muted = unwrap_or (lookup (λ s. same t s) muted) []

-- what is done for a tenant where these timers are due
unfoldable pub done_for : (List ℕ → Context) → List (List ℕ × List (List Label)) → List ℕ → List Timer → Local
    → Reaction
done_for context muted t due local = each (handled (context t) (muted_for t muted)) (keys_for t due) local

abbrev pub AreHandled : (List ℕ → Context) → List (List ℕ × List (List Label)) → List Timer
    → (before after : List ℕ → Local) → List Dispatch → Type 0
AreHandled context muted due before after all =
    (t : List ℕ) → IsDone (done_for context muted t due (before t)) (after t) (said_of t all)

abbrev pub StopsHandling : (List ℕ → Context) → List (List ℕ × List (List Label)) → List Timer
    → (before : List ℕ → Local) → Fault → Type 0
StopsHandling context muted due before OutOfMemory = Unit {0}
StopsHandling context muted due before CountsExhausted =
    (t : List ℕ) × ((done_for context muted t due (before t)).fits ≡ false)
StopsHandling context muted due before PatternNotBuilt = ⊥
StopsHandling context muted due before StoreRefused = ⊥

-- ---- what is muted

-- a timer is the flush of a group of a tenant
abbrev pub is_flush_of : List ℕ → Timer → Bool
is_flush_of t x = same t x.name.tenant && is_flush x.name.key

-- one of the timers is the flush of a group of a tenant
unfoldable pub some_flush : List ℕ → List Timer → Bool
some_flush t due = list_any (is_flush_of t) due

-- what is muted at a moment where these items are held
abbrev pub muted_at : ℕ → List Item → List (List Label)
muted_at moment held = muted_sets (configuration_in held) moment held

-- it is known of the tenant
abbrev pub has_muted : List ℕ → List (List ℕ × List (List Label)) → Bool
has_muted t muted = is_some (lookup (λ s. same t s) muted)

-- what is known is right
abbrev pub AreMuted : ℕ → (List ℕ → List Item) → List (List ℕ × List (List Label)) → Type 0
AreMuted moment held muted =
    (t : List ℕ) → IfSome (lookup (λ s. same t s) muted) (λ sets. sets ≡ muted_at moment (held t))

abbrev pub StopsMuting : (refused : List (List ℕ)) → ℕ → (flushes : List ℕ → Bool) → (held : List ℕ → List Item) → Fault
    → Type 0
StopsMuting refused moment flushes held OutOfMemory = Unit {0}
StopsMuting refused moment flushes held CountsExhausted = ⊥
StopsMuting refused moment flushes held PatternNotBuilt = HasUnmuted refused moment flushes held
StopsMuting refused moment flushes held StoreRefused = ⊥
