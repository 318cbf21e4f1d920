-- The tick of an instance of several, of all tenants.
use Rattle.std.proofs.Common.{◌≡◌, ◌∙◌, ◌<◌, ℕ, length, Bool, true, false, List, ◌++◌, map, Some, refl, sym}
use Rattle.std.proofs.Common.{ap, subst}
use Rattle.std.specs.List.{list_any}
use Rattle.am_cluster.specs.Events.{Output}
use Rattle.am_cluster.specs.Here.{Here, is_replica_here}
use Rattle.am_cluster.specs.Local.{Local}
use Rattle.am_cluster.specs.Reactions.{Reaction, each}
use Rattle.am_cluster.specs.Retiring.{retired}
use Rattle.am_cluster.specs.Ticking.{done_by, due_keys, handled, muted_of, ticked}
use Rattle.am_current.specs.Current.{configuration_in}
use Rattle.am_item.specs.declared.fault.Fault.{Fault}
use Rattle.am_item.specs.declared.fault.Fault.TheVariants.{OutOfMemory, CountsExhausted, PatternNotBuilt, StoreRefused}
use Rattle.am_item.specs.declared.item.Item.{Item}
use Rattle.am_muting.specs.Failing.{HasUnanswered, patterns_muting}
use Rattle.am_node.specs.Held.{local_of as local_in_node}
use Rattle.am_node.specs.Plans.{IsPlanned}
use Rattle.am_node.specs.Ticks.{StopsMuting, has_flush, is_flush, keys_for, muted_at, muted_for, some_flush}
use Rattle.am_replica.specs.Retiring.{StopsRetiring}
use Rattle.am_site.specs.Due.{AreDue, IsTimely}
use Rattle.am_site.specs.InOrder.{IsInOrder}
use Rattle.am_site.specs.Learning.{IsIdle}
use Rattle.am_site.specs.Locals.{local_of}
use Rattle.am_site.specs.Reacting.{Retires}
use Rattle.am_site.specs.declared.site.Site.{Site}
use Rattle.am_timer.specs.Queue.{timers_of}
use Rattle.am_timer.specs.Timer.{Key, Timer}
use Rattle.am_transfer.specs.Timers.{AreTimed}
use Rattle.am_instance.specs.declared.instance.Instance.{Instance}
use Rattle.am_instance.specs.Here.{Circumstances, here_on}
use Rattle.am_instance.specs.Instance.{ReadsOn, local_in, refused_in}
use Rattle.am_instance.specs.Tenants.{is_noted}
use Rattle.am_instance.specs.Ticks.{HandlesAll, IsDone, StopsHandling, StopsTicking, Ticks, TicksAll, done_on}
use Rattle.am_instance.specs.Ticks.{has_flush_due, said_of}
use Rattle.am_instance.specs.Whole.{IsWhole}
use Rattle.am_instance.proofs.Blank.{retired_blank}
use Rattle.am_instance.proofs.Elsewhere.{retired_elsewhere}
use Rattle.am_instance.proofs.Flushes.{flush_due}
use Rattle.am_instance.proofs.Turns.{Muteds, flush_among, no_flush, same_here, same_outputs}

-- ---- why it stops

-- what stops where what is retired goes
pub stops_retiring : (around : Circumstances) (x : Instance) (refused : List (List ℕ)) (fault : Fault)
    → StopsRetiring around.moment (λ t. (local_of t x.site).held) fault → StopsTicking around x refused fault
unfolding local_in
stops_retiring around x refused OutOfMemory stops = tt
stops_retiring around x refused CountsExhausted stops = absurd stops
stops_retiring around x refused PatternNotBuilt stops = absurd stops
stops_retiring around x refused StoreRefused stops = stops

-- a store is refused for no cause but a row
pub never_muting : (refused : List (List ℕ)) (moment : ℕ) (flushes : List ℕ → Bool) (held : List ℕ → List Item)
    (fault : Fault)
    → StopsMuting refused moment flushes held fault → Some fault ≡ Some StoreRefused → ⊥
never_muting refused moment flushes held OutOfMemory stops is = cc
never_muting refused moment flushes held CountsExhausted stops is = cc
never_muting refused moment flushes held PatternNotBuilt stops is = cc
never_muting refused moment flushes held StoreRefused stops is = stops

pub never_handling : (around : Circumstances) (muted : Muteds) (due : List Timer) (x : Instance) (fault : Fault)
    → StopsHandling around muted due x fault → Some fault ≡ Some StoreRefused → ⊥
never_handling around muted due x OutOfMemory stops is = cc
never_handling around muted due x CountsExhausted stops is = cc
never_handling around muted due x PatternNotBuilt stops is = cc
never_handling around muted due x StoreRefused stops is = stops

-- ---- where what is retired is gone

-- what is so of an instance then
pub record IsRetired (around : Circumstances) (x mid : Instance) : Type 0 where
  pub reads : ReadsOn x mid
  pub left : (t : List ℕ) → local_of t mid.site ≡ retired around.moment (local_of t x.site)
  pub whole : IsWhole around mid
  pub plans : (t : List ℕ) → IsPlanned (local_in_node t mid.site.node)

pub is_retired : (around : Circumstances) (x mid : Instance) (site : Site) → ReadsOn x mid → mid.site ≡ site
    → mid.tenants ≡ x.tenants → Retires around.moment x.site site → ((here : Here) → IsInOrder here x.site → IsInOrder here site)
    → ((t : List ℕ) → IsPlanned (local_in_node t site.node)) → IsWhole around x → IsRetired around x mid
unfolding local_in
is_retired around x mid site reads stays tenants retires order planned whole = record {
  reads = reads;
  left = λ t. ap (local_of t) stays ∙ retires.local t;
  whole = record {
    known = subst (λ k. k < length around.rings) (sym reads.goes.known) whole.known;
    order = λ t.
        subst (λ here. IsInOrder here mid.site) (sym (same_here around x mid reads t))
        (subst (IsInOrder (here_on around x t)) (sym stays) (order (here_on around x t) (whole.order t)));
    timed = subst (λ (s : Site). AreTimed s.settling) (sym stays) (retires.keeps.timed whole.timed);
    incarnation =
        ap (λ (s : Site). s.operations.incarnation) stays ∙ retires.keeps.incarnation ∙ whole.incarnation
        ∙ sym reads.goes.incarnation;
    noted = λ t out.
        ap (local_of t) stays ∙ retires.local t
        ∙ ap (retired around.moment) (whole.noted t (subst (λ names. is_noted t names ≡ false) tenants out))
        ∙ retired_blank around.moment;
    idle = λ t none.
        subst IsIdle (sym (ap (local_of t) stays ∙ retires.local t))
        (retired_elsewhere around.moment (local_of t x.site)
        (whole.idle t (subst (λ h. is_replica_here h ≡ false) (same_here around x mid reads t) none)));
  };
  plans = λ t. subst (λ (s : Site). IsPlanned (local_in_node t s.node)) (sym stays) (planned t);
}

module _ (around : Circumstances) (x mid : Instance) (is : IsRetired around x mid) where
  abbrev there : List ℕ → Here
  there t = here_on around mid t

  abbrev left : List ℕ → Local
  left t = retired around.moment (local_in t x)

  is_left : (t : List ℕ) → local_in t mid ≡ left t
  unfolding local_in
  is_left t = is.left t

  timely : (t : List ℕ) → IsTimely (there t) mid.site
  unfolding here_on
  timely t = record { order = is.whole.order t; planned = is.plans t }

  -- what is done by the timers as they are is the tick
  ticks_here : (t : List ℕ) → done_by (there t) (local_in t mid) ≡ ticked (here_on around x t) (local_in t x)
  unfolding ticked here_on
  ticks_here t =
      ap (done_by (there t)) (is_left t) ∙ ap (λ here. done_by here (left t)) (same_here around x mid is.reads t)

  -- a flush that is due
  flush_on : (t : List ℕ) → has_flush t around.moment (local_in_node t mid.site.node).plan ≡ true
      → has_flush_due around x t (left t) ≡ true
  unfolding here_on local_in
  flush_on t some =
      ap (λ here. list_any is_flush (due_keys here (left t))) (sym (same_here around x mid is.reads t))
      ∙ ap (λ l. list_any is_flush (due_keys (there t) l)) (sym (is.left t))
      ∙ flush_due (there t) mid.site (timely t) some

  pub stops_muting : (refused : List (List ℕ)) (fault : Fault)
      → StopsMuting refused around.moment (λ t. has_flush t around.moment (local_in_node t mid.site.node).plan)
      (λ t. (local_of t mid.site).held) fault → StopsTicking around x refused fault
  unfolding local_in
  stops_muting refused OutOfMemory stops = tt
  stops_muting refused CountsExhausted stops = absurd stops
  stops_muting refused PatternNotBuilt (t, flush, unanswered) = (
    t,
    flush_on t flush,
    subst (λ (l : Local). HasUnanswered refused (patterns_muting (configuration_in l.held) around.moment l.held))
        (is.left t) unanswered,
  )
  stops_muting refused StoreRefused stops = absurd stops

  -- .. and this is due, and muted
  module _ (muted : Muteds) (due : List Timer) (site : Site) (stays : mid.site ≡ site)
      (are_due : AreDue around.moment site due)
      (known : (t : List ℕ) → some_flush t due ≡ true
      → muted_for t muted ≡ muted_at around.moment (local_of t site).held) where
    due_here : AreDue around.moment mid.site due
    due_here = subst (λ s. AreDue around.moment s due) (sym stays) are_due

    known_here : (t : List ℕ) → some_flush t due ≡ true
        → muted_for t muted ≡ muted_at around.moment (local_of t mid.site).held
    known_here t flush = known t flush ∙ ap (λ s. muted_at around.moment (local_of t s).held) (sym stays)

    keys_due : (t : List ℕ) → keys_for t due ≡ due_keys (there t) (local_in t mid)
    unfolding keys_for timers_of here_on local_in
    keys_due t = ap (map (λ (timer : Timer). timer.name.key)) (due_here (there t) refl (timely t))

    -- what is done for all that is due is what is done for the tenant's own
    done_here : (t : List ℕ) → done_on around mid muted due t (local_in t mid) ≡ done_by (there t) (local_in t mid)
    unfolding done_on here_on local_in
    done_here t =
        ap (λ ks. each (handled (there t) (muted_for t muted)) ks (local_in t mid)) (keys_due t)
        ∙ by (some_flush t due) refl
      where
        keys : List Key
        keys = due_keys (there t) (local_in t mid)

        by : (b : Bool) → some_flush t due ≡ b → each (handled (there t) (muted_for t muted)) keys (local_in t mid)
            ≡ each (handled (there t) (muted_of (there t) (local_in t mid))) keys (local_in t mid)
        by true flush = ap (λ sets. each (handled (there t) sets) keys (local_in t mid)) (known_here t flush)
        by false none =
            no_flush (there t) (muted_for t muted) (muted_of (there t) (local_in t mid)) keys (local_in t mid)
            (ap (list_any is_flush) (sym (keys_due t)) ∙ sym (flush_among t due) ∙ none)

    pub ticks_all : (new : Instance) (before told after : List Output) → HandlesAll around muted due mid new told
        → after ≡ before ++ told → refused_in new ≡ refused_in x → TicksAll around x new before after
    ticks_all new before told after handles behind refused = record {
      all = handles.all;
      outputs = behind ∙ ap (λ os. before ++ os) (handles.outputs ∙ same_outputs around x mid is.reads handles.all);
      does = λ t.
          subst (λ (r : Reaction). IsDone r (local_in t new) (said_of t handles.all)) (done_here t ∙ ticks_here t)
          (handles.does t);
      refused = refused;
    }

    pub stops_handling : (refused : List (List ℕ)) (fault : Fault) → StopsHandling around muted due mid fault
        → StopsTicking around x refused fault
    stops_handling refused OutOfMemory stops = tt
    stops_handling refused CountsExhausted (t, past) =
        (t, ap (λ (r : Reaction). r.fits) (sym (done_here t ∙ ticks_here t)) ∙ past)
    stops_handling refused PatternNotBuilt stops = absurd stops
    stops_handling refused StoreRefused stops = absurd stops

-- ---- the tick

-- one that is up did it all
pub ticks_told : (around : Circumstances) (x x' : Instance) (before after : List Output) → x.up ≡ true
    → TicksAll around x x' before after → ReadsOn x x' → Ticks around x x' before after
ticks_told around x x' before after up told reads = record {
  ticks = λ _. told;
  front = reads.front;
  refused = told.refused;
  up = reads.goes.up;
  idle = λ down. let never = sym up ∙ down in absurd cc;
  quiet = λ down. let never = sym up ∙ down in absurd cc;
}

-- one that is down does nothing
pub ticks_idle : (around : Circumstances) (x : Instance) (before : List Output) → x.up ≡ false
    → Ticks around x x before before
ticks_idle around x before down = record {
  ticks = λ up. let never = sym up ∙ down in absurd cc;
  front = refl;
  refused = refl;
  up = refl;
  idle = λ _. refl;
  quiet = λ _. refl;
}
