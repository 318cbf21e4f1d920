-- A flush is what the notifier makes of it, and then what comes next of it is done: the order of the two doesn't matter,
-- since recording touches what is held and counted alone, and notifying what is planned and noticed alone.
use Rattle.std.proofs.Common.{◌≡◌, ℕ, Bool, true, false, ◌&&◌, List, [], ◌∷◌, ◌++◌, refl, sym, ap, ◌∙◌}
use Rattle.am_notifier.specs.Planned.{Keep, Notify, Telling, flush_due, group_in, tellings}
use Rattle.am_context.proofs.Changes.{other, own}
use Rattle.am_context.specs.Stopping.{StopsPast}
use Rattle.am_context.specs.declared.context.Context.{Context}
use Rattle.am_context.specs.declared.receipt.Receipt.{Receipt}
use Rattle.am_current.specs.Current.{configuration_in}
use Rattle.am_item.specs.declared.fault.Fault.{Fault}
use Rattle.am_item.specs.declared.fault.Fault.TheVariants.{OutOfMemory, CountsExhausted, PatternNotBuilt, StoreRefused}
use Rattle.am_labels.specs.declared.Label.{Label}
use Rattle.am_limit.specs.Allowances.{asked}
use Rattle.am_limit.specs.Limits.{has_room, with_limit}
use Rattle.am_members.specs.declared.group.Group.{Group as Name}
use Rattle.am_notifier.specs.Delivery.{notified as notified_there, started_if as started_there, told as told_there}
use Rattle.am_notifier.specs.Flushing.{Says, flushed as flushed_there, flushed_due, flushed_if as flushed_if_there}
use Rattle.am_notifier.specs.Flushing.{sent_among}
use Rattle.am_notifier.specs.Notifies.{Notifies, notifies_of}
use Rattle.am_notifier.specs.Steps.{Does as DoesThere, Step, each as each_there, in_turn as in_turn_there}
use Rattle.am_notifier.specs.declared.next.Next.{Next}
use Rattle.am_notifier.specs.declared.next.Next.TheVariants.{Record}
use Rattle.am_outlet.specs.Attempts.{is_due}
use Rattle.am_outlet.specs.declared.attempt.Notice.{Notice}
use Rattle.am_tenant.specs.Names.{same}
use Rattle.am_timer.specs.declared.key.FlushKey.{FlushKey}
use Rattle.am_timer.specs.declared.key.TimerKey.TheVariants.{Group}
use Rattle.am_node.specs.declared.parts.Parts.{Parts}
use Rattle.am_node.specs.Delivery.{notified, obeyed, received, recorded, started_if, told}
use Rattle.am_node.specs.Flushing.{begun, flushed, members_but}
use Rattle.am_node.specs.Held.{Does, StopsFor, local_of, notifies_in}
use Rattle.am_node.specs.Local.{Local, Reaction, Said, each, in_turn}
use Rattle.am_node.specs.Ticking.{flushed_if, handled}
use Rattle.am_node.proofs.Locals.{done, rooms}

-- with what the notifier has
abbrev pub with_notifies : Notifies → Local → Local
with_notifies notifies local = record local { plan = notifies.plan; noticed = notifies.noticed; position = notifies.position }

-- what the notifier makes of something, and then what comes next of it
abbrev pub carried_out : Context → Step → Local → Reaction
carried_out context step local =
    in_turn (record { local = with_notifies step.notifies local; said = []; fits = step.fits }) (each (obeyed context) step.next)

and_swapped : (a b c : Bool) → (a && (b && c)) ≡ (b && (a && c))
and_swapped true true c = refl
and_swapped true false c = refl
and_swapped false true c = refl
and_swapped false false c = refl

and_again : (a b c : Bool) → (a && (b && c)) ≡ ((a && b) && c)
and_again true b c = refl
and_again false b c = refl

module _ (context : Context) where
  -- one is told, and the others then
  abbrev IsCarriedOut : List Telling → Type 0
  IsCarriedOut tellings = (l : Local) → each (told context) tellings l ≡ carried_out context (each_there (told_there context) tellings (notifies_in l)) l

  by_room : (b : Bool) (notice : Notice) (tellings : List Telling) (l : Local) → IsCarriedOut tellings
      → in_turn (started_if b notice l) (each (told context) tellings) ≡ carried_out context (in_turn_there (started_there b notice (notifies_in l)) (each_there (told_there context) tellings)) l
  by_room true notice tellings l rest =
      let first = started_if true notice l in
      let step = each_there (told_there context) tellings (notifies_in (first.local)) in
      ap (λ (r : Reaction). let made : Reaction = record { local = r.local; said = first.said ++ r.said; fits = first.fits && r.fits } in made) (rest (first.local))
      ∙ ap (λ b. let made : Reaction = record { local = (carried_out context step (first.local)).local; said = first.said ++ (carried_out context step (first.local)).said; fits = b } in made)
      (and_again first.fits step.fits (each (obeyed context) step.next (with_notifies step.notifies (first.local))).fits)
  by_room false notice tellings l rest = rest l

  by_key : (receipt : Receipt) (tellings : List Telling) (l : Local) → IsCarriedOut tellings
      → in_turn (received context receipt l) (each (told context) tellings)
      ≡ carried_out context (in_turn_there (record { notifies = notifies_in l; next = Record receipt ∷ []; fits = true }) (each_there (told_there context) tellings)) l
  unfolding recorded
  by_key receipt tellings l rest =
      let first = received context receipt l in
      let step = each_there (told_there context) tellings (notifies_in l) in
      ap (λ (r : Reaction). let made : Reaction = record { local = r.local; said = first.said ++ r.said; fits = first.fits && r.fits } in made) (rest (first.local))
      ∙ ap (λ b. let made : Reaction = record { local = (carried_out context step (first.local)).local; said = first.said ++ (carried_out context step (first.local)).said; fits = b } in made)
      (and_swapped first.fits step.fits (each (obeyed context) step.next (with_notifies step.notifies (first.local))).fits)

  -- all are told
  each_carried_out : (tellings : List Telling) → IsCarriedOut tellings
  unfolding notified notified_there
  each_carried_out [] l = refl
  each_carried_out (Notify notice ∷ tellings) l =
      by_room (has_room (with_limit l.noticed context.limits.notices) context.moment) notice tellings
      (record l { noticed = asked context.limits.notices context.moment l.noticed }) (each_carried_out tellings)
  each_carried_out (Keep key span ∷ tellings) l =
      by_key (record { key = key; firing = []; resolved = []; span = span }) tellings l (each_carried_out tellings)

  -- a group is flushed
  flush_carried_out : (muted : List (List Label)) (group : Name) (l : Local)
      → flushed context muted group l ≡ carried_out context (flushed_there context (configuration_in l.held) l.held muted group (notifies_in l)) l
  unfolding flushed flushed_there
  flush_carried_out muted group l =
      each_carried_out (tellings (configuration_in l.held) group (sent_among l.held) (members_but muted group l) context.moment) (begun context group l)

  if_carried_out : (b : Bool) (muted : List (List Label)) (group : Name) (l : Local)
      → flushed_if b context muted group l ≡ carried_out context (flushed_if_there b context (configuration_in l.held) l.held muted group (notifies_in l)) l
  if_carried_out true muted group l = flush_carried_out muted group l
  if_carried_out false muted group l = refl

  pub handled_carried_out : (muted : List (List Label)) (key : FlushKey) (l : Local)
      → handled context muted (Group key) l ≡ carried_out context (flushed_due context (configuration_in l.held) l.held muted key (notifies_in l)) l
  unfolding handled
  handled_carried_out muted key l = if_carried_out (is_due context.moment (flush_due l.plan.paces l.plan.grouped key)) muted (group_in key) l

-- ---- of all tenants

module _ (context : Context) (muted : List (List Label)) (key : FlushKey) (tenant : List ℕ) (start mid : Parts) (next : List Next)
    (told_one : DoesThere tenant (flushed_due context (configuration_in (local_of tenant start).held) (local_of tenant start).held muted key) start.notifier mid.notifier)
    (still : mid.replica ≡ start.replica) (places : mid.places ≡ start.places)
    (says : Says next (flushed_due context (configuration_in (local_of tenant start).held) (local_of tenant start).held muted key (notifies_of tenant start.notifier))) where
  abbrev l : Local
  l = local_of tenant start

  abbrev step : Step
  step = flushed_due context (configuration_in l.held) l.held muted key (notifies_of tenant start.notifier)

  told_local : local_of tenant mid ≡ with_notifies step.notifies l
  unfolding local_of
  told_local = rw (still, places) (rooms _ _ _ _ _ refl (own tenant _ _ _ (told_one tenant)))

  others : (t : List ℕ) → same t tenant ≡ false → local_of t mid ≡ local_of t start
  unfolding local_of
  others t apart = rw (still, places) (rooms _ _ _ _ _ refl (other t tenant _ _ _ apart (told_one t)))

  carries_out : handled context muted (Group key) l ≡ carried_out context step l
  unfolding local_of
  carries_out = handled_carried_out context muted key l

  -- what is left to do from there on
  then_obeyed : each (obeyed context) next (local_of tenant mid) ≡ each (obeyed context) step.next (with_notifies step.notifies l)
  then_obeyed = ap (λ ns. each (obeyed context) ns (local_of tenant mid)) says.next ∙ ap (each (obeyed context) step.next) told_local

  pub all_done : (after : Parts) → Does tenant (each (obeyed context) next) mid after → Does tenant (handled context muted (Group key)) start after
  all_done after does =
      done tenant (handled context muted (Group key)) start after
      (own tenant _ _ _ (does tenant) ∙ ap (λ (r : Reaction). r.local) then_obeyed ∙ sym (ap (λ (r : Reaction). r.local) carries_out))
      (λ t apart. other t tenant _ _ _ apart (does t) ∙ others t apart)

  pub all_said : (said : List Said) → said ≡ (each (obeyed context) next (local_of tenant mid)).said → said ≡ (handled context muted (Group key) l).said
  all_said said is = is ∙ ap (λ (r : Reaction). r.said) then_obeyed ∙ sym (ap (λ (r : Reaction). r.said) carries_out)

  pub all_fit : (each (obeyed context) next (local_of tenant mid)).fits ≡ true → (handled context muted (Group key) l).fits ≡ true
  all_fit fits =
      ap (λ (r : Reaction). r.fits) carries_out ∙ ap (λ b. b && (each (obeyed context) step.next (with_notifies step.notifies l)).fits) says.fits
      ∙ sym (ap (λ (r : Reaction). r.fits) then_obeyed) ∙ fits

  pub stops_then : (fault : Fault) → StopsFor (each (obeyed context) next (local_of tenant mid)) fault → StopsFor (handled context muted (Group key) l) fault
  stops_then OutOfMemory stop = tt
  stops_then CountsExhausted stop =
      ap (λ (r : Reaction). r.fits) carries_out ∙ ap (λ b. b && (each (obeyed context) step.next (with_notifies step.notifies l)).fits) says.fits
      ∙ sym (ap (λ (r : Reaction). r.fits) then_obeyed) ∙ stop
  stops_then PatternNotBuilt stop = stop
  stops_then StoreRefused stop = stop

-- what stops the notifier stops the flush
pub stops_first : (context : Context) (muted : List (List Label)) (key : FlushKey) (l : Local) (fault : Fault)
    → StopsPast (flushed_due context (configuration_in l.held) l.held muted key (notifies_in l)).fits fault → StopsFor (handled context muted (Group key) l) fault
stops_first context muted key l OutOfMemory stop = tt
stops_first context muted key l CountsExhausted stop =
    let step = flushed_due context (configuration_in l.held) l.held muted key (notifies_in l) in
    ap (λ (r : Reaction). r.fits) (handled_carried_out context muted key l) ∙ ap (λ b. b && (each (obeyed context) step.next (with_notifies step.notifies l)).fits) stop
stops_first context muted key l PatternNotBuilt stop = stop
stops_first context muted key l StoreRefused stop = stop
