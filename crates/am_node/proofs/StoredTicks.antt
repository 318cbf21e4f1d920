-- What is stored stays as it is at a tick, but for what is retired: only sent entries come then.
use Rattle.std.proofs.Common.{◌≡◌, ℕ, Bool, true, false, List, [], Option, Result, Ok, Err, IfOk, OnOk, refl, sym, ap}
use Rattle.std.proofs.Common.{◌∙◌}
use Rattle.am_labels.specs.declared.Label.{Label}
use Rattle.am_item.specs.declared.entry.EntryKey.{EntryKey}
use Rattle.am_item.specs.declared.item.Item.{Item}
use Rattle.am_item.specs.Best.{IsRising}
use Rattle.am_item.proofs.Joined.{rising-joined}
use Rattle.am_notifier.specs.Planned.{Keep, Notify, Telling, flush_due, group_in, tellings}
use Rattle.am_current.specs.Current.{configuration_in}
use Rattle.am_limit.specs.Allowances.{asked}
use Rattle.am_limit.specs.Limits.{has_room, with_limit}
use Rattle.am_members.specs.declared.group.Group.{Group as Name}
use Rattle.am_outlet.specs.Attempts.{is_due, outcome_of, after_outcome}
use Rattle.am_outlet.specs.declared.attempt.Notice.{Notice}
use Rattle.am_outlet.specs.declared.outcome.Outcome.{Outcome}
use Rattle.am_outlet.specs.declared.outcome.Outcome.TheVariants.{NotOpen, Delivered, Again, GivenUp}
use Rattle.am_timer.specs.Timer.{Key}
use Rattle.am_timer.specs.declared.key.TimerKey.TheVariants.{Operation, Group, Retry, Push}
use Rattle.am_rows.specs.Rows.{stored_in}
use Rattle.am_rows.proofs.Following.{joined_unstored}
use Rattle.am_node.specs.declared.dispatch.Dispatch.{Dispatch}
use Rattle.am_context.specs.declared.context.Context.{Context}
use Rattle.am_node.specs.declared.parts.Parts.{Parts}
use Rattle.am_node.specs.Delivery.{at_desk, entry_of, notified, outcome, recorded, retried, settled, started_if, told}
use Rattle.am_node.specs.Flushing.{begun, flushed, members_but}
use Rattle.am_notifier.specs.Flushing.{sent_among}
use Rattle.am_node.specs.Held.{local_of}
use Rattle.am_node.specs.Local.{Local}
use Rattle.am_node.specs.Plans.{IsPlanned}
use Rattle.am_node.specs.Storing.{AreStored}
use Rattle.am_node.specs.Ticking.{done_by, due_keys, flushed_if, handled, muted_of}
use Rattle.am_node.specs.Ticks.{DoesDue}
use Rattle.am_node.proofs.Kept.{each_keeps}

-- of what is held, this is stored
pub record Rest (xs held : List Item) : Type 0 where
  pub rising : IsRising held
  pub rows : stored_in held ≡ xs

recorded_rests : (xs : List Item) (context : Context) (key : EntryKey) (firing resolved : List (List Label)) (span : ℕ) (l : Local) → Rest xs l.held → Rest xs (recorded context key firing resolved span l).local.held
unfolding recorded stored_in
recorded_rests xs context key firing resolved span l is =
    let entry = entry_of context key firing resolved span l in
    record { rising = rising-joined l.held entry; rows = sym (joined_unstored l.held entry is.rising refl) ∙ is.rows }

started_rests : (xs : List Item) (b : Bool) (notice : Notice) (l : Local) → Rest xs l.held → Rest xs (started_if b notice l).local.held
started_rests xs true notice l is = is
started_rests xs false notice l is = is

notified_rests : (xs : List Item) (context : Context) (notice : Notice) (l : Local) → Rest xs l.held → Rest xs (notified context notice l).local.held
unfolding notified
notified_rests xs context notice l is =
    let counted = asked context.limits.notices context.moment l.noticed in
    started_rests xs (has_room (with_limit l.noticed context.limits.notices) context.moment) notice (record l { noticed = counted }) is

told_rests : (xs : List Item) (context : Context) (telling : Telling) (l : Local) → Rest xs l.held → Rest xs (told context telling l).local.held
told_rests xs context (Notify notice) l is = notified_rests xs context notice l is
told_rests xs context (Keep key span) l is = recorded_rests xs context key [] [] span l is

settled_rests : (xs : List Item) (context : Context) (o : Outcome) (l : Local) → Rest xs l.held → Rest xs (settled context o l).local.held
settled_rests xs context NotOpen l is = is
settled_rests xs context (Delivered notice) l is = recorded_rests xs context notice.key notice.firing notice.resolved notice.span l is
settled_rests xs context (Again due) l is = is
settled_rests xs context GivenUp l is = is

pub outcome_rests : (xs : List Item) (context : Context) (number tries : ℕ) (status : Option ℕ) (l : Local) → Rest xs l.held → Rest xs (outcome context number tries status l).local.held
unfolding outcome
outcome_rests xs context number tries status l is =
    settled_rests xs context (outcome_of number tries context.moment status l.plan.desk.open_ones) (at_desk (after_outcome number tries context.moment status l.plan.desk) l) is

retried_rests : (xs : List Item) (context : Context) (number : ℕ) (l : Local) → Rest xs l.held → Rest xs (retried context number l).local.held
unfolding retried
retried_rests xs context number l is = is

flushed_rests : (xs : List Item) (context : Context) (muted : List (List Label)) (group : Name) (l : Local) → Rest xs l.held → Rest xs (flushed context muted group l).local.held
unfolding flushed
flushed_rests xs context muted group l is =
    each_keeps (λ (k : Local). Rest xs k.held) (told context) (told_rests xs context)
    (tellings (configuration_in l.held) group (sent_among l.held) (members_but muted group l) context.moment)
    (begun context group l) is

flushed_if_rests : (xs : List Item) (b : Bool) (context : Context) (muted : List (List Label)) (group : Name) (l : Local) → Rest xs l.held → Rest xs (flushed_if b context muted group l).local.held
flushed_if_rests xs true context muted group l is = flushed_rests xs context muted group l is
flushed_if_rests xs false context muted group l is = is

pub handled_rests : (xs : List Item) (context : Context) (muted : List (List Label)) (key : Key) (l : Local) → Rest xs l.held → Rest xs (handled context muted key l).local.held
unfolding handled
handled_rests xs context muted (Operation number) l is = is
handled_rests xs context muted (Group key) l is = flushed_if_rests xs (is_due context.moment (flush_due l.plan.paces l.plan.grouped key)) context muted (group_in key) l is
handled_rests xs context muted (Retry number) l is = retried_rests xs context number l is
handled_rests xs context muted (Push instance) l is = is

done_rests : (xs : List Item) (t : List ℕ) (context : Context) (l : Local) → Rest xs l.held → Rest xs (done_by t context l).local.held
done_rests xs t context l is =
    each_keeps (λ (k : Local). Rest xs k.held) (handled context (muted_of context l)) (handled_rests xs context (muted_of context l)) (due_keys t context.moment l.plan) l is

-- where what is due is done, the rows are still those of what is held
pub stores_done : (context : List ℕ → Context) (old new : Parts) (all : List Dispatch) (pairs : List (List ℕ × Item)) → ((t : List ℕ) → IsPlanned (local_of t old))
    → DoesDue context (λ t. local_of t old) (λ t. local_of t new) all → AreStored old pairs → AreStored new pairs
stores_done context old new all pairs planned done stored t =
    let l = local_of t old in
    let rests : Rest (stored_in l.held) (done_by t (context t) l).local.held = done_rests (stored_in l.held) t (context t) l (record { rising = (planned t).rising; rows = refl }) in
    stored t ∙ sym (ap (λ (k : Local). stored_in k.held) (done t).local ∙ rests.rows)

pub ok_from : {A E : Type 0} (r : Result A E) (Q : A → Type 0) (P : Type 0) → ((x : A) → Q x → P) → IfOk r Q → OnOk r P
ok_from (Ok x) Q P f h = f x h
ok_from (Err e) Q P f h = tt
