-- What a node does for its notices leaves its position.
use Rattle.std.proofs.Common.{◌≡◌, ℕ, Bool, true, false, List, [], ◌∷◌, Option, refl, ◌∙◌}
use Rattle.am_agenda.specs.Plan.{flush_due, group_in}
use Rattle.am_context.specs.declared.context.Context.{Context}
use Rattle.am_current.specs.Current.{configuration_in}
use Rattle.am_item.specs.declared.entry.EntryKey.{EntryKey}
use Rattle.am_labels.specs.declared.Label.{Label}
use Rattle.am_limit.specs.Allowances.{asked}
use Rattle.am_limit.specs.Limits.{has_room, with_limit}
use Rattle.am_members.specs.declared.group.Group.{Group}
use Rattle.am_node.specs.Delivery.{at_desk, notified, outcome, recorded, retried, settled, started_if, told}
use Rattle.am_node.specs.Flushing.{begun, flushed, members_but}
use Rattle.am_node.specs.Local.{Local, Reaction, each}
use Rattle.am_node.specs.Ticking.{flushed_if, handled}
use Rattle.am_notifier.specs.Flushing.{sent_among}
use Rattle.am_outlet.specs.Attempts.{after_outcome, is_due, outcome_of}
use Rattle.am_outlet.specs.declared.attempt.Notice.{Notice}
use Rattle.am_outlet.specs.declared.outcome.Outcome.{Outcome}
use Rattle.am_outlet.specs.declared.outcome.Outcome.TheVariants.{NotOpen, Delivered, Again, GivenUp}
use Rattle.am_telling.specs.Tellings.{tellings}
use Rattle.am_telling.specs.declared.telling.Telling.{Telling}
use Rattle.am_telling.specs.declared.telling.Telling.TheVariants.{Notify, Keep}
use Rattle.am_timer.specs.Timer.{Key}
use Rattle.am_timer.specs.declared.key.TimerKey.TheVariants.{Operation as OperationKey, Group as GroupKey, Retry as RetryKey, Push as PushKey}

each_keeps : {A : Type 0} (P : Local → Type 0) (react : A → Local → Reaction) → ((x : A) (l : Local) → P l → P (react x l).local)
    → (xs : List A) (l : Local) → P l → P (each react xs l).local
each_keeps P react keeps [] l is = is
each_keeps P react keeps (x ∷ xs) l is = each_keeps P react keeps xs (react x l).local (keeps x l is)

recorded_stays : (context : Context) (key : EntryKey) (firing resolved : List (List Label)) (span : ℕ) (l : Local)
    → (recorded context key firing resolved span l).local.position ≡ l.position
unfolding recorded
recorded_stays context key firing resolved span l = refl

settled_stays : (context : Context) (o : Outcome) (l : Local) → (settled context o l).local.position ≡ l.position
settled_stays context NotOpen l = refl
settled_stays context (Delivered notice) l = recorded_stays context notice.key notice.firing notice.resolved notice.span l
settled_stays context (Again due) l = refl
settled_stays context GivenUp l = refl

pub outcome_stays : (context : Context) (number tries : ℕ) (status : Option ℕ) (l : Local) → (outcome context number tries status l).local.position ≡ l.position
unfolding outcome
outcome_stays context number tries status l =
    settled_stays context (outcome_of number tries context.moment status l.plan.desk.open_ones) (at_desk (after_outcome number tries context.moment status l.plan.desk) l)

started_stays : (b : Bool) (notice : Notice) (l : Local) → (started_if b notice l).local.position ≡ l.position
started_stays true notice l = refl
started_stays false notice l = refl

abbrev At : Option ℕ → Local → Type 0
At position l = l.position ≡ position

told_stays : (position : Option ℕ) (context : Context) (telling : Telling) (l : Local) → At position l → At position (told context telling l).local
unfolding notified
told_stays position context (Notify notice) l is =
    let noticed = asked context.limits.notices context.moment l.noticed in
    started_stays (has_room (with_limit l.noticed context.limits.notices) context.moment) notice (record l { noticed = noticed }) ∙ is
told_stays position context (Keep key span) l is = recorded_stays context key [] [] span l ∙ is

flushed_stays : (context : Context) (muted : List (List Label)) (group : Group) (l : Local) → (flushed context muted group l).local.position ≡ l.position
unfolding flushed
flushed_stays context muted group l =
    each_keeps (At l.position) (told context) (told_stays l.position context)
    (tellings (configuration_in l.held) group (sent_among l.held) (members_but muted group l) context.moment) (begun context group l) refl

flush_stays : (b : Bool) (context : Context) (muted : List (List Label)) (group : Group) (l : Local) → (flushed_if b context muted group l).local.position ≡ l.position
flush_stays true context muted group l = flushed_stays context muted group l
flush_stays false context muted group l = refl

pub handled_stays : (context : Context) (muted : List (List Label)) (key : Key) (l : Local) → (handled context muted key l).local.position ≡ l.position
unfolding handled retried
handled_stays context muted (OperationKey number) l = refl
handled_stays context muted (GroupKey key) l =
    flush_stays (is_due context.moment (flush_due l.plan.paces l.plan.grouped key)) context muted (group_in key) l
handled_stays context muted (RetryKey number) l = refl
handled_stays context muted (PushKey to) l = refl
