-- What is planned goes by what is held, whatever happens at a tick, at a flush and to a notice.
use Rattle.std.proofs.Common.{◌≡◌, ℕ, Bool, true, false, cond, not, ◌&&◌, nat_le, List, [], ◌∷◌, filter, find, map}
use Rattle.std.proofs.Common.{Option, Some, None, refl, sym, ap, ◌∙◌, inl, inr}
use Rattle.std.specs.List.Sorted.{IsStrictlySortedBy}
use Rattle.std.specs.Map.{keys_of}
use Rattle.std.specs.Option.{option_map_or}
use Rattle.std.specs.Ordering.{is_eq}
use Rattle.std.proofs.lemmas.Bool.{and_left, and_right, cases_Bool, cond-false, cond-true, not_from_false, or_from}
use Rattle.am_labels.specs.declared.Label.{Label}
use Rattle.am_item.specs.declared.entry.EntryKey.{EntryKey}
use Rattle.am_item.specs.declared.item.Item.{Item}
use Rattle.am_item.specs.declared.item.Thing.{Thing}
use Rattle.am_item.specs.declared.item.Thing.TheVariants.{Configuration, Silence, Alert, SentEntry}
use Rattle.am_item.specs.declared.key.ThingKey.{ThingKey}
use Rattle.am_item.specs.declared.stamp.Stamp.{Stamp}
use Rattle.am_item.specs.Best.{IsRising, item_at, joined}
use Rattle.am_item.specs.Key.{AlertKey, ConfigurationKey, SentEntryKey, has_key, key_cmp, key_in, key_of}
use Rattle.am_item.specs.Retirement.{is_retired, retires_at, thing_retires_at}
use Rattle.am_item.proofs.Greatest.{by_cases, later}
use Rattle.am_item.proofs.Joined.{at-joined, rising-joined, with_item}
use Rattle.am_item.proofs.Keys.{key_same}
use Rattle.am_item.proofs.Removed.{lacks_key}
use Rattle.am_item.proofs.Rising.{rising_same}
use Rattle.am_notifier.specs.Planned.{Keep, Notify, Telling, default_paces, flush_due, group_in, planned}
use Rattle.am_notifier.specs.Planned.{planned_alerts, tellings, webhook_keys}
use Rattle.am_book.specs.Retired.{is_key_retired}
use Rattle.am_book.proofs.Dropping.{at-lacking, rising-filter}
use Rattle.am_config.specs.Configuration.{Configuration as Configured}
use Rattle.am_current.specs.Current.{configuration_at, configuration_in}
use Rattle.am_members.specs.declared.group.Group.{Group as Name}
use Rattle.am_members.specs.declared.known.Known.{Known}
use Rattle.am_members.specs.Grouped.{flushed_at}
use Rattle.am_muting.specs.Muting.{alert_sets}
use Rattle.am_limit.specs.Allowances.{asked}
use Rattle.am_limit.specs.Limits.{Count, fresh, has_room, with_limit}
use Rattle.am_outlet.specs.Attempts.{Desk, added, after_outcome, after_tick, cleared, is_due, outcome_of}
use Rattle.am_outlet.specs.declared.attempt.Notice.{Notice}
use Rattle.am_outlet.specs.declared.outcome.Outcome.{Outcome}
use Rattle.am_outlet.specs.declared.outcome.Outcome.TheVariants.{NotOpen, Delivered, Again, GivenUp}
use Rattle.am_timer.specs.Timer.{Key}
use Rattle.am_timer.specs.declared.key.TimerKey.TheVariants.{Operation, Group, Retry, Push}
use Rattle.am_context.specs.declared.context.Context.{Context}
use Rattle.am_node.specs.Delivery.{at_desk, entry_of, notified, outcome, recorded, retried, settled, started_if, told}
use Rattle.am_node.specs.Flushing.{begun, flushed, members_but}
use Rattle.am_notifier.specs.Flushing.{sent_among, without_keys}
use Rattle.am_node.specs.Local.{Ledger, Local, Reaction, blank, dropped, each}
use Rattle.am_node.specs.Plans.{IsPlanned}
use Rattle.am_notifier.specs.Following.{paces_at, sinces_in}
use Rattle.am_node.specs.Retiring.{alerts_left, retired}
use Rattle.am_replica.specs.Retiring.{items_left}
use Rattle.am_node.specs.Ticking.{due_keys, flushed_if, handled, muted_of, ticked}
use Rattle.am_context.proofs.Filters.{filter_all}

-- ---- the label sets of the alerts

-- where a test of keys dropped items, those are left whose keys passed
sets_item : (r : ThingKey → Bool) (stamp : Stamp) (thing : Thing) (xs : List Item)
    → alert_sets (filter (λ item. r (key_of item)) xs) ≡ filter (λ l. r (AlertKey l)) (alert_sets xs)
    → alert_sets (filter (λ item. r (key_of item)) (record { stamp = stamp; thing = thing } ∷ xs)) ≡ filter (λ l. r (AlertKey l)) (alert_sets (record { stamp = stamp; thing = thing } ∷ xs))
sets_item r stamp (Configuration text) xs behind = elim (cases_Bool (r (key_in (Configuration text)))) [ inl e ↦ rw e behind | inr e ↦ rw e behind ]
sets_item r stamp (Silence silence) xs behind = elim (cases_Bool (r (key_in (Silence silence)))) [ inl e ↦ rw e behind | inr e ↦ rw e behind ]
sets_item r stamp (Alert alert) xs behind = elim (cases_Bool (r (AlertKey alert.labels))) [
  | inl e ↦ rw e (ap (λ sets. alert.labels ∷ sets) behind)
  | inr e ↦ rw e behind
]
sets_item r stamp (SentEntry entry) xs behind = elim (cases_Bool (r (key_in (SentEntry entry)))) [ inl e ↦ rw e behind | inr e ↦ rw e behind ]

sets_left : (r : ThingKey → Bool) (xs : List Item) → alert_sets (filter (λ item. r (key_of item)) xs) ≡ filter (λ l. r (AlertKey l)) (alert_sets xs)
sets_left r [] = refl
sets_left r (x ∷ xs) = sets_item r x.stamp x.thing xs (sets_left r xs)

-- those of entries that a test of keys left
keys_left : (r : List Label → Bool) (entries : List (List Label × Known)) → keys_of (filter (λ e. r e.0) entries) ≡ filter r (keys_of entries)
keys_left r [] = refl
keys_left r (e ∷ es) = elim (cases_Bool (r e.0)) [
  | inl h ↦ rw h (ap (λ keys. e.0 ∷ keys) (keys_left r es))
  | inr h ↦ rw h (keys_left r es)
]

-- no alert goes with a sent entry
sets_lacking : (entry : EntryKey) (xs : List Item) → alert_sets (filter (lacks_key (SentEntryKey entry)) xs) ≡ alert_sets xs
unfolding key_cmp
sets_lacking entry xs =
    let other : ThingKey → Bool = λ (k : ThingKey). not (is_eq (key_cmp (SentEntryKey entry) k)) in
    sets_left other xs ∙ filter_all (λ l. other (AlertKey l)) (λ l. refl) (alert_sets xs)

-- ---- the configuration in use

-- what is found is found where only others went
found_still : (q p : Item → Bool) → ((x : Item) → q x ≡ true → p x ≡ true) → (xs : List Item) → find q (filter p xs) ≡ find q xs
found_still q p passes [] = refl
found_still q p passes (x ∷ xs) = elim (cases_Bool (q x)) [
  | inl h ↦ rw (passes x h, h) refl
  | inr h ↦ elim (cases_Bool (p x)) [
    | inl k ↦ rw (k, h) (found_still q p passes xs)
    | inr k ↦ rw (k, h) (found_still q p passes xs)
  ]
]

-- no configuration goes with a sent entry
used_lacking : (entry : EntryKey) (xs : List Item) → configuration_in (filter (lacks_key (SentEntryKey entry)) xs) ≡ configuration_in xs
unfolding configuration_in key_cmp
used_lacking entry xs = ap configuration_at (at-lacking ConfigurationKey (SentEntryKey entry) xs)

-- a configuration is never retired
never : (moment written : ℕ) (thing : Thing) → is_eq (key_cmp ConfigurationKey (key_in thing)) ≡ true → option_map_or (λ at. nat_le at moment) (thing_retires_at written thing) false ≡ false
unfolding key_cmp
never moment written (Configuration text) h = refl
never moment written (Silence silence) h = absurd cc
never moment written (Alert alert) h = absurd cc
never moment written (SentEntry entry) h = absurd cc

never_retired : (moment : ℕ) (x : Item) → has_key ConfigurationKey x ≡ true → is_retired moment x ≡ false
unfolding retires_at
never_retired moment x h = never moment x.stamp.moment x.thing h

key_stays : (moment : ℕ) (held : List Item) → is_key_retired moment held ConfigurationKey ≡ false
key_stays moment [] = refl
key_stays moment (x ∷ xs) =
    or_from (has_key ConfigurationKey x && is_retired moment x) (is_key_retired moment xs ConfigurationKey)
    (by_cases (has_key ConfigurationKey x)
    (λ e. and_right (has_key ConfigurationKey x) (is_retired moment x) (never_retired moment x e))
    (λ e. and_left (has_key ConfigurationKey x) (is_retired moment x) e))
    (key_stays moment xs)

used_left : (moment : ℕ) (held : List Item) → configuration_in (items_left moment held) ≡ configuration_in held
unfolding configuration_in
used_left moment held =
    ap configuration_at (found_still (has_key ConfigurationKey) (λ x. not (is_key_retired moment held (key_of x)))
    (λ x e.
    not_from_false (is_key_retired moment held (key_of x)) (ap (is_key_retired moment held) (sym (key_same ConfigurationKey (key_of x) e)) ∙ key_stays moment held)) held)

-- ---- what is retired goes

-- an alert with the moment since which it is held
abbrev since_of : List Label × Known → List Label × ℕ
since_of a = (a.0, a.1.since)

-- of alerts that are grouped by a configuration those that are left are
grouped_left : (c : Configured) (p : List Label × Known → Bool) (alerts : List (List Label × Known)) → alerts ≡ planned_alerts c (map since_of alerts)
    → filter p alerts ≡ planned_alerts c (map since_of (filter p alerts))
unfolding planned_alerts
grouped_left c p [] are = refl
grouped_left c p (a ∷ rest) are =
    let first : a ≡ planned c (since_of a) = cc in
    let behind : rest ≡ map (planned c) (map since_of rest) = cc in
    let left : filter p rest ≡ map (planned c) (map since_of (filter p rest)) = grouped_left c p rest behind in
    elim (cases_Bool (p a)) [
      | inl e ↦ rw e (ap (λ b. b ∷ filter p rest) first ∙ ap (λ bs. planned c (since_of a) ∷ bs) left)
      | inr e ↦ rw e left
    ]

pub retired_keeps : (moment : ℕ) (l : Local) → IsPlanned l → IsPlanned (retired moment l)
unfolding retired
retired_keeps moment l is =
    let stays : List Label → Bool = λ (labels : List Label). not (is_key_retired moment l.held (AlertKey labels)) in
    let alerts = l.plan.grouped.alerts in
    let used : configuration_in l.held ≡ configuration_in (items_left moment l.held) = sym (used_left moment l.held) in
    record {
      rising = rising-filter (λ x. not (is_key_retired moment l.held (key_of x))) l.held is.rising;
      paces = is.paces ∙ ap (λ c. paces_at c l.position) used;
      groups = grouped_left (configuration_in l.held) (λ a. stays a.0) alerts is.groups
          ∙ ap (λ c. planned_alerts c (map since_of (alerts_left moment l.held alerts))) used;
      alerts = keys_left stays alerts ∙ ap (filter stays) is.alerts
          ∙ sym (sets_left (λ k. not (is_key_retired moment l.held k)) l.held);
    }

-- ---- what is recorded

-- what has other keys stays where an item comes
lacking-joined : (k : ThingKey) (held : List Item) (item : Item) → IsRising held → key_of item ≡ k → filter (lacks_key k) (joined held item) ≡ filter (lacks_key k) held
lacking-joined k held item up named =
    rising_same (filter (lacks_key k) (joined held item)) (filter (lacks_key k) held)
    (rising-filter (lacks_key k) (joined held item) (rising-joined held item)) (rising-filter (lacks_key k) held up)
    (λ q.
    at-lacking q k (joined held item) ∙ ap (cond (is_eq (key_cmp q k)) None) (at-joined q held item up)
    ∙ by_cases (is_eq (key_cmp q k))
    (λ e. cond-true _ None (with_item q (item_at q held) item) e ∙ sym (cond-true _ None (item_at q held) e))
    (λ e.
    ap (cond (is_eq (key_cmp q k)) None) (cond-false _ (later (item_at q held) (Some item)) (item_at q held) (ap (λ r. is_eq (key_cmp q r)) named ∙ e)))
    ∙ sym (at-lacking q k held))

module _ (entry : EntryKey) (held : List Item) (item : Item) (up : IsRising held) (named : key_of item ≡ SentEntryKey entry) where
  used_joined : configuration_in (joined held item) ≡ configuration_in held
  used_joined =
      sym (used_lacking entry (joined held item))
      ∙ ap configuration_in (lacking-joined (SentEntryKey entry) held item up named)
      ∙ used_lacking entry held

  sets_joined : alert_sets (joined held item) ≡ alert_sets held
  sets_joined =
      sym (sets_lacking entry (joined held item))
      ∙ ap alert_sets (lacking-joined (SentEntryKey entry) held item up named)
      ∙ sets_lacking entry held

pub recorded_keeps : (context : Context) (key : EntryKey) (firing resolved : List (List Label)) (span : ℕ) (l : Local) → IsPlanned l → IsPlanned (recorded context key firing resolved span l).local
unfolding recorded
recorded_keeps context key firing resolved span l is =
    let entry = entry_of context key firing resolved span l in
    let used : configuration_in l.held ≡ configuration_in (joined l.held entry) = sym (used_joined key l.held entry is.rising refl) in
    record {
      rising = rising-joined l.held entry;
      paces = is.paces ∙ ap (λ c. paces_at c l.position) used;
      groups = is.groups ∙ ap (λ c. planned_alerts c (sinces_in l.plan)) used;
      alerts = is.alerts ∙ sym (sets_joined key l.held entry is.rising refl);
    }

-- ---- notices

-- one thing after the other keeps what each keeps
pub each_keeps : {A : Type 0} (P : Local → Type 0) (react : A → Local → Reaction) → ((x : A) (l : Local) → P l → P (react x l).local) → (xs : List A) (l : Local) → P l → P (each react xs l).local
each_keeps P react keeps [] l is = is
each_keeps P react keeps (x ∷ xs) l is = each_keeps P react keeps xs (react x l).local (keeps x l is)

-- attempts, flushes and what is counted have no part in it
others_keep : (l : Local) (desk : Desk) (flushes : List (Name × ℕ)) (noticed : Count) (ledger : Ledger) → IsPlanned l
    → IsPlanned (record { held = l.held; plan = record { paces = l.plan.paces; grouped = record { alerts = l.plan.grouped.alerts; flushes = flushes }; desk = desk }; noticed = noticed; position = l.position; ledger = ledger })
others_keep l desk flushes noticed ledger is = record { rising = is.rising; paces = is.paces; groups = is.groups; alerts = is.alerts }

started_keeps : (b : Bool) (notice : Notice) (l : Local) → IsPlanned l → IsPlanned (started_if b notice l).local
started_keeps true notice l is = others_keep l (added notice l.plan.desk) l.plan.grouped.flushes l.noticed l.ledger is
started_keeps false notice l is = is

pub notified_keeps : (context : Context) (notice : Notice) (l : Local) → IsPlanned l → IsPlanned (notified context notice l).local
unfolding notified
notified_keeps context notice l is =
    let counted = asked context.limits.notices context.moment l.noticed in
    started_keeps (has_room (with_limit l.noticed context.limits.notices) context.moment) notice (record l { noticed = counted })
    (others_keep l l.plan.desk l.plan.grouped.flushes counted l.ledger is)

pub told_keeps : (context : Context) (telling : Telling) (l : Local) → IsPlanned l → IsPlanned (told context telling l).local
told_keeps context (Notify notice) l is = notified_keeps context notice l is
told_keeps context (Keep key span) l is = recorded_keeps context key [] [] span l is

settled_keeps : (context : Context) (o : Outcome) (l : Local) → IsPlanned l → IsPlanned (settled context o l).local
settled_keeps context NotOpen l is = is
settled_keeps context (Delivered notice) l is = recorded_keeps context notice.key notice.firing notice.resolved notice.span l is
settled_keeps context (Again due) l is = is
settled_keeps context GivenUp l is = is

pub outcome_keeps : (context : Context) (number tries : ℕ) (status : Option ℕ) (l : Local) → IsPlanned l → IsPlanned (outcome context number tries status l).local
unfolding outcome
outcome_keeps context number tries status l is =
    let desk = after_outcome number tries context.moment status l.plan.desk in
    settled_keeps context (outcome_of number tries context.moment status l.plan.desk.open_ones) (at_desk desk l)
    (others_keep l desk l.plan.grouped.flushes l.noticed l.ledger is)

pub retried_keeps : (context : Context) (number : ℕ) (l : Local) → IsPlanned l → IsPlanned (retried context number l).local
unfolding retried
retried_keeps context number l is = others_keep l (after_tick number context.moment l.plan.desk) l.plan.grouped.flushes l.noticed l.ledger is

-- ---- a flush and a tick

begun_keeps : (context : Context) (group : Name) (l : Local) → IsPlanned l → IsPlanned (begun context group l)
begun_keeps context group l is =
    others_keep l (without_keys (webhook_keys (configuration_in l.held) group) l.plan.desk) (flushed_at group context.moment l.plan.grouped) l.noticed l.ledger is

pub flushed_keeps : (context : Context) (muted : List (List Label)) (group : Name) (l : Local) → IsPlanned l → IsPlanned (flushed context muted group l).local
unfolding flushed
flushed_keeps context muted group l is =
    each_keeps IsPlanned (told context) (told_keeps context)
    (tellings (configuration_in l.held) group (sent_among l.held) (members_but muted group l) context.moment)
    (begun context group l) (begun_keeps context group l is)

flushed_if_keeps : (b : Bool) (context : Context) (muted : List (List Label)) (group : Name) (l : Local) → IsPlanned l → IsPlanned (flushed_if b context muted group l).local
flushed_if_keeps true context muted group l is = flushed_keeps context muted group l is
flushed_if_keeps false context muted group l is = is

pub handled_keeps : (context : Context) (muted : List (List Label)) (key : Key) (l : Local) → IsPlanned l → IsPlanned (handled context muted key l).local
unfolding handled
handled_keeps context muted (Operation number) l is = is
handled_keeps context muted (Group key) l is = flushed_if_keeps (is_due context.moment (flush_due l.plan.paces l.plan.grouped key)) context muted (group_in key) l is
handled_keeps context muted (Retry number) l is = retried_keeps context number l is
handled_keeps context muted (Push instance) l is = is

pub ticked_keeps : (tenant : List ℕ) (context : Context) (l : Local) → IsPlanned l → IsPlanned (ticked tenant context l).local
unfolding ticked
ticked_keeps tenant context l is =
    let left = retired context.moment l in
    each_keeps IsPlanned (handled context (muted_of context left)) (handled_keeps context (muted_of context left)) (due_keys tenant context.moment left.plan) left (retired_keeps context.moment l is)

-- ---- nothing

pub blank_planned : IsPlanned blank
unfolding IsStrictlySortedBy default_paces planned_alerts configuration_in
blank_planned = record { rising = tt; paces = refl; groups = refl; alerts = refl }

-- or nothing but what was counted
pub dropped_planned : (l : Local) → IsPlanned (dropped l)
dropped_planned l = others_keep blank (cleared l.plan.desk) [] (fresh 0) l.ledger blank_planned
