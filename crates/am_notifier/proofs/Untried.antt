-- What a flush says finds no attempt of its key open.
use Rattle.std.proofs.Common.{◌≡◌, ℕ, ◌+◌, ◌<◌, Bool, true, false, not, ◌&&◌, cond, List, [], ◌∷◌, ◌++◌, Option, Some}
use Rattle.std.proofs.Common.{None, refl, sym, ap, ap₂, ◌∙◌, subst, inl, inr, arith}
use Rattle.std.specs.Cmp.{Equal-is}
use Rattle.std.specs.List.{AllByRecursion, cons_option, filter, filter_map, slice_get}
use Rattle.std.specs.Option.{option_map}
use Rattle.std.specs.Ordering.{is_eq}
use Rattle.std.proofs.lemmas.Bool.{cases_Bool}
use Rattle.std.proofs.lemmas.List.Elements.{filter-append, filter_map-append}
use Rattle.am_config.specs.Configuration.{Configuration, receiver_of, settings_at}
use Rattle.am_config.specs.declared.parts.Receiver.{Receiver}
use Rattle.am_config.specs.declared.parts.Settings.{Settings}
use Rattle.am_config.specs.declared.parts.Webhook.{Webhook}
use Rattle.am_group.specs.Notices.{Deed, Told, Kept, deed_for, deeds_from, entry_at, firing_at, has_news}
use Rattle.am_group.specs.Notices.{is_none_there, listed, resolved_at, sets_of}
use Rattle.am_item.proofs.Order.{entries_exact}
use Rattle.am_item.specs.EntryKey.{entry_cmp}
use Rattle.am_item.specs.declared.entry.EntryDetails.{EntryDetails}
use Rattle.am_item.specs.declared.entry.EntryKey.{EntryKey}
use Rattle.am_item.specs.declared.item.Alert.{Alert}
use Rattle.am_item.specs.declared.stamp.Stamped.{Stamped}
use Rattle.am_labels.specs.declared.Label.{Label}
use Rattle.am_limit.specs.Allowances.{asked}
use Rattle.am_limit.specs.Limits.{has_room, with_limit}
use Rattle.am_members.specs.declared.group.Group.{Group}
use Rattle.am_outlet.specs.Attempts.{Desk, added, has_key, without, without_key}
use Rattle.am_outlet.specs.declared.attempt.Attempt.{Attempt}
use Rattle.am_outlet.specs.declared.attempt.Notice.{Notice}
use Rattle.am_telling.specs.Tellings.{key_for, keys_by, keys_from, notice_for, telling_of, tellings, tellings_by}
use Rattle.am_telling.specs.Tellings.{webhook_keys}
use Rattle.am_telling.specs.declared.telling.Telling.{Telling}
use Rattle.am_telling.specs.declared.telling.Telling.TheVariants.{Notify, Keep}
use Rattle.am_context.specs.declared.context.Context.{Context}
use Rattle.am_notifier.specs.Delivery.{IsUntried, MayTell, notified, started_if, told}
use Rattle.am_notifier.specs.Flushing.{MayTellAll, begun, without_keys}
use Rattle.am_notifier.specs.Notifies.{Notifies}

-- ---- attempts that were dropped

module _ {X : Type 0} where
  twice : (p : X → Bool) (xs : List X) → filter p (filter p xs) ≡ filter p xs
  twice p [] = refl
  twice p (x ∷ xs) = elim (cases_Bool (p x)) [
    | inl is ↦ rw is (rw is (ap (λ rest. x ∷ rest) (twice p xs)))
    | inr not_so ↦ rw not_so (twice p xs)
  ]

  swapped : (p q : X → Bool) (xs : List X) → filter p (filter q xs) ≡ filter q (filter p xs)
  swapped p q [] = refl
  swapped p q (x ∷ xs) = elim (cases_Bool (p x)) [
    | inl is ↦ elim (cases_Bool (q x)) [
      | inl also ↦ rw (is, also) (rw is (ap (λ rest. x ∷ rest) (swapped p q xs)))
      | inr alone ↦ rw (is, alone) (swapped p q xs)
    ]
    | inr not_so ↦ elim (cases_Bool (q x)) [
      | inl also ↦ rw (not_so, also) (rw not_so (swapped p q xs))
      | inr alone ↦ rw (not_so, alone) (swapped p q xs)
    ]
  ]

-- no attempt of this key is open
abbrev Lacks : EntryKey → Desk → Type 0
Lacks key desk = without_key key desk.open_ones ≡ desk.open_ones

-- the test of an attempt that stays
abbrev other_than : EntryKey → ℕ × Attempt → Bool
other_than key p = not (has_key key p.1)

lacks_dropped : (key : EntryKey) (desk : Desk) → Lacks key (without key desk)
lacks_dropped key desk = twice (other_than key) desk.open_ones

lacks_still : (key another : EntryKey) (desk : Desk) → Lacks key desk → Lacks key (without another desk)
lacks_still key another desk lacks = swapped (other_than key) (other_than another) desk.open_ones ∙ ap (filter (other_than another)) lacks

lacks_after : (key : EntryKey) (keys : List EntryKey) (desk : Desk) → Lacks key desk → Lacks key (without_keys keys desk)
lacks_after key [] desk lacks = lacks
lacks_after key (another ∷ keys) desk lacks = lacks_after key keys (without another desk) (lacks_still key another desk lacks)

lacks_all : (keys : List EntryKey) (desk : Desk) → AllByRecursion (λ key. Lacks key (without_keys keys desk)) keys
lacks_all [] desk = tt
lacks_all (key ∷ keys) desk = (lacks_after key keys (without key desk) (lacks_dropped key desk), lacks_all keys (without key desk))

-- .. an attempt of another key doesn't change that
lacks_added : (key : EntryKey) (notice' : Notice) (desk : Desk) → is_eq (entry_cmp key notice'.key) ≡ false → Lacks key desk → Lacks key (added notice' desk)
lacks_added key notice' desk apart lacks =
    filter-append (other_than key) desk.open_ones _ ∙ ap₂ (λ xs ys. xs ++ ys) lacks (rw apart refl)

-- ---- tellings of several keys

-- two that tell of different keys; of those that are recorded at once nothing is asked
abbrev AreApart : Telling → Telling → Type 0
AreApart (Notify first) (Notify second) = is_eq (entry_cmp second.key first.key) ≡ false
AreApart (Notify first) (Keep key span) = Unit {0}
AreApart (Keep key span) second = Unit {0}

abbrev AllApart : List Telling → Type 0
AllApart [] = Unit {0}
AllApart (telling ∷ tellings') = AllByRecursion (AreApart telling) tellings' × AllApart tellings'

started_leaves : (b : Bool) (notice' : Notice) (key : EntryKey) (notifies : Notifies) → is_eq (entry_cmp key notice'.key) ≡ false → Lacks key notifies.plan.desk → Lacks key ((started_if b notice' notifies).notifies.plan.desk)
started_leaves true notice' key notifies apart lacks = lacks_added key notice' notifies.plan.desk apart lacks
started_leaves false notice' key notifies apart lacks = lacks

-- one that was told leaves the other to be told
may_after : (context : Context) (first second : Telling) (notifies : Notifies) → AreApart first second → MayTell second notifies → MayTell second ((told context first notifies).notifies)
unfolding notified
may_after context first (Keep key span) notifies apart may = tt
may_after context (Keep key span) (Notify second) notifies apart may = may
may_after context (Notify first) (Notify second) notifies apart may =
    started_leaves (has_room (with_limit notifies.noticed context.limits.notices) context.moment) first second.key (record notifies { noticed = asked context.limits.notices context.moment notifies.noticed }) apart may

all_after : (context : Context) (first : Telling) (others : List Telling) (notifies : Notifies) → AllByRecursion (AreApart first) others → AllByRecursion (λ t. MayTell t notifies) others
    → AllByRecursion (λ t. MayTell t ((told context first notifies).notifies)) others
all_after context first [] notifies apart may = tt
all_after context first (second ∷ others) notifies apart may = (may_after context first second notifies (apart.0) (may.0), all_after context first others notifies (apart.1) (may.1))

may_all : (context : Context) (all : List Telling) (notifies : Notifies) → AllApart all → AllByRecursion (λ t. MayTell t notifies) all → MayTellAll context all notifies
may_all context [] notifies apart may = tt
may_all context (first ∷ others) notifies apart may = (may.0, may_all context others ((told context first notifies).notifies) (apart.1) (all_after context first others notifies (apart.0) (may.1)))

-- ---- the tellings of a flush

-- under which key it is recorded
abbrev key_told : Telling → EntryKey
key_told (Notify notice') = notice'.key
key_told (Keep key span) = key

may_of : (key : EntryKey) (telling : Telling) (notifies : Notifies) → key_told telling ≡ key → IsUntried key notifies → MayTell telling notifies
may_of key (Notify notice') notifies is untried = subst (λ k. IsUntried k notifies) (sym is) untried
may_of key (Keep other span) notifies is untried = tt

-- of two webhooks, by their numbers
apart_by : (first second : Telling) → (key_told first).webhook < (key_told second).webhook → AreApart first second
apart_by (Keep key span) second lower = tt
apart_by (Notify first) (Keep key span) lower = tt
apart_by (Notify first) (Notify second) lower = elim (cases_Bool (is_eq (entry_cmp second.key first.key))) [
  | inl is ↦ absurd (unequal second.key first.key (entries_exact second.key first.key ((Equal-is (entry_cmp second.key first.key)).0 is)) lower)
  | inr other ↦ other
]
  where
    unequal : (a b : EntryKey) → a ≡ b → b.webhook < a.webhook → ⊥
    unequal a b same_one low = let number : a.webhook ≡ b.webhook = ap (λ (k : EntryKey). k.webhook) same_one in omega arith

-- what is done for one webhook: nothing, or one telling of its key
abbrev TellsOf : EntryKey → List Telling → Type 0
TellsOf key [] = Unit {0}
TellsOf key (telling ∷ []) = key_told telling ≡ key
TellsOf key (telling ∷ (another ∷ more)) = ⊥

joined_all : (P : Telling → Type 0) (key : EntryKey) (xs rest : List Telling) → TellsOf key xs → ((t : Telling) → key_told t ≡ key → P t) → AllByRecursion P rest → AllByRecursion P (xs ++ rest)
joined_all P key [] rest of holds all = all
joined_all P key (telling ∷ []) rest of holds all = (holds telling of, all)
joined_all P key (telling ∷ (another ∷ more)) rest of holds all = absurd of

each_apart : (telling : Telling) (key : EntryKey) (rest : List Telling) → key_told telling ≡ key → AllByRecursion (λ t. key.webhook < (key_told t).webhook) rest → AllByRecursion (AreApart telling) rest
each_apart telling key [] of above = tt
each_apart telling key (second ∷ rest) of above =
    (apart_by telling second (subst (λ (k : EntryKey). k.webhook < (key_told second).webhook) (sym of) (above.0)), each_apart telling key rest of (above.1))

joined_apart : (key : EntryKey) (xs rest : List Telling) → TellsOf key xs → AllByRecursion (λ t. key.webhook < (key_told t).webhook) rest → AllApart rest → AllApart (xs ++ rest)
joined_apart key [] rest of above all = all
joined_apart key (telling ∷ []) rest of above all = (each_apart telling key rest of above, all)
joined_apart key (telling ∷ (another ∷ more)) rest of above all = absurd of

-- the number of the webhook for which it is done
abbrev number_in : Deed → ℕ
number_in (Told number alerts firing resolved) = number
number_in (Kept number) = number

abbrev IsNumbered : ℕ → Option Deed → Type 0
IsNumbered number None = Unit {0}
IsNumbered number (Some deed) = number_in deed ≡ number

by_tests : (a b c d : Bool) (number : ℕ) (alerts others : List (Stamped Alert)) (firing resolved : List (List Label)) →
    IsNumbered number (cond a None (cond b None (cond c (Some (Kept number)) (Some (cond d (Told number alerts firing resolved) (Told number others firing []))))))
by_tests true b c d number alerts others firing resolved = tt
by_tests false true c d number alerts others firing resolved = tt
by_tests false false true d number alerts others firing resolved = refl
by_tests false false false true number alerts others firing resolved = refl
by_tests false false false false number alerts others firing resolved = refl

numbered : (number : ℕ) (webhook : Webhook) (entry : Option (Stamped EntryDetails)) (alerts : List (Stamped Alert)) (repeat moment : ℕ) → IsNumbered number (deed_for number webhook entry alerts repeat moment)
unfolding deed_for
numbered number webhook entry alerts repeat moment =
    let firing = firing_at moment alerts in
    let resolved = resolved_at moment alerts in
    by_tests (is_none_there alerts) (not (has_news entry firing resolved webhook.send_resolved repeat moment)) (is_none_there firing && not webhook.send_resolved) webhook.send_resolved
    number alerts firing (sets_of firing) (sets_of resolved)

module _ (receiver : Receiver) (group : Group) (settings : Settings) (moment : ℕ) where
  -- the key of the webhook of a number
  abbrev key_at : ℕ → EntryKey
  key_at number = key_for receiver.name group number

  abbrev telling_for : Deed → Option Telling
  telling_for deed = telling_of receiver group settings moment deed

  -- what is done for a webhook
  abbrev made : Option Deed → List Telling
  made o = filter_map telling_for (listed o)

  made_told : (number : ℕ) (found : Option Webhook) (tell : Webhook → Notice) → ((w : Webhook) → (tell w).key ≡ key_at number) → TellsOf (key_at number) (cons_option (option_map (λ w. Notify (tell w)) found) [])
  made_told number None tell has = tt
  made_told number (Some w) tell has = has w

  made_of : (number : ℕ) (o : Option Deed) → IsNumbered number o → TellsOf (key_at number) (made o)
  made_of number None of = tt
  made_of number (Some (Told other alerts firing resolved)) of =
      made_told number (slice_get receiver.webhooks other) (λ w. notice_for receiver.name group settings other w moment alerts firing resolved) (λ w. ap key_at of)
  made_of number (Some (Kept other)) of = ap key_at of

  module _ (name : List ℕ) (sent : List (EntryKey × Stamped EntryDetails)) (alerts : List (Stamped Alert)) (repeat : ℕ) where
    -- the deeds from a number on, and what they are told as
    abbrev deeds : ℕ → List Webhook → List Deed
    deeds number webhooks = deeds_from number receiver.name name webhooks sent alerts repeat moment

    abbrev told_from : ℕ → List Webhook → List Telling
    told_from number webhooks = filter_map telling_for (deeds number webhooks)

    abbrev deed_of : ℕ → Webhook → Option Deed
    deed_of number webhook = deed_for number webhook (entry_at receiver.name name number sent) alerts repeat moment

    parted : (number : ℕ) (webhook : Webhook) (webhooks : List Webhook) → told_from number (webhook ∷ webhooks) ≡ made (deed_of number webhook) ++ told_from (number + 1) webhooks
    unfolding deeds_from
    parted number webhook webhooks = filter_map-append telling_for (listed (deed_of number webhook)) (deeds (number + 1) webhooks)

    one_made : (number : ℕ) (webhook : Webhook) → TellsOf (key_at number) (made (deed_of number webhook))
    one_made number webhook = made_of number (deed_of number webhook) (numbered number webhook (entry_at receiver.name name number sent) alerts repeat moment)

    numbers_above : (low number : ℕ) (webhooks : List Webhook) → low < number → AllByRecursion (λ t. low < (key_told t).webhook) (told_from number webhooks)
    unfolding deeds_from
    numbers_above low number [] lower = tt
    numbers_above low number (webhook ∷ webhooks) lower =
        subst (AllByRecursion (λ t. low < (key_told t).webhook)) (sym (parted number webhook webhooks))
        (joined_all (λ t. low < (key_told t).webhook) (key_at number) (made (deed_of number webhook)) (told_from (number + 1) webhooks) (one_made number webhook)
        (λ t of. subst (λ (k : EntryKey). low < k.webhook) (sym of) lower) (numbers_above low (number + 1) webhooks (omega arith)))

    all_apart : (number : ℕ) (webhooks : List Webhook) → AllApart (told_from number webhooks)
    unfolding deeds_from
    all_apart number [] = tt
    all_apart number (webhook ∷ webhooks) =
        subst AllApart (sym (parted number webhook webhooks))
        (joined_apart (key_at number) (made (deed_of number webhook)) (told_from (number + 1) webhooks) (one_made number webhook)
        (numbers_above number (number + 1) webhooks (omega arith)) (all_apart (number + 1) webhooks))

    all_may : (notifies : Notifies) (number : ℕ) (webhooks : List Webhook) → AllByRecursion (λ key. IsUntried key notifies) (keys_from receiver.name group number webhooks)
        → AllByRecursion (λ t. MayTell t notifies) (told_from number webhooks)
    unfolding deeds_from
    all_may notifies number [] untried = tt
    all_may notifies number (webhook ∷ webhooks) untried =
        subst (AllByRecursion (λ t. MayTell t notifies)) (sym (parted number webhook webhooks))
        (joined_all (λ t. MayTell t notifies) (key_at number) (made (deed_of number webhook)) (told_from (number + 1) webhooks) (one_made number webhook)
        (λ t of. may_of (key_at number) t notifies of (untried.0)) (all_may notifies (number + 1) webhooks (untried.1)))

by_parts : (context : Context) (group : Group) (sent : List (EntryKey × Stamped EntryDetails)) (alerts : List (Stamped Alert)) (receiver : Option Receiver) (settings : Option Settings) (moment : ℕ) (notifies : Notifies)
    → AllByRecursion (λ key. IsUntried key notifies) (keys_by group receiver) → MayTellAll context (tellings_by receiver settings group sent alerts moment) notifies
by_parts context group sent alerts None settings moment notifies untried = tt
by_parts context group sent alerts (Some receiver) None moment notifies untried = tt
by_parts context group sent alerts (Some receiver) (Some settings) moment notifies untried =
    may_all context _ notifies (all_apart receiver group settings moment _ sent alerts settings.repeat_interval 0 receiver.webhooks)
    (all_may receiver group settings moment _ sent alerts settings.repeat_interval notifies 0 receiver.webhooks untried)

-- what is told of a group once its flush has begun
pub may_be_told : (context : Context) (c : Configuration) (group : Group) (sent : List (EntryKey × Stamped EntryDetails)) (alerts : List (Stamped Alert)) (notifies : Notifies)
    → MayTellAll context (tellings c group sent alerts context.moment) (begun context.moment c group notifies)
unfolding tellings webhook_keys
may_be_told context c group sent alerts notifies =
    by_parts context group sent alerts (receiver_of c group.route) (settings_at c group.route) context.moment (begun context.moment c group notifies)
    (lacks_all (keys_by group (receiver_of c group.route)) notifies.plan.desk)
