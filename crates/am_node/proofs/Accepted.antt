-- What is planned goes by what is held, also once items are accepted.
use Rattle.std.proofs.Common.{◌≡◌, ◌⊎◌, inl, inr, ℕ, ◌<◌, length, Bool, List, [], ◌∷◌, Option, true, false}
use Rattle.std.proofs.Common.{not, refl, sym, ap, ◌∙◌, subst, unwrap_or, arith}
use Rattle.std.proofs.lemmas.Bool.{cases_Bool}
use Rattle.std.specs.List.{list_any}
use Rattle.std.specs.List.Sorted.{IsStrictlySortedBy}
use Rattle.std.specs.Map.{keys_of}
use Rattle.am_config.specs.Configuration.{Configuration}
use Rattle.am_current.specs.Current.{configuration_in}
use Rattle.am_current.specs.Replacing.{replaces}
use Rattle.am_current.proofs.Stays.{configuration_stays}
use Rattle.am_item.specs.Best.{all_joined, item_at}
use Rattle.am_item.specs.declared.fault.Fault.TheVariants.{PatternNotBuilt}
use Rattle.am_item.specs.declared.item.Item.{Item}
use Rattle.am_item.specs.declared.key.ThingKey.TheVariants.{Configuration as ConfigurationKey}
use Rattle.am_labels.specs.declared.Label.{Label}
use Rattle.am_labels.specs.Labels.{labels_cmp}
use Rattle.am_match.specs.Matchers.{patterns_of}
use Rattle.am_muting.specs.Failing.{HasUnanswered}
use Rattle.am_muting.specs.Muting.{alert_sets}
use Rattle.am_notifier.specs.Planned.{planned_alerts}
use Rattle.am_members.specs.declared.known.Known.{Known}
use Rattle.am_route.specs.Asked.{route_matchers}
use Rattle.am_notifier.specs.Following.{IsPlannedBy, all_came, follows, is_known, paces_at, positioned as positioned_there, sinces_in}
use Rattle.am_notifier.specs.Following.{unknown_of}
use Rattle.am_node.specs.Accepting.{StopsAccepting, accepted, brings_alert, brings_configuration, counted, positioned}
use Rattle.am_node.specs.Local.{Local}
use Rattle.am_node.specs.Plans.{IsPlanned}
use Rattle.am_node.proofs.AlertSets.{all_rise, keys_came, sets_rise}
use Rattle.am_notifier.proofs.ByRoutes.{keys_planned, sinces_planned}
use Rattle.am_notifier.proofs.Coming.{keys_since}
use Rattle.am_node.proofs.Locals.{rooms}
use Rattle.am_node.specs.Held.{from_rooms, holds_in, notifies_in}
use Rattle.am_notifier.specs.Notifies.{Notifies}
use Rattle.am_replica.specs.Holds.{Holds, accepted as held_then, counted as counted_there}

-- ---- the laws

-- what is planned goes by what is held once items are accepted ..
pub planned_accepted : (moment : ℕ) (items : List Item) (local : Local) → IsPlanned local → IsPlanned (accepted moment items local)
unfolding accepted
planned_accepted moment items local planned =
    let c = configuration_in (all_joined local.held items) in
    let came = all_came moment (alert_sets items) (sinces_in local.plan) in
    record {
      rising = all_rise local.held items planned.rising;
      paces = refl;
      groups = ap (planned_alerts c) (sym (sinces_planned c came));
      alerts = keys_planned c came ∙ keys_came moment local.held items (sinces_in local.plan) planned.rising (keys_since local.plan.grouped.alerts ∙ planned.alerts);
    }

-- .. and once it has another position
pub planned_positioned : (position : Option ℕ) (local : Local) → IsPlanned local → IsPlanned (positioned position local)
planned_positioned position local planned =
    let c = configuration_in local.held in
    let sinces = sinces_in local.plan in
    record {
      rising = planned.rising;
      paces = refl;
      groups = ap (planned_alerts c) (sym (sinces_planned c sinces));
      alerts = keys_planned c sinces ∙ keys_since local.plan.grouped.alerts ∙ planned.alerts;
    }

-- .. and where something is counted
pub planned_counted : (more : ℕ) (drawn : Option ℕ) (local : Local) → IsPlanned local → IsPlanned (counted more drawn local)
planned_counted more drawn local planned = record { rising = planned.rising; paces = planned.paces; groups = planned.groups; alerts = planned.alerts }

-- ---- how it is done

-- alerts are planned in the order of their label sets
pub plan_rises : (local : Local) → IsPlanned local → IsStrictlySortedBy labels_cmp (keys_of local.plan.grouped.alerts)
plan_rises local planned = subst (IsStrictlySortedBy labels_cmp) (sym planned.alerts) (sets_rise local.held planned.rising)

-- where no newer configuration comes, it goes by the one that is in use then
pub still_by : (items : List Item) (local : Local) → IsPlanned local → list_any (replaces (item_at ConfigurationKey local.held)) items ≡ false
    → IsPlannedBy (configuration_in (all_joined local.held items)) local.position local.plan
still_by items local planned none =
    let stays : configuration_in local.held ≡ configuration_in (all_joined local.held items) = sym (configuration_stays local.held items planned.rising none) in
    record {
      paces = planned.paces ∙ ap (λ c. paces_at c local.position) stays;
      groups = planned.groups ∙ ap (λ c. planned_alerts c (sinces_in local.plan)) stays;
    }

-- what the tenant has then, room by room
pub parts_accepted : (moment : ℕ) (items : List Item) (h : Holds) (sets : List (List Label)) (c : Configuration) (n : Notifies) (local : Local)
    → h ≡ held_then items (holds_in local) → c ≡ configuration_in h.held → sets ≡ alert_sets items → n ≡ follows c moment sets (notifies_in local)
    → from_rooms h n local.ledger.drawn ≡ accepted moment items local
unfolding accepted
parts_accepted moment items h sets c n local held by are planned =
    let used : c ≡ configuration_in (all_joined local.held items) = by ∙ ap (λ (x : Holds). configuration_in x.held) held in
    rooms h (held_then items (holds_in local)) n (follows (configuration_in (all_joined local.held items)) moment (alert_sets items) (notifies_in local)) local.ledger.drawn held
    (planned ∙ ap (λ k. follows k moment sets (notifies_in local)) used ∙ ap (λ ss. follows (configuration_in (all_joined local.held items)) moment ss (notifies_in local)) are)

-- what the tenant has once it has another position
pub parts_positioned : (position : Option ℕ) (c : Configuration) (h : Holds) (n : Notifies) (local : Local) → h ≡ holds_in local → c ≡ configuration_in local.held
    → n ≡ positioned_there c position (notifies_in local) → from_rooms h n local.ledger.drawn ≡ positioned position local
parts_positioned position c h n local held used planned = rw (held, planned, used) refl

-- what the tenant has once something was counted
pub parts_counted : (more : ℕ) (drawn : Option ℕ) (local : Local) (h : Holds) (d : ℕ) → h ≡ counted_there more (holds_in local) → d ≡ unwrap_or drawn local.ledger.drawn
    → from_rooms h (notifies_in local) d ≡ counted more drawn local
parts_counted more drawn local h d counts positioned = rw (counts, positioned) refl

-- and of another tenant nothing changed
pub parts_stay : (local : Local) (h : Holds) (d : ℕ) → h ≡ holds_in local → d ≡ local.ledger.drawn → from_rooms h (notifies_in local) d ≡ local
parts_stay local h d counts positioned = rw (counts, positioned) refl

-- what stops it

more_unknown : (labels : List Label) (sets : List (List Label)) (alerts : List (List Label × Known)) (moment : ℕ) → (is_known labels alerts ≡ true) ⊎ (is_known labels alerts ≡ false) →
    (0 < length (unknown_of moment sets alerts) → list_any (λ labels. not (is_known labels alerts)) sets ≡ true) →
    0 < length (unknown_of moment (labels ∷ sets) alerts) → list_any (λ labels. not (is_known labels alerts)) (labels ∷ sets) ≡ true
unfolding unknown_of
more_unknown labels sets alerts moment (inl known) rest some = rw known (rest (rw known at some))
more_unknown labels sets alerts moment (inr fresh) rest some = rw fresh refl

-- an alert that isn't known is of a label set of which none is
some_unknown : (sets : List (List Label)) (alerts : List (List Label × Known)) (moment : ℕ) → 0 < length (unknown_of moment sets alerts) →
    list_any (λ labels. not (is_known labels alerts)) sets ≡ true
unfolding unknown_of
some_unknown [] alerts moment some = absurd (omega (arith, some))
some_unknown (labels ∷ sets) alerts moment some =
    more_unknown labels sets alerts moment (cases_Bool (is_known labels alerts)) (λ rest. some_unknown sets alerts moment rest) some

pub stops : (refused : List (List ℕ)) (moment : ℕ) (items h : List Item) (c : Configuration) (local : Local) (came : List (List Label)) (is_new : Bool) →
    h ≡ all_joined local.held items → c ≡ configuration_in h → came ≡ alert_sets items → is_new ≡ brings_configuration items local →
    ((0 < length (unknown_of moment came local.plan.grouped.alerts)) ⊎ ((is_new ≡ true) × (0 < length local.plan.grouped.alerts))) × HasUnanswered refused (patterns_of (route_matchers c.routes)) →
    StopsAccepting refused items local PatternNotBuilt
stops refused moment items h c local came is_new held by sets replaced (why, none) =
    (reason why, subst (λ (k : Configuration). HasUnanswered refused (patterns_of (route_matchers k.routes))) (by ∙ ap configuration_in held) none)
  where
    reason : (0 < length (unknown_of moment came local.plan.grouped.alerts)) ⊎ ((is_new ≡ true) × (0 < length local.plan.grouped.alerts)) →
        (brings_alert items local ≡ true) ⊎ ((brings_configuration items local ≡ true) × (0 < length local.plan.grouped.alerts))
    reason (inl some) = inl (some_unknown (alert_sets items) local.plan.grouped.alerts moment (rw sets at some))
    reason (inr (new, some)) = inr (sym replaced ∙ new, some)
