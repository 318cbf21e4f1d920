-- What is left of what an instance has, once what is retired is gone.
use Rattle.std.proofs.Common.{◌≡◌, ℕ, Bool, OnOk, Result, Ok, Err, List, [], ◌∷◌, filter, map, not, inl, inr, ap, refl, ◌∙◌}
use Rattle.std.proofs.lemmas.Bool.{cases_Bool}
use Rattle.am_book.specs.Retired.{is_key_retired}
use Rattle.am_cluster.specs.Local.{Local}
use Rattle.am_cluster.specs.Plans.{grouped_of}
use Rattle.am_cluster.specs.Retiring.{retired, sinces_left}
use Rattle.am_current.specs.Current.{configuration_in}
use Rattle.am_item.specs.Counts.{count_of}
use Rattle.am_item.specs.Key.{AlertKey}
use Rattle.am_labels.specs.declared.Label.{Label}
use Rattle.am_members.specs.Grouped.{living}
use Rattle.am_members.specs.declared.known.Known.{Known}
use Rattle.am_node.specs.Held.{local_of as local_in_node}
use Rattle.am_node.specs.Local.{Local as NodeLocal}
use Rattle.am_node.specs.Plans.{IsPlanned}
use Rattle.am_node.specs.Retiring.{alerts_left, retired as retired_in_node}
use Rattle.am_node.specs.declared.parts.Parts.{Parts}
use Rattle.am_planning.specs.Planning.{planned_alerts}
use Rattle.am_quorum.specs.Dockets.{Docket, docket_of}
use Rattle.am_replica.specs.Retiring.{items_left}
use Rattle.am_transfer.specs.Settling.{Settling}
use Rattle.am_transfer.specs.Tenants.{settling_of}
use Rattle.am_site.specs.Locals.{from_rooms, local_of}
use Rattle.am_site.specs.declared.site.Site.{Site}
use Rattle.am_site.proofs.Carrying.{with_node}

abbrev since_of : List Label × Known → List Label × ℕ
since_of a = (a.0, a.1.since)

left_since : (stays : List Label → Bool) (alerts : List (List Label × Known)) → map since_of (filter (λ a. stays a.0) alerts) ≡ filter (λ a. stays a.0) (map since_of alerts)
left_since stays [] = refl
left_since stays (a ∷ alerts) = elim (cases_Bool (stays a.0)) [
  | inl e ↦ rw e (ap (λ rest. since_of a ∷ rest) (left_since stays alerts))
  | inr e ↦ rw e (left_since stays alerts)
]

module _ (moment : ℕ) (node : NodeLocal) (d : Docket) (n : ℕ) (g : Settling) where
  abbrev alerts : List (List Label × Known)
  alerts = alerts_left moment node.held node.plan.grouped.alerts

  abbrev sinces : List (List Label × ℕ)
  sinces = sinces_left moment node.held (map since_of node.plan.grouped.alerts)

  abbrev with_sinces : List (List Label × ℕ) → List (List Label × Known) → Local
  with_sinces sinces alerts = record (from_rooms node d n g) {
    held = items_left moment node.held;
    sinces = sinces;
    flushes = living (record { alerts = alerts; flushes = node.plan.grouped.flushes });
  }

  retired_rooms : IsPlanned (retired_in_node moment node) → from_rooms (retired_in_node moment node) d n g ≡ retired moment (from_rooms node d n g)
  unfolding retired retired_in_node grouped_of
  retired_rooms planned =
      let same = left_since (λ labels. not (is_key_retired moment node.held (AlertKey labels))) node.plan.grouped.alerts in
      ap (with_sinces (map since_of alerts)) (planned.groups ∙ ap (planned_alerts (configuration_in (items_left moment node.held))) same)
      ∙ ap (λ sinces. with_sinces sinces (planned_alerts (configuration_in (items_left moment node.held)) (sinces_left moment node.held (map since_of node.plan.grouped.alerts)))) same

-- of all tenants
pub all_retired : (moment : ℕ) (old : Site) (node : Parts) → ((t : List ℕ) → local_in_node t node ≡ retired_in_node moment (local_in_node t old.node))
    → ((t : List ℕ) → IsPlanned (local_in_node t node)) → (t : List ℕ) → local_of t (with_node old node) ≡ retired moment (local_of t old)
unfolding local_of
all_retired moment old node is planned t =
    let d = docket_of t old.operations in
    let n = count_of t old.sent in
    let g = settling_of t old.settling.progress in
    ap (λ here. from_rooms here d n g) (is t) ∙ retired_rooms moment (local_in_node t old.node) d n g (rw (is t) at (planned t))

-- what two clauses say where a call succeeds
pub ok_both : {T E P Q S : Type 0} (r : Result T E) → (P → Q → S) → OnOk r P → OnOk r Q → OnOk r S
ok_both (Ok x) f p q = f p q
ok_both (Err e) f p q = tt
