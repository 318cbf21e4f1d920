-- What is retired goes from all rooms.
use Rattle.std.proofs.Common.{◌≡◌, ℕ, not, List, ap}
use Rattle.std.proofs.lemmas.List.Elements.{filter_agree}
use Rattle.am_notifier.specs.Planned.{with_alerts, with_living}
use Rattle.am_book.specs.Retired.{is_key_retired}
use Rattle.am_context.specs.Gone.{is_gone}
use Rattle.am_item.specs.Key.{AlertKey, Key}
use Rattle.am_labels.specs.declared.Label.{Label}
use Rattle.am_members.proofs.Grouping.{Alerts}
use Rattle.am_members.specs.declared.known.Known.{Known}
use Rattle.am_notifier.specs.Forgetting.{forgotten}
use Rattle.am_notifier.specs.Notifies.{Notifies, with_plan}
use Rattle.am_replica.specs.Holds.{Holds}
use Rattle.am_replica.specs.Retiring.{retired as retired_there}
use Rattle.am_node.specs.Held.{from_rooms}
use Rattle.am_node.specs.Retiring.{retired}

-- what went from what is held is forgotten of what is planned
pub rooms_retired : (moment : ℕ) (t : List ℕ) (gone : List (List ℕ × Key)) (h : Holds) (n : Notifies) (drawn : ℕ)
    → ((key : Key) → is_gone t key gone ≡ is_key_retired moment h.held key)
    → from_rooms (retired_there moment h) (forgotten t gone n) drawn ≡ retired moment (from_rooms h n drawn)
unfolding retired
rooms_retired moment t gone h n drawn went =
    ap (λ (alerts : Alerts). from_rooms (retired_there moment h) (with_plan (with_living (with_alerts alerts n.plan)) n) drawn)
    (filter_agree (λ (a : List Label × Known). not (is_gone t (AlertKey a.0) gone)) (λ (a : List Label × Known). not (is_key_retired moment h.held (AlertKey a.0)))
    (λ a. ap not (went (AlertKey a.0))) n.plan.grouped.alerts)
