-- What is planned of all tenants, as alerts of one come one after the other.
use Rattle.std.proofs.Common.{◌≡◌, ◌∙◌, ◌++◌, ◌∷◌, [], ℕ, false, List, Option, Some, None, refl, sym, ap, subst}
use Rattle.std.proofs.Common.{if◌then◌else◌}
use Rattle.std.specs.Map.{lookup}
use Rattle.std.specs.Option.{is_some}
use Rattle.std.proofs.lemmas.Bool.{false≢true}
use Rattle.am_agenda.specs.Plan.{Plan, with_alerts}
use Rattle.am_labels.specs.declared.Label.{Label}
use Rattle.am_members.specs.declared.known.Known.{Known}
use Rattle.am_members.specs.Names.{is_set}
use Rattle.am_tenant.specs.Names.{same}
use Rattle.am_notifier.specs.Following.{all_sooner, is_known}
use Rattle.am_context.proofs.Changes.{one_changes, other, own}
use Rattle.am_notifier.proofs.Coming.{Alerts, known_still, ordered_sooner, sooner_more, unknown_stays}
use Rattle.am_notifier.proofs.Puts.{IsOrdered}

-- the plan once alerts of these label sets came
abbrev came_to : ℕ → List (List Label) → Plan → Plan
came_to m sets plan = with_alerts (all_sooner m sets plan.grouped.alerts) plan

-- .. and one more
pub met_more : (s : List ℕ) (m : ℕ) (ys zs : List (List Label)) (l : List Label) (first mid last : List ℕ → Plan) → zs ≡ ys ++ l ∷ [] →
    ((t : List ℕ) → mid t ≡ (if same t s then came_to m ys (first t) else first t)) →
    ((t : List ℕ) → last t ≡ (if same t s then came_to m (l ∷ []) (mid t) else mid t)) →
    (t : List ℕ) → last t ≡ (if same t s then came_to m zs (first t) else first t)
met_more s m ys zs l first mid last more before one = one_changes s (came_to m zs) first last
    (own s _ _ _ (one s) ∙ ap (came_to m (l ∷ [])) (own s _ _ _ (before s))
    ∙ ap (λ (xs : Alerts). with_alerts xs (first s)) (sooner_more m ys l (first s).grouped.alerts)
    ∙ ap (λ sets. came_to m sets (first s)) (sym more))
    (λ t apart. other t s _ _ _ apart (one t) ∙ other t s _ _ _ apart (before t))

-- whether an alert is known is as it was
pub known_then : (s : List ℕ) (m : ℕ) (ys : List (List Label)) (l : List Label) (first mid : List ℕ → Plan) →
    ((t : List ℕ) → mid t ≡ (if same t s then came_to m ys (first t) else first t)) →
    is_known l (mid s).grouped.alerts ≡ is_known l (first s).grouped.alerts
known_then s m ys l first mid before =
    ap (λ (p : Plan). is_known l p.grouped.alerts) (own s _ _ _ (before s)) ∙ known_still m ys l (first s).grouped.alerts

-- their order too
pub ordered_then : (s : List ℕ) (m : ℕ) (ys : List (List Label)) (first mid : List ℕ → Plan) → ((t : List ℕ) → mid t ≡ (if same t s then came_to m ys (first t) else first t)) →
    IsOrdered (first s).grouped.alerts → IsOrdered (mid s).grouped.alerts
ordered_then s m ys first mid before up =
    subst (λ (p : Plan). IsOrdered p.grouped.alerts) (sym (own s _ _ _ (before s))) (ordered_sooner m ys (first s).grouped.alerts up)

-- one that isn't known changes nothing
pub unknown_met : (s : List ℕ) (m : ℕ) (l : List Label) (mid : List ℕ → Plan) → IsOrdered (mid s).grouped.alerts → is_known l (mid s).grouped.alerts ≡ false →
    (t : List ℕ) → mid t ≡ (if same t s then came_to m (l ∷ []) (mid t) else mid t)
unknown_met s m l mid up unknown =
    one_changes s (came_to m (l ∷ [])) mid mid
    (ap (λ (xs : Alerts). with_alerts xs (mid s)) (unknown_stays m l (mid s).grouped.alerts up (none_found (lookup (is_set l) (mid s).grouped.alerts) unknown)))
    (λ t apart. refl)
  where
    none_found : (o : Option Known) → is_some o ≡ false → o ≡ None
    none_found None h = refl
    none_found (Some k) h = absurd (false≢true (sym h))
