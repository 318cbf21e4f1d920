-- A list of alerts that is gone through from its end.
use Rattle.std.proofs.Common.{◌≡◌, Bool, true, false, not, cond, ◌||◌, List, [], ◌∷◌, ◌++◌, map, reverse, refl, ap, ap₂, ◌∙◌, append_assoc}
use Rattle.std.specs.Cmp.{eq_by_cmp_equiv}
use Rattle.std.specs.Ordering.{is_eq}
use Rattle.std.proofs.lemmas.List.{reverse-append}
use Rattle.am_labels.specs.declared.Label.{Label}
use Rattle.am_labels.specs.Labels.{labels_cmp, labels_total}
use Rattle.am_item.specs.declared.item.Alert.{Alert}
use Rattle.am_alert.specs.Made.{chosen, is_posted, last_of_each, lasts_among}

-- the alert before the others comes to them
pub regrouped : (whole old front later : List Alert) (alert : Alert) → whole ≡ old ++ later → old ≡ front ++ alert ∷ [] → whole ≡ front ++ alert ∷ later
regrouped whole old front later alert before split = before ∙ ap (λ xs. xs ++ later) split ∙ append_assoc front (alert ∷ []) later

or_cond : (b c : Bool) → cond b true c ≡ b || c
or_cond true c = refl
or_cond false c = refl

-- keys that were told apart so far, and the key of one alert more
pub key_more : (labels key : List Label) (old new : Bool) (alert : Alert) (later : List Alert) → labels ≡ alert.labels → old ≡ is_posted key later → new ≡ cond (is_eq (labels_cmp labels key)) true old → new ≡ is_posted key (alert ∷ later)
key_more labels key old new alert later same before now =
    let turned : is_eq (labels_cmp labels key) ≡ is_eq (labels_cmp key alert.labels) = (eq_by_cmp_equiv labels_total).symm labels key ∙ ap (λ l. is_eq (labels_cmp key l)) same in
    now ∙ or_cond (is_eq (labels_cmp labels key)) old ∙ ap (λ b. b || old) turned ∙ ap (λ c. is_eq (labels_cmp key alert.labels) || c) before

-- whether the alert before the others is the last of its label set
pub last_more : (lasts : List Bool) (later : List Alert) (alert : Alert) (added : Bool) → reverse lasts ≡ lasts_among later → added ≡ not (is_posted alert.labels later)
    → reverse (lasts ++ added ∷ []) ≡ lasts_among (alert ∷ later)
last_more lasts later alert added e new = reverse-append lasts (added ∷ []) ∙ ap₂ (λ choice choices. choice ∷ choices) new e

by_choice : (b : Bool) (alert : Alert) (pairs : List (Alert × Bool)) (all : List Alert) → map (λ pair. pair.0) pairs ≡ all
    → map (λ pair. pair.0) (cond (not b) ((alert, not b) ∷ pairs) pairs) ≡ cond b all (alert ∷ all)
by_choice true alert pairs all e = e
by_choice false alert pairs all e = ap (λ alerts. alert ∷ alerts) e

-- those that are the last of their label set
pub chosen_lasts : (alerts : List Alert) → chosen (lasts_among alerts) alerts ≡ last_of_each alerts
unfolding last_of_each
chosen_lasts [] = refl
chosen_lasts (alert ∷ later) = by_choice (is_posted alert.labels later) alert _ _ (chosen_lasts later)
