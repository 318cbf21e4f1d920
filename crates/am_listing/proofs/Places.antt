-- Alerts that are chosen, by what mutes the one at each place.
use Rattle.std.proofs.Common.{◌≡◌, ℕ, suc, ◌+◌, ◌<◌, List, [], ◌∷◌, Bool, length, map, filter, get_or, refl, sym, ap, ◌∙◌, inl, inr, arith}
use Rattle.std.specs.List.{enumerate_from}
use Rattle.std.proofs.lemmas.Bool.{cases_Bool}
use Rattle.std.proofs.lemmas.List.{length-map}
use Rattle.am_labels.specs.declared.Label.{Label}
use Rattle.am_item.specs.declared.item.Alert.{Alert}
use Rattle.am_item.specs.declared.stamp.Stamped.{Stamped}
use Rattle.am_alert.specs.declared.held.HeldAlert.{HeldAlert}
use Rattle.am_alert.specs.HeldAlert.{held_alert}
use Rattle.am_muting.specs.Muting.{Muting}

-- lists of which the same can be made have one length
pub same_length : {X Y Z : Type 0} (f : X → Z) (g : Y → Z) (xs : List X) (ys : List Y) → map f xs ≡ map g ys → length xs ≡ length ys
same_length f g xs ys same = sym (length-map xs f) ∙ ap length same ∙ length-map ys g

-- ---- those that are chosen

-- of alerts from a place on those that a test of places chooses, with what mutes them there
abbrev pub rows : (ℕ → Bool) → (ℕ → Muting) → ℕ → List HeldAlert → List (Stamped Alert × Muting)
rows test muting n alerts = map (λ (place, alert). (held_alert alert, muting place)) (filter (λ (place, alert). test place) (enumerate_from n alerts))

-- where the test and what mutes are those of the label sets
pub chosen_are : (passes : List Label → Bool) (mutes : List Label → Muting) (test : ℕ → Bool) (muting : ℕ → Muting) (n : ℕ) (alerts : List HeldAlert) →
    ((k : ℕ) → k < length alerts → test (n + k) ≡ passes (get_or (map (λ (a : HeldAlert). a.labels.now) alerts) k [])) →
    ((k : ℕ) → k < length alerts → muting (n + k) ≡ mutes (get_or (map (λ (a : HeldAlert). a.labels.now) alerts) k [])) →
    rows test muting n alerts
    ≡ map (λ (a : Stamped Alert). (a, mutes a.value.labels)) (filter (λ (a : Stamped Alert). passes a.value.labels) (map held_alert alerts))
chosen_are passes mutes test muting n [] tests mutings = refl
chosen_are passes mutes test muting n (alert ∷ alerts) tests mutings =
    let here : n ≡ n + 0 = omega arith in
    let first : test n ≡ passes alert.labels.now = ap test here ∙ tests 0 (omega arith) in
    let own : muting n ≡ mutes alert.labels.now = ap muting here ∙ mutings 0 (omega arith) in
    let later = chosen_are passes mutes test muting (n + 1) alerts
    (λ k below. (let moved : n + 1 + k ≡ n + suc k = omega arith in ap test moved ∙ tests (suc k) (omega (arith, below))))
    (λ k below. (let moved : n + 1 + k ≡ n + suc k = omega arith in ap muting moved ∙ mutings (suc k) (omega (arith, below)))) in
    elim (cases_Bool (passes alert.labels.now)) [
      | inl on ↦ rw (first, on, own) (ap (λ rest. (held_alert alert, mutes alert.labels.now) ∷ rest) later)
      | inr off ↦ rw (first, off) later
    ]
